use Rattle.std.proofs.Common.{◌≡◌, true, Some, ap, sym, ◌∙◌, subst}
use Rattle.std.specs.Prelude.{codes, bytes_eq}
use Rattle.smt_values.specs.SortIds.{sort_at}
use Rattle.script_terms.specs.Parts.{numeral_in}
use Rattle.script_terms.specs.Places.{form_from, forms_from}
use Rattle.script_terms.specs.Replies.{Agrees}
use Rattle.script_terms.specs.SortForms.{vectors_of, indexed_sort}
use Rattle.script_terms.proofs.SortReading.{capped-width, indexed-sort}
use Rattle.script_terms.proofs.sorts.indexed_sort.Goals as goal

pub returns-clause-sort : goal.returns-clause-sort
returns-clause-sort c ss =
    let ts = c.args.forest.now.tokens in
    let word : bytes_eq c.name.result.now (codes "BitVec") ≡ true = ap (bytes_eq c.name.result.now) (sym c.as_slice.ensures) ∙ sym c.eq.ensures ∙ c.if-eq.true in
    let same : indexed_sort c.args.place (forms_from ts c.args.i) ≡ vectors_of c.args.place c.numeral_at.result =
    indexed-sort c.args.place (forms_from ts c.args.i) (form_from ts c.in-Two.name) (form_from ts c.in-Two.width) c.name.result.now c.in-Two.ensures.forms
    (c.is_symbol.ensures.yes c.if-is_symbol.true ∙ sym (ap Some c.name.ensures)) word
    ∙ sym (ap (vectors_of c.args.place) c.numeral_at.ensures ∙ capped-width c.args.place (numeral_in (form_from ts c.in-Two.width))) in
    subst (λ r. Agrees r (sort_at ss) c.vector_sort.result) (sym same) (c.vector_sort.ensures.sort ss)
