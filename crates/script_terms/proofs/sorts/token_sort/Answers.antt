use Rattle.std.proofs.Common.{◌≡◌, Option, Some, ap, sym, ◌∙◌, subst}
use Rattle.smt_lex.specs.Names.{Name}
use Rattle.smt_values.specs.SortIds.{sort_at}
use Rattle.script_terms.specs.Known.{sorts_known}
use Rattle.script_terms.specs.Parts.{place_of, symbol_in}
use Rattle.script_terms.specs.Places.{form_from}
use Rattle.script_terms.specs.Replies.{Agrees}
use Rattle.script_terms.specs.SortForms.{sort_of_symbol}
use Rattle.script_terms.proofs.sorts.token_sort.Goals as goal

pub returns-clause-sort : goal.returns-clause-sort
returns-clause-sort c t =
    let live = sorts_known t c.args.scope.now in
    let f = form_from c.args.forest.now.tokens c.args.i in
    let symbol : symbol_in f ≡ Some c.name.result.now = c.is_symbol.ensures.yes c.if-not-is_symbol.false ∙ sym (ap Some c.name.ensures) in
    let same : sort_of_symbol live (place_of f) (symbol_in f) ≡ sort_of_symbol live c.place_of-place.result (Some c.name.result.now) =
    ap (λ (o : Option Name). sort_of_symbol live (place_of f) o) symbol ∙ sym (ap (λ n. sort_of_symbol live n (Some c.name.result.now)) c.place_of-place.ensures.place) in
    subst (λ r. Agrees r (sort_at t.sorts) c.named_sort.result) (sym same) (c.named_sort.ensures.sort t)
