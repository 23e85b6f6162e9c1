use Rattle.std.proofs.Common.{◌-◌, length, drop, Some, IsOk, ap, sym, ◌∙◌, subst}
use Rattle.term_table.specs.Formulas.{trees_at, term_over, rank_over}
use Rattle.rule_book.specs.Filling.{remade}
use Rattle.rule_book.proofs.Fillings.{theory-operator, theory-numbers, theory-ranked, theory-remade, last-sort, last-term, last-slice}
use Rattle.rule_book.proofs.filling.over_results.Goals as goal

pub make-requires-clause-numbers : goal.make-requires-clause-numbers
make-requires-clause-numbers c = theory-numbers c.args.table.now c.args.op (theory-operator c.args.op c.requires.theory)

pub make-requires-clause-ranked : goal.make-requires-clause-ranked
make-requires-clause-ranked c =
    let t = c.args.table.now in
    let o = c.args.op in
    let rs = c.args.results.now.items in
    let kids = last-slice rs c.as_slice.result.now c.len.result c.args.n c.as_slice.ensures.value c.len.ensures.value in
    subst (λ (ks : _). IsOk (rank_over t o (trees_at t ks))) (sym kids)
    (theory-ranked t o (theory-operator o c.requires.theory) (trees_at t (drop (length rs - c.args.n) rs)) (last-sort t c.args.n rs o c.requires.sort))

pub returns-clause-term : goal.returns-clause-term
returns-clause-term c =
    let t = c.args.table.now in
    let o = c.args.op in
    let rs = c.args.results.now.items in
    let kids = last-slice rs c.as_slice.result.now c.len.result c.args.n c.as_slice.ensures.value c.len.ensures.value in
    last-term t c.args.n rs o c.requires.sort
    ∙ ap (λ u. Some u)
    (theory-remade t o (theory-operator o c.requires.theory) (trees_at t (drop (length rs - c.args.n) rs))
    ∙ ap (λ ks. remade (term_over t o (trees_at t ks))) (sym kids)
    ∙ sym c.in_ok-id.ensures.term)
