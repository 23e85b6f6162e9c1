use Rattle.std.proofs.Common.{◌≡◌, List, Option, Some, None, MatchResult, sym, subst, ap, ◌∙◌}
use Rattle.std.proofs.lemmas.List.{take_rest}
use Rattle.smt_terms.specs.declared.ids.NodeId.{NodeId}
use Rattle.std.proofs.lemmas.Result.{MatchResult-weaker, err_from_is_err_and}
use Rattle.std.proofs.lemmas.List.Elements.{All-drop}
use Rattle.smt_terms.specs.Rank.{Fault}
use Rattle.smt_values.specs.SortIds.{sort_at}
use Rattle.term_table.specs.Faults.{fault_seen}
use Rattle.term_table.specs.Formulas.{IsNode, AreNodes}
use Rattle.term_table.specs.ShapeRank.{kid_sorts}
use Rattle.sort_check.specs.Operands.{unlike}
use Rattle.term_table.proofs.Ranks.{sort-narrow}
use Rattle.sort_check.proofs.Pairs.{pair_numbers, pair_refused, pair_is}
use Rattle.sort_check.proofs.alike.alike.Goals as goal

pub rank-requires-clause-numbers : goal.rank-requires-clause-numbers
rank-requires-clause-numbers c = pair_numbers c.args.table.now c.args.op c.requires.pair

pub returns-in_err-rank-clause-fault : goal.returns-in_err-rank-clause-fault
returns-in_err-rank-clause-fault c =
    let t = c.args.table.now in
    let narrow = sort-narrow t.sorts c.sort_of-want.ensures.table.sorts c.sort_of-want.result c.sort_of-want.ensures.within in
    let fault = pair_refused t c.args.op c.requires.pair c.sort_of-want.ensures.table c.args.kids.now _ _ _ c.if-kids-lt2.false narrow c.sort_of-want.ensures.sort c.in_err-rank.ensures.rank in
    let p = err_from_is_err_and c.from_residual.result c.from_residual.ensures.1 in
    rw (p.1, p.2) fault

pub unlike_behind-requires-clause-kids : goal.unlike_behind-requires-clause-kids
unlike_behind-requires-clause-kids c =
    subst (λ (ks : List NodeId). AreNodes c.args.table.now ks) (sym (take_rest c.args.kids.now 2)) (All-drop (λ k. IsNode c.args.table.now k) 2 c.args.kids.now c.requires.kids)

pub returns-clause-fault : goal.returns-clause-fault
returns-clause-fault c =
    let t = c.args.table.now in
    let narrow = sort-narrow t.sorts c.sort_of-want.ensures.table.sorts c.sort_of-want.result c.sort_of-want.ensures.within in
    let known = pair_is t c.args.op c.requires.pair c.sort_of-want.ensures.table c.args.kids.now (sort_at t.sorts c.sort_of-want.result) _ _ c.if-kids-lt2.false c.requires.kids narrow c.sort_of-want.ensures.sort c.in_ok-rank.ensures.rank in
    let behind = ap (λ (ks : List NodeId). unlike (sort_at t.sorts c.sort_of-want.result) 2 (kid_sorts t ks)) (take_rest c.args.kids.now 2) in
    subst (λ (m : Option Fault). MatchResult c.unlike_behind.result (λ _. m ≡ None) (λ e. m ≡ Some (fault_seen t.sorts e))) (behind ∙ sym known.fault) c.unlike_behind.ensures.fault

pub returns-clause-takes : goal.returns-clause-takes
returns-clause-takes c =
    let t = c.args.table.now in
    let narrow = sort-narrow t.sorts c.sort_of-want.ensures.table.sorts c.sort_of-want.result c.sort_of-want.ensures.within in
    let known = pair_is t c.args.op c.requires.pair c.sort_of-want.ensures.table c.args.kids.now (sort_at t.sorts c.sort_of-want.result) _ _ c.if-kids-lt2.false c.requires.kids narrow c.sort_of-want.ensures.sort c.in_ok-rank.ensures.rank in
    let behind = ap (λ (ks : List NodeId). unlike (sort_at t.sorts c.sort_of-want.result) 2 (kid_sorts t ks)) (take_rest c.args.kids.now 2) in
    MatchResult-weaker c.unlike_behind.result c.unlike_behind.ensures.fault (λ _ none. known.takes (sym behind ∙ none)) (λ _ _. tt)
