use Rattle.std.proofs.Common.{◌<◌, length, refl, Result, Err, sym, ap, ◌∙◌, subst, arith}
use Rattle.std.proofs.lemmas.Result.{err_from_is_err_and}
use Rattle.smt_terms.specs.declared.ids.NodeId.{NodeId}
use Rattle.smt_terms.specs.Written.{divisibility, apply_to_both}
use Rattle.term_table.specs.declared.fault.RankFault.TheVariants.{BadIndex}
use Rattle.sort_check.specs.declared.fault.MakeFault.{MakeFault}
use Rattle.sort_check.specs.Making.{term_algebra, Builds}
use Rattle.sort_check.proofs.Answering.{refused_builds, memory_builds, made_builds}
use Rattle.smt_terms.specs.declared.op.Op.TheVariants.{Neg, Mod, Equal}
use Rattle.smt_terms.specs.Sorts.{int}
use Rattle.sort_check.specs.Operands.{IsOfSort}
use Rattle.sort_check.proofs.Growing.{extends-trans, tree-extends, sorted-extends}
use Rattle.sort_check.proofs.Nodes.{negated}
use Rattle.sort_check.proofs.Repeating.{divisibility_refused, divisible_zero, divisible_ok, whole_of_sort, remainder_ranked, remainder_of_sort, equation_ranked, divides_built}
use Rattle.sort_check.proofs.operators.divisibility.Goals as goal

pub returns-in_err-rank : goal.returns-in_err-rank
returns-in_err-rank c =
    let p = err_from_is_err_and c.from_residual.result c.from_residual.ensures.1 in
    let t = c.args.table.now in
    subst (λ (r : Result NodeId MakeFault). Builds t t (divisibility c.args.n) c.args.kids.now r) (sym (p.1 ∙ ap Err p.2))
    (refused_builds t (divisibility c.args.n) c.args.kids.now _ (divisibility_refused t c.args.n c.args.kids.now _ c.in_err-rank.ensures.rank) c.in_err-rank.ensures.sorts)

pub returns-then-n-eq0 : goal.returns-then-n-eq0
returns-then-n-eq0 c =
    let t = c.args.table.now in
    refused_builds t (divisibility c.args.n) c.args.kids.now BadIndex (divisible_zero t c.args.n c.args.kids.now _ c.in_ok-rank.ensures.rank c.if-n-eq0.true) tt

pub returns-in_err-divisor : goal.returns-in_err-divisor
returns-in_err-divisor c =
    let p = err_from_is_err_and c.from_residual-in_err-divisor.result c.from_residual-in_err-divisor.ensures.1 in
    let t = c.args.table.now in
    subst (λ (r : Result NodeId MakeFault). Builds t c.whole.new.table (divisibility c.args.n) c.args.kids.now r) (sym (p.1 ∙ ap Err p.2))
    (memory_builds t c.whole.new.table (divisibility c.args.n) c.args.kids.now (divisible_ok t c.args.n c.args.kids.now _ c.in_ok-rank.ensures.rank (omega arith)) c.whole.ensures.extends)

pub bounds-kids-0 : goal.bounds-kids-0
bounds-kids-0 c =
    let t = c.args.table.now in
    let one = negated t Neg c.args.kids.now _ refl c.in_ok-rank.ensures.rank in
    let within : 0 < length c.args.kids.now = one.0 in
    omega arith

pub pair-requires-clause-ranked : goal.pair-requires-clause-ranked
pair-requires-clause-ranked c =
    let t = c.args.table.now in
    let one = negated t Neg c.args.kids.now _ refl c.in_ok-rank.ensures.rank in
    let kid : IsOfSort t _ int = record { node = c.requires.kids 0 _ one.0; sort = one.1 _ } in
    let kid_then = sorted-extends t c.whole.new.table c.whole.ensures.extends _ int kid in
    let divisor = whole_of_sort c.whole.new.table c.in_ok-divisor.divisor c.args.n c.requires.number c.in_ok-divisor.ensures.node c.in_ok-divisor.ensures.term in
    remainder_ranked c.whole.new.table _ c.in_ok-divisor.divisor kid_then divisor

pub returns-in_err-rest : goal.returns-in_err-rest
returns-in_err-rest c =
    let p = err_from_is_err_and c.from_residual-in_err-rest.result c.from_residual-in_err-rest.ensures.1 in
    let t = c.args.table.now in
    subst (λ (r : Result NodeId MakeFault). Builds t c.pair.new.table (divisibility c.args.n) c.args.kids.now r) (sym (p.1 ∙ ap Err p.2))
    (memory_builds t c.pair.new.table (divisibility c.args.n) c.args.kids.now (divisible_ok t c.args.n c.args.kids.now _ c.in_ok-rank.ensures.rank (omega arith)) (extends-trans t c.whole.new.table c.pair.new.table c.whole.ensures.extends c.pair.ensures.extends))

pub returns-in_err-zero : goal.returns-in_err-zero
returns-in_err-zero c =
    let p = err_from_is_err_and c.from_residual-in_err-zero.result c.from_residual-in_err-zero.ensures.1 in
    let t = c.args.table.now in
    subst (λ (r : Result NodeId MakeFault). Builds t c.whole-2.new.table (divisibility c.args.n) c.args.kids.now r) (sym (p.1 ∙ ap Err p.2))
    (memory_builds t c.whole-2.new.table (divisibility c.args.n) c.args.kids.now (divisible_ok t c.args.n c.args.kids.now _ c.in_ok-rank.ensures.rank (omega arith)) (extends-trans t c.pair.new.table c.whole-2.new.table (extends-trans t c.whole.new.table c.pair.new.table c.whole.ensures.extends c.pair.ensures.extends) c.whole-2.ensures.extends))

pub pair-requires-2-clause-ranked : goal.pair-requires-2-clause-ranked
pair-requires-2-clause-ranked c =
    let t = c.args.table.now in
    let one = negated t Neg c.args.kids.now _ refl c.in_ok-rank.ensures.rank in
    let kid : IsOfSort t _ int = record { node = c.requires.kids 0 _ one.0; sort = one.1 _ } in
    let kid_then = sorted-extends t c.whole.new.table c.whole.ensures.extends _ int kid in
    let divisor = whole_of_sort c.whole.new.table c.in_ok-divisor.divisor c.args.n c.requires.number c.in_ok-divisor.ensures.node c.in_ok-divisor.ensures.term in
    let rest = remainder_of_sort c.whole.new.table c.pair.new.table _ c.in_ok-divisor.divisor c.in_ok-rest.rest kid_then divisor c.in_ok-rest.ensures.node c.in_ok-rest.ensures.term in
    let rest_then = sorted-extends c.pair.new.table c.whole-2.new.table c.whole-2.ensures.extends c.in_ok-rest.rest int rest in
    let zeroed = whole_of_sort c.whole-2.new.table c.in_ok-zero.zero 0 (omega arith) c.in_ok-zero.ensures.node c.in_ok-zero.ensures.term in
    equation_ranked c.whole-2.new.table c.in_ok-rest.rest c.in_ok-zero.zero rest_then zeroed

pub returns-in_err-node : goal.returns-in_err-node
returns-in_err-node c =
    let p = err_from_is_err_and c.from_residual-in_err-node.result c.from_residual-in_err-node.ensures.1 in
    let t = c.args.table.now in
    subst (λ (r : Result NodeId MakeFault). Builds t c.pair-2.new.table (divisibility c.args.n) c.args.kids.now r) (sym (p.1 ∙ ap Err p.2))
    (memory_builds t c.pair-2.new.table (divisibility c.args.n) c.args.kids.now (divisible_ok t c.args.n c.args.kids.now _ c.in_ok-rank.ensures.rank (omega arith)) (extends-trans t c.whole-2.new.table c.pair-2.new.table (extends-trans t c.pair.new.table c.whole-2.new.table (extends-trans t c.whole.new.table c.pair.new.table c.whole.ensures.extends c.pair.ensures.extends) c.whole-2.ensures.extends) c.pair-2.ensures.extends))

pub returns : goal.returns
returns c =
    let t = c.args.table.now in
    let one = negated t Neg c.args.kids.now _ refl c.in_ok-rank.ensures.rank in
    let kid : IsOfSort t _ int = record { node = c.requires.kids 0 _ one.0; sort = one.1 _ } in
    let kid_then = sorted-extends t c.whole.new.table c.whole.ensures.extends _ int kid in
    let divisor = whole_of_sort c.whole.new.table c.in_ok-divisor.divisor c.args.n c.requires.number c.in_ok-divisor.ensures.node c.in_ok-divisor.ensures.term in
    let rest = remainder_of_sort c.whole.new.table c.pair.new.table _ c.in_ok-divisor.divisor c.in_ok-rest.rest kid_then divisor c.in_ok-rest.ensures.node c.in_ok-rest.ensures.term in
    let rest_then = sorted-extends c.pair.new.table c.whole-2.new.table c.whole-2.ensures.extends c.in_ok-rest.rest int rest in
    let zeroed = whole_of_sort c.whole-2.new.table c.in_ok-zero.zero 0 (omega arith) c.in_ok-zero.ensures.node c.in_ok-zero.ensures.term in
    let kid_tree = tree-extends t c.whole.new.table c.whole.ensures.extends _ kid.node in
    let rest_tree = tree-extends c.pair.new.table c.whole-2.new.table c.whole-2.ensures.extends c.in_ok-rest.rest c.in_ok-rest.ensures.node in
    let remainder = rest_tree ∙ c.in_ok-rest.ensures.term ∙ (λ i. apply_to_both term_algebra Mod (kid_tree i) (c.in_ok-divisor.ensures.term i)) in
    made_builds t c.pair-2.new.table (divisibility c.args.n) c.args.kids.now c.in_ok-node.node (divisible_ok t c.args.n c.args.kids.now _ c.in_ok-rank.ensures.rank (omega arith)) c.in_ok-node.ensures.node
    (c.in_ok-node.ensures.term ∙ (λ i. apply_to_both term_algebra Equal (remainder i) (c.in_ok-zero.ensures.term i)) ∙ divides_built t c.args.n c.args.kids.now _ (one.2 _)) (extends-trans t c.whole-2.new.table c.pair-2.new.table (extends-trans t c.pair.new.table c.whole-2.new.table (extends-trans t c.whole.new.table c.pair.new.table c.whole.ensures.extends c.pair.ensures.extends) c.whole-2.ensures.extends) c.pair-2.ensures.extends)
