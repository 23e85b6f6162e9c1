use Rattle.std.proofs.Common.{◌<◌, length, Result, Err, sym, ap, ◌∙◌, subst, arith}
use Rattle.std.proofs.lemmas.Result.{err_from_is_err_and}
use Rattle.smt_terms.specs.declared.ids.NodeId.{NodeId}
use Rattle.smt_terms.specs.Rank.{shape}
use Rattle.smt_terms.specs.Written.{over_all}
use Rattle.sort_check.specs.declared.fault.MakeFault.{MakeFault}
use Rattle.sort_check.specs.Making.{Builds}
use Rattle.sort_check.proofs.Answering.{refused_builds, made_builds, is_ok}
use Rattle.sort_check.proofs.Growing.{extends-refl}
use Rattle.sort_check.proofs.Passing.{make_builds}
use Rattle.sort_check.proofs.Theory.{theory_numbers, several_theory, twice_rank, itself, over_rank, over_term}
use Rattle.sort_check.proofs.operators.over_all.Goals as goal

pub make-requires-clause-numbers : goal.make-requires-clause-numbers
make-requires-clause-numbers c = theory_numbers c.args.table.now c.args.op (several_theory (shape c.args.op) c.requires.apt)

pub returns-then-kids-ne1 : goal.returns-then-kids-ne1
returns-then-kids-ne1 c =
    make_builds c.args.table.now c.make.new.table (over_all c.args.op) c.args.kids.now c.make.result _ (over_rank c.args.table.now c.args.op c.args.kids.now c.requires.apt c.if-kids-ne1.true)
    c.make.ensures.rank c.make.ensures.node c.make.ensures.grows c.make.ensures.symbols c.make.ensures.sorts c.make.ensures.err c.args.op
    (λ _. over_term c.args.table.now c.args.op c.args.kids.now c.requires.apt c.if-kids-ne1.true) c.make.ensures.term

pub rank-requires-clause-numbers : goal.rank-requires-clause-numbers
rank-requires-clause-numbers c = theory_numbers c.args.table.now c.args.op (several_theory (shape c.args.op) c.requires.apt)

pub returns-in_err-rank : goal.returns-in_err-rank
returns-in_err-rank c =
    let p = err_from_is_err_and c.from_residual.result c.from_residual.ensures.1 in
    let t = c.args.table.now in
    subst (λ (r : Result NodeId MakeFault). Builds t t (over_all c.args.op) c.args.kids.now r) (sym (p.1 ∙ ap Err p.2))
    (refused_builds t (over_all c.args.op) c.args.kids.now _ (sym (twice_rank t c.args.op c.args.kids.now _ c.requires.apt c.if-kids-ne1.false) ∙ sym c.in_err-rank.ensures.rank) c.in_err-rank.ensures.sorts)

pub returns : goal.returns
returns c =
    let t = c.args.table.now in
    let one = c.if-kids-ne1.false in
    let within : 0 < length c.args.kids.now = omega (arith, one) in
    made_builds t t (over_all c.args.op) c.args.kids.now _ (is_ok (sym (twice_rank t c.args.op c.args.kids.now _ c.requires.apt one) ∙ sym c.in_ok-rank.ensures.rank))
    (c.requires.kids 0 _ within) (itself t c.args.op c.args.kids.now _ one) (extends-refl t)
