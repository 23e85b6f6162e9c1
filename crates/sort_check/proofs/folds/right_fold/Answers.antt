use Rattle.std.proofs.Common.{Result, Err, sym, ap, ◌∙◌, subst}
use Rattle.std.proofs.lemmas.Result.{err_from_is_err_and}
use Rattle.smt_terms.specs.declared.ids.NodeId.{NodeId}
use Rattle.smt_terms.specs.Written.{right_associative}
use Rattle.sort_check.specs.declared.fault.MakeFault.{MakeFault}
use Rattle.sort_check.specs.Making.{Builds}
use Rattle.sort_check.proofs.Answering.{refused_builds, memory_builds, made_builds, right_ranked, right_refused}
use Rattle.sort_check.proofs.Folding.{right_built}
use Rattle.sort_check.proofs.folds.right_fold.Goals as goal

pub returns-in_err-alike : goal.returns-in_err-alike
returns-in_err-alike c =
    let p = err_from_is_err_and c.from_residual.result c.from_residual.ensures.1 in
    let t = c.args.table.now in
    subst (λ (r : Result NodeId MakeFault). Builds t t (right_associative c.args.op) c.args.kids.now r) (sym (p.1 ∙ ap Err p.2))
    (refused_builds t (right_associative c.args.op) c.args.kids.now _ (right_refused c.args.op _ _ c.in_err-alike.ensures.fault) c.in_err-alike.ensures.sorts)

pub returns-in_err-all : goal.returns-in_err-all
returns-in_err-all c =
    let p = err_from_is_err_and c.from_residual-in_err-all.result c.from_residual-in_err-all.ensures.1 in
    let t = c.args.table.now in
    subst (λ (r : Result NodeId MakeFault). Builds t c.from_right.new.table (right_associative c.args.op) c.args.kids.now r) (sym (p.1 ∙ ap Err p.2))
    (memory_builds t c.from_right.new.table (right_associative c.args.op) c.args.kids.now
    (right_ranked t c.args.op c.args.kids.now c.requires.apt c.in_ok-alike.ensures.fault c.in_ok-alike.ensures.takes) c.from_right.ensures.extends)

pub returns : goal.returns
returns c =
    made_builds c.args.table.now c.from_right.new.table (right_associative c.args.op) c.args.kids.now c.in_ok-all.all
    (right_ranked c.args.table.now c.args.op c.args.kids.now c.requires.apt c.in_ok-alike.ensures.fault c.in_ok-alike.ensures.takes) c.in_ok-all.ensures.node
    (c.in_ok-all.ensures.term ∙ right_built c.args.op _) c.in_ok-all.ensures.extends
