use Rattle.smt_print.proofs.HeadTexts.{binds}
use Rattle.smt_print.proofs.heads.binding.Goals as goal

pub returns-in_ok-body-in-Forall-clause-some : goal.returns-in_ok-body-in-Forall-clause-some
returns-in_ok-body-in-Forall-clause-some c =
    binds c.args.table.now c.op.result c.args.id c.kids.result.now c.in_ok-body-in-Forall.variables.now c.in_ok-body-in-Forall.body.now c.requires c.in-Forall.is c.op.ensures.term
    c.kids.ensures.terms c.kids.ensures.below c.in_ok-body-in-Forall.ensures.cases.0
