use Rattle.std.proofs.Common.{◌++◌}
use Rattle.smt_print.specs.declared.dag.Step.TheVariants.{Visit, Define, Close}
use Rattle.smt_print.proofs.DagTurns.{step-is, define-leads, define-scopes}
use Rattle.smt_print.proofs.dag.take_step.Goals as goal

pub close-requires-clause-closable : goal.close-requires-clause-closable
close-requires-clause-closable c =
    let (root, done, whole, leads) = c.requires.standing in
    (root, c.args.steps.now, done, whole, step-is c.args.table.now root c.args.scopes.now c.args.step (Close c.in-Close.id) c.args.steps.now done whole c.in-Close.is leads)

pub returns-in_ok-visit-in-Visit-clause-leads : goal.returns-in_ok-visit-in-Visit-clause-leads
returns-in_ok-visit-in-Visit-clause-leads c root done whole leads =
    c.in_ok-visit-in-Visit.ensures.leads root done whole
    (step-is c.args.table.now root c.args.scopes.now c.args.step (Visit c.in-Visit.id) c.args.steps.now (done ++ c.args.text.now) whole c.in-Visit.is leads)

pub returns-in_ok-define-in-Define-clause-leads : goal.returns-in_ok-define-in-Define-clause-leads
returns-in_ok-define-in-Define-clause-leads c root done whole leads =
    define-leads c.args.table.now root c.args.scopes.now c.define.new.scopes c.in-Define.id c.args.steps.now c.args.text.now c.define.new.text done whole
    c.in_ok-define-in-Define.ensures.text c.in_ok-define-in-Define.ensures.current c.in_ok-define-in-Define.ensures.outer
    (step-is c.args.table.now root c.args.scopes.now c.args.step (Define c.in-Define.id) c.args.steps.now (done ++ c.args.text.now) whole c.in-Define.is leads)

pub returns-in_ok-define-in-Define-clause-scopes : goal.returns-in_ok-define-in-Define-clause-scopes
returns-in_ok-define-in-Define-clause-scopes c =
    let (root, done, whole, leads) = c.requires.standing in
    define-scopes c.args.table.now c.args.scopes.now c.define.new.scopes c.in-Define.id c.requires.scopes
    (step-is c.args.table.now root c.args.scopes.now c.args.step (Define c.in-Define.id) c.args.steps.now done whole c.in-Define.is leads).0
    c.in_ok-define-in-Define.ensures.current c.in_ok-define-in-Define.ensures.outer

pub returns-in_ok-close-in-Close-clause-leads : goal.returns-in_ok-close-in-Close-clause-leads
returns-in_ok-close-in-Close-clause-leads c root done whole leads =
    c.in_ok-close-in-Close.ensures.leads root c.args.steps.now done whole
    (step-is c.args.table.now root c.args.scopes.now c.args.step (Close c.in-Close.id) c.args.steps.now (done ++ c.args.text.now) whole c.in-Close.is leads)
