use Rattle.smt_print.proofs.DagTurns.{close-scopes}
use Rattle.smt_print.proofs.dag.close.Goals as goal

pub returns-clause-scopes : goal.returns-clause-scopes
returns-clause-scopes c =
    let (root, steps, done, whole, leads) = c.requires.closable in
    close-scopes c.args.table.now root c.args.scopes.now c.args.id steps done whole c.leave.new.self.current c.leave.new.self.outer c.leave.ensures leads c.define.new.self c.requires.scopes
    c.in_ok-define.ensures.current c.in_ok-define.ensures.outer
