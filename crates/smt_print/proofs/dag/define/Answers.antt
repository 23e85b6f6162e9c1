use Rattle.std.proofs.Common.{◌++◌, length, arith}
use Rattle.term_table.specs.Formulas.{tree}
use Rattle.smt_print.specs.DagSteps.{definitions_at, let_opening}
use Rattle.smt_print.specs.NodeForms.{opening}
use Rattle.smt_print.proofs.DagNodes.{kid-known, reference-more, references-all, let-ended}
use Rattle.smt_print.proofs.dag.define.Goals as goal

pub push_reference-requires-clause-known : goal.push_reference-requires-clause-known
push_reference-requires-clause-known c =
    kid-known c.args.table.now (tree c.args.table.now c.args.id) c.kids-kid-items.result.now (definitions_at c.args.table.now c.args.scopes.now.current) c.loop-kid.kid-index (record { 0 = 0 })
    c.kids-kid-items.ensures.terms c.requires.definable.known c.loop-kid-test.true

pub loop-kid-preserved : goal.loop-kid-preserved
loop-kid-preserved c =
    reference-more c.args.table.now c.kids-kid-items.result.now (definitions_at c.args.table.now c.args.scopes.now.current) c.args.text.now c.loop-kid.text c.push.new.self c.push_reference.new.text
    (let_opening (length c.args.scopes.now.current) ++ opening (tree c.args.table.now c.args.id)) c.loop-kid.kid-index (record { 0 = 0 }) c.loop-kid-test.true c.loop-kid.invariant c.in_ok-push.ensures c.in_ok-push_reference.ensures

pub returns-clause-text : goal.returns-clause-text
returns-clause-text c =
    let past = c.loop-kid-test.false in
    let ds = definitions_at c.args.table.now c.args.scopes.now.current in
    let front = let_opening (length c.args.scopes.now.current) ++ opening (tree c.args.table.now c.args.id) in
    let-ended c.args.text.now c.loop-kid.text c.push_short.new.self (length c.args.scopes.now.current) (tree c.args.table.now c.args.id) ds c.requires.definable.applied c.requires.definable.some
    (references-all c.args.table.now (tree c.args.table.now c.args.id) c.kids-kid-items.result.now ds c.loop-kid.text c.args.text.now front c.loop-kid.kid-index c.kids-kid-items.ensures.terms (omega arith) c.loop-kid.invariant)
    c.in_ok-push_short.ensures
