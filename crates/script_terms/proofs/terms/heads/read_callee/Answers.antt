use Rattle.std.proofs.Common.{ap}
use Rattle.smt_lex.specs.Forest.{token_at}
use Rattle.smt_lex.specs.Forms.{node}
use Rattle.script_terms.specs.Heads.{callee_of}
use Rattle.script_terms.specs.HeadClauses.{world_of}
use Rattle.script_terms.specs.Places.{form_from, forms_from}
use Rattle.script_terms.proofs.HeadsCalled.{callee_moved}
use Rattle.script_terms.proofs.terms.heads.read_callee.Goals as goal

pub returns-in-Some-clause-callee : goal.returns-in-Some-clause-callee
returns-in-Some-clause-callee c supply live bound shows locals =
    let ts = c.args.forest.now.tokens in
    callee_moved ts (world_of c.list_callee.new.table supply c.args.scope.now) (callee_of bound (form_from ts c.args.i) live) (callee_of bound (node (token_at ts c.args.i).start (forms_from ts c.in-Some.first)) live) c.list_callee.result
    (ap (λ f. callee_of bound f live) c.in-Some.ensures.0)
    (c.list_callee.ensures.callee supply live bound shows locals)

pub returns-in-None-clause-callee : goal.returns-in-None-clause-callee
returns-in-None-clause-callee c supply live bound shows locals = c.token_callee.ensures c.args.table.now supply live bound shows locals
