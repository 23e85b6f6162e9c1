use Rattle.std.proofs.lemmas.Result.{err_from_is_err_and}
use Rattle.smt_lex.specs.Forest.{token_at}
use Rattle.script_terms.specs.Heads.{vector_constant}
use Rattle.script_terms.specs.Parts.{index_word}
use Rattle.script_terms.specs.Places.{forms_from}
use Rattle.script_terms.proofs.Running.{opens_so, vector_is}
use Rattle.script_terms.proofs.Stepped.{alone_steps, alone_refused}
use Rattle.script_terms.proofs.terms.term_reader.TermReader.open_list.Goals as goal

pub returns-in_err-node-in-Index-clause-steps : goal.returns-in_err-node-in-Index-clause-steps
returns-in_err-node-in-Index-clause-steps c r going =
    let p = err_from_is_err_and c.from_residual.result c.from_residual.ensures.1 in
    rw (p.1, p.2)
    (alone_refused c.args.forest.now.tokens c.args.table.now c.args.sofar.now c.args.self.now c.args.list r going
    (vector_constant (token_at c.args.forest.now.tokens c.args.list).start (forms_from c.args.forest.now.tokens c.after.result))
    (vector_is c.args.forest.now.tokens c.args.table.now c.args.sofar.now c.args.self.now c.args.list r going c.args.first
    (opens_so c.args.forest.now.tokens c.args.list c.args.first c.requires.inside (c.begins.ensures.yes c.if-not-begins.false) index_word c.in-Index.ensures)
    c.after.result c.after.ensures.behind)
    c.read_vector.new.table _ (c.in_err-node-in-Index.ensures.term c.args.sofar.now.fresh))

pub returns-in_ok-node-in-Index-clause-steps : goal.returns-in_ok-node-in-Index-clause-steps
returns-in_ok-node-in-Index-clause-steps c r going =
    alone_steps c.args.forest.now.tokens c.args.table.now c.args.sofar.now c.args.self.now c.args.list r going
    (vector_constant (token_at c.args.forest.now.tokens c.args.list).start (forms_from c.args.forest.now.tokens c.after.result))
    (vector_is c.args.forest.now.tokens c.args.table.now c.args.sofar.now c.args.self.now c.args.list r going c.args.first
    (opens_so c.args.forest.now.tokens c.args.list c.args.first c.requires.inside (c.begins.ensures.yes c.if-not-begins.false) index_word c.in-Index.ensures)
    c.after.result c.after.ensures.behind)
    c.read_vector.new.table c.in_ok-node-in-Index.ensures.grows c.in_ok-node-in-Index.node
    (c.in_ok-node-in-Index.ensures.term c.args.sofar.now.fresh)
    c.after-in-Index.result c.after-in-Index.ensures.behind
