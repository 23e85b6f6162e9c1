use Rattle.std.proofs.lemmas.Result.{err_from_is_err_and}
use Rattle.smt_lex.specs.Forest.{token_at}
use Rattle.script_terms.specs.Heads.{atom_term}
use Rattle.script_terms.proofs.Stepped.{alone_steps, alone_refused, token_is}
use Rattle.script_terms.proofs.terms.term_reader.TermReader.open_token.Goals as goal

pub returns-clause-steps : goal.returns-clause-steps
returns-clause-steps c r going =
    alone_steps c.args.forest.now.tokens c.args.table.now c.args.sofar.now c.args.self.now c.args.i r going
    (atom_term going.context.locals (token_at c.args.forest.now.tokens c.args.i) going.live)
    (token_is c.args.forest.now.tokens c.args.table.now c.args.sofar.now c.args.self.now c.args.i r going c.requires.token)
    c.read_atom.new.table c.in_ok-node.ensures.grows c.in_ok-node.node
    (c.in_ok-node.ensures.term c.args.sofar.now.fresh going.live going.context.locals going.known going.stands.shown)
    c.after.result c.after.ensures.behind

pub returns-in_err-node-clause-steps : goal.returns-in_err-node-clause-steps
returns-in_err-node-clause-steps c r going =
    let p = err_from_is_err_and c.from_residual.result c.from_residual.ensures.1 in
    rw (p.1, p.2)
    (alone_refused c.args.forest.now.tokens c.args.table.now c.args.sofar.now c.args.self.now c.args.i r going
    (atom_term going.context.locals (token_at c.args.forest.now.tokens c.args.i) going.live)
    (token_is c.args.forest.now.tokens c.args.table.now c.args.sofar.now c.args.self.now c.args.i r going c.requires.token)
    c.read_atom.new.table _
    (c.in_err-node.ensures.term c.args.sofar.now.fresh going.live going.context.locals going.known going.stands.shown))
