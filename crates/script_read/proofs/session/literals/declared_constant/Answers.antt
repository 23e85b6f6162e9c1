use Rattle.std.proofs.Common.{ap, sym, ◌∙◌}
use Rattle.smt_lex.specs.Lex.{name_of}
use Rattle.smt_lex.specs.Forest.{token_at}
use Rattle.script_terms.specs.Known.{find}
use Rattle.script_read.specs.LiteralClauses.{constant_of_entry}
use Rattle.script_read.specs.Script.{declared_constant}
use Rattle.script_read.proofs.LiteralNodes.{undeclared, declared, constant_known}
use Rattle.script_read.proofs.session.literals.declared_constant.Goals as goal

pub boolean_node-requires : goal.boolean_node-requires
boolean_node-requires c = (
  c.requires.known.0,
  constant_known c.args.table.now c.requires.known.0 c.args.scope.now c.requires.known.1 c.requires.known.2 c.name.result.now c.in-Some.constant (sym c.constant_named.ensures ∙ c.in-Some.is),
)

pub returns-in-Some-clause-constant : goal.returns-in-Some-clause-constant
returns-in-Some-clause-constant c = λ supply live shows.
    c.boolean_node.ensures.constant
    ∙ sym (ap (declared_constant live) (c.is_symbol.ensures.yes c.if-not-is_symbol.false) ∙ declared c.args.table.now supply c.args.scope.now live shows (name_of (token_at c.args.forest.now.tokens c.args.i)) c.in-Some.constant (ap (λ n. constant_of_entry (find c.args.scope.now.terms n)) (sym c.name.ensures) ∙ sym c.constant_named.ensures ∙ c.in-Some.is))

pub returns-in-None-clause-constant : goal.returns-in-None-clause-constant
returns-in-None-clause-constant c = λ supply live shows.
    sym (ap (declared_constant live) (c.is_symbol.ensures.yes c.if-not-is_symbol.false) ∙ undeclared c.args.table.now supply c.args.scope.now live shows (name_of (token_at c.args.forest.now.tokens c.args.i)) (ap (λ n. constant_of_entry (find c.args.scope.now.terms n)) (sym c.name.ensures) ∙ sym c.constant_named.ensures ∙ c.in-None.is))
