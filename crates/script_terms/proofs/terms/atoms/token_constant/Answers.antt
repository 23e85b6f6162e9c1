use Rattle.std.proofs.Common.{sym, ◌∙◌, subst}
use Rattle.smt_lex.specs.Forest.{token_at}
use Rattle.script_terms.specs.ConstantClauses.{HasDigits, constant_in}
use Rattle.script_terms.proofs.Refusing.{refused_at}
use Rattle.script_terms.proofs.TheoryConstants.{token_digits}
use Rattle.script_terms.proofs.terms.atoms.token_constant.Goals as goal

pub constant_of-requires : goal.constant_of-requires
constant_of-requires c =
    subst (λ item. HasDigits item c.text.result.now) (sym c.item.ensures)
    (subst (HasDigits (token_at c.args.forest.now.tokens c.args.i).item) (sym c.text.ensures.text) (token_digits c.args.forest.now c.args.i c.requires.read))

pub returns-in-Ok-clause-constant : goal.returns-in-Ok-clause-constant
returns-in-Ok-clause-constant c =
    (λ k. constant_in (token_at c.args.forest.now.tokens c.args.i).start (sym c.item.ensures k) (sym c.text.ensures.text k))
    ∙ c.in-Ok.ensures.constant (token_at c.args.forest.now.tokens c.args.i).start

pub returns-in-Err-clause-constant : goal.returns-in-Err-clause-constant
returns-in-Err-clause-constant c =
    (λ k. constant_in (token_at c.args.forest.now.tokens c.args.i).start (sym c.item.ensures k) (sym c.text.ensures.text k))
    ∙ c.in-Err.ensures.constant (token_at c.args.forest.now.tokens c.args.i).start
    ∙ refused_at c.fault.result c.in-Err.cause _ c.fault.ensures.cause c.fault.ensures.start
