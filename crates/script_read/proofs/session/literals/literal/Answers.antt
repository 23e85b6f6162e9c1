use Rattle.std.proofs.Common.{◌≡◌, ℕ, Bool, cond, List, Option, Some, None, option_map, ap, sym, ◌∙◌}
use Rattle.std.specs.Prelude.{codes}
use Rattle.smt_lex.specs.Forms.{Form}
use Rattle.smt_lex.specs.Lex.{Token}
use Rattle.smt_terms.specs.Connectives.{negated}
use Rattle.term_table.specs.Formulas.{tree}
use Rattle.script_terms.specs.Parts.{symbol_in, is_name}
use Rattle.script_terms.specs.Places.{form_from, pair_in, two_from}
use Rattle.script_terms.specs.Reading.{ReadBinding}
use Rattle.script_read.specs.Script.{declared_constant, literal}
use Rattle.script_read.proofs.LiteralNodes.{literal_pair, literal_other}
use Rattle.script_read.proofs.session.literals.literal.Goals as goal

two : (live : List ReadBinding) (ts : List Token) (f : Form) (o : Option (ℕ × ℕ)) (head inner : ℕ) (b : Bool) → option_map (two_from ts) o ≡ pair_in f → o ≡ Some (head, inner) → b ≡ is_name (codes "not") (symbol_in (form_from ts head)) → literal live f ≡ cond b (option_map negated (declared_constant live (symbol_in (form_from ts inner)))) None
two live ts f o head inner b forms is not_is =
    literal_pair live f (form_from ts head) (form_from ts inner) (sym forms ∙ ap (option_map (two_from ts)) is)
    ∙ ap (λ c. cond c (option_map negated (declared_constant live (symbol_in (form_from ts inner)))) None) (sym not_is)

pub returns-in_default-clause-literal : goal.returns-in_default-clause-literal
returns-in_default-clause-literal c = λ supply live shows.
    c.declared_constant.ensures.constant supply live shows
    ∙ sym (literal_other live (form_from c.args.forest.now.tokens c.args.i) (sym c.two_inside.ensures.forms ∙ ap (option_map (two_from c.args.forest.now.tokens)) c.in_default.is))

pub returns-then-not-is_not-clause-literal : goal.returns-then-not-is_not-clause-literal
returns-then-not-is_not-clause-literal c = λ supply live shows.
    sym (two live c.args.forest.now.tokens (form_from c.args.forest.now.tokens c.args.i) c.two_inside.result c.in-Some.head c.in-Some.inner c.is_not.result c.two_inside.ensures.forms c.in-Some.is c.is_not.ensures
    ∙ ap (λ b. cond b (option_map negated (declared_constant live (symbol_in (form_from c.args.forest.now.tokens c.in-Some.inner)))) None) c.if-not-is_not.true)

pub returns-in_ok-negation-in-Some-declared_constant-clause-literal : goal.returns-in_ok-negation-in-Some-declared_constant-clause-literal
returns-in_ok-negation-in-Some-declared_constant-clause-literal c = λ supply live shows.
    ap Some c.in_ok-negation-in-Some-declared_constant.ensures.term
    ∙ ap (λ o. option_map negated (option_map (tree c.args.table.now) o)) (sym c.in-Some-declared_constant.is)
    ∙ ap (option_map negated) (c.declared_constant-2.ensures.constant supply live shows)
    ∙ sym (two live c.args.forest.now.tokens (form_from c.args.forest.now.tokens c.args.i) c.two_inside.result c.in-Some.head c.in-Some.inner c.is_not.result c.two_inside.ensures.forms c.in-Some.is c.is_not.ensures
    ∙ ap (λ b. cond b (option_map negated (declared_constant live (symbol_in (form_from c.args.forest.now.tokens c.in-Some.inner)))) None) c.if-not-is_not.false)

pub returns-in-None-clause-literal : goal.returns-in-None-clause-literal
returns-in-None-clause-literal c = λ supply live shows.
    ap (λ o. option_map negated (option_map (tree c.args.table.now) o)) (sym c.in-None.is)
    ∙ ap (option_map negated) (c.declared_constant-2.ensures.constant supply live shows)
    ∙ sym (two live c.args.forest.now.tokens (form_from c.args.forest.now.tokens c.args.i) c.two_inside.result c.in-Some.head c.in-Some.inner c.is_not.result c.two_inside.ensures.forms c.in-Some.is c.is_not.ensures
    ∙ ap (λ b. cond b (option_map negated (declared_constant live (symbol_in (form_from c.args.forest.now.tokens c.in-Some.inner)))) None) c.if-not-is_not.false)
