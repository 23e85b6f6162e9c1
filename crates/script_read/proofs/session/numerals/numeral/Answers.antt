use Rattle.std.proofs.Common.{◌≡◌, ℕ, List, Option, Some, IsSome, option_map, refl, ap, sym, ◌∙◌, subst}
use Rattle.smt_lex.specs.Lex.{Token}
use Rattle.script_terms.specs.Parts.{numeral_in}
use Rattle.script_terms.specs.Places.{capped, form_from}
use Rattle.script_read.specs.ShapeClauses.{IsNumeralAt, counted_at}
use Rattle.script_read.proofs.NewNames.{numeral_here_is}
use Rattle.script_read.proofs.session.numerals.numeral.Goals as goal

found : (ts : List Token) (i : ℕ) (o : Option ℕ) → IsNumeralAt ts i → o ≡ option_map capped (numeral_in (form_from ts i)) → o ≡ Some (capped (counted_at ts i).it)
found ts i o is result = result ∙ ap (option_map capped) (numeral_here_is ts i is)

the_same : (o : Option ℕ) (m n : ℕ) → o ≡ Some m → o ≡ Some n → n ≡ m
the_same o m n a b = cc

pub unwrap-requires : goal.unwrap-requires
unwrap-requires c = subst IsSome (sym (found c.args.forest.now.tokens c.args.i c.numeral_at.result c.requires c.numeral_at.ensures)) refl

pub returns : goal.returns
returns c = the_same c.numeral_at.result (capped (counted_at c.args.forest.now.tokens c.args.i).it) c.unwrap.result (found c.args.forest.now.tokens c.args.i c.numeral_at.result c.requires c.numeral_at.ensures) c.unwrap.ensures
