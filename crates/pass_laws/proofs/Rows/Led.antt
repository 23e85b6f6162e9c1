-- Worked rows of what stored rules may make of a script.
use Rattle.std.specs.Prelude.{ℕ, [], ◌∷◌, codes, refl}
use Rattle.smt_terms.specs.declared.op.Op.TheVariants.{Bits, BvMul, BvShl}
use Rattle.smt_terms.specs.Sorts.{Symbol, bit_vector}
use Rattle.smt_terms.specs.Term.{op, Term, apply, none, ◌⨾◌, constant}
use Rattle.smt_terms.specs.Connectives.{equal}
use Rattle.smt_terms.specs.Constants.{literal_value}
use Rattle.smt_terms.specs.Equal.{op_eq}
use Rattle.smt_terms.specs.Fresh.{Supply}
use Rattle.rule_book.specs.View.{is_theory}
use Rattle.smt_terms.proofs.Written.{named, supply}
use Rattle.rule_book.specs.EightRules.{literal_power}
use Rattle.script_read.specs.Commands.{declare, assert, check}
use Rattle.pass_laws.specs.declared.names.Pass.TheVariants.{Rules}
use Rattle.pass_laws.specs.Led.{Leads}
use Rattle.pass_laws.proofs.Rows.Given.{Commands}

abbrev v : Symbol
v = named "v" (bit_vector 8)

abbrev w : Symbol
w = named "w" (bit_vector 8)

abbrev byte : ℕ → Term
byte n = apply (op (Bits 8 n)) none

abbrev multiplied : Commands
multiplied = declare v ∷ declare w ∷ assert 1 (equal (apply (op BvMul) (constant v ⨾ byte 8 ⨾ none)) (constant w)) ∷ check ∷ []

abbrev moved : Commands
moved = declare v ∷ declare w ∷ assert 1 (equal (apply (op BvShl) (constant v ⨾ byte 3 ⨾ none)) (constant w)) ∷ check ∷ []

abbrev left : Supply
left = supply ("v" ∷ "w" ∷ []) 0

-- a multiplication by eight is a shift by three
shifted : Leads (Rules ∷ []) multiplied left (codes "mul-pow2" ∷ codes "sub-neg" ∷ []) moved
unfolding is_theory literal_value literal_power op_eq
shifted = (left, (moved, ((refl, (refl, ((equal (apply (op BvShl) (constant v ⨾ byte 3 ⨾ none)) (constant w), refl, refl), (refl, tt)))), (refl, refl))))

-- without rules the terms stay
unchanged : Leads (Rules ∷ []) multiplied left [] multiplied
unfolding is_theory literal_value literal_power op_eq
unchanged = (left, (multiplied, ((refl, (refl, ((equal (apply (op BvMul) (constant v ⨾ byte 8 ⨾ none)) (constant w), refl, refl), (refl, tt)))), (refl, refl))))
