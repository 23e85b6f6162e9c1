use Rattle.std.proofs.Common.{◌≡◌, ℕ, ◌≤◌, ◌^◌, true, false, nat_lt, ◌==◌, Option, Some, None, Ok, refl, arith}
use Rattle.std.proofs.Math.Nat.{pow-le-pow_right}
use Rattle.std.proofs.lemmas.Bool.{le-ltb}
use Rattle.std.proofs.lemmas.Bool.Decides.{Decides-eqb}
use Rattle.smt_terms.specs.BitVectors.{nat2bv}
use Rattle.smt_terms.specs.Sorts.{bit_vector}
use Rattle.smt_terms.specs.Values.{Value, bits}
use Rattle.model_texts.specs.Literals.{IsNumberOf}
use Rattle.model_texts.specs.Refusals.{at, where_so, model_sort, model_number}
use Rattle.model_texts.specs.ValueForms.{vector_literal, literal_value}
use Rattle.model_texts.proofs.literals.vector_scalar.Goals as goal

number_beyond : (found : Option ℕ) (n : ℕ) → IsNumberOf n found → ((b : ℕ) → found ≡ Some b → ⊥) → 2 ^ 128 ≤ n
number_beyond None n large absent = large
number_beyond (Some b) n same absent = absurd (absent b refl)

vector_refused : (width n place : ℕ) → width ≤ 128 → 2 ^ 128 ≤ n → literal_value place (bit_vector width) (Some (vector_literal width n)) ≡ at model_number place
vector_refused width n place narrow large =
    let most : 2 ^ width ≤ 2 ^ 128 = pow-le-pow_right (omega arith) narrow in
    let itself : (width == width) ≡ true = (Decides-eqb width width).1 refl in
    let beyond : nat_lt n (2 ^ width) ≡ false = le-ltb n (2 ^ width) (omega (arith, most, large)) in
    λ i. where_so {A = Value} (itself i) model_sort place (where_so (beyond i) model_number place (Ok (bits (nat2bv width n))))

pub returns-in_default-clause-scalar : goal.returns-in_default-clause-scalar
returns-in_default-clause-scalar c n is place =
    vector_refused c.args.width n place c.requires.1 (number_beyond c.args.bits n is c.in_default.not-Some)
