-- The constant of a node, by its operator.
use Rattle.std.proofs.Common.{◌≡◌, ℕ, ◌+◌, ◌-◌, ◌/◌, ◌^◌, ◌<◌, ◌≤◌, ◌==◌, ◌↔◌, Bool, true, false, ℤ, List, [], ◌∷◌, Option, Some, None, Ok, is_ok, refl, ap, sym, ◌∙◌, arith, of_z, to_z, FitsSigned}
use Rattle.std.specs.Int.{w128}
use Rattle.std.specs.Prelude.{unsigned_abs}
use Rattle.std.proofs.lemmas.Bool.Decides.{Decides-eqb}
use Rattle.std.proofs.lemmas.Int.{to_z-of_z, fits_signed_from_abs}
use Rattle.std.proofs.lemmas.Nat.{pow_pos}
use Rattle.std.proofs.lemmas.Nat.Bits.{ones_shr}
use Rattle.smt_terms.specs.declared.ids.NodeId.{NodeId}
use Rattle.smt_terms.specs.declared.op.Op.{Op}
use Rattle.smt_terms.specs.declared.op.Op.TheVariants.{Truth, Whole, Bits}
use Rattle.smt_terms.specs.Sorts.{Sort, bool, int, bit_vector, Symbol}
use Rattle.smt_terms.specs.Term.{op, Term}
use Rattle.smt_terms.specs.BitVectors.{BitVector}
use Rattle.smt_terms.specs.Constants.{literal_value, constant_value, constant_term}
use Rattle.smt_terms.specs.Equal.{term_eq}
use Rattle.smt_terms.specs.Rank.{width, most_bits, rank, shape, is_minus_of}
use Rattle.smt_terms.specs.Values.{Value, truth, whole, bits}
use Rattle.smt_terms.proofs.Equal.{Decides-term_eq}
use Rattle.smt_terms.proofs.Ranked.{takes-rank}
use Rattle.smt_terms.proofs.Tests.{alike_from}
use Rattle.smt_values.specs.Meaning.{scalar_value, scalar_sort, IsScalar}
use Rattle.smt_values.specs.declared.scalar.Scalar.{Scalar}
use Rattle.smt_values.specs.declared.scalar.Scalar.TheVariants as scalar
use Rattle.term_table.specs.Formulas.{Formulas, tree, operands, Kind, theory, applied, filled, binder, kind, kind_term, term_over, Makes, AreNodes}
use Rattle.term_table.proofs.Operators.{kind-theory}
use Rattle.simplify.specs.Folding.{bits_pass}

-- ---- a node with a value is a constant

valued : (fs : List Symbol) (ss : List Sort) (p : Op) (k : Kind) → kind p ≡ k → (us : List Term) (v : Value) → constant_value (kind_term fs ss k us) ≡ Some v → literal_value p ≡ Some v
valued fs ss p (theory q) e [] v h = ap literal_value (kind-theory p q e) ∙ h
valued fs ss p (theory q) e (u ∷ us) v h = absurd cc
valued fs ss p (applied f) e us v h = absurd cc
valued fs ss p (filled s) e us v h = absurd cc
valued fs ss p (binder q) e us v h = absurd cc

other-truth : (b : Bool) (o : Op) → ((c : Bool) → o ≡ Truth c → ⊥) → literal_value o ≡ Some (truth b) → ⊥
unfolding literal_value
other-truth b (Truth c) f e = f c refl
other-truth b (Whole n) f e = cc
other-truth b (Bits w n) f e = cc
other-truth b _ f e = cc

other-whole : (n : ℤ) (o : Op) → ((m : ℤ) → o ≡ Whole m → ⊥) → literal_value o ≡ Some (whole n) → ⊥
unfolding literal_value
other-whole n (Whole m) f e = f m refl
other-whole n (Truth c) f e = cc
other-whole n (Bits w m) f e = cc
other-whole n _ f e = cc

other-bits : (bs : BitVector) (o : Op) → ((w n : ℕ) → o ≡ Bits w n → ⊥) → literal_value o ≡ Some (bits bs) → ⊥
unfolding literal_value
other-bits bs (Bits w n) f e = f w n refl
other-bits bs (Truth c) f e = cc
other-bits bs (Whole m) f e = cc
other-bits bs _ f e = cc

module _ (t : Formulas) (p : Op) (u : Term) (is : u ≡ term_over t p (operands u)) where
  node-value : (v : Value) → constant_value u ≡ Some v → literal_value p ≡ Some v
  node-value v h = valued t.symbols t.sorts p (kind p) refl (operands u) v (ap constant_value (sym is) ∙ h)

  pub no-truth : (b : Bool) → ((c : Bool) → p ≡ Truth c → ⊥) → constant_value u ≡ Some (truth b) → ⊥
  no-truth b apart h = other-truth b p apart (node-value (truth b) h)

  pub no-whole : (n : ℤ) → ((m : ℤ) → p ≡ Whole m → ⊥) → constant_value u ≡ Some (whole n) → ⊥
  no-whole n apart h = other-whole n p apart (node-value (whole n) h)

  pub no-bits : (test : BitVector → Bool) → ((w n : ℕ) → p ≡ Bits w n → ⊥) → false ≡ bits_pass test (constant_value u)
  no-bits test apart = failed (constant_value u) refl
    where
      failed : (o : Option Value) → constant_value u ≡ o → false ≡ bits_pass test o
      failed (Some (bits bs)) e = absurd (other-bits bs p apart (node-value (bits bs) e))
      failed _ e = refl

  pub no-value : literal_value p ≡ None → None ≡ constant_value u
  no-value none_there = missing (constant_value u) refl
    where
      missing : (o : Option Value) → constant_value u ≡ o → None ≡ o
      missing (Some v) e = absurd (let some : None ≡ Some v = sym none_there ∙ node-value v e in cc)
      missing None e = refl

-- ---- whole numbers of 128 bits

pub in-word : (n : ℤ) → unsigned_abs n < 2 ^ 127 → to_z w128 (of_z w128 n) ≡ n
in-word n small = to_z-of_z w128 n (fits_signed_from_abs w128 n small)

pub same-whole : (m n : ℤ) → unsigned_abs m < 2 ^ 127 → FitsSigned w128 n → (of_z w128 m == of_z w128 n) ≡ true → m ≡ n
same-whole m n small fits e = sym (in-word m small) ∙ ap (to_z w128) ((Decides-eqb (of_z w128 m) (of_z w128 n)).0 e) ∙ to_z-of_z w128 n fits

pub whole-same : (m n : ℤ) → m ≡ n → (of_z w128 m == of_z w128 n) ≡ true
whole-same m n e = (Decides-eqb (of_z w128 m) (of_z w128 n)).1 (ap (of_z w128) e)

-- ---- all ones

pub ones-number : (w : ℕ) → w ≤ 128 → 340282366920938463463374607431768211455 / 2 ^ (128 - w) + 1 ≡ 2 ^ w
ones-number w le =
    let place : 128 - w ≤ 128 = omega arith in
    let width : 128 - (128 - w) ≡ w = omega arith in
    let shifted : 340282366920938463463374607431768211455 / 2 ^ (128 - w) ≡ 2 ^ w - 1 = ones_shr 128 (128 - w) place ∙ ap (λ k. 2 ^ k - 1) width in
    let some : 0 < 2 ^ w = pow_pos w in
    omega (arith, shifted, some)
