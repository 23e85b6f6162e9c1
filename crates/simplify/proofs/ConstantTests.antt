-- Constants as scalars, and tests of which constant a term is.
use Rattle.std.proofs.Common.{◌≡◌, ◌+◌, ◌-◌, ◌^◌, ◌<◌, ◌≤◌, Bool, true, false, ◌==◌, ℕ, ℤ, List, [], ◌∷◌, length, Some, None, refl, ap, sym, ◌∙◌, subst, arith}
use Rattle.std.specs.Prelude.{is_some, unsigned_abs, if◌then◌else◌}
use Rattle.smt_terms.specs.declared.op.Op.{Op}
use Rattle.smt_terms.specs.declared.op.Op.TheVariants.{Truth, Whole, Bits}
use Rattle.smt_terms.specs.Sorts.{Sort}
use Rattle.smt_terms.specs.Term.{op, Term, apply, none, list, terms, over}
use Rattle.smt_terms.specs.BitVectors.{bv2nat, nat2bv, ones, bits_eq}
use Rattle.smt_terms.specs.Connectives.{truth_term}
use Rattle.smt_terms.specs.Constants.{whole_term, bits_term, literal_value, constant_value, constant_term}
use Rattle.smt_terms.specs.Equal.{term_eq}
use Rattle.smt_terms.specs.Rank.{shape, width, most_bits, sort_of, is_regular, IsWellSorted}
use Rattle.smt_terms.specs.Values.{Value, truth, whole, bits}
use Rattle.smt_terms.proofs.BitLaws.{nat2bv-ones}
use Rattle.smt_terms.proofs.BitLengths.{length-nat2bv}
use Rattle.smt_terms.proofs.ConstantTerms.{IsConstant, a_truth, a_whole, a_vector, constants, bv2nat-nat2bv}
use Rattle.smt_terms.proofs.Equal.{Decides-term_eq}
use Rattle.smt_terms.proofs.Keeping.{the_sort}
use Rattle.smt_terms.proofs.Ranked.{rank-takes, rank-narrow, lt_true}
use Rattle.smt_terms.proofs.Same.{Decides-bits_eq}
use Rattle.smt_terms.proofs.Sorted.{applied, length-sorts_of}
use Rattle.smt_terms.proofs.Tests.{both_true, alike_from}
use Rattle.smt_values.specs.Meaning.{scalar_value, scalar_sort, IsScalar}
use Rattle.smt_values.specs.declared.scalar.Scalar.{Scalar}
use Rattle.smt_values.specs.declared.scalar.Scalar.TheVariants as scalar
use Rattle.simplify.specs.Folding.{bits_pass, is_bits, is_ones}

-- ---- a well-sorted constant

pub record IsConstantOf (u : Term) (s : Scalar) : Type 0 where
  pub value : constant_value u ≡ Some (scalar_value s)
  pub sort : sort_of u ≡ Some (scalar_sort s)
  pub scalar : IsScalar s

alone : (us : List Term) → length (list (terms us)) ≡ 0 → terms us ≡ none
alone [] e = refl
alone (u ∷ us) e = absurd (omega arith)

sort_there : (u : Term) → IsWellSorted u → (s : Sort) × (sort_of u ≡ Some s)
sort_there u fine = the_sort (sort_of u) (both_true (is_some (sort_of u)) (is_regular u) fine).0

pub truth_constant : (b : Bool) (u : Term) (us : List Term) → IsWellSorted u → u ≡ over (op (Truth b)) us → IsConstantOf u (scalar.Truth b)
unfolding shape literal_value
truth_constant b u us fine is =
    let found = sort_there u fine in
    let parts = applied (op (Truth b)) (terms us) found.0 (ap sort_of (sym is) ∙ found.1) in
    let takes = rank-takes (op (Truth b)) parts.sorts found.0 parts.rank in
    let lone = alone us (sym (length-sorts_of (terms us) parts.sorts parts.operands) ∙ ap length takes.0) in
    record {
      value = ap constant_value (is ∙ ap (apply (op (Truth b))) lone);
      sort = found.1 ∙ ap Some takes.1;
      scalar = tt;
    }

pub whole_constant : (n : ℤ) (u : Term) (us : List Term) → IsWellSorted u → u ≡ over (op (Whole n)) us → IsConstantOf u (scalar.Whole n)
unfolding shape literal_value
whole_constant n u us fine is =
    let found = sort_there u fine in
    let parts = applied (op (Whole n)) (terms us) found.0 (ap sort_of (sym is) ∙ found.1) in
    let takes = rank-takes (op (Whole n)) parts.sorts found.0 parts.rank in
    let lone = alone us (sym (length-sorts_of (terms us) parts.sorts parts.operands) ∙ ap length takes.0) in
    record {
      value = ap constant_value (is ∙ ap (apply (op (Whole n))) lone);
      sort = found.1 ∙ ap Some takes.2;
      scalar = takes.1;
    }

pub bits_constant : (w n : ℕ) (u : Term) (us : List Term) → IsWellSorted u → u ≡ over (op (Bits w n)) us → IsConstantOf u (scalar.Bits w n)
unfolding shape literal_value
bits_constant w n u us fine is =
    let found = sort_there u fine in
    let parts = applied (op (Bits w n)) (terms us) found.0 (ap sort_of (sym is) ∙ found.1) in
    let takes = rank-takes (op (Bits w n)) parts.sorts found.0 parts.rank in
    let lone = alone us (sym (length-sorts_of (terms us) parts.sorts parts.operands) ∙ ap length takes.0) in
    let narrow : w ≤ most_bits = subst (λ s. width s ≤ most_bits) takes.3 (rank-narrow (op (Bits w n)) parts.sorts found.0 parts.rank) in
    let some : 0 < w = takes.1 in
    record {
      value = ap constant_value (is ∙ ap (apply (op (Bits w n))) lone);
      sort = found.1 ∙ ap Some takes.3;
      scalar = (omega arith, narrow, takes.2);
    }

pub no_literal : (o : Op) → ((b : Bool) → o ≡ Truth b → ⊥) → ((n : ℤ) → o ≡ Whole n → ⊥) → ((w n : ℕ) → o ≡ Bits w n → ⊥) → literal_value o ≡ None
unfolding literal_value
no_literal (Truth b) f g h = absurd (f b refl)
no_literal (Whole n) f g h = absurd (g n refl)
no_literal (Bits w n) f g h = absurd (h w n refl)
no_literal _ f g h = refl

-- ---- which constant it is

constant_there : (u : Term) (v : Value) → constant_value u ≡ Some v → IsConstant u
constant_there u v e = constants u (ap is_some e)

truth_at : (u : Term) (c : Bool) → IsConstant u → constant_value u ≡ Some (truth c) → u ≡ truth_term c
unfolding literal_value
truth_at u c (a_truth b) e = let same : b ≡ c = cc in ap truth_term same
truth_at u c (a_whole n) e = absurd cc
truth_at u c (a_vector w n) e = absurd cc

whole_at : (u : Term) (m : ℤ) → IsConstant u → constant_value u ≡ Some (whole m) → u ≡ whole_term m
unfolding literal_value
whole_at u m (a_truth b) e = absurd cc
whole_at u m (a_whole n) e = let same : n ≡ m = cc in ap whole_term same
whole_at u m (a_vector w n) e = absurd cc

told : (t u : Term) (b : Bool) → (b ≡ true → t ≡ u) → (t ≡ u → b ≡ true) → b ≡ term_eq t u
told t u b f g = alike_from b (term_eq t u) (λ h. (Decides-term_eq t u).1 (f h)) (λ h. g ((Decides-term_eq t u).0 h))

pub truth_told : (u : Term) (b c r : Bool) → constant_value u ≡ Some (truth c) → (r ≡ true → c ≡ b) → (c ≡ b → r ≡ true) → r ≡ term_eq u (truth_term b)
unfolding literal_value
truth_told u b c r is f g =
    let here = truth_at u c (constant_there u (truth c) is) is in
    told u (truth_term b) r (λ h. here ∙ ap truth_term (f h)) (λ e. g (let same : Some (truth c) ≡ Some (truth b) = sym is ∙ ap constant_value e in cc))

pub whole_told : (u : Term) (n m : ℤ) (r : Bool) → constant_value u ≡ Some (whole m) → (r ≡ true → m ≡ n) → (m ≡ n → r ≡ true) → r ≡ term_eq u (whole_term n)
unfolding literal_value
whole_told u n m r is f g =
    let here = whole_at u m (constant_there u (whole m) is) is in
    told u (whole_term n) r (λ h. here ∙ ap whole_term (f h)) (λ e. g (let same : Some (whole m) ≡ Some (whole n) = sym is ∙ ap constant_value e in cc))

-- another value, or none
pub other_truth : (u : Term) (b : Bool) → (constant_value u ≡ Some (truth b) → ⊥) → false ≡ term_eq u (truth_term b)
unfolding literal_value
other_truth u b apart = told u (truth_term b) false (λ h. absurd cc) (λ e. absurd (apart (ap constant_value e)))

pub other_whole : (u : Term) (n : ℤ) → (constant_value u ≡ Some (whole n) → ⊥) → false ≡ term_eq u (whole_term n)
unfolding literal_value
other_whole u n apart = told u (whole_term n) false (λ h. absurd cc) (λ e. absurd (apart (ap constant_value e)))

-- ---- bit vectors

module _ (u : Term) (w n : ℕ) (is : constant_value u ≡ Some (bits (nat2bv w n))) (small : n < 2 ^ w) where
  number_there : bv2nat (nat2bv w n) ≡ n
  number_there = bv2nat-nat2bv w n small

  pub bits_told : (k : ℕ) → is_bits k u ≡ (n == k)
  bits_told k = ap (bits_pass (λ bs. bv2nat bs == k)) is ∙ ap (λ m. m == k) number_there

  ones_there : bits_eq (nat2bv w n) (ones (length (nat2bv w n))) ≡ bits_eq (nat2bv w n) (nat2bv w (2 ^ w - 1))
  ones_there = ap (bits_eq (nat2bv w n)) (ap ones (length-nat2bv w n) ∙ sym (nat2bv-ones w))

  pub ones_told : (m : ℕ) → m + 1 ≡ 2 ^ w → (r : Bool) → (r ≡ true → n ≡ m) → (n ≡ m → r ≡ true) → r ≡ is_ones u
  ones_told m top r f g =
      let last : m ≡ 2 ^ w - 1 = omega arith in
      let below : m < 2 ^ w = omega arith in
      alike_from r (bits_eq (nat2bv w n) (nat2bv w m))
      (λ h. (Decides-bits_eq (nat2bv w n) (nat2bv w m)).1 (ap (nat2bv w) (f h)))
      (λ h. g (sym number_there ∙ ap bv2nat ((Decides-bits_eq (nat2bv w n) (nat2bv w m)).0 h) ∙ bv2nat-nat2bv w m below))
      ∙ ap (λ k. bits_eq (nat2bv w n) (nat2bv w k)) last ∙ sym ones_there ∙ sym (ap (bits_pass (λ bs. bits_eq bs (ones (length bs)))) is)
