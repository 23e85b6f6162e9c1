-- What a law of the simplifier gives: a term that may stand for the node whose operands it was shown.
use Rattle.std.proofs.Common.{◌≡◌, ℕ, ◌^◌, ◌<◌, ◌≤◌, Bool, true, false, ◌&&◌, ◌==◌, ℤ, nat_abs, [], ◌∷◌, length, Option, Some, refl, ap, ◌∙◌, arith}
use Rattle.std.specs.Prelude.{IfSome, nat_le, if◌then◌else◌}
use Rattle.std.specs.Cmp.{booleans_Decides}
use Rattle.std.proofs.lemmas.Bool.{leb-true}
use Rattle.std.proofs.lemmas.Bool.Decides.{Decides-eqb, Decides-int_eq}
use Rattle.smt_terms.specs.declared.op.Op.TheVariants.{Truth, Whole, Bits}
use Rattle.smt_terms.specs.Sorts.{Sort, bool, int, bit_vector}
use Rattle.smt_terms.specs.Term.{op, symbol, const_array, Term, apply, quantified, none, ◌⨾◌}
use Rattle.smt_terms.specs.BitVectors.{BitVector, bv2nat, bits_eq, zeros, ones}
use Rattle.smt_terms.specs.Connectives.{truth_term}
use Rattle.smt_terms.specs.Constants.{whole_term, bits_term, literal_value, constant_value}
use Rattle.smt_terms.specs.Laws.{IsEnv}
use Rattle.smt_terms.specs.Models.{Model, IsModel}
use Rattle.smt_terms.specs.Operators.{op_value}
use Rattle.smt_terms.specs.Rank.{shape, width, most_bits, sort_of, sorts_of, is_sort, is_minus_of, is_regular, are_regular}
use Rattle.smt_terms.specs.Val.{Env, val}
use Rattle.smt_terms.specs.Values.{is_true, number, bits_of, same}
use Rattle.smt_terms.proofs.BitLaws.{zero_bits}
use Rattle.smt_terms.proofs.Equal.{Decides-term_eq}
use Rattle.smt_terms.proofs.Operands.{fewer_sorts}
use Rattle.smt_terms.proofs.Ranked.{takes-rank}
use Rattle.smt_terms.proofs.Same.{Decides-bits_eq}
use Rattle.smt_terms.proofs.Sorted.{sort_of-apply}
use Rattle.smt_terms.proofs.SortsOfTerms.{sort_is_sort}
use Rattle.smt_terms.proofs.Tests.{both_true}
use Rattle.smt_terms.proofs.Valid.{val_valid, length-bits_of}
use Rattle.simplify.specs.Folding.{is_truth, is_whole, bits_pass, is_bits, is_ones}

-- a term of that sort, as operands are
pub record Operand (s : Sort) (t : Term) : Type 0 where
  pub has : sort_of t ≡ Some s
  pub rules : is_regular t ≡ true

-- such a term with the value of a node
pub record Gives (s : Sort) (t r : Term) : Type 0 where
  pub result : Operand s r
  pub values : (m : Model) (e : Env) → IsModel m → IsEnv m.sizes e → same s m.sizes (val m t e) (val m r e) ≡ true

pub two_operands : (s t : Term) (r q : Sort) → sorts_of (s ⨾ t ⨾ none) ≡ Some (r ∷ q ∷ []) → are_regular (s ⨾ t ⨾ none) ≡ true → Operand r s × Operand q t
two_operands s t r q has fine =
    let first = fewer_sorts s (t ⨾ none) r (q ∷ []) has in
    let second = fewer_sorts t none q [] first.1 in
    let rules = both_true (is_regular s) (is_regular t && true) fine in
    (record { has = first.0; rules = rules.0 }, record { has = second.0; rules = (both_true (is_regular t) true rules.1).0 })

pub one_operand : (t : Term) (r : Sort) → sorts_of (t ⨾ none) ≡ Some (r ∷ []) → are_regular (t ⨾ none) ≡ true → Operand r t
one_operand t r has fine = record { has = (fewer_sorts t none r [] has).0; rules = (both_true (is_regular t) true fine).0 }

-- ---- the lines of a law, one after the other

pub by_if : (G : Term → Type 0) (b : Bool) (x : Term) (rest : Option Term) → (b ≡ true → G x) → IfSome rest G → IfSome (if b then Some x else rest) G
by_if G true x rest found others = found refl
by_if G false x rest found others = others

-- ---- results by what they read as

pub gives_truth : (t r : Term) → Operand bool r → ((m : Model) (e : Env) → IsModel m → IsEnv m.sizes e → is_true (val m t e) ≡ is_true (val m r e)) → Gives bool t r
gives_truth t r o alike = record { result = o; values = λ m e model env. (booleans_Decides (is_true (val m t e)) (is_true (val m r e))).1 (alike m e model env) }

pub gives_number : (t r : Term) → Operand int r → ((m : Model) (e : Env) → IsModel m → IsEnv m.sizes e → number (val m t e) ≡ number (val m r e)) → Gives int t r
gives_number t r o alike = record { result = o; values = λ m e model env. (Decides-int_eq (number (val m t e)) (number (val m r e))).1 (alike m e model env) }

pub gives_bits : (w : ℕ) (t r : Term) → Operand (bit_vector w) r → ((m : Model) (e : Env) → IsModel m → IsEnv m.sizes e → bits_of (val m t e) ≡ bits_of (val m r e)) → Gives (bit_vector w) t r
gives_bits w t r o alike = record { result = o; values = λ m e model env. (Decides-bits_eq (bits_of (val m t e)) (bits_of (val m r e))).1 (alike m e model env) }

-- ---- constants

pub truth_operand : (b : Bool) → Operand bool (truth_term b)
unfolding shape is_minus_of
truth_operand b =
    let narrow : width bool ≤ most_bits = omega arith in
    record { has = sort_of-apply (op (Truth b)) none [] bool refl (takes-rank (op (Truth b)) [] bool (refl, refl) narrow); rules = refl }

pub whole_operand : (n : ℤ) → nat_abs n < 2 ^ 127 → Operand int (whole_term n)
unfolding shape is_minus_of
whole_operand n small =
    let narrow : width int ≤ most_bits = omega arith in
    record { has = sort_of-apply (op (Whole n)) none [] int refl (takes-rank (op (Whole n)) [] int (refl, small, refl) narrow); rules = refl }

pub bits_operand : (w n : ℕ) → is_sort (bit_vector w) ≡ true → n < 2 ^ w → Operand (bit_vector w) (bits_term w n)
unfolding shape is_minus_of
bits_operand w n fine small =
    let parts = both_true (nat_le 1 w) (nat_le w most_bits) fine in
    let some : 1 ≤ w = leb-true 1 w parts.0 in
    let narrow : width (bit_vector w) ≤ most_bits = leb-true w most_bits parts.1 in
    let more : 0 < w = omega arith in
    record { has = sort_of-apply (op (Bits w n)) none [] (bit_vector w) refl (takes-rank (op (Bits w n)) [] (bit_vector w) (refl, more, small, refl) narrow); rules = refl }

pub vector_sort : (w : ℕ) (t : Term) → Operand (bit_vector w) t → is_sort (bit_vector w) ≡ true
vector_sort w t o = sort_is_sort t (bit_vector w) o.rules o.has

-- ---- what terms read as that a test tells

pub truth_read : (b : Bool) (t : Term) → is_truth b t ≡ true → (m : Model) (e : Env) → is_true (val m t e) ≡ b
unfolding op_value
truth_read b t h m e = ap (λ u. is_true (val m u e)) ((Decides-term_eq t (truth_term b)).0 h)

pub whole_read : (n : ℤ) (t : Term) → is_whole n t ≡ true → (m : Model) (e : Env) → number (val m t e) ≡ n
unfolding op_value
whole_read n t h m e = ap (λ u. number (val m u e)) ((Decides-term_eq t (whole_term n)).0 h)

pub bits_read : (test : BitVector → Bool) (t : Term) → bits_pass test (constant_value t) ≡ true → (m : Model) (e : Env) → test (bits_of (val m t e)) ≡ true
unfolding literal_value op_value
bits_read test (quantified q xs t) h m e = absurd cc
bits_read test (apply (symbol f) ts) h m e = absurd cc
bits_read test (apply (const_array s) ts) h m e = absurd cc
bits_read test (apply (op o) (t ⨾ ts)) h m e = absurd cc
bits_read test (apply (op (Bits w n)) none) h m e = h
bits_read test (apply (op o) none) h m e = absurd cc

module _ (w : ℕ) (t : Term) (o : Operand (bit_vector w) t) (m : Model) (e : Env) (model : IsModel m) (env : IsEnv m.sizes e) where
  pub width_value : length (bits_of (val m t e)) ≡ w
  width_value = length-bits_of w m.sizes (val m t e) (val_valid t (bit_vector w) m e model env o.has)

  pub bits_value : (n : ℕ) → is_bits n t ≡ true → bv2nat (bits_of (val m t e)) ≡ n
  bits_value n h = (Decides-eqb (bv2nat (bits_of (val m t e))) n).0 (bits_read (λ bs. bv2nat bs == n) t h m e)

  pub zero_value : is_bits 0 t ≡ true → bits_of (val m t e) ≡ zeros w
  zero_value h = zero_bits (bits_of (val m t e)) (bits_value 0 h) ∙ ap zeros width_value

  pub ones_value : is_ones t ≡ true → bits_of (val m t e) ≡ ones w
  ones_value h = (Decides-bits_eq (bits_of (val m t e)) (ones (length (bits_of (val m t e))))).0 (bits_read (λ bs. bits_eq bs (ones (length bs))) t h m e) ∙ ap ones width_value
