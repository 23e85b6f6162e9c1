-- The laws of the operators of one operand, and of comparisons of an operand with itself, give terms of the same value.
use Rattle.std.proofs.Common.{◌≡◌, ℕ, suc, ◌+◌, ◌-◌, Bool, true, false, not, ◌&&◌, ◌==◌, ℤ, pos, negsuc, List, [], ◌∷◌, Some, None, refl, ap, sym, ◌∙◌, subst, arith}
use Rattle.std.specs.Prelude.{IfSome, nat_lt, nat_le, int_lt, int_le}
use Rattle.std.proofs.Math.IntN.{neg_ℤ-neg_ℤ}
use Rattle.std.proofs.lemmas.Bool.Decides.{Decides-eqb, nat_tests}
use Rattle.smt_terms.specs.declared.op.Op.{Op}
use Rattle.smt_terms.specs.declared.op.Op.TheVariants.{Not, Neg, Le, Lt, Extract, BvNot, BvNeg, BvUlt, BvUle, BvSlt, BvSle, ZeroExt, SignExt, RotL, RotR}
use Rattle.smt_terms.specs.Sorts.{Sort, bool, int, bit_vector}
use Rattle.smt_terms.specs.Term.{op, Term, apply, none, ◌⨾◌}
use Rattle.smt_terms.specs.BitVectors.{BitVector, bv2int, bvult, bvule, bvslt, bvsle, extract, zero_extend, sign_extend, rotate_left, rotate_right}
use Rattle.smt_terms.specs.Connectives.{truth_term}
use Rattle.smt_terms.specs.Equal.{op_eq, term_eq}
use Rattle.smt_terms.specs.Models.{Model}
use Rattle.smt_terms.specs.Operators.{op_value}
use Rattle.smt_terms.specs.Rank.{shape, sorts_of, are_regular}
use Rattle.smt_terms.specs.Takes.{Takes}
use Rattle.smt_terms.specs.Val.{Env, val}
use Rattle.smt_terms.specs.Values.{is_true, number, bits_of}
use Rattle.smt_terms.proofs.BitLaws.{bvnot-twice, bvneg-twice, extract-all, zero_extend-none, sign_extend-none, rotate_left-none, rotate_right-none}
use Rattle.smt_terms.proofs.Equal.{Decides-op_eq, Decides-term_eq}
use Rattle.smt_terms.proofs.Ranked.{rank-takes}
use Rattle.smt_terms.proofs.Sorted.{applied}
use Rattle.smt_terms.proofs.SortsOfTerms.{regular}
use Rattle.smt_terms.proofs.Tests.{both_true}
use Rattle.simplify.specs.Folding.{twice}
use Rattle.simplify.specs.Numbers as numbers
use Rattle.simplify.specs.Vectors as vectors
use Rattle.simplify.proofs.Gives.{Operand, Gives, one_operand, by_if, gives_truth, gives_number, gives_bits, truth_operand, width_value}
use Rattle.simplify.proofs.VectorsGive.{node, width_of-vector}

-- ---- an operator over itself

-- the operand of an operator over one
record Inner (o : Op) (u : Term) (s : Sort) : Type 0 where
  sorts : List Sort
  has : sorts_of (u ⨾ none) ≡ Some sorts
  takes : Takes (shape o) sorts s
  rules : are_regular (u ⨾ none) ≡ true

inner : (o : Op) (u : Term) (s : Sort) → Operand s (apply (op o) (u ⨾ none)) → Inner o u s
inner o u s p =
    let parts = applied (op o) (u ⨾ none) s p.has in
    record { sorts = parts.sorts; has = parts.operands; takes = rank-takes (op o) parts.sorts s parts.rank; rules = (regular (op o) (u ⨾ none) p.rules).operands }

operand_at : (u : Term) (ss : List Sort) (r : Sort) → sorts_of (u ⨾ none) ≡ Some ss → ss ≡ r ∷ [] → are_regular (u ⨾ none) ≡ true → Operand r u
operand_at u ss r has e fine = one_operand u r (has ∙ ap (λ rs. Some rs) e) fine

not_twice : (b : Bool) → not (not b) ≡ b
not_twice true = refl
not_twice false = refl

-- for each operator: what stands below it twice has its value
abbrev Undone : Op → Sort → Type 0
Undone o s = (u : Term) → Operand s (apply (op o) (u ⨾ none)) → Gives s (apply (op o) (apply (op o) (u ⨾ none) ⨾ none)) u

twice_gives : (o : Op) (s : Sort) (t : Term) → Undone o s → Operand s t → IfSome (twice o t) (λ r. Gives s (apply (op o) (t ⨾ none)) r)
twice_gives o s (apply (op p) (u ⨾ none)) undone t =
    by_if (λ r. Gives s (apply (op o) (apply (op p) (u ⨾ none) ⨾ none)) r) (op_eq o p) u None
    (λ h. let one : o ≡ p = (Decides-op_eq o p).0 h in
    subst (λ q. Gives s (apply (op o) (apply (op q) (u ⨾ none) ⨾ none)) u) one (undone u (subst (λ q. Operand s (apply (op q) (u ⨾ none))) (sym one) t)))
    tt
twice_gives o s _ undone t = tt

not_undone : Undone Not bool
unfolding shape op_value
not_undone u p =
    let i = inner Not u bool p in
    gives_truth (apply (op Not) (apply (op Not) (u ⨾ none) ⨾ none)) u (operand_at u i.sorts bool i.has i.takes.0 i.rules) (λ m e model env. not_twice (is_true (val m u e)))

neg_undone : Undone Neg int
unfolding shape op_value
neg_undone u p =
    let i = inner Neg u int p in
    gives_number (apply (op Neg) (apply (op Neg) (u ⨾ none) ⨾ none)) u (operand_at u i.sorts int i.has i.takes.0 i.rules) (λ m e model env. neg_ℤ-neg_ℤ (number (val m u e)))

vector_inner : (o : Op) (w : ℕ) (u : Term) (i : Inner o u (bit_vector w)) → ((v : ℕ) × (i.sorts ≡ bit_vector v ∷ []) × (bit_vector w ≡ bit_vector v)) → Operand (bit_vector w) u
vector_inner o w u i t = operand_at u i.sorts (bit_vector w) i.has (t.1 ∙ ap (λ r. r ∷ []) (sym t.2)) i.rules

bvnot_undone : (w : ℕ) → Undone BvNot (bit_vector w)
unfolding shape op_value
bvnot_undone w u p =
    let i = inner BvNot u (bit_vector w) p in
    gives_bits w (apply (op BvNot) (apply (op BvNot) (u ⨾ none) ⨾ none)) u (vector_inner BvNot w u i i.takes) (λ m e model env. bvnot-twice (bits_of (val m u e)))

bvneg_undone : (w : ℕ) → Undone BvNeg (bit_vector w)
unfolding shape op_value
bvneg_undone w u p =
    let i = inner BvNeg u (bit_vector w) p in
    gives_bits w (apply (op BvNeg) (apply (op BvNeg) (u ⨾ none) ⨾ none)) u (vector_inner BvNeg w u i i.takes) (λ m e model env. bvneg-twice (bits_of (val m u e)))

pub not_gives : (t : Term) → Operand bool t → IfSome (twice Not t) (λ r. Gives bool (apply (op Not) (t ⨾ none)) r)
not_gives t p = twice_gives Not bool t not_undone p

pub neg_gives : (t : Term) → Operand int t → IfSome (twice Neg t) (λ r. Gives int (apply (op Neg) (t ⨾ none)) r)
neg_gives t p = twice_gives Neg int t neg_undone p

pub bvnot_gives : (w : ℕ) (t : Term) → Operand (bit_vector w) t → IfSome (twice BvNot t) (λ r. Gives (bit_vector w) (apply (op BvNot) (t ⨾ none)) r)
bvnot_gives w t p = twice_gives BvNot (bit_vector w) t (bvnot_undone w) p

pub bvneg_gives : (w : ℕ) (t : Term) → Operand (bit_vector w) t → IfSome (twice BvNeg t) (λ r. Gives (bit_vector w) (apply (op BvNeg) (t ⨾ none)) r)
bvneg_gives w t p = twice_gives BvNeg (bit_vector w) t (bvneg_undone w) p

-- ---- all bits, and a move by none

pub extraction_gives : (high low w : ℕ) (t : Term) (s : Sort) → Operand (bit_vector w) t → s ≡ bit_vector (high - low + 1) → IfSome (vectors.extraction high low t) (λ r. Gives s (apply (op (Extract high low)) (t ⨾ none)) r)
unfolding op_value
extraction_gives high low w t s p e =
    by_if (λ r. Gives s (apply (op (Extract high low)) (t ⨾ none)) r) ((low == 0) && (vectors.width_of t == suc high)) t None
    (λ h.
    let parts = both_true (low == 0) (vectors.width_of t == suc high) h in
    let none_low : low ≡ 0 = (Decides-eqb low 0).0 parts.0 in
    let whole : w ≡ suc high = sym (width_of-vector w t p) ∙ (Decides-eqb (vectors.width_of t) (suc high)).0 parts.1 in
    let size : high - low + 1 ≡ w = omega arith in
    let sort : s ≡ bit_vector w = e ∙ ap bit_vector size in
    subst (λ r. Gives r (apply (op (Extract high low)) (t ⨾ none)) t) (sym sort)
    (gives_bits w (apply (op (Extract high low)) (t ⨾ none)) t p (λ m f model env.
    ap (λ l. extract high l (bits_of (val m t f))) none_low ∙ extract-all high (bits_of (val m t f)) (width_value w t p m f model env ∙ whole))))
    tt

module _ (i w : ℕ) (t : Term) (s : Sort) (p : Operand (bit_vector w) t) where
  moved_gives : (o : Op) (f : ℕ → BitVector → BitVector) → ((bs : BitVector) → f 0 bs ≡ bs) → ((m : Model) (e : Env) → bits_of (val m (apply (op o) (t ⨾ none)) e) ≡ f i (bits_of (val m t e))) → (i ≡ 0 → s ≡ bit_vector w) → IfSome (vectors.movement i t) (λ r. Gives s (apply (op o) (t ⨾ none)) r)
  moved_gives o f still values sort =
      by_if (λ r. Gives s (apply (op o) (t ⨾ none)) r) (i == 0) t None
      (λ h. let zero_move : i ≡ 0 = (Decides-eqb i 0).0 h in
      subst (λ r. Gives r (apply (op o) (t ⨾ none)) t) (sym (sort zero_move))
      (gives_bits w (apply (op o) (t ⨾ none)) t p (λ m e model env. values m e ∙ ap (λ k. f k (bits_of (val m t e))) zero_move ∙ still (bits_of (val m t e)))))
      tt

  longer : s ≡ bit_vector (w + i) → i ≡ 0 → s ≡ bit_vector w
  longer e h = let size : w + i ≡ w = omega arith in e ∙ ap bit_vector size

  pub zero_extend_gives : s ≡ bit_vector (w + i) → IfSome (vectors.movement i t) (λ r. Gives s (apply (op (ZeroExt i)) (t ⨾ none)) r)
  unfolding op_value
  zero_extend_gives e = moved_gives (ZeroExt i) zero_extend zero_extend-none (λ m f. refl) (longer e)

  pub sign_extend_gives : s ≡ bit_vector (w + i) → IfSome (vectors.movement i t) (λ r. Gives s (apply (op (SignExt i)) (t ⨾ none)) r)
  unfolding op_value
  sign_extend_gives e = moved_gives (SignExt i) sign_extend sign_extend-none (λ m f. refl) (longer e)

  pub rotate_left_gives : s ≡ bit_vector w → IfSome (vectors.movement i t) (λ r. Gives s (apply (op (RotL i)) (t ⨾ none)) r)
  unfolding op_value
  rotate_left_gives e = moved_gives (RotL i) rotate_left rotate_left-none (λ m f. refl) (λ h. e)

  pub rotate_right_gives : s ≡ bit_vector w → IfSome (vectors.movement i t) (λ r. Gives s (apply (op (RotR i)) (t ⨾ none)) r)
  unfolding op_value
  rotate_right_gives e = moved_gives (RotR i) rotate_right rotate_right-none (λ m f. refl) (λ h. e)

-- ---- comparisons with itself

lt_itself : (n : ℕ) → nat_lt n n ≡ false
lt_itself n = grind (arith, nat_tests)

le_itself : (n : ℕ) → nat_le n n ≡ true
le_itself n = grind (arith, nat_tests)

int_lt_itself : (z : ℤ) → int_lt z z ≡ false
int_lt_itself (pos n) = lt_itself n
int_lt_itself (negsuc n) = lt_itself n

int_le_itself : (z : ℤ) → int_le z z ≡ true
int_le_itself (pos n) = le_itself n
int_le_itself (negsuc n) = le_itself n

module _ (s t : Term) where
  itself_gives : (o : Op) (b : Bool) → ((m : Model) (e : Env) → s ≡ t → is_true (val m (node o s t) e) ≡ b) → IfSome (numbers.with_itself b s t) (λ r. Gives bool (node o s t) r)
  unfolding op_value
  itself_gives o b values = by_if (λ r. Gives bool (node o s t) r) (term_eq s t) (truth_term b) None
      (λ h. gives_truth (node o s t) (truth_term b) (truth_operand b) (λ m e model env. values m e ((Decides-term_eq s t).0 h))) tt

  pub le_gives : IfSome (numbers.with_itself true s t) (λ r. Gives bool (node Le s t) r)
  unfolding op_value
  le_gives = itself_gives Le true (λ m e h. ap (λ u. int_le (number (val m s e)) (number (val m u e))) (sym h) ∙ int_le_itself (number (val m s e)))

  pub lt_gives : IfSome (numbers.with_itself false s t) (λ r. Gives bool (node Lt s t) r)
  unfolding op_value
  lt_gives = itself_gives Lt false (λ m e h. ap (λ u. int_lt (number (val m s e)) (number (val m u e))) (sym h) ∙ int_lt_itself (number (val m s e)))

  pub bvult_gives : IfSome (numbers.with_itself false s t) (λ r. Gives bool (node BvUlt s t) r)
  unfolding op_value
  bvult_gives = itself_gives BvUlt false (λ m e h. ap (λ u. bvult (bits_of (val m s e)) (bits_of (val m u e))) (sym h) ∙ lt_itself _)

  pub bvule_gives : IfSome (numbers.with_itself true s t) (λ r. Gives bool (node BvUle s t) r)
  unfolding op_value
  bvule_gives = itself_gives BvUle true (λ m e h. ap (λ u. bvule (bits_of (val m s e)) (bits_of (val m u e))) (sym h) ∙ le_itself _)

  pub bvslt_gives : IfSome (numbers.with_itself false s t) (λ r. Gives bool (node BvSlt s t) r)
  unfolding op_value
  bvslt_gives = itself_gives BvSlt false (λ m e h. ap (λ u. bvslt (bits_of (val m s e)) (bits_of (val m u e))) (sym h) ∙ int_lt_itself (bv2int (bits_of (val m s e))))

  pub bvsle_gives : IfSome (numbers.with_itself true s t) (λ r. Gives bool (node BvSle s t) r)
  unfolding op_value
  bvsle_gives = itself_gives BvSle true (λ m e h. ap (λ u. bvsle (bits_of (val m s e)) (bits_of (val m u e))) (sym h) ∙ int_le_itself (bv2int (bits_of (val m s e))))
