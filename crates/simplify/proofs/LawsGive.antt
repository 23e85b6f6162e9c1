-- Each operator's law gives a term that may stand for the operator's node.
use Rattle.std.proofs.Common.{◌≡◌, ℕ, suc, true, false, ◌&&◌, List, [], ◌∷◌, replicate, Option, Some, refl, ap, sym, ◌∙◌, subst}
use Rattle.std.specs.Prelude.{IfSome, is_some}
use Rattle.smt_terms.specs.declared.op.Op.{Op}
use Rattle.smt_terms.specs.declared.op.Op.TheVariants.{Not, And, Or, Xor, Implies, Equal, Distinct, Ite, Neg, Sub, Add, Mul, Div, Mod, Le, Lt, Extract, BvNot, BvNeg, BvAnd, BvOr, BvXor, BvAdd, BvMul, BvSub, BvUdiv, BvUrem, BvShl, BvLshr, BvAshr, BvComp, BvUlt, BvUle, BvSlt, BvSle, ZeroExt, SignExt, RotL, RotR, Select, Store}
use Rattle.smt_terms.specs.Sorts.{Sort, bool, int, bit_vector, array}
use Rattle.smt_terms.specs.Term.{op, Term, apply, Terms, none, ◌⨾◌, list}
use Rattle.smt_terms.specs.ArrayTerms.{selected, stored}
use Rattle.smt_terms.specs.Keeps.{Keeps}
use Rattle.smt_terms.specs.Rank.{shape, sort_of, sorts_of, is_sort, is_regular, are_regular}
use Rattle.smt_terms.specs.Takes.{Takes}
use Rattle.smt_terms.proofs.Operands.{fewer_sorts, narrow_sort, sort_over_more, regular_over_more, well_sorted}
use Rattle.smt_terms.proofs.Tests.{both_true}
use Rattle.simplify.specs.Folding.{one, two, three, twice}
use Rattle.simplify.specs.Logic as logic
use Rattle.simplify.specs.Numbers as numbers
use Rattle.simplify.specs.Vectors as vectors
use Rattle.simplify.specs.Arrays.{selection, storing}
use Rattle.simplify.specs.Simplify.{law}
use Rattle.simplify.proofs.ArraysGive.{selection_keeps}
use Rattle.simplify.proofs.DistinctGives.{distinctness_gives}
use Rattle.simplify.proofs.Gives.{Operand, Gives, one_operand, two_operands}
use Rattle.simplify.proofs.JunctionGives.{conjunction_gives, disjunction_gives}
use Rattle.simplify.proofs.Lists.{Each, each}
use Rattle.simplify.proofs.LogicGives.{exclusive_gives, implication_gives, equation_gives, choice_gives}
use Rattle.simplify.proofs.NumbersGive.{subtraction_gives, division_gives, remainder_gives}
use Rattle.simplify.proofs.StoresGive.{storing_keeps}
use Rattle.simplify.proofs.SumsGive as sums
use Rattle.simplify.proofs.UnaryGive.{not_gives, neg_gives, bvnot_gives, bvneg_gives, extraction_gives, zero_extend_gives, sign_extend_gives, rotate_left_gives, rotate_right_gives, le_gives, lt_gives, bvult_gives, bvule_gives, bvslt_gives, bvsle_gives}
use Rattle.simplify.proofs.VectorsGive as bits

-- ---- laws for so many operands

-- what keeps a node's value may stand for it
kept_gives : (t r : Term) (s : Sort) → sort_of t ≡ Some s → Keeps t r → Gives s t r
kept_gives t r s has k = record {
  result = record { has = k.sort ∙ has; rules = (both_true (is_some (sort_of r)) (is_regular r) k.sorted).1 };
  values = λ m e model env. k.value m e s model env has;
}

-- an answer for a node of this sort
abbrev Answered : Op → Terms → Sort → Option Term → Type 0
Answered o us s answer = IfSome answer (λ r. Gives s (apply (op o) us) r)

over_one : (o : Op) (us : Terms) (s r : Sort) (rule : Term → Option Term) → sorts_of us ≡ Some (r ∷ []) → are_regular us ≡ true → ((t : Term) → Operand r t → Answered o (t ⨾ none) s (rule t)) → Answered o us s (one rule (list us))
over_one o none s r rule has fine gives = tt
over_one o (t ⨾ none) s r rule has fine gives = gives t (one_operand t r has fine)
over_one o (t ⨾ u ⨾ us) s r rule has fine gives = tt

over_two : (o : Op) (us : Terms) (s r q : Sort) (rule : Term → Term → Option Term) → sorts_of us ≡ Some (r ∷ q ∷ []) → are_regular us ≡ true → ((t u : Term) → Operand r t → Operand q u → Answered o (t ⨾ u ⨾ none) s (rule t u)) → Answered o us s (two rule (list us))
over_two o none s r q rule has fine gives = tt
over_two o (t ⨾ none) s r q rule has fine gives = tt
over_two o (t ⨾ u ⨾ none) s r q rule has fine gives = let both = two_operands t u r q has fine in gives t u both.0 both.1
over_two o (t ⨾ u ⨾ v ⨾ us) s r q rule has fine gives = tt

over_three : (o : Op) (us : Terms) (s p r q : Sort) (rule : Term → Term → Term → Option Term) → sorts_of us ≡ Some (p ∷ r ∷ q ∷ []) → are_regular us ≡ true → ((t u v : Term) → Operand p t → Operand r u → Operand q v → Answered o (t ⨾ u ⨾ v ⨾ none) s (rule t u v)) → Answered o us s (three rule (list us))
over_three o none s p r q rule has fine gives = tt
over_three o (t ⨾ none) s p r q rule has fine gives = tt
over_three o (t ⨾ u ⨾ none) s p r q rule has fine gives = tt
over_three o (t ⨾ u ⨾ v ⨾ none) s p r q rule has fine gives =
    let first = fewer_sorts t (u ⨾ v ⨾ none) p (r ∷ q ∷ []) has in
    let rules = both_true (is_regular t) (is_regular u && (is_regular v && true)) fine in
    let rest = two_operands u v r q first.1 rules.1 in
    gives t u v (record { has = first.0; rules = rules.0 }) rest.0 rest.1
over_three o (t ⨾ u ⨾ v ⨾ w ⨾ us) s p r q rule has fine gives = tt

-- ---- arrays

selection_gives : (i s : Sort) (us : Terms) → sorts_of us ≡ Some (array i s ∷ i ∷ []) → are_regular us ≡ true → is_sort s ≡ true → Answered Select us s (two (λ a j. Some (selection a j)) (list us))
unfolding shape
selection_gives i s (a ⨾ j ⨾ none) has fine sort =
    let there : sort_of (selected a j) ≡ Some s = sort_over_more Select a j none (array i s ∷ i ∷ []) s has (i, refl) (narrow_sort s sort) in
    kept_gives (selected a j) (selection a j) s there (selection_keeps a j (well_sorted (selected a j) s there (regular_over_more Select a j none fine)))
selection_gives i s none has fine sort = tt
selection_gives i s (a ⨾ none) has fine sort = tt
selection_gives i s (a ⨾ j ⨾ u ⨾ us) has fine sort = tt

storing_gives : (i x s : Sort) (us : Terms) → sorts_of us ≡ Some (array i x ∷ i ∷ x ∷ []) → are_regular us ≡ true → s ≡ array i x → is_sort s ≡ true → Answered Store us s (three (λ a j v. Some (storing a j v)) (list us))
unfolding shape
storing_gives i x s (a ⨾ j ⨾ v ⨾ none) has fine result sort =
    let there : sort_of (stored a j v) ≡ Some s = sort_over_more Store a j (v ⨾ none) (array i x ∷ i ∷ x ∷ []) s has (i, x, refl, result) (narrow_sort s sort) in
    kept_gives (stored a j v) (storing a j v) s there (storing_keeps a j v (well_sorted (stored a j v) s there (regular_over_more Store a j (v ⨾ none) fine)))
storing_gives i x s none has fine result sort = tt
storing_gives i x s (a ⨾ none) has fine result sort = tt
storing_gives i x s (a ⨾ j ⨾ none) has fine result sort = tt
storing_gives i x s (a ⨾ j ⨾ v ⨾ u ⨾ us) has fine result sort = tt

-- ---- operands and result as the operator's shape takes and gives them

module _ (o : Op) (us : Terms) (ss : List Sort) (s : Sort) (has : sorts_of us ≡ Some ss) (fine : are_regular us ≡ true) where
  of_sorts : (rs : List Sort) → ss ≡ rs → sorts_of us ≡ Some rs
  of_sorts rs e = has ∙ ap (λ qs. Some qs) e

  by_one : (rule : Term → Option Term) (r u : Sort) → ss ≡ r ∷ [] → s ≡ u → ((t : Term) → Operand r t → Answered o (t ⨾ none) u (rule t)) → Answered o us s (one rule (list us))
  by_one rule r u e result gives = subst (λ q. Answered o us q (one rule (list us))) (sym result) (over_one o us u r rule (of_sorts (r ∷ []) e) fine gives)

  by_two : (rule : Term → Term → Option Term) (r u : Sort) → ss ≡ r ∷ r ∷ [] → s ≡ u → ((t v : Term) → Operand r t → Operand r v → Answered o (t ⨾ v ⨾ none) u (rule t v)) → Answered o us s (two rule (list us))
  by_two rule r u e result gives = subst (λ q. Answered o us q (two rule (list us))) (sym result) (over_two o us u r r rule (of_sorts (r ∷ r ∷ []) e) fine gives)

  by_all : (rule : List Term → Option Term) (r u : Sort) (n : ℕ) → ss ≡ r ∷ r ∷ replicate n r → s ≡ u → (Each r (list us) → Answered o us u (rule (list us))) → Answered o us s (rule (list us))
  by_all rule r u n e result gives = subst (λ q. Answered o us q (rule (list us))) (sym result) (gives (each r (suc (suc n)) us (of_sorts (r ∷ r ∷ replicate n r) e) fine))

-- ---- the laws

pub law_gives : (o : Op) (us : Terms) (ss : List Sort) (s : Sort) → sorts_of us ≡ Some ss → are_regular us ≡ true → Takes (shape o) ss s → is_sort s ≡ true → Answered o us s (law o (list us))
unfolding law shape
law_gives Not us ss s has fine t sort = by_one Not us ss s has fine (twice Not) bool bool t.0 t.1 not_gives
law_gives And us ss s has fine t sort = by_all And us ss s has fine (λ ts. Some (logic.conjunction ts)) bool bool t.0 t.1 t.2 (conjunction_gives us)
law_gives Or us ss s has fine t sort = by_all Or us ss s has fine (λ ts. Some (logic.disjunction ts)) bool bool t.0 t.1 t.2 (disjunction_gives us)
law_gives Xor us ss s has fine t sort = by_two Xor us ss s has fine logic.exclusive bool bool t.0 t.1 exclusive_gives
law_gives Implies us ss s has fine t sort = by_two Implies us ss s has fine logic.implication bool bool t.0 t.1 implication_gives
law_gives Equal us ss s has fine t sort = by_two Equal us ss s has fine logic.equation t.0 bool t.1 t.2 (equation_gives t.0)
law_gives Distinct us ss s has fine t sort =
    subst (λ q. Answered Distinct us q (logic.distinctness (list us))) (sym t.3) (distinctness_gives t.0 (t.0 ∷ replicate t.1 t.0) us (of_sorts Distinct us ss s has fine (t.0 ∷ t.0 ∷ replicate t.1 t.0) t.2))
law_gives Ite us ss s has fine t sort =
    subst (λ q. Answered Ite us q (three logic.choice (list us))) (sym t.2)
    (over_three Ite us t.0 bool t.0 t.0 logic.choice (of_sorts Ite us ss s has fine (bool ∷ t.0 ∷ t.0 ∷ []) t.1) fine (λ c u v o p q. choice_gives t.0 u v p q c o))
law_gives Neg us ss s has fine t sort = by_one Neg us ss s has fine (twice Neg) int int t.0 t.1 neg_gives
law_gives Sub us ss s has fine t sort = by_two Sub us ss s has fine numbers.subtraction int int t.0 t.1 subtraction_gives
law_gives Add us ss s has fine t sort = by_all Add us ss s has fine numbers.addition int int t.0 t.1 t.2 (sums.addition_gives us)
law_gives Mul us ss s has fine t sort = by_all Mul us ss s has fine numbers.multiplication int int t.0 t.1 t.2 (sums.multiplication_gives us)
law_gives Div us ss s has fine t sort = by_two Div us ss s has fine numbers.division int int t.0 t.1 division_gives
law_gives Mod us ss s has fine t sort = by_two Mod us ss s has fine numbers.remainder int int t.0 t.1 remainder_gives
law_gives Le us ss s has fine t sort = by_two Le us ss s has fine (numbers.with_itself true) int bool t.0 t.1 (λ a b p q. le_gives a b)
law_gives Lt us ss s has fine t sort = by_two Lt us ss s has fine (numbers.with_itself false) int bool t.0 t.1 (λ a b p q. lt_gives a b)
law_gives (Extract high low) us ss s has fine t sort = by_one (Extract high low) us ss s has fine (vectors.extraction high low) (bit_vector t.0) s t.1 refl (λ a p. extraction_gives high low t.0 a s p t.4)
law_gives BvNot us ss s has fine t sort = by_one BvNot us ss s has fine (twice BvNot) (bit_vector t.0) (bit_vector t.0) t.1 t.2 (bvnot_gives t.0)
law_gives BvNeg us ss s has fine t sort = by_one BvNeg us ss s has fine (twice BvNeg) (bit_vector t.0) (bit_vector t.0) t.1 t.2 (bvneg_gives t.0)
law_gives BvAnd us ss s has fine t sort = by_two BvAnd us ss s has fine vectors.bit_and (bit_vector t.0) (bit_vector t.0) t.1 t.2 (bits.bit_and_gives t.0)
law_gives BvOr us ss s has fine t sort = by_two BvOr us ss s has fine vectors.bit_or (bit_vector t.0) (bit_vector t.0) t.1 t.2 (bits.bit_or_gives t.0)
law_gives BvXor us ss s has fine t sort = by_two BvXor us ss s has fine vectors.bit_exclusive (bit_vector t.0) (bit_vector t.0) t.1 t.2 (bits.bit_exclusive_gives t.0)
law_gives BvAdd us ss s has fine t sort = by_two BvAdd us ss s has fine vectors.addition (bit_vector t.0) (bit_vector t.0) t.1 t.2 (bits.addition_gives t.0)
law_gives BvMul us ss s has fine t sort = by_two BvMul us ss s has fine vectors.multiplication (bit_vector t.0) (bit_vector t.0) t.1 t.2 (bits.multiplication_gives t.0)
law_gives BvSub us ss s has fine t sort = by_two BvSub us ss s has fine vectors.subtraction (bit_vector t.0) (bit_vector t.0) t.1 t.2 (bits.subtraction_gives t.0)
law_gives BvUdiv us ss s has fine t sort = by_two BvUdiv us ss s has fine vectors.division (bit_vector t.0) (bit_vector t.0) t.1 t.2 (bits.division_gives t.0)
law_gives BvUrem us ss s has fine t sort = by_two BvUrem us ss s has fine vectors.remainder (bit_vector t.0) (bit_vector t.0) t.1 t.2 (bits.remainder_gives t.0)
law_gives BvShl us ss s has fine t sort = by_two BvShl us ss s has fine vectors.shift (bit_vector t.0) (bit_vector t.0) t.1 t.2 (bits.shift_left_gives t.0)
law_gives BvLshr us ss s has fine t sort = by_two BvLshr us ss s has fine vectors.shift (bit_vector t.0) (bit_vector t.0) t.1 t.2 (bits.shift_right_gives t.0)
law_gives BvAshr us ss s has fine t sort = by_two BvAshr us ss s has fine vectors.shift (bit_vector t.0) (bit_vector t.0) t.1 t.2 (bits.shift_signed_gives t.0)
law_gives BvComp us ss s has fine t sort = by_two BvComp us ss s has fine vectors.comparison (bit_vector t.0) (bit_vector 1) t.1 t.2 (bits.comparison_gives t.0)
law_gives BvUlt us ss s has fine t sort = by_two BvUlt us ss s has fine (numbers.with_itself false) (bit_vector t.0) bool t.1 t.2 (λ a b p q. bvult_gives a b)
law_gives BvUle us ss s has fine t sort = by_two BvUle us ss s has fine (numbers.with_itself true) (bit_vector t.0) bool t.1 t.2 (λ a b p q. bvule_gives a b)
law_gives BvSlt us ss s has fine t sort = by_two BvSlt us ss s has fine (numbers.with_itself false) (bit_vector t.0) bool t.1 t.2 (λ a b p q. bvslt_gives a b)
law_gives BvSle us ss s has fine t sort = by_two BvSle us ss s has fine (numbers.with_itself true) (bit_vector t.0) bool t.1 t.2 (λ a b p q. bvsle_gives a b)
law_gives (ZeroExt i) us ss s has fine t sort = by_one (ZeroExt i) us ss s has fine (vectors.movement i) (bit_vector t.0) s t.1 refl (λ a p. zero_extend_gives i t.0 a s p t.2)
law_gives (SignExt i) us ss s has fine t sort = by_one (SignExt i) us ss s has fine (vectors.movement i) (bit_vector t.0) s t.1 refl (λ a p. sign_extend_gives i t.0 a s p t.2)
law_gives (RotL i) us ss s has fine t sort = by_one (RotL i) us ss s has fine (vectors.movement i) (bit_vector t.0) s t.1 refl (λ a p. rotate_left_gives i t.0 a s p t.3)
law_gives (RotR i) us ss s has fine t sort = by_one (RotR i) us ss s has fine (vectors.movement i) (bit_vector t.0) s t.1 refl (λ a p. rotate_right_gives i t.0 a s p t.3)
law_gives Select us ss s has fine t sort = selection_gives t.0 s us (of_sorts Select us ss s has fine (array t.0 s ∷ t.0 ∷ []) t.1) fine sort
law_gives Store us ss s has fine t sort = storing_gives t.0 t.1 s us (of_sorts Store us ss s has fine (array t.0 t.1 ∷ t.0 ∷ t.1 ∷ []) t.2) fine t.3 sort
law_gives _ us ss s has fine t sort = tt
