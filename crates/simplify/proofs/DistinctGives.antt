-- The law of `distinct` gives a term of the same value.
use Rattle.std.proofs.Common.{◌≡◌, suc, Bool, true, false, not, ◌&&◌, ◌||◌, inl, inr, nat_le, List, [], ◌∷◌, length, Option, Some, None, refl, ap, sym, ◌∙◌}
use Rattle.std.specs.Prelude.{IfSome, unwrap_or}
use Rattle.std.specs.Bool.{beq}
use Rattle.std.specs.List.{list_any}
use Rattle.smt_terms.specs.declared.op.Op.TheVariants.{Distinct}
use Rattle.smt_terms.specs.Sorts.{Sort, bool, int, bit_vector, array, free_sort}
use Rattle.smt_terms.specs.Term.{op, Term, apply, Terms, none, ◌⨾◌, list}
use Rattle.smt_terms.specs.Connectives.{truth_term}
use Rattle.smt_terms.specs.Equal.{term_eq}
use Rattle.smt_terms.specs.Models.{Model, background}
use Rattle.smt_terms.specs.Operators.{op_value, all_distinct}
use Rattle.smt_terms.specs.Rank.{sorts_of}
use Rattle.smt_terms.specs.Val.{Env, val, vals}
use Rattle.smt_terms.specs.Values.{Value, Sizes, is_true, same}
use Rattle.smt_terms.proofs.Equal.{Decides-term_eq}
use Rattle.smt_terms.proofs.Operands.{fewer_sorts}
use Rattle.smt_terms.proofs.Respects.{equal_same}
use Rattle.smt_terms.proofs.Tests.{both_true, either_true, left_true, right_true}
use Rattle.simplify.specs.Folding.{has_term}
use Rattle.simplify.specs.Logic as logic
use Rattle.simplify.proofs.Gives.{Gives, by_if, gives_truth, truth_operand}

-- ---- copies

module _ (m : Model) (e : Env) (u : Sort) where
  copy_behind : (t : Term) (us : Terms) → has_term (list us) t ≡ true → list_any (same u m.sizes (val m t e)) (vals m us e) ≡ true
  copy_behind t none h = absurd cc
  copy_behind t (w ⨾ us) h = elim (either_true (term_eq t w) (has_term (list us) t) h) [
    | inl here ↦ left_true (same u m.sizes (val m t e) (val m w e)) (list_any (same u m.sizes (val m t e)) (vals m us e)) (equal_same u m.sizes (ap (λ x. val m x e) ((Decides-term_eq t w).0 here)))
    | inr behind ↦ right_true (same u m.sizes (val m t e) (val m w e)) (list_any (same u m.sizes (val m t e)) (vals m us e)) (copy_behind t us behind)
  ]

  not_all : (b c : Bool) → (b ≡ true → (not b && c) ≡ false)
  not_all true c h = refl
  not_all false c h = absurd cc

  not_behind : (b c : Bool) → c ≡ false → (b && c) ≡ false
  not_behind true c h = h
  not_behind false c h = refl

  copies_alike : (us : Terms) → logic.has_copies (list us) ≡ true → all_distinct (same u m.sizes) (vals m us e) ≡ false
  copies_alike none h = absurd cc
  copies_alike (t ⨾ us) h = elim (either_true (has_term (list us) t) (logic.has_copies (list us)) h) [
    | inl here ↦ not_all (list_any (same u m.sizes (val m t e)) (vals m us e)) (all_distinct (same u m.sizes) (vals m us e)) (copy_behind t us here)
    | inr behind ↦ not_behind (not (list_any (same u m.sizes (val m t e)) (vals m us e))) (all_distinct (same u m.sizes) (vals m us e)) (copies_alike us behind)
  ]

-- ---- three truth values

three_truths : (a b c x y z : Bool) → (not (beq a b || (beq a c || x)) && (not (beq b c || y) && z)) ≡ false
three_truths true true c x y z = refl
three_truths false false c x y z = refl
three_truths true false true x y z = refl
three_truths false true false x y z = refl
three_truths true false false true y z = refl
three_truths true false false false y z = refl
three_truths false true true true y z = refl
three_truths false true true false y z = refl

three_alike : (sizes : Sizes) (vs : List Value) → nat_le 3 (length vs) ≡ true → all_distinct (same bool sizes) vs ≡ false
three_alike sizes [] h = absurd cc
three_alike sizes (v ∷ []) h = absurd cc
three_alike sizes (v ∷ w ∷ []) h = absurd cc
three_alike sizes (v ∷ w ∷ x ∷ vs) h =
    three_truths (is_true v) (is_true w) (is_true x) (list_any (same bool sizes v) vs) (list_any (same bool sizes w) vs) (not (list_any (same bool sizes x) vs) && all_distinct (same bool sizes) vs)

length-vals : (m : Model) (e : Env) (us : Terms) → length (vals m us e) ≡ length (list us)
length-vals m e none = refl
length-vals m e (u ⨾ us) = ap suc (length-vals m e us)

only_bool : (u : Sort) → logic.is_bool (Some u) ≡ true → u ≡ bool
only_bool bool h = refl
only_bool int h = absurd cc
only_bool (bit_vector w) h = absurd cc
only_bool (array i e) h = absurd cc
only_bool (free_sort n) h = absurd cc

starts_with_bool : (u : Sort) (ss : List Sort) (us : Terms) → sorts_of us ≡ Some (u ∷ ss) → logic.starts_bool (list us) ≡ true → u ≡ bool
starts_with_bool u ss none has h = absurd cc
starts_with_bool u ss (t ⨾ us) has h = only_bool u (ap logic.is_bool (sym (fewer_sorts t us u ss has).0) ∙ h)

-- ---- the law

pub distinctness_gives : (u : Sort) (ss : List Sort) (us : Terms) → sorts_of us ≡ Some (u ∷ ss) → IfSome (logic.distinctness (list us)) (λ r. Gives bool (apply (op Distinct) us) r)
unfolding op_value
distinctness_gives u ss us has =
    by_if (λ r. Gives bool (apply (op Distinct) us) r) (logic.has_copies (list us) || (nat_le 3 (length (list us)) && logic.starts_bool (list us))) (truth_term false) None
    (λ h. gives_truth (apply (op Distinct) us) (truth_term false) (truth_operand false) (λ m e model env.
    ap (λ (o : Option (List Sort)). is_true (op_value (background m) Distinct (unwrap_or o []) (vals m us e))) has ∙ none_distinct m e h))
    tt
  where
    none_distinct : (m : Model) (e : Env) → (logic.has_copies (list us) || (nat_le 3 (length (list us)) && logic.starts_bool (list us))) ≡ true → all_distinct (same u m.sizes) (vals m us e) ≡ false
    none_distinct m e h = elim (either_true (logic.has_copies (list us)) (nat_le 3 (length (list us)) && logic.starts_bool (list us)) h) [
      | inl copies ↦ copies_alike m e u us copies
      | inr three ↦
          let parts = both_true (nat_le 3 (length (list us))) (logic.starts_bool (list us)) three in
          ap (λ r. all_distinct (same r m.sizes) (vals m us e)) (starts_with_bool u ss us has parts.1)
          ∙ three_alike m.sizes (vals m us e) (ap (λ n. nat_le 3 n) (length-vals m e us) ∙ parts.0)
    ]
