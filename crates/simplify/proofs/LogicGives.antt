-- The laws of the operators of Core on two and three operands give terms of the same value.
use Rattle.std.proofs.Common.{◌≡◌, ◌≤◌, Bool, true, false, not, cond, ◌&&◌, ◌||◌, [], ◌∷◌, Some, refl, ap, sym, ◌∙◌, subst, arith}
use Rattle.std.specs.Prelude.{IfSome}
use Rattle.std.specs.Bool.{beq}
use Rattle.smt_terms.specs.declared.op.Op.TheVariants.{Not, Xor, Implies, Equal, Ite}
use Rattle.smt_terms.specs.Sorts.{Sort, bool}
use Rattle.smt_terms.specs.Term.{op, Term, apply, none, ◌⨾◌}
use Rattle.smt_terms.specs.Connectives.{truth_term, negated, opposite}
use Rattle.smt_terms.specs.Equal.{term_eq}
use Rattle.smt_terms.specs.Models.{Model}
use Rattle.smt_terms.specs.Operators.{op_value}
use Rattle.smt_terms.specs.Rank.{shape, width, most_bits, sort_of, is_minus, is_regular}
use Rattle.smt_terms.specs.Val.{Env, val}
use Rattle.smt_terms.specs.Values.{Value, is_true, same}
use Rattle.smt_terms.proofs.Equal.{Decides-term_eq}
use Rattle.smt_terms.proofs.Keeping.{not_minus}
use Rattle.smt_terms.proofs.Operands.{equal_value, more_sorts}
use Rattle.smt_terms.proofs.Ranked.{rank-takes, takes-rank}
use Rattle.smt_terms.proofs.Sorted.{applied, sort_of-apply}
use Rattle.smt_terms.proofs.SortsOfTerms.{regular, regular_over}
use Rattle.smt_terms.proofs.Respects.{equal_same}
use Rattle.smt_terms.proofs.Same.{same-itself}
use Rattle.smt_terms.proofs.Tests.{both_true, and_true}
use Rattle.simplify.specs.Folding.{is_truth}
use Rattle.simplify.specs.Logic as logic
use Rattle.simplify.proofs.Gives.{Operand, Gives, one_operand, by_if, gives_truth, truth_operand, truth_read}
use Rattle.simplify.proofs.VectorsGive.{node}

-- ---- truth values

true_alike : (b : Bool) → beq true b ≡ b
true_alike true = refl
true_alike false = refl

alike_true : (b : Bool) → beq b true ≡ b
alike_true true = refl
alike_true false = refl

false_alike : (b : Bool) → beq false b ≡ not b
false_alike true = refl
false_alike false = refl

alike_false : (b : Bool) → beq b false ≡ not b
alike_false true = refl
alike_false false = refl

alike_itself : (b : Bool) → beq b b ≡ true
alike_itself true = refl
alike_itself false = refl

twice_not : (b : Bool) → not (not b) ≡ b
twice_not true = refl
twice_not false = refl

or_true : (b : Bool) → (b || true) ≡ true
or_true true = refl
or_true false = refl

or_false : (b : Bool) → (b || false) ≡ b
or_false true = refl
or_false false = refl

either_way : (b : Bool) → (not b || b) ≡ true
either_way true = refl
either_way false = refl

cond_itself : (b : Bool) (v : Value) → cond b v v ≡ v
cond_itself true v = refl
cond_itself false v = refl

as_it_is : (b : Bool) (v w : Value) → is_true v ≡ true → is_true w ≡ false → is_true (cond b v w) ≡ b
as_it_is true v w p q = p
as_it_is false v w p q = q

the_other : (b : Bool) (v w : Value) → is_true v ≡ false → is_true w ≡ true → is_true (cond b v w) ≡ not b
the_other true v w p q = p
the_other false v w p q = q

-- ---- the opposite of a truth value

not_operand : (t : Term) → Operand bool (apply (op Not) (t ⨾ none)) → Operand bool t
unfolding shape
not_operand t o =
    let parts = applied (op Not) (t ⨾ none) bool o.has in
    one_operand t bool (parts.operands ∙ ap (λ rs. Some rs) (rank-takes (op Not) parts.sorts bool parts.rank).0) (regular (op Not) (t ⨾ none) o.rules).operands

negated_operand : (t : Term) → Operand bool t → Operand bool (negated t)
unfolding shape is_minus
negated_operand t o =
    let narrow : width bool ≤ most_bits = omega arith in
    record {
      has = sort_of-apply (op Not) (t ⨾ none) (bool ∷ []) bool (more_sorts t none bool [] o.has refl) (takes-rank (op Not) (bool ∷ []) bool (refl, refl) narrow);
      rules = regular_over (op Not) (t ⨾ none) (record { head = refl; no_minus = ap not (not_minus Not (t ⨾ none) refl); operands = and_true (is_regular t) true o.rules refl });
    }

-- a term that is the opposite of another
record Opposes (t u : Term) : Type 0 where
  result : Operand bool u
  values : (m : Model) (e : Env) → is_true (val m u e) ≡ not (is_true (val m t e))

negated_opposes : (t : Term) → Operand bool t → Opposes t (negated t)
unfolding op_value
negated_opposes t o = record { result = negated_operand t o; values = λ m e. refl }

opposes : (t : Term) → Operand bool t → Opposes t (opposite t)
unfolding op_value
opposes (apply (op Not) (t ⨾ none)) o = record { result = not_operand t o; values = λ m e. sym (twice_not (is_true (val m t e))) }
opposes t o = negated_opposes t o

-- ---- two truth values

module _ (s t : Term) (p : Operand bool s) (q : Operand bool t) where
  abbrev B : Model → Env → Term → Bool
  B m e u = is_true (val m u e)

  equal_truths : term_eq s t ≡ true → (m : Model) (e : Env) → B m e t ≡ B m e s
  equal_truths h m e = ap (λ u. B m e u) (sym ((Decides-term_eq s t).0 h))

  pub exclusive_gives : IfSome (logic.exclusive s t) (λ r. Gives bool (node Xor s t) r)
  unfolding op_value
  exclusive_gives =
      by_if (λ r. Gives bool (node Xor s t) r) (term_eq s t) (truth_term false) _ (λ h. gives_truth (node Xor s t) (truth_term false) (truth_operand false) (λ m e model env.
      ap (λ b. not (beq (B m e s) b)) (equal_truths h m e) ∙ ap not (alike_itself (B m e s))))
      (by_if (λ r. Gives bool (node Xor s t) r) (is_truth true s) (opposite t) _ (λ h. gives_truth (node Xor s t) (opposite t) (opposes t q).result (λ m e model env.
      ap (λ b. not (beq b (B m e t))) (truth_read true s h m e) ∙ ap not (true_alike (B m e t)) ∙ sym ((opposes t q).values m e)))
      (by_if (λ r. Gives bool (node Xor s t) r) (is_truth true t) (opposite s) _ (λ h. gives_truth (node Xor s t) (opposite s) (opposes s p).result (λ m e model env.
      ap (λ b. not (beq (B m e s) b)) (truth_read true t h m e) ∙ ap not (alike_true (B m e s)) ∙ sym ((opposes s p).values m e)))
      (by_if (λ r. Gives bool (node Xor s t) r) (is_truth false s) t _ (λ h. gives_truth (node Xor s t) t q (λ m e model env.
      ap (λ b. not (beq b (B m e t))) (truth_read false s h m e) ∙ ap not (false_alike (B m e t)) ∙ twice_not (B m e t)))
      (by_if (λ r. Gives bool (node Xor s t) r) (is_truth false t) s _ (λ h. gives_truth (node Xor s t) s p (λ m e model env.
      ap (λ b. not (beq (B m e s) b)) (truth_read false t h m e) ∙ ap not (alike_false (B m e s)) ∙ twice_not (B m e s)))
      tt))))

  pub implication_gives : IfSome (logic.implication s t) (λ r. Gives bool (node Implies s t) r)
  unfolding op_value
  implication_gives =
      by_if (λ r. Gives bool (node Implies s t) r) (is_truth false s) (truth_term true) _ (λ h. gives_truth (node Implies s t) (truth_term true) (truth_operand true) (λ m e model env.
      ap (λ b. not b || B m e t) (truth_read false s h m e)))
      (by_if (λ r. Gives bool (node Implies s t) r) (is_truth true t) (truth_term true) _ (λ h. gives_truth (node Implies s t) (truth_term true) (truth_operand true) (λ m e model env.
      ap (λ b. not (B m e s) || b) (truth_read true t h m e) ∙ or_true (not (B m e s))))
      (by_if (λ r. Gives bool (node Implies s t) r) (term_eq s t) (truth_term true) _ (λ h. gives_truth (node Implies s t) (truth_term true) (truth_operand true) (λ m e model env.
      ap (λ b. not (B m e s) || b) (equal_truths h m e) ∙ either_way (B m e s)))
      (by_if (λ r. Gives bool (node Implies s t) r) (is_truth true s) t _ (λ h. gives_truth (node Implies s t) t q (λ m e model env.
      ap (λ b. not b || B m e t) (truth_read true s h m e)))
      (by_if (λ r. Gives bool (node Implies s t) r) (is_truth false t) (opposite s) _ (λ h. gives_truth (node Implies s t) (opposite s) (opposes s p).result (λ m e model env.
      ap (λ b. not (B m e s) || b) (truth_read false t h m e) ∙ or_false (not (B m e s)) ∙ sym ((opposes s p).values m e)))
      tt))))

-- ---- an equation, and a choice

bool_sort : (b : Bool) (u : Sort) (s : Term) → is_truth b s ≡ true → Operand u s → u ≡ bool
bool_sort b u s h p =
    let one : Some u ≡ Some bool = sym p.has ∙ ap sort_of ((Decides-term_eq s (truth_term b)).0 h) ∙ (truth_operand b).has in
    let sort : u ≡ bool = cc in
    sort

pub truth_is : (b : Bool) (m : Model) (e : Env) → is_true (val m (truth_term b) e) ≡ b
unfolding op_value
truth_is b m e = refl

at_bool : (u : Sort) (t : Term) → u ≡ bool → Operand u t → Operand bool t
at_bool u t e o = subst (λ r. Operand r t) e o

module _ (u : Sort) (s t : Term) (p : Operand u s) (q : Operand u t) where
  equation_value : u ≡ bool → (m : Model) (e : Env) → is_true (val m (node Equal s t) e) ≡ beq (is_true (val m s e)) (is_true (val m t e))
  equation_value sort m e = ap is_true (equal_value m e s t bool (p.has ∙ ap (λ r. Some r) sort) (q.has ∙ ap (λ r. Some r) sort))

  pub equation_gives : IfSome (logic.equation s t) (λ r. Gives bool (node Equal s t) r)
  equation_gives =
      by_if (λ r. Gives bool (node Equal s t) r) (term_eq s t) (truth_term true) _ (λ h. gives_truth (node Equal s t) (truth_term true) (truth_operand true) (λ m e model env.
      ap is_true (equal_value m e s t u p.has q.has) ∙ ap (λ w. same u m.sizes (val m s e) (val m w e)) (sym ((Decides-term_eq s t).0 h)) ∙ same-itself u m.sizes (val m s e) ∙ sym (truth_is true m e)))
      (by_if (λ r. Gives bool (node Equal s t) r) (is_truth true s) t _ (λ h.
      let sort = bool_sort true u s h p in gives_truth (node Equal s t) t (at_bool u t sort q) (λ m e model env.
      equation_value sort m e ∙ ap (λ b. beq b (is_true (val m t e))) (truth_read true s h m e) ∙ true_alike (is_true (val m t e))))
      (by_if (λ r. Gives bool (node Equal s t) r) (is_truth true t) s _ (λ h.
      let sort = bool_sort true u t h q in gives_truth (node Equal s t) s (at_bool u s sort p) (λ m e model env.
      equation_value sort m e ∙ ap (λ b. beq (is_true (val m s e)) b) (truth_read true t h m e) ∙ alike_true (is_true (val m s e))))
      (by_if (λ r. Gives bool (node Equal s t) r) (is_truth false s) (opposite t) _ (λ h.
      let sort = bool_sort false u s h p in let o = opposes t (at_bool u t sort q) in gives_truth (node Equal s t) (opposite t) o.result (λ m e model env.
      equation_value sort m e ∙ ap (λ b. beq b (is_true (val m t e))) (truth_read false s h m e) ∙ false_alike (is_true (val m t e)) ∙ sym (o.values m e)))
      (by_if (λ r. Gives bool (node Equal s t) r) (is_truth false t) (opposite s) _ (λ h.
      let sort = bool_sort false u t h q in let o = opposes s (at_bool u s sort p) in gives_truth (node Equal s t) (opposite s) o.result (λ m e model env.
      equation_value sort m e ∙ ap (λ b. beq (is_true (val m s e)) b) (truth_read false t h m e) ∙ alike_false (is_true (val m s e)) ∙ sym (o.values m e)))
      tt))))

  abbrev chosen : Term → Term
  chosen c = apply (op Ite) (c ⨾ s ⨾ t ⨾ none)

  pub choice_gives : (c : Term) → Operand bool c → IfSome (logic.choice c s t) (λ r. Gives u (chosen c) r)
  unfolding op_value
  choice_gives c o =
      by_if (λ r. Gives u (chosen c) r) (is_truth true c) s _ (λ h. record {
        result = p;
        values = λ m e model env.
            equal_same u m.sizes (ap (λ b. cond b (val m s e) (val m t e)) (truth_read true c h m e));
      })
      (by_if (λ r. Gives u (chosen c) r) (is_truth false c) t _ (λ h. record {
        result = q;
        values = λ m e model env.
            equal_same u m.sizes (ap (λ b. cond b (val m s e) (val m t e)) (truth_read false c h m e));
      })
      (by_if (λ r. Gives u (chosen c) r) (term_eq s t) s _ (λ h. record {
        result = p;
        values = λ m e model env.
            equal_same u m.sizes (ap (λ w. cond (is_true (val m c e)) (val m s e) (val m w e)) (sym ((Decides-term_eq s t).0 h)) ∙ cond_itself (is_true (val m c e)) (val m s e));
      })
      (by_if (λ r. Gives u (chosen c) r) (is_truth true s && is_truth false t) c _ (λ h.
      let parts = both_true (is_truth true s) (is_truth false t) h in
      subst (λ w. Gives w (chosen c) c) (sym (bool_sort true u s parts.0 p)) (gives_truth (chosen c) c o (λ m e model env.
      as_it_is (is_true (val m c e)) (val m s e) (val m t e) (truth_read true s parts.0 m e) (truth_read false t parts.1 m e))))
      (by_if (λ r. Gives u (chosen c) r) (is_truth false s && is_truth true t) (opposite c) _ (λ h.
      let parts = both_true (is_truth false s) (is_truth true t) h in
      subst (λ w. Gives w (chosen c) (opposite c)) (sym (bool_sort false u s parts.0 p)) (gives_truth (chosen c) (opposite c) (opposes c o).result (λ m e model env.
      the_other (is_true (val m c e)) (val m s e) (val m t e) (truth_read false s parts.0 m e) (truth_read true t parts.1 m e) ∙ sym ((opposes c o).values m e))))
      tt))))
