-- Where each constant has the value of its term, a term with constants in place of its `ite` terms has the value that the term
-- has, and so what is said of the constants is true.
use Rattle.std.proofs.Common.{◌≡◌, Bool, true, false, not, cond, ◌&&◌, ◌||◌, List, [], ◌∷◌, ◌++◌, get_or, All, Option, Some, None, refl, sym, ◌∙◌, ap, subst}
use Rattle.std.specs.Prelude.{flat_map, unwrap_or}
use Rattle.std.specs.List.{list_all}
use Rattle.std.proofs.lemmas.List.Folds.{list_all-append}
use Rattle.smt_terms.specs.Connectives.{negated, implies, equal}
use Rattle.smt_terms.specs.Equal.{symbol_eq}
use Rattle.smt_terms.specs.Free.{is_among, free, free_of}
use Rattle.smt_terms.specs.Groups.{Named, constant_for, constant_or, with_constants, with_constants_each}
use Rattle.smt_terms.specs.Laws.{AgreeOn}
use Rattle.smt_terms.specs.Models.{Model, background, number_value, symbol_value, graph_or_default}
use Rattle.smt_terms.specs.Operators.{op_value}
use Rattle.smt_terms.specs.Rank.{sort_of, sorts_of}
use Rattle.smt_terms.specs.Sorts.{Sort, Symbol}
use Rattle.smt_terms.specs.Term.{Head, op, symbol, const_array, Term, apply, quantified, Terms, none, ◌⨾◌, constant}
use Rattle.smt_terms.specs.Val.{no_variables, head_value, val, vals}
use Rattle.smt_terms.specs.Values.{Value, is_true}
use Rattle.smt_terms.proofs.Among.{is_among-with_more}
use Rattle.smt_terms.proofs.Depends.{val_agrees}
use Rattle.smt_terms.proofs.Equal.{symbol_itself}
use Rattle.smt_terms.proofs.Operands.{chosen}
use Rattle.smt_terms.proofs.Respects.{equal_same}
use Rattle.smt_terms.proofs.Sorted.{applied}
use Rattle.smt_terms.proofs.Tests.{and_true, left_true, not_true}
use Rattle.term_groups.specs.Grouping.{holds_in, IsGiven}
use Rattle.ite_free.specs.Ite.{defining}
use Rattle.ite_free.proofs.AllInEach.{all_in_each}
use Rattle.ite_free.proofs.Choices.{choice, chosen_value, implies_holds, negated_holds, equal_holds}
use Rattle.ite_free.proofs.IteConstants.{found-holds}
use Rattle.ite_free.proofs.IteMembers.{IsInside, AreInside, inside_operands, inside_first, inside_others, Stands}
use Rattle.ite_free.proofs.Replaced.{stands_sort, replaced_sort, replaced_sorts}

-- the symbol has the value that the term has in this model, whatever it is applied to
abbrev HasValueOf : (m n : Model) → Symbol × Term → Type 0
HasValueOf m n p = n.graphs p.0 ≡ Some (record { rows = []; otherwise = val m p.1 no_variables })

implied : (a b : Bool) → (a ≡ true → b ≡ true) → (not a || b) ≡ true
implied true b f = f refl
implied false b f = refl

module _ (t : Term) (ns : Named) (all : All (Stands (free t)) ns) (m n : Model) (given : IsGiven m n t ns) where
  backgrounds : background n ≡ background m
  backgrounds = λ i. record { sizes = given.sizes i; div_by_zero = number_value (given.div_by_zero i); mod_by_zero = number_value (given.mod_by_zero i) }

  kept_value : (f : Symbol) → is_among (free t) f ≡ true → (vs : List Value) → symbol_value n f vs ≡ symbol_value m f vs
  kept_value f among vs = λ i. graph_or_default f (given.sizes i) (given.kept f among i) vs

  kept_symbol : (f : Symbol) → is_among (free t) f ≡ true → (ss : List Sort) (vs : List Value) → head_value n no_variables (symbol f) ss vs ≡ head_value m no_variables (symbol f) ss vs
  kept_symbol f among ss [] = kept_value f among []
  kept_symbol f among ss (v ∷ vs) = kept_value f among (v ∷ vs)

  agree : (fs : List Symbol) → ((f : Symbol) → is_among fs f ≡ true → is_among (free t) f ≡ true) → AgreeOn fs n m no_variables no_variables
  agree fs within = record { backgrounds = backgrounds; symbols = λ f among vs length. kept_symbol f (within f among) [] vs }

  kept_head : (h : Head) (ts : Terms) → IsInside (free t) (apply h ts) → (ss : List Sort) (vs : List Value) → head_value n no_variables h ss vs ≡ head_value m no_variables h ss vs
  kept_head (op o) ts inside ss vs = λ i. op_value (backgrounds i) o ss vs
  kept_head (symbol f) ts inside ss vs = kept_symbol f (inside.free f (is_among-with_more (f ∷ []) (free_of ts) f ∙ left_true (is_among (f ∷ []) f) (is_among (free_of ts) f) (left_true (symbol_eq f f) false (symbol_itself f)))) ss vs
  kept_head (const_array s) ts inside ss vs = refl

  constant_value : (f : Symbol) (u : Term) → HasValueOf m n (f, u) → val n (constant f) no_variables ≡ val m u no_variables
  constant_value f u e = ap (λ o. graph_or_default f n.sizes o []) e

  at_head : (h : Head) (ts : Terms) → IsInside (free t) (apply h ts) → vals n (with_constants_each ns ts) no_variables ≡ vals m ts no_variables → (o : Option Symbol) → constant_for ns (apply h ts) ≡ o → val n (constant_or o (apply h (with_constants_each ns ts))) no_variables ≡ val m (apply h ts) no_variables
  at_head h ts inside operands (Some f) found = constant_value f (apply h ts) (found-holds (HasValueOf m n) ns (apply h ts) f given.given found)
  at_head h ts inside operands None found =
      let parts = applied h ts inside.sort inside.has in
      let sorts : sorts_of (with_constants_each ns ts) ≡ sorts_of ts = replaced_sorts (free t) ns all ts parts.sorts parts.operands ∙ sym parts.operands in
      (λ i. head_value n no_variables h (unwrap_or (sorts i) []) (operands i))
      ∙ kept_head h ts inside (unwrap_or (sorts_of ts) []) (vals m ts no_variables)

  mutual
    pub replaced_value : (u : Term) → IsInside (free t) u → val n (with_constants ns u) no_variables ≡ val m u no_variables
    replaced_value (apply h ts) inside =
        at_head h ts inside (replaced_values ts (inside_operands (free t) h ts inside)) (constant_for ns (apply h ts)) refl
    replaced_value (quantified q xs u) inside =
        val_agrees (quantified q xs u) inside.sort n m no_variables no_variables inside.has (agree (free (quantified q xs u)) inside.free)

    pub replaced_values : (us : Terms) → AreInside (free t) us → vals n (with_constants_each ns us) no_variables ≡ vals m us no_variables
    replaced_values none inside = refl
    replaced_values (u ⨾ us) inside =
        let first = replaced_value u (inside_first (free t) u us inside) in
        let others = replaced_values us (inside_others (free t) u us inside) in
        λ i. first i ∷ others i

  -- ---- what is said of a constant is true

  chosen_defined : (f : Symbol) (c a b : Term) (s : Sort) → sort_of (constant f) ≡ Some s → val n (constant f) no_variables ≡ val m (chosen c a b) no_variables → IsInside (free t) c → IsInside (free t) a → sort_of a ≡ Some s → IsInside (free t) b → sort_of b ≡ Some s → list_all (holds_in n) (defining ns f (chosen c a b)) ≡ true
  chosen_defined f c a b s constant_has value in_c in_a a_has in_b b_has =
      let rc = with_constants ns c in
      let ra = with_constants ns a in
      let rb = with_constants ns b in
      let condition : holds_in n rc ≡ holds_in m c = ap is_true (replaced_value c in_c) in
      let one : holds_in n (implies rc (equal (constant f) ra)) ≡ true =
      implies_holds n rc (equal (constant f) ra)
      ∙ implied (holds_in n rc) (holds_in n (equal (constant f) ra))
      (λ yes. equal_holds n (constant f) ra s constant_has (replaced_sort (free t) ns all a s a_has)
      ∙ equal_same s n.sizes (value ∙ chosen_value m c a b ∙ ap (λ x. cond x (val m a no_variables) (val m b no_variables)) (sym condition ∙ yes) ∙ sym (replaced_value a in_a))) in
      let other : holds_in n (implies (negated rc) (equal (constant f) rb)) ≡ true =
      implies_holds n (negated rc) (equal (constant f) rb)
      ∙ implied (holds_in n (negated rc)) (holds_in n (equal (constant f) rb))
      (λ no. equal_holds n (constant f) rb s constant_has (replaced_sort (free t) ns all b s b_has)
      ∙ equal_same s n.sizes (value ∙ chosen_value m c a b ∙ ap (λ x. cond x (val m a no_variables) (val m b no_variables)) (sym condition ∙ not_true (holds_in n rc) (sym (negated_holds n rc) ∙ no)) ∙ sym (replaced_value b in_b))) in
      and_true (holds_in n (implies rc (equal (constant f) ra))) (holds_in n (implies (negated rc) (equal (constant f) rb)) && true) one
      (and_true (holds_in n (implies (negated rc) (equal (constant f) rb))) true other refl)

  defined_over : (f : Symbol) (h : Head) (ts : Terms) → Stands (free t) (f, apply h ts) → HasValueOf m n (f, apply h ts) → list_all (holds_in n) (defining ns f (apply h ts)) ≡ true
  defined_over f h ts stands value =
      let inside = stands.member.inside in
      let parts = choice h ts inside.sort stands.member.ite inside.has in
      let is_choice : apply h ts ≡ chosen parts.condition parts.first parts.second = λ i. apply (parts.head i) (parts.operands i) in
      let operands = subst (AreInside (free t)) parts.operands (inside_operands (free t) h ts inside) in
      let branches = inside_others (free t) parts.condition (parts.first ⨾ (parts.second ⨾ none)) operands in
      ap (λ u. list_all (holds_in n) (defining ns f u)) is_choice
      ∙ chosen_defined f parts.condition parts.first parts.second inside.sort
      (stands_sort (free t) f h ts inside.sort stands inside.has)
      (constant_value f (apply h ts) value ∙ ap (λ u. val m u no_variables) is_choice)
      (inside_first (free t) parts.condition (parts.first ⨾ (parts.second ⨾ none)) operands)
      (inside_first (free t) parts.first (parts.second ⨾ none) branches) parts.first_sort
      (inside_first (free t) parts.second none (inside_others (free t) parts.first (parts.second ⨾ none) branches)) parts.second_sort

  defined : (f : Symbol) (u : Term) → Stands (free t) (f, u) → HasValueOf m n (f, u) → list_all (holds_in n) (defining ns f u) ≡ true
  defined f (apply h ts) stands value = defined_over f h ts stands value
  defined f (quantified q xs u) stands value = let wrong : false ≡ true = stands.member.ite in absurd cc

  pub asserts_hold : IsInside (free t) t → holds_in m t ≡ true → list_all (holds_in n) (flat_map (λ p. defining ns p.0 p.1) ns ++ with_constants ns t ∷ []) ≡ true
  asserts_hold inside holds =
      list_all-append (holds_in n) (flat_map (λ p. defining ns p.0 p.1) ns) (with_constants ns t ∷ [])
      ∙ and_true (list_all (holds_in n) (flat_map (λ p. defining ns p.0 p.1) ns)) (holds_in n (with_constants ns t) && true)
      (all_in_each (holds_in n) (λ p. defining ns p.0 p.1) ns (λ k d less. defined (get_or ns k d).0 (get_or ns k d).1 (all k d less) (given.given k d less)))
      (and_true (holds_in n (with_constants ns t)) true (ap is_true (replaced_value t inside) ∙ holds) refl)
