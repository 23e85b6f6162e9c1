-- Where all that is said of the constants is true in a model, a term with constants in place of its `ite` terms has there the
-- same value as the term.
use Rattle.std.proofs.Common.{◌≡◌, Bool, true, false, not, cond, ◌&&◌, ◌||◌, inl, inr, List, [], ◌∷◌, ◌++◌, All, Option, Some, None, refl, sym, ◌∙◌, ap, subst}
use Rattle.std.specs.Prelude.{flat_map, unwrap_or}
use Rattle.std.specs.List.{list_all}
use Rattle.std.proofs.lemmas.List.Folds.{list_all-append}
use Rattle.smt_terms.specs.Connectives.{negated, implies, equal}
use Rattle.smt_terms.specs.Groups.{Named, constant_for, constant_or, with_constants, with_constants_each}
use Rattle.smt_terms.specs.Laws.{IsEnv}
use Rattle.smt_terms.specs.Models.{Model, IsModel}
use Rattle.smt_terms.specs.Rank.{sort_of, sorts_of, is_sort, is_regular, are_regular}
use Rattle.smt_terms.specs.Sorts.{Sort, bool, Symbol}
use Rattle.smt_terms.specs.Term.{Head, Term, apply, quantified, Terms, none, ◌⨾◌, constant}
use Rattle.smt_terms.specs.Val.{no_variables, head_value, val, vals}
use Rattle.smt_terms.specs.Values.{same, all_same, is_value}
use Rattle.smt_terms.proofs.Operands.{more_sorts, chosen}
use Rattle.smt_terms.proofs.Respects.{truths_alike}
use Rattle.smt_terms.proofs.Same.{same-itself, same-through}
use Rattle.smt_terms.proofs.SameOperands.{head_gives}
use Rattle.smt_terms.proofs.Sorted.{applied, sorted}
use Rattle.smt_terms.proofs.SortsOfTerms.{regular, sort_is_sort, sorts_are_sorts}
use Rattle.smt_terms.proofs.Tests.{both_true, and_true, true_or_false}
use Rattle.smt_terms.proofs.Valid.{val_valid, vals_valid}
use Rattle.term_groups.specs.Grouping.{holds_in}
use Rattle.ite_free.specs.Ite.{defining}
use Rattle.ite_free.proofs.AllInEach.{in_each}
use Rattle.ite_free.proofs.Choices.{choice, chosen_value, implies_holds, negated_holds, equal_holds}
use Rattle.ite_free.proofs.IteConstants.{found-holds}
use Rattle.ite_free.proofs.IteMembers.{Stands}
use Rattle.ite_free.proofs.Replaced.{stands_sort, replaced_sort, replaced_sorts}

-- no variable has a value of another sort
pub none_assigned : (m : Model) → IsEnv m.sizes no_variables
none_assigned m f = tt

follows : (a b : Bool) → (not a || b) ≡ true → a ≡ true → b ≡ true
follows true b h e = h
follows false b h e = absurd cc

-- what is said of the constants is true
abbrev pub Defined : Model → Named → Symbol × Term → Type 0
Defined m ns p = list_all (holds_in m) (defining ns p.0 p.1) ≡ true

module _ (fs : List Symbol) (ns : Named) (all : All (Stands fs) ns) (m : Model) (model : IsModel m) (defined : All (Defined m ns) ns) where
  valid : (u : Term) (s : Sort) → sort_of u ≡ Some s → is_value s m.sizes (val m u no_variables) ≡ true
  valid u s has = val_valid u s m no_variables model (none_assigned m) has

  -- the constant of an `ite` is the branch that is taken
  branch_same : (f : Symbol) (u w : Term) (s : Sort) → is_sort s ≡ true → sort_of (constant f) ≡ Some s → sort_of u ≡ Some s → sort_of w ≡ Some s → holds_in m (equal (constant f) (with_constants ns u)) ≡ true → same s m.sizes (val m (with_constants ns u) no_variables) (val m u no_variables) ≡ true → val m w no_variables ≡ val m u no_variables → same s m.sizes (val m (constant f) no_variables) (val m w no_variables) ≡ true
  branch_same f u w s fine constant_has has whole_has equation replaced taken =
      let ru = with_constants ns u in
      let ru_has : sort_of ru ≡ Some s = replaced_sort fs ns all u s has in
      ap (λ v. same s m.sizes (val m (constant f) no_variables) v) taken
      ∙ same-through s m.sizes (val m (constant f) no_variables) (val m ru no_variables) (val m u no_variables) fine
      (valid (constant f) s constant_has) (valid ru s ru_has) (valid u s has)
      (sym (equal_holds m (constant f) ru s constant_has ru_has) ∙ equation) replaced

  chosen_same : (f : Symbol) (c a b : Term) (s : Sort) → is_sort s ≡ true → sort_of (constant f) ≡ Some s → sort_of (chosen c a b) ≡ Some s → sort_of a ≡ Some s → sort_of b ≡ Some s → Defined m ns (f, chosen c a b) → all_same (bool ∷ s ∷ s ∷ []) m.sizes (vals m (with_constants_each ns (c ⨾ (a ⨾ (b ⨾ none)))) no_variables) (vals m (c ⨾ (a ⨾ (b ⨾ none))) no_variables) ≡ true → same s m.sizes (val m (constant f) no_variables) (val m (chosen c a b) no_variables) ≡ true
  chosen_same f c a b s fine constant_has has a_has b_has said operands =
      let rc = with_constants ns c in
      let first = implies rc (equal (constant f) (with_constants ns a)) in
      let second = implies (negated rc) (equal (constant f) (with_constants ns b)) in
      let parts = both_true (holds_in m first) (holds_in m second && true) said in
      let last = both_true (holds_in m second) true parts.1 in
      let condition_part = both_true
      (same bool m.sizes (val m rc no_variables) (val m c no_variables))
      (same s m.sizes (val m (with_constants ns a) no_variables) (val m a no_variables) && (same s m.sizes (val m (with_constants ns b) no_variables) (val m b no_variables) && true)) operands in
      let a_part = both_true (same s m.sizes (val m (with_constants ns a) no_variables) (val m a no_variables)) (same s m.sizes (val m (with_constants ns b) no_variables) (val m b no_variables) && true) condition_part.1 in
      let b_part = both_true (same s m.sizes (val m (with_constants ns b) no_variables) (val m b no_variables)) true a_part.1 in
      let condition : holds_in m rc ≡ holds_in m c = truths_alike m.sizes (val m rc no_variables) (val m c no_variables) condition_part.0 in
      elim (true_or_false (holds_in m c)) [
        | inl met ↦
            branch_same f a (chosen c a b) s fine constant_has a_has has
            (follows (holds_in m rc) (holds_in m (equal (constant f) (with_constants ns a)))
            (sym (implies_holds m rc (equal (constant f) (with_constants ns a))) ∙ parts.0) (condition ∙ met))
            a_part.0
            (chosen_value m c a b ∙ ap (λ x. cond x (val m a no_variables) (val m b no_variables)) met)
        | inr unmet ↦
            branch_same f b (chosen c a b) s fine constant_has b_has has
            (follows (holds_in m (negated rc)) (holds_in m (equal (constant f) (with_constants ns b)))
            (sym (implies_holds m (negated rc) (equal (constant f) (with_constants ns b))) ∙ last.0)
            (negated_holds m rc ∙ ap not (condition ∙ unmet)))
            b_part.0
            (chosen_value m c a b ∙ ap (λ x. cond x (val m a no_variables) (val m b no_variables)) unmet)
      ]

  -- the operands have the same values as those that take their places
  abbrev OperandsSame : Terms → Type 0
  OperandsSame ts = (ss : List Sort) → sorts_of ts ≡ Some ss → all_same ss m.sizes (vals m (with_constants_each ns ts) no_variables) (vals m ts no_variables) ≡ true

  at_constant : (h : Head) (ts : Terms) (s : Sort) (f : Symbol) → is_regular (apply h ts) ≡ true → sort_of (apply h ts) ≡ Some s → OperandsSame ts → constant_for ns (apply h ts) ≡ Some f → same s m.sizes (val m (constant f) no_variables) (val m (apply h ts) no_variables) ≡ true
  at_constant h ts s f rules has operands found =
      let stands = found-holds (Stands fs) ns (apply h ts) f all found in
      let said = found-holds (Defined m ns) ns (apply h ts) f defined found in
      let parts = choice h ts s stands.member.ite has in
      let c = parts.condition in
      let a = parts.first in
      let b = parts.second in
      let is_choice : apply h ts ≡ chosen c a b = λ i. apply (parts.head i) (parts.operands i) in
      let sorts : sorts_of (c ⨾ (a ⨾ (b ⨾ none))) ≡ Some (bool ∷ s ∷ s ∷ []) =
      more_sorts c (a ⨾ (b ⨾ none)) bool (s ∷ s ∷ []) parts.condition_sort (more_sorts a (b ⨾ none) s (s ∷ []) parts.first_sort (more_sorts b none s [] parts.second_sort refl)) in
      ap (λ u. same s m.sizes (val m (constant f) no_variables) (val m u no_variables)) is_choice
      ∙ chosen_same f c a b s (sort_is_sort (apply h ts) s rules has) (stands_sort fs f h ts s stands has)
      (ap sort_of (sym is_choice) ∙ has) parts.first_sort parts.second_sort
      (subst (λ u. Defined m ns (f, u)) is_choice said)
      (subst OperandsSame parts.operands operands (bool ∷ s ∷ s ∷ []) sorts)

  at_operands : (h : Head) (ts : Terms) (s : Sort) → is_regular (apply h ts) ≡ true → sort_of (apply h ts) ≡ Some s → OperandsSame ts → same s m.sizes (val m (apply h (with_constants_each ns ts)) no_variables) (val m (apply h ts) no_variables) ≡ true
  at_operands h ts s rules has operands =
      let parts = applied h ts s has in
      let us = with_constants_each ns ts in
      let us_have : sorts_of us ≡ Some parts.sorts = replaced_sorts fs ns all ts parts.sorts parts.operands in
      let left : val m (apply h us) no_variables ≡ head_value m no_variables h parts.sorts (vals m us no_variables) = ap (λ o. head_value m no_variables h (unwrap_or o []) (vals m us no_variables)) us_have in
      let right : val m (apply h ts) no_variables ≡ head_value m no_variables h parts.sorts (vals m ts no_variables) = ap (λ o. head_value m no_variables h (unwrap_or o []) (vals m ts no_variables)) parts.operands in
      (λ i. same s m.sizes (left i) (right i))
      ∙ head_gives m no_variables h parts.sorts s (vals m us no_variables) (vals m ts no_variables) model parts.rank
      (sorts_are_sorts ts parts.sorts (regular h ts rules).operands parts.operands)
      (vals_valid us parts.sorts m no_variables model (none_assigned m) us_have)
      (vals_valid ts parts.sorts m no_variables model (none_assigned m) parts.operands)
      (operands parts.sorts parts.operands)

  at_head : (h : Head) (ts : Terms) (s : Sort) → is_regular (apply h ts) ≡ true → sort_of (apply h ts) ≡ Some s → OperandsSame ts → (o : Option Symbol) → constant_for ns (apply h ts) ≡ o → same s m.sizes (val m (constant_or o (apply h (with_constants_each ns ts))) no_variables) (val m (apply h ts) no_variables) ≡ true
  at_head h ts s rules has operands (Some f) found = at_constant h ts s f rules has operands found
  at_head h ts s rules has operands None found = at_operands h ts s rules has operands

  mutual
    pub replaced_same : (u : Term) (s : Sort) → is_regular u ≡ true → sort_of u ≡ Some s → same s m.sizes (val m (with_constants ns u) no_variables) (val m u no_variables) ≡ true
    replaced_same (apply h ts) s rules has =
        at_head h ts s rules has (λ ss have. replaced_all_same ts ss (regular h ts rules).operands have) (constant_for ns (apply h ts)) refl
    replaced_same (quantified q xs u) s rules has = same-itself s m.sizes (val m (quantified q xs u) no_variables)

    pub replaced_all_same : (us : Terms) (ss : List Sort) → are_regular us ≡ true → sorts_of us ≡ Some ss → all_same ss m.sizes (vals m (with_constants_each ns us) no_variables) (vals m us no_variables) ≡ true
    replaced_all_same none ss rules have = let empty : [] ≡ ss = cc in subst (λ rs. all_same rs m.sizes [] [] ≡ true) empty refl
    replaced_all_same (u ⨾ us) ss rules have =
        let parts = sorted u us ss have in
        let all_rules = both_true (is_regular u) (are_regular us) rules in
        let first = replaced_same u parts.sort all_rules.0 parts.first in
        let others = replaced_all_same us parts.sorts all_rules.1 parts.others in
        ap (λ rs. all_same rs m.sizes (vals m (with_constants_each ns (u ⨾ us)) no_variables) (vals m (u ⨾ us) no_variables)) parts.all
        ∙ and_true (same parts.sort m.sizes (val m (with_constants ns u) no_variables) (val m u no_variables))
        (all_same parts.sorts m.sizes (vals m (with_constants_each ns us) no_variables) (vals m us no_variables)) first others

-- a formula is true where all of its group is
pub asserts_give : (fs : List Symbol) (ns : Named) → All (Stands fs) ns → (m : Model) → IsModel m → (t : Term) → is_regular t ≡ true → sort_of t ≡ Some bool → list_all (holds_in m) (flat_map (λ p. defining ns p.0 p.1) ns ++ with_constants ns t ∷ []) ≡ true → holds_in m t ≡ true
asserts_give fs ns all m model t rules has holds =
    let parts = both_true (list_all (holds_in m) (flat_map (λ p. defining ns p.0 p.1) ns)) (holds_in m (with_constants ns t) && true)
    (sym (list_all-append (holds_in m) (flat_map (λ p. defining ns p.0 p.1) ns) (with_constants ns t ∷ [])) ∙ holds) in
    let last = both_true (holds_in m (with_constants ns t)) true parts.1 in
    let defined = in_each (holds_in m) (λ p. defining ns p.0 p.1) ns parts.0 in
    sym (truths_alike m.sizes (val m (with_constants ns t) no_variables) (val m t no_variables) (replaced_same fs ns all m model defined t bool rules has)) ∙ last.0
