-- The marks that a connective gives the nodes of its operands, one after the other.
use Rattle.std.proofs.Common.{◌≡◌, ℕ, suc, ◌+◌, ◌<◌, Bool, true, false, ◌&&◌, ◌||◌, List, drop, length, get_or, refl, ap, sym, ◌∙◌, subst, add-one, drop-cons}
use Rattle.smt_terms.specs.declared.ids.NodeId.{NodeId}
use Rattle.smt_terms.specs.Equal.{term_eq}
use Rattle.smt_terms.proofs.Equal.{Decides-term_eq}
use Rattle.smt_terms.proofs.Tests.{contrary}
use Rattle.term_table.specs.Formulas.{Formulas, tree, trees_at, IsNode, IsTable}
use Rattle.normal_forms.specs.declared.connective.Connective.{Connective}
use Rattle.normal_forms.specs.Shape.{kind_seen}
use Rattle.cnf_polarity.specs.declared.polarities.Polarities.{Polarities}
use Rattle.cnf_polarity.specs.Cnf.{turn}
use Rattle.cnf_polarity.specs.Marks.{Marks, has_sign, joined, turned_polarities, marked, AddsMark, passes}

joined-sign : (sign : Bool) (p q : Polarities) → has_sign sign (joined p q) ≡ (has_sign sign p || has_sign sign q)
joined-sign true p q = refl
joined-sign false p q = refl

or_false_right : (a b : Bool) → (a || (b && false)) ≡ a
or_false_right true b = refl
or_false_right false true = refl
or_false_right false false = refl

and_true_right : (a : Bool) → (a && true) ≡ a
and_true_right true = refl
and_true_right false = refl

or_grouped : (a b c : Bool) → ((a || b) || c) ≡ (a || (b || c))
or_grouped true b c = refl
or_grouped false b c = refl

module _ (t : Formulas) (table : IsTable t) where
  -- one more mark, as the terms of nodes tell
  pub mark-added : (old new : Marks) (kid : NodeId) (p : Polarities) → AddsMark old new kid p → IsNode t kid → (k : NodeId) (sign : Bool) → IsNode t k
      → has_sign sign (marked new k) ≡ (has_sign sign (marked old k) || (has_sign sign p && term_eq (tree t kid) (tree t k)))
  mark-added old new kid p adds there k sign node = by (term_eq (tree t kid) (tree t k)) refl
    where
      by : (b : Bool) → term_eq (tree t kid) (tree t k) ≡ b → has_sign sign (marked new k) ≡ (has_sign sign (marked old k) || (has_sign sign p && b))
      by true e =
          let same = table.one_tree k.0 kid.0 node there (sym ((Decides-term_eq (tree t kid) (tree t k)).0 e)) in
          ap (has_sign sign) (adds.here k same) ∙ joined-sign sign (marked old k) p ∙ ap (λ b. has_sign sign (marked old k) || b) (sym (and_true_right (has_sign sign p)))
      by false e =
          ap (has_sign sign) (adds.others k (λ same. contrary (term_eq (tree t kid) (tree t k)) ((Decides-term_eq (tree t kid) (tree t k)).1 (λ i. tree t (record { 0 = sym same i }))) e))
          ∙ sym (or_false_right (has_sign sign (marked old k)) (has_sign sign p))

module _ (t : Formulas) (c : Connective) (p : Polarities) (kids : List NodeId) where
  abbrev pub passes_from : ℕ → Bool → NodeId → Bool
  passes_from i sign k = passes (kind_seen c) i p sign (tree t k) (trees_at t (drop i kids))

  -- what was marked and what is still passed on is what was marked at first and all that is passed on
  abbrev pub Passing : ℕ → Marks → Marks → Type 0
  Passing i first now = (k : NodeId) (sign : Bool) → IsNode t k → (has_sign sign (marked now k) || passes_from i sign k) ≡ (has_sign sign (marked first k) || passes_from 0 sign k)

  passing-next : IsTable t → (i : ℕ) (d : NodeId) (first now next : Marks) → i < length kids → IsNode t (get_or kids i d) → Passing i first now
      → AddsMark now next (get_or kids i d) (turned_polarities (turn (kind_seen c) i) p) → Passing (suc i) first next
  passing-next table i d first now next lt node so_far adds k sign there =
      let kid = get_or kids i d in
      let here = has_sign sign (turned_polarities (turn (kind_seen c) i) p) && term_eq (tree t kid) (tree t k) in
      ap (λ b. b || passes_from (suc i) sign k) (mark-added t table now next kid (turned_polarities (turn (kind_seen c) i) p) adds node k sign there)
      ∙ or_grouped (has_sign sign (marked now k)) here (passes_from (suc i) sign k)
      ∙ ap (λ js. has_sign sign (marked now k) || passes (kind_seen c) i p sign (tree t k) (trees_at t js)) (sym (drop-cons kids i d lt))
      ∙ so_far k sign there

  pub passing-more : IsTable t → (i : ℕ) (d : NodeId) (first now next : Marks) → i < length kids → IsNode t (get_or kids i d) → Passing i first now
      → AddsMark now next (get_or kids i d) (turned_polarities (turn (kind_seen c) i) p) → Passing (i + 1) first next
  passing-more table i d first now next lt node so_far adds = subst (λ n. Passing n first next) (sym (add-one i)) (passing-next table i d first now next lt node so_far adds)
