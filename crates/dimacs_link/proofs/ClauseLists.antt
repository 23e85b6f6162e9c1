-- Clauses, one after the other.
use Rattle.std.proofs.Common.{◌≡◌, ◌∙◌, sym, ap, refl, ℕ, zero, suc, ◌+◌, ◌<◌, ◌≤◌, Bool, true, false, not, if◌then◌else◌, List, [], ◌∷◌, ◌++◌, map, filter, flat_map, length, get_or, take, All, Some, None, arith, append_assoc, length-append, below_more}
use Rattle.std.specs.Int.{from_bool}
use Rattle.std.specs.Prelude.{codes}
use Rattle.std.proofs.lemmas.List.{map_more, map-append, flat_map_more, take_more}
use Rattle.std.proofs.lemmas.List.Concat.{flat_map-append}
use Rattle.std.proofs.lemmas.List.Elements.{filter-append, All-head, All-tail}
use Rattle.smt_terms.specs.declared.ids.NodeId.{NodeId}
use Rattle.smt_terms.specs.Sorts.{Symbol}
use Rattle.smt_terms.specs.Term.{Term}
use Rattle.term_table.specs.Formulas.{Formulas, no_tree, tree, trees_at}
use Rattle.dimacs_link.specs.Clauses.{part, disjuncts, has_true, literals_in, literals, literal_text, literals_text, clauses, clause_text, is_clause}

pub text_by_part : (cs : List Symbol) (us : List Term) → literals_text (literals cs us) ≡ flat_map (λ u. literals_text (literals_in (part cs u))) us
text_by_part cs [] = refl
text_by_part cs (u ∷ us) = flat_map-append (λ l. literal_text l ++ codes " ") (literals_in (part cs u)) (literals cs us) ∙ ap (λ bs. literals_text (literals_in (part cs u)) ++ bs) (text_by_part cs us)

pub clauses-append : (cs : List Symbol) (ts us : List Term) → clauses cs (ts ++ us) ≡ clauses cs ts ++ clauses cs us
clauses-append cs ts us =
    ap (map (λ t. literals cs (disjuncts t))) (filter-append (λ t. not (has_true cs (disjuncts t))) ts us)
    ∙ map-append (λ t. literals cs (disjuncts t)) (filter (λ t. not (has_true cs (disjuncts t))) ts) (filter (λ t. not (has_true cs (disjuncts t))) us)

pub lines-append : (cs : List Symbol) (ts us : List Term) → flat_map clause_text (clauses cs (ts ++ us)) ≡ flat_map clause_text (clauses cs ts) ++ flat_map clause_text (clauses cs us)
lines-append cs ts us = ap (flat_map clause_text) (clauses-append cs ts us) ∙ flat_map-append clause_text (clauses cs ts) (clauses cs us)

-- ---- of nodes

module _ (t : Formulas) (cs : List Symbol) (ks : List NodeId) (i : ℕ) (d : NodeId) (within : i < length ks) where
  pub trees_more : trees_at t (take (i + 1) ks) ≡ trees_at t (take i ks) ++ tree t (get_or ks i d) ∷ []
  trees_more = map_more (tree t) ks i d within

  -- a part more
  pub literals_more : (front : List ℕ) → (front ++ literals_text (literals cs (trees_at t (take i ks)))) ++ literals_text (literals_in (part cs (tree t (get_or ks i d))))
      ≡ front ++ literals_text (literals cs (trees_at t (take (i + 1) ks)))
  literals_more front =
      let each : Term → List ℕ = λ u. literals_text (literals_in (part cs u)) in
      ap (λ bs. (front ++ bs) ++ each (tree t (get_or ks i d))) (text_by_part cs (trees_at t (take i ks)))
      ∙ flat_map_more each front (trees_at t (take i ks)) (tree t (get_or ks i d))
      ∙ ap (λ bs. front ++ bs) (sym (text_by_part cs (trees_at t (take i ks) ++ tree t (get_or ks i d) ∷ [])))
      ∙ ap (λ us. front ++ literals_text (literals cs us)) (sym trees_more)

  -- a root more
  pub lines_more : (front : List ℕ) → (front ++ flat_map clause_text (clauses cs (trees_at t (take i ks)))) ++ flat_map clause_text (clauses cs (tree t (get_or ks i d) ∷ []))
      ≡ front ++ flat_map clause_text (clauses cs (trees_at t (take (i + 1) ks)))
  lines_more front =
      append_assoc front (flat_map clause_text (clauses cs (trees_at t (take i ks)))) (flat_map clause_text (clauses cs (tree t (get_or ks i d) ∷ [])))
      ∙ ap (λ bs. front ++ bs) (sym (lines-append cs (trees_at t (take i ks)) (tree t (get_or ks i d) ∷ [])))
      ∙ ap (λ us. front ++ flat_map clause_text (clauses cs us)) (sym trees_more)

-- so many roots are clauses, and so many of them have lines
pub record AreCounted (cs : List Symbol) (roots : List Term) (place number : ℕ) : Type 0 where
  pub each : (i : ℕ) → i < place → is_clause cs (get_or roots i no_tree) ≡ true
  pub count : number ≡ length (clauses cs (take place roots))

-- what holds of all trees
pub tree_at : (t : Formulas) (ks : List NodeId) (i : ℕ) (d : NodeId) → i < length ks → (P : Term → Type 0) → All P (trees_at t ks) → P (tree t (get_or ks i d))
tree_at t [] i d within P all = absurd (omega arith)
tree_at t (k ∷ ks) zero d within P all = All-head P (tree t k) (trees_at t ks) all
tree_at t (k ∷ ks) (suc i) d within P all = tree_at t ks i d (omega arith) P (All-tail P (tree t k) (trees_at t ks) all)

-- ---- roots that are counted

pub kind_some : (b h r : Bool) → Some r ≡ (if b then Some h else None) → (b ≡ true) × (r ≡ h)
kind_some true h r e = (refl, cc)
kind_some false h r e = absurd cc

pub kind_none : (b h : Bool) → None ≡ (if b then Some h else None) → b ≡ false
kind_none true h e = absurd cc
kind_none false h e = refl

pub none_counted : (cs : List Symbol) (ts : List Term) → AreCounted cs ts 0 0
none_counted cs ts = record { each = λ i below. absurd (omega arith); count = refl }

one_line : (cs : List Symbol) (u : Term) (h : Bool) → has_true cs (disjuncts u) ≡ h → length (clauses cs (u ∷ [])) ≡ (if h then 0 else 1)
one_line cs u true e = ap (λ b. length (map (λ t. literals cs (disjuncts t)) (if not b then u ∷ [] else []))) e
one_line cs u false e = ap (λ b. length (map (λ t. literals cs (disjuncts t)) (if not b then u ∷ [] else []))) e

pub one_counted : (cs : List Symbol) (ts : List Term) (i n m : ℕ) (h : Bool) → i < length ts → is_clause cs (get_or ts i no_tree) ≡ true → has_true cs (disjuncts (get_or ts i no_tree)) ≡ h → m ≡ (if h then 0 else 1)
    → AreCounted cs ts i n → AreCounted cs ts (i + 1) (n + m)
one_counted cs ts i n m h within here kind more was = record {
  each = below_more (λ k. is_clause cs (get_or ts k no_tree) ≡ true) i was.each here;
  count =
      (λ j. was.count j + more j)
      ∙ ap (λ k. length (clauses cs (take i ts)) + k) (sym (one_line cs (get_or ts i no_tree) h kind))
      ∙ sym (length-append (clauses cs (take i ts)) (clauses cs (get_or ts i no_tree ∷ [])))
      ∙ ap length (sym (clauses-append cs (take i ts) (get_or ts i no_tree ∷ [])))
      ∙ ap (λ us. length (clauses cs us)) (sym (take_more ts i no_tree within));
}

pub get_or-trees : (t : Formulas) (ks : List NodeId) (i : ℕ) (d : NodeId) → i < length ks → get_or (trees_at t ks) i no_tree ≡ tree t (get_or ks i d)
get_or-trees t [] i d within = absurd (omega arith)
get_or-trees t (k ∷ ks) zero d within = refl
get_or-trees t (k ∷ ks) (suc i) d within = get_or-trees t ks i d (omega arith)

pub told_bit : (h : Bool) → from_bool (not h) ≡ (if h then 0 else 1)
told_bit true = refl
told_bit false = refl

pub small_bit : (h : Bool) → from_bool (not h) ≤ 1
small_bit true = omega arith
small_bit false = omega arith
