-- Names of one byte, which no supply gives.
use Rattle.std.proofs.Common.{◌≡◌, ℕ, zero, suc, ◌-◌, ◌<◌, ◌≤◌, inl, inr, true, false, Bool, List, [], ◌∷◌, ◌++◌, length, map, get_or, All, refl, sym, ◌∙◌, subst, arith}
use Rattle.std.proofs.lemmas.Bool.Decides.{leb_tells}
use Rattle.std.proofs.lemmas.List.{get_or-map, length-map, get_or-append_right, get_or_append_left}
use Rattle.std.proofs.lemmas.List.Elements.{All-head, All-tail}
use Rattle.smt_terms.specs.declared.ids.NodeId.{NodeId}
use Rattle.smt_terms.specs.Free.{names_of}
use Rattle.smt_terms.specs.Fresh.{Supply}
use Rattle.smt_terms.specs.Sorts.{Name, Variable}
use Rattle.smt_terms.specs.SubstLaws.{names_within, names_within_each, GivesNone}
use Rattle.smt_terms.specs.Term.{Term, apply, quantified, Terms, none, ◌⨾◌, list, variable}
use Rattle.term_table.specs.Formulas.{Formulas, tree, tree_in, trees_at, operands}
use Rattle.term_walk.specs.FreeLists.{own_symbols}
use Rattle.normal_forms.proofs.Inside.{in-both, in-left}

module _ (s : Supply) where
  abbrev Spares : Term → Type 0
  Spares u = GivesNone s (names_within u)

  both-spared : (ms ns : List Name) → GivesNone s ms → GivesNone s ns → GivesNone s (ms ++ ns)
  both-spared ms ns first second n among = elim (in-both ms ns n among) [ inl here ↦ first n here | inr there ↦ second n there ]

  each-spared : (ts : Terms) → All Spares (list ts) → GivesNone s (names_within_each ts)
  each-spared none all = λ n among. absurd cc
  each-spared (t ⨾ ts) all = both-spared (names_within t) (names_within_each ts) (All-head Spares t (list ts) all) (each-spared ts (All-tail Spares t (list ts) all))

  bound-spared : (xs : List Variable) (body : Term) → All Spares (map variable xs ++ body ∷ []) → GivesNone s (map (λ x. x.name) xs ++ names_within body)
  bound-spared [] body all = All-head Spares body [] all
  bound-spared (x ∷ xs) body all =
      let first : GivesNone s (names_within (variable x)) = All-head Spares (variable x) (map variable xs ++ body ∷ []) all in
      let rest = bound-spared xs body (All-tail Spares (variable x) (map variable xs ++ body ∷ []) all) in
      both-spared (x.name ∷ []) (map (λ y. y.name) xs ++ names_within body) (λ n among. first n (in-left (x.name ∷ []) [] n among)) rest

  -- a term whose own name and whose operands are spared
  spared-over : (u : Term) → GivesNone s (names_of (own_symbols u)) → All Spares (operands u) → Spares u
  spared-over (apply h ts) own all = both-spared (names_of (own_symbols (apply h ts))) (names_within_each ts) own (each-spared ts all)
  spared-over (quantified q xs body) own all = bound-spared xs body all

  -- marked nodes are spared
  abbrev pub AreMarked : Formulas → List Bool → Type 0
  AreMarked t marks = (k : NodeId) → get_or marks k.0 false ≡ true → Spares (tree t k)

  pub marked-over : (t : Formulas) (marks : List Bool) (k : NodeId) (kids : List NodeId) → GivesNone s (names_of (own_symbols (tree t k))) → trees_at t kids ≡ operands (tree t k) → All (λ j. get_or marks j.0 false ≡ true) kids → AreMarked t marks → Spares (tree t k)
  marked-over t marks k kids own same all marked = spared-over (tree t k) own (subst (All Spares) same each)
    where
      each : All Spares (trees_at t kids)
      each i u l =
          let count = length-map kids (tree_in t.trees) in
          let d : NodeId = record { 0 = 0 } in
          let inside : i < length kids = omega (arith, count, l) in
          let at : get_or (trees_at t kids) i u ≡ tree t (get_or kids i d) = get_or-map (tree_in t.trees) kids i d u inside in
          subst Spares (sym at) (marked (get_or kids i d) (all i d inside))

  pub marked-more : (t : Formulas) (marks : List Bool) (mark : Bool) (k : NodeId) → length marks ≡ k.0 → (mark ≡ true → Spares (tree t k)) → AreMarked t marks → AreMarked t (marks ++ mark ∷ [])
  marked-more t marks mark k count new marked j here = elim (leb_tells (length marks) j.0) [
    | inl past ↦ last (j.0 - length marks) refl past.1 (sym (get_or-append_right marks (mark ∷ []) (length marks) j.0 false refl past.1) ∙ here)
    | inr before ↦ marked j (sym (get_or_append_left marks (mark ∷ []) false j.0 before.1) ∙ here)
  ]
    where
      last : (i : ℕ) → j.0 - length marks ≡ i → length marks ≤ j.0 → get_or (mark ∷ []) i false ≡ true → Spares (tree t j)
      last zero least le told = let same : k.0 ≡ j.0 = omega (arith, least, le, count) in subst (λ (n : ℕ). Spares (tree t (record { 0 = n }))) same (new told)
      last (suc i) more le told = absurd cc
