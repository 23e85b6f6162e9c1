-- Names of one byte, which no supply gives.
use Rattle.std.proofs.Common.{◌≡◌, ℕ, suc, ◌+◌, ◌<◌, inl, inr, true, false, List, [], ◌∷◌, ◌++◌, length, map, get_or, All, ap, sym, ◌∙◌, subst, arith}
use Rattle.std.proofs.lemmas.Bool.Decides.{eqb_tells}
use Rattle.std.proofs.lemmas.List.{get_or-map, length-map}
use Rattle.std.proofs.lemmas.List.Elements.{All-head, All-tail}
use Rattle.smt_terms.specs.declared.ids.NodeId.{NodeId}
use Rattle.smt_terms.specs.Equal.{name_eq}
use Rattle.smt_terms.specs.Free.{name_among, names_of}
use Rattle.smt_terms.specs.Fresh.{Supply}
use Rattle.smt_terms.specs.Numeral.{numeral}
use Rattle.smt_terms.specs.Sorts.{Name, Variable}
use Rattle.smt_terms.specs.SubstLaws.{names_within, names_within_each, GivesNone}
use Rattle.smt_terms.specs.Term.{Term, apply, quantified, Terms, none, ◌⨾◌, list, variable}
use Rattle.smt_terms.proofs.Cuts.{name_among-append}
use Rattle.smt_terms.proofs.Equal.{Decides-name_eq}
use Rattle.smt_terms.proofs.Tests.{either_true, left_true}
use Rattle.term_table.specs.Formulas.{Formulas, no_tree, tree, tree_in, trees_at, operands}
use Rattle.term_walk.specs.FreeLists.{own_symbols}
use Rattle.term_subst.specs.Building.{FirstSpared}
use Rattle.term_subst.specs.State.{Spares}

pub short-spared : (s : Supply) (n : Name) → length n ≡ 1 → GivesNone s (n ∷ [])
short-spared s n one m among i le same = elim (either_true (name_eq n m) false among) [
  | inl here ↦ (let long : length n ≡ suc (suc (length (numeral i))) = ap length ((Decides-name_eq n m).0 here ∙ same) in absurd (omega (arith, one, long)))
  | inr never ↦ absurd cc
]

module _ (s : Supply) where
  both-spared : (ms ns : List Name) → GivesNone s ms → GivesNone s ns → GivesNone s (ms ++ ns)
  both-spared ms ns first second n among = elim (either_true (name_among ms n) (name_among ns n) (sym (name_among-append ms ns n) ∙ among)) [ inl here ↦ first n here | inr there ↦ second n there ]

  each-spared : (ts : Terms) → All (Spares s) (list ts) → GivesNone s (names_within_each ts)
  each-spared none all = λ n among. absurd cc
  each-spared (t ⨾ ts) all = both-spared (names_within t) (names_within_each ts) (All-head (Spares s) t (list ts) all) (each-spared ts (All-tail (Spares s) t (list ts) all))

  bound-spared : (xs : List Variable) (body : Term) → All (Spares s) (map variable xs ++ body ∷ []) → GivesNone s (map (λ x. x.name) xs ++ names_within body)
  bound-spared [] body all = All-head (Spares s) body [] all
  bound-spared (x ∷ xs) body all =
      let first : GivesNone s (names_within (variable x)) = All-head (Spares s) (variable x) (map variable xs ++ body ∷ []) all in
      let rest = bound-spared xs body (All-tail (Spares s) (variable x) (map variable xs ++ body ∷ []) all) in
      let left : (n : Name) → name_among (x.name ∷ []) n ≡ true → name_among ((x.name ∷ []) ++ []) n ≡ true = λ n among. name_among-append (x.name ∷ []) [] n ∙ left_true (name_among (x.name ∷ []) n) (name_among [] n) among in
      both-spared (x.name ∷ []) (map (λ y. y.name) xs ++ names_within body) (λ n among. first n (left n among)) rest

  -- a term whose own name and whose operands are spared
  spared-over : (u : Term) → GivesNone s (names_of (own_symbols u)) → All (Spares s) (operands u) → Spares s u
  spared-over (apply h ts) own all = both-spared (names_of (own_symbols (apply h ts))) (names_within_each ts) own (each-spared ts all)
  spared-over (quantified q xs body) own all = bound-spared xs body all

  pub next-spared : (t : Formulas) (k : NodeId) (kids : List NodeId) → GivesNone s (names_of (own_symbols (tree t k))) → trees_at t kids ≡ operands (tree t k) → All (λ j. j.0 < k.0) kids → FirstSpared s t k.0 → FirstSpared s t (k.0 + 1)
  next-spared t k kids own same below first i lt = elim (eqb_tells i k.0) [
    | inl here ↦ subst (λ (j : ℕ). Spares s (get_or t.trees j no_tree)) (sym here.1) (spared-over (tree t k) own (subst (All (Spares s)) same each))
    | inr apart ↦ (let a = apart.1 in first i (omega arith))
  ]
    where
      each : All (Spares s) (trees_at t kids)
      each j u l =
          let count = length-map kids (tree_in t.trees) in
          let e : NodeId = record { 0 = 0 } in
          let inside : j < length kids = omega (arith, count, l) in
          let at : get_or (trees_at t kids) j u ≡ tree t (get_or kids j e) = get_or-map (tree_in t.trees) kids j e u inside in
          subst (Spares s) (sym at) (first (get_or kids j e).0 (below j e inside))
