-- Holes collected from the first place to the last, and their numbers.
use Rattle.std.proofs.Common.{◌≡◌, ℕ, suc, ◌+◌, ◌<◌, Bool, true, false, not, cond, ◌||◌, ◌==◌, if◌then◌else◌, filter, take, List, [], ◌∷◌, ◌++◌, map, length, get_or, append-nil, refl, ap, sym, ◌∙◌, arith}
use Rattle.std.proofs.lemmas.List.{map_more}
use Rattle.std.proofs.lemmas.List.Elements.{filter-append}
use Rattle.std.proofs.lemmas.Bool.Decides.{Decides-eqb}
use Rattle.smt_terms.specs.declared.ids.NodeId.{NodeId}
use Rattle.smt_terms.specs.Equal.{term_eq}
use Rattle.smt_terms.specs.Term.{Term}
use Rattle.smt_terms.proofs.Equal.{Decides-term_eq}
use Rattle.smt_terms.proofs.Tests.{alike_from}
use Rattle.term_table.specs.Formulas.{Formulas, tree, trees_at}
use Rattle.rule_book.specs.declared.viewing.PlacedNode.{PlacedNode}
use Rattle.rule_book.specs.Placed.{place_seen, with_last}
use Rattle.rule_book.specs.View.{Place, holes_of, number_in}

-- ---- a term is in a list where it has a number below the length

abbrev has : List Term → Term → Bool
has [] u = false
has (t ∷ ts) u = term_eq t u || has ts u

zero-or-more : (n : ℕ) → (0 == suc n) ≡ false
zero-or-more n = alike_from (0 == suc n) false (λ h. let e : 0 ≡ suc n = (Decides-eqb 0 (suc n)).0 h in absurd (omega arith)) (λ h. absurd cc)

one-more : (m n : ℕ) → (suc m == suc n) ≡ (m == n)
one-more m n =
    alike_from (suc m == suc n) (m == n)
    (λ h. let e : suc m ≡ suc n = (Decides-eqb (suc m) (suc n)).0 h in (Decides-eqb m n).1 (omega arith))
    (λ h. (Decides-eqb (suc m) (suc n)).1 (ap suc ((Decides-eqb m n).0 h)))

numbered : (ts : List Term) (u : Term) → (number_in ts u == length ts) ≡ not (has ts u)
numbered [] u = refl
numbered (t ∷ ts) u = by (term_eq t u) (numbered ts u)
  where
    by : (b : Bool) → (number_in ts u == length ts) ≡ not (has ts u) → ((if b then 0 else suc (number_in ts u)) == suc (length ts)) ≡ not (b || has ts u)
    by true rest = zero-or-more (length ts)
    by false rest = one-more (number_in ts u) (length ts) ∙ rest

abbrev insert : List Term → Term → List Term
insert ts u = if has ts u then ts else ts ++ u ∷ []

last-inserted : (ts : List Term) (u : Term) → with_last ts u ≡ insert ts u
last-inserted ts u = ap (λ b. if b then ts ++ u ∷ [] else ts) (numbered ts u) ∙ by (has ts u)
  where
    by : (b : Bool) → (if not b then ts ++ u ∷ [] else ts) ≡ (if b then ts else ts ++ u ∷ [])
    by true = refl
    by false = refl

-- ---- one place more

-- what is left of a list without t has u where the list has it, and u isn't t
has-others : (t u : Term) (ts : List Term) → term_eq t u ≡ false → has (filter (λ v. not (term_eq t v)) ts) u ≡ has ts u
has-others t u [] h = refl
has-others t u (v ∷ vs) h = by (term_eq t v) refl (has-others t u vs h)
  where
    by : (b : Bool) → term_eq t v ≡ b → has (filter (λ w. not (term_eq t w)) vs) u ≡ has vs u → has (cond (not b) (v ∷ filter (λ w. not (term_eq t w)) vs) (filter (λ w. not (term_eq t w)) vs)) u ≡ (term_eq v u || has vs u)
    by true e rest =
        let same : t ≡ v = (Decides-term_eq t v).0 e in
        let other : term_eq v u ≡ false = ap (λ w. term_eq w u) (sym same) ∙ h in
        rest ∙ ap (λ b. b || has vs u) (sym other)
    by false e rest = ap (λ b. term_eq v u || b) rest

without-insert : (t u : Term) (ts : List Term) → t ∷ filter (λ v. not (term_eq t v)) (insert ts u) ≡ insert (t ∷ filter (λ v. not (term_eq t v)) ts) u
without-insert t u ts = by (term_eq t u) (has ts u) refl refl
  where
    rest : List Term
    rest = filter (λ v. not (term_eq t v)) ts

    behind : has ts u ≡ false → t ∷ filter (λ v. not (term_eq t v)) (insert ts u) ≡ t ∷ (rest ++ cond (not (term_eq t u)) (u ∷ []) [])
    behind f =
        ap (λ c. t ∷ filter (λ v. not (term_eq t v)) (if c then ts else ts ++ u ∷ [])) f
        ∙ ap (λ us. t ∷ us) (filter-append (λ v. not (term_eq t v)) ts (u ∷ []))

    by : (a b : Bool) → term_eq t u ≡ a → has ts u ≡ b → t ∷ filter (λ v. not (term_eq t v)) (insert ts u) ≡ insert (t ∷ rest) u
    by true true e f =
        ap (λ c. t ∷ filter (λ v. not (term_eq t v)) (if c then ts else ts ++ u ∷ [])) f
        ∙ sym (ap (λ c. if c || has rest u then t ∷ rest else (t ∷ rest) ++ u ∷ []) e)
    by true false e f =
        behind f
        ∙ ap (λ c. t ∷ (rest ++ cond (not c) (u ∷ []) [])) e
        ∙ ap (λ us. t ∷ us) (append-nil rest)
        ∙ sym (ap (λ c. if c || has rest u then t ∷ rest else (t ∷ rest) ++ u ∷ []) e)
    by false true e f =
        ap (λ c. t ∷ filter (λ v. not (term_eq t v)) (if c then ts else ts ++ u ∷ [])) f
        ∙ sym (λ i. if e i || (has-others t u ts e ∙ f) i then t ∷ rest else (t ∷ rest) ++ u ∷ [])
    by false false e f =
        behind f
        ∙ ap (λ c. t ∷ (rest ++ cond (not c) (u ∷ []) [])) e
        ∙ sym (λ i. if e i || (has-others t u ts e ∙ f) i then t ∷ rest else (t ∷ rest) ++ u ∷ [])

holes-inserted : (ps : List Place) (p : Place) → holes_of (ps ++ p ∷ []) ≡ insert (holes_of ps) p.term
holes-inserted [] p = refl
holes-inserted (q ∷ ps) p = ap (λ us. q.term ∷ filter (λ u. not (term_eq q.term u)) us) (holes-inserted ps p) ∙ without-insert q.term p.term (holes_of ps)

pub holes-more : (ps : List Place) (p : Place) → holes_of (ps ++ p ∷ []) ≡ with_last (holes_of ps) p.term
holes-more ps p = holes-inserted ps p ∙ sym (last-inserted (holes_of ps) p.term)

-- ---- by nodes

module _ (t : Formulas) where
  pub holes-step : (ps : List PlacedNode) (i : ℕ) (d : PlacedNode) (old new : List NodeId) → i < length ps → trees_at t old ≡ holes_of (map (place_seen t) (take i ps)) → trees_at t new ≡ with_last (trees_at t old) (tree t (get_or ps i d).node) → trees_at t new ≡ holes_of (map (place_seen t) (take (i + 1) ps))
  holes-step ps i d old new lt terms put =
      let p = place_seen t (get_or ps i d) in
      put
      ∙ ap (λ ts. with_last ts p.term) terms
      ∙ sym (holes-more (map (place_seen t) (take i ps)) p)
      ∙ ap holes_of (sym (map_more (place_seen t) ps i d lt))

  -- ---- the number of a node

  abbrev pub number : List NodeId → NodeId → ℕ
  number ks k = number_in (trees_at t ks) (tree t k)
