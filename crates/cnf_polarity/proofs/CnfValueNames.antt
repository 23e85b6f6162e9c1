-- Constants that were found for terms, and clauses that stand in the list of all clauses.
use Rattle.std.proofs.Common.{◌≡◌, Bool, true, false, cond, List, [], ◌∷◌, ◌++◌, flat_map, All, Some, refl, sym, ◌∙◌, subst}
use Rattle.std.specs.List.{list_all}
use Rattle.std.proofs.lemmas.List.Elements.{All-nil, All-cons, All-head, All-tail}
use Rattle.std.proofs.lemmas.List.Folds.{list_all-append}
use Rattle.smt_terms.specs.Equal.{term_eq}
use Rattle.smt_terms.specs.Groups.{Named, constant_for, where_so}
use Rattle.smt_terms.specs.Sorts.{Symbol}
use Rattle.smt_terms.specs.Term.{Term}
use Rattle.smt_terms.proofs.Equal.{Decides-term_eq}
use Rattle.smt_terms.proofs.Tests.{both_true, and_true}

-- what holds of each constant and its term holds of the one that is found
pub constant-found : (P : Symbol × Term → Type 0) (ns : Named) (u : Term) (f : Symbol) → constant_for ns u ≡ Some f → All P ns → P (f, u)
constant-found P [] u f e all = absurd cc
constant-found P (n ∷ ns) u f e all = go (term_eq n.1 u) refl e (λ found. constant-found P ns u f found (All-tail P n ns all))
  where
    go : (b : Bool) → term_eq n.1 u ≡ b → cond b (Some n.0) (constant_for ns u) ≡ Some f → (constant_for ns u ≡ Some f → P (f, u)) → P (f, u)
    go true here found later =
        let name : n.0 ≡ f = cc in
        let term : n.1 ≡ u = (Decides-term_eq n.1 u).0 here in
        subst P (λ i. (name i, term i)) (All-head P n ns all)
    go false here found later = later found

module _ {A : Type 0} (test : Term → Bool) (g : A → List Term) where
  -- all that each gives pass the test where all that they give do
  pub each-passes : (ns : List A) → list_all test (flat_map g ns) ≡ true → All (λ n. list_all test (g n) ≡ true) ns
  each-passes [] e = All-nil (λ n. list_all test (g n) ≡ true)
  each-passes (n ∷ ns) e =
      let parts = both_true (list_all test (g n)) (list_all test (flat_map g ns)) (sym (list_all-append test (g n) (flat_map g ns)) ∙ e) in
      All-cons (λ n. list_all test (g n) ≡ true) n ns parts.0 (each-passes ns parts.1)

  pub all-pass : (ns : List A) → All (λ n. list_all test (g n) ≡ true) ns → list_all test (flat_map g ns) ≡ true
  all-pass [] all = refl
  all-pass (n ∷ ns) all =
      list_all-append test (g n) (flat_map g ns)
      ∙ and_true (list_all test (g n)) (list_all test (flat_map g ns)) (All-head (λ n. list_all test (g n) ≡ true) n ns all) (all-pass ns (All-tail (λ n. list_all test (g n) ≡ true) n ns all))

module _ (test : Term → Bool) where
  pub append-passes : (ls ks : List Term) → list_all test ls ≡ true → list_all test ks ≡ true → list_all test (ls ++ ks) ≡ true
  append-passes ls ks a b = list_all-append test ls ks ∙ and_true (list_all test ls) (list_all test ks) a b

  pub parts-pass : (ls ks : List Term) → list_all test (ls ++ ks) ≡ true → (list_all test ls ≡ true) × (list_all test ks ≡ true)
  parts-pass ls ks e = both_true (list_all test ls) (list_all test ks) (sym (list_all-append test ls ks) ∙ e)

  pub where-passes : (b : Bool) (ls : List Term) → list_all test ls ≡ true → list_all test (where_so b ls) ≡ true
  where-passes true ls e = e
  where-passes false ls e = refl

  pub there-passes : (b : Bool) (ls : List Term) → b ≡ true → list_all test (where_so b ls) ≡ true → list_all test ls ≡ true
  there-passes true ls e h = h
  there-passes false ls e h = absurd cc
