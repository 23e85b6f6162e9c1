-- The names of free symbols, gathered one by one, and what is found of one node more.
use Rattle.std.proofs.Common.{Vec, ◌≡◌, ℕ, ◌+◌, ◌<◌, ◌==◌, Bool, true, false, ◌||◌, if◌then◌else◌, List, [], ◌∷◌, ◌++◌, length, get_or, take, All, Option, Some, None, IsSome, IfSome, refl, ap, sym, subst, ◌∙◌}
use Rattle.std.specs.Global.{Global}
use Rattle.std.proofs.lemmas.Bool.Decides.{Decides-eqb}
use Rattle.std.proofs.lemmas.List.{map-append, take_more}
use Rattle.smt_terms.specs.declared.ids.NodeId.{NodeId}
use Rattle.smt_terms.specs.declared.ids.SymId.{SymId}
use Rattle.smt_terms.specs.Equal.{name_eq}
use Rattle.smt_terms.specs.Free.{name_among, names_of, free}
use Rattle.smt_terms.specs.Sorts.{Name}
use Rattle.smt_terms.proofs.Cuts.{name_among-append}
use Rattle.smt_terms.proofs.Equal.{Decides-name_eq}
use Rattle.term_table.specs.Formulas.{Formulas, tree, symbol_at, IsNode, IsSymbol}
use Rattle.term_walk.specs.FreeLists.{named, AreFree}
use Rattle.term_subst.specs.ByNode.{found_in}
use Rattle.term_subst.specs.Names.{with_name}
use Rattle.term_subst.specs.State.{AreLists, AreNamesOf, AreNames}

or-nothing : (b : Bool) → (b || false) ≡ b
or-nothing true = refl
or-nothing false = refl

with_name-among : (ns : List Name) (m n : Name) → name_among (with_name ns m) n ≡ (name_among ns n || name_eq m n)
with_name-among ns m n = by (name_among ns m) refl
  where
    known : (b : Bool) → name_eq m n ≡ b → name_among ns m ≡ true → name_among ns n ≡ (name_among ns n || b)
    known true e there = let same : name_among ns n ≡ true = ap (name_among ns) (sym ((Decides-name_eq m n).0 e)) ∙ there in same ∙ sym (ap (λ b. b || true) same)
    known false e there = sym (or-nothing (name_among ns n))

    by : (b : Bool) → name_among ns m ≡ b → name_among (if b then ns else ns ++ m ∷ []) n ≡ (name_among ns n || name_eq m n)
    by true there = known (name_eq m n) refl there
    by false there = name_among-append ns (m ∷ []) n ∙ ap (λ b. name_among ns n || b) (or-nothing (name_eq m n))

pub names-more : (t : Formulas) (fs : List SymId) (i : ℕ) (d : SymId) (ns more : List Name) (m : Name) → i < length fs
    → ((n : Name) → name_among ns n ≡ name_among (names_of (named t (take i fs))) n) → more ≡ with_name ns m → m ≡ (symbol_at t (get_or fs i d)).name
    → (n : Name) → name_among more n ≡ name_among (names_of (named t (take (i + 1) fs))) n
names-more t fs i d ns more m lt so added is n =
    let f = get_or fs i d in
    let last : names_of (named t (take (i + 1) fs)) ≡ names_of (named t (take i fs)) ++ (symbol_at t f).name ∷ [] =
    ap (λ gs. names_of (named t gs)) (take_more fs i d lt) ∙ ap names_of (map-append (symbol_at t) (take i fs) (f ∷ [])) ∙ map-append (λ g. g.name) (named t (take i fs)) (symbol_at t f ∷ []) in
    ap (λ ms. name_among ms n) added ∙ with_name-among ns m n
    ∙ (λ j. so n j || name_eq (is j) n)
    ∙ ap (λ b. name_among (names_of (named t (take i fs))) n || b) (sym (or-nothing (name_eq (symbol_at t f).name n)))
    ∙ sym (name_among-append (names_of (named t (take i fs))) ((symbol_at t f).name ∷ []) n)
    ∙ ap (λ ms. name_among ms n) (sym last)

-- ---- one node more

at-node : {A : Type 0} (P : NodeId → A → Type 0) (k n : NodeId) (u v : A) (o : Option A) → P k v → (o ≡ Some u → P n u) → (b : Bool) → (n.0 == k.0) ≡ b → (if b then Some v else o) ≡ Some u → P n u
at-node P k n u v o one others true e found =
    let number : n.0 ≡ k.0 = (Decides-eqb n.0 k.0).0 e in
    let value : v ≡ u = cc in
    subst (λ i. P (record { 0 = i }) u) (sym number) (subst (P k) value one)
at-node P k n u v o one others false e found = others found

pub lists-put : (t : Formulas) (old new : List (NodeId × Vec SymId Global)) (k : NodeId) (fs : Vec SymId Global) → AreLists t old → IsNode t k → AreFree t (tree t k) fs.items
    → ((n : NodeId) → found_in new n ≡ (if n.0 == k.0 then Some fs else found_in old n)) → AreLists t new
lists-put t old new k fs lists node free put n us found =
    at-node (λ j vs. IsNode t j × AreFree t (tree t j) vs.items) k n us fs (found_in old n) (node, free) (lists n us) (n.0 == k.0) refl (sym (put n) ∙ found)

pub names-put : (t : Formulas) (old new : List (NodeId × List Name)) (k : NodeId) (ns : List Name) → AreNames t old → IsNode t k → AreNamesOf (tree t k) ns
    → ((n : NodeId) → found_in new n ≡ (if n.0 == k.0 then Some ns else found_in old n)) → AreNames t new
names-put t old new k ns names node are put n us found =
    at-node (λ j vs. IsNode t j × AreNamesOf (tree t j) vs) k n us ns (found_in old n) (node, are) (names n us) (n.0 == k.0) refl (sym (put n) ∙ found)

-- ---- the free symbols that are found of a node

pub record IsListOf (t : Formulas) (k : NodeId) (fs : List SymId) : Type 0 where
  pub names : named t fs ≡ free (tree t k)
  pub symbols : All (IsSymbol t) fs

pub list-found : (t : Formulas) (es : List (NodeId × Vec SymId Global)) (k : NodeId) (fs : List SymId) → AreLists t es → IsSome (found_in es k) → IfSome (found_in es k) (λ v. fs ≡ v.items) → IsListOf t k fs
list-found t es k fs lists some is = by (found_in es k) refl some is
  where
    by : (o : Option (Vec SymId Global)) → found_in es k ≡ o → IsSome o → IfSome o (λ v. fs ≡ v.items) → IsListOf t k fs
    by None e h i = absurd cc
    by (Some v) e h i =
        let free_in = (lists k v e).1 in
        record { names = ap (named t) i ∙ free_in.names; symbols = subst (All (IsSymbol t)) (sym i) free_in.symbols }

pub names-found : (t : Formulas) (k : NodeId) (fs : List SymId) (ns : List Name) → IsListOf t k fs → ((n : Name) → name_among ns n ≡ name_among (names_of (named t fs)) n) → AreNamesOf (tree t k) ns
names-found t k fs ns list names n = names n ∙ ap (λ gs. name_among (names_of gs) n) list.names
