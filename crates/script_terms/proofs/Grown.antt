-- What numbers name in a table that only gained, and which names a later supply doesn't give.
use Rattle.std.proofs.Common.{◌≡◌, ℕ, ◌+◌, ◌<◌, ◌≤◌, ◌⊎◌, inl, inr, List, [], ◌∷◌, ◌++◌, map, length, get_or, All, refl, ap, sym, ◌∙◌, arith}
use Rattle.std.proofs.lemmas.List.{get_or_append_left}
use Rattle.std.proofs.lemmas.List.Elements.{All-head, All-tail, All-weaker}
use Rattle.std.proofs.Math.ListN.{length-append}
use Rattle.smt_lex.specs.Names.{Name}
use Rattle.smt_terms.specs.declared.ids.NodeId.{NodeId}
use Rattle.smt_terms.specs.declared.ids.SymId.{SymId}
use Rattle.smt_terms.specs.declared.ids.SortId.{SortId}
use Rattle.smt_terms.specs.Fresh.{Supply, NeverGives}
use Rattle.smt_terms.specs.Free.{name_among}
use Rattle.smt_terms.specs.SubstLaws.{GivesNone}
use Rattle.smt_terms.specs.Sorts.{Sort, bool}
use Rattle.smt_values.specs.SortIds.{sort_at, IsSortId, AddsSort}
use Rattle.smt_values.proofs.SortIds.{placed, sort_placed, sort_basic}
use Rattle.term_table.specs.Formulas.{Formulas, no_tree, no_symbol, tree, trees_at, symbol_at, IsNode, AreNodes, IsSymbol, Grows, Adds, GrowsByOne}
use Rattle.term_walk.specs.Walking.{GrowsTo}
use Rattle.term_subst.specs.Substituting.{IsLater}

-- ---- lists that gained

pub grows_as : {X : Type 0} (old new : List X) → new ≡ old → Grows old new
grows_as old new e =
    let count : length new ≡ length old = ap length e in
    record { longer = omega arith; same = λ i d within. ap (λ xs. get_or xs i d) e }

pub grows_behind : {X : Type 0} (old new more : List X) → new ≡ old ++ more → Grows old new
grows_behind old new more e =
    let count : length new ≡ length old + length more = ap length e ∙ length-append old more in
    record { longer = omega arith; same = λ i d within. ap (λ xs. get_or xs i d) e ∙ get_or_append_left old more d i within }

pub grows_adding : {X : Type 0} (old new : List X) (x : X) → Adds old new x → Grows old new
grows_adding old new x (inl same) = grows_as old new same
grows_adding old new x (inr more) = grows_behind old new (x ∷ []) more.0

pub same_map : {A B : Type 0} (f g : A → B) (xs : List A) → All (λ x. f x ≡ g x) xs → map f xs ≡ map g xs
same_map f g [] same = refl
same_map f g (x ∷ xs) same =
    ap (λ y. y ∷ map f xs) (All-head (λ z. f z ≡ g z) x xs same) ∙ ap (λ ys. g x ∷ ys) (same_map f g xs (All-tail (λ z. f z ≡ g z) x xs same))

-- ---- tables that gained

pub grown_self : (t : Formulas) → GrowsTo t t
grown_self t = record { trees = grows_as t.trees t.trees refl; symbols = grows_as t.symbols t.symbols refl; sorts = grows_as t.sorts t.sorts refl }

module _ (t u : Formulas) (grows : GrowsTo t u) where
  pub node_stays : (k : NodeId) → IsNode t k → IsNode u k
  node_stays k node = let longer : length t.trees ≤ length u.trees = grows.trees.longer in omega arith

  pub tree_stays : (k : NodeId) → IsNode t k → tree u k ≡ tree t k
  tree_stays k node = grows.trees.same k.0 no_tree node

  pub nodes_stay : (ks : List NodeId) → AreNodes t ks → AreNodes u ks
  nodes_stay ks nodes = All-weaker (λ k. IsNode t k) (λ k. IsNode u k) node_stays ks nodes

  pub trees_stay : (ks : List NodeId) → AreNodes t ks → trees_at u ks ≡ trees_at t ks
  trees_stay ks nodes = same_map (tree u) (tree t) ks (All-weaker (λ k. IsNode t k) (λ k. tree u k ≡ tree t k) tree_stays ks nodes)

  pub symbol_within : (f : SymId) → IsSymbol t f → IsSymbol u f
  symbol_within f within = let longer : length t.symbols ≤ length u.symbols = grows.symbols.longer in omega arith

  pub symbol_stays : (f : SymId) → IsSymbol t f → symbol_at u f ≡ symbol_at t f
  symbol_stays f within = grows.symbols.same f.0 no_symbol within

module _ (ss us : List Sort) (grows : Grows ss us) where
  pub sort_within : (k : SortId) → IsSortId ss k → IsSortId us k
  sort_within k within = let longer : length ss ≤ length us = grows.longer in omega arith

  pub sort_stays : (k : SortId) → IsSortId ss k → sort_at us k ≡ sort_at ss k
  sort_stays k within = by (placed k.0)
    where
      by : (k.0 < 130) ⊎ ((n : ℕ) × (k.0 ≡ 130 + n)) → sort_at us k ≡ sort_at ss k
      by (inl basic) = sort_basic us k.0 basic ∙ sym (sort_basic ss k.0 basic)
      by (inr at) =
          let below : at.0 < length ss = let is = at.1 in omega arith in
          let here : sort_at us k ≡ get_or us at.0 bool = ap (λ n. sort_at us (record { 0 = n })) at.1 ∙ sort_placed us at.0 in
          let there : sort_at ss k ≡ get_or ss at.0 bool = ap (λ n. sort_at ss (record { 0 = n })) at.1 ∙ sort_placed ss at.0 in
          here ∙ grows.same at.0 bool below ∙ sym there

-- ---- supplies of which names were drawn

module _ (s r : Supply) (later : IsLater s r) where
  pub never_later : (n : Name) → NeverGives s n → NeverGives r n
  never_later n never i from is =
      let number : s.number ≤ r.number = later.number in
      ap (λ ns. name_among ns n) later.taken ∙ never i (omega arith) is

  pub none_later : (ns : List Name) → GivesNone s ns → GivesNone r ns
  none_later ns none n among = never_later n (none n among)

pub later_self : (s : Supply) → IsLater s s
later_self s = record { taken = refl; number = omega arith }

pub later_on : (s r q : Supply) → IsLater s r → IsLater r q → IsLater s q
later_on s r q a b =
    let first : s.number ≤ r.number = a.number in
    let second : r.number ≤ q.number = b.number in
    record { taken = b.taken ∙ a.taken; number = omega arith }

-- ---- what calls of a table give

module _ (t u : Formulas) where
  pub grown_sorts : (s : Sort) → AddsSort t.sorts u.sorts s → u.symbols ≡ t.symbols → u.trees ≡ t.trees → GrowsTo t u
  grown_sorts s (inl same) symbols trees = record { trees = grows_as t.trees u.trees trees; symbols = grows_as t.symbols u.symbols symbols; sorts = grows_as t.sorts u.sorts same }
  grown_sorts s (inr more) symbols trees = record { trees = grows_as t.trees u.trees trees; symbols = grows_as t.symbols u.symbols symbols; sorts = grows_behind t.sorts u.sorts (s ∷ []) more.0 }

  pub grown_symbols : GrowsByOne t.symbols u.symbols → u.sorts ≡ t.sorts → u.trees ≡ t.trees → GrowsTo t u
  grown_symbols more sorts trees = record { trees = grows_as t.trees u.trees trees; symbols = more.grows; sorts = grows_as t.sorts u.sorts sorts }

  pub grown_trees : GrowsByOne t.trees u.trees → u.symbols ≡ t.symbols → u.sorts ≡ t.sorts → GrowsTo t u
  grown_trees more symbols sorts = record { trees = more.grows; symbols = grows_as t.symbols u.symbols symbols; sorts = grows_as t.sorts u.sorts sorts }
