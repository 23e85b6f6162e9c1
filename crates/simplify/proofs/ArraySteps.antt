-- Elements and stores, by the outermost layer of an array.
use Rattle.std.proofs.Common.{◌≡◌, ◌<◌, Bool, true, false, not, cond, ◌&&◌, List, [], ◌∷◌, Option, Some, IsOk, inl, inr, refl, ap, sym, ◌∙◌, subst}
use Rattle.std.proofs.lemmas.List.Elements.{All-cons, All-tail}
use Rattle.smt_terms.specs.declared.ids.NodeId.{NodeId}
use Rattle.smt_terms.specs.declared.op.Op.{Op}
use Rattle.smt_terms.specs.declared.op.Op.TheVariants.{Select, Store}
use Rattle.smt_terms.specs.ArrayTerms.{selected, stored}
use Rattle.smt_terms.specs.Constants.{are_different_constants}
use Rattle.smt_terms.specs.Equal.{op_eq, term_eq}
use Rattle.smt_terms.specs.Rank.{shape, rank, sort_of}
use Rattle.smt_terms.specs.Sorts.{Sort, Symbol, array}
use Rattle.smt_terms.specs.Term.{op, const_array, Term, apply, none, ◌⨾◌, terms}
use Rattle.smt_terms.proofs.Equal.{Decides-op_eq, Decides-term_eq}
use Rattle.smt_terms.proofs.Keeping.{two_or_more}
use Rattle.smt_terms.proofs.Operands.{fewer_sorts}
use Rattle.smt_terms.proofs.Ranked.{rank-takes}
use Rattle.smt_terms.proofs.Sorted.{applied as applied_sorts}
use Rattle.smt_terms.proofs.StoredTerms.{fine_term}
use Rattle.smt_terms.proofs.Tests.{not_true, true_or_false}
use Rattle.term_table.specs.Formulas.{Formulas, tree, trees_at, operands, sort_or_bool, sorts_in, Kind, kind, theory, applied, filled, binder, kind_term, kind_rank, IsNode, IsNodeOf, IsTable, Makes}
use Rattle.simplify.specs.ArrayNodes.{is_opaque, IsFilled, IsEarlier, IsStored, IsBare}
use Rattle.simplify.specs.Arrays.{selection, storing, storing_anew}
use Rattle.simplify.specs.Reduced.{Names}

-- ---- terms

store-itself : op_eq Store Store ≡ true
store-itself = (Decides-op_eq Store Store).1 refl

selection-stored : (a i v j : Term) → selection (stored a i v) j ≡ cond (term_eq i j) v (cond (are_different_constants i j) (selection a j) (selected (stored a i v) j))
selection-stored a i v j = ap (λ b. cond (b && term_eq i j) v (cond (b && are_different_constants i j) (selection a j) (selected (stored a i v) j))) store-itself

pub selection-opaque : (u j : Term) → is_opaque u ≡ true → selection u j ≡ selected u j
selection-opaque (apply (const_array s) (v ⨾ none)) j e = absurd cc
selection-opaque (apply (op o) (a ⨾ i ⨾ v ⨾ none)) j e =
    ap (λ b. cond (b && term_eq i j) v (cond (b && are_different_constants i j) (selection a j) (selected (apply (op o) (a ⨾ i ⨾ v ⨾ none)) j))) (not_true (op_eq o Store) e)
selection-opaque u j e = refl

storing-stored : (a j w i v : Term) → storing (stored a j w) i v ≡ cond (term_eq i j) (storing a i v) (storing_anew (stored a j w) i v)
storing-stored a j w i v = ap (λ b. cond (b && term_eq i j) (storing a i v) (storing_anew (stored a j w) i v)) store-itself

pub storing-opaque : (u i v : Term) → is_opaque u ≡ true → storing u i v ≡ storing_anew u i v
storing-opaque (apply (op o) (a ⨾ j ⨾ w ⨾ none)) i v e =
    ap (λ b. cond (b && term_eq i j) (storing a i v) (storing_anew (apply (op o) (a ⨾ j ⨾ w ⨾ none)) i v)) (not_true (op_eq o Store) e)
storing-opaque u i v e = refl

before-sort : (a i v : Term) (s : Sort) → sort_of (stored a i v) ≡ Some s → sort_of a ≡ Some s
unfolding shape
before-sort a i v s has =
    let parts = applied_sorts (op Store) (a ⨾ i ⨾ v ⨾ none) s has in
    let taken = rank-takes (op Store) parts.sorts s parts.rank in
    (fewer_sorts a (i ⨾ v ⨾ none) (array taken.0 taken.1) (taken.0 ∷ taken.1 ∷ []) (parts.operands ∙ ap (λ rs. Some rs) taken.2)).0
    ∙ ap (λ r. Some r) (sym taken.3)

-- ---- nodes

pub opaque-three : (fs : List Symbol) (ss : List Sort) (k : Kind) (x y z : Term) → ((q : Op) → k ≡ theory q → q ≡ Store → ⊥) → is_opaque (kind_term fs ss k (x ∷ y ∷ z ∷ [])) ≡ true
opaque-three fs ss (theory q) x y z other = elim (true_or_false (op_eq q Store)) [
  | inl store ↦ absurd (other q refl ((Decides-op_eq q Store).0 store))
  | inr no_store ↦ ap not no_store
]
opaque-three fs ss (applied f) x y z other = refl
opaque-three fs ss (filled s) x y z other = refl
opaque-three fs ss (binder q) x y z other = refl

pub is_earlier : (t : Formulas) (k a : NodeId) (i v : Term) → IsTable t → IsNode t k → IsNode t a → a.0 < k.0 → tree t k ≡ stored (tree t a) i v → IsEarlier t k a
is_earlier t k a i v table node before below term =
    let f = fine_term (tree t k) (table.sorted k.0 node) in
    record { node = before; below = below; sort = before-sort (tree t a) i v f.sort (ap sort_of (sym term) ∙ f.has) ∙ sym f.has }

module _ (t : Formulas) (k v : NodeId) (h : IsFilled t k v) where
  pub reads-filled : (j : Term) → Names t (selection (tree t k) j) v
  reads-filled j = record { node = h.value; term = sym (ap (λ u. selection u j) h.term) }

  pub stores-filled : (i w : Term) → storing (tree t k) i w ≡ storing_anew (tree t k) i w
  stores-filled i w = ap (λ u. storing u i w) h.term ∙ sym (ap (λ u. storing_anew u i w) h.term)

module _ (t : Formulas) (k a i v : NodeId) (h : IsStored t k a i v) where
  through : (j : Term) → selection (tree t k) j ≡ cond (term_eq (tree t i) j) (tree t v) (cond (are_different_constants (tree t i) j) (selection (tree t a) j) (selected (tree t k) j))
  through j =
      ap (λ u. selection u j) h.term
      ∙ selection-stored (tree t a) (tree t i) (tree t v) j
      ∙ ap (λ u. cond (term_eq (tree t i) j) (tree t v) (cond (are_different_constants (tree t i) j) (selection (tree t a) j) (selected u j))) (sym h.term)

  pub reads-here : (j : Term) → term_eq (tree t i) j ≡ true → Names t (selection (tree t k) j) v
  reads-here j same = record {
    node = h.value;
    term = sym (through j ∙ ap (λ b. cond b (tree t v) (cond (are_different_constants (tree t i) j) (selection (tree t a) j) (selected (tree t k) j))) same);
  }

  module _ (j : Term) (other : term_eq (tree t i) j ≡ false) where
    past : selection (tree t k) j ≡ cond (are_different_constants (tree t i) j) (selection (tree t a) j) (selected (tree t k) j)
    past = through j ∙ ap (λ b. cond b (tree t v) (cond (are_different_constants (tree t i) j) (selection (tree t a) j) (selected (tree t k) j))) other

    pub reads-before : are_different_constants (tree t i) j ≡ true → selection (tree t k) j ≡ selection (tree t a) j
    reads-before apart = past ∙ ap (λ b. cond b (selection (tree t a) j) (selected (tree t k) j)) apart

    pub reads-unknown : are_different_constants (tree t i) j ≡ false → selection (tree t k) j ≡ selected (tree t k) j
    reads-unknown either = past ∙ ap (λ b. cond b (selection (tree t a) j) (selected (tree t k) j)) either

  over : (j w : Term) → storing (tree t k) j w ≡ cond (term_eq j (tree t i)) (storing (tree t a) j w) (storing_anew (tree t k) j w)
  over j w =
      ap (λ u. storing u j w) h.term
      ∙ storing-stored (tree t a) (tree t i) (tree t v) j w
      ∙ ap (λ u. cond (term_eq j (tree t i)) (storing (tree t a) j w) (storing_anew u j w)) (sym h.term)

  pub stores-hidden : (j w : Term) → term_eq j (tree t i) ≡ true → storing (tree t k) j w ≡ storing (tree t a) j w
  stores-hidden j w same = over j w ∙ ap (λ b. cond b (storing (tree t a) j w) (storing_anew (tree t k) j w)) same

  pub stores-other : (j w : Term) → term_eq j (tree t i) ≡ false → storing (tree t k) j w ≡ storing_anew (tree t k) j w
  stores-other j w other = over j w ∙ ap (λ b. cond b (storing (tree t a) j w) (storing_anew (tree t k) j w)) other

-- ---- the array that was reached

module _ (t : Formulas) (a b : NodeId) (node : IsNode t b) (sort : sort_of (tree t b) ≡ sort_of (tree t a)) where
  makes-over : (p : Op) (j : NodeId) (ks : List NodeId) → kind p ≡ theory p → Makes t p (a ∷ j ∷ ks) → Makes t p (b ∷ j ∷ ks)
  makes-over p j ks is m = record {
    kids = All-cons (IsNode t) b (j ∷ ks) node (All-tail (IsNode t) a (j ∷ ks) m.kids);
    numbers = m.numbers;
    ranked =
        subst (λ (k : Kind). IsOk (kind_rank t.symbols t.sorts k (trees_at t (b ∷ j ∷ ks)))) (sym is)
        (subst (λ (o : Option Sort). IsOk (rank (op p) (sort_or_bool o ∷ sorts_in (trees_at t (j ∷ ks))))) (sym sort)
        (subst (λ (k : Kind). IsOk (kind_rank t.symbols t.sorts k (trees_at t (a ∷ j ∷ ks)))) is m.ranked));
    minus = two_or_more p (tree t b) (tree t j) (terms (trees_at t ks));
  }

  pub makes-select : (j : NodeId) → Makes t Select (a ∷ j ∷ []) → Makes t Select (b ∷ j ∷ [])
  unfolding kind
  makes-select j = makes-over Select j [] refl

  pub makes-store : (i v : NodeId) → Makes t Store (a ∷ i ∷ v ∷ []) → Makes t Store (b ∷ i ∷ v ∷ [])
  unfolding kind
  makes-store i v = makes-over Store i (v ∷ []) refl

-- ---- a `select` that is there, or isn't

module _ (t : Formulas) (a i v : NodeId) where
  pub element-told : (k : NodeId) → IsNodeOf t Select (a ∷ i ∷ []) k → term_eq (tree t v) (tree t k) ≡ term_eq (tree t v) (selected (tree t a) (tree t i))
  unfolding kind
  element-told k is = ap (term_eq (tree t v)) is.term

  pub element-missing : IsNode t v → ((k : NodeId) → IsNodeOf t Select (a ∷ i ∷ []) k → ⊥) → term_eq (tree t v) (selected (tree t a) (tree t i)) ≡ false
  unfolding kind
  element-missing node missing = elim (true_or_false (term_eq (tree t v) (selected (tree t a) (tree t i)))) [
    | inl same ↦
        let term : tree t v ≡ selected (tree t a) (tree t i) = (Decides-term_eq (tree t v) (selected (tree t a) (tree t i))).0 same in
        absurd (missing v (record { node = node; term = term; kids = ap operands term }))
    | inr other ↦ other
  ]

-- ---- a store that is there already, and a new one

module _ (t : Formulas) (a i b : NodeId) (h : IsBare t a i b) (v : Term) where
  anew : (c : Bool) → term_eq v (selected (tree t b) (tree t i)) ≡ c → storing (tree t a) (tree t i) v ≡ cond c (tree t b) (stored (tree t b) (tree t i) v)
  anew c e = h.term v ∙ ap (λ d. cond d (tree t b) (stored (tree t b) (tree t i) v)) e

  pub stores-there : term_eq v (selected (tree t b) (tree t i)) ≡ true → Names t (storing (tree t a) (tree t i) v) b
  stores-there e = record { node = h.node; term = sym (anew true e) }

  pub stores-anew : term_eq v (selected (tree t b) (tree t i)) ≡ false → storing (tree t a) (tree t i) v ≡ stored (tree t b) (tree t i) v
  stores-anew e = anew false e
