-- A node that is inserted: it goes last, or it is there with its sort, and then the table is as it was.
use Rattle.std.proofs.Common.{◌≡◌, ℕ, cond, ◌+◌, ◌<◌, Bool, true, false, if◌then◌else◌, inl, inr, ◌⊎◌, List, [], ◌∷◌, ◌++◌, length, map, get_or, Option, Some, None, refl, ap, sym, ◌∙◌, subst, arith, length-append}
use Rattle.std.specs.Map.{lookup}
use Rattle.std.specs.List.{position_or_len}
use Rattle.std.proofs.lemmas.List.{length-map, get_or-map}
use Rattle.std.proofs.lemmas.List.Sums.{passes_at_first}
use Rattle.std.proofs.lemmas.Option.{slice_get-get_or}
use Rattle.indexmap.specs.IndexMap.{IndexMap, keys, insert_entry, insert_index}
use Rattle.indexmap.proofs.CallerLemmas.{insert_entry-new}
use Rattle.smt_terms.specs.declared.ids.SortId.{SortId}
use Rattle.smt_terms.specs.Sorts.{Sort}
use Rattle.smt_terms.specs.Term.{Term}
use Rattle.smt_terms.specs.Rank.{sort_of}
use Rattle.smt_values.specs.SortIds.{sort_at}
use Rattle.smt_values.proofs.SortIds.{sort_one}
use Rattle.term_table.specs.declared.table.Node.{Node}
use Rattle.term_table.specs.declared.table.Entry.{Entry}
use Rattle.term_table.specs.Formulas.{no_tree, tree_in, kind, kind_term, Adds, GrowsByOne}
use Rattle.term_table.specs.View.{row_of, grown, symbols_of, IsKept}
use Rattle.term_table.proofs.Derived.{node_eq}
use Rattle.term_table.proofs.Growth.{either_place, grows-same, grows-push, adds-push, within-push, seam-push}
use Rattle.term_table.proofs.Fields.{lookup_none, lookup_some, length-trees, row_at, node_at, MakesNode, node_sort, trees_pushed, kept_pushed, not_contained}

-- a key that is there with this value
insert_entry-same : (eq : Node → Node → Bool) (n : Node) (v : SortId) (es : List (Node × SortId)) → lookup (eq n) es ≡ Some v → insert_entry eq es n v ≡ es
insert_entry-same eq n v [] e = absurd cc
insert_entry-same eq n v (x ∷ es) e = by (eq n x.0) e (insert_entry-same eq n v es)
  where
    by : (b : Bool) → cond b (Some x.1) (lookup (eq n) es) ≡ Some v → (lookup (eq n) es ≡ Some v → insert_entry eq es n v ≡ es) → (if b then (x.0, v) ∷ es else x ∷ insert_entry eq es n v) ≡ x ∷ es
    by true f rest = let value : v ≡ x.1 = cc in λ i. (x.0, value i) ∷ es
    by false f rest = ap (λ l. x ∷ l) (rest f)

module _ {S : Type 0} (ss : List Sort) (fs : List Entry) (m : IndexMap Node SortId S) (h : IsKept ss fs m.entries) (n : Node) (sort : SortId) (makes : MakesNode ss fs m.entries h n sort) where
  abbrev trees_over : List (Node × SortId) → List Term
  trees_over es = grown (symbols_of ss fs) ss [] (map row_of es)

  abbrev term : Term
  term = kind_term (symbols_of ss fs) ss (kind n.op) (map (tree_in (trees_over m.entries)) n.kids.items)

  -- the node of number i is this one
  abbrev IsStored : List (Node × SortId) → ℕ → Type 0
  IsStored es i = (i < length (trees_over es)) × (get_or (trees_over es) i no_tree ≡ term)

  d : Node × SortId
  d = (n, sort)

  -- the node is there with its sort
  value_kept : (v : SortId) → lookup (node_eq n) m.entries ≡ Some v → v ≡ sort
  value_kept v e =
      let found = lookup_some (node_eq n) m.entries v e in
      let row = get_or m.entries found.0 d in
      let at = row_at ss fs m.entries h found.0 row (slice_get-get_or m.entries found.0 d found.1) in
      let is = node_at ss fs m.entries h n found.0 0 d found.1 (found.2 d).0 in
      let sorts : Some (sort_at ss row.1) ≡ Some (sort_at ss sort) = sym at.sorted ∙ ap sort_of is.term ∙ node_sort ss fs m.entries h n sort makes in
      let same : sort_at ss row.1 ≡ sort_at ss sort = cc in
      let number : row.1.0 ≡ sort.0 = sort_one ss h.sorts row.1.0 sort.0 at.sort makes.within same in
      sym (found.2 d).1 ∙ (λ i. record { 0 = number i })

  module _ (new : List (Node × SortId)) (entries : new ≡ insert_entry node_eq m.entries n sort) where
    -- the rows as they were, or one more
    abbrev Rows : Type 0
    Rows = (new ≡ m.entries) ⊎ ((new ≡ m.entries ++ (n, sort) ∷ []) × (lookup (node_eq n) m.entries ≡ None))

    rows : Rows
    rows = by (lookup (node_eq n) m.entries) refl
      where
        by : (o : Option SortId) → lookup (node_eq n) m.entries ≡ o → Rows
        by None e = inr (entries ∙ insert_entry-new node_eq m n sort e, e)
        by (Some v) e = inl (entries ∙ insert_entry-same node_eq n sort m.entries (e ∙ ap Some (value_kept v e)))

    trees-pushed : new ≡ m.entries ++ (n, sort) ∷ [] → trees_over new ≡ trees_over m.entries ++ term ∷ []
    trees-pushed e = ap trees_over e ∙ trees_pushed ss fs m.entries h n sort

    pub kept_inserted : IsKept ss fs new
    kept_inserted = elim rows [
      | inl e ↦ subst (IsKept ss fs) (sym e) h
      | inr r ↦ subst (IsKept ss fs) (sym r.0) (kept_pushed ss fs m.entries h n sort makes r.1)
    ]

    pub grows_inserted : GrowsByOne (trees_over m.entries) (trees_over new)
    grows_inserted = elim rows [
      | inl e ↦ grows-same (trees_over m.entries) (trees_over new) (ap trees_over e)
      | inr r ↦ grows-push (trees_over m.entries) (trees_over new) term (trees-pushed r.0)
    ]

    pub added_inserted : Adds (trees_over m.entries) (trees_over new) term
    added_inserted = elim rows [
      | inl e ↦ inl (ap trees_over e)
      | inr r ↦ adds-push (trees_over m.entries) (trees_over new) term (trees-pushed r.0) (not_contained ss fs m.entries h n sort makes r.1)
    ]

    module _ (i : ℕ) (place : i ≡ insert_index node_eq m n) (within : i < length new) where
      found_here : i < length m.entries → node_eq n (get_or m.entries i d).0 ≡ true
      found_here lt =
          let number : length (keys m) ≡ length m.entries = length-map m.entries (λ p. p.0) in
          let first : position_or_len (node_eq n) (keys m) < length (keys m) = omega (arith, place, number) in
          ap (node_eq n) (sym (get_or-map (λ p. p.0) m.entries i d n lt)) ∙ ap (λ k. node_eq n (get_or (keys m) k n)) place ∙ passes_at_first (node_eq n) (keys m) n first

      kept : new ≡ m.entries → IsStored new i
      kept e =
          let number : length new ≡ length m.entries = ap length e in
          let lt : i < length m.entries = omega (arith, number) in
          let is = node_at ss fs m.entries h n i 0 d lt (found_here lt) in
          subst (λ es. IsStored es i) (sym e) (is.node, is.term)

      pushed : new ≡ m.entries ++ (n, sort) ∷ [] → lookup (node_eq n) m.entries ≡ None → IsStored new i
      pushed e none =
          let number : length new ≡ length m.entries + 1 = ap length e ∙ length-append m.entries ((n, sort) ∷ []) in
          let last : i ≡ length (trees_over m.entries) = elim (either_place (length m.entries) i (omega (arith, number))) [
            | inl lt ↦ absurd (lookup_none (node_eq n) m.entries i d none lt (found_here lt))
            | inr is ↦ is ∙ sym (length-trees ss fs m.entries h)
          ] in
          (within-push (trees_over m.entries) (trees_over new) term (trees-pushed e) i last, seam-push (trees_over m.entries) (trees_over new) term (trees-pushed e) i no_tree last)

      pub stored_node : IsStored new i
      stored_node = elim rows [ inl e ↦ kept e | inr r ↦ pushed r.0 r.1 ]
