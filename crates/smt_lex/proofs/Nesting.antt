-- What one more entry does to the open lists, and to where forms end.
use Rattle.std.proofs.Common.{◌≡◌, ℕ, suc, ◌+◌, ◌-◌, ◌<◌, ◌⊎◌, inl, inr, false, List, [], ◌∷◌, ◌++◌, length, get_or, drop, set, refl, ap, sym, ◌∙◌, subst, arith, append_assoc, add-one}
use Rattle.std.proofs.lemmas.List.{map_push, length-map, length_push, get_or_push, get_or_append_left, get_or-set_other, get_or-set_same, length-set, drop-append-le, drop_all, drop_more, drop-drop, get_or-map, length-append}
use Rattle.std.proofs.Math.Seq.{map-set_same}
use Rattle.std.proofs.Math.Dec.{eqb-suc-zero}
use Rattle.std.proofs.lemmas.Bool.Decides.{eqb_tells}
use Rattle.smt_lex.specs.declared.items.Item.{Item}
use Rattle.smt_lex.specs.declared.items.Item.TheVariants.{Left, Right}
use Rattle.smt_lex.specs.declared.entries.Entry.{Entry}
use Rattle.smt_lex.specs.Forms.{is_left}
use Rattle.smt_lex.specs.Forest.{closing, form_length}
use Rattle.smt_lex.specs.Building.{IsAtom, Nests, IsOpen, EndsAt, ClosesBehind, entry_at, entry_after, no_entry, entry_items}

closing_atom : (item : Item) → IsAtom item → (depth : ℕ) (more : List Item) → closing depth (item ∷ more) ≡ suc (closing depth more)
closing_atom item atom depth more = rw (atom.1) (ap (λ d. suc (closing d more)) (atom.2 depth))

closing_left : (depth : ℕ) (more : List Item) → closing depth (Left ∷ more) ≡ suc (closing (suc depth) more)
closing_left depth more = refl

closing_right : (depth : ℕ) (more : List Item) → closing (suc depth) (Right ∷ more) ≡ suc (closing depth more)
closing_right depth more = rw (eqb-suc-zero depth) (ap (λ d. suc (closing d more)) (omega arith))

closing_here : (more : List Item) → closing 0 (Right ∷ more) ≡ 1
closing_here more = refl

-- what holds of each number below n, and of n
below_or_last : (P : ℕ → Type 0) (n m : ℕ) → m ≡ n + 1 → ((i : ℕ) → i < n → P i) → P n → (i : ℕ) → i < m → P i
below_or_last P n m is earlier last i within =
    elim (eqb_tells i n) [
      | inl same ↦ subst P (sym same.1) last
      | inr differs ↦ earlier i (omega (arith, differs.1))
    ]

module _ (es : List Entry) (e : Entry) where
  items_push : (more : List Item) → entry_items (es ++ e ∷ []) ++ more ≡ entry_items es ++ (e.item ∷ more)
  items_push more = ap (λ xs. xs ++ more) (map_push (λ (e : Entry). e.item) es e) ∙ append_assoc (entry_items es) (e.item ∷ []) more

  entry_before : (i : ℕ) → i < length es → entry_at (es ++ e ∷ []) i ≡ entry_at es i
  entry_before i within = get_or_append_left es (e ∷ []) no_entry i within

  entry_last : entry_at (es ++ e ∷ []) (length es) ≡ e
  entry_last = get_or_push es e no_entry (length es) refl

  -- what is known of a form that has ended stays
  ends_push : (i after : ℕ) → EndsAt es i after → EndsAt (es ++ e ∷ []) i after
  ends_push i after ends more = ap (λ xs. i + form_length (drop i xs)) (items_push more) ∙ ends (e.item ∷ more)

  -- what is known of an open list, with the item before what follows
  behind_push : (i depth left : ℕ) → ((more : List Item) → closing depth (e.item ∷ more) ≡ suc (closing left more)) → ClosesBehind es i depth → ClosesBehind (es ++ e ∷ []) i left
  behind_push i depth left step behind more =
      let moved = ap (λ xs. suc i + closing 0 (drop (suc i) xs)) (items_push more) ∙ behind (e.item ∷ more) in
      omega (arith, moved, step more, length_push es e)

  -- what begins at the last entry
  last_drop : (more : List Item) → drop (length es) (entry_items (es ++ e ∷ []) ++ more) ≡ e.item ∷ more
  last_drop more = ap (drop (length es)) (items_push more)
      ∙ drop-append-le (length es) (entry_items es) (e.item ∷ more) (omega (arith, length-map es (λ (e : Entry). e.item)))
      ∙ ap (λ xs. xs ++ (e.item ∷ more)) (drop_all (length es) (entry_items es) (omega (arith, length-map es (λ (e : Entry). e.item))))

  behind_last : (more : List Item) → drop (suc (length es)) (entry_items (es ++ e ∷ []) ++ more) ≡ more
  behind_last more =
      let place : length es + 1 ≡ suc (length es) = omega arith in
      sym (drop-drop 1 (length es) (entry_items (es ++ e ∷ []) ++ more) ∙ ap (λ n. drop n (entry_items (es ++ e ∷ []) ++ more)) place) ∙ ap (drop 1) (last_drop more)

  -- a form of one token
  one_ends : is_left e.item ≡ false → EndsAt (es ++ e ∷ []) (length es) (entry_after e (length es))
  one_ends atom more =
      let n = ap form_length (last_drop more) in
      let one : form_length (e.item ∷ more) ≡ 1 = rw atom refl in
      let after : entry_after e (length es) ≡ length es + 1 = rw atom refl in
      omega (arith, n, one, after)

  below_push : (lists : List ℕ) → Nests es lists → (j : ℕ) → j < length lists → get_or lists j 0 < length (es ++ e ∷ [])
  below_push lists nests j within = omega (arith, nests.below j within, length_push es e)

  lefts_push : (lists : List ℕ) → Nests es lists → (j : ℕ) → j < length lists → (entry_at (es ++ e ∷ []) (get_or lists j 0)).item ≡ Left
  lefts_push lists nests j within = ap (λ (e : Entry). e.item) (entry_before _ (nests.below j within)) ∙ nests.lefts j within

  pub nests_atom : (lists : List ℕ) → IsAtom e.item → Nests es lists → Nests (es ++ e ∷ []) lists
  nests_atom lists atom nests = record {
    below = below_push lists nests;
    lefts = lefts_push lists nests;
    behind = λ j within. behind_push _ _ _ (closing_atom e.item atom _) (nests.behind j within);
    ends = below_or_last (λ i. IsOpen lists i ⊎ EndsAt (es ++ e ∷ []) i (entry_after (entry_at (es ++ e ∷ []) i) i)) (length es) (length (es ++ e ∷ [])) (length_push es e)
        (λ i within. elim (nests.ends i within) [
          | inl listed ↦ inl listed
          | inr ends ↦ inr (subst (EndsAt (es ++ e ∷ []) i) (ap (λ (e : Entry). entry_after e i) (sym (entry_before i within))) (ends_push i _ ends))
        ])
        (inr (subst (EndsAt (es ++ e ∷ []) (length es)) (ap (λ (e : Entry). entry_after e (length es)) (sym entry_last)) (one_ends atom.0)));
  }

  pub nests_left : (lists : List ℕ) → e.item ≡ Left → Nests es lists → Nests (es ++ e ∷ []) (lists ++ length es ∷ [])
  nests_left lists left nests =
      let listed_before : (j : ℕ) → j < length lists → get_or (lists ++ length es ∷ []) j 0 ≡ get_or lists j 0 = λ j within. get_or_append_left lists (length es ∷ []) 0 j within in
      let listed_last : get_or (lists ++ length es ∷ []) (length lists) 0 ≡ length es = get_or_push lists (length es) 0 (length lists) refl in
      record {
        below = below_or_last (λ j. get_or (lists ++ length es ∷ []) j 0 < length (es ++ e ∷ [])) (length lists) (length (lists ++ length es ∷ [])) (length_push lists (length es))
            (λ j within. omega (arith, listed_before j within, nests.below j within, length_push es e))
            (omega (arith, listed_last, length_push es e));
        lefts = below_or_last (λ j. (entry_at (es ++ e ∷ []) (get_or (lists ++ length es ∷ []) j 0)).item ≡ Left) (length lists) (length (lists ++ length es ∷ [])) (length_push lists (length es))
            (λ j within. ap (λ i. (entry_at (es ++ e ∷ []) i).item) (listed_before j within) ∙ lefts_push lists nests j within)
            (ap (λ i. (entry_at (es ++ e ∷ []) i).item) listed_last ∙ ap (λ (e : Entry). e.item) entry_last ∙ left);
        behind = below_or_last (λ j. ClosesBehind (es ++ e ∷ []) (get_or (lists ++ length es ∷ []) j 0) (length (lists ++ length es ∷ []) - suc j)) (length lists) (length (lists ++ length es ∷ [])) (length_push lists (length es))
            (λ j within.
            let depth : length (lists ++ length es ∷ []) - suc j ≡ suc (length lists - suc j) = omega (arith, length_push lists (length es)) in
            subst (λ i. ClosesBehind (es ++ e ∷ []) i (length (lists ++ length es ∷ []) - suc j)) (sym (listed_before j within))
            (subst (ClosesBehind (es ++ e ∷ []) (get_or lists j 0)) (sym depth)
            (behind_push _ _ _ (λ more. ap (λ item. closing (length lists - suc j) (item ∷ more)) left) (nests.behind j within))))
            (let depth : length (lists ++ length es ∷ []) - suc (length lists) ≡ 0 = omega (arith, length_push lists (length es)) in
            subst (λ i. ClosesBehind (es ++ e ∷ []) i (length (lists ++ length es ∷ []) - suc (length lists))) (sym listed_last)
            (subst (ClosesBehind (es ++ e ∷ []) (length es)) (sym depth)
            (λ more.
            let inside = ap (closing 0) (behind_last more) in
            omega (arith, inside, length_push es e))));
        ends = below_or_last (λ i. IsOpen (lists ++ length es ∷ []) i ⊎ EndsAt (es ++ e ∷ []) i (entry_after (entry_at (es ++ e ∷ []) i) i)) (length es) (length (es ++ e ∷ [])) (length_push es e)
            (λ i within. elim (nests.ends i within) [
              | inl listed ↦ inl (listed.0, omega (arith, length_push lists (length es), listed.1), listed_before listed.0 listed.1 ∙ listed.2)
              | inr ends ↦ inr (subst (EndsAt (es ++ e ∷ []) i) (ap (λ (e : Entry). entry_after e i) (sym (entry_before i within))) (ends_push i _ ends))
            ])
            (inl (length lists, omega (arith, length_push lists (length es)), listed_last));
      }

  -- the list of entry o, which closes, is the innermost
  module _ (lists : List ℕ) (o : ℕ) (right : e.item ≡ Right) (nests : Nests es (lists ++ o ∷ [])) where
    listed_before : (j : ℕ) → j < length lists → get_or (lists ++ o ∷ []) j 0 ≡ get_or lists j 0
    listed_before j within = get_or_append_left lists (o ∷ []) 0 j within

    listed_last : get_or (lists ++ o ∷ []) (length lists) 0 ≡ o
    listed_last = get_or_push lists o 0 (length lists) refl

    one_more : length lists < length (lists ++ o ∷ [])
    one_more = omega (arith, length_push lists o)

    pub closed_below : o < length es
    closed_below = omega (arith, nests.below (length lists) one_more, listed_last)

    pub closed_left : (entry_at es o).item ≡ Left
    closed_left = sym (ap (λ i. (entry_at es i).item) listed_last) ∙ nests.lefts (length lists) one_more

    -- the list ends behind its `)`
    closed_ends : EndsAt (es ++ e ∷ []) o (suc (length es))
    closed_ends more =
        let behind_it = e.item ∷ more in
        let long : o < length (entry_items es ++ behind_it) = omega (arith, closed_below, length-append (entry_items es) behind_it, length-map es (λ (e : Entry). e.item)) in
        let first : get_or (entry_items es ++ behind_it) o Right ≡ Left =
        get_or_append_left (entry_items es) behind_it Right o (omega (arith, closed_below, length-map es (λ (e : Entry). e.item)))
        ∙ get_or-map (λ (e : Entry). e.item) es o no_entry Right closed_below ∙ closed_left in
        let place : o + 1 ≡ suc o = omega arith in
        let split = drop_more (entry_items es ++ behind_it) o Right long ∙ ap (λ item. item ∷ drop (o + 1) (entry_items es ++ behind_it)) first in
        let size = ap form_length (ap (drop o) (items_push more) ∙ split) ∙ ap (λ n. suc (closing 0 (drop n (entry_items es ++ behind_it)))) place in
        let depth : length (lists ++ o ∷ []) - suc (length lists) ≡ 0 = omega (arith, length_push lists o) in
        let closes = subst (λ d. ClosesBehind es o d) depth (subst (λ i. ClosesBehind es i (length (lists ++ o ∷ []) - suc (length lists))) listed_last (nests.behind (length lists) one_more)) in
        let here = closes behind_it ∙ ap (λ item. length es + closing 0 (item ∷ more)) right in
        omega (arith, size, here)

    module _ (closed : Entry) (left : closed.item ≡ Left) (closed_link : closed.link ≡ suc (length es)) where
      closed_after : entry_after closed o ≡ suc (length es)
      closed_after = rw left closed_link

      same_items : entry_items (set (es ++ e ∷ []) o closed) ≡ entry_items (es ++ e ∷ [])
      same_items = map-set_same (λ (e : Entry). e.item) (es ++ e ∷ []) o closed no_entry (left ∙ sym (ap (λ (e : Entry). e.item) (entry_before o closed_below) ∙ closed_left))

      same_length : length (set (es ++ e ∷ []) o closed) ≡ suc (length es)
      same_length = length-set (es ++ e ∷ []) o closed ∙ (length_push es e) ∙ (add-one (length es))

      ends_set : (i after : ℕ) → EndsAt (es ++ e ∷ []) i after → EndsAt (set (es ++ e ∷ []) o closed) i after
      ends_set i after ends more = ap (λ xs. i + form_length (drop i (xs ++ more))) same_items ∙ ends more

      at_closed : entry_at (set (es ++ e ∷ []) o closed) o ≡ closed
      at_closed = get_or-set_same (es ++ e ∷ []) o closed no_entry (omega (arith, closed_below, length_push es e))

      at_other : (i : ℕ) → (i ≡ o → ⊥) → entry_at (set (es ++ e ∷ []) o closed) i ≡ entry_at (es ++ e ∷ []) i
      at_other i differs = get_or-set_other (es ++ e ∷ []) o i closed no_entry differs

      item_at : (i : ℕ) → i < length es → (entry_at (set (es ++ e ∷ []) o closed) i).item ≡ (entry_at es i).item
      item_at i within = elim (eqb_tells i o) [
        | inl same ↦ ap (λ n. (entry_at (set (es ++ e ∷ []) o closed) n).item) same.1 ∙ ap (λ (e : Entry). e.item) at_closed ∙ left ∙ sym (ap (λ n. (entry_at es n).item) same.1 ∙ closed_left)
        | inr differs ↦ ap (λ (e : Entry). e.item) (at_other i differs.1 ∙ entry_before i within)
      ]

      still_listed : (i : ℕ) → (i ≡ o → ⊥) → (j : ℕ) → j < length (lists ++ o ∷ []) → get_or (lists ++ o ∷ []) j 0 ≡ i → j < length lists
      still_listed i differs j within is = elim (eqb_tells j (length lists)) [
        | inl last ↦ absurd (differs (sym is ∙ ap (λ j. get_or (lists ++ o ∷ []) j 0) last.1 ∙ listed_last))
        | inr earlier ↦ omega (arith, within, length_push lists o, earlier.1)
      ]

      ends_earlier : (i : ℕ) → i < length es → IsOpen lists i ⊎ EndsAt (set (es ++ e ∷ []) o closed) i (entry_after (entry_at (set (es ++ e ∷ []) o closed) i) i)
      ends_earlier i within = elim (eqb_tells i o) [
        | inl same ↦ inr (subst (λ n. EndsAt (set (es ++ e ∷ []) o closed) n (entry_after (entry_at (set (es ++ e ∷ []) o closed) n) n)) (sym same.1)
            (subst (EndsAt (set (es ++ e ∷ []) o closed) o) (sym (ap (λ (e : Entry). entry_after e o) at_closed ∙ closed_after)) (ends_set o _ closed_ends)))
        | inr differs ↦ elim (nests.ends i within) [
          | inl listed ↦ inl (listed.0, still_listed i differs.1 listed.0 listed.1 listed.2, sym (listed_before listed.0 (still_listed i differs.1 listed.0 listed.1 listed.2)) ∙ listed.2)
          | inr ends ↦ inr (subst (EndsAt (set (es ++ e ∷ []) o closed) i) (ap (λ (e : Entry). entry_after e i) (sym (at_other i differs.1 ∙ entry_before i within))) (ends_set i _ (ends_push i _ ends)))
        ]
      ]

      pub nests_right : Nests (set (es ++ e ∷ []) o closed) lists
      nests_right = record {
        below = λ j within. omega (arith, nests.below j (omega (arith, within, one_more)), listed_before j within, same_length);
        lefts = λ j within.
            let was = nests.below j (omega (arith, within, one_more)) in
            ap (λ i. (entry_at (set (es ++ e ∷ []) o closed) i).item) (sym (listed_before j within)) ∙ item_at _ was ∙ nests.lefts j (omega (arith, within, one_more));
        behind = λ j within more.
            let inside : j < length (lists ++ o ∷ []) = omega (arith, within, one_more) in
            let depth : length (lists ++ o ∷ []) - suc j ≡ suc (length lists - suc j) = omega (arith, within, length_push lists o) in
            let was = subst (λ i. ClosesBehind es i (suc (length lists - suc j))) (listed_before j within) (subst (ClosesBehind es (get_or (lists ++ o ∷ []) j 0)) depth (nests.behind j inside)) in
            let now = behind_push _ _ (length lists - suc j) (λ more. ap (λ item. closing (suc (length lists - suc j)) (item ∷ more)) right ∙ closing_right _ more) was more in
            ap (λ xs. suc (get_or lists j 0) + closing 0 (drop (suc (get_or lists j 0)) (xs ++ more))) same_items ∙ now
            ∙ ap (λ n. n + closing (length lists - suc j) more) (length_push es e ∙ add-one (length es) ∙ sym same_length);
        ends = below_or_last (λ i. IsOpen lists i ⊎ EndsAt (set (es ++ e ∷ []) o closed) i (entry_after (entry_at (set (es ++ e ∷ []) o closed) i) i)) (length es) (length (set (es ++ e ∷ []) o closed)) (same_length ∙ sym (add-one (length es)))
            ends_earlier
            (let differs : length es ≡ o → ⊥ = λ same. omega (arith, closed_below, same) in
            inr (subst (EndsAt (set (es ++ e ∷ []) o closed) (length es)) (ap (λ (e : Entry). entry_after e (length es)) (sym (at_other (length es) differs ∙ entry_last)))
            (ends_set _ _ (one_ends (ap is_left right)))));
      }
