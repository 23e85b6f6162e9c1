-- Going over the forms of a text by the numbers of their first tokens.
use Rattle.std.proofs.Common.{◌≡◌, ℕ, zero, suc, ◌+◌, ◌-◌, ◌<◌, ◌≤◌, inl, inr, true, false, eqb, not, List, [], ◌∷◌, length, get_or, drop, refl, ap, sym, ◌∙◌, subst, arith}
use Rattle.std.specs.Prelude.{◌&&◌}
use Rattle.std.proofs.lemmas.List.{length-map, length-drop, drop_more, drop-map, drop-drop, get_or-map}
use Rattle.std.proofs.lemmas.Bool.Decides.{eqb_tells}
use Rattle.std.proofs.Math.Dec.{eqb-suc-zero}
use Rattle.smt_lex.proofs.Choices.{tell, and_left, and_right}
use Rattle.smt_lex.specs.declared.items.Item.{Item}
use Rattle.smt_lex.specs.declared.items.Item.TheVariants.{Left, Right, Numeral, Decimal, Hex, Bin, Text, Word, Quoted, Keyword}
use Rattle.smt_lex.specs.Lex.{Token}
use Rattle.smt_lex.specs.Forms.{Forms, atom, node, none, ◌⨾◌, is_left, is_right, depth_after, before, rest}
use Rattle.smt_lex.specs.Forest.{no_token, token_at, items, closing, form_length, after_at, closes, IsBalanced, rest_at}

-- a token that is no parenthesis
pub record IsSingle (item : Item) : Type 0 where
  pub left : is_left item ≡ false
  pub right : is_right item ≡ false
  pub depth : (depth : ℕ) → depth_after item depth ≡ depth
  pub before : (t : Token) (r : Forms × List Forms) → before item t r ≡ (atom t ⨾ r.0, r.1)

-- a `(`, a `)` or another token
pub data Kind (item : Item) : Type 0 where
  opens : item ≡ Left → Kind item
  closes_one : item ≡ Right → Kind item
  single : IsSingle item → Kind item

pub kind : (item : Item) → Kind item
kind Left = opens refl
kind Right = closes_one refl
kind Numeral = single (record { left = refl; right = refl; depth = λ _. refl; before = λ _ _. refl })
kind Decimal = single (record { left = refl; right = refl; depth = λ _. refl; before = λ _ _. refl })
kind Hex = single (record { left = refl; right = refl; depth = λ _. refl; before = λ _ _. refl })
kind Bin = single (record { left = refl; right = refl; depth = λ _. refl; before = λ _ _. refl })
kind Text = single (record { left = refl; right = refl; depth = λ _. refl; before = λ _ _. refl })
kind Word = single (record { left = refl; right = refl; depth = λ _. refl; before = λ _ _. refl })
kind Quoted = single (record { left = refl; right = refl; depth = λ _. refl; before = λ _ _. refl })
kind Keyword = single (record { left = refl; right = refl; depth = λ _. refl; before = λ _ _. refl })

-- what is balanced behind some tokens
closes_drop : (i depth : ℕ) (xs : List Item) → closes depth xs ≡ true → (e : ℕ) × (closes e (drop i xs) ≡ true)
closes_drop zero depth xs h = (depth, h)
closes_drop (suc i) depth [] h = (depth, h)
closes_drop (suc i) depth (x ∷ xs) h = closes_drop i (depth_after x depth) xs (and_right _ _ h)

-- more lists around
deeper : (item : Item) (depth more : ℕ) → (is_right item && eqb depth 0) ≡ false → depth_after item (suc (depth + more)) ≡ suc (depth_after item depth + more)
deeper item depth more inside = by_kind (kind item)
  where
    by_kind : Kind item → depth_after item (suc (depth + more)) ≡ suc (depth_after item depth + more)
    by_kind (opens is) = rw is (omega arith)
    by_kind (closes_one is) =
        let some : eqb depth 0 ≡ false = rw is at inside in
        elim (eqb_tells depth 0) [ inl zero_is ↦ absurd (cc (some, zero_is.0)) | inr other ↦ rw is (omega (arith, other.1)) ]
    by_kind (single is) = is.depth (suc (depth + more)) ∙ ap (λ d. suc (d + more)) (sym (is.depth depth))

closing_here : (x : Item) (depth : ℕ) (xs : List Item) → (is_right x && eqb depth 0) ≡ true → closing depth (x ∷ xs) ≡ 1
closing_here x depth xs here = rw here refl

closing_on : (x : Item) (depth : ℕ) (xs : List Item) → (is_right x && eqb depth 0) ≡ false → closing depth (x ∷ xs) ≡ suc (closing (depth_after x depth) xs)
closing_on x depth xs on = rw on refl

closes_on : (x : Item) (depth more : ℕ) (xs : List Item) → (is_right x && eqb depth 0) ≡ false → closes (suc (depth + more)) (x ∷ xs) ≡ true → closes (suc (depth_after x depth + more)) xs ≡ true
closes_on x depth more xs on h = subst (λ d. closes d xs ≡ true) (deeper x depth more on) (and_right _ _ h)

-- the list around is closed within the tokens
closing_within : (depth more : ℕ) (xs : List Item) → closes (suc (depth + more)) xs ≡ true → closing depth xs ≤ length xs
closing_within depth more [] h = absurd (cc (h, eqb-suc-zero (depth + more)))
closing_within depth more (x ∷ xs) h = elim (tell (is_right x && eqb depth 0)) [
  | inl here ↦ omega (arith, closing_here x depth xs here)
  | inr on ↦
      let further = closing_within (depth_after x depth) more xs (closes_on x depth more xs on h) in
      omega (arith, closing_on x depth xs on, further)
]

-- what is left around so many lists
abbrev pub outer : ℕ → Forms × List Forms → Forms × List Forms
outer zero r = r
outer (suc n) (fs, []) = (none, [])
outer (suc n) (fs, gs ∷ around) = outer n (gs, around)

-- it doesn't matter what is left of the innermost list
outer_apart : (n : ℕ) (fs gs : Forms) (around : List Forms) → outer (suc n) (fs, around) ≡ outer (suc n) (gs, around)
outer_apart n fs gs [] = refl
outer_apart n fs gs (hs ∷ around) = refl

outer_left : (n : ℕ) (t : Token) (r : Forms × List Forms) → outer (suc n) (before Left t r) ≡ outer (suc (suc n)) r
outer_left n t (fs, []) = refl
outer_left n t (fs, gs ∷ around) = outer_apart n (node t.start fs ⨾ gs) gs around

abbrev RestClosing : List Token → Type 0
RestClosing ts = (depth more : ℕ) → closes (suc (depth + more)) (items ts) ≡ true → rest (drop (closing depth (items ts)) ts) ≡ outer (suc depth) (rest ts)

rest_step : (t : Token) (ts : List Token) → RestClosing ts → RestClosing (t ∷ ts)
rest_step t ts behind depth more h = by_kind (kind t.item)
  where
    further : (is_right t.item && eqb depth 0) ≡ false → rest (drop (closing depth (items (t ∷ ts))) (t ∷ ts)) ≡ outer (suc (depth_after t.item depth)) (rest ts)
    further on = ap (λ n. rest (drop n (t ∷ ts))) (closing_on t.item depth (items ts) on) ∙ behind (depth_after t.item depth) more (closes_on t.item depth more (items ts) on h)

    by_kind : Kind t.item → rest (drop (closing depth (items (t ∷ ts))) (t ∷ ts)) ≡ outer (suc depth) (rest (t ∷ ts))
    by_kind (opens is) =
        further (rw is refl) ∙ ap (λ item. outer (suc (depth_after item depth)) (rest ts)) is ∙ sym (outer_left depth t (rest ts))
        ∙ sym (ap (λ item. outer (suc depth) (before item t (rest ts))) is)
    by_kind (closes_one is) = elim (eqb_tells depth 0) [
      | inl here ↦
          ap (λ n. rest (drop n (t ∷ ts))) (closing_here t.item depth (items ts) (rw (is, here.0) refl))
          ∙ sym (ap (λ d. outer (suc d) (before t.item t (rest ts))) here.1 ∙ ap (λ item. outer 1 (before item t (rest ts))) is)
      | inr other ↦
          let less : suc (depth - 1) ≡ depth = omega (arith, other.1) in
          further (rw (is, other.0) refl) ∙ ap (λ item. outer (suc (depth_after item depth)) (rest ts)) is ∙ ap (λ d. outer d (rest ts)) less
          ∙ sym (ap (λ item. outer (suc depth) (before item t (rest ts))) is)
    ]
    by_kind (single is) =
        further (rw (is.right) refl) ∙ ap (λ d. outer (suc d) (rest ts)) (is.depth depth)
        ∙ outer_apart depth (rest ts).0 (atom t ⨾ (rest ts).0) (rest ts).1
        ∙ sym (ap (outer (suc depth)) (is.before t (rest ts)))

-- behind the `)` that closes the list around them and so many in it
pub rest_closing : (ts : List Token) → RestClosing ts
rest_closing [] depth more h = absurd (cc (h, eqb-suc-zero (depth + more)))
rest_closing (t ∷ ts) depth more h = rest_step t ts (rest_closing ts) depth more h

-- so many lists are around
abbrev RestAround : List Token → Type 0
RestAround ts = (depth : ℕ) → closes depth (items ts) ≡ true → length (rest ts).1 ≡ depth

around_left : (t : Token) (r : Forms × List Forms) (depth : ℕ) → length r.1 ≡ suc depth → length (before Left t r).1 ≡ depth
around_left t (fs, []) depth h = absurd (omega arith)
around_left t (fs, gs ∷ around) depth h = omega arith

around_step : (t : Token) (ts : List Token) → RestAround ts → RestAround (t ∷ ts)
around_step t ts behind depth h = by_kind (kind t.item)
  where
    further : length (rest ts).1 ≡ depth_after t.item depth
    further = behind (depth_after t.item depth) (and_right (not (is_right t.item && eqb depth 0)) (closes (depth_after t.item depth) (items ts)) h)

    by_kind : Kind t.item → length (rest (t ∷ ts)).1 ≡ depth
    by_kind (opens is) =
        ap (λ item. length (before item t (rest ts)).1) is ∙ around_left t (rest ts) depth (further ∙ ap (λ item. depth_after item depth) is)
    by_kind (closes_one is) =
        let inside = rw is at (and_left (not (is_right t.item && eqb depth 0)) (closes (depth_after t.item depth) (items ts)) h) in
        elim (eqb_tells depth 0) [
          | inl none_is ↦ absurd (cc (inside, none_is.0))
          | inr other ↦
              let less : suc (depth - 1) ≡ depth = omega (arith, other.1) in
              ap (λ item. length (before item t (rest ts)).1) is ∙ ap suc (further ∙ ap (λ item. depth_after item depth) is) ∙ less
        ]
    by_kind (single is) = ap (λ r. length r.1) (is.before t (rest ts)) ∙ further ∙ is.depth depth

pub rest_around : (ts : List Token) → RestAround ts
rest_around [] depth h = elim (eqb_tells depth 0) [ inl is ↦ sym is.1 | inr other ↦ absurd (cc (h, other.0)) ]
rest_around (t ∷ ts) depth h = around_step t ts (rest_around ts) depth h

-- Token i of a text whose parentheses match.
module _ (ts : List Token) (balanced : IsBalanced ts) (i : ℕ) (within : i < length ts) where
  items_within : i < length (items ts)
  items_within = omega (arith, length-map ts (λ t. t.item), within)

  item_is : get_or (items ts) i Right ≡ (token_at ts i).item
  item_is = get_or-map (λ t. t.item) ts i no_token Right within

  -- the items from here on
  items_here : drop i (items ts) ≡ (token_at ts i).item ∷ drop (i + 1) (items ts)
  items_here = drop_more (items ts) i Right items_within ∙ ap (λ item. item ∷ drop (i + 1) (items ts)) item_is

  depth_here : (e : ℕ) × (closes e ((token_at ts i).item ∷ drop (i + 1) (items ts)) ≡ true)
  depth_here = let d = closes_drop i 0 (items ts) balanced in (d.0, sym (ap (closes d.0) items_here) ∙ d.1)

  -- what is left from here on
  pub rest_here : rest_at ts i ≡ before (token_at ts i).item (token_at ts i) (rest_at ts (i + 1))
  rest_here = ap rest (drop_more ts i no_token within)

  pub rest_right : (token_at ts i).item ≡ Right → rest_at ts i ≡ (none, (rest_at ts (i + 1)).0 ∷ (rest_at ts (i + 1)).1)
  rest_right is = rest_here ∙ ap (λ item. before item (token_at ts i) (rest_at ts (i + 1))) is

  after_one : is_left (token_at ts i).item ≡ false → after_at ts i ≡ i + 1
  after_one alone = let one = ap form_length items_here in let n : form_length ((token_at ts i).item ∷ drop (i + 1) (items ts)) ≡ 1 = rw alone refl in omega (arith, one, n)

  -- a token that is a form of its own
  pub record IsToken : Type 0 where
    pub after : after_at ts i ≡ i + 1
    pub here : rest_at ts i ≡ (atom (token_at ts i) ⨾ (rest_at ts (i + 1)).0, (rest_at ts (i + 1)).1)

  pub rest_single : IsSingle (token_at ts i).item → IsToken
  rest_single is = record { after = after_one is.left; here = rest_here ∙ is.before (token_at ts i) (rest_at ts (i + 1)) }

  -- a list: the forms in it begin behind its `(`, and the form behind it where it ends
  pub record IsList : Type 0 where
    pub forms : Forms
    pub here : rest_at ts i ≡ (node (token_at ts i).start forms ⨾ (rest_at ts (after_at ts i)).0, (rest_at ts (after_at ts i)).1)
    pub inside : rest_at ts (i + 1) ≡ (forms, (rest_at ts (after_at ts i)).0 ∷ (rest_at ts (after_at ts i)).1)

  module _ (left : (token_at ts i).item ≡ Left) where
    closes_inside : closes (suc depth_here.0) (drop (i + 1) (items ts)) ≡ true
    closes_inside = ap (λ item. closes depth_here.0 (item ∷ drop (i + 1) (items ts))) (sym left) ∙ depth_here.1

    after_list : after_at ts i ≡ i + 1 + closing 0 (drop (i + 1) (items ts))
    after_list = let size = ap form_length (items_here ∙ ap (λ item. item ∷ drop (i + 1) (items ts)) left) in omega (arith, size)

    list_within : after_at ts i ≤ length ts
    list_within =
        let size = closing_within 0 depth_here.0 (drop (i + 1) (items ts)) (subst (λ d. closes (suc d) (drop (i + 1) (items ts)) ≡ true) (omega arith) closes_inside) in
        omega (arith, after_list, size, length-drop (i + 1) (items ts), length-map ts (λ t. t.item), within)

    items_inside : drop (i + 1) (items ts) ≡ items (drop (i + 1) ts)
    items_inside = drop-map (λ t. t.item) (i + 1) ts

    closes_in : closes (suc depth_here.0) (items (drop (i + 1) ts)) ≡ true
    closes_in = sym (ap (closes (suc depth_here.0)) items_inside) ∙ closes_inside

    -- some list is around what stands inside
    around_some : length (rest_at ts (i + 1)).1 ≡ suc depth_here.0
    around_some = rest_around (drop (i + 1) ts) (suc depth_here.0) closes_in

    behind_list : rest_at ts (after_at ts i) ≡ outer 1 (rest_at ts (i + 1))
    behind_list =
        let zero_more : suc depth_here.0 ≡ suc (0 + depth_here.0) = omega arith in
        let there : after_at ts i ≡ i + 1 + closing 0 (items (drop (i + 1) ts)) = after_list ∙ ap (λ xs. i + 1 + closing 0 xs) items_inside in
        ap rest (ap (λ n. drop n ts) there ∙ sym (drop-drop (closing 0 (items (drop (i + 1) ts))) (i + 1) ts))
        ∙ rest_closing (drop (i + 1) ts) 0 depth_here.0 (subst (λ d. closes d (items (drop (i + 1) ts)) ≡ true) zero_more closes_in)

    pub rest_list : IsList
    rest_list = by_rest (rest_at ts (i + 1)) refl
      where
        by_rest : (r : Forms × List Forms) → rest_at ts (i + 1) ≡ r → IsList
        by_rest (fs, []) is = absurd (let n = sym (ap (λ (r : Forms × List Forms). length r.1) is) ∙ around_some in omega (arith, n))
        by_rest (fs, gs ∷ around) is =
            let behind : rest_at ts (after_at ts i) ≡ (gs, around) = behind_list ∙ ap (outer 1) is in
            record {
              forms = fs;
              here = rest_here ∙ ap (λ item. before item (token_at ts i) (rest_at ts (i + 1))) left ∙ ap (before Left (token_at ts i)) is
                  ∙ ap (λ (r : Forms × List Forms). (node (token_at ts i).start fs ⨾ r.0, r.1)) (sym behind);
              inside = is ∙ ap (λ (r : Forms × List Forms). (fs, r.0 ∷ r.1)) (sym behind);
            }

  -- where the form ends
  pub after_bounds : (i < after_at ts i) × (after_at ts i ≤ length ts)
  after_bounds = by_kind (kind (token_at ts i).item)
    where
      by_kind : Kind (token_at ts i).item → (i < after_at ts i) × (after_at ts i ≤ length ts)
      by_kind (opens left) = let n = after_list left in (omega (arith, n), list_within left)
      by_kind (closes_one right) = let n = after_one (ap is_left right) in (omega (arith, n), omega (arith, n, within))
      by_kind (single is) = let n = after_one is.left in (omega (arith, n), omega (arith, n, within))
