-- The text of a form is that of its tokens, with a space before each form behind another one of its list.
use Rattle.std.proofs.Common.{◌≡◌, ℕ, zero, suc, ◌+◌, ◌-◌, ◌<◌, inl, inr, Bool, true, false, not, cond, List, [], ◌∷◌, ◌++◌, length, take, drop, refl, ap, sym, ◌∙◌, subst, arith, ◌&&◌, ◌==◌, append_assoc, true≢false}
use Rattle.std.proofs.lemmas.List.{drop_more, drop-map, append-nil}
use Rattle.std.proofs.Math.Dec.{eqb-suc-zero}
use Rattle.std.proofs.lemmas.Bool.Decides.{eqb_tells}
use Rattle.smt_lex.specs.declared.items.Item.{Item}
use Rattle.smt_lex.specs.declared.items.Item.TheVariants.{Left, Right, Numeral, Decimal, Hex, Bin, Text, Word, Quoted, Keyword}
use Rattle.smt_lex.specs.Lex.{Token}
use Rattle.smt_lex.specs.Lexicon.{left_parenthesis, right_parenthesis, space}
use Rattle.smt_lex.specs.Forms.{Form, atom, node, Forms, none, ◌⨾◌, is_left, is_right, depth_after, before, rest}
use Rattle.smt_lex.specs.Forest.{no_token, token_at, items, closing, form_length, closes, IsBalanced}
use Rattle.smt_lex.specs.FormText.{form_text, forms_text, further_text}
use Rattle.script_terms.specs.Places.{IsForm, form_from, forms_from}
use Rattle.script_read.specs.TokenText.{spaced_text}
use Rattle.script_terms.proofs.Lexemes.{Written}
use Rattle.script_terms.proofs.Placing.{list_form, token_form, form_within, form_side}

-- ---- matching parentheses

sure_left : (a b : Bool) → (a && b) ≡ true → a ≡ true
sure_left true b h = refl
sure_left false b h = h

sure_right : (a b : Bool) → (a && b) ≡ true → b ≡ true
sure_right true b h = h
sure_right false b h = absurd (cc)

suc_less_one : (d : ℕ) → suc d - 1 ≡ d
suc_less_one d = omega arith

-- where as many lists are open, the parentheses behind match too
closes_behind : (ts : List Token) (depth i : ℕ) → closes depth (items ts) ≡ true → (more : ℕ) × (closes more (items (drop i ts)) ≡ true)
closes_behind ts depth zero h = (depth, h)
closes_behind [] depth (suc i) h = (depth, h)
closes_behind (t ∷ ts) depth (suc i) h =
    closes_behind ts (depth_after t.item depth) i (sure_right (not (is_right t.item && depth == 0)) (closes (depth_after t.item depth) (items ts)) h)

-- ---- the text of tokens in a row

abbrev pub token_texts : Bool → List Token → List ℕ
token_texts behind [] = []
token_texts behind (t ∷ ts) = spaced_text behind t ++ token_texts (not (is_left t.item)) ts

abbrev listed_text : Bool → Forms → List ℕ
listed_text true fs = further_text fs
listed_text false fs = forms_text fs

-- what stands behind the `)` of the innermost list, up to the `)` of the one that so many lists are inside of
abbrev behind_text : ℕ → List Forms → List ℕ
behind_text zero gss = []
behind_text (suc d) [] = right_parenthesis ∷ behind_text d []
behind_text (suc d) (gs ∷ gss) = further_text gs ++ right_parenthesis ∷ behind_text d gss

abbrev text_left : Bool → ℕ → Forms × List Forms → List ℕ
text_left behind d r = listed_text behind r.0 ++ right_parenthesis ∷ behind_text d r.1

-- each token has the text of its kind
abbrev AreWritten : List Token → Type 0
AreWritten ts = (i : ℕ) → i < length ts → Written (token_at ts i).item (token_at ts i).text

written_behind : (ts : List Token) (i : ℕ) → AreWritten ts → AreWritten (drop i ts)
written_behind ts zero written = written
written_behind [] (suc i) written = written
written_behind (t ∷ ts) (suc i) written = written_behind ts i (λ j within. written (suc j) (omega arith))

left_text : (item : Item) (text : List ℕ) → item ≡ Left → Written item text → text ≡ left_parenthesis ∷ []
left_text item text is h = subst (λ k. Written k text) is h

right_text : (item : Item) (text : List ℕ) → item ≡ Right → Written item text → text ≡ right_parenthesis ∷ []
right_text item text is h = subst (λ k. Written k text) is h

data Side (item : Item) : Type 0 where
  a_left : item ≡ Left → Side item
  a_right : item ≡ Right → Side item
  neither : is_left item ≡ false → is_right item ≡ false → Side item

side : (item : Item) → Side item
side Left = a_left refl
side Right = a_right refl
side Numeral = neither refl refl
side Decimal = neither refl refl
side Hex = neither refl refl
side Bin = neither refl refl
side Text = neither refl refl
side Word = neither refl refl
side Quoted = neither refl refl
side Keyword = neither refl refl

before_atom : (item : Item) (t : Token) (r : Forms × List Forms) → is_left item ≡ false → is_right item ≡ false → before item t r ≡ (atom t ⨾ r.0, r.1)
before_atom Left t r left right = absurd (true≢false left)
before_atom Right t r left right = absurd (true≢false right)
before_atom Numeral t (fs, gss) left right = refl
before_atom Decimal t (fs, gss) left right = refl
before_atom Hex t (fs, gss) left right = refl
before_atom Bin t (fs, gss) left right = refl
before_atom Text t (fs, gss) left right = refl
before_atom Word t (fs, gss) left right = refl
before_atom Quoted t (fs, gss) left right = refl
before_atom Keyword t (fs, gss) left right = refl

depth_atom : (item : Item) (depth : ℕ) → is_left item ≡ false → is_right item ≡ false → depth_after item depth ≡ depth
depth_atom Left depth left right = absurd (true≢false left)
depth_atom Right depth left right = absurd (true≢false right)
depth_atom Numeral depth left right = refl
depth_atom Decimal depth left right = refl
depth_atom Hex depth left right = refl
depth_atom Bin depth left right = refl
depth_atom Text depth left right = refl
depth_atom Word depth left right = refl
depth_atom Quoted depth left right = refl
depth_atom Keyword depth left right = refl

gap : Bool → List ℕ
gap behind = cond behind (space ∷ []) []

listed_first : (behind : Bool) (f : Form) (fs : Forms) → listed_text behind (f ⨾ fs) ≡ gap behind ++ (form_text f ++ further_text fs)
unfolding gap
listed_first true f fs = refl
listed_first false f fs = refl

listed_none : (behind : Bool) → listed_text behind none ≡ []
listed_none true = refl
listed_none false = refl

gap_is : (behind : Bool) (t : Token) → is_right t.item ≡ false → spaced_text behind t ≡ gap behind ++ t.text
unfolding gap
gap_is true t right = rw right refl
gap_is false t right = refl

no_gap : (behind : Bool) (t : Token) → is_right t.item ≡ true → spaced_text behind t ≡ t.text
no_gap true t right = rw right refl
no_gap false t right = refl

left_left : (behind : Bool) (d : ℕ) (t : Token) (r : Forms × List Forms) → text_left behind d (before Left t r) ≡ gap behind ++ left_parenthesis ∷ text_left false (suc d) r
left_left behind d t (fs, []) =
    ap (λ xs. xs ++ right_parenthesis ∷ behind_text d []) (listed_first behind (node t.start fs) none)
    ∙ append_assoc (gap behind) ((left_parenthesis ∷ (forms_text fs ++ right_parenthesis ∷ [])) ++ []) (right_parenthesis ∷ behind_text d [])
    ∙ ap (λ xs. gap behind ++ left_parenthesis ∷ xs)
    (append_assoc (forms_text fs ++ right_parenthesis ∷ []) [] (right_parenthesis ∷ behind_text d []) ∙ append_assoc (forms_text fs) (right_parenthesis ∷ []) (right_parenthesis ∷ behind_text d []))
left_left behind d t (fs, gs ∷ gss) =
    ap (λ xs. xs ++ right_parenthesis ∷ behind_text d gss) (listed_first behind (node t.start fs) gs)
    ∙ append_assoc (gap behind) ((left_parenthesis ∷ (forms_text fs ++ right_parenthesis ∷ [])) ++ further_text gs) (right_parenthesis ∷ behind_text d gss)
    ∙ ap (λ xs. gap behind ++ left_parenthesis ∷ xs)
    (append_assoc (forms_text fs ++ right_parenthesis ∷ []) (further_text gs) (right_parenthesis ∷ behind_text d gss) ∙ append_assoc (forms_text fs) (right_parenthesis ∷ []) (further_text gs ++ right_parenthesis ∷ behind_text d gss))

left_right : (behind : Bool) (d : ℕ) (t : Token) (r : Forms × List Forms) → text_left behind (suc d) (before Right t r) ≡ right_parenthesis ∷ text_left true d r
left_right behind d t (fs, gss) = ap (λ xs. xs ++ right_parenthesis ∷ behind_text (suc d) (fs ∷ gss)) (listed_none behind)

left_last : (behind : Bool) (t : Token) (r : Forms × List Forms) → text_left behind 0 (before Right t r) ≡ right_parenthesis ∷ []
left_last behind t (fs, gss) = ap (λ xs. xs ++ right_parenthesis ∷ []) (listed_none behind)

left_atom : (behind : Bool) (d : ℕ) (t : Token) (r : Forms × List Forms) → text_left behind d (atom t ⨾ r.0, r.1) ≡ (gap behind ++ t.text) ++ text_left true d r
left_atom behind d t r =
    ap (λ xs. xs ++ right_parenthesis ∷ behind_text d r.1) (listed_first behind (atom t) r.0)
    ∙ append_assoc (gap behind) (t.text ++ further_text r.0) (right_parenthesis ∷ behind_text d r.1)
    ∙ ap (λ xs. gap behind ++ xs) (append_assoc t.text (further_text r.0) (right_parenthesis ∷ behind_text d r.1))
    ∙ sym (append_assoc (gap behind) t.text (further_text r.0 ++ right_parenthesis ∷ behind_text d r.1))

-- ---- up to the `)` of a list that so many open lists are inside of

abbrev Tells : List Token → ℕ → Type 0
Tells ts depth = (d : ℕ) (behind : Bool) → d < depth → token_texts behind (take (closing d (items ts)) ts) ≡ text_left behind d (rest ts)

module _ (t : Token) (ts : List Token) (d : ℕ) (behind : Bool) where
  one_behind : (n m : ℕ) → n ≡ suc m → token_texts behind (take n (t ∷ ts)) ≡ spaced_text behind t ++ token_texts (not (is_left t.item)) (take m ts)
  one_behind n m is = rw is refl

  closing_left : t.item ≡ Left → closing d (items (t ∷ ts)) ≡ suc (closing (suc d) (items ts))
  closing_left is = rw is refl

  closing_right : t.item ≡ Right → closing (suc d) (items (t ∷ ts)) ≡ suc (closing d (items ts))
  closing_right is = rw is (rw (eqb-suc-zero d) (ap (λ k. suc (closing k (items ts))) (suc_less_one d)))

  closing_last : t.item ≡ Right → closing 0 (items (t ∷ ts)) ≡ 1
  closing_last is = rw is refl

  closing_atom : is_left t.item ≡ false → is_right t.item ≡ false → closing d (items (t ∷ ts)) ≡ suc (closing d (items ts))
  closing_atom left right = rw right (ap (λ k. suc (closing k (items ts))) (depth_atom t.item d left right))

before_here : (item : Item) (t : Token) (ts : List Token) → t.item ≡ item → rest (t ∷ ts) ≡ before item t (rest ts)
before_here item t ts is = ap (λ k. before k t (rest ts)) is

tells : (ts : List Token) (depth : ℕ) → AreWritten ts → closes depth (items ts) ≡ true → Tells ts depth
tells [] depth written matched = λ d behind inside. elim (eqb_tells depth 0) [ inl same ↦ absurd (omega (arith, same.1)) | inr differs ↦ absurd (true≢false (sym matched ∙ differs.0)) ]
tells (t ∷ ts) depth written matched = turn (side t.item) (λ n after. tells ts n (λ i within. written (suc i) (omega arith)) after)
  where
    after : closes (depth_after t.item depth) (items ts) ≡ true
    after = sure_right (not (is_right t.item && depth == 0)) (closes (depth_after t.item depth) (items ts)) matched

    after_at_depth : (n : ℕ) → depth_after t.item depth ≡ n → closes n (items ts) ≡ true
    after_at_depth n is = ap (λ k. closes k (items ts)) (sym is) ∙ after

    here : Written t.item t.text
    here = written 0 (omega arith)

    turn : Side t.item → ((n : ℕ) → closes n (items ts) ≡ true → Tells ts n) → Tells (t ∷ ts) depth
    turn (a_left is) below d behind inside =
        one_behind t ts d behind (closing d (items (t ∷ ts))) (closing (suc d) (items ts)) (closing_left t ts d behind is)
        ∙ ap (λ xs. xs ++ token_texts (not (is_left t.item)) (take (closing (suc d) (items ts)) ts)) (gap_is behind t (ap is_right is) ∙ ap (λ xs. gap behind ++ xs) (left_text t.item t.text is here))
        ∙ ap (λ b. (gap behind ++ left_parenthesis ∷ []) ++ token_texts (not b) (take (closing (suc d) (items ts)) ts)) (ap is_left is)
        ∙ append_assoc (gap behind) (left_parenthesis ∷ []) (token_texts false (take (closing (suc d) (items ts)) ts))
        ∙ ap (λ xs. gap behind ++ left_parenthesis ∷ xs) (below (suc depth) (after_at_depth (suc depth) (ap (λ k. depth_after k depth) is)) (suc d) false (omega arith))
        ∙ sym (left_left behind d t (rest ts)) ∙ ap (text_left behind d) (sym (before_here Left t ts is))
    turn (a_right is) below zero behind inside =
        one_behind t ts zero behind (closing zero (items (t ∷ ts))) 0 (closing_last t ts zero behind is)
        ∙ ap (λ xs. xs ++ []) (no_gap behind t (ap is_right is) ∙ right_text t.item t.text is here)
        ∙ sym (left_last behind t (rest ts)) ∙ ap (text_left behind 0) (sym (before_here Right t ts is))
    turn (a_right is) below (suc d) behind inside =
        one_behind t ts d behind (closing (suc d) (items (t ∷ ts))) (closing d (items ts)) (closing_right t ts d behind is)
        ∙ ap (λ xs. xs ++ token_texts (not (is_left t.item)) (take (closing d (items ts)) ts)) (no_gap behind t (ap is_right is) ∙ right_text t.item t.text is here)
        ∙ ap (λ b. right_parenthesis ∷ token_texts (not b) (take (closing d (items ts)) ts)) (ap is_left is)
        ∙ ap (λ xs. right_parenthesis ∷ xs) (below (depth - 1) (after_at_depth (depth - 1) (ap (λ k. depth_after k depth) is)) d true (omega arith))
        ∙ sym (left_right behind d t (rest ts)) ∙ ap (text_left behind (suc d)) (sym (before_here Right t ts is))
    turn (neither left right) below d behind inside =
        one_behind t ts d behind (closing d (items (t ∷ ts))) (closing d (items ts)) (closing_atom t ts d behind left right)
        ∙ ap (λ xs. xs ++ token_texts (not (is_left t.item)) (take (closing d (items ts)) ts)) (gap_is behind t right)
        ∙ ap (λ b. (gap behind ++ t.text) ++ token_texts (not b) (take (closing d (items ts)) ts)) left
        ∙ ap (λ xs. (gap behind ++ t.text) ++ xs) (below depth (after_at_depth depth (depth_atom t.item depth left right)) d true inside)
        ∙ sym (left_atom behind d t (rest ts)) ∙ ap (text_left behind d) (sym (before_atom t.item t (rest ts) left right))

-- ---- a form

module _ (ts : List Token) (i : ℕ) (form : IsForm ts i) (written : AreWritten ts) (matched : IsBalanced ts) where
  within : i < length ts
  within = form_within ts i form

  here_first : drop i ts ≡ token_at ts i ∷ drop (suc i) ts
  here_first = let next : i + 1 ≡ suc i = omega arith in drop_more ts i no_token within ∙ ap (λ n. token_at ts i ∷ drop n ts) next

  first_length : form_length (drop i (items ts)) ≡ form_length (items (token_at ts i ∷ drop (suc i) ts))
  first_length = ap form_length (drop-map (λ (t : Token). t.item) i ts ∙ ap items here_first)

  list_length : (token_at ts i).item ≡ Left → form_length (items (token_at ts i ∷ drop (suc i) ts)) ≡ suc (closing 0 (items (drop (suc i) ts)))
  list_length is = rw is refl

  token_length : is_left (token_at ts i).item ≡ false → form_length (items (token_at ts i ∷ drop (suc i) ts)) ≡ 1
  token_length is = rw is refl

  first_text : (n : ℕ) → form_length (items (token_at ts i ∷ drop (suc i) ts)) ≡ suc n → token_texts false (take (form_length (drop i (items ts))) (drop i ts)) ≡ (token_at ts i).text ++ token_texts (not (is_left (token_at ts i).item)) (take n (drop (suc i) ts))
  first_text n is =
      ap (λ us. token_texts false (take (form_length (drop i (items ts))) us)) here_first
      ∙ one_behind (token_at ts i) (drop (suc i) ts) 0 false (form_length (drop i (items ts))) n (first_length ∙ is)

  deeper : (token_at ts i).item ≡ Left → (depth : ℕ) × (closes (suc depth) (items (drop (suc i) ts)) ≡ true)
  deeper is =
      let around : (more : ℕ) × (closes more (items (drop i ts)) ≡ true) = closes_behind ts 0 i matched in
      let first : closes around.0 (items (token_at ts i ∷ drop (suc i) ts)) ≡ true = ap (λ us. closes around.0 (items us)) (sym here_first) ∙ around.1 in
      let inside : closes (depth_after (token_at ts i).item around.0) (items (drop (suc i) ts)) ≡ true =
      sure_right (not (is_right (token_at ts i).item && around.0 == 0)) (closes (depth_after (token_at ts i).item around.0) (items (drop (suc i) ts))) first in
      (around.0, ap (λ k. closes (depth_after k around.0) (items (drop (suc i) ts))) (sym is) ∙ inside)

  pub tokens_text : token_texts false (take (form_length (drop i (items ts))) (drop i ts)) ≡ form_text (form_from ts i)
  unfolding forms_from
  tokens_text = elim (side (token_at ts i).item) [
    | a_left is ↦
        let d = deeper is in
        first_text (closing 0 (items (drop (suc i) ts))) (list_length is)
        ∙ ap (λ xs. xs ++ token_texts (not (is_left (token_at ts i).item)) (take (closing 0 (items (drop (suc i) ts))) (drop (suc i) ts))) (left_text (token_at ts i).item (token_at ts i).text is (written i within))
        ∙ ap (λ b. left_parenthesis ∷ token_texts (not b) (take (closing 0 (items (drop (suc i) ts))) (drop (suc i) ts))) (ap is_left is)
        ∙ ap (λ xs. left_parenthesis ∷ xs) (tells (drop (suc i) ts) (suc d.0) (written_behind ts (suc i) written) d.1 0 false (omega arith))
        ∙ ap form_text (sym (list_form ts i within is))
    | a_right is ↦ absurd (true≢false (sym (ap is_right is) ∙ form_side ts i form))
    | neither left right ↦
        first_text 0 (token_length left)
        ∙ append-nil (token_at ts i).text
        ∙ ap form_text (sym (token_form ts i within left right))
  ]

-- ---- token by token

pub next_text : (ts : List Token) (i behind_at : ℕ) (behind : Bool) → i < behind_at → i < length ts → token_texts behind (take (behind_at - i) (drop i ts)) ≡ spaced_text behind (token_at ts i) ++ token_texts (not (is_left (token_at ts i).item)) (take (behind_at - (i + 1)) (drop (i + 1) ts))
next_text ts i behind_at behind inside within =
    let n : behind_at - i ≡ suc (behind_at - (i + 1)) = omega arith in
    ap (λ us. token_texts behind (take (behind_at - i) us)) (drop_more ts i no_token within)
    ∙ one_behind (token_at ts i) (drop (i + 1) ts) 0 behind (behind_at - i) (behind_at - (i + 1)) n
