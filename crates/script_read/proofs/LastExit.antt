-- Among the forms of a text up to `(exit)`, none stands behind an `(exit)` that stands in no other form.
use Rattle.std.proofs.Common.{◌≡◌, ◌∙◌, sym, ap, subst, refl, ℕ, zero, suc, inl, inr, Bool, true, false, eqb, List, [], ◌∷◌, length, Result, Ok, Err, arith}
use Rattle.std.specs.Prelude.{⊤, ◌&&◌}
use Rattle.std.proofs.lemmas.Bool.{eqb-true}
use Rattle.smt_lex.specs.declared.items.Item.{Item}
use Rattle.smt_lex.specs.declared.items.Item.TheVariants.{Left, Right, Word}
use Rattle.smt_lex.specs.Lex.{Token, Fault, Lexed, ended, faulty, next, lex}
use Rattle.smt_lex.specs.Forms.{atom, node, Forms, none, ◌⨾◌, is_left, is_right, is_exit_word, depth_after, balanced, first_tokens, begins_with_right, begins_with_name, begins_with_exit, to_exit, before, rest, as_forms, forms_to_exit}
use Rattle.smt_terms.proofs.Tests.{true_or_false, both_true, and_true}
use Rattle.script_read.proofs.OutlineFacts.{is_exit_form}
use Rattle.script_read.proofs.WritableText.{with_token_some}

-- ---- tokens

abbrev begins_right : List Token → Bool
begins_right [] = false
begins_right (t ∷ ts) = is_right t.item

abbrev begins_name : List Token → Bool
begins_name [] = false
begins_name (t ∷ ts) = is_exit_word t.item t.text && begins_right ts

-- `(exit)` stands first
abbrev begins_exit : Token → List Token → Bool
begins_exit t ts = is_left t.item && begins_name ts

-- where so many lists are open, each of them is closed, and nothing stands behind an `(exit)` outside them
abbrev Ends : ℕ → List Token → Type 0
Ends depth [] = depth ≡ 0
Ends depth (t ∷ ts) = ((is_right t.item && eqb depth 0) ≡ false) × ((eqb depth 0 && begins_exit t ts) ≡ true → length ts ≡ 2) × Ends (depth_after t.item depth) ts

left_is : (item : Item) → is_left item ≡ true → item ≡ Left
left_is Left h = refl
left_is _ h = absurd (cc)

right_is : (item : Item) → is_right item ≡ true → item ≡ Right
right_is Right h = refl
right_is _ h = absurd (cc)

word_is : (item : Item) (text : List ℕ) → is_exit_word item text ≡ true → item ≡ Word
word_is Word text h = refl
word_is _ text h = absurd (cc)

-- ---- tokens that are balanced

-- the first of them, and those behind it
record Behind (t : Token) (depth : ℕ) (ts : Lexed) (us : List Token) : Type 0 where
  others : List Token
  all : us ≡ t ∷ others
  open_one : (is_right t.item && eqb depth 0) ≡ false
  balance : balanced (depth_after t.item depth) ts ≡ Ok others

behind_first : (t : Token) (depth : ℕ) (ts : Lexed) (us : List Token) → balanced depth (next t ts) ≡ Ok us → Behind t depth ts us
behind_first t zero ts us h = elim (true_or_false (is_right t.item && eqb zero 0)) [
  | inl over ↦ absurd (let e = rw over at h in cc)
  | inr goes ↦
      let found = with_token_some t (balanced (depth_after t.item zero) ts) us (rw goes at h) in
      record { others = found.0; all = found.2; open_one = goes; balance = found.1 }
]
behind_first t (suc depth) ts us h = elim (true_or_false (is_right t.item && eqb (suc depth) 0)) [
  | inl over ↦ absurd (let e = rw over at h in cc)
  | inr goes ↦
      let found = with_token_some t (balanced (depth_after t.item (suc depth)) ts) us (rw goes at h) in
      record { others = found.0; all = found.2; open_one = goes; balance = found.1 }
]

none_behind : (n depth : ℕ) (us : List Token) → balanced depth (ended n) ≡ Ok us → (us ≡ []) × (depth ≡ 0)
none_behind n zero us h = (let same : [] ≡ us = cc in sym same, refl)
none_behind n (suc depth) us h = absurd cc

no_fault : (f : Fault) (depth : ℕ) (us : List Token) → balanced depth (faulty f) ≡ Ok us → ⊥
no_fault f zero us h = cc
no_fault f (suc depth) us h = cc

-- two tokens are no `(exit)`
too_few : (a b c : Bool) → (a && (b && (c && false))) ≡ true → ⊥
too_few true true true h = cc
too_few true true false h = cc
too_few true false c h = cc
too_few false b c h = cc

too_few_yet : (a b : Bool) → (a && (b && false)) ≡ true → ⊥
too_few_yet true true h = cc
too_few_yet true false h = cc
too_few_yet false b h = cc

-- the three tokens of an `(exit)`
three_end : (t w r : Token) (us : List Token) → balanced 0 (next t (next w (next r (ended 0)))) ≡ Ok us → Ends 0 us
three_end t w r us h =
    let a = behind_first t 0 (next w (next r (ended 0))) us h in
    let b = behind_first w (depth_after t.item 0) (next r (ended 0)) a.others a.balance in
    let c = behind_first r (depth_after w.item (depth_after t.item 0)) (ended 0) b.others b.balance in
    let d = none_behind 0 (depth_after r.item (depth_after w.item (depth_after t.item 0))) c.others c.balance in
    let listed : us ≡ t ∷ w ∷ r ∷ [] = a.all ∙ ap (λ vs. t ∷ vs) (b.all ∙ ap (λ vs. w ∷ vs) (c.all ∙ ap (λ vs. r ∷ vs) d.0)) in
    let last : Ends (depth_after w.item (depth_after t.item 0)) (r ∷ []) = (c.open_one, (λ begins. absurd (too_few_yet (eqb (depth_after w.item (depth_after t.item 0)) 0) (is_left r.item) begins)), d.1) in
    let inner : Ends (depth_after t.item 0) (w ∷ r ∷ []) = (b.open_one, (λ begins. absurd (too_few (eqb (depth_after t.item 0) 0) (is_left w.item) (is_exit_word r.item r.text) begins)), last) in
    subst (Ends 0) (sym listed) (a.open_one, (λ begins. refl), inner)

-- ---- tokens up to `(exit)`

-- where a list is open, nothing is cut off at the next token
deep_token : (t : Token) (depth : ℕ) (ts : Lexed) → to_exit (suc depth) (next t ts) ≡ next t (to_exit (depth_after t.item (suc depth)) ts)
deep_token t depth ts = elim (true_or_false (eqb (suc depth) 0)) [ inl wrong ↦ absurd (let none : suc depth ≡ 0 = eqb-true (suc depth) 0 wrong in omega (arith, none)) | inr deep ↦ rw deep refl ]

right_first : (ts : Lexed) (us : List Token) → balanced 1 (to_exit 1 ts) ≡ Ok us → begins_right us ≡ true → begins_with_right ts ≡ true
right_first (ended n) us h begins = absurd (let none = (none_behind n 1 us h).1 in omega (arith, none))
right_first (faulty f) us h begins = absurd (no_fault f 1 us h)
right_first (next r ts) us h begins =
    let b = behind_first r 1 (to_exit (depth_after r.item 1) ts) us (sym (ap (balanced 1) (deep_token r 0 ts)) ∙ h) in
    ap begins_right (sym b.all) ∙ begins

name_first : (ts : Lexed) (us : List Token) → balanced 1 (to_exit 1 ts) ≡ Ok us → begins_name us ≡ true → begins_with_name ts ≡ true
name_first (ended n) us h begins = absurd (let none = (none_behind n 1 us h).1 in omega (arith, none))
name_first (faulty f) us h begins = absurd (no_fault f 1 us h)
name_first (next w ts) us h begins =
    let b = behind_first w 1 (to_exit (depth_after w.item 1) ts) us (sym (ap (balanced 1) (deep_token w 0 ts)) ∙ h) in
    let parts = both_true (is_exit_word w.item w.text) (begins_right b.others) (ap begins_name (sym b.all) ∙ begins) in
    let word : w.item ≡ Word = word_is w.item w.text parts.0 in
    let inner : balanced 1 (to_exit 1 ts) ≡ Ok b.others = subst (λ i. balanced (depth_after i 1) (to_exit (depth_after i 1) ts) ≡ Ok b.others) word b.balance in
    and_true (is_exit_word w.item w.text) (begins_with_right ts) parts.0 (right_first ts b.others inner parts.1)

-- tokens that begin with `(exit)` behind the cut do so before it
exit_first : (t : Token) (ts : Lexed) (us : List Token) → balanced (depth_after t.item 0) (to_exit (depth_after t.item 0) ts) ≡ Ok us → begins_exit t us ≡ true → begins_with_exit (next t ts) ≡ true
exit_first t ts us h begins =
    let parts = both_true (is_left t.item) (begins_name us) begins in
    let left : t.item ≡ Left = left_is t.item parts.0 in
    and_true (is_left t.item) (begins_with_name ts) parts.0 (name_first ts us (subst (λ i. balanced (depth_after i 0) (to_exit (depth_after i 0) ts) ≡ Ok us) left h) parts.1)

exit_tokens : (t : Token) (ts : Lexed) (us : List Token) → begins_with_exit (next t ts) ≡ true → balanced 0 (first_tokens 3 (next t ts)) ≡ Ok us → Ends 0 us
exit_tokens t (ended n) us begins h = absurd (let wrong = (both_true (is_left t.item) false begins).1 in cc)
exit_tokens t (faulty f) us begins h = absurd (let wrong = (both_true (is_left t.item) false begins).1 in cc)
exit_tokens t (next w (ended n)) us begins h =
    absurd (let wrong = (both_true (is_exit_word w.item w.text) false (both_true (is_left t.item) (is_exit_word w.item w.text && false) begins).1).1 in cc)
exit_tokens t (next w (faulty f)) us begins h =
    absurd (let wrong = (both_true (is_exit_word w.item w.text) false (both_true (is_left t.item) (is_exit_word w.item w.text && false) begins).1).1 in cc)
exit_tokens t (next w (next r ts)) us begins h = three_end t w r us h

ends_at_exit : (depth : ℕ) (t : Token) (ts : Lexed) (us : List Token) → (eqb depth 0 && begins_with_exit (next t ts)) ≡ true → balanced depth (first_tokens 3 (next t ts)) ≡ Ok us → Ends depth us
ends_at_exit zero t ts us exits h = exit_tokens t ts us exits h
ends_at_exit (suc depth) t ts us exits h = absurd (let none : suc depth ≡ 0 = eqb-true (suc depth) 0 (both_true (eqb (suc depth) 0) (begins_with_exit (next t ts)) exits).0 in omega (arith, none))

goes_on : (depth : ℕ) (t : Token) (ts : Lexed) (us : List Token) → (eqb depth 0 && begins_with_exit (next t ts)) ≡ false → balanced (depth_after t.item depth) (to_exit (depth_after t.item depth) ts) ≡ Ok us → (eqb depth 0 && begins_exit t us) ≡ true → ⊥
goes_on zero t ts us other h begins = let exits : begins_with_exit (next t ts) ≡ true = exit_first t ts us h begins in cc
goes_on (suc depth) t ts us other h begins = let none : suc depth ≡ 0 = eqb-true (suc depth) 0 (both_true (eqb (suc depth) 0) (begins_exit t us) begins).0 in omega (arith, none)

cut_ends : (ts : Lexed) (depth : ℕ) (us : List Token) → balanced depth (to_exit depth ts) ≡ Ok us → Ends depth us
cut_ends (ended n) depth us h = let found = none_behind n depth us h in subst (Ends depth) (sym found.0) found.1
cut_ends (faulty f) depth us h = absurd (no_fault f depth us h)
cut_ends (next t ts) depth us h = elim (true_or_false (eqb depth 0 && begins_with_exit (next t ts))) [
  | inl exits ↦ ends_at_exit depth t ts us exits (rw exits at h)
  | inr other ↦
      let b = behind_first t depth (to_exit (depth_after t.item depth) ts) us (rw other at h) in
      subst (Ends depth) (sym b.all)
      (b.open_one, (λ begins. absurd (goes_on depth t ts b.others other b.balance begins)), cut_ends ts (depth_after t.item depth) b.others b.balance)
]

-- ---- forms

-- nothing stands behind an `(exit)`
abbrev pub ExitsLast : Forms → Type 0
ExitsLast none = ⊤
ExitsLast (f ⨾ fs) = (is_exit_form f ≡ true → fs ≡ none) × ExitsLast fs

-- the forms that stand in no other
abbrev outermost : Forms → List Forms → Forms
outermost fs [] = fs
outermost fs (g ∷ gs) = outermost g gs

-- how many lists are still open is how many lists of forms are left
around_length : (ts : List Token) (depth : ℕ) → Ends depth ts → length (rest ts).1 ≡ depth
around_length [] depth ends = sym ends
around_length (t ∷ ts) depth ends = by_item t.item t (rest ts).0 (rest ts).1 depth ends.0 (around_length ts (depth_after t.item depth) ends.2)
  where
    by_item : (item : Item) (t : Token) (fs : Forms) (around : List Forms) (depth : ℕ) → (is_right item && eqb depth 0) ≡ false → length around ≡ depth_after item depth → length (before item t (fs, around)).1 ≡ depth
    by_item Left t fs [] depth unclosed h = absurd (omega (arith, h))
    by_item Left t fs (g ∷ gs) depth unclosed h = omega (arith, h)
    by_item Right t fs around zero unclosed h = absurd (cc)
    by_item Right t fs around (suc depth) unclosed h = omega (arith, h)
    by_item item t fs around depth unclosed h = h

-- tokens that no form begins before the list around them ends
nothing_first : (ts : List Token) (depth : ℕ) → Ends (suc depth) ts → (rest ts).0 ≡ none → begins_right ts ≡ true
nothing_first [] depth ends h = absurd (omega (arith, ends))
nothing_first (r ∷ ts) depth ends h = by_item r.item (rest ts).0 (rest ts).1 h
  where
    by_item : (item : Item) (fs : Forms) (around : List Forms) → (before item r (fs, around)).0 ≡ none → is_right item ≡ true
    by_item Left fs [] h = absurd cc
    by_item Left fs (g ∷ gs) h = absurd cc
    by_item Right fs around h = refl
    by_item _ fs around h = absurd cc

exit_inside : (place : ℕ) (w : Token) (fs : Forms) → is_exit_form (node place (atom w ⨾ fs)) ≡ true → (is_exit_word w.item w.text ≡ true) × (fs ≡ none)
exit_inside place w none h = (h, refl)
exit_inside place w (f ⨾ fs) h = absurd cc

-- the tokens of a list that is an `(exit)`
name_behind : (place : ℕ) (ts : List Token) → Ends 1 ts → is_exit_form (node place (rest ts).0) ≡ true → begins_name ts ≡ true
name_behind place [] ends h = absurd (omega (arith, ends))
name_behind place (w ∷ ts) ends h = by_item w.item refl (rest ts).0 (rest ts).1 refl h
  where
    by_item : (item : Item) → w.item ≡ item → (fs : Forms) (around : List Forms) → (rest ts).0 ≡ fs → is_exit_form (node place (before item w (fs, around)).0) ≡ true → (is_exit_word w.item w.text && begins_right ts) ≡ true
    by_item Left is fs [] same h = absurd cc
    by_item Left is fs (g ∷ gs) same h = absurd cc
    by_item Right is fs around same h = absurd cc
    by_item _ is fs around same h =
        let parts = exit_inside place w fs h in
        let word : w.item ≡ Word = word_is w.item w.text parts.0 in
        let inner : Ends 1 ts = subst (λ i. Ends (depth_after i 1) ts) word ends.2 in
        and_true (is_exit_word w.item w.text) (begins_right ts) parts.0 (nothing_first ts 0 inner (same ∙ parts.1))

-- and behind them nothing is left
nothing_left : (ts : List Token) → begins_name ts ≡ true → length ts ≡ 2 → (rest ts).1 ≡ none ∷ []
nothing_left [] begins long = absurd cc
nothing_left (w ∷ []) begins long = absurd (omega (arith, long))
nothing_left (w ∷ r ∷ u ∷ ts) begins long = absurd (omega (arith, long))
nothing_left (w ∷ r ∷ []) begins long =
    let parts = both_true (is_exit_word w.item w.text) (is_right r.item) begins in
    let word : w.item ≡ Word = word_is w.item w.text parts.0 in
    let right : r.item ≡ Right = right_is r.item parts.1 in
    ap (λ i. (before i w (before r.item r (none, []))).1) word ∙ ap (λ i. (before Word w (before i r (none, []))).1) right

first_of_around : (gs hs : List Forms) (g h : Forms) → g ∷ gs ≡ h ∷ hs → g ≡ h
first_of_around gs hs g h e = cc

exits_last : (ts : List Token) (depth : ℕ) → Ends depth ts → ExitsLast (outermost (rest ts).0 (rest ts).1)
exits_last [] depth ends = tt
exits_last (t ∷ ts) depth ends =
    by_item t.item refl (rest ts).0 (rest ts).1 refl refl depth ends (around_length ts (depth_after t.item depth) ends.2) (exits_last ts (depth_after t.item depth) ends.2)
  where
    at_exit : t.item ≡ Left → (g : Forms) → (rest ts).1 ≡ g ∷ [] → Ends 0 (t ∷ ts) → is_exit_form (node t.start (rest ts).0) ≡ true → g ≡ none
    at_exit left g around ends h =
        let inner : Ends 1 ts = subst (λ i. Ends (depth_after i 0) ts) left ends.2 in
        let named : begins_name ts ≡ true = name_behind t.start ts inner h in
        let long : length ts ≡ 2 = ends.1 (and_true (is_left t.item) (begins_name ts) (ap is_left left) named) in
        first_of_around [] [] g none (sym around ∙ nothing_left ts named long)

    by_item : (item : Item) → t.item ≡ item → (fs : Forms) (around : List Forms) → (rest ts).0 ≡ fs → (rest ts).1 ≡ around → (depth : ℕ) → Ends depth (t ∷ ts) → length around ≡ depth_after item depth → ExitsLast (outermost fs around)
        → ExitsLast (outermost (before item t (fs, around)).0 (before item t (fs, around)).1)
    by_item Left is fs [] same left depth ends long last = absurd (omega (arith, long))
    by_item Left is fs (g ∷ []) same left depth ends long last =
        let top : depth ≡ 0 = omega (arith, long) in
        ((λ h. at_exit is g left (subst (λ d. Ends d (t ∷ ts)) top ends) (ap (λ gs. is_exit_form (node t.start gs)) same ∙ h)), last)
    by_item Left is fs (g ∷ k ∷ gs) same left depth ends long last = last
    by_item Right is fs around same left depth ends long last = last
    by_item _ is fs [] same left depth ends long last = ((λ h. absurd cc), last)
    by_item _ is fs (g ∷ gs) same left depth ends long last = last

no_around : (around : List Forms) → length around ≡ 0 → around ≡ []
no_around [] h = refl
no_around (g ∷ gs) h = absurd (omega (arith, h))

tokens_last : (r : Result (List Token) Fault) (fs : Forms) → ((ts : List Token) → r ≡ Ok ts → Ends 0 ts) → as_forms r ≡ Ok fs → ExitsLast fs
tokens_last (Ok ts) fs ends is =
    let same : (rest ts).0 ≡ fs = cc in
    let closed : (rest ts).1 ≡ [] = no_around (rest ts).1 (around_length ts 0 (ends ts refl)) in
    subst ExitsLast same (subst (λ around. ExitsLast (outermost (rest ts).0 around)) closed (exits_last ts 0 (ends ts refl)))
tokens_last (Err fault) fs ends is = absurd cc

pub text_exits_last : (b : List ℕ) (fs : Forms) → forms_to_exit b ≡ Ok fs → ExitsLast fs
text_exits_last b fs is = tokens_last (balanced 0 (to_exit 0 (lex b))) fs (λ ts h. cut_ends (lex b) 0 ts h) is
