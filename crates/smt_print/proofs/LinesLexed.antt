-- A text that is read without fault is read as the same tokens wherever it stands at the end of a line.
use Rattle.std.proofs.Common.{◌≡◌, ℕ, zero, suc, ◌+◌, ◌-◌, ◌<◌, ◌≤◌, nat_lt, inl, inr, Bool, true, false, eqb, not, Option, Some, None, List, [], ◌∷◌, ◌++◌, length, map, take, refl, ap, sym, ◌∙◌, arith, length-append}
use Rattle.std.specs.Prelude.{◌&&◌, if◌then◌else◌}
use Rattle.std.proofs.lemmas.Bool.{ne_eqb, ltb-true, ltb-false}
use Rattle.std.proofs.lemmas.Bool.Decides.{Decides-eqb}
use Rattle.std.proofs.lemmas.List.{take-append-le}
use Rattle.smt_lex.specs.declared.items.Item.{Item}
use Rattle.smt_lex.specs.declared.items.Item.TheVariants.{Left, Right, Text, Quoted}
use Rattle.smt_lex.specs.Lexicon.{line_feed, space, quote, left_parenthesis, right_parenthesis, semicolon, backslash, bar, is_blank, is_line_end, is_run_byte, length_while, run_item}
use Rattle.smt_lex.specs.Lex.{Token, Fault, bad_byte, bad_token, open_text, Lexed, ended, faulty, next, longer, literal_from, literal_length, literal_by, literal_front, quoted_front, run_by, run_front, front, front_length, lexed, lex_from}
use Rattle.smt_terms.proofs.Tests.{true_or_false}

-- ---- runs

-- the bytes, with the end of a line and others behind them
abbrev pub with_line : List ℕ → List ℕ → List ℕ
with_line bs rest = bs ++ line_feed ∷ rest

while_before : (test : ℕ → Bool) (bs rest : List ℕ) → test line_feed ≡ false → length_while test (with_line bs rest) ≡ length_while test bs
while_before test [] rest stops = rw stops refl
while_before test (b ∷ bs) rest stops = ap (λ n. if test b then suc n else 0) (while_before test bs rest stops)

while_most : (test : ℕ → Bool) (bs : List ℕ) → length_while test bs ≤ length bs
while_most test [] = omega arith
while_most test (b ∷ bs) = elim (true_or_false (test b)) [ inl is ↦ rw is (let h = while_most test bs in omega (arith, h)) | inr other ↦ rw other (omega arith) ]

-- a run that ends inside
while_inside : (test : ℕ → Bool) (bs more : List ℕ) → length_while test bs < length bs → length_while test (bs ++ more) ≡ length_while test bs
while_inside test [] more less = absurd (omega arith)
while_inside test (b ∷ bs) more less = elim (true_or_false (test b)) [
  | inl is ↦ let inner : suc (length_while test bs) < suc (length bs) = rw is at less in rw is (ap suc (while_inside test bs more (omega (arith, inner))))
  | inr other ↦ rw other refl
]

-- ---- what bytes begin with

abbrev domain_of : {A B : Type 0} → (A → B) → Type 0
domain_of {A} {B} f = A

-- what bytes may begin with
abbrev Beginning : Type 0
Beginning = domain_of front_length

abbrev token_of : Item → ℕ → List ℕ → Token
token_of item p text = record { item = item; start = p; text = text }

-- what bytes begin with stays the same with others behind them, and is no longer than they are, unless it is a fault
data Outcome (wide narrow : Beginning) (most : ℕ) : Type 0 where
  fails : ((p : ℕ) (bytes : List ℕ) (ts : Lexed) → (e : Fault) × (lexed narrow p bytes ts ≡ faulty e)) → Outcome wide narrow most
  skips : wide ≡ narrow → front_length narrow ≤ most → ((p : ℕ) (bytes : List ℕ) (ts : Lexed) → lexed narrow p bytes ts ≡ ts) → Outcome wide narrow most
  takes : wide ≡ narrow → front_length narrow ≤ most → (item : Item) → ((p : ℕ) (bytes : List ℕ) (ts : Lexed) → lexed narrow p bytes ts ≡ next (token_of item p (take (front_length narrow) bytes)) ts)
      → Outcome wide narrow most

by_test : (t : Bool) (wide_x wide_y x y : Beginning) (most : ℕ) → Outcome wide_x x most → Outcome wide_y y most → Outcome (if t then wide_x else wide_y) (if t then x else y) most
by_test true wide_x wide_y x y most f g = f
by_test false wide_x wide_y x y most f g = g

-- no byte that may stand there
unread_outcome : (most : ℕ) → Outcome (front []) (front []) most
unread_outcome most = fails (λ p bytes ts. (bad_byte (p + 0), refl))

left_outcome : (most : ℕ) → Outcome (front (left_parenthesis ∷ [])) (front (left_parenthesis ∷ [])) (suc most)
left_outcome most = takes refl (let few : 1 ≤ suc most = omega arith in few) Left (λ p bytes ts. refl)

right_outcome : (most : ℕ) → Outcome (front (right_parenthesis ∷ [])) (front (right_parenthesis ∷ [])) (suc most)
right_outcome most = takes refl (let few : 1 ≤ suc most = omega arith in few) Right (λ p bytes ts. refl)

blank_outcome : (most : ℕ) → Outcome (front (space ∷ [])) (front (space ∷ [])) (suc most)
blank_outcome most = skips refl (let few : 1 ≤ suc most = omega arith in few) (λ p bytes ts. refl)

comment_outcome : (bs rest : List ℕ) → Outcome (front (semicolon ∷ with_line bs rest)) (front (semicolon ∷ bs)) (suc (length bs))
comment_outcome bs rest =
    let few : suc (length_while (λ c. not (is_line_end c)) bs) ≤ suc (length bs) = let h = while_most (λ c. not (is_line_end c)) bs in omega (arith, h) in
    skips (rw (while_before (λ c. not (is_line_end c)) bs rest refl) refl) few (λ p bytes ts. refl)

-- literals
record IsLonger (o : Option ℕ) (n : ℕ) : Type 0 where
  inner : ℕ
  is : o ≡ Some inner
  whole : 1 + inner ≡ n

longer_some : (o : Option ℕ) (n : ℕ) → longer 1 o ≡ Some n → IsLonger o n
longer_some None n h = absurd (cc)
longer_some (Some k) n h = record { inner = k; is = refl; whole = cc }

literal_kept : (bs rest : List ℕ) (pending : Bool) (n : ℕ) → literal_from pending bs ≡ Some n → (literal_from pending (with_line bs rest) ≡ Some n) × (n ≤ length bs)
literal_kept [] rest true n h = (h, let e : 0 ≡ n = cc in omega (arith, e))
literal_kept [] rest false n h = absurd (cc)
literal_kept (b ∷ bs) rest pending n h = elim (true_or_false (pending && not (eqb b quote))) [
  | inl closed ↦
      let e : Some 0 ≡ Some n = rw closed at h in
      let zero_is : 0 ≡ n = cc in
      (rw closed e, omega (arith, zero_is))
  | inr unclosed ↦
      let inner : longer 1 (literal_from (not pending && eqb b quote) bs) ≡ Some n = rw unclosed at h in
      let r = longer_some (literal_from (not pending && eqb b quote) bs) n inner in
      let k = literal_kept bs rest (not pending && eqb b quote) r.inner r.is in
      let whole : 1 + r.inner ≡ n = r.whole in
      let few : r.inner ≤ length bs = k.1 in
      (rw unclosed (ap (longer 1) k.0 ∙ ap Some whole), omega (arith, whole, few))
]

literal_by_outcome : (o wide : Option ℕ) (most : ℕ) → ((n : ℕ) → o ≡ Some n → (wide ≡ Some n) × (n ≤ most)) → Outcome (literal_by wide) (literal_by o) (suc most)
literal_by_outcome None wide most found = fails (λ p bytes ts. (open_text p, refl))
literal_by_outcome (Some n) wide most found =
    let k = found n refl in
    let within : n ≤ most = k.1 in
    let few : suc n ≤ suc most = omega (arith, within) in
    takes (ap literal_by k.0) few Text (λ p bytes ts. refl)

literal_outcome : (bs rest : List ℕ) → Outcome (literal_front (with_line bs rest)) (literal_front bs) (suc (length bs))
literal_outcome bs rest = literal_by_outcome (literal_length bs) (literal_length (with_line bs rest)) (length bs) (λ n h. literal_kept bs rest false n h)

-- quoted symbols
abbrev no_bar : ℕ → Bool
no_bar b = not (eqb b bar)

abbrev no_backslash : ℕ → Bool
no_backslash b = not (eqb b backslash)

less_or_same : (m n : ℕ) → eqb m n ≡ false → m ≤ n → m < n
less_or_same m n other most = elim (true_or_false (nat_lt m n)) [
  | inl less ↦ ltb-true m n less
  | inr no_less ↦
      let back : n ≤ m = ltb-false m n no_less in
      let same : m ≡ n = omega (arith, most, back) in
      absurd (let equal : eqb m n ≡ true = (Decides-eqb m n).1 same in cc)
]

quoted_outcome : (bs rest : List ℕ) → Outcome (quoted_front (with_line bs rest)) (quoted_front bs) (suc (length bs))
quoted_outcome bs rest =
    let inside = length_while no_bar bs in
    let clean = length_while no_backslash (take inside bs) in
    elim (true_or_false (eqb inside (length bs))) [
      | inl unclosed ↦ fails (λ p bytes ts. (open_text p, rw unclosed refl))
      | inr closed ↦ elim (true_or_false (nat_lt clean inside)) [
        | inl bad ↦ fails (λ p bytes ts. (bad_byte (p + suc clean), rw (closed, bad) refl))
        | inr good ↦
            let most : inside ≤ length bs = while_most no_bar bs in
            let less : inside < length bs = less_or_same inside (length bs) closed most in
            let long : length (with_line bs rest) ≡ length bs + length (line_feed ∷ rest) = length-append bs (line_feed ∷ rest) in
            let also : eqb inside (length (with_line bs rest)) ≡ false = ne_eqb inside (length (with_line bs rest)) (λ same. omega (arith, same, long, less)) in
            let stays : length_while no_bar (with_line bs rest) ≡ inside = while_inside no_bar bs (line_feed ∷ rest) less in
            let part : take inside (with_line bs rest) ≡ take inside bs = take-append-le inside bs (line_feed ∷ rest) most in
            takes (rw stays (rw part (rw (also, closed) refl))) (rw (closed, good) (omega (arith, less))) Quoted (λ p bytes ts. rw (closed, good) refl)
      ]
    ]

-- runs
run_by_outcome : (o : Option Item) (wide : Beginning) (n most : ℕ) → wide ≡ run_by o n → n ≤ most → Outcome wide (run_by o n) most
run_by_outcome (Some item) wide n most same few = takes same few item (λ p bytes ts. refl)
run_by_outcome None wide n most same few = fails (λ p bytes ts. (bad_token p, refl))

run_outcome : (b : ℕ) (bs rest : List ℕ) → Outcome (run_front (b ∷ with_line bs rest)) (run_front (b ∷ bs)) (suc (length bs))
run_outcome b bs rest =
    let n = length_while is_run_byte (b ∷ bs) in
    let most : n ≤ length (b ∷ bs) = while_most is_run_byte (b ∷ bs) in
    run_by_outcome (run_item (take n (b ∷ bs))) (run_front (b ∷ with_line bs rest)) n (suc (length bs))
    (ap (λ k. run_by (run_item (take k (b ∷ with_line bs rest))) k) (while_before is_run_byte (b ∷ bs) rest refl)
    ∙ ap (λ xs. run_by (run_item xs) n) (take-append-le n (b ∷ bs) (line_feed ∷ rest) most)) most

-- the tests one behind the other
abbrev from_run : ℕ → List ℕ → Beginning
from_run b bs = if is_run_byte b then run_front (b ∷ bs) else front []

abbrev from_blank : ℕ → List ℕ → Beginning
from_blank b bs = if is_blank b then front (space ∷ []) else from_run b bs

abbrev from_bar : ℕ → List ℕ → Beginning
from_bar b bs = if eqb b bar then quoted_front bs else from_blank b bs

abbrev from_quote : ℕ → List ℕ → Beginning
from_quote b bs = if eqb b quote then literal_front bs else from_bar b bs

abbrev from_comment : ℕ → List ℕ → Beginning
from_comment b bs = if eqb b semicolon then front (semicolon ∷ bs) else from_quote b bs

abbrev from_right : ℕ → List ℕ → Beginning
from_right b bs = if eqb b right_parenthesis then front (right_parenthesis ∷ []) else from_comment b bs

module _ (b : ℕ) (bs rest : List ℕ) where
  run_stays : Outcome (from_run b (with_line bs rest)) (from_run b bs) (suc (length bs))
  run_stays = by_test (is_run_byte b) (run_front (b ∷ with_line bs rest)) (front []) (run_front (b ∷ bs)) (front []) (suc (length bs)) (run_outcome b bs rest) (unread_outcome (suc (length bs)))

  blank_stays : Outcome (from_blank b (with_line bs rest)) (from_blank b bs) (suc (length bs))
  blank_stays = by_test (is_blank b) (front (space ∷ [])) (from_run b (with_line bs rest)) (front (space ∷ [])) (from_run b bs) (suc (length bs)) (blank_outcome (length bs)) run_stays

  bar_stays : Outcome (from_bar b (with_line bs rest)) (from_bar b bs) (suc (length bs))
  bar_stays = by_test (eqb b bar) (quoted_front (with_line bs rest)) (from_blank b (with_line bs rest)) (quoted_front bs) (from_blank b bs) (suc (length bs)) (quoted_outcome bs rest) blank_stays

  quote_stays : Outcome (from_quote b (with_line bs rest)) (from_quote b bs) (suc (length bs))
  quote_stays = by_test (eqb b quote) (literal_front (with_line bs rest)) (from_bar b (with_line bs rest)) (literal_front bs) (from_bar b bs) (suc (length bs)) (literal_outcome bs rest) bar_stays

  comment_stays : Outcome (from_comment b (with_line bs rest)) (from_comment b bs) (suc (length bs))
  comment_stays =
      by_test (eqb b semicolon) (front (semicolon ∷ with_line bs rest)) (from_quote b (with_line bs rest)) (front (semicolon ∷ bs)) (from_quote b bs) (suc (length bs)) (comment_outcome bs rest) quote_stays

  right_stays : Outcome (from_right b (with_line bs rest)) (from_right b bs) (suc (length bs))
  right_stays =
      by_test (eqb b right_parenthesis) (front (right_parenthesis ∷ [])) (from_comment b (with_line bs rest)) (front (right_parenthesis ∷ [])) (from_comment b bs) (suc (length bs)) (right_outcome (length bs)) comment_stays

  front_stays : Outcome (front (b ∷ with_line bs rest)) (front (b ∷ bs)) (suc (length bs))
  front_stays =
      by_test (eqb b left_parenthesis) (front (left_parenthesis ∷ [])) (from_right b (with_line bs rest)) (front (left_parenthesis ∷ [])) (from_right b bs) (suc (length bs)) (left_outcome (length bs)) right_stays

-- ---- tokens

-- tokens in front of others
abbrev pub in_front : List Token → Lexed → Lexed
in_front [] ts = ts
in_front (u ∷ us) ts = next u (in_front us ts)

-- a token that stands further behind
abbrev pub moved : ℕ → Token → Token
moved q t = record { item = t.item; start = q + t.start; text = t.text }

-- the tokens that a front and those behind it are
record IsToken (item : Item) (p n : ℕ) (text : List ℕ) (behind : Lexed) (ts : List Token) : Type 0 where
  others : List Token
  all : ts ≡ token_of item p text ∷ others
  left : behind ≡ in_front others (ended n)

first_token : (item : Item) (p n : ℕ) (text : List ℕ) (behind : Lexed) (ts : List Token) → next (token_of item p text) behind ≡ in_front ts (ended n) → IsToken item p n text behind ts
first_token item p n text behind [] h = absurd (cc)
first_token item p n text behind (t ∷ ts) h =
    let same : token_of item p text ≡ t = cc in
    let left : behind ≡ in_front ts (ended n) = cc in
    record { others = ts; all = ap (λ u. u ∷ ts) (sym same); left = left }

no_fault : (f : Fault) (ts : List Token) (n : ℕ) → faulty f ≡ in_front ts (ended n) → ⊥
no_fault f [] n h = absurd (cc)
no_fault f (t ∷ ts) n h = absurd (cc)

no_end : (p n : ℕ) (ts : List Token) → ended p ≡ in_front ts (ended n) → ts ≡ []
no_end p n [] h = refl
no_end p n (t ∷ ts) h = absurd (cc)

-- the rest, with its places as they are wanted
shifted : (q p k : ℕ) (bs rest : List ℕ) (us : List Token) → lex_from (q + suc p) k (with_line bs rest) ≡ in_front us (lex_from (suc (q + suc p + length bs)) 0 rest)
    → lex_from (suc (q + p)) k (with_line bs rest) ≡ in_front us (lex_from (suc (q + p + suc (length bs))) 0 rest)
shifted q p k bs rest us found =
    let here : suc (q + p) ≡ q + suc p = omega arith in
    let there : suc (q + suc p + length bs) ≡ suc (q + p + suc (length bs)) = omega arith in
    ap (λ j. lex_from j k (with_line bs rest)) here ∙ found ∙ ap (λ j. in_front us (lex_from j 0 rest)) there

pub lex_line : (bs : List ℕ) (p skip q n : ℕ) (ts : List Token) (rest : List ℕ) → skip ≤ length bs → lex_from p skip bs ≡ in_front ts (ended n)
    → lex_from (q + p) skip (with_line bs rest) ≡ in_front (map (moved q) ts) (lex_from (suc (q + p + length bs)) 0 rest)
lex_line [] p zero q n ts rest few h =
    ap (λ k. lex_from k 0 rest) (omega arith) ∙ ap (λ us. in_front (map (moved q) us) (lex_from (suc (q + p + 0)) 0 rest)) (sym (no_end p n ts h))
lex_line [] p (suc skip) q n ts rest few h = absurd (omega arith)
lex_line (b ∷ bs) p (suc skip) q n ts rest few h =
    ap (λ k. lex_from k skip (with_line bs rest)) (omega arith) ∙ lex_line bs (suc p) skip q n ts rest (omega (arith, few)) h
    ∙ ap (λ k. in_front (map (moved q) ts) (lex_from k 0 rest)) (omega arith)
lex_line (b ∷ bs) p zero q n ts rest few h = go (front_stays b bs rest) (λ k. lex_line bs (suc p) k q n)
  where
    go : Outcome (front (b ∷ with_line bs rest)) (front (b ∷ bs)) (suc (length bs))
        → ((k : ℕ) (us : List Token) (more : List ℕ) → k ≤ length bs → lex_from (suc p) k bs ≡ in_front us (ended n)
        → lex_from (q + suc p) k (with_line bs more) ≡ in_front (map (moved q) us) (lex_from (suc (q + suc p + length bs)) 0 more))
        → lex_from (q + p) 0 (with_line (b ∷ bs) rest) ≡ in_front (map (moved q) ts) (lex_from (suc (q + p + length (b ∷ bs))) 0 rest)
    go (fails f) below =
        let r = f p (b ∷ bs) (lex_from (suc p) (front_length (front (b ∷ bs)) - 1) bs) in
        absurd (no_fault r.0 ts n (sym r.1 ∙ h))
    go (skips same few is) below =
        let m = front_length (front (b ∷ bs)) in
        let wide = lex_from (suc (q + p)) (m - 1) (with_line bs rest) in
        let left : lex_from (suc p) (m - 1) bs ≡ in_front ts (ended n) = sym (is p (b ∷ bs) (lex_from (suc p) (m - 1) bs)) ∙ h in
        ap (λ f. lexed f (q + p) (b ∷ with_line bs rest) (lex_from (suc (q + p)) (front_length f - 1) (with_line bs rest))) same
        ∙ is (q + p) (b ∷ with_line bs rest) wide
        ∙ shifted q p (m - 1) bs rest (map (moved q) ts) (below (m - 1) ts rest (omega (arith, few)) left)
    go (takes same few item is) below =
        let m = front_length (front (b ∷ bs)) in
        let text = take m (b ∷ bs) in
        let wide = lex_from (suc (q + p)) (m - 1) (with_line bs rest) in
        let first = first_token item p n text (lex_from (suc p) (m - 1) bs) ts (sym (is p (b ∷ bs) (lex_from (suc p) (m - 1) bs)) ∙ h) in
        let part : take m (b ∷ with_line bs rest) ≡ text = take-append-le m (b ∷ bs) (line_feed ∷ rest) few in
        ap (λ f. lexed f (q + p) (b ∷ with_line bs rest) (lex_from (suc (q + p)) (front_length f - 1) (with_line bs rest))) same
        ∙ is (q + p) (b ∷ with_line bs rest) wide
        ∙ ap (λ xs. next (token_of item (q + p) xs) wide) part
        ∙ ap (next (token_of item (q + p) text)) (shifted q p (m - 1) bs rest (map (moved q) first.others) (below (m - 1) first.others rest (omega (arith, few)) first.left))
        ∙ ap (λ us. in_front (map (moved q) us) (lex_from (suc (q + p + length (b ∷ bs))) 0 rest)) (sym first.all)
