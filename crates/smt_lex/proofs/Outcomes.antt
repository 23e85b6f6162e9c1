-- What comes of a text, met in a loop at one token after the other.
use Rattle.std.proofs.Common.{◌≡◌, ◌≢◌, ℕ, zero, suc, ◌-◌, ◌<◌, ◌≤◌, Bool, true, false, cond, eqb, List, [], ◌∷◌, ◌++◌, length, Result, Ok, Err, refl, ap, sym, ◌∙◌, subst, inl, inr, arith, append_assoc, append-nil}
use Rattle.std.specs.Prelude.{◌&&◌, ◌+◌}
use Rattle.std.proofs.lemmas.List.{length_push, get_or_push, get_or_append_left}
use Rattle.std.proofs.lemmas.Bool.{ne_eqb}
use Rattle.std.proofs.lemmas.Bool.Decides.{eqb_tells}
use Rattle.std.proofs.Math.Dec.{eqb-suc-zero}
use Rattle.smt_lex.proofs.Choices.{tell, and_left, and_right}
use Rattle.smt_lex.specs.declared.items.Item.{Item}
use Rattle.smt_lex.specs.declared.items.Item.TheVariants.{Left, Right, Word, Numeral, Decimal, Hex, Bin, Text, Quoted, Keyword}
use Rattle.smt_lex.specs.declared.items.Until.{Until}
use Rattle.smt_lex.specs.declared.items.Until.TheVariants.{End, Exit}
use Rattle.smt_lex.specs.declared.entries.Entry.{Entry}
use Rattle.smt_lex.specs.Lex.{Token, Fault, unbalanced, Lexed, ended, faulty, next, lex, lex_at}
use Rattle.smt_lex.specs.Forms.{is_left, is_right, is_exit_word, depth_after, with_token, balanced, first_tokens, begins_with_right, begins_with_name, to_exit, tokens_of}
use Rattle.smt_lex.proofs.Lexing.{lex_end}
use Rattle.smt_lex.specs.Forest.{no_token, token_at}
use Rattle.smt_lex.proofs.Stepping.{IsSingle, Kind, opens, closes_one, single, kind}
use Rattle.smt_lex.specs.Building.{Watch, Never, Elsewhere, Opened, Named, Met, AtTop, Spans, Puts, Going, is_exit, last_token, names_exit, watch_by, watched, left_of, watch_after, prefixed, outcome, token, tokens_in}

left_depth : (item : Item) (depth : ℕ) → is_left item ≡ true → depth_after item depth ≡ suc depth
left_depth Left depth left = refl
left_depth Right depth left = absurd (cc)
left_depth Numeral depth left = absurd (cc)
left_depth Decimal depth left = absurd (cc)
left_depth Hex depth left = absurd (cc)
left_depth Bin depth left = absurd (cc)
left_depth Text depth left = absurd (cc)
left_depth Word depth left = absurd (cc)
left_depth Quoted depth left = absurd (cc)
left_depth Keyword depth left = absurd (cc)

right_depth : (item : Item) (depth : ℕ) → is_right item ≡ true → depth_after item depth ≡ depth - 1
right_depth Right depth right = refl
right_depth Left depth right = absurd (cc)
right_depth Numeral depth right = absurd (cc)
right_depth Decimal depth right = absurd (cc)
right_depth Hex depth right = absurd (cc)
right_depth Bin depth right = absurd (cc)
right_depth Text depth right = absurd (cc)
right_depth Word depth right = absurd (cc)
right_depth Quoted depth right = absurd (cc)
right_depth Keyword depth right = absurd (cc)

exit_depth : (item : Item) (text : List ℕ) (depth : ℕ) → is_exit_word item text ≡ true → depth_after item depth ≡ depth
exit_depth Word text depth exit = refl
exit_depth Left text depth exit = absurd (cc)
exit_depth Right text depth exit = absurd (cc)
exit_depth Numeral text depth exit = refl
exit_depth Decimal text depth exit = refl
exit_depth Hex text depth exit = refl
exit_depth Bin text depth exit = refl
exit_depth Text text depth exit = refl
exit_depth Quoted text depth exit = refl
exit_depth Keyword text depth exit = refl

-- what is left to examine behind a token, and that the watch is right
pub record Watches (w : Watch) (depth : ℕ) (t : Token) (ts : Lexed) : Type 0 where
  pub left : left_of w depth (next t ts) ≡ next t (left_of (watch_after w depth t.item t.text) (depth_after t.item depth) ts)
  pub top : AtTop (watch_after w depth t.item t.text) (depth_after t.item depth)

-- the token opens no form `(exit)` to watch
elsewhere_on : (depth : ℕ) (t : Token) (ts : Lexed) → (is_left t.item && eqb depth 0) ≡ false → (eqb depth 0 && (is_left t.item && begins_with_name ts)) ≡ false → Watches Elsewhere depth t ts
elsewhere_on depth t ts none other = record { left = rw (other, none) refl; top = rw none tt }

elsewhere_opens : (depth : ℕ) (t : Token) (ts : Lexed) → is_left t.item ≡ true → eqb depth 0 ≡ true → depth ≡ 0 → Watches Elsewhere depth t ts
elsewhere_opens depth t ts left outermost is = record {
  left = rw (left, outermost) (elim (begins_with_name ts) as (λ name. cond name (next t (first_tokens 2 ts)) (next t (to_exit (depth_after t.item depth) ts)) ≡ next t (cond name (first_tokens 2 ts) (to_exit (depth_after t.item depth) ts))) [ true ↦ refl | false ↦ refl ]);
  top = rw (left, outermost) (left_depth t.item depth left ∙ ap suc is);
}

and_false : (b : Bool) → (b && false) ≡ false
and_false true = refl
and_false false = refl

watches_elsewhere : (depth : ℕ) (t : Token) (ts : Lexed) → Watches Elsewhere depth t ts
watches_elsewhere depth t ts = elim (tell (is_left t.item)) [
  | inr other ↦ elsewhere_on depth t ts (rw other refl) (rw other (and_false (eqb depth 0)))
  | inl left ↦ elim (eqb_tells depth 0) [
    | inl is ↦ elsewhere_opens depth t ts left is.0 is.1
    | inr inside ↦ elsewhere_on depth t ts (rw (left, inside.0) refl) (rw inside.0 refl)
  ]
]

-- behind the `(`
opened_exit : (t : Token) (ts : Lexed) → is_exit_word t.item t.text ≡ true → Watches Opened 1 t ts
opened_exit t ts exit = record {
  left = rw exit (elim (begins_with_right ts) as (λ right. cond right (next t (first_tokens 1 ts)) (next t (to_exit (depth_after t.item 1) ts)) ≡ next t (cond right (first_tokens 1 ts) (to_exit (depth_after t.item 1) ts))) [ true ↦ refl | false ↦ refl ]);
  top = rw exit (exit_depth t.item t.text 1 exit);
}

opened_other : (t : Token) (ts : Lexed) → is_exit_word t.item t.text ≡ false → Watches Opened 1 t ts
opened_other t ts other = record { left = rw other refl; top = rw other tt }

-- behind `(exit`
named_right : (t : Token) (ts : Lexed) → is_right t.item ≡ true → Watches Named 1 t ts
named_right t ts right = record { left = rw right refl; top = rw right (right_depth t.item 1 right) }

named_other : (t : Token) (ts : Lexed) → is_right t.item ≡ false → Watches Named 1 t ts
named_other t ts other = record { left = rw other refl; top = rw other tt }

pub watches : (w : Watch) (depth : ℕ) (t : Token) (ts : Lexed) → w ≢ Met → AtTop w depth → Watches w depth t ts
watches Never depth t ts met top = record { left = refl; top = tt }
watches Elsewhere depth t ts met top = watches_elsewhere depth t ts
watches Opened depth t ts met top = subst (λ d. Watches Opened d t ts) (sym top)
    (elim (tell (is_exit_word t.item t.text)) [ inl exit ↦ opened_exit t ts exit | inr other ↦ opened_other t ts other ])
watches Named depth t ts met top = subst (λ d. Watches Named d t ts) (sym top)
    (elim (tell (is_right t.item)) [ inl right ↦ named_right t ts right | inr other ↦ named_other t ts other ])
watches Met depth t ts met top = absurd (met refl)

-- a token that closes no list is passed on
balanced_next : (depth : ℕ) (t : Token) (ts : Lexed) → (is_right t.item && eqb depth 0) ≡ false → balanced depth (next t ts) ≡ with_token t (balanced (depth_after t.item depth) ts)
balanced_next depth t ts closes = rw closes refl

balanced_over : (depth : ℕ) (t : Token) (ts : Lexed) → (is_right t.item && eqb depth 0) ≡ true → balanced depth (next t ts) ≡ Err (unbalanced t.start)
balanced_over depth t ts over = rw over refl

prefixed_next : (ts : List Token) (t : Token) (r : Result (List Token) Fault) → prefixed ts (with_token t r) ≡ prefixed (ts ++ t ∷ []) r
prefixed_next ts t (Ok us) = ap Ok (sym (append_assoc ts (t ∷ []) us))
prefixed_next ts t (Err fault) = refl

-- one more token
pub outcome_next : (bytes : List ℕ) (w : Watch) (es fs : List Entry) (lists left : List ℕ) (t : Token) (ts : Lexed)
    → w ≢ Met → AtTop w (length lists) → (is_right t.item && eqb (length lists) 0) ≡ false
    → tokens_in bytes fs ≡ tokens_in bytes es ++ t ∷ [] → length left ≡ depth_after t.item (length lists)
    → outcome bytes (watch_after w (length lists) t.item t.text) fs left ts ≡ outcome bytes w es lists (next t ts)
unfolding outcome
outcome_next bytes w es fs lists left t ts met top closes added depth =
    let here = watches w (length lists) t ts met top in
    ap (λ us. prefixed us (balanced (length left) (left_of (watch_after w (length lists) t.item t.text) (length left) ts))) added
    ∙ ap (λ d. prefixed (tokens_in bytes es ++ t ∷ []) (balanced d (left_of (watch_after w (length lists) t.item t.text) d ts))) depth
    ∙ sym (ap (λ ts. prefixed (tokens_in bytes es) (balanced (length lists) ts)) here.left
    ∙ ap (prefixed (tokens_in bytes es)) (balanced_next (length lists) t (left_of (watch_after w (length lists) t.item t.text) (depth_after t.item (length lists)) ts) closes)
    ∙ prefixed_next (tokens_in bytes es) t _)

-- a `)` too many
pub outcome_over : (bytes : List ℕ) (w : Watch) (es : List Entry) (lists : List ℕ) (t : Token) (ts : Lexed)
    → w ≢ Met → AtTop w (length lists) → (is_right t.item && eqb (length lists) 0) ≡ true → outcome bytes w es lists (next t ts) ≡ Err (unbalanced t.start)
unfolding outcome
outcome_over bytes w es lists t ts met top over =
    ap (λ ts. prefixed (tokens_in bytes es) (balanced (length lists) ts)) (watches w (length lists) t ts met top).left
    ∙ ap (prefixed (tokens_in bytes es)) (balanced_over (length lists) t (left_of (watch_after w (length lists) t.item t.text) (depth_after t.item (length lists)) ts) over)

-- a fault of the tokens
left_faulty : (w : Watch) (depth : ℕ) (fault : Fault) → w ≢ Met → left_of w depth (faulty fault) ≡ faulty fault
left_faulty Never depth fault met = refl
left_faulty Elsewhere depth fault met = refl
left_faulty Opened depth fault met = refl
left_faulty Named depth fault met = refl
left_faulty Met depth fault met = absurd (met refl)

balanced_faulty : (depth : ℕ) (fault : Fault) → balanced depth (faulty fault) ≡ Err fault
balanced_faulty zero fault = refl
balanced_faulty (suc depth) fault = refl

pub outcome_faulty : (bytes : List ℕ) (w : Watch) (es : List Entry) (lists : List ℕ) (fault : Fault) → w ≢ Met → outcome bytes w es lists (faulty fault) ≡ Err fault
unfolding outcome
outcome_faulty bytes w es lists fault met =
    ap (λ ts. prefixed (tokens_in bytes es) (balanced (length lists) ts)) (left_faulty w (length lists) fault met) ∙ ap (prefixed (tokens_in bytes es)) (balanced_faulty (length lists) fault)

-- the end of the text with no list open
pub outcome_ended : (bytes : List ℕ) (w : Watch) (es : List Entry) (lists : List ℕ) (n : ℕ) → length lists ≡ 0 → outcome bytes w es lists (ended n) ≡ Ok (tokens_in bytes es)
unfolding outcome
outcome_ended bytes w es lists n none =
    ap (λ d. prefixed (tokens_in bytes es) (balanced d (left_of w d (ended n)))) none ∙ ap (prefixed (tokens_in bytes es)) (all_closed w n) ∙ ap Ok (append-nil (tokens_in bytes es))
  where
    all_closed : (w : Watch) (n : ℕ) → balanced 0 (left_of w 0 (ended n)) ≡ Ok []
    all_closed Never n = refl
    all_closed Elsewhere n = refl
    all_closed Opened n = refl
    all_closed Named n = refl
    all_closed Met n = refl

-- the form `(exit)` was met
pub outcome_met : (bytes : List ℕ) (es : List Entry) (lists : List ℕ) (ts : Lexed) → length lists ≡ 0 → outcome bytes Met es lists ts ≡ Ok (tokens_in bytes es)
unfolding outcome
outcome_met bytes es lists ts none =
    ap (λ d. prefixed (tokens_in bytes es) (balanced d (ended 0))) none ∙ ap Ok (append-nil (tokens_in bytes es))

-- the end of the text with a list open
pub outcome_open : (bytes : List ℕ) (w : Watch) (es : List Entry) (lists : List ℕ) (n : ℕ) → w ≢ Met → 0 < length lists → outcome bytes w es lists (ended n) ≡ Err (unbalanced n)
unfolding outcome
outcome_open bytes w es lists n met some =
    let depth : length lists ≡ suc (length lists - 1) = omega arith in
    ap (λ d. prefixed (tokens_in bytes es) (balanced d (left_of w d (ended n)))) depth ∙ ap (prefixed (tokens_in bytes es)) (still_open w (length lists - 1) n met)
  where
    still_open : (w : Watch) (depth n : ℕ) → w ≢ Met → balanced (suc depth) (left_of w (suc depth) (ended n)) ≡ Err (unbalanced n)
    still_open Never depth n met = refl
    still_open Elsewhere depth n met = refl
    still_open Opened depth n met = refl
    still_open Named depth n met = refl
    still_open Met depth n met = absurd (met refl)

-- before the first token
prefixed_none : (r : Result (List Token) Fault) → prefixed [] r ≡ r
prefixed_none (Ok ts) = refl
prefixed_none (Err fault) = refl

outcome_first : (until : Until) (bytes : List ℕ) → outcome bytes (watched until 0 []) [] [] (lex bytes) ≡ tokens_of until bytes
unfolding outcome
outcome_first End bytes = prefixed_none (balanced 0 (lex bytes))
outcome_first Exit bytes = prefixed_none (balanced 0 (to_exit 0 (lex bytes)))

pub going_first : (until : Until) (bytes : List ℕ) → Going until bytes 0 [] []
going_first until bytes = record {
  within = omega arith;
  spans = record { count = omega arith; stands = λ i within. absurd (omega arith); order = λ i j below within. absurd (omega arith) };
  nests = record { below = λ j within. absurd (omega arith); lefts = λ j within. absurd (omega arith); behind = λ j within. absurd (omega arith); ends = λ i within. absurd (omega arith) };
  same = outcome_first until bytes;
}

-- ---- what is watched

watched_top : (until : Until) (depth : ℕ) (ts : List Token) → AtTop (watched until depth ts) depth
watched_top End depth ts = tt
watched_top Exit depth ts = elim (eqb_tells depth 1) [
  | inl one ↦ rw one.0 (by_last (is_left (last_token ts).item) (names_exit ts) one.1)
  | inr more ↦ rw more.0 tt
]
  where
    by_last : (left names : Bool) → depth ≡ 1 → AtTop (watch_by left names) depth
    by_last true names one = one
    by_last false true one = one
    by_last false false one = tt

watched_goes : (until : Until) (depth : ℕ) (ts : List Token) → watched until depth ts ≢ Met
watched_goes End depth ts = λ is. absurd (cc)
watched_goes Exit depth ts = elim (eqb_tells depth 1) [
  | inl one ↦ rw one.0 (by_last (is_left (last_token ts).item) (names_exit ts))
  | inr more ↦ rw more.0 (λ is. absurd (cc))
]
  where
    by_last : (left names : Bool) → watch_by left names ≢ Met
    by_last true names = λ is. absurd (cc)
    by_last false true = λ is. absurd (cc)
    by_last false false = λ is. absurd (cc)

last_push : (ts : List Token) (t : Token) → last_token (ts ++ t ∷ []) ≡ t
last_push ts t = get_or_push ts t no_token (length (ts ++ t ∷ []) - 1) (omega (arith, length_push ts t))

no_left_exit : (item : Item) (text : List ℕ) → (is_left item && is_exit_word item text) ≡ false
no_left_exit Left text = refl
no_left_exit Right text = refl
no_left_exit Numeral text = refl
no_left_exit Decimal text = refl
no_left_exit Hex text = refl
no_left_exit Bin text = refl
no_left_exit Text text = refl
no_left_exit Word text = refl
no_left_exit Quoted text = refl
no_left_exit Keyword text = refl

names_push : (ts : List Token) (t : Token) → names_exit (ts ++ t ∷ []) ≡ (is_left (last_token ts).item && is_exit_word t.item t.text)
names_push [] t = no_left_exit t.item t.text
names_push (u ∷ us) t =
    let place : length ((u ∷ us) ++ t ∷ []) - 2 ≡ length (u ∷ us) - 1 = omega (arith, length_push us t) in
    let before : token_at ((u ∷ us) ++ t ∷ []) (length ((u ∷ us) ++ t ∷ []) - 2) ≡ last_token (u ∷ us) =
    ap (token_at ((u ∷ us) ++ t ∷ [])) place ∙ get_or_append_left (u ∷ us) (t ∷ []) no_token (length (u ∷ us) - 1) (omega arith) in
    ap (λ (v : Token). is_left v.item && is_exit_word (last_token ((u ∷ us) ++ t ∷ [])).item (last_token ((u ∷ us) ++ t ∷ [])).text) before
    ∙ ap (λ (v : Token). is_left (last_token (u ∷ us)).item && is_exit_word v.item v.text) (last_push (u ∷ us) t)

-- one more token, by what it is
watched_left : (depth : ℕ) (ts : List Token) (t : Token) → t.item ≡ Left → watched Exit (suc depth) (ts ++ t ∷ []) ≡ watch_after (watched Exit depth ts) depth t.item t.text
watched_left zero ts t left = rw (last_push ts t) (rw left refl)
watched_left (suc depth) ts t left =
    let more : eqb (suc (suc depth)) 1 ≡ false = ne_eqb (suc (suc depth)) 1 (λ is. omega (arith, is)) in
    rw (more, left) (by_last (eqb (suc depth) 1) (is_left (last_token ts).item) (names_exit ts))
  where
    inside : (eqb (suc depth) 0) ≡ false
    inside = eqb-suc-zero depth

    by_last : (one last names : Bool) → Elsewhere ≡ watch_after (cond one (watch_by last names) Elsewhere) (suc depth) Left t.text
    by_last true true names = refl
    by_last true false true = refl
    by_last true false false = rw inside refl
    by_last false last names = rw inside refl

watched_right : (depth : ℕ) (ts : List Token) (t : Token) → t.item ≡ Right → watch_after (watched Exit (suc depth) ts) (suc depth) t.item t.text ≢ Met
    → watched Exit depth (ts ++ t ∷ []) ≡ watch_after (watched Exit (suc depth) ts) (suc depth) t.item t.text
watched_right depth ts t right goes =
    let none : names_exit (ts ++ t ∷ []) ≡ false = names_push ts t ∙ rw right (and_false (is_left (last_token ts).item)) in
    let last : is_left (last_token (ts ++ t ∷ [])).item ≡ false = ap (λ (u : Token). is_left u.item) (last_push ts t) ∙ ap is_left right in
    rw (last, none) (same (eqb depth 1) ∙ sym (by_last (eqb (suc depth) 1) (is_left (last_token ts).item) (names_exit ts) goes))
  where
    same : (one : Bool) → cond one Elsewhere Elsewhere ≡ Elsewhere
    same true = refl
    same false = refl

    by_last : (one last names : Bool) → watch_after (cond one (watch_by last names) Elsewhere) (suc depth) t.item t.text ≢ Met → watch_after (cond one (watch_by last names) Elsewhere) (suc depth) t.item t.text ≡ Elsewhere
    by_last true true names goes = rw right refl
    by_last true false true goes = absurd (goes (rw right refl))
    by_last true false false goes = rw right refl
    by_last false last names goes = rw right refl

watched_single : (depth : ℕ) (ts : List Token) (t : Token) → IsSingle t.item → watched Exit depth (ts ++ t ∷ []) ≡ watch_after (watched Exit depth ts) depth t.item t.text
watched_single depth ts t is =
    let last : is_left (last_token (ts ++ t ∷ [])).item ≡ false = ap (λ (u : Token). is_left u.item) (last_push ts t) ∙ is.left in
    rw (last, names_push ts t) (by_last (eqb depth 1) (is_left (last_token ts).item) (names_exit ts) (is_exit_word t.item t.text) refl)
  where
    by_last : (one last names exit : Bool) → is_exit_word t.item t.text ≡ exit → cond one (watch_by false (last && exit)) Elsewhere ≡ watch_after (cond one (watch_by last names) Elsewhere) depth t.item t.text
    by_last true true names true exit = rw exit refl
    by_last true true names false exit = rw exit refl
    by_last true false true exit told = rw is.right refl
    by_last true false false exit told = rw is.left refl
    by_last false last names exit told = rw is.left refl

watched_next : (until : Until) (depth : ℕ) (ts : List Token) (t : Token) → (is_right t.item && eqb depth 0) ≡ false → watch_after (watched until depth ts) depth t.item t.text ≢ Met
    → watched until (depth_after t.item depth) (ts ++ t ∷ []) ≡ watch_after (watched until depth ts) depth t.item t.text
watched_next End depth ts t closes goes = refl
watched_next Exit depth ts t closes goes = by_kind (kind t.item)
  where
    by_kind : Kind t.item → watched Exit (depth_after t.item depth) (ts ++ t ∷ []) ≡ watch_after (watched Exit depth ts) depth t.item t.text
    by_kind (opens left) = ap (λ item. watched Exit (depth_after item depth) (ts ++ t ∷ [])) left ∙ watched_left depth ts t left
    by_kind (closes_one right) = elim (eqb_tells depth 0) [
      | inl none ↦ absurd (let h = rw right at closes in cc (h, none.0))
      | inr some ↦
          let more : depth ≡ suc (depth - 1) = omega (arith, some.1) in
          ap (λ item. watched Exit (depth_after item depth) (ts ++ t ∷ [])) right
          ∙ watched_right (depth - 1) ts t right (subst (λ d. watch_after (watched Exit d ts) d t.item t.text ≢ Met) more goes)
          ∙ ap (λ d. watch_after (watched Exit d ts) d t.item t.text) (sym more)
    ]
    by_kind (single is) = ap (λ d. watched Exit d (ts ++ t ∷ [])) (is.depth depth) ∙ watched_single depth ts t is

opened_goes : (b : Bool) → cond b Opened Elsewhere ≢ Met
opened_goes true = λ is. absurd (cc)
opened_goes false = λ is. absurd (cc)

named_goes : (b : Bool) → cond b Named Elsewhere ≢ Met
named_goes true = λ is. absurd (cc)
named_goes false = λ is. absurd (cc)

-- a token other than `)` ends no form `(exit)`
no_end : (w : Watch) (depth : ℕ) (item : Item) (text : List ℕ) → w ≢ Met → is_right item ≡ false → watch_after w depth item text ≢ Met
no_end Never depth item text goes other = λ is. absurd (cc)
no_end Elsewhere depth item text goes other = opened_goes (is_left item && eqb depth 0)
no_end Opened depth item text goes other = named_goes (is_exit_word item text)
no_end Named depth item text goes other = rw other (λ is. absurd (cc))
no_end Met depth item text goes other = absurd (goes refl)

-- ---- a builder goes on

spans_later : (place later : ℕ) (es : List Entry) → place ≤ later → Spans place es → Spans later es
spans_later place later es more spans = record {
  count = omega (arith, spans.count, more);
  stands = λ i within. let old = spans.stands i within in record { some = old.some; within = omega (arith, old.within, more); bars = old.bars };
  order = spans.order;
}

module _ (until : Until) (bytes : List ℕ) (place : ℕ) (es : List Entry) (lists : List ℕ) (going : Going until bytes place es lists) where
  -- over what is no token
  pub going_gap : (later : ℕ) → lex_at bytes place ≡ lex_at bytes later → place ≤ later → later ≤ length bytes → Going until bytes later es lists
  going_gap later same more within = record {
    within = within;
    spans = spans_later place later es more going.spans;
    nests = going.nests;
    same = sym (ap (outcome bytes (watched until (length lists) (tokens_in bytes es)) es lists) same) ∙ going.same;
  }

  -- to a fault
  pub going_faulty : (fault : Fault) → lex_at bytes place ≡ faulty fault → tokens_of until bytes ≡ Err fault
  going_faulty fault is =
      sym going.same ∙ ap (outcome bytes (watched until (length lists) (tokens_in bytes es)) es lists) is
      ∙ outcome_faulty bytes (watched until (length lists) (tokens_in bytes es)) es lists fault (watched_goes until (length lists) (tokens_in bytes es))

  -- over a token
  module _ (item : Item) (end : ℕ) (fs : List Entry) (left : List ℕ) (here : lex_at bytes place ≡ next (token bytes item place end) (lex_at bytes end)) (puts : Puts item place end es fs lists left)
      (closes : (is_right item && eqb (length lists) 0) ≡ false) (within : end ≤ length bytes) where
    abbrev w : Watch
    w = watched until (length lists) (tokens_in bytes es)

    abbrev t : Token
    t = token bytes item place end

    moved : outcome bytes (watch_after w (length lists) item t.text) fs left (lex_at bytes end) ≡ tokens_of until bytes
    moved =
        outcome_next bytes w es fs lists left t (lex_at bytes end) (watched_goes until (length lists) (tokens_in bytes es)) (watched_top until (length lists) (tokens_in bytes es)) closes (puts.tokens bytes) puts.depth
        ∙ ap (outcome bytes w es lists) (sym here) ∙ going.same

    pub going_on : watch_after w (length lists) item t.text ≢ Met → Going until bytes end fs left
    going_on goes = record {
      within = within;
      spans = puts.spans going.spans;
      nests = puts.nests;
      same = ap (λ v. outcome bytes v fs left (lex_at bytes end))
          (ap (λ d. watched until d (tokens_in bytes fs)) puts.depth ∙ ap (watched until (depth_after item (length lists))) (puts.tokens bytes)
          ∙ watched_next until (length lists) (tokens_in bytes es) t closes goes)
          ∙ moved;
    }

    pub going_over : is_right item ≡ false → Going until bytes end fs left
    going_over other = going_on (no_end w (length lists) item t.text (watched_goes until (length lists) (tokens_in bytes es)) other)

    -- over a `)` that ends a form `(exit)`, behind which nothing is examined
    pub going_out : watch_after w (length lists) item t.text ≡ Met → length left ≡ 0 → Going until bytes (length bytes) fs left
    going_out met none = record {
      within = omega arith;
      spans = spans_later end (length bytes) fs within (puts.spans going.spans);
      nests = puts.nests;
      same = ap (outcome bytes (watched until (length left) (tokens_in bytes fs)) fs left) (lex_end bytes)
          ∙ outcome_ended bytes (watched until (length left) (tokens_in bytes fs)) fs left (length bytes) none
          ∙ sym (outcome_met bytes fs left (lex_at bytes end) none)
          ∙ ap (λ v. outcome bytes v fs left (lex_at bytes end)) (sym met) ∙ moved;
    }

  -- to a `)` too many
  pub going_too_far : (behind : Lexed) → lex_at bytes place ≡ next (token bytes Right place (place + 1)) behind → length lists ≡ 0 → tokens_of until bytes ≡ Err (unbalanced place)
  going_too_far behind is none =
      sym going.same ∙ ap (outcome bytes (watched until (length lists) (tokens_in bytes es)) es lists) is
      ∙ outcome_over bytes (watched until (length lists) (tokens_in bytes es)) es lists (token bytes Right place (place + 1)) behind
      (watched_goes until (length lists) (tokens_in bytes es)) (watched_top until (length lists) (tokens_in bytes es)) (ap (λ n. eqb n 0) none)

  at_end : length bytes ≤ place → lex_at bytes place ≡ ended (length bytes)
  at_end end =
      let is : place ≡ length bytes = omega (arith, going.within) in
      ap (lex_at bytes) is ∙ lex_end bytes

  pub finished : length bytes ≤ place → lists ≡ [] → tokens_of until bytes ≡ Ok (tokens_in bytes es)
  finished end none =
      sym going.same ∙ ap (outcome bytes (watched until (length lists) (tokens_in bytes es)) es lists) (at_end end)
      ∙ outcome_ended bytes (watched until (length lists) (tokens_in bytes es)) es lists (length bytes) (ap length none)

  pub unfinished : length bytes ≤ place → 0 < length lists → tokens_of until bytes ≡ Err (unbalanced (length bytes))
  unfinished end some =
      sym going.same ∙ ap (outcome bytes (watched until (length lists) (tokens_in bytes es)) es lists) (at_end end)
      ∙ outcome_open bytes (watched until (length lists) (tokens_in bytes es)) es lists (length bytes) (watched_goes until (length lists) (tokens_in bytes es)) some

-- whether a `)` ends a form `(exit)`
no_left : (item : Item) (text : List ℕ) → is_exit_word item text ≡ true → is_left item ≡ false
no_left item text exit = elim (tell (is_left item)) [
  | inl left ↦ absurd (let both : (is_left item && is_exit_word item text) ≡ true = rw (left, exit) refl in cc (both, no_left_exit item text))
  | inr other ↦ other
]

ends_exit : (until : Until) (ts : List Token) (text : List ℕ) → (is_exit until && names_exit ts) ≡ true → watch_after (watched until 1 ts) 1 Right text ≡ Met
ends_exit End ts text names = absurd (cc)
ends_exit Exit ts text names =
    let both : names_exit ts ≡ true = names in
    let word = and_right (is_left (token_at ts (length ts - 2)).item) (is_exit_word (last_token ts).item (last_token ts).text) both in
    rw (no_left (last_token ts).item (last_token ts).text word, both) refl

ends_no_exit : (until : Until) (depth : ℕ) (ts : List Token) (text : List ℕ) → (eqb depth 1 && (is_exit until && names_exit ts)) ≡ false → watch_after (watched until depth ts) depth Right text ≢ Met
ends_no_exit End depth ts text none = λ is. absurd (cc)
ends_no_exit Exit depth ts text none = by_last (eqb depth 1) (is_left (last_token ts).item) (names_exit ts) none
  where
    by_last : (one last names : Bool) → (one && names) ≡ false → watch_after (cond one (watch_by last names) Elsewhere) depth Right text ≢ Met
    by_last true true names none = λ is. absurd (cc)
    by_last true false true none = absurd (cc)
    by_last true false false none = λ is. absurd (cc)
    by_last false last names none = λ is. absurd (cc)

-- over a `)` that closes a list
module _ (until : Until) (bytes : List ℕ) (place end : ℕ) (es fs : List Entry) (lists left : List ℕ) (going : Going until bytes place es lists) (one : end ≡ place + 1)
    (here : lex_at bytes place ≡ next (token bytes Right place (place + 1)) (lex_at bytes (place + 1))) (puts : Puts Right place end es fs lists left) (opened : 0 < length lists) (more : place < length bytes) where
  lexed_here : lex_at bytes place ≡ next (token bytes Right place end) (lex_at bytes end)
  lexed_here = here ∙ ap (λ n. next (token bytes Right place n) (lex_at bytes n)) (sym one)

  some : eqb (length lists) 0 ≡ false
  some = ne_eqb (length lists) 0 (λ none. omega (arith, none, opened))

  pub right_on : (eqb (length lists) 1 && (is_exit until && names_exit (tokens_in bytes es))) ≡ false → Going until bytes end fs left
  right_on none = going_on until bytes place es lists going Right end fs left lexed_here puts some (omega (arith, one, more)) (ends_no_exit until (length lists) (tokens_in bytes es) (token bytes Right place end).text none)

  pub right_out : (eqb (length lists) 1 && (is_exit until && names_exit (tokens_in bytes es))) ≡ true → Going until bytes (length bytes) fs left
  right_out exit = elim (eqb_tells (length lists) 1) [
    | inr other ↦ absurd (cc (and_left (eqb (length lists) 1) (is_exit until && names_exit (tokens_in bytes es)) exit, other.0))
    | inl last ↦
        let text = (token bytes Right place end).text in
        let met : watch_after (watched until (length lists) (tokens_in bytes es)) (length lists) Right text ≡ Met =
        ap (λ d. watch_after (watched until d (tokens_in bytes es)) d Right text) last.1 ∙ ends_exit until (tokens_in bytes es) text (and_right (eqb (length lists) 1) (is_exit until && names_exit (tokens_in bytes es)) exit) in
        let depth = puts.depth in
        going_out until bytes place es lists going Right end fs left lexed_here puts some (omega (arith, one, more)) met (omega (arith, depth, last.1))
  ]
