-- The text of a command that is passed on is read as one such command wherever it stands.
use Rattle.std.proofs.Common.{◌≡◌, ℕ, zero, suc, ◌+◌, inl, inr, Bool, true, false, eqb, cond, Result, Ok, Err, Option, Some, None, List, [], ◌∷◌, ◌++◌, length, map, refl, ap, sym, subst, ◌∙◌, arith, append-nil}
use Rattle.std.specs.Prelude.{◌&&◌, codes, option_map}
use Rattle.std.proofs.lemmas.Bool.{eqb-true}
use Rattle.smt_lex.specs.declared.items.Item.{Item}
use Rattle.smt_lex.specs.declared.items.Item.TheVariants.{Word, Left, Right}
use Rattle.smt_lex.specs.Names.{Name, is_command_word}
use Rattle.smt_lex.specs.Lexicon.{line_feed}
use Rattle.smt_lex.specs.Lex.{Token, Fault, Lexed, ended, faulty, next, lex_from, lex}
use Rattle.smt_lex.specs.Forms.{Form, atom, node, Forms, none, ◌⨾◌, is_left, is_right, is_exit_word, depth_after, with_token, balanced, before, rest, begins_with_right, begins_with_name, begins_with_exit, to_exit, as_forms, forms}
use Rattle.smt_terms.proofs.Equal.{Decides-name_eq}
use Rattle.smt_terms.proofs.Tests.{true_or_false, both_true}
use Rattle.script_terms.specs.declared.causes.Cause.TheVariants.{BadForm}
use Rattle.script_read.specs.Outlines.{CommandWord, set_logic_word, set_info_word, set_option_word, get_info_word, get_option_word, echo_word, get_model_word, declare_sort_word, define_sort_word, declare_const_word, declare_fun_word, define_fun_word, assert_word, check_sat_word, check_sat_assuming_word, push_word, pop_word, reset_word, reset_assertions_word, exit_word, supported, Outline, passing, ending, sort_declaration, sort_definition, symbol_declaration, symbol_definition, assuming, pushing, popping, global_option, where_so, symbol_at, numeral_at, list_in, of_both, is_globals, option_shape, shape, shaped, outline_by, outline, is_passing, is_passing_alone, is_passed_text}
use Rattle.script_terms.specs.Parts.{is_symbol, word_by, word_in, keyword_in, is_keyword, is_text}
use Rattle.script_terms.specs.Refusals.{Refused, given}
use Rattle.smt_print.proofs.FormTexts.{with_form}
use Rattle.smt_print.proofs.LinesLexed.{in_front, moved, lex_line}
use Rattle.smt_print.proofs.LinesRead.{IsLine, GoesOn}

-- ---- forms that stand further behind

abbrev mutual
  pub moved_form : ℕ → Form → Form
  moved_form q (atom t) = atom (moved q t)
  moved_form q (node place fs) = node (q + place) (moved_forms q fs)

  pub moved_forms : ℕ → Forms → Forms
  moved_forms q none = none
  moved_forms q (f ⨾ fs) = moved_form q f ⨾ moved_forms q fs

abbrev moved_rest : ℕ → Forms × List Forms → Forms × List Forms
moved_rest q r = (moved_forms q r.0, map (moved_forms q) r.1)

before_moved : (q : ℕ) (item : Item) (t : Token) (fs : Forms) (around : List Forms) → before item (moved q t) (moved_rest q (fs, around)) ≡ moved_rest q (before item t (fs, around))
before_moved q Left t fs [] = refl
before_moved q Left t fs (g ∷ gs) = refl
before_moved q Right t fs around = refl
before_moved q item t fs around = refl

rest_moved : (q : ℕ) (ts : List Token) → rest (map (moved q) ts) ≡ moved_rest q (rest ts)
rest_moved q [] = refl
rest_moved q (t ∷ ts) = ap (before t.item (moved q t)) (rest_moved q ts) ∙ before_moved q t.item t (rest ts).0 (rest ts).1

-- ---- tokens whose lists are closed where so many are open at first

abbrev Closes : ℕ → List Token → ℕ → Type 0
Closes depth ts n = balanced depth (in_front ts (ended n)) ≡ Ok ts

-- a list isn't closed that isn't open
abbrev closes_none : Token → ℕ → Bool
closes_none t depth = is_right t.item && eqb depth 0

token_ok : (t : Token) (r : Result (List Token) Fault) (us : List Token) → with_token t r ≡ Ok (t ∷ us) → r ≡ Ok us
token_ok t (Ok vs) us h = let e : t ∷ vs ≡ t ∷ us = cc in let same : vs ≡ us = cc in ap Ok same
token_ok t (Err f) us h = absurd (cc)

next_balanced : (t : Token) (depth : ℕ) (ts : Lexed) → closes_none t depth ≡ false → balanced depth (next t ts) ≡ with_token t (balanced (depth_after t.item depth) ts)
next_balanced t zero ts unclosed = rw unclosed refl
next_balanced t (suc depth) ts unclosed = rw unclosed refl

open_first : (t : Token) (depth : ℕ) (ts : Lexed) (us : List Token) → balanced depth (next t ts) ≡ Ok us → closes_none t depth ≡ false
open_first t zero ts us h = elim (true_or_false (closes_none t zero)) [ inl wrong ↦ absurd (let e = rw wrong at h in cc) | inr unclosed ↦ unclosed ]
open_first t (suc depth) ts us h = elim (true_or_false (closes_none t (suc depth))) [ inl wrong ↦ absurd (let e = rw wrong at h in cc) | inr unclosed ↦ unclosed ]

closes_behind : (t : Token) (ts : List Token) (depth n : ℕ) → Closes depth (t ∷ ts) n → Closes (depth_after t.item depth) ts n
closes_behind t ts depth n h =
    token_ok t (balanced (depth_after t.item depth) (in_front ts (ended n))) ts (sym (next_balanced t depth (in_front ts (ended n)) (open_first t depth (in_front ts (ended n)) (t ∷ ts) h)) ∙ h)

nothing_open : (depth n : ℕ) → Closes depth [] n → depth ≡ 0
nothing_open zero n h = refl
nothing_open (suc depth) n h = absurd (cc)

-- tokens that were read without fault
record AreTokens (ts : Lexed) (us : List Token) : Type 0 where
  end : ℕ
  all : ts ≡ in_front us (ended end)

with_token_some : (t : Token) (r : Result (List Token) Fault) (us : List Token) → with_token t r ≡ Ok us → (vs : List Token) × (r ≡ Ok vs) × (us ≡ t ∷ vs)
with_token_some t (Ok vs) us h = (vs, refl, let e : t ∷ vs ≡ us = cc in sym e)
with_token_some t (Err f) us h = absurd (cc)

are_tokens : (ts : Lexed) (depth : ℕ) (us : List Token) → balanced depth ts ≡ Ok us → AreTokens ts us
are_tokens (ended n) zero us h = let none_left : [] ≡ us = cc in record { end = n; all = ap (λ vs. in_front vs (ended n)) none_left }
are_tokens (ended n) (suc depth) us h = absurd (cc)
are_tokens (faulty f) zero us h = absurd (cc)
are_tokens (faulty f) (suc depth) us h = absurd (cc)
are_tokens (next t ts) depth us h =
    let unclosed = open_first t depth ts us h in
    let r = with_token_some t (balanced (depth_after t.item depth) ts) us (sym (next_balanced t depth ts unclosed) ∙ h) in
    let inner = are_tokens ts (depth_after t.item depth) r.0 r.1 in
    record { end = inner.end; all = ap (next t) inner.all ∙ ap (λ vs. in_front vs (ended inner.end)) (sym r.2) }

-- ---- what stands behind them

closed_before : (q : ℕ) (ts : List Token) (depth n : ℕ) (more : Lexed) (us : List Token) → Closes depth ts n → balanced 0 more ≡ Ok us → balanced depth (in_front (map (moved q) ts) more) ≡ Ok (map (moved q) ts ++ us)
closed_before q [] depth n more us closes behind = ap (λ d. balanced d more) (nothing_open depth n closes) ∙ behind
closed_before q (t ∷ ts) depth n more us closes behind =
    next_balanced (moved q t) depth (in_front (map (moved q) ts) more) (open_first t depth (in_front ts (ended n)) (t ∷ ts) closes)
    ∙ ap (with_token (moved q t)) (closed_before q ts (depth_after t.item depth) n more us (closes_behind t ts depth n closes) behind)

-- how many lists are still open is how many lists of forms are left
around_length : (ts : List Token) (depth n : ℕ) → Closes depth ts n → length (rest ts).1 ≡ depth
around_length [] depth n h = sym (nothing_open depth n h)
around_length (t ∷ ts) depth n h = by_item t.item t (rest ts).0 (rest ts).1 depth (open_first t depth (in_front ts (ended n)) (t ∷ ts) h) (around_length ts (depth_after t.item depth) n (closes_behind t ts depth n h))
  where
    by_item : (item : Item) (t : Token) (fs : Forms) (around : List Forms) (depth : ℕ) → (is_right item && eqb depth 0) ≡ false → length around ≡ depth_after item depth → length (before item t (fs, around)).1 ≡ depth
    by_item Left t fs [] depth unclosed h = absurd (omega (arith, h))
    by_item Left t fs (g ∷ gs) depth unclosed h = omega (arith, h)
    by_item Right t fs around zero unclosed h = absurd (cc)
    by_item Right t fs around (suc depth) unclosed h = omega (arith, h)
    by_item item t fs around depth unclosed h = h

-- what is left of tokens, with what is left of those behind them
abbrev appended : Forms → Forms → Forms
appended none gs = gs
appended (f ⨾ fs) gs = f ⨾ appended fs gs

abbrev glued : Forms → List Forms → Forms × List Forms → Forms × List Forms
glued fs [] r = (appended fs r.0, r.1)
glued fs (g ∷ gs) r = (fs, (glued g gs r).0 ∷ (glued g gs r).1)

before_glued : (item : Item) (t : Token) (fs : Forms) (around : List Forms) (depth : ℕ) (r : Forms × List Forms) → length around ≡ depth_after item depth
    → before item t (glued fs around r) ≡ glued (before item t (fs, around)).0 (before item t (fs, around)).1 r
before_glued Left t fs [] depth r h = absurd (omega (arith, h))
before_glued Left t fs (g ∷ []) depth r h = refl
before_glued Left t fs (g ∷ k ∷ gs) depth r h = refl
before_glued Right t fs [] depth r h = refl
before_glued Right t fs (g ∷ gs) depth r h = refl
before_glued item t fs [] depth r h = refl
before_glued item t fs (g ∷ gs) depth r h = refl

rest_glued : (ts us : List Token) (depth n : ℕ) → Closes depth ts n → rest (ts ++ us) ≡ glued (rest ts).0 (rest ts).1 (rest us)
rest_glued [] us depth n h = refl
rest_glued (t ∷ ts) us depth n h =
    let behind = closes_behind t ts depth n h in
    ap (before t.item t) (rest_glued ts us (depth_after t.item depth) n behind)
    ∙ before_glued t.item t (rest ts).0 (rest ts).1 depth (rest us) (around_length ts (depth_after t.item depth) n behind)

moved_closes : (q : ℕ) (ts : List Token) (depth n : ℕ) → Closes depth ts n → Closes depth (map (moved q) ts) 0
moved_closes q ts depth n h = closed_before q ts depth n (ended 0) [] h refl ∙ ap Ok (append-nil (map (moved q) ts))

moved_forms_left : (q : ℕ) (ts us : List Token) (n : ℕ) → Closes 0 ts n → rest (map (moved q) ts ++ us) ≡ glued (moved_forms q (rest ts).0) (map (moved_forms q) (rest ts).1) (rest us)
moved_forms_left q ts us n h =
    rest_glued (map (moved q) ts) us 0 0 (moved_closes q ts 0 n h) ∙ ap (λ x. glued x.0 x.1 (rest us)) (rest_moved q ts)

-- ---- no `(exit)` among the forms

abbrev is_exit_form : Form → Bool
is_exit_form (node place (atom t ⨾ none)) = is_exit_word t.item t.text
is_exit_form _ = false

abbrev NoExits : Forms → Type 0
NoExits none = Unit {0}
NoExits (f ⨾ fs) = (is_exit_form f ≡ false) × NoExits fs

-- the forms that stand in no other
abbrev outermost : Forms → List Forms → Forms
outermost fs [] = fs
outermost fs (g ∷ gs) = outermost g gs

fewer_exits : (item : Item) (t : Token) (fs : Forms) (around : List Forms) (depth : ℕ) → length around ≡ depth_after item depth → NoExits (outermost (before item t (fs, around)).0 (before item t (fs, around)).1) → NoExits (outermost fs around)
fewer_exits Left t fs [] depth h free = absurd (omega (arith, h))
fewer_exits Left t fs (g ∷ []) depth h free = free.1
fewer_exits Left t fs (g ∷ k ∷ gs) depth h free = free
fewer_exits Right t fs around depth h free = free
fewer_exits item t fs [] depth h free = free.1
fewer_exits item t fs (g ∷ gs) depth h free = free

left_is : (item : Item) → is_left item ≡ true → item ≡ Left
left_is Left h = refl
left_is _ h = absurd (cc)

right_is : (item : Item) → is_right item ≡ true → item ≡ Right
right_is Right h = refl
right_is _ h = absurd (cc)

word_is : (item : Item) (text : List ℕ) → is_exit_word item text ≡ true → item ≡ Word
word_is Word text h = refl
word_is _ text h = absurd (cc)

-- tokens that begin with `(exit)`
exit_rest : (t w r : Token) (ts : List Token) → t.item ≡ Left → w.item ≡ Word → r.item ≡ Right → rest (t ∷ (w ∷ (r ∷ ts))) ≡ (node t.start (atom w ⨾ none) ⨾ (rest ts).0, (rest ts).1)
exit_rest t w r ts left word right =
    ap (λ i. before i t (before w.item w (before r.item r (rest ts)))) left ∙ ap (λ i. before Left t (before i w (before r.item r (rest ts)))) word ∙ ap (λ i. before Left t (before Word w (before i r (rest ts)))) right

at_top : (around : List Forms) (f : Form) (fs : Forms) → length around ≡ 0 → NoExits (outermost (f ⨾ fs) around) → is_exit_form f ≡ false
at_top [] f fs h free = free.0
at_top (g ∷ gs) f fs h free = absurd (omega (arith, h))

exit_third : (q n : ℕ) (more : Lexed) (t w : Token) (ts : List Token) → t.item ≡ Left → w.item ≡ Word → is_exit_word w.item w.text ≡ true → begins_with_right (in_front (map (moved q) ts) more) ≡ true → Closes 1 ts n
    → NoExits (outermost (rest (t ∷ (w ∷ ts))).0 (rest (t ∷ (w ∷ ts))).1) → ⊥
exit_third q n more t w [] left word exits begins closes free = absurd (cc)
exit_third q n more t w (r ∷ ts) left word exits begins closes free =
    let right : r.item ≡ Right = right_is r.item begins in
    let inner : length (rest ts).1 ≡ 0 = around_length ts 0 n (subst (λ i. Closes (depth_after i 1) ts n) right (closes_behind r ts 1 n closes)) in
    let here : NoExits (outermost (node t.start (atom w ⨾ none) ⨾ (rest ts).0) (rest ts).1) = subst (λ x. NoExits (outermost x.0 x.1)) (exit_rest t w r ts left word right) free in
    let not_exit : is_exit_word w.item w.text ≡ false = at_top (rest ts).1 (node t.start (atom w ⨾ none)) (rest ts).0 inner here in
    cc

exit_second : (q n : ℕ) (more : Lexed) (t : Token) (ts : List Token) → t.item ≡ Left → begins_with_name (in_front (map (moved q) ts) more) ≡ true → Closes 1 ts n → NoExits (outermost (rest (t ∷ ts)).0 (rest (t ∷ ts)).1) → ⊥
exit_second q n more t [] left begins closes free = absurd (cc)
exit_second q n more t (w ∷ ts) left begins closes free =
    let b = both_true (is_exit_word w.item w.text) (begins_with_right (in_front (map (moved q) ts) more)) begins in
    let word : w.item ≡ Word = word_is w.item w.text b.0 in
    exit_third q n more t w ts left word b.0 b.1 (subst (λ i. Closes (depth_after i 1) ts n) word (closes_behind w ts 1 n closes)) free

exit_first : (q n : ℕ) (more : Lexed) (t : Token) (ts : List Token) → Closes 0 (t ∷ ts) n → NoExits (outermost (rest (t ∷ ts)).0 (rest (t ∷ ts)).1) → begins_with_exit (in_front (map (moved q) (t ∷ ts)) more) ≡ true → ⊥
exit_first q n more t ts closes free begins =
    let a = both_true (is_left t.item) (begins_with_name (in_front (map (moved q) ts) more)) begins in
    let left : t.item ≡ Left = left_is t.item a.0 in
    exit_second q n more t ts left a.1 (subst (λ i. Closes (depth_after i 0) ts n) left (closes_behind t ts 0 n closes)) free

not_at_exit : (q n depth : ℕ) (more : Lexed) (t : Token) (ts : List Token) → Closes depth (t ∷ ts) n → NoExits (outermost (rest (t ∷ ts)).0 (rest (t ∷ ts)).1)
    → (eqb depth 0 && begins_with_exit (in_front (map (moved q) (t ∷ ts)) more)) ≡ false
not_at_exit q n depth more t ts closes free = elim (true_or_false (eqb depth 0)) [
  | inr deep ↦ ap (λ b. b && begins_with_exit (in_front (map (moved q) (t ∷ ts)) more)) deep
  | inl top ↦ elim (true_or_false (begins_with_exit (in_front (map (moved q) (t ∷ ts)) more))) [
    | inl begins ↦ absurd (exit_first q n more t ts (subst (λ d. Closes d (t ∷ ts) n) (eqb-true depth 0 top) closes) free begins)
    | inr other ↦ ap (λ b. b && begins_with_exit (in_front (map (moved q) (t ∷ ts)) more)) top ∙ other
  ]
]

exit_step : (depth : ℕ) (t : Token) (ts : Lexed) → (eqb depth 0 && begins_with_exit (next t ts)) ≡ false → to_exit depth (next t ts) ≡ next t (to_exit (depth_after t.item depth) ts)
exit_step depth t ts other = rw other refl

goes_on : (q : ℕ) (ts : List Token) (depth n : ℕ) (more : Lexed) → Closes depth ts n → NoExits (outermost (rest ts).0 (rest ts).1) → to_exit depth (in_front (map (moved q) ts) more) ≡ in_front (map (moved q) ts) (to_exit 0 more)
goes_on q [] depth n more closes free = ap (λ d. to_exit d more) (nothing_open depth n closes)
goes_on q (t ∷ ts) depth n more closes free =
    let behind = closes_behind t ts depth n closes in
    let inner = fewer_exits t.item t (rest ts).0 (rest ts).1 depth (around_length ts (depth_after t.item depth) n behind) free in
    exit_step depth (moved q t) (in_front (map (moved q) ts) more) (not_at_exit q n depth more t ts closes free)
    ∙ ap (next (moved q t)) (goes_on q ts (depth_after t.item depth) n more behind inner)

-- ---- the outline of a form that stands further behind

symbol_moved : (q : ℕ) (f : Form) → is_symbol (moved_form q f) ≡ is_symbol f
symbol_moved q (atom t) = refl
symbol_moved q (node place fs) = refl

word_moved : (q : ℕ) (f : Form) → word_in (moved_form q f) ≡ word_in f
word_moved q (atom t) = refl
word_moved q (node place fs) = refl

keyword_moved : (q : ℕ) (f : Form) → keyword_in (moved_form q f) ≡ keyword_in f
keyword_moved q (atom t) = refl
keyword_moved q (node place fs) = refl

is_keyword_moved : (q : ℕ) (f : Form) → is_keyword (moved_form q f) ≡ is_keyword f
is_keyword_moved q (atom t) = refl
is_keyword_moved q (node place fs) = refl

text_moved : (q : ℕ) (f : Form) → is_text (moved_form q f) ≡ is_text f
text_moved q (atom t) = refl
text_moved q (node place fs) = refl

-- an option without a value, or with one
option_moved : (q : ℕ) (k : Form) (f g : Option Form) → option_shape k f ≡ Some passing → option_shape (moved_form q k) g ≡ Some passing
option_moved q k f g h =
    ap (λ b. where_so b (cond (is_globals (keyword_in (moved_form q k))) (global_option g) passing)) (is_keyword_moved q k)
    ∙ ap (λ n. where_so (is_keyword k) (cond (is_globals n) (global_option g) passing)) (keyword_moved q k)
    ∙ other (is_keyword k) (is_globals (keyword_in k)) h
  where
    other : (b c : Bool) → where_so b (cond c (global_option f) passing) ≡ Some passing → where_so b (cond c (global_option g) passing) ≡ Some passing
    other true true h = absurd (cc)
    other true false h = refl
    other false c h = absurd (cc)

no_pair : {A B : Type 0} (make : A → B → Outline) (a : Option A) (b : Option B) → ((x : A) (y : B) → make x y ≡ passing → ⊥) → of_both make a b ≡ Some passing → ⊥
no_pair make (Some a) (Some b) never h = never a b (cc)
no_pair make (Some a) None never h = cc
no_pair make None (Some b) never h = cc
no_pair make None None never h = cc

no_one : {A : Type 0} (make : A → Outline) (a : Option A) → ((x : A) → make x ≡ passing → ⊥) → option_map make a ≡ Some passing → ⊥
no_one make (Some a) never h = never a (cc)
no_one make None never h = cc

shape_moved : (q : ℕ) (w : CommandWord) (fs : Forms) → shape w fs ≡ Some passing → shape w (moved_forms q fs) ≡ Some passing
shape_moved q set_logic_word (w ⨾ none) h = ap (λ b. where_so b passing) (symbol_moved q w) ∙ h
shape_moved q set_logic_word none h = absurd (cc)
shape_moved q set_logic_word (w ⨾ x ⨾ fs) h = absurd (cc)
shape_moved q set_info_word (k ⨾ none) h = ap (λ b. where_so b passing) (is_keyword_moved q k) ∙ h
shape_moved q set_info_word (k ⨾ f ⨾ none) h = ap (λ b. where_so b passing) (is_keyword_moved q k) ∙ h
shape_moved q set_info_word none h = absurd (cc)
shape_moved q set_info_word (k ⨾ f ⨾ g ⨾ fs) h = absurd (cc)
shape_moved q set_option_word (k ⨾ none) h = option_moved q k None None h
shape_moved q set_option_word (k ⨾ f ⨾ none) h = option_moved q k (Some f) (Some (moved_form q f)) h
shape_moved q set_option_word none h = absurd (cc)
shape_moved q set_option_word (k ⨾ f ⨾ g ⨾ fs) h = absurd (cc)
shape_moved q get_info_word (k ⨾ none) h = ap (λ b. where_so b passing) (is_keyword_moved q k) ∙ h
shape_moved q get_info_word none h = absurd (cc)
shape_moved q get_info_word (k ⨾ f ⨾ fs) h = absurd (cc)
shape_moved q get_option_word (k ⨾ none) h = ap (λ b. where_so b passing) (is_keyword_moved q k) ∙ h
shape_moved q get_option_word none h = absurd (cc)
shape_moved q get_option_word (k ⨾ f ⨾ fs) h = absurd (cc)
shape_moved q echo_word (t ⨾ none) h = ap (λ b. where_so b passing) (text_moved q t) ∙ h
shape_moved q echo_word none h = absurd (cc)
shape_moved q echo_word (t ⨾ f ⨾ fs) h = absurd (cc)
shape_moved q get_model_word none h = refl
shape_moved q get_model_word (f ⨾ fs) h = absurd (cc)
shape_moved q declare_sort_word (n ⨾ i ⨾ none) h = absurd (no_pair sort_declaration (symbol_at n) (numeral_at i) (λ x y e. cc) h)
shape_moved q declare_sort_word none h = absurd (cc)
shape_moved q declare_sort_word (n ⨾ none) h = absurd (cc)
shape_moved q declare_sort_word (n ⨾ i ⨾ f ⨾ fs) h = absurd (cc)
shape_moved q define_sort_word (n ⨾ ps ⨾ s ⨾ none) h = absurd (no_pair (λ name parameters. sort_definition name parameters s) (symbol_at n) (list_in ps) (λ x y e. cc) h)
shape_moved q define_sort_word none h = absurd (cc)
shape_moved q define_sort_word (n ⨾ none) h = absurd (cc)
shape_moved q define_sort_word (n ⨾ ps ⨾ none) h = absurd (cc)
shape_moved q define_sort_word (n ⨾ ps ⨾ s ⨾ f ⨾ fs) h = absurd (cc)
shape_moved q declare_const_word (n ⨾ s ⨾ none) h = absurd (no_one (λ name. symbol_declaration name none s) (symbol_at n) (λ x e. cc) h)
shape_moved q declare_const_word none h = absurd (cc)
shape_moved q declare_const_word (n ⨾ none) h = absurd (cc)
shape_moved q declare_const_word (n ⨾ s ⨾ f ⨾ fs) h = absurd (cc)
shape_moved q declare_fun_word (n ⨾ ss ⨾ s ⨾ none) h = absurd (no_pair (λ name arguments. symbol_declaration name arguments s) (symbol_at n) (list_in ss) (λ x y e. cc) h)
shape_moved q declare_fun_word none h = absurd (cc)
shape_moved q declare_fun_word (n ⨾ none) h = absurd (cc)
shape_moved q declare_fun_word (n ⨾ ss ⨾ none) h = absurd (cc)
shape_moved q declare_fun_word (n ⨾ ss ⨾ s ⨾ f ⨾ fs) h = absurd (cc)
shape_moved q define_fun_word (n ⨾ ps ⨾ s ⨾ t ⨾ none) h = absurd (no_pair (λ name parameters. symbol_definition name parameters s t) (symbol_at n) (list_in ps) (λ x y e. cc) h)
shape_moved q define_fun_word none h = absurd (cc)
shape_moved q define_fun_word (n ⨾ none) h = absurd (cc)
shape_moved q define_fun_word (n ⨾ ps ⨾ none) h = absurd (cc)
shape_moved q define_fun_word (n ⨾ ps ⨾ s ⨾ none) h = absurd (cc)
shape_moved q define_fun_word (n ⨾ ps ⨾ s ⨾ t ⨾ f ⨾ fs) h = absurd (cc)
shape_moved q assert_word (t ⨾ none) h = absurd (cc)
shape_moved q assert_word none h = absurd (cc)
shape_moved q assert_word (t ⨾ f ⨾ fs) h = absurd (cc)
shape_moved q check_sat_word none h = absurd (cc)
shape_moved q check_sat_word (f ⨾ fs) h = absurd (cc)
shape_moved q check_sat_assuming_word (ls ⨾ none) h = absurd (no_one assuming (list_in ls) (λ x e. cc) h)
shape_moved q check_sat_assuming_word none h = absurd (cc)
shape_moved q check_sat_assuming_word (ls ⨾ f ⨾ fs) h = absurd (cc)
shape_moved q push_word none h = absurd (cc)
shape_moved q push_word (i ⨾ none) h = absurd (no_one (λ n. pushing (Some n)) (numeral_at i) (λ x e. cc) h)
shape_moved q push_word (i ⨾ f ⨾ fs) h = absurd (cc)
shape_moved q pop_word none h = absurd (cc)
shape_moved q pop_word (i ⨾ none) h = absurd (no_one (λ n. popping (Some n)) (numeral_at i) (λ x e. cc) h)
shape_moved q pop_word (i ⨾ f ⨾ fs) h = absurd (cc)
shape_moved q reset_word none h = absurd (cc)
shape_moved q reset_word (f ⨾ fs) h = absurd (cc)
shape_moved q reset_assertions_word none h = absurd (cc)
shape_moved q reset_assertions_word (f ⨾ fs) h = absurd (cc)
shape_moved q exit_word none h = absurd (cc)
shape_moved q exit_word (f ⨾ fs) h = absurd (cc)

given_some : (p : ℕ) (o : Option Outline) → given BadForm p o ≡ Ok passing → o ≡ Some passing
given_some p (Some o) h = let e : o ≡ passing = cc in ap Some e
given_some p None h = absurd (cc)

shaped_moved : (q p r : ℕ) (w : Option CommandWord) (fs : Forms) → shaped p fs w ≡ Ok passing → shaped r (moved_forms q fs) w ≡ Ok passing
shaped_moved q p r None fs h = absurd (cc)
shaped_moved q p r (Some w) fs h = ap (given BadForm r) (shape_moved q w fs (given_some p (shape w fs) h))

outline_by_moved : (q p r : ℕ) (o : Option Name) (fs : Forms) → outline_by p o fs ≡ Ok passing → outline_by r o (moved_forms q fs) ≡ Ok passing
outline_by_moved q p r None fs h = absurd (cc)
outline_by_moved q p r (Some w) fs h = elim (true_or_false (is_command_word w)) [
  | inl named ↦ rw named (shaped_moved q p r (supported w) fs (rw named at h))
  | inr other ↦ absurd (let e = rw other at h in cc)
]

outline_moved : (q : ℕ) (f : Form) → outline f ≡ Ok passing → outline (moved_form q f) ≡ Ok passing
outline_moved q (atom t) h = absurd (cc)
outline_moved q (node place none) h = absurd (cc)
outline_moved q (node place (f ⨾ fs)) h = ap (λ o. outline_by (q + place) o (moved_forms q fs)) (word_moved q f) ∙ outline_by_moved q place (q + place) (word_in f) fs h

-- a command that is passed on isn't `(exit)`
exit_outline : (place : ℕ) (t : Token) → is_exit_word t.item t.text ≡ true → outline (node place (atom t ⨾ none)) ≡ Ok ending
unfolding is_command_word supported
exit_outline place t is =
    let word : t.item ≡ Word = word_is t.item t.text is in
    let same : t.text ≡ codes "exit" = (Decides-name_eq t.text (codes "exit")).0 (subst (λ i. is_exit_word i t.text ≡ true) word is) in
    ap (λ i. outline_by place (word_by i t.text) none) word ∙ ap (λ n. outline_by place (Some n) none) same

passing_no_exit : (f : Form) → outline f ≡ Ok passing → is_exit_form f ≡ false
passing_no_exit (node place (atom t ⨾ none)) h = elim (true_or_false (is_exit_word t.item t.text)) [
  | inl is ↦ absurd (let e : outline (node place (atom t ⨾ none)) ≡ Ok ending = exit_outline place t is in cc)
  | inr other ↦ other
]
passing_no_exit _ h = refl

-- ---- the line

pub record PassedLine (text : List ℕ) : Type 0 where
  pub form_at : ℕ → Form
  pub line : IsLine text form_at
  pub is : (p : ℕ) → outline (form_at p) ≡ Ok passing
  pub goes : GoesOn line.lexed

-- the one form of a text that is passed on
record IsPassed (o : Result Forms Fault) : Type 0 where
  form : Form
  alone : o ≡ Ok (form ⨾ none)
  outlined : outline form ≡ Ok passing

passing_outline : (o : Result Outline Refused) → is_passing o ≡ true → o ≡ Ok passing
passing_outline (Ok passing) h = refl
passing_outline (Ok _) h = absurd (cc)
passing_outline (Err e) h = absurd (cc)

passed_form : (o : Result Forms Fault) → is_passing_alone o ≡ true → IsPassed o
passed_form (Ok (f ⨾ none)) h = record { form = f; alone = refl; outlined = passing_outline (outline f) h }
passed_form (Ok none) h = absurd (cc)
passed_form (Ok (f ⨾ g ⨾ fs)) h = absurd (cc)
passed_form (Err e) h = absurd (cc)

-- its tokens
record HasTokens (r : Result (List Token) Fault) (fs : Forms) : Type 0 where
  tokens : List Token
  read : r ≡ Ok tokens
  forms : (rest tokens).0 ≡ fs

has_tokens : (r : Result (List Token) Fault) (fs : Forms) → as_forms r ≡ Ok fs → HasTokens r fs
has_tokens (Ok ts) fs h = record { tokens = ts; read = refl; forms = cc }
has_tokens (Err e) fs h = absurd (cc)

no_around : (around : List Forms) → length around ≡ 0 → around ≡ []
no_around [] h = refl
no_around (g ∷ gs) h = absurd (omega (arith, h))

one_form : (q : ℕ) (f : Form) (fs : Forms) (around : List Forms) (r : Forms × List Forms) → fs ≡ f ⨾ none → around ≡ [] → glued (moved_forms q fs) (map (moved_forms q) around) r ≡ with_form (moved_form q f) r
one_form q f fs around r alone closed = ap (λ gs. glued (moved_forms q gs) (map (moved_forms q) around) r) alone ∙ ap (λ gs. glued (moved_forms q (f ⨾ none)) (map (moved_forms q) gs) r) closed

pub passed_line : (text : List ℕ) → is_passed_text text ≡ true → PassedLine text
passed_line text may =
    let passed = passed_form (forms text) may in
    let read = has_tokens (balanced 0 (lex text)) (passed.form ⨾ none) passed.alone in
    let ts = read.tokens in
    let whole = are_tokens (lex text) 0 ts read.read in
    let n = whole.end in
    let closes : Closes 0 ts n = ap (balanced 0) (sym whole.all) ∙ read.read in
    let around : (rest ts).1 ≡ [] = no_around (rest ts).1 (around_length ts 0 n closes) in
    let free : NoExits (outermost (rest ts).0 (rest ts).1) =
    subst (λ gs. NoExits (outermost (rest ts).0 gs)) (sym around) (subst NoExits (sym read.forms) (passing_no_exit passed.form passed.outlined, tt)) in
    record {
      form_at = λ q. moved_form q passed.form;
      line = record {
        lexed = λ q more. in_front (map (moved q) ts) more;
        listed = λ q us. map (moved q) ts ++ us;
        after = λ q. suc (q + 0 + length text);
        lexes = λ q bytes. ap (λ k. lex_from k 0 (text ++ line_feed ∷ bytes)) (omega arith) ∙ lex_line text 0 0 q n ts bytes (omega arith) whole.all;
        closes = λ q more us behind. closed_before q ts 0 n more us closes behind;
        forms = λ q us. moved_forms_left q ts us n closes ∙ one_form q passed.form (rest ts).0 (rest ts).1 (rest us) read.forms around;
      };
      is = λ q. outline_moved q passed.form passed.outlined;
      goes = λ q more. goes_on q ts 0 n more closes free;
    }
