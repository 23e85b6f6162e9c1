-- The forms of a text can be written again, and its names can stand between bars.
use Rattle.std.proofs.Common.{◌≡◌, ℕ, zero, suc, ◌+◌, ◌-◌, ◌≤◌, inl, inr, Bool, true, false, eqb, not, cond, Option, Some, None, List, [], ◌∷◌, ◌++◌, length, take, Result, Ok, Err, refl, ap, sym, ◌∙◌, subst, arith, length-append}
use Rattle.std.specs.Prelude.{⊤, ◌&&◌, nat_lt, if◌then◌else◌}
use Rattle.std.specs.List.{list_all}
use Rattle.std.proofs.lemmas.List.{length-take-le, take_all, take_at}
use Rattle.std.proofs.lemmas.Bool.{ltb-false, eqb-true}
use Rattle.std.proofs.lemmas.Bool.Decides.{eqb_tells}
use Rattle.smt_lex.specs.declared.items.Item.{Item}
use Rattle.smt_lex.specs.declared.items.Item.TheVariants.{Left, Right, Numeral, Decimal, Hex, Bin, Text, Word, Quoted, Keyword}
use Rattle.smt_lex.specs.Lexicon.{space, left_parenthesis, right_parenthesis, semicolon, bar, backslash, quote, is_blank, is_run_byte, is_word, is_numeral, is_keyword, is_decimal, is_hexadecimal, is_binary, length_while, run_item}
use Rattle.smt_lex.specs.Names.{Name, IsName, is_among, is_reserved}
use Rattle.smt_lex.specs.Lex.{Token, Fault, bad_byte, bad_token, open_text, Lexed, ended, faulty, next, literal_length, literal_by, literal_front, quoted_front, run_by, run_front, front, front_length, lexed, lex_from, lex, symbol_by, symbol_of}
use Rattle.smt_lex.specs.Forms.{Form, atom, node, Forms, none, ◌⨾◌, is_right, depth_after, with_token, balanced, first_tokens, begins_with_exit, to_exit, as_forms, before, rest, forms_to_exit}
use Rattle.smt_lex.proofs.Joining.{IsLexeme}
use Rattle.smt_lex.proofs.Rereading.{lexeme_of_front}
use Rattle.smt_terms.specs.Equal.{name_eq}
use Rattle.smt_terms.specs.Free.{name_among}
use Rattle.smt_terms.proofs.Cuts.{name_among-append}
use Rattle.smt_terms.proofs.Equal.{name_same}
use Rattle.smt_terms.proofs.Tests.{true_or_false, both_true, and_true, either_true}
use Rattle.script_terms.specs.TextNames.{with_name, names_with, names_with_all}
use Rattle.script_read.proofs.FormTexts.{IsInner, AreWritten}

-- ---- bytes

all_while : (test : ℕ → Bool) (bs : List ℕ) → list_all test (take (length_while test bs) bs) ≡ true
all_while test [] = refl
all_while test (b ∷ bs) = elim (true_or_false (test b)) [
  | inl passes ↦ rw passes (rw passes (all_while test bs))
  | inr fails ↦ rw fails refl
]

while_within : (test : ℕ → Bool) (bs : List ℕ) → length_while test bs ≤ length bs
while_within test [] = omega arith
while_within test (b ∷ bs) = elim (true_or_false (test b)) [
  | inl passes ↦ let further = while_within test bs in rw passes (omega (arith, further))
  | inr fails ↦ rw fails (omega arith)
]

-- what stands at the first byte that fails
while_stops : (stop : ℕ) (bs : List ℕ) → (length_while (λ b. not (eqb b stop)) bs ≡ length bs → ⊥)
    → take (suc (length_while (λ b. not (eqb b stop)) bs)) bs ≡ take (length_while (λ b. not (eqb b stop)) bs) bs ++ stop ∷ []
while_stops stop [] some = absurd (some refl)
while_stops stop (b ∷ bs) some = elim (eqb_tells b stop) [
  | inl same ↦ rw same.0 (ap (λ b. b ∷ []) same.1)
  | inr differs ↦ rw differs.0 (ap (λ xs. b ∷ xs) (while_stops stop bs (λ all. some (rw differs.0 (ap suc all)))))
]

all_weaker : (p q : ℕ → Bool) → ((b : ℕ) → p b ≡ true → q b ≡ true) → (bs : List ℕ) → list_all p bs ≡ true → list_all q bs ≡ true
all_weaker p q weaker [] all = refl
all_weaker p q weaker (b ∷ bs) all =
    let parts = both_true (p b) (list_all p bs) all in
    and_true (q b) (list_all q bs) (weaker b parts.0) (all_weaker p q weaker bs parts.1)

both_pass : (p q : ℕ → Bool) (bs : List ℕ) → list_all p bs ≡ true → list_all q bs ≡ true → list_all (λ b. p b && q b) bs ≡ true
both_pass p q [] ps qs = refl
both_pass p q (b ∷ bs) ps qs =
    let first = both_true (p b) (list_all p bs) ps in
    let second = both_true (q b) (list_all q bs) qs in
    and_true (p b && q b) (list_all (λ b. p b && q b) bs) (and_true (p b) (q b) first.0 second.0) (both_pass p q bs first.1 second.1)

-- a byte that passes a test is none that fails it
other_byte : (test : ℕ → Bool) (b c : ℕ) → test b ≡ true → test c ≡ false → not (eqb b c) ≡ true
other_byte test b c passes fails = elim (eqb_tells b c) [ inl same ↦ absurd (cc (passes, fails, ap test same.1)) | inr differs ↦ ap not differs.0 ]

-- a run can stand between bars
run_name : (bs : List ℕ) → list_all is_run_byte bs ≡ true → IsName bs
run_name bs all = all_weaker is_run_byte (λ b. not (eqb b bar) && not (eqb b backslash)) (λ b h. and_true (not (eqb b bar)) (not (eqb b backslash)) (other_byte is_run_byte b bar h refl) (other_byte is_run_byte b backslash h refl)) bs all

-- ---- the symbol that a token is

abbrev pub IsNamed : Item → List ℕ → Type 0
IsNamed item text = (m : Name) → symbol_by item text ≡ Some m → IsName m

word_named : (text : List ℕ) → IsName text → IsNamed Word text
word_named text is m h = go (is_reserved text) h
  where
    go : (b : Bool) → (if b then None else Some text) ≡ Some m → IsName m
    go true e = absurd cc
    go false e = let same : text ≡ m = cc in subst IsName same is

no_run : (text : List ℕ) → run_item text ≡ Some Quoted → ⊥
no_run text h = go (is_word text) (is_numeral text) (is_keyword text) (is_decimal text) (is_hexadecimal text) (is_binary text) h
  where
    go : (a b c d e f : Bool) → (if a then Some Word else (if b then Some Numeral else (if c then Some Keyword else (if d then Some Decimal else (if e then Some Hex else (if f then Some Bin else None)))))) ≡ Some Quoted → ⊥
    go true b c d e f h = cc
    go false true c d e f h = cc
    go false false true d e f h = cc
    go false false false true e f h = cc
    go false false false false true f h = cc
    go false false false false false true h = cc
    go false false false false false false h = cc

run_named : (item : Item) (text : List ℕ) → list_all is_run_byte text ≡ true → run_item text ≡ Some item → IsNamed item text
run_named Word text all is = word_named text (run_name text all)
run_named Quoted text all is = absurd (no_run text is)
run_named _ text all is = λ m h. absurd cc

abbrev domain_of : {A B : Type 0} → (A → B) → Type 0
domain_of {A} {B} f = A

-- what bytes may begin with
abbrev Beginning : Type 0
Beginning = domain_of front_length

abbrev token_of : Item → ℕ → List ℕ → Token
token_of item p text = record { item = item; start = p; text = text }

-- a token that is read again, whose symbol can stand between bars
record IsGood (item : Item) (text : List ℕ) : Type 0 where
  lexeme : IsLexeme item text
  named : IsNamed item text

-- bytes that begin so: with a fault, with nothing that counts, or with a token
data Found (f : Beginning) (bytes : List ℕ) : Type 0 where
  fails : ((p : ℕ) (ts : Lexed) → (e : Fault) × (lexed f p bytes ts ≡ faulty e)) → Found f bytes
  skips : ((p : ℕ) (ts : Lexed) → lexed f p bytes ts ≡ ts) → Found f bytes
  takes : (item : Item) (n : ℕ) → ((p : ℕ) (ts : Lexed) → lexed f p bytes ts ≡ next (token_of item p (take n bytes)) ts) → (front bytes ≡ f → IsGood item (take n bytes)) → Found f bytes

by_test : (t : Bool) (x y : Beginning) (bytes : List ℕ) → (t ≡ true → Found x bytes) → (t ≡ false → Found y bytes) → Found (if t then x else y) bytes
by_test true x y bytes here others = here refl
by_test false x y bytes here others = others refl

no_symbol : (item : Item) (text : List ℕ) → ((m : Name) → symbol_by item text ≡ Some m → ⊥) → IsNamed item text
no_symbol item text never m h = absurd (never m h)

left_found : (bytes : List ℕ) → Found (front (left_parenthesis ∷ [])) bytes
left_found bytes = takes Left 1 (λ p ts. refl) (λ same. record { lexeme = lexeme_of_front bytes Left 1 same; named = no_symbol Left (take 1 bytes) (λ m h. cc) })

right_found : (bytes : List ℕ) → Found (front (right_parenthesis ∷ [])) bytes
right_found bytes = takes Right 1 (λ p ts. refl) (λ same. record { lexeme = lexeme_of_front bytes Right 1 same; named = no_symbol Right (take 1 bytes) (λ m h. cc) })

unread_found : (bytes : List ℕ) → Found (front []) bytes
unread_found bytes = fails (λ p ts. (bad_byte (p + 0), refl))

literal_found : (o : Option ℕ) (bytes : List ℕ) → Found (literal_by o) bytes
literal_found None bytes = fails (λ p ts. (open_text p, refl))
literal_found (Some n) bytes =
    takes Text (suc n) (λ p ts. refl) (λ same. record { lexeme = lexeme_of_front bytes Text (suc n) same; named = no_symbol Text (take (suc n) bytes) (λ m h. cc) })

run_found : (o : Option Item) (n : ℕ) (bytes : List ℕ) → run_item (take n bytes) ≡ o → list_all is_run_byte (take n bytes) ≡ true → Found (run_by o n) bytes
run_found None n bytes is all = fails (λ p ts. (bad_token p, refl))
run_found (Some item) n bytes is all = takes item n (λ p ts. refl) (λ same. record { lexeme = lexeme_of_front bytes item n same; named = run_named item (take n bytes) all is })

quoted_named : (name : Name) → IsName name → IsNamed Quoted (bar ∷ (name ++ bar ∷ []))
quoted_named name is m h =
    let text : List ℕ = bar ∷ (name ++ bar ∷ []) in
    let inside : length text - 2 ≡ length name = omega (arith, length-append name (bar ∷ [])) in
    let whole : symbol_by Quoted text ≡ Some name = ap Some (ap (λ n. take n (name ++ bar ∷ [])) inside ∙ take_at name (bar ∷ []) (length name) refl) in
    let same : name ≡ m = cc in
    subst IsName same is

abbrev no_bar : ℕ → Bool
no_bar b = not (eqb b bar)

abbrev no_backslash : ℕ → Bool
no_backslash b = not (eqb b backslash)

quoted_found : (bs : List ℕ) → Found (quoted_front bs) (bar ∷ bs)
quoted_found bs =
    let inside = length_while no_bar bs in
    let clean = length_while no_backslash (take inside bs) in
    elim (eqb_tells inside (length bs)) [
      | inl open_one ↦ fails (λ p ts. (open_text p, rw open_one.0 refl))
      | inr closed ↦ elim (true_or_false (nat_lt clean inside)) [
        | inl dirty ↦ fails (λ p ts. (bad_byte (p + suc clean), rw (closed.0, dirty) refl))
        | inr all_clean ↦
            let whole : length (take inside bs) ≡ inside = length-take-le inside bs (while_within no_bar bs) in
            let least = ltb-false clean inside all_clean in
            let most = while_within no_backslash (take inside bs) in
            let same_clean : clean ≡ length (take inside bs) = omega (arith, whole, least, most) in
            let second : list_all no_backslash (take inside bs) ≡ true =
            sym (ap (list_all no_backslash) (ap (λ n. take n (take inside bs)) same_clean ∙ take_all (length (take inside bs)) (take inside bs) (omega arith)))
            ∙ all_while no_backslash (take inside bs) in
            let name : IsName (take inside bs) = both_pass no_bar no_backslash (take inside bs) (all_while no_bar bs) second in
            let length_is : suc (suc inside) ≡ inside + 2 = omega arith in
            let text : bar ∷ (take inside bs ++ bar ∷ []) ≡ take (inside + 2) (bar ∷ bs) =
            sym (ap (λ n. take n (bar ∷ bs)) (sym length_is) ∙ ap (λ xs. bar ∷ xs) (while_stops bar bs closed.1)) in
            takes Quoted (inside + 2) (λ p ts. rw (closed.0, all_clean) refl) (λ same. record {
              lexeme = lexeme_of_front (bar ∷ bs) Quoted (inside + 2) (same ∙ rw (closed.0, all_clean) refl);
              named = subst (IsNamed Quoted) text (quoted_named (take inside bs) name);
            })
      ]
    ]

-- the tests one behind the other
abbrev from_run : ℕ → List ℕ → Beginning
from_run b bs = if is_run_byte b then run_front (b ∷ bs) else front []

abbrev from_blank : ℕ → List ℕ → Beginning
from_blank b bs = if is_blank b then front (space ∷ []) else from_run b bs

abbrev from_bar : ℕ → List ℕ → Beginning
from_bar b bs = if eqb b bar then quoted_front bs else from_blank b bs

abbrev from_quote : ℕ → List ℕ → Beginning
from_quote b bs = if eqb b quote then literal_front bs else from_bar b bs

abbrev from_comment : ℕ → List ℕ → Beginning
from_comment b bs = if eqb b semicolon then front (semicolon ∷ bs) else from_quote b bs

abbrev from_right : ℕ → List ℕ → Beginning
from_right b bs = if eqb b right_parenthesis then front (right_parenthesis ∷ []) else from_comment b bs

module _ (b : ℕ) (bs : List ℕ) where
  run_begins : Found (from_run b bs) (b ∷ bs)
  run_begins =
      by_test (is_run_byte b) (run_front (b ∷ bs)) (front []) (b ∷ bs)
      (λ is. run_found (run_item (take (length_while is_run_byte (b ∷ bs)) (b ∷ bs))) (length_while is_run_byte (b ∷ bs)) (b ∷ bs) refl (all_while is_run_byte (b ∷ bs))) (λ other. unread_found (b ∷ bs))

  blank_begins : Found (from_blank b bs) (b ∷ bs)
  blank_begins = by_test (is_blank b) (front (space ∷ [])) (from_run b bs) (b ∷ bs) (λ is. skips (λ p ts. refl)) (λ other. run_begins)

  bar_begins : Found (from_bar b bs) (b ∷ bs)
  bar_begins = by_test (eqb b bar) (quoted_front bs) (from_blank b bs) (b ∷ bs) (λ is. subst (λ c. Found (quoted_front bs) (c ∷ bs)) (sym (eqb-true b bar is)) (quoted_found bs)) (λ other. blank_begins)

  quote_begins : Found (from_quote b bs) (b ∷ bs)
  quote_begins = by_test (eqb b quote) (literal_front bs) (from_bar b bs) (b ∷ bs) (λ is. literal_found (literal_length bs) (b ∷ bs)) (λ other. bar_begins)

  comment_begins : Found (from_comment b bs) (b ∷ bs)
  comment_begins = by_test (eqb b semicolon) (front (semicolon ∷ bs)) (from_quote b bs) (b ∷ bs) (λ is. skips (λ p ts. refl)) (λ other. quote_begins)

  right_begins : Found (from_right b bs) (b ∷ bs)
  right_begins = by_test (eqb b right_parenthesis) (front (right_parenthesis ∷ [])) (from_comment b bs) (b ∷ bs) (λ is. right_found (b ∷ bs)) (λ other. comment_begins)

  front_begins : Found (front (b ∷ bs)) (b ∷ bs)
  front_begins = by_test (eqb b left_parenthesis) (front (left_parenthesis ∷ [])) (from_right b bs) (b ∷ bs) (λ is. left_found (b ∷ bs)) (λ other. right_begins)

-- ---- tokens

abbrev AllGood : Lexed → Type 0
AllGood (ended n) = ⊤
AllGood (faulty fault) = ⊤
AllGood (next t ts) = IsGood t.item t.text × AllGood ts

found_good : (f : Beginning) (place : ℕ) (bytes : List ℕ) (behind : Lexed) → Found f bytes → front bytes ≡ f → AllGood behind → AllGood (lexed f place bytes behind)
found_good f place bytes behind (fails is) same good = subst AllGood (sym (is place behind).1) tt
found_good f place bytes behind (skips is) same good = subst AllGood (sym (is place behind)) good
found_good f place bytes behind (takes item n is here) same good = subst AllGood (sym (is place behind)) (here same, good)

lex_good : (place skip : ℕ) (bytes : List ℕ) → AllGood (lex_from place skip bytes)
lex_good place zero [] = tt
lex_good place (suc skip) [] = tt
lex_good place (suc skip) (b ∷ bs) = lex_good (suc place) skip bs
lex_good place zero (b ∷ bs) =
    found_good (front (b ∷ bs)) place (b ∷ bs) (lex_from (suc place) (front_length (front (b ∷ bs)) - 1) bs) (front_begins b bs) refl (lex_good (suc place) (front_length (front (b ∷ bs)) - 1) bs)

first_good : (n : ℕ) (ts : Lexed) → AllGood ts → AllGood (first_tokens n ts)
first_good zero ts good = tt
first_good (suc n) (ended m) good = tt
first_good (suc n) (faulty fault) good = tt
first_good (suc n) (next t ts) good = (good.0, first_good n ts good.1)

exit_good : (depth : ℕ) (ts : Lexed) → AllGood ts → AllGood (to_exit depth ts)
exit_good depth (ended n) good = tt
exit_good depth (faulty fault) good = tt
exit_good depth (next t ts) good = elim (true_or_false (eqb depth 0 && begins_with_exit (next t ts))) [
  | inl exit ↦ rw exit (first_good 3 (next t ts) good)
  | inr further ↦ rw further (good.0, exit_good (depth_after t.item depth) ts good.1)
]

abbrev AreGood : List Token → Type 0
AreGood [] = ⊤
AreGood (t ∷ ts) = IsGood t.item t.text × AreGood ts

pub with_token_some : (t : Token) (r : Result (List Token) Fault) (us : List Token) → with_token t r ≡ Ok us → (vs : List Token) × (r ≡ Ok vs) × (us ≡ t ∷ vs)
with_token_some t (Ok vs) us h = (vs, refl, let e : t ∷ vs ≡ us = cc in sym e)
with_token_some t (Err fault) us h = absurd (cc)

balanced_good : (depth : ℕ) (ts : Lexed) (us : List Token) → AllGood ts → balanced depth ts ≡ Ok us → AreGood us
balanced_good zero (ended n) us good is = let nothing : [] ≡ us = cc in subst AreGood nothing tt
balanced_good (suc depth) (ended n) us good is = absurd (cc)
balanced_good zero (faulty fault) us good is = absurd (cc)
balanced_good (suc depth) (faulty fault) us good is = absurd (cc)
balanced_good depth (next t ts) us good is = elim (true_or_false (is_right t.item && eqb depth 0)) [
  | inl over ↦ absurd (let e = rw over at is in cc)
  | inr goes ↦
      let behind = with_token_some t (balanced (depth_after t.item depth) ts) us (rw goes at is) in
      subst AreGood (sym behind.2) (good.0, balanced_good (depth_after t.item depth) ts behind.0 good.1 behind.1)
]

-- ---- forms

abbrev mutual
  -- each symbol of the form can stand between bars
  pub AreNamed : Form → Type 0
  AreNamed (atom t) = (m : Name) → symbol_of t ≡ Some m → IsName m
  AreNamed (node place fs) = AllNamed fs

  pub AllNamed : Forms → Type 0
  AllNamed none = ⊤
  AllNamed (f ⨾ fs) = AreNamed f × AllNamed fs

record GoodForms (fs : Forms) : Type 0 where
  written : AreWritten fs
  named : AllNamed fs

abbrev GoodAround : List Forms → Type 0
GoodAround [] = ⊤
GoodAround (fs ∷ around) = GoodForms fs × GoodAround around

GoodRest : Forms × List Forms → Type 0
GoodRest r = GoodForms r.0 × GoodAround r.1

no_forms : GoodForms none
no_forms = record { written = tt; named = tt }

atom_good : (t : Token) (fs : Forms) → IsInner t.item → IsGood t.item t.text → GoodForms fs → GoodForms (atom t ⨾ fs)
atom_good t fs inner good others = record { written = ((inner, good.lexeme), others.written); named = (good.named, others.named) }

before_good : (item : Item) (t : Token) (fs : Forms) (around : List Forms) → (IsInner item → IsInner t.item) → IsGood t.item t.text → GoodForms fs → GoodAround around → GoodRest (before item t (fs, around))
unfolding GoodRest
before_good Left t fs [] inner good first others = (record { written = (first.written, tt); named = (first.named, tt) }, tt)
before_good Left t fs (gs ∷ around) inner good first others = (record { written = (first.written, others.0.written); named = (first.named, others.0.named) }, others.1)
before_good Right t fs around inner good first others = (no_forms, (first, others))
before_good item t fs around inner good first others = (atom_good t fs (inner tt) good first, others)

rest_good : (ts : List Token) → AreGood ts → GoodRest (rest ts)
unfolding GoodRest
rest_good [] good = (no_forms, tt)
rest_good (t ∷ ts) good = let further : GoodRest (rest ts) = rest_good ts good.1 in before_good t.item t (rest ts).0 (rest ts).1 (λ inner. inner) good.0 further.0 further.1

tokens_good : (r : Result (List Token) Fault) (fs : Forms) → ((ts : List Token) → r ≡ Ok ts → AreGood ts) → as_forms r ≡ Ok fs → GoodForms fs
unfolding GoodRest
tokens_good (Ok ts) fs good is = let same : (rest ts).0 ≡ fs = cc in subst GoodForms same (rest_good ts (good ts refl)).0
tokens_good (Err fault) fs good is = absurd cc

text_good : (b : List ℕ) (fs : Forms) → forms_to_exit b ≡ Ok fs → GoodForms fs
text_good b fs is = tokens_good (balanced 0 (to_exit 0 (lex b))) fs (λ ts h. balanced_good 0 (to_exit 0 (lex b)) ts (exit_good 0 (lex b) (lex_good 0 0 b)) h) is

pub text_written : (b : List ℕ) (fs : Forms) → forms_to_exit b ≡ Ok fs → AreWritten fs
text_written b fs is = (text_good b fs is).written

-- ---- the names of a text

abbrev pub NamesFit : List Name → Type 0
NamesFit ns = (n : Name) → name_among ns n ≡ true → IsName n

one_more : (ns : List Name) (o : Option Name) → ((m : Name) → o ≡ Some m → IsName m) → NamesFit ns → NamesFit (with_name ns o)
one_more ns None new fit = fit
one_more ns (Some m) new fit = go (is_among ns m)
  where
    go : (b : Bool) → NamesFit (cond b ns (ns ++ m ∷ []))
    go true = fit
    go false = λ n among. elim (either_true (name_among ns n) (name_among (m ∷ []) n) (sym (name_among-append ns (m ∷ []) n) ∙ among)) [
      | inl before ↦ fit n before
      | inr last ↦ elim (either_true (name_eq m n) false last) [ inl same ↦ subst IsName (name_same m n same) (new m refl) | inr wrong ↦ absurd cc ]
    ]

mutual
  names_fit : (f : Form) (ns : List Name) → AreNamed f → NamesFit ns → NamesFit (names_with ns f)
  names_fit (atom t) ns named fit = one_more ns (symbol_of t) named fit
  names_fit (node place fs) ns named fit = all_fit fs ns named fit

  all_fit : (fs : Forms) (ns : List Name) → AllNamed fs → NamesFit ns → NamesFit (names_with_all ns fs)
  all_fit none ns named fit = fit
  all_fit (f ⨾ fs) ns named fit = all_fit fs (names_with ns f) named.1 (names_fit f ns named.0 fit)

pub text_names : (b : List ℕ) (fs : Forms) → forms_to_exit b ≡ Ok fs → NamesFit (names_with_all [] fs)
text_names b fs is = all_fit fs [] (text_good b fs is).named (λ n h. absurd cc)
