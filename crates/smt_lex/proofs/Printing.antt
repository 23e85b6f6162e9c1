-- A printed symbol is one token.
use Rattle.std.proofs.Common.{◌≡◌, ℕ, suc, ◌+◌, ◌-◌, ◌<◌, inl, inr, Bool, true, false, eqb, ltb, not, Some, List, [], ◌∷◌, ◌++◌, length, take, refl, ap, sym, ◌∙◌, subst, arith, append-nil, length-append}
use Rattle.std.specs.Prelude.{◌&&◌}
use Rattle.std.specs.List.{list_all}
use Rattle.std.specs.Char.{is_ascii_digit}
use Rattle.std.proofs.lemmas.List.{take_at, take_all}
use Rattle.std.proofs.lemmas.Bool.{ne_eqb, le-ltb}
use Rattle.std.proofs.lemmas.Bool.Decides.{eqb_tells}
use Rattle.smt_lex.proofs.Choices.{tell, and_left, and_right}
use Rattle.smt_lex.specs.declared.items.Item.{Item}
use Rattle.smt_lex.specs.declared.items.Item.TheVariants.{Word, Quoted}
use Rattle.smt_lex.specs.declared.fronts.Front.TheVariants.{Lexeme}
use Rattle.smt_lex.specs.Lexicon.{left_parenthesis, right_parenthesis, semicolon, quote, bar, backslash, is_blank, is_symbol_byte, is_run_byte, is_word, is_some_of, starts_as, length_while, run_item}
use Rattle.smt_lex.specs.Names.{Name, is_reserved, is_simple, IsName, printed_symbol}
use Rattle.smt_lex.specs.Lex.{ended, next, front, run_front, run_by, lex, lex_at, symbol_by, IsOneSymbol}
use Rattle.smt_lex.specs.Building.{token}
use Rattle.smt_lex.proofs.Lexing.{lex_lexeme, lex_end}

-- where all bytes pass and the next one fails, so many pass
pub length_while-append : (test : ℕ → Bool) (bs rest : List ℕ) → list_all test bs ≡ true → starts_as test rest ≡ false → length_while test (bs ++ rest) ≡ length bs
length_while-append test [] [] all stops = refl
length_while-append test [] (c ∷ rest) all stops = rw stops refl
length_while-append test (b ∷ bs) rest all stops =
    let further = length_while-append test bs rest (and_right (test b) (list_all test bs) all) stops in
    rw (and_left (test b) (list_all test bs) all) (ap suc further)

list_all-weaker : (p q : ℕ → Bool) → ((b : ℕ) → p b ≡ true → q b ≡ true) → (bs : List ℕ) → list_all p bs ≡ true → list_all q bs ≡ true
list_all-weaker p q weaker [] all = refl
list_all-weaker p q weaker (b ∷ bs) all = rw (weaker b (and_left (p b) (list_all p bs) all)) (list_all-weaker p q weaker bs (and_right (p b) (list_all p bs) all))

-- a byte that passes a test is none that fails it
pub other_byte : (test : ℕ → Bool) (b c : ℕ) → test b ≡ true → test c ≡ false → eqb b c ≡ false
other_byte test b c passes fails = elim (eqb_tells b c) [ inl same ↦ absurd (cc (passes, fails, ap test same.1)) | inr differs ↦ differs.0 ]

pub not_blank : (b : ℕ) → is_run_byte b ≡ true → is_blank b ≡ false
not_blank b runs = rw (other_byte is_run_byte b 9 runs refl, other_byte is_run_byte b 10 runs refl, other_byte is_run_byte b 13 runs refl, other_byte is_run_byte b 32 runs refl) refl

pub run_byte : (b : ℕ) → is_symbol_byte b ≡ true → is_run_byte b ≡ true
run_byte b symbol = rw symbol refl

pub front_run : (b : ℕ) (bs : List ℕ) → is_run_byte b ≡ true → front (b ∷ bs) ≡ run_front (b ∷ bs)
front_run b bs runs =
    rw (
      other_byte is_run_byte b left_parenthesis runs refl,
      other_byte is_run_byte b right_parenthesis runs refl,
      other_byte is_run_byte b semicolon runs refl,
      other_byte is_run_byte b quote runs refl,
      other_byte is_run_byte b bar runs refl,
      not_blank b runs,
      runs,
    ) refl

pub run_is : (xs : List ℕ) (n : ℕ) (item : Item) → length_while is_run_byte xs ≡ n → run_item (take n xs) ≡ Some item → run_front xs ≡ Lexeme item n
run_is xs n item long is = ap (λ n. run_by (run_item (take n xs)) n) long ∙ ap (λ o. run_by o n) is

-- a run is one token where it doesn't go on
pub front_of_run : (run rest : List ℕ) (item : Item) → 0 < length run → list_all is_run_byte run ≡ true → starts_as is_run_byte rest ≡ false → run_item run ≡ Some item → front (run ++ rest) ≡ Lexeme item (length run)
front_of_run [] rest item some all stops is = absurd (omega arith)
front_of_run (b ∷ bs) rest item some all stops is =
    front_run b (bs ++ rest) (and_left (is_run_byte b) (list_all is_run_byte bs) all)
    ∙ run_is ((b ∷ bs) ++ rest) (length (b ∷ bs)) item (length_while-append is_run_byte (b ∷ bs) rest all stops)
    (ap run_item (take_at (b ∷ bs) rest (length (b ∷ bs)) refl) ∙ is)

some_bytes : (word : List ℕ) → is_word word ≡ true → 0 < length word
some_bytes [] word = absurd (cc)
some_bytes (b ∷ bs) word = omega arith

word_bytes : (word : List ℕ) → is_word word ≡ true → list_all is_run_byte word ≡ true
word_bytes word is = list_all-weaker is_symbol_byte is_run_byte run_byte word
    (and_left (list_all is_symbol_byte word) (not (eqb (length word) 0)) (and_right (not (starts_as is_ascii_digit word)) (is_some_of is_symbol_byte word) is))

pub front_word : (word rest : List ℕ) → is_word word ≡ true → starts_as is_run_byte rest ≡ false → front (word ++ rest) ≡ Lexeme Word (length word)
front_word word rest is stops = front_of_run word rest Word (some_bytes word is) (word_bytes word is) stops (rw is refl)

-- a name between bars is one token
pub front_quoted : (name rest : List ℕ) → IsName name → front (bar ∷ (name ++ bar ∷ rest)) ≡ Lexeme Quoted (length name + 2)
front_quoted name rest is =
    let no_bar : list_all (λ b. not (eqb b bar)) name ≡ true =
    list_all-weaker (λ b. not (eqb b bar) && not (eqb b backslash)) (λ b. not (eqb b bar)) (λ b h. and_left (not (eqb b bar)) (not (eqb b backslash)) h) name is in
    let no_backslash : list_all (λ b. not (eqb b backslash)) name ≡ true =
    list_all-weaker (λ b. not (eqb b bar) && not (eqb b backslash)) (λ b. not (eqb b backslash)) (λ b h. and_right (not (eqb b bar)) (not (eqb b backslash)) h) name is in
    let inside : length_while (λ b. not (eqb b bar)) (name ++ bar ∷ rest) ≡ length name = length_while-append (λ b. not (eqb b bar)) name (bar ∷ rest) no_bar refl in
    let clean : length_while (λ b. not (eqb b backslash)) (take (length name) (name ++ bar ∷ rest)) ≡ length name =
    ap (length_while (λ b. not (eqb b backslash))) (take_at name (bar ∷ rest) (length name) refl ∙ sym (append-nil name))
    ∙ length_while-append (λ b. not (eqb b backslash)) name [] no_backslash refl in
    let closed : eqb (length name) (length (name ++ bar ∷ rest)) ≡ false = ne_eqb _ _ (λ same. omega (arith, same, length-append name (bar ∷ rest))) in
    let all_clean : ltb (length name) (length name) ≡ false = le-ltb (length name) (length name) (omega arith) in
    rw inside (rw clean (rw (closed, all_clean) refl))

one_token : (text : List ℕ) (item : Item) → 0 < length text → front text ≡ Lexeme item (length text) → lex text ≡ next (token text item 0 (length text)) (ended (length text))
one_token text item some is =
    let place : 0 + length text ≡ length text = omega arith in
    lex_lexeme text 0 some item (length text) is some (omega arith)
    ∙ ap (λ n. next (token text item 0 n) (lex_at text n)) place ∙ ap (next (token text item 0 (length text))) (lex_end text)

whole : (text : List ℕ) → take (length text - 0) text ≡ text
whole text = take_all (length text - 0) text (omega arith)

not_true : (b : Bool) → not b ≡ true → b ≡ false
not_true true h = absurd (cc)
not_true false h = refl

simple_symbol : (name : Name) → is_word name ≡ true → not (is_reserved name) ≡ true → IsOneSymbol name name
simple_symbol name word free =
    let is : front name ≡ Lexeme Word (length name) = ap front (sym (append-nil name)) ∙ front_word name [] word refl in
    let unreserved : is_reserved name ≡ false = not_true (is_reserved name) free in
    (token name Word 0 (length name), one_token name Word (some_bytes name word) is, ap (symbol_by Word) (whole name) ∙ rw unreserved refl)

quoted_symbol : (name : Name) → IsName name → IsOneSymbol (bar ∷ (name ++ bar ∷ [])) name
quoted_symbol name is =
    let text = bar ∷ (name ++ bar ∷ []) in
    let long : length name + 2 ≡ length text = omega (arith, length-append name (bar ∷ [])) in
    let inside : length text - 2 ≡ length name = omega (arith, length-append name (bar ∷ [])) in (
      token text Quoted 0 (length text),
      one_token text Quoted (omega arith) (front_quoted name [] is ∙ ap (Lexeme Quoted) long),
      ap (symbol_by Quoted) (whole text) ∙ ap Some (ap (λ n. take n (name ++ bar ∷ [])) inside ∙ take_at name (bar ∷ []) (length name) refl),
    )

-- the printed symbol is one token, the symbol
pub one_symbol : (name : Name) → IsName name → IsOneSymbol (printed_symbol name) name
one_symbol name is = elim (tell (is_simple name)) [
  | inl simple ↦
      let word : is_word name ≡ true = and_left (is_word name) (not (is_reserved name)) simple in
      let free : not (is_reserved name) ≡ true = and_right (is_word name) (not (is_reserved name)) simple in
      let text : name ≡ printed_symbol name = sym (rw simple refl) in
      subst (λ text. IsOneSymbol text name) text (simple_symbol name word free)
  | inr quoted ↦
      let text : bar ∷ name ++ bar ∷ [] ≡ printed_symbol name = sym (rw quoted refl) in
      subst (λ text. IsOneSymbol text name) text (quoted_symbol name is)
]
