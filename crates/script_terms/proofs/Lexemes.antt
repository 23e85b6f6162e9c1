-- What the text of a token is, by its kind.
use Rattle.std.proofs.Common.{◌≡◌, ℕ, zero, suc, ◌+◌, ◌-◌, ◌<◌, ◌≤◌, ◌⊎◌, inl, inr, Bool, true, false, eqb, not, Option, Some, None, List, [], ◌∷◌, ◌++◌, length, take, Result, Ok, Err, refl, ap, sym, ◌∙◌, subst, arith, if◌then◌else◌}
use Rattle.std.specs.Prelude.{◌&&◌, nat_lt}
use Rattle.std.specs.List.{list_all}
use Rattle.std.proofs.lemmas.List.{length-take-le, take_all, take_at, length-append}
use Rattle.std.proofs.lemmas.Bool.{ltb-false}
use Rattle.std.proofs.lemmas.Bool.Decides.{eqb_tells}
use Rattle.smt_lex.specs.declared.items.Item.{Item}
use Rattle.smt_lex.specs.declared.items.Item.TheVariants.{Left, Right, Numeral, Decimal, Hex, Bin, Text, Word, Quoted, Keyword}
use Rattle.smt_lex.specs.declared.items.Until.TheVariants.{Exit}
use Rattle.smt_lex.specs.Lexicon.{left_parenthesis, right_parenthesis, semicolon, bar, backslash, quote, is_blank, is_symbol_byte, is_run_byte, is_some_of, is_word, is_numeral, is_keyword, is_decimal, is_hexadecimal, is_binary, starts_as, length_while, run_item}
use Rattle.smt_lex.specs.Names.{Name, IsName, is_reserved}
use Rattle.smt_lex.specs.Lex.{literal_length, literal_by, quoted_front, run_by, front, front_length, lexed, lex_from, lex, name_by, symbol_by, symbol_of, Token, Fault, Lexed, ended, faulty, next}
use Rattle.smt_lex.specs.Forms.{is_right, depth_after, with_token, balanced, first_tokens, begins_with_exit, to_exit, tokens_of}
use Rattle.smt_lex.specs.Forest.{token_at}
use Rattle.smt_lex.proofs.Printing.{front_run}
use Rattle.smt_values.specs.SortIds.{IsPlain}

tell : (b : Bool) → (b ≡ true) ⊎ (b ≡ false)
tell true = inl refl
tell false = inr refl

and_left : (a b : Bool) → (a && b) ≡ true → a ≡ true
and_left true b h = refl
and_left false b h = h

and_right : (a b : Bool) → (a && b) ≡ true → b ≡ true
and_right true b h = h
and_right false b h = absurd (cc)

abbrev pub Lexical : Item → List ℕ → Type 0
Lexical Word text = is_word text ≡ true
Lexical Quoted text = IsName (name_by Quoted text)
Lexical Numeral text = is_numeral text ≡ true
Lexical Hex text = is_hexadecimal text ≡ true
Lexical Bin text = is_binary text ≡ true
Lexical _ text = Unit {0}

-- the same, and parentheses are themselves
abbrev pub Written : Item → List ℕ → Type 0
Written Left text = text ≡ left_parenthesis ∷ []
Written Right text = text ≡ right_parenthesis ∷ []
Written item text = Lexical item text

written_lexical : (item : Item) (text : List ℕ) → Written item text → Lexical item text
written_lexical Left text h = tt
written_lexical Right text h = tt
written_lexical Numeral text h = h
written_lexical Decimal text h = h
written_lexical Hex text h = h
written_lexical Bin text h = h
written_lexical Text text h = h
written_lexical Word text h = h
written_lexical Quoted text h = h
written_lexical Keyword text h = h

-- ---- runs

run_lexical : (run : List ℕ) (item : Item) → run_item run ≡ Some item → Written item run
run_lexical run item is = elim (tell (is_word run)) [
  | inl word ↦ let h : Some Word ≡ Some item = rw word at is in let same : Word ≡ item = cc in subst (λ item. Written item run) same word
  | inr no_word ↦ elim (tell (is_numeral run)) [
    | inl numeral ↦ let h : Some Numeral ≡ Some item = rw (no_word, numeral) at is in let same : Numeral ≡ item = cc in subst (λ item. Written item run) same numeral
    | inr no_numeral ↦ elim (tell (is_keyword run)) [
      | inl keyword ↦ let h : Some Keyword ≡ Some item = rw (no_word, no_numeral, keyword) at is in let same : Keyword ≡ item = cc in subst (λ item. Written item run) same tt
      | inr no_keyword ↦ elim (tell (is_decimal run)) [
        | inl decimal ↦ let h : Some Decimal ≡ Some item = rw (no_word, no_numeral, no_keyword, decimal) at is in let same : Decimal ≡ item = cc in subst (λ item. Written item run) same tt
        | inr no_decimal ↦ elim (tell (is_hexadecimal run)) [
          | inl hexadecimal ↦ let h : Some Hex ≡ Some item = rw (no_word, no_numeral, no_keyword, no_decimal, hexadecimal) at is in let same : Hex ≡ item = cc in subst (λ item. Written item run) same hexadecimal
          | inr no_hexadecimal ↦ elim (tell (is_binary run)) [
            | inl binary ↦ let h : Some Bin ≡ Some item = rw (no_word, no_numeral, no_keyword, no_decimal, no_hexadecimal, binary) at is in let same : Bin ≡ item = cc in subst (λ item. Written item run) same binary
            | inr no_binary ↦ let h : None ≡ Some item = rw (no_word, no_numeral, no_keyword, no_decimal, no_hexadecimal, no_binary) at is in absurd (cc)
          ]
        ]
      ]
    ]
  ]
]

-- ---- quoted symbols

all_while : (test : ℕ → Bool) (bs : List ℕ) → list_all test (take (length_while test bs) bs) ≡ true
all_while test [] = refl
all_while test (b ∷ bs) = elim (tell (test b)) [
  | inl passes ↦ rw passes (rw passes (all_while test bs))
  | inr fails ↦ rw fails refl
]

while_within : (test : ℕ → Bool) (bs : List ℕ) → length_while test bs ≤ length bs
while_within test [] = omega arith
while_within test (b ∷ bs) = elim (tell (test b)) [
  | inl passes ↦ let further = while_within test bs in rw passes (omega (arith, further))
  | inr fails ↦ rw fails (omega arith)
]

-- what stands at the first byte that fails
while_stops : (stop : ℕ) (bs : List ℕ) → (length_while (λ b. not (eqb b stop)) bs ≡ length bs → ⊥)
    → take (suc (length_while (λ b. not (eqb b stop)) bs)) bs ≡ take (length_while (λ b. not (eqb b stop)) bs) bs ++ stop ∷ []
while_stops stop [] some = absurd (some refl)
while_stops stop (b ∷ bs) some = elim (eqb_tells b stop) [
  | inl same ↦ rw same.0 (ap (λ b. b ∷ []) same.1)
  | inr differs ↦ rw differs.0 (ap (λ xs. b ∷ xs) (while_stops stop bs (λ all. some (rw differs.0 (ap suc all)))))
]

both : (p q : ℕ → Bool) (bs : List ℕ) → list_all p bs ≡ true → list_all q bs ≡ true → list_all (λ b. p b && q b) bs ≡ true
both p q [] ps qs = refl
both p q (b ∷ bs) ps qs = rw (and_left (p b) (list_all p bs) ps, and_left (q b) (list_all q bs) qs) (both p q bs (and_right (p b) (list_all p bs) ps) (and_right (q b) (list_all q bs) qs))

between_bars : (name : Name) → name_by Quoted (bar ∷ (name ++ bar ∷ [])) ≡ name
between_bars name =
    let size = length-append name (bar ∷ []) in
    let inside : suc (length (name ++ bar ∷ [])) - 2 ≡ length name = omega (arith, size) in
    ap (λ n. take n (name ++ bar ∷ [])) inside ∙ take_at name (bar ∷ []) (length name) refl

-- ---- all tokens of a text

abbrev HoldsLexical : Lexed → Type 0
HoldsLexical (ended n) = Unit {0}
HoldsLexical (faulty fault) = Unit {0}
HoldsLexical (next t ts) = Written t.item t.text × HoldsLexical ts

abbrev AreLexical : List Token → Type 0
AreLexical [] = Unit {0}
AreLexical (t ∷ ts) = Written t.item t.text × AreLexical ts

module _ (place : ℕ) (behind : ℕ → Lexed) (holds : (k : ℕ) → HoldsLexical (behind k)) where
  literal_holds : (bytes : List ℕ) (o : Option ℕ) → HoldsLexical (lexed (literal_by o) place bytes (behind (front_length (literal_by o) - 1)))
  literal_holds bytes None = tt
  literal_holds bytes (Some n) = (tt, holds _)

  run_holds : (bytes : List ℕ) (o : Option Item) (n : ℕ) → run_item (take n bytes) ≡ o → HoldsLexical (lexed (run_by o n) place bytes (behind (front_length (run_by o n) - 1)))
  run_holds bytes None n is = tt
  run_holds bytes (Some item) n is = (run_lexical (take n bytes) item is, holds _)

  quoted_holds : (bs : List ℕ) → HoldsLexical (lexed (quoted_front bs) place (bar ∷ bs) (behind (front_length (quoted_front bs) - 1)))
  quoted_holds bs =
      let inside = length_while (λ b. not (eqb b bar)) bs in
      let clean = length_while (λ b. not (eqb b backslash)) (take inside bs) in
      elim (eqb_tells inside (length bs)) [
        | inl open_one ↦ rw open_one.0 tt
        | inr closed ↦ elim (tell (nat_lt clean inside)) [
          | inl dirty ↦ rw (closed.0, dirty) tt
          | inr all_clean ↦
              let whole : length (take inside bs) ≡ inside = length-take-le inside bs (while_within (λ b. not (eqb b bar)) bs) in
              let least = ltb-false clean inside all_clean in
              let most = while_within (λ b. not (eqb b backslash)) (take inside bs) in
              let same_clean : clean ≡ length (take inside bs) = omega (arith, whole, least, most) in
              let no_backslash : list_all (λ b. not (eqb b backslash)) (take inside bs) ≡ true =
              sym (ap (list_all (λ b. not (eqb b backslash))) (ap (λ n. take n (take inside bs)) same_clean ∙ take_all (length (take inside bs)) (take inside bs) (omega arith)))
              ∙ all_while (λ b. not (eqb b backslash)) (take inside bs) in
              let name : IsName (take inside bs) = both (λ b. not (eqb b bar)) (λ b. not (eqb b backslash)) (take inside bs) (all_while (λ b. not (eqb b bar)) bs) no_backslash in
              let length_is : suc (suc inside) ≡ inside + 2 = omega arith in
              let text : bar ∷ (take inside bs ++ bar ∷ []) ≡ take (inside + 2) (bar ∷ bs) =
              sym (ap (λ n. take n (bar ∷ bs)) (sym length_is) ∙ ap (λ xs. bar ∷ xs) (while_stops bar bs closed.1)) in
              rw (closed.0, all_clean) (subst (Lexical Quoted) text (subst IsName (sym (between_bars (take inside bs))) name), holds _)
        ]
      ]

  abbrev Holds : ℕ → List ℕ → Type 0
  Holds b bs = HoldsLexical (lexed (front (b ∷ bs)) place (b ∷ bs) (behind (front_length (front (b ∷ bs)) - 1)))

  front_holds : (b : ℕ) (bs : List ℕ) → Holds b bs
  front_holds b bs = elim (eqb_tells b left_parenthesis) [
    | inl here ↦ rw here.0 (ap (λ c. c ∷ []) here.1, holds _)
    | inr no_left ↦ elim (eqb_tells b right_parenthesis) [
      | inl here ↦ rw (no_left.0, here.0) (ap (λ c. c ∷ []) here.1, holds _)
      | inr no_right ↦ elim (eqb_tells b semicolon) [
        | inl here ↦ rw (no_left.0, no_right.0, here.0) (holds _)
        | inr no_comment ↦ elim (eqb_tells b quote) [
          | inl here ↦ rw (no_left.0, no_right.0, no_comment.0, here.0) (literal_holds (b ∷ bs) (literal_length bs))
          | inr no_quote ↦ elim (eqb_tells b bar) [
            | inl here ↦ subst (λ b. Holds b bs) (sym here.1) (quoted_holds bs)
            | inr no_bar ↦ elim (tell (is_blank b)) [
              | inl blank ↦ rw (no_left.0, no_right.0, no_comment.0, no_quote.0, no_bar.0, blank) (holds _)
              | inr no_blank ↦ elim (tell (is_run_byte b)) [
                | inl runs ↦
                    subst (λ f. HoldsLexical (lexed f place (b ∷ bs) (behind (front_length f - 1)))) (sym (front_run b bs runs))
                    (run_holds (b ∷ bs) (run_item (take (length_while is_run_byte (b ∷ bs)) (b ∷ bs))) (length_while is_run_byte (b ∷ bs)) refl)
                | inr no_run ↦ rw (no_left.0, no_right.0, no_comment.0, no_quote.0, no_bar.0, no_blank, no_run) tt
              ]
            ]
          ]
        ]
      ]
    ]
  ]

lex_holds : (place skip : ℕ) (bytes : List ℕ) → HoldsLexical (lex_from place skip bytes)
lex_holds place zero [] = tt
lex_holds place (suc skip) [] = tt
lex_holds place (suc skip) (b ∷ bs) = lex_holds (suc place) skip bs
lex_holds place zero (b ∷ bs) = front_holds place (λ k. lex_from (suc place) k bs) (λ k. lex_holds (suc place) k bs) b bs

first_holds : (n : ℕ) (ts : Lexed) → HoldsLexical ts → HoldsLexical (first_tokens n ts)
first_holds zero ts holds = tt
first_holds (suc n) (ended m) holds = tt
first_holds (suc n) (faulty fault) holds = tt
first_holds (suc n) (next t ts) holds = (holds.0, first_holds n ts holds.1)

exit_holds : (depth : ℕ) (ts : Lexed) → HoldsLexical ts → HoldsLexical (to_exit depth ts)
exit_holds depth (ended n) holds = tt
exit_holds depth (faulty fault) holds = tt
exit_holds depth (next t ts) holds = elim (tell (eqb depth 0 && begins_with_exit (next t ts))) [
  | inl exit ↦ rw exit (first_holds 3 (next t ts) holds)
  | inr further ↦ rw further (holds.0, exit_holds (depth_after t.item depth) ts holds.1)
]

with_token_ok : (t : Token) (r : Result (List Token) Fault) (us : List Token) → with_token t r ≡ Ok us → (vs : List Token) × (r ≡ Ok vs) × (us ≡ t ∷ vs)
with_token_ok t (Ok vs) us h = (vs, refl, cc)
with_token_ok t (Err fault) us h = absurd (cc)

balanced_holds : (depth : ℕ) (ts : Lexed) (us : List Token) → HoldsLexical ts → balanced depth ts ≡ Ok us → AreLexical us
balanced_holds zero (ended n) us holds is = let none : [] ≡ us = cc in subst AreLexical none tt
balanced_holds (suc depth) (ended n) us holds is = absurd (cc)
balanced_holds zero (faulty fault) us holds is = absurd (cc)
balanced_holds (suc depth) (faulty fault) us holds is = absurd (cc)
balanced_holds depth (next t ts) us holds is = elim (tell (is_right t.item && eqb depth 0)) [
  | inl over ↦ absurd (let e = rw over at is in cc)
  | inr goes ↦
      let behind = with_token_ok t (balanced (depth_after t.item depth) ts) us (rw goes at is) in
      subst AreLexical (sym behind.2) (holds.0, balanced_holds (depth_after t.item depth) ts behind.0 holds.1 behind.1)
]

lexical_at : (ts : List Token) (i : ℕ) → AreLexical ts → Lexical (token_at ts i).item (token_at ts i).text
lexical_at [] i all = tt
lexical_at (t ∷ ts) zero all = written_lexical t.item t.text all.0
lexical_at (t ∷ ts) (suc i) all = lexical_at ts i all.1

written_at : (ts : List Token) (i : ℕ) → AreLexical ts → i < length ts → Written (token_at ts i).item (token_at ts i).text
written_at [] i all within = absurd (omega arith)
written_at (t ∷ ts) zero all within = all.0
written_at (t ∷ ts) (suc i) all within = written_at ts i all.1 (omega arith)

-- each token of a text is of its kind
module _ (bytes : List ℕ) (ts : List Token) (i : ℕ) (is : tokens_of Exit bytes ≡ Ok ts) where
  all_lexical : AreLexical ts
  all_lexical = balanced_holds 0 (to_exit 0 (lex bytes)) ts (exit_holds 0 (lex bytes) (lex_holds 0 0 bytes)) is

  pub lexical : Lexical (token_at ts i).item (token_at ts i).text
  lexical = lexical_at ts i all_lexical

  pub written : i < length ts → Written (token_at ts i).item (token_at ts i).text
  written within = written_at ts i all_lexical within

-- ---- names

all_weaker : (p q : ℕ → Bool) → ((b : ℕ) → p b ≡ true → q b ≡ true) → (bs : List ℕ) → list_all p bs ≡ true → list_all q bs ≡ true
all_weaker p q weaker [] all = refl
all_weaker p q weaker (b ∷ bs) all = rw (weaker b (and_left (p b) (list_all p bs) all)) (all_weaker p q weaker bs (and_right (p b) (list_all p bs) all))

other_byte : (test : ℕ → Bool) (b c : ℕ) → test b ≡ true → test c ≡ false → eqb b c ≡ false
other_byte test b c passes fails = elim (eqb_tells b c) [ inl same ↦ absurd (cc (passes, fails, ap test same.1)) | inr differs ↦ differs.0 ]

plain_byte : (b : ℕ) → is_symbol_byte b ≡ true → (not (eqb b 124) && not (eqb b 92)) ≡ true
plain_byte b symbol = rw (other_byte is_symbol_byte b 124 symbol refl, other_byte is_symbol_byte b 92 symbol refl) refl

word_plain : (text : List ℕ) → is_word text ≡ true → IsPlain text
word_plain text word =
    let some = and_right (not (starts_as _ text)) (is_some_of is_symbol_byte text) word in
    all_weaker is_symbol_byte (λ b. not (eqb b 124) && not (eqb b 92)) plain_byte text (and_left (list_all is_symbol_byte text) (not (eqb (length text) 0)) some)

word_symbol : (b : Bool) (text n : List ℕ) → (if b then None else Some text) ≡ Some n → text ≡ n
word_symbol true text n is = absurd (cc)
word_symbol false text n is = cc

symbol_is_plain : (item : Item) (text : List ℕ) (n : Name) → Lexical item text → symbol_by item text ≡ Some n → IsPlain n
symbol_is_plain Word text n word is = subst IsPlain (word_symbol (is_reserved text) text n is) (word_plain text word)
symbol_is_plain Quoted text n name is = let same : name_by Quoted text ≡ n = cc in subst IsPlain same name
symbol_is_plain Left text n lexical is = absurd (cc)
symbol_is_plain Right text n lexical is = absurd (cc)
symbol_is_plain Numeral text n lexical is = absurd (cc)
symbol_is_plain Decimal text n lexical is = absurd (cc)
symbol_is_plain Hex text n lexical is = absurd (cc)
symbol_is_plain Bin text n lexical is = absurd (cc)
symbol_is_plain Text text n lexical is = absurd (cc)
symbol_is_plain Keyword text n lexical is = absurd (cc)

-- the symbols of a text have plain names
pub symbol_plain : (bytes : List ℕ) (ts : List Token) (i : ℕ) (n : Name) → tokens_of Exit bytes ≡ Ok ts → symbol_of (token_at ts i) ≡ Some n → IsPlain n
symbol_plain bytes ts i n is symbol = symbol_is_plain (token_at ts i).item (token_at ts i).text n (lexical bytes ts i is) symbol
