-- A token of a text is read again wherever something stands behind it that ends it.
use Rattle.std.proofs.Common.{◌≡◌, ℕ, zero, suc, ◌+◌, ◌-◌, ◌<◌, ◌≤◌, inl, inr, Bool, true, false, eqb, not, Option, Some, None, List, [], ◌∷◌, ◌++◌, length, take, Ok, refl, ap, sym, ◌∙◌, subst, arith}
use Rattle.std.specs.Prelude.{◌&&◌, ◌||◌, nat_lt}
use Rattle.std.specs.List.{list_all}
use Rattle.std.proofs.lemmas.List.{length-take-le, take_all}
use Rattle.std.proofs.lemmas.Bool.{ltb-false}
use Rattle.std.proofs.lemmas.Bool.Decides.{eqb_tells}
use Rattle.smt_lex.proofs.Choices.{tell, and_left, and_right}
use Rattle.smt_lex.specs.declared.items.Item.{Item}
use Rattle.smt_lex.specs.declared.items.Item.TheVariants.{Left, Right, Text, Quoted}
use Rattle.smt_lex.specs.declared.items.Until.{Until}
use Rattle.smt_lex.specs.declared.items.Until.TheVariants.{End, Exit}
use Rattle.smt_lex.specs.declared.fronts.Front.{Front}
use Rattle.smt_lex.specs.declared.fronts.Front.TheVariants.{Gap, Lexeme, BadByte, BadToken, OpenText}
use Rattle.smt_lex.specs.Lexicon.{left_parenthesis, right_parenthesis, semicolon, bar, backslash, quote, is_blank, is_run_byte, starts_as, length_while, run_item}
use Rattle.smt_lex.specs.Names.{IsName}
use Rattle.smt_lex.specs.Lex.{longer, literal_from, literal_length, literal_by, quoted_front, run_by, run_front, front, front_length, lexed, lex_from, lex, Token, Lexed, ended, faulty, next}
use Rattle.smt_lex.proofs.Printing.{front_run}
use Rattle.smt_lex.proofs.Joining.{Stops, IsLexeme, left_lexeme, right_lexeme, run_lexeme, quoted_lexeme, AreLexemes, spaced, placed, lex_spaced}
use Rattle.smt_lex.specs.Forms.{is_right, depth_after, balanced, first_tokens, begins_with_exit, to_exit, tokens_of}
use Rattle.smt_lex.proofs.Keeping.{with_token_ok}

longer_some : (a : ℕ) (o : Option ℕ) (m : ℕ) → longer a o ≡ Some m → (k : ℕ) × (o ≡ Some k) × (a + k ≡ m)
longer_some a None m is = absurd (cc)
longer_some a (Some k) m is = (k, refl, cc)

-- no quote goes on behind the literal
closed_here : (rest : List ℕ) → starts_as (λ b. eqb b quote) rest ≡ false → literal_from true rest ≡ Some 0
closed_here [] stops = refl
closed_here (c ∷ rest) stops = rw stops refl

literal_within : (pending : Bool) (bs : List ℕ) (m : ℕ) → literal_from pending bs ≡ Some m → m ≤ length bs
literal_within true [] m is = let none : 0 ≡ m = cc in omega (arith, none)
literal_within false [] m is = absurd (cc)
literal_within pending (b ∷ bs) m is = elim (tell (pending && not (eqb b quote))) [
  | inl closes ↦ let none : Some 0 ≡ Some m = rw closes at is in let zero_is : 0 ≡ m = cc in omega (arith, zero_is)
  | inr goes ↦
      let further = longer_some 1 (literal_from (not pending && eqb b quote) bs) m (rw goes at is) in
      let within = literal_within (not pending && eqb b quote) bs further.0 further.1 in
      omega (arith, within, further.2)
]

cut_literal : (pending : Bool) (bs rest : List ℕ) (m : ℕ) → literal_from pending bs ≡ Some m → starts_as (λ b. eqb b quote) rest ≡ false → literal_from pending (take m bs ++ rest) ≡ Some m
cut_literal true [] rest m is stops = let none : 0 ≡ m = cc in subst (λ m. literal_from true (take m [] ++ rest) ≡ Some m) none (closed_here rest stops)
cut_literal false [] rest m is stops = absurd (cc)
cut_literal pending (b ∷ bs) rest m is stops = elim (tell (pending && not (eqb b quote))) [
  | inl closes ↦
      let zero_some : Some 0 ≡ Some m = rw closes at is in
      let none : 0 ≡ m = cc in
      subst (λ m. literal_from pending (take m (b ∷ bs) ++ rest) ≡ Some m) none
      (ap (λ p. literal_from p rest) (and_left pending (not (eqb b quote)) closes) ∙ closed_here rest stops)
  | inr goes ↦
      let further = longer_some 1 (literal_from (not pending && eqb b quote) bs) m (rw goes at is) in
      let more : suc further.0 ≡ m = let h = further.2 in omega (arith, h) in
      let again = cut_literal (not pending && eqb b quote) bs rest further.0 further.1 stops in
      subst (λ m. literal_from pending (take m (b ∷ bs) ++ rest) ≡ Some m) more (rw goes (ap (longer 1) again ∙ ap Some (omega arith)))
]

stops_quote : (rest : List ℕ) → Stops rest → starts_as (λ b. eqb b quote) rest ≡ false
stops_quote [] stops = refl
stops_quote (b ∷ rest) stops = second (is_run_byte b) (eqb b quote) stops
  where
    second : (p q : Bool) → (p || q) ≡ false → q ≡ false
    second true q h = absurd (cc)
    second false q h = h

literal_lexeme : (bs : List ℕ) (m : ℕ) → literal_length bs ≡ Some m → IsLexeme Text (quote ∷ take m bs)
literal_lexeme bs m is = record {
  some = omega arith;
  front = λ rest stops.
      let size : m ≡ length (take m bs) = sym (length-take-le m bs (literal_within false bs m is)) in
      ap literal_by (cut_literal false bs rest m is (stops_quote rest stops)) ∙ ap (λ n. Lexeme Text (suc n)) size;
}

-- the bytes before the first that fails pass
pub all_while : (test : ℕ → Bool) (bs : List ℕ) → list_all test (take (length_while test bs) bs) ≡ true
all_while test [] = refl
all_while test (b ∷ bs) = elim (tell (test b)) [
  | inl passes ↦ rw passes (rw passes (all_while test bs))
  | inr fails ↦ rw fails refl
]

pub while_within : (test : ℕ → Bool) (bs : List ℕ) → length_while test bs ≤ length bs
while_within test [] = omega arith
while_within test (b ∷ bs) = elim (tell (test b)) [
  | inl passes ↦ let further = while_within test bs in rw passes (omega (arith, further))
  | inr fails ↦ rw fails (omega arith)
]

-- what stands at the first byte that fails
while_stops : (stop : ℕ) (bs : List ℕ) → (length_while (λ b. not (eqb b stop)) bs ≡ length bs → ⊥)
    → take (suc (length_while (λ b. not (eqb b stop)) bs)) bs ≡ take (length_while (λ b. not (eqb b stop)) bs) bs ++ stop ∷ []
while_stops stop [] some = absurd (some refl)
while_stops stop (b ∷ bs) some = elim (eqb_tells b stop) [
  | inl same ↦ rw same.0 (ap (λ b. b ∷ []) same.1)
  | inr differs ↦ rw differs.0 (ap (λ xs. b ∷ xs) (while_stops stop bs (λ all. some (rw differs.0 (ap suc all)))))
]

both : (p q : ℕ → Bool) (bs : List ℕ) → list_all p bs ≡ true → list_all q bs ≡ true → list_all (λ b. p b && q b) bs ≡ true
both p q [] ps qs = refl
both p q (b ∷ bs) ps qs = rw (and_left (p b) (list_all p bs) ps, and_left (q b) (list_all q bs) qs) (both p q bs (and_right (p b) (list_all p bs) ps) (and_right (q b) (list_all q bs) qs))

quoted_again : (bs : List ℕ) (item : Item) (n : ℕ) → quoted_front bs ≡ Lexeme item n → IsLexeme item (take n (bar ∷ bs))
quoted_again bs item n is =
    let inside = length_while (λ b. not (eqb b bar)) bs in
    let clean = length_while (λ b. not (eqb b backslash)) (take inside bs) in
    elim (eqb_tells inside (length bs)) [
      | inl open_one ↦ absurd (let h : OpenText ≡ Lexeme item n = rw open_one.0 at is in cc)
      | inr closed ↦ elim (tell (nat_lt clean inside)) [
        | inl dirty ↦ absurd (let h : BadByte (suc clean) ≡ Lexeme item n = rw (closed.0, dirty) at is in cc)
        | inr all_clean ↦
            let h : Lexeme Quoted (inside + 2) ≡ Lexeme item n = rw (closed.0, all_clean) at is in
            let same_item : Quoted ≡ item = cc in
            let same_length : inside + 2 ≡ n = cc in
            let whole : length (take inside bs) ≡ inside = length-take-le inside bs (while_within (λ b. not (eqb b bar)) bs) in
            let least = ltb-false clean inside all_clean in
            let most = while_within (λ b. not (eqb b backslash)) (take inside bs) in
            let same_clean : clean ≡ length (take inside bs) = omega (arith, whole, least, most) in
            let no_backslash : list_all (λ b. not (eqb b backslash)) (take inside bs) ≡ true =
            sym (ap (list_all (λ b. not (eqb b backslash))) (ap (λ n. take n (take inside bs)) same_clean ∙ take_all (length (take inside bs)) (take inside bs) (omega arith)))
            ∙ all_while (λ b. not (eqb b backslash)) (take inside bs) in
            let name : IsName (take inside bs) = both (λ b. not (eqb b bar)) (λ b. not (eqb b backslash)) (take inside bs) (all_while (λ b. not (eqb b bar)) bs) no_backslash in
            let length_is : suc (suc inside) ≡ n = omega (arith, same_length) in
            let text : bar ∷ (take inside bs ++ bar ∷ []) ≡ take n (bar ∷ bs) =
            sym (ap (λ n. take n (bar ∷ bs)) (sym length_is) ∙ ap (λ xs. bar ∷ xs) (while_stops bar bs closed.1)) in
            subst (λ item. IsLexeme item (take n (bar ∷ bs))) same_item (subst (IsLexeme Quoted) text (quoted_lexeme (take inside bs) name))
      ]
    ]

run_by_some : (o : Option Item) (m : ℕ) (item : Item) (n : ℕ) → run_by o m ≡ Lexeme item n → (o ≡ Some item) × (m ≡ n)
run_by_some (Some i) m item n is = (cc, cc)
run_by_some None m item n is = absurd (cc)

literal_by_some : (o : Option ℕ) (item : Item) (n : ℕ) → literal_by o ≡ Lexeme item n → (m : ℕ) × (o ≡ Some m) × (Text ≡ item) × (suc m ≡ n)
literal_by_some (Some m) item n is = (m, refl, cc, cc)
literal_by_some None item n is = absurd (cc)

run_again : (b : ℕ) (bs : List ℕ) (item : Item) (n : ℕ) → is_run_byte b ≡ true → run_front (b ∷ bs) ≡ Lexeme item n → IsLexeme item (take n (b ∷ bs))
run_again b bs item n runs is =
    let run = length_while is_run_byte (b ∷ bs) in
    let found = run_by_some (run_item (take run (b ∷ bs))) run item n is in
    let long : 0 < run = rw runs (omega arith) in
    let size = length-take-le run (b ∷ bs) (while_within is_run_byte (b ∷ bs)) in
    subst (λ n. IsLexeme item (take n (b ∷ bs))) found.1
    (run_lexeme (take run (b ∷ bs)) item (omega (arith, size, long)) (all_while is_run_byte (b ∷ bs)) found.0)

literal_again : (bs : List ℕ) (item : Item) (n : ℕ) → literal_by (literal_length bs) ≡ Lexeme item n → IsLexeme item (take n (quote ∷ bs))
literal_again bs item n is =
    let found = literal_by_some (literal_length bs) item n is in
    subst (λ item. IsLexeme item (take n (quote ∷ bs))) found.2 (subst (λ n. IsLexeme Text (take n (quote ∷ bs))) found.3 (literal_lexeme bs found.0 found.1))

one_byte : (b : ℕ) (bs : List ℕ) (here item : Item) (n : ℕ) → IsLexeme here (b ∷ []) → Lexeme here 1 ≡ Lexeme item n → IsLexeme item (take n (b ∷ bs))
one_byte b bs here item n lexeme is =
    let same_item : here ≡ item = cc in
    let same_length : 1 ≡ n = cc in
    subst (λ item. IsLexeme item (take n (b ∷ bs))) same_item (subst (λ n. IsLexeme here (take n (b ∷ bs))) same_length lexeme)

-- what the bytes begin with, if a token, is one
pub lexeme_of_front : (bytes : List ℕ) (item : Item) (n : ℕ) → front bytes ≡ Lexeme item n → IsLexeme item (take n bytes)
lexeme_of_front [] item n is = absurd (cc)
lexeme_of_front (b ∷ bs) item n is = elim (eqb_tells b left_parenthesis) [
  | inl here ↦
      one_byte b bs Left item n (subst (λ b. IsLexeme Left (b ∷ [])) (sym here.1) left_lexeme) (rw here.0 at is)
  | inr no_left ↦ elim (eqb_tells b right_parenthesis) [
    | inl here ↦ one_byte b bs Right item n (subst (λ b. IsLexeme Right (b ∷ [])) (sym here.1) right_lexeme) (rw (no_left.0, here.0) at is)
    | inr no_right ↦ elim (eqb_tells b semicolon) [
      | inl here ↦ absurd (let h = rw (no_left.0, no_right.0, here.0) at is in cc)
      | inr no_comment ↦ elim (eqb_tells b quote) [
        | inl here ↦
            subst (λ b. IsLexeme item (take n (b ∷ bs))) (sym here.1) (literal_again bs item n (rw (no_left.0, no_right.0, no_comment.0, here.0) at is))
        | inr no_quote ↦ elim (eqb_tells b bar) [
          | inl here ↦
              subst (λ b. IsLexeme item (take n (b ∷ bs))) (sym here.1) (quoted_again bs item n (rw (no_left.0, no_right.0, no_comment.0, no_quote.0, here.0) at is))
          | inr no_bar ↦ elim (tell (is_blank b)) [
            | inl blank ↦ absurd (let h = rw (no_left.0, no_right.0, no_comment.0, no_quote.0, no_bar.0, blank) at is in cc)
            | inr no_blank ↦ elim (tell (is_run_byte b)) [
              | inl runs ↦ run_again b bs item n runs (sym (front_run b bs runs) ∙ is)
              | inr no_run ↦ absurd (let h = rw (no_left.0, no_right.0, no_comment.0, no_quote.0, no_bar.0, no_blank, no_run) at is in cc)
            ]
          ]
        ]
      ]
    ]
  ]
]

-- each token of a text is one wherever something stands behind it that ends it
abbrev pub HoldsLexemes : Lexed → Type 0
HoldsLexemes (ended n) = Unit {0}
HoldsLexemes (faulty fault) = Unit {0}
HoldsLexemes (next t ts) = IsLexeme t.item t.text × HoldsLexemes ts

lexed_holds : (f : Front) (place : ℕ) (bytes : List ℕ) (behind : Lexed) → ((item : Item) (n : ℕ) → f ≡ Lexeme item n → IsLexeme item (take n bytes)) → HoldsLexemes behind → HoldsLexemes (lexed f place bytes behind)
lexed_holds (Gap n) place bytes behind here holds = holds
lexed_holds (Lexeme item n) place bytes behind here holds = (here item n refl, holds)
lexed_holds (BadByte n) place bytes behind here holds = tt
lexed_holds BadToken place bytes behind here holds = tt
lexed_holds OpenText place bytes behind here holds = tt

lex_holds : (place skip : ℕ) (bytes : List ℕ) → HoldsLexemes (lex_from place skip bytes)
lex_holds place zero [] = tt
lex_holds place (suc skip) [] = tt
lex_holds place (suc skip) (b ∷ bs) = lex_holds (suc place) skip bs
lex_holds place zero (b ∷ bs) = lexed_holds (front (b ∷ bs)) place (b ∷ bs) (lex_from (suc place) (front_length (front (b ∷ bs)) - 1) bs)
    (lexeme_of_front (b ∷ bs)) (lex_holds (suc place) (front_length (front (b ∷ bs)) - 1) bs)

first_holds : (n : ℕ) (ts : Lexed) → HoldsLexemes ts → HoldsLexemes (first_tokens n ts)
first_holds zero ts holds = tt
first_holds (suc n) (ended m) holds = tt
first_holds (suc n) (faulty fault) holds = tt
first_holds (suc n) (next t ts) holds = (holds.0, first_holds n ts holds.1)

exit_holds : (depth : ℕ) (ts : Lexed) → HoldsLexemes ts → HoldsLexemes (to_exit depth ts)
exit_holds depth (ended n) holds = tt
exit_holds depth (faulty fault) holds = tt
exit_holds depth (next t ts) holds = elim (tell (eqb depth 0 && begins_with_exit (next t ts))) [
  | inl exit ↦ rw exit (first_holds 3 (next t ts) holds)
  | inr further ↦ rw further (holds.0, exit_holds (depth_after t.item depth) ts holds.1)
]

balanced_holds : (depth : ℕ) (ts : Lexed) (us : List Token) → HoldsLexemes ts → balanced depth ts ≡ Ok us → AreLexemes us
balanced_holds zero (ended n) us holds is = let none : [] ≡ us = cc in subst AreLexemes none tt
balanced_holds (suc depth) (ended n) us holds is = absurd (cc)
balanced_holds zero (faulty fault) us holds is = absurd (cc)
balanced_holds (suc depth) (faulty fault) us holds is = absurd (cc)
balanced_holds depth (next t ts) us holds is = elim (tell (is_right t.item && eqb depth 0)) [
  | inl over ↦ absurd (let e = rw over at is in cc)
  | inr goes ↦
      let behind = with_token_ok t (balanced (depth_after t.item depth) ts) us (rw goes at is) in
      subst AreLexemes (sym behind.2) (holds.0, balanced_holds (depth_after t.item depth) ts behind.0 holds.1 behind.1)
]

-- The tokens of a text, written with a space behind each, are read as the same tokens.
pub read_again : (until : Until) (bytes : List ℕ) (ts : List Token) → tokens_of until bytes ≡ Ok ts → lex (spaced ts) ≡ placed 0 ts
read_again End bytes ts is = lex_spaced ts 0 (balanced_holds 0 (lex bytes) ts (lex_holds 0 0 bytes) is)
read_again Exit bytes ts is = lex_spaced ts 0 (balanced_holds 0 (to_exit 0 (lex bytes)) ts (exit_holds 0 (lex bytes) (lex_holds 0 0 bytes)) is)
