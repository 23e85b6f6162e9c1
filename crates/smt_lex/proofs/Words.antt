-- The run of a text that begins as a word does, and single bytes that are taken off by themselves.
use Rattle.std.proofs.Common.{◌≡◌, ℕ, suc, ◌+◌, ◌-◌, ◌<◌, ◌≤◌, inl, inr, Bool, true, false, eqb, get_or, Some, None, List, [], ◌∷◌, length, take, drop, refl, ap, sym, ◌∙◌, subst, arith}
use Rattle.std.specs.List.{list_all}
use Rattle.std.specs.Char.{is_ascii_digit}
use Rattle.std.proofs.lemmas.List.{drop_more, length-drop, get_or-drop}
use Rattle.std.proofs.lemmas.Bool.{ne_eqb}
use Rattle.std.proofs.Math.Dec.{eqb-suc-zero}
use Rattle.smt_lex.proofs.Choices.{tell}
use Rattle.smt_lex.specs.declared.items.Item.TheVariants.{Left, Right, Word}
use Rattle.smt_lex.specs.declared.classes.Class.{Class}
use Rattle.smt_lex.specs.declared.classes.Class.TheVariants.{Left as LeftClass, Right as RightClass, Blank, Letter}
use Rattle.smt_lex.specs.declared.fronts.Front.TheVariants.{Lexeme, BadToken}
use Rattle.smt_lex.specs.ByteClasses.{class_of}
use Rattle.smt_lex.specs.Lexicon.{is_symbol_byte, is_run_byte, is_word, is_numeral, is_keyword, is_decimal, is_hexadecimal, is_binary, starts_as, length_while, run_item}
use Rattle.smt_lex.specs.Lex.{next, faulty, bad_token, front, run_front, run_by, lex_at}
use Rattle.smt_lex.specs.Building.{token}
use Rattle.smt_lex.proofs.Lexing.{lex_gap, lex_lexeme, lex_bad_token}
use Rattle.smt_lex.proofs.ClassFacts.{told, is_symbol_class, class_front}
use Rattle.smt_lex.proofs.Printing.{run_is, run_byte}
use Rattle.smt_lex.proofs.Rereading.{all_while}

-- two tests, the second of which all bytes pass that pass the first
module _ (p q : ℕ → Bool) (weaker : (b : ℕ) → p b ≡ true → q b ≡ true) where
  pub while_same : (bs : List ℕ) → (length_while p bs < length bs → q (get_or bs (length_while p bs) 0) ≡ false) → length_while q bs ≡ length_while p bs
  while_same [] ends = refl
  while_same (b ∷ bs) ends = elim (tell (p b)) [
    | inl passes ↦
        let ends_later : suc (length_while p bs) < suc (length bs) → q (get_or bs (length_while p bs) 0) ≡ false = rw passes at ends in
        rw (passes, weaker b passes) (ap suc (while_same bs (λ more. ends_later (omega arith))))
    | inr fails ↦
        let ends_here : 0 < suc (length bs) → q b ≡ false = rw fails at ends in
        rw (fails, ends_here (omega arith)) refl
  ]

  while_longer : (bs : List ℕ) → length_while p bs < length bs → q (get_or bs (length_while p bs) 0) ≡ true → list_all p (take (length_while q bs) bs) ≡ false
  while_longer [] within goes = absurd (omega arith)
  while_longer (b ∷ bs) within goes = elim (tell (p b)) [
    | inl passes ↦
        let goes_later : q (get_or bs (length_while p bs) 0) ≡ true = rw passes at goes in
        let within_later : suc (length_while p bs) < suc (length bs) = rw passes at within in
        rw (weaker b passes) (rw passes (while_longer bs (omega arith) goes_later))
    | inr fails ↦
        let goes_here : q b ≡ true = rw fails at goes in
        rw goes_here (rw fails refl)
  ]

word_item : (b : ℕ) (bs : List ℕ) → is_ascii_digit b ≡ false → list_all is_symbol_byte (b ∷ bs) ≡ true → run_item (b ∷ bs) ≡ Some Word
word_item b bs letter all =
    let is : is_word (b ∷ bs) ≡ true = rw (all, letter, eqb-suc-zero (length bs)) refl in
    rw is refl

byte_differs : (c b : ℕ) → is_symbol_byte c ≡ false → is_symbol_byte b ≡ true → eqb c b ≡ false
byte_differs c b other symbol = ne_eqb c b (λ same. absurd (cc (other, symbol, ap is_symbol_byte same)))

no_item : (b : ℕ) (bs : List ℕ) → is_symbol_byte b ≡ true → is_ascii_digit b ≡ false → list_all is_symbol_byte (b ∷ bs) ≡ false → run_item (b ∷ bs) ≡ None
no_item b bs symbol letter other =
    let no_colon : eqb 58 b ≡ false = byte_differs 58 b refl symbol in
    let no_hash : eqb 35 b ≡ false = byte_differs 35 b refl symbol in
    let no_word : is_word (b ∷ bs) ≡ false = rw (other, letter) refl in
    let no_numeral : is_numeral (b ∷ bs) ≡ false = rw letter refl in
    let no_keyword : is_keyword (b ∷ bs) ≡ false = rw no_colon refl in
    let no_decimal : is_decimal (b ∷ bs) ≡ false = rw letter refl in
    let no_hexadecimal : is_hexadecimal (b ∷ bs) ≡ false = rw no_hash refl in
    let no_binary : is_binary (b ∷ bs) ≡ false = rw no_hash refl in
    rw (no_word, no_numeral, no_keyword, no_decimal, no_hexadecimal, no_binary) refl

-- the run is a word where its symbol bytes are all of it, and else no token
pub word_run : (text : List ℕ) → starts_as is_symbol_byte text ≡ true → starts_as is_ascii_digit text ≡ false
    → (length_while is_symbol_byte text < length text → is_run_byte (get_or text (length_while is_symbol_byte text) 0) ≡ false) → run_front text ≡ Lexeme Word (length_while is_symbol_byte text)
word_run [] symbol letter ends = absurd (cc)
word_run (b ∷ bs) symbol letter ends =
    let all : list_all is_symbol_byte (take (length_while is_symbol_byte (b ∷ bs)) (b ∷ bs)) ≡ true = all_while is_symbol_byte (b ∷ bs) in
    let long : length_while is_symbol_byte (b ∷ bs) ≡ suc (length_while is_symbol_byte bs) = rw symbol refl in
    let all_of : list_all is_symbol_byte (b ∷ take (length_while is_symbol_byte bs) bs) ≡ true = subst (λ n. list_all is_symbol_byte (take n (b ∷ bs)) ≡ true) long all in
    run_is (b ∷ bs) (length_while is_symbol_byte (b ∷ bs)) Word (while_same is_symbol_byte is_run_byte run_byte (b ∷ bs) ends)
    (ap (λ n. run_item (take n (b ∷ bs))) long ∙ word_item b (take (length_while is_symbol_byte bs) bs) letter all_of)

pub word_fails : (text : List ℕ) → starts_as is_symbol_byte text ≡ true → starts_as is_ascii_digit text ≡ false
    → length_while is_symbol_byte text < length text → is_run_byte (get_or text (length_while is_symbol_byte text) 0) ≡ true → run_front text ≡ BadToken
word_fails [] symbol letter within goes = absurd (cc)
word_fails (b ∷ bs) symbol letter within goes =
    let long : length_while is_run_byte (b ∷ bs) ≡ suc (length_while is_run_byte bs) = rw (run_byte b symbol) refl in
    let other : list_all is_symbol_byte (b ∷ take (length_while is_run_byte bs) bs) ≡ false =
    subst (λ n. list_all is_symbol_byte (take n (b ∷ bs)) ≡ false) long (while_longer is_symbol_byte is_run_byte run_byte (b ∷ bs) within goes) in
    ap (λ n. run_by (run_item (take n (b ∷ bs))) n) long
    ∙ ap (λ o. run_by o (suc (length_while is_run_byte bs))) (no_item b (take (length_while is_run_byte bs) bs) symbol letter other)

-- what a text begins with, by the class of its first byte
pub front_first : (text : List ℕ) (k : Class) → 0 < length text → class_of (get_or text 0 0) ≡ k → front text ≡ class_front k text
front_first [] k some is = absurd (omega (arith, some))
front_first (b ∷ bs) k some is = (told b).front bs ∙ ap (λ k. class_front k (b ∷ bs)) is

-- what stands at a place of a text
module _ (bytes : List ℕ) (place : ℕ) (more : place < length bytes) where
  split : drop place bytes ≡ get_or bytes place 0 ∷ drop (place + 1) bytes
  split = drop_more bytes place 0 more

  front_here : (k : Class) → class_of (get_or bytes place 0) ≡ k → front (drop place bytes) ≡ class_front k (get_or bytes place 0 ∷ drop (place + 1) bytes)
  front_here k is = ap front split ∙ (told (get_or bytes place 0)).front (drop (place + 1) bytes) ∙ ap (λ k. class_front k (get_or bytes place 0 ∷ drop (place + 1) bytes)) is

  pub lex_left : class_of (get_or bytes place 0) ≡ LeftClass → lex_at bytes place ≡ next (token bytes Left place (place + 1)) (lex_at bytes (place + 1))
  lex_left is = lex_lexeme bytes place more Left 1 (front_here LeftClass is) (omega arith) (omega arith)

  pub lex_right : class_of (get_or bytes place 0) ≡ RightClass → lex_at bytes place ≡ next (token bytes Right place (place + 1)) (lex_at bytes (place + 1))
  lex_right is = lex_lexeme bytes place more Right 1 (front_here RightClass is) (omega arith) (omega arith)

  pub lex_blank : class_of (get_or bytes place 0) ≡ Blank → lex_at bytes place ≡ lex_at bytes (place + 1)
  lex_blank is = lex_gap bytes place more 1 (front_here Blank is) (omega arith) (omega arith)

  -- the word that begins here
  module _ (letter : class_of (get_or bytes place 0) ≡ Letter) (end : ℕ) (ends : end ≡ place + 1 + length_while is_symbol_byte (drop (place + 1) bytes)) (within : end ≤ length bytes) where
    abbrev text : List ℕ
    text = get_or bytes place 0 ∷ drop (place + 1) bytes

    symbol : is_symbol_byte (get_or bytes place 0) ≡ true
    symbol = (told (get_or bytes place 0)).symbol ∙ ap is_symbol_class letter

    size : place + length_while is_symbol_byte text ≡ end
    size = let long : length_while is_symbol_byte text ≡ suc (length_while is_symbol_byte (drop (place + 1) bytes)) = rw symbol refl in omega (arith, long, ends)

    some : 0 < length_while is_symbol_byte text
    some = omega (arith, size, ends)

    whole : length text ≡ length bytes - place
    whole = sym (ap length split) ∙ length-drop place bytes

    byte_there : get_or text (length_while is_symbol_byte text) 0 ≡ get_or bytes end 0
    byte_there = ap (λ xs. get_or xs (length_while is_symbol_byte text) 0) (sym split) ∙ get_or-drop place bytes (length_while is_symbol_byte text) 0 ∙ ap (λ n. get_or bytes n 0) size

    begins : front (drop place bytes) ≡ run_front text
    begins = front_here Letter letter

    pub lex_word : (end < length bytes → is_run_byte (get_or bytes end 0) ≡ false) → lex_at bytes place ≡ next (token bytes Word place end) (lex_at bytes end)
    lex_word stops =
        lex_lexeme bytes place more Word (length_while is_symbol_byte text)
        (begins ∙ word_run text symbol ((told (get_or bytes place 0)).letter letter) (λ goes. ap is_run_byte byte_there ∙ stops (omega (arith, goes, whole, size))))
        some (omega (arith, size, within))
        ∙ ap (λ n. next (token bytes Word place n) (lex_at bytes n)) size

    pub lex_no_word : end < length bytes → is_run_byte (get_or bytes end 0) ≡ true → lex_at bytes place ≡ faulty (bad_token place)
    lex_no_word goes runs =
        lex_bad_token bytes place more
        (begins ∙ word_fails text symbol ((told (get_or bytes place 0)).letter letter) (omega (arith, goes, whole, size)) (ap is_run_byte byte_there ∙ runs))
