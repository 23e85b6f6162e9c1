-- Constants of the theories: what makes their nodes, and what their digits are.
use Rattle.std.proofs.Common.{◌≡◌, ℕ, ◌-◌, ◌*◌, ◌^◌, ◌<◌, ◌≤◌, ◌==◌, inl, inr, Bool, true, false, not, ◌&&◌, ◌||◌, List, [], ◌∷◌, length, drop, pos, Option, Some, None, option_map, Result, Ok, Err, refl, ap, sym, ◌∙◌, subst, arith, true≢false, if◌then◌else◌}
use Rattle.std.specs.Prelude.{nat_lt, nat_le, IsTrue, ◌↔◌}
use Rattle.std.proofs.Math.Nat.{pow-le-pow_right}
use Rattle.std.proofs.Math.ListN.{length-drop}
use Rattle.std.proofs.lemmas.Bool.{cases_lt}
use Rattle.std.specs.Char.{digit_value, is_ascii_hexdigit}
use Rattle.std.specs.List.{list_all}
use Rattle.std.specs.Str.Parse.{digits_value, AllDigits, IsNumeral}
use Rattle.std.proofs.lemmas.Bool.Decides.{nat_tests, eqb_tells}
use Rattle.std.proofs.lemmas.List.Elements.{All-nil}
use Rattle.smt_lex.specs.declared.items.Item.{Item}
use Rattle.smt_lex.specs.declared.items.Item.TheVariants.{Left, Right, Numeral, Decimal, Hex, Bin, Text, Word, Quoted, Keyword}
use Rattle.smt_lex.specs.Lexicon.{is_some_of, is_binary_digit}
use Rattle.smt_lex.specs.Forest.{Source, token_at}
use Rattle.smt_terms.specs.declared.ids.NodeId.{NodeId}
use Rattle.smt_terms.specs.declared.op.Op.{Op}
use Rattle.smt_terms.specs.declared.op.Op.TheVariants.{Truth, Whole, Bits}
use Rattle.smt_terms.specs.Fresh.{Supply}
use Rattle.smt_terms.specs.Rank.{shape, rank, accepted, is_minus, most_bits, width_limit}
use Rattle.smt_terms.specs.Sorts.{bool, int, bit_vector}
use Rattle.smt_terms.specs.SubstLaws.{names_within, GivesNone}
use Rattle.smt_terms.specs.Term.{op, Term, apply, none}
use Rattle.term_table.specs.Formulas.{Formulas, kind, kind_term, term_over, tree, IsNode}
use Rattle.term_table.proofs.Made.{makes_ranked}
use Rattle.script_terms.specs.declared.causes.Cause.TheVariants.{WidthLimit, BadIndex, NumberLimit, BadForm}
use Rattle.script_terms.specs.declared.causes.Cause.{Cause}
use Rattle.script_terms.specs.ConstantClauses.{IsConstantOp, HasDigits, GivesConstant, whole_in, hexadecimal_in, binary_in, constant_in}
use Rattle.smt_lex.specs.Names.{Name}
use Rattle.smt_lex.specs.Forms.{Form, Forms, none as none_left, ◌⨾◌}
use Rattle.script_terms.specs.Heads.{token_constant, vector_of_width, is_vector_name, vector_constant_of, vector_constant}
use Rattle.script_terms.specs.Known.{IsSpared}
use Rattle.script_terms.specs.Parts.{greatest_number, symbol_in, numeral_in, vector_number}
use Rattle.script_terms.specs.Places.{IsRead, capped}
use Rattle.script_terms.specs.Refusals.{Refused, at, unless}
use Rattle.script_terms.proofs.Lexemes.{Lexical, lexical}
use Rattle.script_terms.proofs.NameFacts.{spared_none}

-- ---- tests of numbers

below : (m n : ℕ) → m < n → nat_lt m n ≡ true
below m n less = grind (arith, nat_tests)

not_below : (m n : ℕ) → n ≤ m → nat_lt m n ≡ false
not_below m n least = grind (arith, nat_tests)

at_most : (m n : ℕ) → m ≤ n → nat_le m n ≡ true
at_most m n most = grind (arith, nat_tests)

above : (m n : ℕ) → n < m → nat_le m n ≡ false
above m n more = grind (arith, nat_tests)

pub power_most : (w : ℕ) → w ≤ 128 → 2 ^ w ≤ 2 ^ 128
power_most w most = pow-le-pow_right (omega arith) most

-- a test that says no
pub no_fit : (b : Bool) (m n : ℕ) → (IsTrue b ↔ (m < n)) → b ≡ false → n ≤ m
no_fit b m n told is = elim (cases_lt m n) [ inl less ↦ absurd (true≢false (sym (told.1 less) ∙ is)) | inr least ↦ least ]

-- ---- operators

truth_ranked : (b : Bool) → rank (op (Truth b)) [] ≡ Ok bool
unfolding rank shape
truth_ranked b = refl

whole_ranked : (n : ℕ) → n < 2 ^ 127 → rank (op (Whole (pos n))) [] ≡ Ok int
unfolding rank shape
whole_ranked n small = ap (λ b. accepted None b int) (below n (2 ^ 127) small)

bits_ranked : (w n : ℕ) → 1 ≤ w → w ≤ 128 → n < 2 ^ w → rank (op (Bits w n)) [] ≡ Ok (bit_vector w)
unfolding rank shape
bits_ranked w n some most small =
    let one : nat_lt 0 w ≡ true = below 0 w some in
    let narrow : nat_lt most_bits w ≡ false = not_below most_bits w most in
    let fits : nat_lt n (2 ^ w) ≡ true = below n (2 ^ w) small in
    let within : nat_le w most_bits ≡ true = at_most w most_bits most in
    (λ i. accepted None (one i && (narrow i || fits i)) (bit_vector w)) ∙ (λ i. if within i then Ok (bit_vector w) else Err width_limit)

pub truth_is : (b : Bool) → IsConstantOp (Truth b)
unfolding kind is_minus
truth_is b = record { theory = refl; makes = λ t. makes_ranked t (Truth b) [] bool (All-nil (λ k. IsNode t k)) tt refl (sym (truth_ranked b)) }

pub whole_is : (n : ℕ) → n < 2 ^ 127 → IsConstantOp (Whole (pos n))
unfolding kind is_minus
whole_is n small = record { theory = refl; makes = λ t. makes_ranked t (Whole (pos n)) [] int (All-nil (λ k. IsNode t k)) tt refl (sym (whole_ranked n small)) }

pub bits_is : (w n : ℕ) → 1 ≤ w → w ≤ 128 → n < 2 ^ w → IsConstantOp (Bits w n)
unfolding kind is_minus
bits_is w n some most small = record { theory = refl; makes = λ t. makes_ranked t (Bits w n) [] (bit_vector w) (All-nil (λ k. IsNode t k)) tt refl (sym (bits_ranked w n some most small)) }

pub constant_term : (t : Formulas) (o : Op) → IsConstantOp o → term_over t o [] ≡ apply (op o) none
constant_term t o is = ap (λ k. kind_term t.symbols t.sorts k []) is.theory

pub constant_spared : (t : Formulas) (k : NodeId) (o : Op) (supply : Supply) → IsNode t k → tree t k ≡ apply (op o) none → IsSpared t supply k
constant_spared t k o supply node term = record { node = node; spared = subst (λ u. GivesNone supply (names_within u)) (sym term) (spared_none supply) }

-- ---- digits

both_sides : (a b : Bool) → (a && b) ≡ true → (a ≡ true) × (b ≡ true)
both_sides true b h = (refl, h)
both_sides false b h = absurd (true≢false (sym h))

hexadecimal_digit : (b : ℕ) → is_ascii_hexdigit b ≡ true → digit_value b < 16
hexadecimal_digit b is = grind (arith, nat_tests)

binary_digit : (b : ℕ) → is_binary_digit b ≡ true → digit_value b < 2
binary_digit b is = elim (eqb_tells b 48) [
  | inl zero ↦ subst (λ n. digit_value n < 2) (sym zero.1) (omega arith)
  | inr other ↦ elim (eqb_tells b 49) [
    | inl one ↦ subst (λ n. digit_value n < 2) (sym one.1) (omega arith)
    | inr none_of ↦ absurd (true≢false (sym is ∙ (λ i. other.0 i || none_of.0 i)))
  ]
]

all_digits : (radix : ℕ) (test : ℕ → Bool) → ((b : ℕ) → test b ≡ true → digit_value b < radix) → (bs : List ℕ) → list_all test bs ≡ true → AllDigits radix bs
all_digits radix test value [] all = tt
all_digits radix test value (b ∷ bs) all =
    let (here, others) = both_sides (test b) (list_all test bs) all in
    (value b here, all_digits radix test value bs others)

some_digits : (bs : List ℕ) → not (length bs == 0) ≡ true → 0 < length bs
some_digits [] some = absurd (true≢false (sym some))
some_digits (b ∷ bs) some = omega arith

digits_are : (radix : ℕ) (test : ℕ → Bool) → ((b : ℕ) → test b ≡ true → digit_value b < radix) → (bs : List ℕ) → is_some_of test bs ≡ true → IsNumeral radix bs
digits_are radix test value bs are =
    let (all, some) = both_sides (list_all test bs) (not (length bs == 0)) are in
    (some_digits bs some, all_digits radix test value bs all)

lexical_digits : (item : Item) (text : List ℕ) → Lexical item text → HasDigits item text
lexical_digits Left text is = tt
lexical_digits Right text is = tt
lexical_digits Numeral text is = tt
lexical_digits Decimal text is = tt
lexical_digits Hex text is = digits_are 16 is_ascii_hexdigit hexadecimal_digit (drop 2 text) (both_sides _ (is_some_of is_ascii_hexdigit (drop 2 text)) is).1
lexical_digits Bin text is = digits_are 2 is_binary_digit binary_digit (drop 2 text) (both_sides _ (is_some_of is_binary_digit (drop 2 text)) is).1
lexical_digits Text text is = tt
lexical_digits Word text is = tt
lexical_digits Quoted text is = tt
lexical_digits Keyword text is = tt

pub token_digits : (s : Source) (i : ℕ) → IsRead s → HasDigits (token_at s.tokens i).item (token_at s.tokens i).text
token_digits s i read = lexical_digits (token_at s.tokens i).item (token_at s.tokens i).text (lexical s.bytes s.tokens i read)

-- ---- what is read

pub whole_reads : (place : ℕ) (digits : List ℕ) → digits_value 10 digits < 2 ^ 127 → whole_in place digits ≡ Ok (apply (op (Whole (pos (digits_value 10 digits)))) none)
whole_reads place digits small =
    ap (λ b. unless b NumberLimit place (Ok (apply (op (Whole (pos (digits_value 10 digits)))) none))) (not_below greatest_number (digits_value 10 digits) (omega arith))

pub whole_refused : (place : ℕ) (digits : List ℕ) → 2 ^ 127 ≤ digits_value 10 digits → whole_in place digits ≡ at NumberLimit place
whole_refused place digits large =
    ap (λ b. unless b NumberLimit place (Ok (apply (op (Whole (pos (digits_value 10 digits)))) none))) (below greatest_number (digits_value 10 digits) (omega arith))

bits_read : (place w n : ℕ) → w ≤ 128 → token_constant place (Bits w n) ≡ Ok (apply (op (Bits w n)) none)
bits_read place w n most = ap (λ b. unless b WidthLimit place (Ok (apply (op (Bits w n)) none))) (not_below most_bits w most)

bits_refused : (place w n : ℕ) → 128 < w → token_constant place (Bits w n) ≡ at WidthLimit place
bits_refused place w n wide = ap (λ b. unless b WidthLimit place (Ok (apply (op (Bits w n)) none))) (below most_bits w wide)

pub hexadecimal_reads : (place : ℕ) (digits : List ℕ) → length digits ≤ 32 → hexadecimal_in place digits ≡ Ok (apply (op (Bits (4 * length digits) (digits_value 16 digits))) none)
hexadecimal_reads place digits most = bits_read place (4 * length digits) (digits_value 16 digits) (omega arith)

pub hexadecimal_refused : (place : ℕ) (digits : List ℕ) → 32 < length digits → hexadecimal_in place digits ≡ at WidthLimit place
hexadecimal_refused place digits wide = bits_refused place (4 * length digits) (digits_value 16 digits) (omega arith)

pub binary_reads : (place : ℕ) (digits : List ℕ) → length digits ≤ 128 → binary_in place digits ≡ Ok (apply (op (Bits (length digits) (digits_value 2 digits))) none)
binary_reads place digits most = bits_read place (length digits) (digits_value 2 digits) most

pub binary_refused : (place : ℕ) (digits : List ℕ) → 128 < length digits → binary_in place digits ≡ at WidthLimit place
binary_refused place digits wide = bits_refused place (length digits) (digits_value 2 digits) wide

-- ---- by the kind of a token

pub gives_same : (r q : ℕ → Result Term Refused) (x : Result Op Cause) → ((place : ℕ) → r place ≡ q place) → GivesConstant q x → GivesConstant r x
gives_same r q (Ok o) same gives = λ place. same place ∙ gives place
gives_same r q (Err cause) same gives = λ place. same place ∙ gives place

pub hexadecimal_text : (place : ℕ) (text digits : List ℕ) → digits ≡ drop 2 text → constant_in place Hex text ≡ hexadecimal_in place digits
hexadecimal_text place text digits is =
    let count : length text - 2 ≡ length digits = omega (arith, ap length is, length-drop 2 text) in
    λ i. token_constant place (Bits (4 * count i) (digits_value 16 (sym is i)))

pub binary_text : (place : ℕ) (text digits : List ℕ) → digits ≡ drop 2 text → constant_in place Bin text ≡ binary_in place digits
binary_text place text digits is =
    let count : length text - 2 ≡ length digits = omega (arith, ap length is, length-drop 2 text) in
    λ i. token_constant place (Bits (count i) (digits_value 2 (sym is i)))

pub other_text : (place : ℕ) (item : Item) (text : List ℕ) → (item ≡ Numeral → ⊥) → (item ≡ Hex → ⊥) → (item ≡ Bin → ⊥) → (item ≡ Decimal → ⊥) → constant_in place item text ≡ at BadForm place
other_text place Left text numeral hexadecimal binary decimal = refl
other_text place Right text numeral hexadecimal binary decimal = refl
other_text place Numeral text numeral hexadecimal binary decimal = absurd (numeral refl)
other_text place Decimal text numeral hexadecimal binary decimal = absurd (decimal refl)
other_text place Hex text numeral hexadecimal binary decimal = absurd (hexadecimal refl)
other_text place Bin text numeral hexadecimal binary decimal = absurd (binary refl)
other_text place Text text numeral hexadecimal binary decimal = refl
other_text place Word text numeral hexadecimal binary decimal = refl
other_text place Quoted text numeral hexadecimal binary decimal = refl
other_text place Keyword text numeral hexadecimal binary decimal = refl

-- ---- a bit vector of a number and a width

module _ (place x w : ℕ) where
  abbrev vector : Result Term Refused
  vector = Ok (apply (op (Bits w x)) none)

  abbrev tested : Bool → Bool → Bool → Result Term Refused
  tested none_wide wide large = unless none_wide BadIndex place (unless wide WidthLimit place (unless large BadIndex place vector))

  pub no_width : w ≡ 0 → vector_of_width place x w ≡ at BadIndex place
  no_width is = let none_wide : (w == 0) ≡ true = grind (arith, nat_tests) in ap (λ b. tested b (nat_lt most_bits w) (nat_le (2 ^ w) x)) none_wide

  pub too_wide : 128 < w → vector_of_width place x w ≡ at WidthLimit place
  too_wide wide =
      let some : (w == 0) ≡ false = grind (arith, nat_tests) in
      let more : nat_lt most_bits w ≡ true = below most_bits w wide in
      λ i. tested (some i) (more i) (nat_le (2 ^ w) x)

  pub too_large : 1 ≤ w → w ≤ 128 → 2 ^ w ≤ x → vector_of_width place x w ≡ at BadIndex place
  too_large least most large =
      let some : (w == 0) ≡ false = grind (arith, nat_tests) in
      let narrow : nat_lt most_bits w ≡ false = not_below most_bits w most in
      let no_fit : nat_le (2 ^ w) x ≡ true = at_most (2 ^ w) x large in
      λ i. tested (some i) (narrow i) (no_fit i)

  pub vector_reads : 1 ≤ w → w ≤ 128 → x < 2 ^ w → vector_of_width place x w ≡ Ok (apply (op (Bits w x)) none)
  vector_reads least most small =
      let some : (w == 0) ≡ false = grind (arith, nat_tests) in
      let narrow : nat_lt most_bits w ≡ false = not_below most_bits w most in
      let fits : nat_le (2 ^ w) x ≡ false = above (2 ^ w) x small in
      λ i. tested (some i) (narrow i) (fits i)

-- numbers beyond the greatest that is read are too wide all the same
pub capped_width : (place x w : ℕ) → vector_of_width place x (capped w) ≡ vector_of_width place x w
capped_width place x w = elim (cases_lt w (2 ^ 127)) [
  | inl small ↦ (let same : capped w ≡ w = omega (arith, small) in ap (vector_of_width place x) same)
  | inr large ↦ (let most : capped w ≡ 2 ^ 127 = omega (arith, large) in too_wide place x (capped w) (omega (arith, most)) ∙ sym (too_wide place x w (omega (arith, large))))
]

-- `(_ bvX n)`
pub vector_is : (place : ℕ) (fs : Forms) (f g : Form) (n : Name) (digits : List ℕ) (w : ℕ) → fs ≡ f ⨾ g ⨾ none_left → symbol_in f ≡ Some n → is_vector_name (Some n) ≡ true → digits ≡ drop 2 n → Some w ≡ option_map capped (numeral_in g)
    → vector_constant place fs ≡ vector_of_width place (digits_value 10 digits) w
vector_is place fs f g n digits w forms symbol named is width =
    ap (vector_constant place) forms ∙ ap (λ o. vector_constant_of place o (numeral_in g)) symbol ∙ by (numeral_in g) width
  where
    by : (o : Option ℕ) → Some w ≡ option_map capped o → vector_constant_of place (Some n) o ≡ vector_of_width place (digits_value 10 digits) w
    by None e = absurd (cc)
    by (Some m) e =
        let same : w ≡ capped m = cc in
        ap (λ b. if b then vector_of_width place (vector_number n) m else at BadForm place) named
        ∙ ap (λ ds. vector_of_width place (digits_value 10 ds) m) (sym is)
        ∙ sym (capped_width place (digits_value 10 digits) m) ∙ ap (vector_of_width place (digits_value 10 digits)) (sym same)
