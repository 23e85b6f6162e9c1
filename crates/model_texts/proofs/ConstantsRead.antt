-- Printed constants are read as the values that they were printed for.
use Rattle.std.proofs.Common.{◌≡◌, ℕ, zero, suc, ◌*◌, ◌/◌, ◌%◌, ◌^◌, ◌<◌, inl, inr, Bool, true, false, eqb, Ok, Some, List, [], ◌++◌, length, refl, ap, ◌∙◌, subst, arith}
use Rattle.std.specs.Prelude.{codes, ℤ, pos, negsuc, neg_ℤ}
use Rattle.std.proofs.lemmas.Bool.{le-ltb, lt-ltb, eqb-true}
use Rattle.std.proofs.lemmas.Nat.{div-add-mod'}
use Rattle.std.proofs.Math.Nat.{pow-suc}
use Rattle.smt_lex.specs.declared.items.Item.{Item}
use Rattle.smt_lex.specs.declared.items.Item.TheVariants.{Hex, Bin}
use Rattle.smt_lex.specs.Lex.{symbol_by}
use Rattle.smt_lex.specs.Forms.{atom}
use Rattle.smt_lex.specs.Names.{is_syntax_word, is_command_word}
use Rattle.smt_terms.specs.declared.op.Op.TheVariants.{Bits}
use Rattle.smt_terms.specs.BitVectors.{BitVector, bv2nat, nat2bv}
use Rattle.smt_terms.specs.Sorts.{bool, int, bit_vector}
use Rattle.smt_terms.specs.Val.{within_range}
use Rattle.smt_terms.specs.Values.{truth, whole, bits, Sizes}
use Rattle.smt_terms.proofs.BitLaws.{at_width, bv2nat-small}
use Rattle.smt_terms.proofs.Equal.{Decides-sort_eq}
use Rattle.smt_terms.proofs.Tests.{true_or_false}
use Rattle.script_terms.specs.Parts.{constant_by}
use Rattle.script_read.proofs.FormTexts.{placed, token_at}
use Rattle.smt_print.proofs.Digits.{numeral_value, hex_constant, binary_constant}
use Rattle.term_table.specs.WrittenForms.{truth_form, numeral_form, integer_form, last_digits, vector_form}
use Rattle.model_texts.specs.Reading.{by_rule}
use Rattle.model_texts.specs.ValueForms.{whole_literal, vector_literal, literal_of, literal_value, value_in}
use Rattle.model_texts.proofs.Knowing.{Gives, gives_it}

-- ---- truth values

pub truth_read : (sizes : Sizes) (b : Bool) (p : ℕ) → Gives sizes (value_in (placed p (truth_form b)) bool) (truth b)
unfolding is_syntax_word is_command_word
truth_read sizes true p = gives_it sizes (truth true)
truth_read sizes false p = gives_it sizes (truth false)

-- ---- whole numbers

whole_value : (p : ℕ) (n : ℤ) → within_range n ≡ true → literal_value p int (Some (whole_literal n)) ≡ Ok (whole n)
whole_value p n within = rw within refl

numeral_read : (sizes : Sizes) (n p : ℕ) → within_range (pos n) ≡ true → Gives sizes (value_in (placed p (numeral_form n)) int) (whole (pos n))
numeral_read sizes n p within es known = (
  es,
  ap (λ k. by_rule (literal_value p int (Some (whole_literal (pos k)))) es) (numeral_value n) ∙ ap (λ r. by_rule r es) (whole_value p (pos n) within),
  known,
)

negative_read : (sizes : Sizes) (n p : ℕ) → within_range (negsuc n) ≡ true → Gives sizes (value_in (placed p (integer_form (negsuc n))) int) (whole (negsuc n))
unfolding is_syntax_word is_command_word
negative_read sizes n p within es known = (
  es,
  ap (λ k. by_rule (literal_value p int (Some (whole_literal (neg_ℤ (pos k))))) es) (numeral_value (suc n)) ∙ ap (λ r. by_rule r es) (whole_value p (negsuc n) within),
  known,
)

pub integer_read : (sizes : Sizes) (n : ℤ) (p : ℕ) → within_range n ≡ true → Gives sizes (value_in (placed p (integer_form n)) int) (whole n)
integer_read sizes (pos n) p within = rw (le-ltb n 0 (omega arith)) (numeral_read sizes n p within)
integer_read sizes (negsuc n) p within = negative_read sizes n p within

-- ---- bit vectors

sixteen_powers : (c : ℕ) → 2 ^ (4 * c) ≡ 16 ^ c
sixteen_powers zero = refl
sixteen_powers (suc c) =
    let k = 4 * c in
    let four : 4 * suc c ≡ suc (suc (suc (suc k))) = omega arith in
    let a : 2 ^ suc k ≡ 2 ^ k * 2 = pow-suc 2 k in
    let b : 2 ^ suc (suc k) ≡ 2 ^ suc k * 2 = pow-suc 2 (suc k) in
    let d : 2 ^ suc (suc (suc k)) ≡ 2 ^ suc (suc k) * 2 = pow-suc 2 (suc (suc k)) in
    let e : 2 ^ suc (suc (suc (suc k))) ≡ 2 ^ suc (suc (suc k)) * 2 = pow-suc 2 (suc (suc (suc k))) in
    let f : 16 ^ suc c ≡ 16 ^ c * 16 = pow-suc 16 c in
    let before : 2 ^ k ≡ 16 ^ c = sixteen_powers c in
    ap (λ n. 2 ^ n) four ∙ omega (arith, a, b, d, e, f, before)

whole_digits : (w : ℕ) → w % 4 ≡ 0 → 4 * (w / 4) ≡ w
whole_digits w even = let whole = div-add-mod' w 4 in omega (arith, whole, even)

vector_value : (p w n : ℕ) → n < 2 ^ w → literal_value p (bit_vector w) (Some (vector_literal w n)) ≡ Ok (bits (nat2bv w n))
vector_value p w n within = rw ((Decides-sort_eq (bit_vector w) (bit_vector w)).1 refl, lt-ltb n (2 ^ w) within) refl

token_read : (sizes : Sizes) (p w n : ℕ) (item : Item) (text : List ℕ) → constant_by item text ≡ Some (Bits w n) → n < 2 ^ w
    → Gives sizes (value_in (atom (token_at p item text)) (bit_vector w)) (bits (nat2bv w n))
token_read sizes p w n item text is within es known = (
  es,
  ap (λ o. by_rule (literal_value p (bit_vector w) (literal_of o (symbol_by item text))) es) is ∙ ap (λ r. by_rule r es) (vector_value p w n within),
  known,
)

-- in hexadecimal or binary digits
number_read : (sizes : Sizes) (w n p : ℕ) → n < 2 ^ w → Gives sizes (value_in (placed p (vector_form w n)) (bit_vector w)) (bits (nat2bv w n))
number_read sizes w n p within = elim (true_or_false (eqb (w % 4) 0)) [
  | inl four ↦
      let count = whole_digits w (eqb-true (w % 4) 0 four) in
      let few : n < 16 ^ (w / 4) = omega (arith, within, ap (λ w. 2 ^ w) count, sixteen_powers (w / 4)) in
      let is : constant_by Hex (codes "#x" ++ last_digits 16 (w / 4) n []) ≡ Some (Bits w n) = hex_constant (w / 4) n few ∙ ap (λ w. Some (Bits w n)) count in
      rw four (token_read sizes p w n Hex (codes "#x" ++ last_digits 16 (w / 4) n []) is within)
  | inr other ↦ rw other (token_read sizes p w n Bin (codes "#b" ++ last_digits 2 w n []) (binary_constant w n within) within)
]

pub vector_read : (sizes : Sizes) (w : ℕ) (bs : BitVector) (p : ℕ) → length bs ≡ w → Gives sizes (value_in (placed p (vector_form w (bv2nat bs))) (bit_vector w)) (bits bs)
vector_read sizes w bs p long =
    let small : bv2nat bs < 2 ^ w = subst (λ w. bv2nat bs < 2 ^ w) long (bv2nat-small bs) in
    subst (λ v. Gives sizes (value_in (placed p (vector_form w (bv2nat bs))) (bit_vector w)) (bits v)) (at_width w bs long) (number_read sizes w (bv2nat bs) p small)
