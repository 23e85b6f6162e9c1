-- Sorts are told by the names of their tokens.
use Rattle.std.proofs.Common.{◌≡◌, ℕ, suc, ◌+◌, ◌-◌, Bool, true, false, ◌&&◌, if◌then◌else◌, List, [], ◌∷◌, ◌++◌, take, drop, length, codes, Option, Some, None, refl, ap, sym, ◌∙◌, subst, arith, true≢false}
use Rattle.std.proofs.lemmas.List.{take_at, length-append}
use Rattle.smt_lex.specs.Names.{Name, is_simple, printed_symbol}
use Rattle.smt_lex.specs.Lexicon.{bar}
use Rattle.smt_lex.specs.Lex.{Token, name_by, name_of}
use Rattle.smt_lex.specs.Forms.{Form, atom, node, Forms, none, ◌⨾◌}
use Rattle.smt_lex.specs.declared.items.Item.TheVariants.{Word, Quoted, Numeral}
use Rattle.smt_terms.specs.Equal.{name_eq}
use Rattle.smt_terms.specs.Numeral.{numeral}
use Rattle.smt_terms.specs.Sorts.{Sort, bool, int, bit_vector, array, free_sort}
use Rattle.script_terms.specs.Places.{IsForm, form_from}
use Rattle.term_table.specs.WrittenForms.{word_form, numeral_form, sort_form}
use Rattle.model_texts.specs.Named.{is_token, are_three, is_list_of_three}
use Rattle.model_texts.specs.ValueForms.{has_tokens, have_tokens, is_sort_form}

both : (b : Bool) → (b && true) ≡ b
both true = refl
both false = refl

neither : (b : Bool) → (b && false) ≡ false
neither true = refl
neither false = refl

-- ---- one token

token_is : (t : Token) (n : Name) → name_of t ≡ n → (f : Form) → has_tokens (atom t) f ≡ is_token n f
token_is t n is (atom u) = ap (λ m. name_eq m (name_of u)) is
token_is t n is (node place fs) = refl

word_is : (n : Name) (f : Form) → has_tokens (word_form n) f ≡ is_token n f
word_is n f = token_is (record { item = Word; start = 0; text = n }) n refl f

pub bool_form : (f : Form) → is_sort_form bool f ≡ is_token (codes "Bool") f
bool_form f = word_is (codes "Bool") f

pub int_form : (f : Form) → is_sort_form int f ≡ is_token (codes "Int") f
int_form f = word_is (codes "Int") f

between_bars : (name : Name) → name_by Quoted (bar ∷ (name ++ bar ∷ [])) ≡ name
between_bars name =
    let size = length-append name (bar ∷ []) in
    let inside : suc (length (name ++ bar ∷ [])) - 2 ≡ length name = omega (arith, size) in
    ap (λ n. take n (name ++ bar ∷ [])) inside ∙ take_at name (bar ∷ []) (length name) refl

symbol_is : (b : Bool) (n : Name) → name_by (if b then Word else Quoted) (if b then n else (bar ∷ n ++ bar ∷ [])) ≡ n
symbol_is true n = refl
symbol_is false n = between_bars n

pub free_form : (n : Name) (f : Form) → is_sort_form (free_sort n) f ≡ is_token n f
free_form n f = token_is (record { item = if is_simple n then Word else Quoted; start = 0; text = printed_symbol n }) n (symbol_is (is_simple n) n) f

-- ---- lists of three

module _ (a b c : Form) where
  three : (gs : Forms) → have_tokens (a ⨾ b ⨾ c ⨾ none) gs ≡ are_three (has_tokens a) (has_tokens b) (has_tokens c) gs
  three none = refl
  three (f ⨾ none) = neither (has_tokens a f)
  three (f ⨾ g ⨾ none) = ap (λ d. has_tokens a f && d) (neither (has_tokens b g)) ∙ neither (has_tokens a f)
  three (f ⨾ g ⨾ h ⨾ none) = ap (λ d. has_tokens a f && (has_tokens b g && d)) (both (has_tokens c h))
  three (f ⨾ g ⨾ h ⨾ i ⨾ is) =
      ap (λ d. has_tokens a f && (has_tokens b g && d)) (neither (has_tokens c h)) ∙ ap (λ d. has_tokens a f && d) (neither (has_tokens b g)) ∙ neither (has_tokens a f)

  list_of_three : (f : Form) → has_tokens (node 0 (a ⨾ b ⨾ c ⨾ none)) f ≡ is_list_of_three (has_tokens a) (has_tokens b) (has_tokens c) f
  list_of_three (atom t) = refl
  list_of_three (node place fs) = three fs

-- tests that say the same
same_three : (p q r s t u : Form → Bool) → ((f : Form) → p f ≡ s f) → ((f : Form) → q f ≡ t f) → ((f : Form) → r f ≡ u f) → (f : Form) → is_list_of_three p q r f ≡ is_list_of_three s t u f
same_three p q r s t u e f g (atom x) = refl
same_three p q r s t u e f g (node place none) = refl
same_three p q r s t u e f g (node place (x ⨾ none)) = refl
same_three p q r s t u e f g (node place (x ⨾ y ⨾ none)) = refl
same_three p q r s t u e f g (node place (x ⨾ y ⨾ z ⨾ none)) = λ i. e x i && (f y i && g z i)
same_three p q r s t u e f g (node place (x ⨾ y ⨾ z ⨾ w ⨾ ws)) = refl

pub vector_form : (width : ℕ) (f : Form) → is_sort_form (bit_vector width) f ≡ is_list_of_three (is_token (codes "_")) (is_token (codes "BitVec")) (is_token (numeral width)) f
vector_form width f =
    list_of_three (word_form (codes "_")) (word_form (codes "BitVec")) (numeral_form width) f
    ∙ same_three (has_tokens (word_form (codes "_"))) (has_tokens (word_form (codes "BitVec"))) (has_tokens (numeral_form width))
    (is_token (codes "_")) (is_token (codes "BitVec")) (is_token (numeral width))
    (word_is (codes "_")) (word_is (codes "BitVec")) (token_is (record { item = Numeral; start = 0; text = numeral width }) (numeral width) refl) f

pub array_form : (i e : Sort) (f : Form) → is_sort_form (array i e) f ≡ is_list_of_three (is_token (codes "Array")) (is_sort_form i) (is_sort_form e) f
array_form i e f =
    list_of_three (word_form (codes "Array")) (sort_form i) (sort_form e) f
    ∙ same_three (has_tokens (word_form (codes "Array"))) (is_sort_form i) (is_sort_form e) (is_token (codes "Array")) (is_sort_form i) (is_sort_form e) (word_is (codes "Array")) (λ g. refl) (λ g. refl) f

-- three tests in a row, of which the first two are joined first
pub all_pass : (a b r value : Bool) → value ≡ (a && b) → value ≡ true → r ≡ (a && (b && r))
all_pass true true r value e h = refl
all_pass true false r value e h = absurd (true≢false (sym h ∙ e))
all_pass false b r value e h = absurd (true≢false (sym h ∙ e))

pub one_fails : (a b r value : Bool) → value ≡ (a && b) → value ≡ false → value ≡ (a && (b && r))
one_fails true true r value e h = absurd (true≢false (sym e ∙ h))
one_fails true false r value e h = h
one_fails false b r value e h = h

pub joined_true : (a b value : Bool) → a ≡ true → value ≡ b → value ≡ (a && b)
joined_true true b value h e = e
joined_true false b value h e = absurd (true≢false (sym h))

pub joined_false : (a b value : Bool) → a ≡ false → value ≡ false → value ≡ (a && b)
joined_false true b value h e = absurd (true≢false h)
joined_false false b value h e = e
