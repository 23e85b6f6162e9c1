-- Forms by the numbers of their first tokens: what begins at a token, and what stands behind it.
use Rattle.std.proofs.Common.{◌≡◌, ℕ, zero, suc, ◌+◌, ◌<◌, ◌≤◌, inl, inr, Bool, true, false, List, [], ◌∷◌, length, get_or, drop, refl, ap, sym, ◌∙◌, subst, arith, if◌then◌else◌, ◌&&◌, ◌==◌, Some, None, IsSome, true≢false}
use Rattle.std.proofs.lemmas.List.{drop_more, drop-drop, drop_all, drop-map, length-drop, length-map}
use Rattle.std.proofs.Math.Dec.{eqb-suc-zero}
use Rattle.std.proofs.lemmas.Bool.{cases_lt}
use Rattle.smt_lex.specs.Lex.{Token}
use Rattle.smt_lex.specs.declared.items.Item.{Item}
use Rattle.smt_lex.specs.declared.items.Item.TheVariants.{Left, Right, Numeral, Decimal, Hex, Bin, Text, Word, Quoted, Keyword}
use Rattle.smt_lex.specs.Forms.{Form, atom, node, Forms, none, ◌⨾◌, is_left, is_right, depth_after, before, rest}
use Rattle.smt_lex.specs.Forest.{no_token, token_at, items, closing, form_length, after_at, rest_at, first_form}
use Rattle.std.specs.Str.Parse.{digits_value}
use Rattle.smt_lex.specs.Names.{is_reserved}
use Rattle.smt_lex.specs.Lex.{symbol_by, symbol_of, name_of}
use Rattle.script_terms.specs.Parts.{place_of, symbol_in, word_by, word_in, numeral_by, numeral_in, keyword_by, keyword_in, is_text_by, is_text}
use Rattle.script_terms.specs.Places.{form_or, IsForm, form_from, forms_from, pair_in_forms, pair_in}

-- ---- the forms around a place, by their distance

abbrev around : ℕ → Forms × List Forms → Forms
around d r = get_or r.1 d none

around_left : (t : Token) (r : Forms × List Forms) (d : ℕ) → around d (before Left t r) ≡ around (suc d) r
around_left t (fs, []) d = refl
around_left t (fs, gs ∷ gss) d = refl

around_right : (t : Token) (r : Forms × List Forms) (d : ℕ) → around (suc d) (before Right t r) ≡ around d r
around_right t (fs, gss) d = refl

behind_right : (t : Token) (r : Forms × List Forms) → around 0 (before Right t r) ≡ r.0
behind_right t (fs, gss) = refl

around_atom : (item : Item) (t : Token) (r : Forms × List Forms) (d : ℕ) → is_left item ≡ false → is_right item ≡ false → around d (before item t r) ≡ around d r
around_atom Left t r d left right = absurd (true≢false left)
around_atom Right t r d left right = absurd (true≢false right)
around_atom Numeral t (fs, gss) d left right = refl
around_atom Decimal t (fs, gss) d left right = refl
around_atom Hex t (fs, gss) d left right = refl
around_atom Bin t (fs, gss) d left right = refl
around_atom Text t (fs, gss) d left right = refl
around_atom Word t (fs, gss) d left right = refl
around_atom Quoted t (fs, gss) d left right = refl
around_atom Keyword t (fs, gss) d left right = refl

closing_left : (depth : ℕ) (more : List Item) → closing depth (Left ∷ more) ≡ suc (closing (suc depth) more)
closing_left depth more = refl

closing_right : (depth : ℕ) (more : List Item) → closing (suc depth) (Right ∷ more) ≡ suc (closing depth more)
closing_right depth more = rw (eqb-suc-zero depth) (ap (λ d. suc (closing d more)) (omega arith))

closing_atom : (item : Item) (depth : ℕ) (more : List Item) → is_left item ≡ false → is_right item ≡ false → closing depth (item ∷ more) ≡ suc (closing depth more)
closing_atom Left depth more left right = absurd (true≢false left)
closing_atom Right depth more left right = absurd (true≢false right)
closing_atom Numeral depth more left right = refl
closing_atom Decimal depth more left right = refl
closing_atom Hex depth more left right = refl
closing_atom Bin depth more left right = refl
closing_atom Text depth more left right = refl
closing_atom Word depth more left right = refl
closing_atom Quoted depth more left right = refl
closing_atom Keyword depth more left right = refl

-- what stands behind the `)` that closes a list and so many lists in it
module _ (t : Token) (ts : List Token) (behind : (d : ℕ) → (rest (drop (closing d (items ts)) ts)).0 ≡ around d (rest ts)) where
  behind_one : (n m d : ℕ) → n ≡ suc m → (rest (drop m ts)).0 ≡ around d (rest ts) → (rest (drop n (t ∷ ts))).0 ≡ around d (rest ts)
  behind_one n m d is e = rw is e

  abbrev Closes : Item → ℕ → Type 0
  Closes item d = (rest (drop (closing d (item ∷ items ts)) (t ∷ ts))).0 ≡ around d (before item t (rest ts))

  closes_atom : (item : Item) (d : ℕ) → is_left item ≡ false → is_right item ≡ false → Closes item d
  closes_atom item d left right = behind_one _ _ d (closing_atom item d (items ts) left right) (behind d) ∙ sym (around_atom item t (rest ts) d left right)

  closes : (item : Item) (d : ℕ) → Closes item d
  closes Left d = behind_one _ _ (suc d) (closing_left d (items ts)) (behind (suc d)) ∙ sym (around_left t (rest ts) d)
  closes Right zero = sym (behind_right t (rest ts))
  closes Right (suc d) = behind_one _ _ d (closing_right d (items ts)) (behind d) ∙ sym (around_right t (rest ts) d)
  closes Numeral d = closes_atom Numeral d refl refl
  closes Decimal d = closes_atom Decimal d refl refl
  closes Hex d = closes_atom Hex d refl refl
  closes Bin d = closes_atom Bin d refl refl
  closes Text d = closes_atom Text d refl refl
  closes Word d = closes_atom Word d refl refl
  closes Quoted d = closes_atom Quoted d refl refl
  closes Keyword d = closes_atom Keyword d refl refl

-- an item is a parenthesis or neither
data Side (item : Item) : Type 0 where
  a_left : item ≡ Left → Side item
  a_right : item ≡ Right → Side item
  neither : is_left item ≡ false → is_right item ≡ false → Side item

side : (item : Item) → Side item
side Left = a_left refl
side Right = a_right refl
side Numeral = neither refl refl
side Decimal = neither refl refl
side Hex = neither refl refl
side Bin = neither refl refl
side Text = neither refl refl
side Word = neither refl refl
side Quoted = neither refl refl
side Keyword = neither refl refl

behind_closing : (ts : List Token) (d : ℕ) → (rest (drop (closing d (items ts)) ts)).0 ≡ around d (rest ts)
behind_closing [] d = refl
behind_closing (t ∷ ts) d = closes t ts (behind_closing ts) t.item d

-- ---- at a token

first_left : (t : Token) (r : Forms × List Forms) → (before Left t r).0 ≡ node t.start r.0 ⨾ around 0 r
first_left t (fs, []) = refl
first_left t (fs, gs ∷ gss) = refl

first_right : (t : Token) (r : Forms × List Forms) → (before Right t r).0 ≡ none
first_right t (fs, gss) = refl

first_atom : (item : Item) (t : Token) (r : Forms × List Forms) → is_left item ≡ false → is_right item ≡ false → (before item t r).0 ≡ atom t ⨾ r.0
first_atom Left t r left right = absurd (true≢false left)
first_atom Right t r left right = absurd (true≢false right)
first_atom Numeral t (fs, gss) left right = refl
first_atom Decimal t (fs, gss) left right = refl
first_atom Hex t (fs, gss) left right = refl
first_atom Bin t (fs, gss) left right = refl
first_atom Text t (fs, gss) left right = refl
first_atom Word t (fs, gss) left right = refl
first_atom Quoted t (fs, gss) left right = refl
first_atom Keyword t (fs, gss) left right = refl

length_left : (more : List Item) → form_length (Left ∷ more) ≡ suc (closing 0 more)
length_left more = refl

length_other : (item : Item) (more : List Item) → is_left item ≡ false → form_length (item ∷ more) ≡ 1
length_other item more other = rw other refl

first_of : (fs gs : Forms) (f : Form) → fs ≡ f ⨾ gs → form_or (first_form fs) ≡ f
first_of fs gs f is = rw is refl

some_first : (fs gs : Forms) (f : Form) → fs ≡ f ⨾ gs → IsSome (first_form fs)
some_first fs gs f is = subst (λ hs. IsSome (first_form hs)) (sym is) refl

no_first : (fs : Forms) → fs ≡ none → IsSome (first_form fs) → ⊥
no_first fs is some = let none_some : false ≡ true = subst (λ hs. IsSome (first_form hs)) is some in true≢false (sym none_some)

module _ (ts : List Token) (i : ℕ) (within : i < length ts) where
  drop_here : drop i ts ≡ token_at ts i ∷ drop (suc i) ts
  drop_here = let next : i + 1 ≡ suc i = omega arith in drop_more ts i no_token within ∙ ap (λ n. token_at ts i ∷ drop n ts) next

  rest_here : rest_at ts i ≡ before (token_at ts i).item (token_at ts i) (rest_at ts (suc i))
  rest_here = ap rest drop_here

  items_here : drop i (items ts) ≡ (token_at ts i).item ∷ items (drop (suc i) ts)
  items_here = drop-map (λ (t : Token). t.item) i ts ∙ ap items drop_here

  behind_list : (token_at ts i).item ≡ Left → after_at ts i ≡ suc i + closing 0 (items (drop (suc i) ts))
  behind_list left =
      let n = ap form_length items_here ∙ ap (λ item. form_length (item ∷ items (drop (suc i) ts))) left ∙ length_left (items (drop (suc i) ts)) in
      omega (arith, n)

  behind_token : is_left (token_at ts i).item ≡ false → after_at ts i ≡ suc i
  behind_token other =
      let n = ap form_length items_here ∙ length_other (token_at ts i).item (items (drop (suc i) ts)) other in
      omega (arith, n)

  rest_behind : (token_at ts i).item ≡ Left → (rest_at ts (after_at ts i)).0 ≡ around 0 (rest_at ts (suc i))
  rest_behind left =
      ap (λ n. (rest_at ts n).0) (behind_list left)
      ∙ ap (λ us. (rest us).0) (sym (drop-drop (closing 0 (items (drop (suc i) ts))) (suc i) ts))
      ∙ behind_closing (drop (suc i) ts) 0

  forms_of_list : (token_at ts i).item ≡ Left → (rest_at ts i).0 ≡ node (token_at ts i).start (rest_at ts (suc i)).0 ⨾ (rest_at ts (after_at ts i)).0
  forms_of_list left =
      ap (λ r. r.0) rest_here
      ∙ ap (λ item. (before item (token_at ts i) (rest_at ts (suc i))).0) left
      ∙ first_left (token_at ts i) (rest_at ts (suc i))
      ∙ ap (λ gs. node (token_at ts i).start (rest_at ts (suc i)).0 ⨾ gs) (sym (rest_behind left))

  forms_of_token : is_left (token_at ts i).item ≡ false → is_right (token_at ts i).item ≡ false → (rest_at ts i).0 ≡ atom (token_at ts i) ⨾ (rest_at ts (after_at ts i)).0
  forms_of_token left right =
      ap (λ r. r.0) rest_here
      ∙ first_atom (token_at ts i).item (token_at ts i) (rest_at ts (suc i)) left right
      ∙ ap (λ n. atom (token_at ts i) ⨾ (rest_at ts n).0) (sym (behind_token left))

  forms_of_right : (token_at ts i).item ≡ Right → (rest_at ts i).0 ≡ none
  forms_of_right right =
      ap (λ r. r.0) rest_here ∙ ap (λ item. (before item (token_at ts i) (rest_at ts (suc i))).0) right ∙ first_right (token_at ts i) (rest_at ts (suc i))

-- past the last token
forms_of_end : (ts : List Token) (i : ℕ) → length ts ≤ i → (rest_at ts i).0 ≡ none
forms_of_end ts i past = ap (λ us. (rest us).0) (drop_all i ts past)

-- ---- what callers use

module _ (ts : List Token) (i : ℕ) where
  pub list_form : i < length ts → (token_at ts i).item ≡ Left → form_from ts i ≡ node (token_at ts i).start (forms_from ts (suc i))
  unfolding form_from forms_from
  list_form within left = first_of _ _ _ (forms_of_list ts i within left)

  pub token_form : i < length ts → is_left (token_at ts i).item ≡ false → is_right (token_at ts i).item ≡ false → form_from ts i ≡ atom (token_at ts i)
  unfolding form_from
  token_form within left right = first_of _ _ _ (forms_of_token ts i within left right)

  pub no_forms : i < length ts → (token_at ts i).item ≡ Right → forms_from ts i ≡ none
  unfolding forms_from
  no_forms within right = forms_of_right ts i within right

  pub no_forms_left : length ts ≤ i → forms_from ts i ≡ none
  unfolding forms_from
  no_forms_left past = forms_of_end ts i past

  forms_by : (fs gs : Forms) (f : Form) → fs ≡ f ⨾ gs → fs ≡ form_or (first_form fs) ⨾ gs
  forms_by fs gs f is = rw is refl

  pub forms_begin : i < length ts → is_right (token_at ts i).item ≡ false → forms_from ts i ≡ form_from ts i ⨾ forms_from ts (after_at ts i)
  unfolding form_from forms_from
  forms_begin within right = elim (side (token_at ts i).item) [
    | a_left is ↦ forms_by _ _ _ (forms_of_list ts i within is)
    | a_right is ↦ absurd (true≢false (sym (ap is_right is) ∙ right))
    | neither no_left no_right ↦ forms_by _ _ _ (forms_of_token ts i within no_left no_right)
  ]

  pub form_begins : i < length ts → is_right (token_at ts i).item ≡ false → IsForm ts i
  unfolding form_from forms_from
  form_begins within right = some_first _ _ _ (forms_begin within right)

  pub form_within : IsForm ts i → i < length ts
  form_within form = elim (cases_lt i (length ts)) [ inl within ↦ within | inr past ↦ absurd (no_first _ (forms_of_end ts i past) form) ]

  pub form_side : IsForm ts i → is_right (token_at ts i).item ≡ false
  form_side form = elim (side (token_at ts i).item) [
    | a_left is ↦ ap is_right is
    | a_right is ↦ absurd (no_first _ (forms_of_right ts i (form_within form) is) form)
    | neither no_left no_right ↦ no_right
  ]

pub not_right : (item : Item) → (item ≡ Right → ⊥) → is_right item ≡ false
not_right Left other = refl
not_right Right other = absurd (other refl)
not_right Numeral other = refl
not_right Decimal other = refl
not_right Hex other = refl
not_right Bin other = refl
not_right Text other = refl
not_right Word other = refl
not_right Quoted other = refl
not_right Keyword other = refl

pub not_left : (item : Item) → (item ≡ Left → ⊥) → is_left item ≡ false
not_left Left other = absurd (other refl)
not_left Right other = refl
not_left Numeral other = refl
not_left Decimal other = refl
not_left Hex other = refl
not_left Bin other = refl
not_left Text other = refl
not_left Word other = refl
not_left Quoted other = refl
not_left Keyword other = refl

-- a form ends within the text
one_more_within : (b : Bool) (m n : ℕ) → m ≤ n → (if b then 1 else suc m) ≤ suc n
one_more_within true m n within = omega arith
one_more_within false m n within = omega (arith, within)

closing_within : (items : List Item) (d : ℕ) → closing d items ≤ length items
closing_within [] d = omega arith
closing_within (item ∷ more) d = one_more_within (is_right item && d == 0) (closing (depth_after item d) more) (length more) (closing_within more (depth_after item d))

module _ (ts : List Token) (i : ℕ) (within : i < length ts) where
  rest_length : length (items (drop (suc i) ts)) + suc i ≡ length ts
  rest_length =
      let n = length-map (drop (suc i) ts) (λ (t : Token). t.item) in
      let m = length-drop (suc i) ts in
      omega (arith, n, m)

  pub after_within : after_at ts i ≤ length ts
  after_within = elim (side (token_at ts i).item) [
    | a_left is ↦ omega (arith, behind_list ts i within is, closing_within (items (drop (suc i) ts)) 0, rest_length)
    | a_right is ↦ omega (arith, behind_token ts i within (ap is_left is))
    | neither no_left no_right ↦ omega (arith, behind_token ts i within no_left)
  ]

  pub after_behind : i < after_at ts i
  after_behind = elim (side (token_at ts i).item) [
    | a_left is ↦ omega (arith, behind_list ts i within is)
    | a_right is ↦ omega (arith, behind_token ts i within (ap is_left is))
    | neither no_left no_right ↦ omega (arith, behind_token ts i within no_left)
  ]

-- ---- what a form is, read off its first token

module _ (ts : List Token) (i : ℕ) (form : IsForm ts i) where
  pub here : {A : Type 0} (g : Form → A) (h : Token → A) → ((t : Token) → g (atom t) ≡ h t) → ((t : Token) (fs : Forms) → t.item ≡ Left → g (node t.start fs) ≡ h t) → g (form_from ts i) ≡ h (token_at ts i)
  here g h atoms lists = elim (side (token_at ts i).item) [
    | a_left is ↦ ap g (list_form ts i (form_within ts i form) is) ∙ lists (token_at ts i) (forms_from ts (suc i)) is
    | a_right is ↦ absurd (true≢false (sym (ap is_right is) ∙ form_side ts i form))
    | neither no_left no_right ↦ ap g (token_form ts i (form_within ts i form) no_left no_right) ∙ atoms (token_at ts i)
  ]

  pub place_here : place_of (form_from ts i) ≡ (token_at ts i).start
  place_here = here place_of (λ t. t.start) (λ t. refl) (λ t fs is. refl)

  pub symbol_here : symbol_in (form_from ts i) ≡ symbol_of (token_at ts i)
  symbol_here = here symbol_in symbol_of (λ t. refl) (λ t fs is. rw is refl)

  pub word_here : word_in (form_from ts i) ≡ word_by (token_at ts i).item (token_at ts i).text
  word_here = here word_in (λ t. word_by t.item t.text) (λ t. refl) (λ t fs is. rw is refl)

  pub numeral_here : numeral_in (form_from ts i) ≡ numeral_by (token_at ts i).item (token_at ts i).text
  numeral_here = here numeral_in (λ t. numeral_by t.item t.text) (λ t. refl) (λ t fs is. rw is refl)

  pub keyword_here : keyword_in (form_from ts i) ≡ keyword_by (token_at ts i).item (token_at ts i).text
  keyword_here = here keyword_in (λ t. keyword_by t.item t.text) (λ t. refl) (λ t fs is. rw is refl)

  pub text_here : is_text (form_from ts i) ≡ is_text_by (token_at ts i).item
  text_here = here is_text (λ t. is_text_by t.item) (λ t. refl) (λ t fs is. rw is refl)

module _ (t : Token) where
  pub symbol_word : t.item ≡ Word → symbol_of t ≡ (if is_reserved t.text then None else Some (name_of t))
  symbol_word is = rw is refl

  -- a word that isn't reserved
  pub word_free : t.item ≡ Word → is_reserved (name_of t) ≡ false → symbol_of t ≡ Some (name_of t)
  word_free is free =
      let name_is : name_of t ≡ t.text = rw is refl in
      symbol_word is ∙ ap (λ b. if b then None else Some (name_of t)) (ap is_reserved (sym name_is) ∙ free)

  pub symbol_quoted : t.item ≡ Quoted → symbol_of t ≡ Some (name_of t)
  symbol_quoted is = rw is refl

  pub word_is : t.item ≡ Word → word_by t.item t.text ≡ Some t.text
  word_is is = rw is refl

no_symbol : (item : Item) (text : List ℕ) → (item ≡ Word → ⊥) → (item ≡ Quoted → ⊥) → symbol_by item text ≡ None
no_symbol Word text word quoted = absurd (word refl)
no_symbol Quoted text word quoted = absurd (quoted refl)
no_symbol Left text word quoted = refl
no_symbol Right text word quoted = refl
no_symbol Numeral text word quoted = refl
no_symbol Decimal text word quoted = refl
no_symbol Hex text word quoted = refl
no_symbol Bin text word quoted = refl
no_symbol Text text word quoted = refl
no_symbol Keyword text word quoted = refl

pub no_symbol_of : (t : Token) → (t.item ≡ Word → ⊥) → (t.item ≡ Quoted → ⊥) → symbol_of t ≡ None
no_symbol_of t word quoted = no_symbol t.item t.text word quoted

no_word_by : (item : Item) (text : List ℕ) → (item ≡ Word → ⊥) → word_by item text ≡ None
no_word_by Word text word = absurd (word refl)
no_word_by Quoted text word = refl
no_word_by Left text word = refl
no_word_by Right text word = refl
no_word_by Numeral text word = refl
no_word_by Decimal text word = refl
no_word_by Hex text word = refl
no_word_by Bin text word = refl
no_word_by Text text word = refl
no_word_by Keyword text word = refl

pub no_word : (t : Token) → (t.item ≡ Word → ⊥) → word_by t.item t.text ≡ None
no_word t word = no_word_by t.item t.text word

no_numeral_by : (item : Item) (text : List ℕ) → (item ≡ Numeral → ⊥) → numeral_by item text ≡ None
no_numeral_by Numeral text numeral = absurd (numeral refl)
no_numeral_by Word text numeral = refl
no_numeral_by Quoted text numeral = refl
no_numeral_by Left text numeral = refl
no_numeral_by Right text numeral = refl
no_numeral_by Decimal text numeral = refl
no_numeral_by Hex text numeral = refl
no_numeral_by Bin text numeral = refl
no_numeral_by Text text numeral = refl
no_numeral_by Keyword text numeral = refl

pub no_numeral : (t : Token) → (t.item ≡ Numeral → ⊥) → numeral_by t.item t.text ≡ None
no_numeral t numeral = no_numeral_by t.item t.text numeral

pub numeral_is : (t : Token) → t.item ≡ Numeral → numeral_by t.item t.text ≡ Some (digits_value 10 t.text)
numeral_is t is = rw is refl

-- ---- lists of two forms

same_pair : (p q : Form × Form) → Some p ≡ Some q → p ≡ q
same_pair p q is = cc

pair_in_list : (fs : Forms) (f g : Form) → pair_in_forms fs ≡ Some (f, g) → fs ≡ f ⨾ g ⨾ none
pair_in_list none f g is = absurd (cc)
pair_in_list (x ⨾ none) f g is = absurd (cc)
pair_in_list (x ⨾ y ⨾ none) f g is = let same = same_pair (x, y) (f, g) is in ap (λ (p : Form × Form). p.0 ⨾ p.1 ⨾ none) same
pair_in_list (x ⨾ y ⨾ z ⨾ fs) f g is = absurd (cc)

pub pair_is : (e f g : Form) → pair_in e ≡ Some (f, g) → e ≡ node (place_of e) (f ⨾ g ⨾ none)
pair_is (atom t) f g is = absurd (cc)
pair_is (node place fs) f g is = ap (node place) (pair_in_list fs f g is)
