-- Printed values are read as these values.
use Rattle.std.proofs.Common.{◌≡◌, ℕ, suc, ◌<◌, inl, inr, Bool, true, false, not, ◌&&◌, if◌then◌else◌, Option, Some, None, [], ◌∷◌, length, refl, ap, sym, ◌∙◌, subst}
use Rattle.std.specs.Prelude.{codes}
use Rattle.std.proofs.lemmas.Bool.{ltb-true, eqb-true}
use Rattle.smt_lex.specs.Forms.{Form}
use Rattle.smt_lex.specs.Names.{is_syntax_word, is_command_word}
use Rattle.smt_terms.specs.Rank.{is_array, is_sort}
use Rattle.smt_terms.specs.Sorts.{Name, Sort, bool, int, bit_vector, array, free_sort}
use Rattle.smt_terms.specs.Values.{Value, truth, whole, bits, element, table, Pairs, no_pairs, pair, Sizes, is_key, put, distinct_keys, every_pair, same, store, is_value}
use Rattle.smt_terms.proofs.Same.{array_sorts, same-back}
use Rattle.smt_terms.proofs.Tests.{both_true, both_false, or_false, not_true, true_or_false, contrary}
use Rattle.script_terms.specs.Parts.{numeral_in}
use Rattle.script_read.proofs.FormTexts.{end_of, placed}
use Rattle.term_table.specs.WrittenForms.{word_form, symbol_form, list_form, sort_form, constant_array_form}
use Rattle.smt_print.proofs.SymbolsRead.{symbol_read}
use Rattle.model_texts.specs.Laws.{is_readable, are_readable}
use Rattle.model_texts.specs.Refusals.{model_sort}
use Rattle.model_texts.specs.Reading.{Reading, ◌>>=◌, gives, refuses, meets}
use Rattle.model_texts.specs.ValueForms.{is_sort_form, negative_literal, negative_or_filled, element_named, stored, value_in}
use Rattle.model_texts.specs.ModelLines.{element_name, element_form, stores_form, value_form}
use Rattle.model_texts.proofs.ConstantsRead.{truth_read, integer_read, vector_read}
use Rattle.model_texts.proofs.Knowing.{Gives, gives_it, gives_next, gives_element}
use Rattle.model_texts.proofs.Placed.{has_placed}

-- a form wherever it stands
abbrev pub IsReadAs : Sizes → Sort → Form → Value → Type 0
IsReadAs sizes s f v = (p : ℕ) → Gives sizes (value_in (placed p f) s) v

-- a reading that is another one
pub gives_same : {A : Type 0} (sizes : Sizes) (r q : Reading A) (a : A) → r ≡ q → Gives sizes q a → Gives sizes r a
gives_same sizes r q a is given es known =
    let g = given es known in
    (g.0, ap (λ r. r es) is ∙ g.1, g.2)

-- ---- elements

pub element_meets : (s : Name) (i p : ℕ) → value_in (placed p (element_form s i)) (free_sort s) ≡ meets s (element_name s i)
unfolding is_syntax_word is_command_word
element_meets s i p =
    let second = suc (end_of (suc p) (word_form (codes "as"))) in
    let third = suc (end_of second (symbol_form (element_name s i))) in
    ap (λ o. element_named p (free_sort s) o (placed third (symbol_form s))) (symbol_read (element_name s i))
    ∙ ap (λ b. if b then meets s (element_name s i) else refuses model_sort p) (has_placed (symbol_form s) third)

element_read : (sizes : Sizes) (s : Name) (i : ℕ) → i < sizes s → IsReadAs sizes (free_sort s) (element_form s i) (element i)
element_read sizes s i within p =
    gives_same sizes (value_in (placed p (element_form s i)) (free_sort s)) (meets s (element_name s i)) (element i) (element_meets s i p) (gives_element sizes s i within)

-- ---- pairs

abbrev pub followed : Pairs → Pairs → Pairs
followed no_pairs qs = qs
followed (pair k v ps) qs = pair k v (followed ps qs)

followed-pair : (ps : Pairs) (k v : Value) (qs : Pairs) → followed (followed ps (pair k v no_pairs)) qs ≡ followed ps (pair k v qs)
followed-pair no_pairs k v qs = refl
followed-pair (pair j u ps) k v qs = ap (pair j u) (followed-pair ps k v qs)

put-new : (alike : Value → Value → Bool) (k v : Value) (ps : Pairs) → is_key alike k ps ≡ false → put alike k v ps ≡ followed ps (pair k v no_pairs)
put-new alike k v no_pairs other = refl
put-new alike k v (pair j u ps) other =
    let parts = both_false (alike j k) (is_key alike k ps) other in
    rw parts.0 (ap (pair j u) (put-new alike k v ps parts.1))

later_key : (alike : Value → Value → Bool) (j k v : Value) (ps qs : Pairs) → is_key alike j (followed ps (pair k v qs)) ≡ false → alike k j ≡ false
later_key alike j k v no_pairs qs other = (both_false (alike k j) (is_key alike j qs) other).0
later_key alike j k v (pair i u ps) qs other = later_key alike j k v ps qs (both_false (alike i j) (is_key alike j (followed ps (pair k v qs))) other).1

-- a key behind others, all of which are distinct
new_key : (alike : Value → Value → Bool) → ((a b : Value) → alike a b ≡ true → alike b a ≡ true) → (k v : Value) (ps qs : Pairs)
    → distinct_keys alike (followed ps (pair k v qs)) ≡ true → is_key alike k ps ≡ false
new_key alike back k v no_pairs qs distinct = refl
new_key alike back k v (pair j u ps) qs distinct =
    let behind = followed ps (pair k v qs) in
    let parts = both_true (not (is_key alike j behind)) (distinct_keys alike behind) distinct in
    let other : alike k j ≡ false = later_key alike j k v ps qs (not_true (is_key alike j behind) parts.0) in
    or_false (alike j k) (is_key alike k ps)
    (elim (true_or_false (alike j k)) [ inl is ↦ contrary (alike k j) (back j k is) other | inr is ↦ is ])
    (new_key alike back k v ps qs parts.1)

-- ---- arrays

abbrev one : Sizes
one s = 1

-- how many elements there are doesn't matter for keys
same_keys : (i : Sort) (sizes : Sizes) → is_array i ≡ false → same i sizes ≡ same i one
same_keys bool sizes flat = refl
same_keys int sizes flat = refl
same_keys (bit_vector w) sizes flat = refl
same_keys (free_sort n) sizes flat = refl
same_keys (array i e) sizes flat = absurd cc

module _ (sizes : Sizes) (i e : Sort) where
  -- the keys and the values of pairs are read
  abbrev AreRead : Pairs → Type 0
  AreRead no_pairs = Unit {0}
  AreRead (pair k v ps) = IsReadAs sizes i (value_form i k) k × IsReadAs sizes e (value_form e v) v × AreRead ps

  store_read : (d : Value) (before ps : Pairs) (k v : Value) (f : Form) → distinct_keys (same i one) (followed before (pair k v ps)) ≡ true
      → IsReadAs sizes i (value_form i k) k → IsReadAs sizes e (value_form e v) v → IsReadAs sizes (array i e) f (table d before)
      → IsReadAs sizes (array i e) (list_form (word_form (codes "store") ∷ f ∷ value_form i k ∷ value_form e v ∷ [])) (table d (followed before (pair k v no_pairs)))
  unfolding is_syntax_word is_command_word
  store_read d before ps k v f distinct key value array_read p =
      let first = suc (end_of (suc p) (word_form (codes "store"))) in
      let second = suc (end_of first f) in
      let third = suc (end_of second (value_form i k)) in
      let put_last : put (same i one) k v before ≡ followed before (pair k v no_pairs) = put-new (same i one) k v before (new_key (same i one) (same-back i one) k v before ps distinct) in
      subst (λ ps. Gives sizes (stored p (array i e) (value_in (placed first f)) (value_in (placed second (value_form i k))) (value_in (placed third (value_form e v)))) (table d ps)) put_last
      (gives_next sizes (value_in (placed first f) (array i e)) _ (table d before) _ (array_read first)
      (gives_next sizes (value_in (placed second (value_form i k)) i) _ k _ (key second)
      (gives_next sizes (value_in (placed third (value_form e v)) e) _ v _ (value third) (gives_it sizes (store i one (table d before) k v)))))

  stores_read : (d : Value) (ps before : Pairs) (f : Form) → distinct_keys (same i one) (followed before ps) ≡ true → AreRead ps → IsReadAs sizes (array i e) f (table d before)
      → IsReadAs sizes (array i e) (stores_form (value_form i) (value_form e) ps f) (table d (followed before ps))
  stores_read d no_pairs before f distinct are array_read = subst (λ ps. IsReadAs sizes (array i e) f (table d ps)) (sym (followed-none before)) array_read
    where
      followed-none : (ps : Pairs) → followed ps no_pairs ≡ ps
      followed-none no_pairs = refl
      followed-none (pair k v ps) = ap (pair k v) (followed-none ps)
  stores_read d (pair k v ps) before f distinct are array_read =
      let next = list_form (word_form (codes "store") ∷ f ∷ value_form i k ∷ value_form e v ∷ []) in
      let here : followed (followed before (pair k v no_pairs)) ps ≡ followed before (pair k v ps) = followed-pair before k v ps in
      subst (λ qs. IsReadAs sizes (array i e) (stores_form (value_form i) (value_form e) ps next) (table d qs)) here
      (stores_read d ps (followed before (pair k v no_pairs)) next (ap (distinct_keys (same i one)) here ∙ distinct) are.2
      (store_read d before ps k v f distinct are.0 are.1 array_read))

  no_negative : (o : Option ℕ) → negative_literal None o ≡ None
  no_negative None = refl
  no_negative (Some n) = refl

  filled_by : (p : ℕ) (o : Option ℕ) (f : Form) (next : Sort → Reading Value) → is_sort_form (array i e) f ≡ true
      → negative_or_filled p (array i e) (negative_literal None o) (Some f) next ≡ (next e >>= λ v. gives (table v no_pairs))
  filled_by p o f next is =
      ap (λ l. negative_or_filled p (array i e) l (Some f) next) (no_negative o)
      ∙ ap (λ b. if b then (next e >>= λ v. gives (table v no_pairs)) else refuses model_sort p) is

  filled_read : (d : Value) → IsReadAs sizes e (value_form e d) d → IsReadAs sizes (array i e) (list_form (constant_array_form (array i e) ∷ value_form e d ∷ [])) (table d no_pairs)
  unfolding is_syntax_word is_command_word
  filled_read d default p =
      let sort_place = suc (end_of (suc (end_of (suc (suc p)) (word_form (codes "as")))) (word_form (codes "const"))) in
      let second = placed (suc (end_of (suc p) (constant_array_form (array i e)))) (value_form e d) in
      gives_same sizes (value_in (placed p (list_form (constant_array_form (array i e) ∷ value_form e d ∷ []))) (array i e)) (value_in second e >>= λ v. gives (table v no_pairs)) (table d no_pairs)
      (filled_by p (numeral_in second) (placed sort_place (sort_form (array i e))) (value_in second) (has_placed (sort_form (array i e)) sort_place))
      (gives_next sizes (value_in second e) (λ v. gives (table v no_pairs)) d (table d no_pairs) (default (suc (end_of (suc p) (constant_array_form (array i e))))) (gives_it sizes (table d no_pairs)))

  pub array_read : is_array i ≡ false → (d : Value) (ps : Pairs) → distinct_keys (same i sizes) ps ≡ true → AreRead ps → IsReadAs sizes e (value_form e d) d
      → IsReadAs sizes (array i e) (value_form (array i e) (table d ps)) (table d ps)
  array_read flat d ps distinct are default =
      stores_read d ps no_pairs (list_form (constant_array_form (array i e) ∷ value_form e d ∷ []))
      (ap (λ alike. distinct_keys alike ps) (sym (same_keys i sizes flat)) ∙ distinct) are (filled_read d default)

  pub pairs_read : ((v : Value) → is_value i sizes v ≡ true → is_readable v ≡ true → IsReadAs sizes i (value_form i v) v)
      → ((v : Value) → is_value e sizes v ≡ true → is_readable v ≡ true → IsReadAs sizes e (value_form e v) v)
      → (ps : Pairs) → every_pair (λ k v. is_value i sizes k && is_value e sizes v) ps ≡ true → are_readable ps ≡ true → AreRead ps
  pairs_read key value no_pairs valid readable = tt
  pairs_read key value (pair k v ps) valid readable =
      let a = both_true (is_value i sizes k && is_value e sizes v) (every_pair (λ k v. is_value i sizes k && is_value e sizes v) ps) valid in
      let b = both_true (is_value i sizes k) (is_value e sizes v) a.0 in
      let c = both_true (is_readable k) (is_readable v && are_readable ps) readable in
      let d = both_true (is_readable v) (are_readable ps) c.1 in
      (key k b.0 c.0, value v b.1 d.0, pairs_read key value ps a.1 d.1)

-- ---- values

pub value_read : (sizes : Sizes) (s : Sort) (v : Value) → is_sort s ≡ true → is_value s sizes v ≡ true → is_readable v ≡ true → IsReadAs sizes s (value_form s v) v
value_read sizes bool (truth b) sort valid readable p = truth_read sizes b p
value_read sizes int (whole n) sort valid readable p = integer_read sizes n p readable
value_read sizes (bit_vector w) (bits bs) sort valid readable p = vector_read sizes w bs p (eqb-true (length bs) w valid)
value_read sizes (free_sort n) (element i) sort valid readable p = element_read sizes n i (ltb-true i (sizes n) valid) p
value_read sizes (array i e) (table d ps) sort valid readable p =
    let sorts = array_sorts i e sort in
    let a = both_true (is_value e sizes d) (every_pair (λ k v. is_value i sizes k && is_value e sizes v) ps && distinct_keys (same i sizes) ps) valid in
    let b = both_true (every_pair (λ k v. is_value i sizes k && is_value e sizes v) ps) (distinct_keys (same i sizes) ps) a.1 in
    let c = both_true (is_readable d) (are_readable ps) readable in
    array_read sizes i e sorts.0 d ps b.1
    (pairs_read sizes i e (λ k. value_read sizes i k sorts.1) (λ v. value_read sizes e v sorts.2) ps b.0 c.1)
    (value_read sizes e d sorts.2 a.0 c.0) p
value_read sizes _ _ sort valid readable p = absurd cc
