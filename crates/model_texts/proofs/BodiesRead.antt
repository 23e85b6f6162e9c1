-- Printed tables of functions are read as these tables.
use Rattle.std.proofs.Common.{◌≡◌, ℕ, suc, ◌+◌, ◌%◌, ◌<◌, ◌==◌, inl, inr, Bool, true, false, ◌&&◌, cond, Some, List, [], ◌∷◌, map, refl, ap, sym, ◌∙◌, subst, arith}
use Rattle.std.specs.Prelude.{codes, count_by, option_and_then, ℤ, pos, negsuc}
use Rattle.std.specs.List.{list_all}
use Rattle.std.proofs.lemmas.Bool.{le-ltb}
use Rattle.std.proofs.lemmas.List.Sums.{sum_by_from}
use Rattle.smt_lex.specs.Forms.{Form, Forms, none, ◌⨾◌, forms_of_list}
use Rattle.smt_lex.specs.Names.{is_syntax_word, is_command_word}
use Rattle.smt_terms.specs.BitVectors.{bv2nat}
use Rattle.smt_terms.specs.Equal.{name_eq}
use Rattle.smt_terms.specs.Models.{Row, Graph}
use Rattle.smt_terms.specs.Sorts.{Name, Sort, bool, int, bit_vector, array, free_sort, Variable}
use Rattle.smt_terms.specs.Values.{Value, Pairs, no_pairs, pair, Sizes, is_true, number, bits_of, default_of, pairs_of}
use Rattle.smt_terms.proofs.Equal.{name_itself}
use Rattle.smt_terms.proofs.Tests.{and_true, true_or_false}
use Rattle.script_terms.specs.Parts.{place_of}
use Rattle.script_read.proofs.FormTexts.{end_of, placed, placed_behind}
use Rattle.term_table.specs.WrittenForms.{word_form, list_form, constant_array_form, truth_form, integer_form, vector_form}
use Rattle.model_texts.specs.Reading.{◌>>=◌, gives}
use Rattle.model_texts.specs.ValueForms.{value_in}
use Rattle.model_texts.specs.Tables.{written, Equation, parameter_named, parameter_in, equation_of, equation, with_equation, all_equations, conjuncts, names_each_once, where_each_once, side_value, Key, keys_of, key_named, keys_in_order, condition_values, condition, value_everywhere, body_in}
use Rattle.model_texts.specs.ModelLines.{value_form, stores_form, parameter_name, parameters, equation_forms, condition_form, rows_form}
use Rattle.model_texts.proofs.Knowing.{Gives, gives_it, gives_next}
use Rattle.model_texts.proofs.ParametersRead.{earlier_name, later_name}
use Rattle.model_texts.proofs.ValuesRead.{IsReadAs, gives_same}

-- ---- bodies that are values

abbrev pub IsAlone : List Variable → Sort → Form → Type 0
IsAlone xs s f = (p : ℕ) → body_in (placed p f) xs s ≡ value_everywhere (value_in (placed p f) s)

truth_alone : (xs : List Variable) (s : Sort) (b : Bool) → IsAlone xs s (truth_form b)
truth_alone xs s true p = refl
truth_alone xs s false p = refl

integer_alone : (xs : List Variable) (s : Sort) (n : ℤ) → IsAlone xs s (integer_form n)
integer_alone xs s (pos n) p = rw (le-ltb n 0 (omega arith)) refl
integer_alone xs s (negsuc n) p = refl

vector_alone : (xs : List Variable) (s : Sort) (w n : ℕ) → IsAlone xs s (vector_form w n)
vector_alone xs s w n p = elim (true_or_false (w % 4 == 0)) [ inl four ↦ rw four refl | inr other ↦ rw other refl ]

stores_alone : (xs : List Variable) (s : Sort) (key value : Value → Form) (ps : Pairs) (f : Form) → IsAlone xs s f → IsAlone xs s (stores_form key value ps f)
unfolding is_syntax_word is_command_word
stores_alone xs s key value no_pairs f alone = alone
stores_alone xs s key value (pair k v ps) f alone = stores_alone xs s key value ps (list_form (word_form (codes "store") ∷ f ∷ key k ∷ value v ∷ [])) (λ p. refl)

pub value_alone : (xs : List Variable) (s : Sort) (v : Value) → IsAlone xs s (value_form s v)
value_alone xs bool v p = truth_alone xs bool (is_true v) p
value_alone xs int v p = integer_alone xs int (number v) p
value_alone xs (bit_vector w) v p = vector_alone xs (bit_vector w) w (bv2nat (bits_of v)) p
value_alone xs (free_sort n) v p = refl
value_alone xs (array i e) v p =
    stores_alone xs (array i e) (value_form i) (value_form e) (pairs_of v) (list_form (constant_array_form (array i e) ∷ value_form e (default_of v) ∷ [])) (λ p. refl) p

-- ---- equations that stand for keys

module _ (sizes : Sizes) where
  abbrev pub AreEquations : List Variable → List Value → List Equation → Type 0
  AreEquations [] [] [] = Unit {0}
  AreEquations (x ∷ xs) (v ∷ vs) (e ∷ es) = (e.parameter ≡ x) × Gives sizes (side_value x.sort e.side) v × AreEquations xs vs es
  AreEquations _ _ _ = ⊥

  -- values of the variables' sorts that are read
  abbrev pub AreKeys : List Variable → List Value → Type 0
  AreKeys [] [] = Unit {0}
  AreKeys (x ∷ xs) (v ∷ vs) = IsReadAs sizes x.sort (value_form x.sort v) v × AreKeys xs vs
  AreKeys _ _ = ⊥

  abbrev keys_for : List Variable → List Value → List Key
  keys_for (x ∷ xs) (v ∷ vs) = record { name = x.name; value = v } ∷ keys_for xs vs
  keys_for _ _ = []

  keys_read : (xs : List Variable) (vs : List Value) (es : List Equation) → AreEquations xs vs es → Gives sizes (keys_of es) (keys_for xs vs)
  keys_read [] [] [] are = gives_it sizes []
  keys_read (x ∷ xs) (v ∷ vs) (e ∷ es) are =
      let key : Key = record { name = x.name; value = v } in
      subst (λ y. Gives sizes (side_value y.sort e.side >>= λ v. keys_of es >>= λ ks. gives (record { name = y.name; value = v } ∷ ks)) (key ∷ keys_for xs vs)) (sym are.0)
      (gives_next sizes (side_value x.sort e.side) (λ v. keys_of es >>= λ ks. gives (record { name = x.name; value = v } ∷ ks)) v (key ∷ keys_for xs vs) are.1
      (gives_next sizes (keys_of es) (λ ks. gives (key ∷ ks)) (keys_for xs vs) (key ∷ keys_for xs vs) (keys_read xs vs es are.2) (gives_it sizes (key ∷ keys_for xs vs))))
  keys_read [] [] (e ∷ es) are = absurd are
  keys_read [] (v ∷ vs) es are = absurd are
  keys_read (x ∷ xs) [] es are = absurd are
  keys_read (x ∷ xs) (v ∷ vs) [] are = absurd are

  -- the key of a parameter stands at its name
  keys_behind : (ss : List Sort) (j i : ℕ) (v : Value) (ks : List Key) → j < i
      → map (λ (x : Variable). key_named (record { name = parameter_name j; value = v } ∷ ks) x.name) (parameters i ss) ≡ map (λ (x : Variable). key_named ks x.name) (parameters i ss)
  keys_behind [] j i v ks less = refl
  keys_behind (s ∷ ss) j i v ks less =
      rw (earlier_name j i less) (ap (λ vs. key_named ks (parameter_name i) ∷ vs) (keys_behind ss j (suc i) v ks (omega (arith, less))))

  keys_ordered : (ss : List Sort) (i : ℕ) (vs : List Value) → AreKeys (parameters i ss) vs
      → map (λ (x : Variable). key_named (keys_for (parameters i ss) vs) x.name) (parameters i ss) ≡ vs
  keys_ordered [] i [] are = refl
  keys_ordered [] i (v ∷ vs) are = absurd are
  keys_ordered (s ∷ ss) i [] are = absurd are
  keys_ordered (s ∷ ss) i (v ∷ vs) are =
      rw (name_itself (parameter_name i)) (ap (λ ws. v ∷ ws) (keys_behind ss i (suc i) v (keys_for (parameters (suc i) ss) vs) (omega arith) ∙ keys_ordered ss (suc i) vs are.1))

  -- each parameter is named once
  abbrev naming : Name → List Equation → ℕ
  naming n es = count_by (λ e. name_eq e.parameter.name n) es

  none_naming : (ss : List Sort) (j i : ℕ) (vs : List Value) (es : List Equation) → j < i → AreEquations (parameters i ss) vs es → naming (parameter_name j) es ≡ 0
  none_naming [] j i [] [] less are = refl
  none_naming (s ∷ ss) j i (v ∷ vs) (e ∷ es) less are =
      let other : name_eq e.parameter.name (parameter_name j) ≡ false = ap (λ (x : Variable). name_eq x.name (parameter_name j)) are.0 ∙ later_name j i less in
      rw other (none_naming ss j (suc i) vs es (omega (arith, less)) are.2)
  none_naming [] j i [] (e ∷ es) less are = absurd are
  none_naming [] j i (v ∷ vs) es less are = absurd are
  none_naming (s ∷ ss) j i [] es less are = absurd are
  none_naming (s ∷ ss) j i (v ∷ vs) [] less are = absurd are

  once_behind : (ss : List Sort) (j i : ℕ) (s : Sort) (e : Equation) (es : List Equation) → j < i → e.parameter ≡ record { name = parameter_name j; sort = s }
      → names_each_once (parameters i ss) (e ∷ es) ≡ names_each_once (parameters i ss) es
  once_behind [] j i s e es less is = refl
  once_behind (t ∷ ss) j i s e es less is =
      let other : name_eq e.parameter.name (parameter_name i) ≡ false = ap (λ (x : Variable). name_eq x.name (parameter_name i)) is ∙ earlier_name j i less in
      rw other (ap (λ b. (naming (parameter_name i) es == 1) && b) (once_behind ss j (suc i) s e es (omega (arith, less)) is))

  each_once : (ss : List Sort) (i : ℕ) (vs : List Value) (es : List Equation) → AreEquations (parameters i ss) vs es → names_each_once (parameters i ss) es ≡ true
  each_once [] i [] [] are = refl
  each_once (s ∷ ss) i (v ∷ vs) (e ∷ es) are =
      let here : name_eq e.parameter.name (parameter_name i) ≡ true = ap (λ (x : Variable). name_eq x.name (parameter_name i)) are.0 ∙ name_itself (parameter_name i) in
      let others : naming (parameter_name i) es ≡ 0 = none_naming ss i (suc i) vs es (omega arith) are.2 in
      let count : naming (parameter_name i) (e ∷ es) ≡ 1 = rw here (sum_by_from (λ (e : Equation). cond (name_eq e.parameter.name (parameter_name i)) 1 0) 1 es ∙ ap (λ n. 1 + n) others) in
      let once : (naming (parameter_name i) (e ∷ es) == 1) ≡ true = ap (λ n. n == 1) count in
      and_true (naming (parameter_name i) (e ∷ es) == 1) (list_all (λ (x : Variable). naming x.name (e ∷ es) == 1) (parameters (suc i) ss)) once
      (once_behind ss i (suc i) s e es (omega arith) are.0 ∙ each_once ss (suc i) vs es are.2)
  each_once [] i [] (e ∷ es) are = absurd are
  each_once [] i (v ∷ vs) es are = absurd are
  each_once (s ∷ ss) i [] es are = absurd are
  each_once (s ∷ ss) i (v ∷ vs) [] are = absurd are

  -- ---- the equations of printed keys

  -- each of these stands for itself among the parameters
  abbrev AreFound : List Variable → List Variable → Type 0
  AreFound all [] = Unit {0}
  AreFound all (x ∷ xs) = (parameter_named all x.name ≡ Some x) × AreFound all xs

  found_behind : (ss : List Sort) (j i : ℕ) (s : Sort) (all : List Variable) → j < i → AreFound all (parameters i ss) → AreFound (record { name = parameter_name j; sort = s } ∷ all) (parameters i ss)
  found_behind [] j i s all less are = tt
  found_behind (t ∷ ss) j i s all less are = (rw (earlier_name j i less) are.0, found_behind ss j (suc i) s all (omega (arith, less)) are.1)

  parameters_found : (ss : List Sort) (i : ℕ) → AreFound (parameters i ss) (parameters i ss)
  parameters_found [] i = tt
  parameters_found (s ∷ ss) i = (rw (name_itself (parameter_name i)) refl, found_behind ss i (suc i) s (parameters (suc i) ss) (omega arith) (parameters_found ss (suc i)))

  abbrev equation_form : Variable → Value → Form
  equation_form x v = list_form (word_form (codes "=") ∷ word_form x.name ∷ value_form x.sort v ∷ [])

  equation_read : (all : List Variable) (i : ℕ) (s : Sort) (v : Value) (p : ℕ) → parameter_named all (parameter_name i) ≡ Some (record { name = parameter_name i; sort = s })
      → equation all (placed p (equation_form (record { name = parameter_name i; sort = s }) v))
      ≡ Some (record { parameter = record { name = parameter_name i; sort = s }; side = written (placed (suc (end_of (suc (end_of (suc p) (word_form (codes "=")))) (word_form (parameter_name i)))) (value_form s v)) })
  unfolding is_syntax_word is_command_word
  equation_read all i s v p is =
      let third = placed (suc (end_of (suc (end_of (suc p) (word_form (codes "=")))) (word_form (parameter_name i)))) (value_form s v) in
      let second = placed (suc (end_of (suc p) (word_form (codes "=")))) (word_form (parameter_name i)) in
      ap (λ o. equation_of o (parameter_in all third) second third) is

  record EquationsRead (all xs : List Variable) (vs : List Value) (fs : Forms) : Type 0 where
    these : List Equation
    read : all_equations all fs ≡ Some these
    are : AreEquations xs vs these

  nothing_read : (all : List Variable) → EquationsRead all [] [] none
  nothing_read all = record { these = []; read = refl; are = tt }

  next_equation : (all : List Variable) (i : ℕ) (s : Sort) (ss : List Sort) (v : Value) (vs : List Value) (p : ℕ) (fs : Forms) → parameter_named all (parameter_name i) ≡ Some (record { name = parameter_name i; sort = s })
      → IsReadAs sizes s (value_form s v) v → EquationsRead all (parameters (suc i) ss) vs fs
      → EquationsRead all (parameters i (s ∷ ss)) (v ∷ vs) (placed p (equation_form (record { name = parameter_name i; sort = s }) v) ⨾ fs)
  next_equation all i s ss v vs p fs is value behind =
      let place = suc (end_of (suc (end_of (suc p) (word_form (codes "=")))) (word_form (parameter_name i))) in
      let here : Equation = record { parameter = record { name = parameter_name i; sort = s }; side = written (placed place (value_form s v)) } in
      record {
        these = here ∷ behind.these;
        read = ap (λ o. with_equation o (all_equations all fs)) (equation_read all i s v p is) ∙ ap (with_equation (Some here)) behind.read;
        are = (refl, value place, behind.are);
      }

  equations_behind : (all : List Variable) (ss : List Sort) (i : ℕ) (vs : List Value) (p : ℕ) → AreFound all (parameters i ss) → AreKeys (parameters i ss) vs
      → EquationsRead all (parameters i ss) vs (placed_behind p (forms_of_list (equation_forms (parameters i ss) vs)) none)
  equations_behind all [] i [] p found are = nothing_read all
  equations_behind all [] i (v ∷ vs) p found are = absurd are
  equations_behind all (s ∷ ss) i [] p found are = absurd are
  equations_behind all (s ∷ ss) i (v ∷ vs) p found are =
      let after = end_of (suc p) (equation_form (record { name = parameter_name i; sort = s }) v) in
      next_equation all i s ss v vs (suc p) (placed_behind after (forms_of_list (equation_forms (parameters (suc i) ss) vs)) none) found.0 are.0
      (equations_behind all ss (suc i) vs after found.1 are.1)

  -- ---- conditions

  condition_by : (ss : List Sort) (vs : List Value) (f : Form) → EquationsRead (parameters 0 ss) (parameters 0 ss) vs (conjuncts f) → AreKeys (parameters 0 ss) vs → Gives sizes (condition (parameters 0 ss) f) vs
  condition_by ss vs f r are =
      let xs = parameters 0 ss in
      let once : where_each_once xs r.these ≡ Some r.these = rw (each_once ss 0 vs r.these r.are) refl in
      let in_order = λ (ks : List Key). gives (map (λ (x : Variable). key_named ks x.name) xs) in
      gives_same sizes (condition xs f) (keys_in_order xs r.these) vs
      (ap (λ o. condition_values (place_of f) xs (option_and_then (where_each_once xs) o)) r.read ∙ ap (condition_values (place_of f) xs) once)
      (gives_next sizes (keys_of r.these) in_order (keys_for xs vs) vs (keys_read xs vs r.these r.are)
      (subst (Gives sizes (in_order (keys_for xs vs))) (keys_ordered ss 0 vs are) (gives_it sizes (map (λ (x : Variable). key_named (keys_for xs vs) x.name) xs))))

  pub condition_read : (s : Sort) (ss : List Sort) (vs : List Value) (p : ℕ) → AreKeys (parameters 0 (s ∷ ss)) vs
      → Gives sizes (condition (parameters 0 (s ∷ ss)) (placed p (condition_form (equation_forms (parameters 0 (s ∷ ss)) vs)))) vs
  unfolding is_syntax_word is_command_word
  condition_read s ss [] p are = absurd are
  condition_read s [] (v ∷ []) p are =
      let xs = parameters 0 (s ∷ []) in
      condition_by (s ∷ []) (v ∷ []) (placed p (equation_form (record { name = parameter_name 0; sort = s }) v))
      (next_equation xs 0 s [] v [] p none (parameters_found (s ∷ []) 0).0 are.0 (nothing_read xs)) are
  condition_read s [] (v ∷ (w ∷ ws)) p are = absurd (are.1)
  condition_read s (t ∷ ts) (v ∷ []) p are = absurd (are.1)
  condition_read s (t ∷ ts) (v ∷ (w ∷ ws)) p are =
      let xs = parameters 0 (s ∷ t ∷ ts) in
      let vs = v ∷ w ∷ ws in
      condition_by (s ∷ t ∷ ts) vs (placed p (list_form (word_form (codes "and") ∷ equation_forms xs vs)))
      (equations_behind xs (s ∷ t ∷ ts) 0 vs (end_of (suc p) (word_form (codes "and"))) (parameters_found (s ∷ t ∷ ts) 0) are) are

  -- ---- rows

  pub record RowRead (xs : List Variable) (to : Sort) (r : Row) : Type 0 where
    pub keys : (p : ℕ) → Gives sizes (condition xs (placed p (condition_form (equation_forms xs r.keys)))) r.keys
    pub result : IsReadAs sizes to (value_form to r.result) r.result

  abbrev pub RowsRead : List Variable → Sort → List Row → Type 0
  RowsRead xs to [] = Unit {0}
  RowsRead xs to (r ∷ rows) = RowRead xs to r × RowsRead xs to rows

  pub body_read : (xs : List Variable) (to : Sort) (rows : List Row) (v : Value) → RowsRead xs to rows → IsReadAs sizes to (value_form to v) v
      → (p : ℕ) → Gives sizes (body_in (placed p (rows_form xs to rows (value_form to v))) xs to) (record { rows = rows; otherwise = v })
  unfolding is_syntax_word is_command_word
  body_read xs to [] v are otherwise p =
      gives_same sizes (body_in (placed p (value_form to v)) xs to) (value_everywhere (value_in (placed p (value_form to v)) to)) (record { rows = []; otherwise = v }) (value_alone xs to v p)
      (gives_next sizes (value_in (placed p (value_form to v)) to) (λ v. gives (record { rows = []; otherwise = v })) v (record { rows = []; otherwise = v }) (otherwise p) (gives_it sizes (record { rows = []; otherwise = v })))
  body_read xs to (r ∷ rows) v are otherwise p =
      let keys_form = condition_form (equation_forms xs r.keys) in
      let first = suc (end_of (suc p) (word_form (codes "ite"))) in
      let second = suc (end_of first keys_form) in
      let third = suc (end_of second (value_form to r.result)) in
      let rest = body_in (placed third (rows_form xs to rows (value_form to v))) xs to in
      let all : Graph = record { rows = r ∷ rows; otherwise = v } in
      gives_next sizes (condition xs (placed first keys_form)) _ r.keys all (are.0.keys first)
      (gives_next sizes (value_in (placed second (value_form to r.result)) to) _ r.result all (are.0.result second)
      (gives_next sizes rest _ (record { rows = rows; otherwise = v }) all (body_read xs to rows v are.1 otherwise third) (gives_it sizes all)))
