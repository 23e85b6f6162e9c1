-- What entries give are functions of their symbols.
use Rattle.std.proofs.Common.{◌≡◌, ◌∙◌, sym, ap, subst, refl, ℕ, ◌+◌, ◌≤◌, ◌==◌, Bool, true, false, not, cond, if◌then◌else◌, ◌&&◌, ◌||◌, List, [], ◌∷◌, ◌++◌, map, count_by, codes, Option, Some, None, Result, Ok, Err, arith, true≢false}
use Rattle.std.specs.List.{list_all}
use Rattle.std.proofs.lemmas.Bool.{eqb-true}
use Rattle.std.proofs.lemmas.List.Sums.{sum_by-cons}
use Rattle.std.proofs.lemmas.Option.{none-some, same_Some}
use Rattle.smt_lex.specs.Names.{is_among}
use Rattle.smt_lex.specs.Forms.{Form, atom, node, Forms, none, ◌⨾◌}
use Rattle.smt_terms.specs.Equal.{name_eq}
use Rattle.smt_terms.specs.Models.{Row, Graph, rows_allowed}
use Rattle.smt_terms.specs.Rank.{is_sort}
use Rattle.smt_terms.specs.Sorts.{Name, Sort, bool, int, free_sort, Symbol, Variable}
use Rattle.smt_terms.specs.Values.{Value, truth, Sizes, is_value, are_values}
use Rattle.smt_terms.proofs.Equal.{name_same, name_itself}
use Rattle.smt_terms.proofs.Tests.{both_true, and_true, both_false, not_true}
use Rattle.script_terms.specs.Parts.{place_of, symbol_in, is_name}
use Rattle.script_read.specs.Commands.{Signature}
use Rattle.script_read.specs.Printable.{sort_is_live}
use Rattle.model_texts.specs.Refusals.{Refused, model_form, model_sort, model_twice, not_a_table}
use Rattle.model_texts.specs.Reading.{Element, with_element, sizes, Reading, ◌>>=◌, gives, refuses}
use Rattle.model_texts.specs.ValueForms.{is_sort_form, value_in}
use Rattle.model_texts.specs.Tables.{Side, holds, written, Equation, parameter_named, names_each_once, equations, Key, side_value, keys_of, key_named, condition_values, condition, value_everywhere, row_first, body_in}
use Rattle.model_texts.specs.Entries.{Parameter, Entry, function, sort_name, elements, entry_in, symbol_among, symbol_named, table_symbol, Given, have_sorts, variables, with_table, function_given, elements_met, sort_given, entry_given, entries_given}
use Rattle.model_texts.specs.Proper.{rank_is_live, is_table_name, IsProper}
use Rattle.model_texts.specs.GivenFits.{row_fits, table_fits, fits_symbol, given_fits, names_apart, AtLeast, are_elements_of, has_sorts, AreFit}
use Rattle.model_texts.proofs.GivenModels.{found_symbol}
use Rattle.model_texts.proofs.Readings.{same_answer, no_answer, Keeps, in_steps}
use Rattle.model_texts.proofs.MoreElements.{sizes_grow, at_least_before, elements_more}
use Rattle.model_texts.proofs.EquationsOf.{SideFits, IsEquationOf, AreEquationsOf, found_again, equations_are_of, no_equations}
use Rattle.model_texts.proofs.ParametersOf.{they_differ, parameters_of, entry_differ, variable_sorts, AreFirst, variables_first}
use Rattle.model_texts.proofs.ElementsKept.{keeps_value, keeps_keys, keeps_condition, keeps_body, live_variables, rank_of_named, keeps_entry, keeps_entries}

-- a value that was read is one of its sort, whatever the sizes are that have room for the elements that were met
abbrev pub ReadValuesFit : Type 0
ReadValuesFit = (f : Form) (s : Sort) (es fs : List Element) (v : Value) → is_sort s ≡ true → value_in f s es ≡ Ok (v, fs) → (counts : Sizes) → AtLeast fs counts → is_value s counts v ≡ true

-- no sort has fewer elements than these
abbrev pub NoFewer : List Element → List Element → Type 0
NoFewer es fs = (m : Name) → sizes es m ≤ sizes fs m

-- ---- values of parameters

count_one : (es : List Equation) (e : Equation) (n : Name) → count_by (λ (d : Equation). name_eq d.parameter.name n) (e ∷ es) ≡ 1 → name_eq e.parameter.name n ≡ false
    → count_by (λ (d : Equation). name_eq d.parameter.name n) es ≡ 1
count_one es e n one other =
    let parts : count_by (λ (d : Equation). name_eq d.parameter.name n) (e ∷ es) ≡ cond {A = ℕ} (name_eq e.parameter.name n) 1 0 + count_by (λ (d : Equation). name_eq d.parameter.name n) es =
    sum_by-cons (λ (d : Equation). cond (name_eq d.parameter.name n) 1 0) e es in
    let nothing : cond {A = ℕ} (name_eq e.parameter.name n) 1 0 ≡ 0 = ap (λ b. cond {A = ℕ} b 1 0) other in
    omega (arith, parts, nothing, one)

module _ (values_fit : ReadValuesFit) (ns : List Name) where
  none_fewer : (es : List Element) (s n : Name) (fs : List Element) → is_among ns s ≡ true → NoFewer es fs → NoFewer es (with_element s n fs)
  none_fewer es s n fs live h = sizes_grow (sizes es) s n fs h

  -- parameters have live sorts of the profile
  pub record AreUsable (xs : List Variable) : Type 0 where
    pub live : (x : Variable) → parameter_named xs x.name ≡ Some x → sort_is_live ns x.sort ≡ true
    pub sorts : (x : Variable) → parameter_named xs x.name ≡ Some x → is_sort x.sort ≡ true

  side_fits : (s : Sort) (side : Side) (es fs : List Element) (v : Value) → SideFits s side → is_sort s ≡ true → side_value s side es ≡ Ok (v, fs) → (counts : Sizes) → AtLeast fs counts → is_value s counts v ≡ true
  side_fits s (holds b) es fs v fits sort h counts least =
      ap (λ u. is_value s counts u) (ap (λ q. q.0) (sym (same_answer (truth b, es) (v, fs) h))) ∙ ap (λ t. is_value t counts (truth b)) fits
  side_fits s (written f) es fs v fits sort h counts least = values_fit f s es fs v sort h counts least

  module _ (xs : List Variable) (usable : AreUsable xs) where
    key_fits : (ds : List Equation) (es fs : List Element) (ks : List Key) → AreEquationsOf xs ds → keys_of ds es ≡ Ok (ks, fs) → (counts : Sizes) → AtLeast fs counts
        → (x : Variable) → parameter_named xs x.name ≡ Some x → count_by (λ (d : Equation). name_eq d.parameter.name x.name) ds ≡ 1 → is_value x.sort counts (key_named ks x.name) ≡ true
    key_fits [] es fs ks are h counts least x own one = absurd (omega (arith, one))
    key_fits (d ∷ ds) es fs ks are h counts least x own one =
        let first = in_steps (side_value d.parameter.sort d.side) (λ v. keys_of ds >>= λ js. gives (record { name = d.parameter.name; value = v } ∷ js)) es ks fs h in
        let second = in_steps (keys_of ds) (λ js. gives (record { name = d.parameter.name; value = first.0 } ∷ js)) first.1.0 ks fs first.1.1.1 in
        let last = same_answer (record { name = d.parameter.name; value = first.0 } ∷ second.0, second.1.0) (ks, fs) second.1.1.1 in
        let still : keys_of ds first.1.0 ≡ Ok (second.0, fs) = second.1.1.0 ∙ ap (λ q. Ok (second.0, q.1)) last in
        let fit : is_value d.parameter.sort counts first.0 ≡ true =
        side_fits d.parameter.sort d.side es first.1.0 first.0 are.0.side (usable.sorts d.parameter are.0.named) first.1.1.0 counts
        (at_least_before (keys_of ds) first.1.0 fs second.0 (keeps_keys ns (NoFewer first.1.0) (none_fewer first.1.0) xs ds usable.live are.1) still counts least) in
        ap (λ q. is_value x.sort counts (key_named q.0 x.name)) (sym last)
        ∙ by (name_eq d.parameter.name x.name) refl first.0 second.0 fit (λ other. key_fits ds first.1.0 fs second.0 are.1 still counts least x own (count_one ds d x.name one other))
      where
        by : (b : Bool) → name_eq d.parameter.name x.name ≡ b → (v : Value) (js : List Key) → is_value d.parameter.sort counts v ≡ true
            → (name_eq d.parameter.name x.name ≡ false → is_value x.sort counts (key_named js x.name) ≡ true) → is_value x.sort counts (if b then v else key_named js x.name) ≡ true
        by true e v js fit rest =
            let same : d.parameter ≡ x = same_Some d.parameter x (sym are.0.named ∙ ap (parameter_named xs) (name_same d.parameter.name x.name e) ∙ own) in
            ap (λ (y : Variable). is_value y.sort counts v) (sym same) ∙ fit
        by false e v js fit rest = rest e

    all_keys_fit : (ds : List Equation) (ks : List Key) (counts : Sizes)
        → ((x : Variable) → parameter_named xs x.name ≡ Some x → count_by (λ (d : Equation). name_eq d.parameter.name x.name) ds ≡ 1 → is_value x.sort counts (key_named ks x.name) ≡ true)
        → (ys : List Variable) → AreFirst xs ys → names_each_once ys ds ≡ true → are_values (map (λ (y : Variable). y.sort) ys) counts (map (λ (y : Variable). key_named ks y.name) ys) ≡ true
    all_keys_fit ds ks counts fit [] own once = refl
    all_keys_fit ds ks counts fit (y ∷ ys) own once =
        let parts = both_true (count_by (λ (d : Equation). name_eq d.parameter.name y.name) ds == 1) (names_each_once ys ds) once in
        and_true (is_value y.sort counts (key_named ks y.name)) (are_values (map (λ (z : Variable). z.sort) ys) counts (map (λ (z : Variable). key_named ks z.name) ys))
        (fit y own.0 (eqb-true (count_by (λ (d : Equation). name_eq d.parameter.name y.name) ds) 1 parts.0)) (all_keys_fit ds ks counts fit ys own.1 parts.1)

    chosen_fits : (place : ℕ) (o : Option (List Equation)) (es fs : List Element) (vs : List Value) → AreFirst xs xs
        → ((ds : List Equation) → o ≡ Some ds → AreEquationsOf xs ds × (names_each_once xs ds ≡ true)) → condition_values place xs o es ≡ Ok (vs, fs) → (counts : Sizes) → AtLeast fs counts
        → are_values (map (λ (x : Variable). x.sort) xs) counts vs ≡ true
    chosen_fits place None es fs vs own are h counts least = absurd (no_answer (record { cause = not_a_table; place = place }) (vs, fs) h)
    chosen_fits place (Some ds) es fs vs own are h counts least =
        let steps = in_steps (keys_of ds) (λ ks. gives (map (λ (x : Variable). key_named ks x.name) xs)) es vs fs h in
        let last = same_answer (map (λ (x : Variable). key_named steps.0 x.name) xs, steps.1.0) (vs, fs) steps.1.1.1 in
        let still : keys_of ds es ≡ Ok (steps.0, fs) = steps.1.1.0 ∙ ap (λ q. Ok (steps.0, q.1)) last in
        ap (λ q. are_values (map (λ (x : Variable). x.sort) xs) counts q.0) (sym last)
        ∙ all_keys_fit ds steps.0 counts (key_fits ds es fs steps.0 (are ds refl).0 still counts least) xs own (are ds refl).1

    pub condition_fits : (c : Form) (es fs : List Element) (vs : List Value) → AreFirst xs xs → condition xs c es ≡ Ok (vs, fs) → (counts : Sizes) → AtLeast fs counts
        → are_values (map (λ (x : Variable). x.sort) xs) counts vs ≡ true
    condition_fits c es fs vs own h counts least = chosen_fits (place_of c) (equations xs c) es fs vs own (equations_are_of xs c) h counts least

  -- ---- bodies

  no_condition : (c : Form) (es fs : List Element) (vs : List Value) → condition [] c es ≡ Ok (vs, fs) → ⊥
  no_condition c es fs vs h =
      no_answer (record { cause = not_a_table; place = place_of c }) (vs, fs) (sym (ap (λ o. condition_values (place_of c) [] o es) (no_equations c)) ∙ h)

  allowed : (args : List Sort) (r : Row) (rs : List Row) → (args ≡ [] → ⊥) → rows_allowed args (r ∷ rs) ≡ true
  allowed [] r rs some = absurd (some refl)
  allowed (s ∷ ss) r rs some = refl

  none_allowed : (args : List Sort) → rows_allowed args [] ≡ true
  none_allowed [] = refl
  none_allowed (s ∷ ss) = refl

  module _ (f : Symbol) (ps : List Parameter) (sorts : have_sorts f.args ps ≡ true) (differ : they_differ ps ≡ true) (live : rank_is_live ns f ≡ true) (fine : has_sorts f ≡ true) where
    abbrev xs : List Variable
    xs = variables f.args ps

    parts : (sort_is_live ns f.result ≡ true) × (list_all (sort_is_live ns) f.args ≡ true)
    parts = both_true (sort_is_live ns f.result) (list_all (sort_is_live ns) f.args) live

    usable_sorts : (ss : List Sort) (qs : List Parameter) (n : Name) (x : Variable) → list_all is_sort ss ≡ true → parameter_named (variables ss qs) n ≡ Some x → is_sort x.sort ≡ true
    usable_sorts [] qs n x all h = absurd (none-some x h)
    usable_sorts (s ∷ ss) [] n x all h = absurd (none-some x h)
    usable_sorts (s ∷ ss) (q ∷ qs) n x all h =
        let here = both_true (is_sort s) (list_all is_sort ss) all in
        by (name_eq q.name n) h here.0 (usable_sorts ss qs n x here.1)
      where
        by : (b : Bool) → (if b then Some (record { name = q.name; sort = s }) else parameter_named (variables ss qs) n) ≡ Some x → is_sort s ≡ true
            → (parameter_named (variables ss qs) n ≡ Some x → is_sort x.sort ≡ true) → is_sort x.sort ≡ true
        by true h here rest = ap (λ (y : Variable). is_sort y.sort) (sym (same_Some (record { name = q.name; sort = s }) x h)) ∙ here
        by false h here rest = rest h

    usable : AreUsable xs
    usable = record {
      live = λ x h. live_variables ns (λ _. Unit {0}) (λ s n es l u. tt) f.args ps x.name x parts.1 h;
      sorts = λ x h. usable_sorts f.args ps x.name x (both_true (is_sort f.result) (list_all is_sort f.args) fine).1 h;
    }

    value_fits_result : (b : Form) (es fs : List Element) (v : Value) → value_in b f.result es ≡ Ok (v, fs) → (counts : Sizes) → AtLeast fs counts → is_value f.result counts v ≡ true
    value_fits_result b es fs v h counts least = values_fit b f.result es fs v (both_true (is_sort f.result) (list_all is_sort f.args) fine).0 h counts least

    everywhere_fits : (b : Form) (es fs : List Element) (g : Graph) → value_everywhere (value_in b f.result) es ≡ Ok (g, fs) → (counts : Sizes) → AtLeast fs counts → table_fits f counts g ≡ true
    everywhere_fits b es fs g h counts least =
        let steps = in_steps (value_in b f.result) (λ v. gives (record { rows = []; otherwise = v })) es g fs h in
        let last = same_answer (record { rows = []; otherwise = steps.0 }, steps.1.0) (g, fs) steps.1.1.1 in
        ap (λ q. table_fits f counts q.0) (sym last)
        ∙ and_true (is_value f.result counts steps.0) (true && rows_allowed f.args [])
        (value_fits_result b es fs steps.0 (steps.1.1.0 ∙ ap (λ q. Ok (steps.0, q.1)) last) counts least) (none_allowed f.args)

    some_arguments : (c : Form) (es fs : List Element) (vs : List Value) → condition xs c es ≡ Ok (vs, fs) → f.args ≡ [] → ⊥
    some_arguments c es fs vs h bare = no_condition c es fs vs (ap (λ ss. condition (variables ss ps) c es) (sym bare) ∙ h)

    row_more_fits : (ks : List Value) (v : Value) (g : Graph) (counts : Sizes) → are_values f.args counts ks ≡ true → is_value f.result counts v ≡ true → (f.args ≡ [] → ⊥) → table_fits f counts g ≡ true
        → table_fits f counts record { rows = record { keys = ks; result = v } ∷ g.rows; otherwise = g.otherwise } ≡ true
    row_more_fits ks v g counts keys value some fits =
        let r : Row = record { keys = ks; result = v } in
        let a = both_true (is_value f.result counts g.otherwise) (list_all (row_fits f counts) g.rows && rows_allowed f.args g.rows) fits in
        let b = both_true (list_all (row_fits f counts) g.rows) (rows_allowed f.args g.rows) a.1 in
        and_true (is_value f.result counts g.otherwise) (list_all (row_fits f counts) (r ∷ g.rows) && rows_allowed f.args (r ∷ g.rows)) a.0
        (and_true (list_all (row_fits f counts) (r ∷ g.rows)) (rows_allowed f.args (r ∷ g.rows))
        (and_true (row_fits f counts r) (list_all (row_fits f counts) g.rows) (and_true (are_values f.args counts ks) (is_value f.result counts v) keys value) b.0)
        (allowed f.args r g.rows some))

    row_fits_too : (c v b : Form) (es fs : List Element) (g : Graph)
        → ((ds : List Element) (h : Graph) → body_in b xs f.result ds ≡ Ok (h, fs) → (counts : Sizes) → AtLeast fs counts → table_fits f counts h ≡ true)
        → row_first (condition xs c) (value_in v f.result) (body_in b xs f.result) es ≡ Ok (g, fs) → (counts : Sizes) → AtLeast fs counts → table_fits f counts g ≡ true
    row_fits_too c v b es fs g rest h counts least =
        let body = body_in b xs f.result in
        let one = in_steps (condition xs c) (λ ks. value_in v f.result >>= λ u. body >>= λ k. gives (record { rows = record { keys = ks; result = u } ∷ k.rows; otherwise = k.otherwise })) es g fs h in
        let two = in_steps (value_in v f.result) (λ u. body >>= λ k. gives (record { rows = record { keys = one.0; result = u } ∷ k.rows; otherwise = k.otherwise })) one.1.0 g fs one.1.1.1 in
        let three = in_steps body (λ k. gives (record { rows = record { keys = one.0; result = two.0 } ∷ k.rows; otherwise = k.otherwise })) two.1.0 g fs two.1.1.1 in
        let last = same_answer (record { rows = record { keys = one.0; result = two.0 } ∷ three.0.rows; otherwise = three.0.otherwise }, three.1.0) (g, fs) three.1.1.1 in
        let still : body two.1.0 ≡ Ok (three.0, fs) = three.1.1.0 ∙ ap (λ q. Ok (three.0, q.1)) last in
        let least-two : AtLeast two.1.0 counts = at_least_before body two.1.0 fs three.0 (keeps_body ns (NoFewer two.1.0) (none_fewer two.1.0) b xs f.result usable.live parts.0) still counts least in
        let least-one : AtLeast one.1.0 counts = at_least_before (value_in v f.result) one.1.0 two.1.0 two.0 (keeps_value ns (NoFewer one.1.0) (none_fewer one.1.0) v f.result parts.0) two.1.1.0 counts least-two in
        ap (λ q. table_fits f counts q.0) (sym last)
        ∙ row_more_fits one.0 two.0 three.0 counts
        (ap (λ ss. are_values ss counts one.0) (sym (variable_sorts f.args ps sorts)) ∙ condition_fits xs usable c es one.1.0 one.0 (variables_first f.args ps sorts differ) one.1.1.0 counts least-one)
        (value_fits_result v one.1.0 two.1.0 two.0 two.1.1.0 counts least-two)
        (some_arguments c es one.1.0 one.0 one.1.1.0)
        (rest two.1.0 three.0 still counts least)

    either_body : (c : Bool) (r q : Reading Graph) (es fs : List Element) (g : Graph) (P : Type 0) → (r es ≡ Ok (g, fs) → P) → (q es ≡ Ok (g, fs) → P) → (if c then r else q) es ≡ Ok (g, fs) → P
    either_body true r q es fs g P first second h = first h
    either_body false r q es fs g P first second h = second h

    pub body_fits : (b : Form) (es fs : List Element) (g : Graph) → body_in b xs f.result es ≡ Ok (g, fs) → (counts : Sizes) → AtLeast fs counts → table_fits f counts g ≡ true
    body_fits (atom t) es fs g h counts least = everywhere_fits (atom t) es fs g h counts least
    body_fits (node place none) es fs g h counts least = everywhere_fits (node place none) es fs g h counts least
    body_fits (node place (k ⨾ none)) es fs g h counts least = everywhere_fits (node place (k ⨾ none)) es fs g h counts least
    body_fits (node place (k ⨾ c ⨾ none)) es fs g h counts least = everywhere_fits (node place (k ⨾ c ⨾ none)) es fs g h counts least
    body_fits (node place (k ⨾ c ⨾ v ⨾ none)) es fs g h counts least = everywhere_fits (node place (k ⨾ c ⨾ v ⨾ none)) es fs g h counts least
    body_fits (node place (k ⨾ c ⨾ v ⨾ b ⨾ none)) es fs g h counts least =
        either_body (is_name (codes "ite") (symbol_in k)) (row_first (condition xs c) (value_in v f.result) (body_in b xs f.result)) (value_everywhere (value_in (node place (k ⨾ c ⨾ v ⨾ b ⨾ none)) f.result)) es fs g
        (table_fits f counts g ≡ true)
        (λ e. row_fits_too c v b es fs g (λ ds d k. body_fits b ds fs d k) e counts least)
        (λ e. everywhere_fits (node place (k ⨾ c ⨾ v ⨾ b ⨾ none)) es fs g e counts least) h
    body_fits (node place (k ⨾ c ⨾ v ⨾ b ⨾ w ⨾ ws)) es fs g h counts least = everywhere_fits (node place (k ⨾ c ⨾ v ⨾ b ⨾ w ⨾ ws)) es fs g h counts least

-- ---- entries

-- a table more, of a name that had none
all_and : (test : Given → Bool) (gs : List Given) (g : Given) → list_all test gs ≡ true → test g ≡ true → list_all test (gs ++ g ∷ []) ≡ true
all_and test [] g h one = and_true (test g) true one refl
all_and test (k ∷ gs) g h one =
    let parts = both_true (test k) (list_all test gs) h in
    and_true (test k) (list_all test (gs ++ g ∷ [])) parts.0 (all_and test gs g parts.1 one)

among_and : (gs : List Given) (g : Given) (n : Name) → is_among (map (λ (h : Given). h.name) gs) n ≡ false → name_eq n g.name ≡ false → is_among (map (λ (h : Given). h.name) (gs ++ g ∷ [])) n ≡ false
among_and [] g n h differs = ap (λ b. b || false) differs
among_and (k ∷ gs) g n h differs =
    let parts = both_false (name_eq n k.name) (is_among (map (λ (h : Given). h.name) gs) n) h in
    ap (λ b. b || is_among (map (λ (h : Given). h.name) (gs ++ g ∷ [])) n) parts.0 ∙ among_and gs g n parts.1 differs

name_turned : (m n : Name) → name_eq m n ≡ false → name_eq n m ≡ false
name_turned m n h = by (name_eq n m) refl
  where
    by : (b : Bool) → name_eq n m ≡ b → name_eq n m ≡ false
    by true e = absurd (true≢false (sym (name_itself m) ∙ ap (name_eq m) (sym (name_same n m e)) ∙ h))
    by false e = e

apart_and : (gs : List Given) (g : Given) → names_apart gs ≡ true → is_among (map (λ (h : Given). h.name) gs) g.name ≡ false → names_apart (gs ++ g ∷ []) ≡ true
apart_and [] g h new = refl
apart_and (k ∷ gs) g h new =
    let parts = both_true (not (is_among (map (λ (h : Given). h.name) gs) k.name)) (names_apart gs) h in
    let others = both_false (name_eq g.name k.name) (is_among (map (λ (h : Given). h.name) gs) g.name) new in
    and_true (not (is_among (map (λ (h : Given). h.name) (gs ++ g ∷ [])) k.name)) (names_apart (gs ++ g ∷ []))
    (ap not (among_and gs g k.name (not_true (is_among (map (λ (h : Given). h.name) gs) k.name) parts.0) (name_turned g.name k.name others.0)))
    (apart_and gs g parts.1 others.1)

module _ (values_fit : ReadValuesFit) (sig : Signature) (proper : IsProper sig) (fine : list_all has_sorts sig.symbols ≡ true) where
  every_sort : (fs : List Symbol) (n : Name) (f : Symbol) → list_all has_sorts fs ≡ true → symbol_among fs n ≡ Some f → has_sorts f ≡ true
  every_sort [] n f all h = absurd (none-some f h)
  every_sort (g ∷ fs) n f all h =
      let parts = both_true (has_sorts g) (list_all has_sorts fs) all in
      by (name_eq g.name n) h parts.0 (every_sort fs n f parts.1)
    where
      by : (b : Bool) → (if b then Some g else symbol_among fs n) ≡ Some f → has_sorts g ≡ true → (symbol_among fs n ≡ Some f → has_sorts f ≡ true) → has_sorts f ≡ true
      by true h here rest = ap has_sorts (sym (same_Some g f h)) ∙ here
      by false h here rest = rest h

  sorts_of_named : (n : Name) (f : Symbol) → symbol_named sig n ≡ Some f → has_sorts f ≡ true
  sorts_of_named n f h = by (is_table_name n) h
    where
      by : (b : Bool) → (if b then Some (table_symbol n) else symbol_among sig.symbols n) ≡ Some f → has_sorts f ≡ true
      by true h = ap has_sorts (sym (same_Some (table_symbol n) f h))
      by false h = every_sort sig.symbols n f fine h

  -- the symbol of a name is found by its own name
  pub named_again : (n : Name) (f : Symbol) → symbol_named sig n ≡ Some f → (f.name ≡ n) × (symbol_named sig f.name ≡ Some f)
  named_again n f h = let same = by (is_table_name n) h in (same, ap (symbol_named sig) same ∙ h)
    where
      by : (b : Bool) → (if b then Some (table_symbol n) else symbol_among sig.symbols n) ≡ Some f → f.name ≡ n
      by true h = ap (λ (g : Symbol). g.name) (sym (same_Some (table_symbol n) f h))
      by false h = (found_symbol sig.symbols n f h).0

  entry_grows : (gs : List Given) (place : ℕ) (e : Option Entry) (es fs : List Element) (hs : List Given) → entry_given sig gs place e es ≡ Ok (hs, fs) → (counts : Sizes) → AtLeast fs counts → AtLeast es counts
  entry_grows gs place e es fs hs h =
      at_least_before (entry_given sig gs place e) es fs hs (keeps_entry sig proper (NoFewer es) (λ s n ds live k. sizes_grow (sizes es) s n ds k) gs place e) h

  entry_elements : (gs : List Given) (place : ℕ) (e : Option Entry) (es fs : List Element) (hs : List Given) → entry_given sig gs place e es ≡ Ok (hs, fs) → are_elements_of sig.sorts es ≡ true → are_elements_of sig.sorts fs ≡ true
  entry_elements gs place e es fs hs h =
      keeps_entry sig proper (λ ds. are_elements_of sig.sorts ds ≡ true) (λ s n ds live k. elements_more sig.sorts s n ds live k) gs place e es fs hs h

  still_fit : (es fs : List Element) (gs hs : List Given) → AreFit sig es gs → gs ≡ hs → ((counts : Sizes) → AtLeast fs counts → AtLeast es counts) → are_elements_of sig.sorts fs ≡ true → AreFit sig fs hs
  still_fit es fs gs hs fit same grows live = record {
    fit = λ counts least. ap (list_all (given_fits sig counts)) (sym same) ∙ fit.fit counts (grows counts least);
    apart = ap names_apart (sym same) ∙ fit.apart;
    elements = live;
  }

  nothing_met : (s : Sort) (vs : Forms) (gs hs : List Given) (es fs : List Element) → elements_met s vs gs es ≡ Ok (hs, fs) → gs ≡ hs
  nothing_met s none gs hs es fs h = ap (λ q. q.0) (same_answer (gs, es) (hs, fs) h)
  nothing_met s (v ⨾ vs) gs hs es fs h =
      let steps = in_steps (value_in v s) (λ u. elements_met s vs gs) es hs fs h in
      nothing_met s vs gs hs steps.1.0 fs steps.1.1.1

  nothing_given : (ns : List Name) (s : Form) (vs : Forms) (gs hs : List Given) (es fs : List Element) → sort_given ns s vs gs es ≡ Ok (hs, fs) → gs ≡ hs
  nothing_given [] s vs gs hs es fs h = ap (λ q. q.0) (same_answer (gs, es) (hs, fs) h)
  nothing_given (n ∷ ns) s vs gs hs es fs h = by (is_sort_form (free_sort n) s) h (nothing_given ns s vs gs hs es fs)
    where
      by : (b : Bool) → (if b then elements_met (free_sort n) vs gs else sort_given ns s vs gs) es ≡ Ok (hs, fs) → (sort_given ns s vs gs es ≡ Ok (hs, fs) → gs ≡ hs) → gs ≡ hs
      by true h rest = nothing_met (free_sort n) vs gs hs es fs h
      by false h rest = rest h

  module _ (place : ℕ) (gs hs : List Given) (n : Name) (ps : List Parameter) (s b : Form) (es fs : List Element) (fit : AreFit sig es gs) (differ : they_differ ps ≡ true)
      (grows : (counts : Sizes) → AtLeast fs counts → AtLeast es counts) (live : are_elements_of sig.sorts fs ≡ true) where
    table_is_fit : (f : Symbol) → symbol_named sig n ≡ Some f → is_among (map (λ (g : Given). g.name) gs) f.name ≡ false → have_sorts f.args ps ≡ true → with_table gs f ps b es ≡ Ok (hs, fs) → AreFit sig fs hs
    table_is_fit f named new sorts h =
        let steps = in_steps (body_in b (variables f.args ps) f.result) (λ g. gives (gs ++ record { name = f.name; graph = g } ∷ [])) es hs fs h in
        let g : Given = record { name = f.name; graph = steps.0 } in
        let last = same_answer (gs ++ g ∷ [], steps.1.0) (hs, fs) steps.1.1.1 in
        let still : body_in b (variables f.args ps) f.result es ≡ Ok (steps.0, fs) = steps.1.1.0 ∙ ap (λ q. Ok (steps.0, q.1)) last in
        record {
          fit = λ counts least.
              ap (λ q. list_all (given_fits sig counts) q.0) (sym last)
              ∙ all_and (given_fits sig counts) gs g (fit.fit counts (grows counts least))
              (ap (fits_symbol counts steps.0) (named_again n f named).1
              ∙ body_fits values_fit sig.sorts f ps sorts differ (rank_of_named sig proper n f named) (sorts_of_named n f named) b es fs steps.0 still counts least);
          apart = ap (λ q. names_apart q.0) (sym last) ∙ apart_and gs g fit.apart new;
          elements = live;
        }

    checked_fit : (f : Symbol) → symbol_named sig n ≡ Some f → (a c d : Bool) → is_among (map (λ (g : Given). g.name) gs) f.name ≡ a → have_sorts f.args ps ≡ c
        → (if a then refuses model_twice place else (if c && d then with_table gs f ps b else refuses model_sort place)) es ≡ Ok (hs, fs) → AreFit sig fs hs
    checked_fit f named true c d twice sorts h = absurd (no_answer (record { cause = model_twice; place = place }) (hs, fs) h)
    checked_fit f named false true true twice sorts h = table_is_fit f named twice sorts h
    checked_fit f named false true false twice sorts h = absurd (no_answer (record { cause = model_sort; place = place }) (hs, fs) h)
    checked_fit f named false false d twice sorts h = absurd (no_answer (record { cause = model_sort; place = place }) (hs, fs) h)

    function_fit : (o : Option Symbol) → symbol_named sig n ≡ o → function_given place gs o ps s b es ≡ Ok (hs, fs) → AreFit sig fs hs
    function_fit None named h = still_fit es fs gs hs fit (ap (λ q. q.0) (same_answer (gs, es) (hs, fs) h)) grows live
    function_fit (Some f) named h = checked_fit f named (is_among (map (λ (g : Given). g.name) gs) f.name) (have_sorts f.args ps) (is_sort_form f.result s) refl refl h

  entry_fit : (gs hs : List Given) (place : ℕ) (o : Option Entry) (es fs : List Element) → AreFit sig es gs → they_differ (parameters_of o) ≡ true → entry_given sig gs place o es ≡ Ok (hs, fs) → AreFit sig fs hs
  entry_fit gs hs place None es fs fit differ h = absurd (no_answer (record { cause = model_form; place = place }) (hs, fs) h)
  entry_fit gs hs place (Some sort_name) es fs fit differ h =
      still_fit es fs gs hs fit (ap (λ q. q.0) (same_answer (gs, es) (hs, fs) h)) (entry_grows gs place (Some sort_name) es fs hs h) (entry_elements gs place (Some sort_name) es fs hs h fit.elements)
  entry_fit gs hs place (Some (elements s vs)) es fs fit differ h =
      still_fit es fs gs hs fit (nothing_given sig.sorts s vs gs hs es fs h) (entry_grows gs place (Some (elements s vs)) es fs hs h) (entry_elements gs place (Some (elements s vs)) es fs hs h fit.elements)
  entry_fit gs hs place (Some (function n ps s b)) es fs fit differ h =
      function_fit place gs hs n ps s b es fs fit differ (entry_grows gs place (Some (function n ps s b)) es fs hs h) (entry_elements gs place (Some (function n ps s b)) es fs hs h fit.elements)
      (symbol_named sig n) refl h

  -- what entries give fits, where what was given before does
  pub entries_fit : (fs : Forms) (gs hs : List Given) (es ds : List Element) → AreFit sig es gs → entries_given sig gs fs es ≡ Ok (hs, ds) → AreFit sig ds hs
  entries_fit none gs hs es ds fit h =
      let same = same_answer (gs, es) (hs, ds) h in
      still_fit es ds gs hs fit (ap (λ q. q.0) same) (λ counts least. subst (λ q. AtLeast q counts) (sym (ap (λ q. q.1) same)) least) (ap (are_elements_of sig.sorts) (sym (ap (λ q. q.1) same)) ∙ fit.elements)
  entries_fit (f ⨾ fs) gs hs es ds fit h =
      let steps = in_steps (entry_given sig gs (place_of f) (entry_in f)) (λ ks. entries_given sig ks fs) es hs ds h in
      entries_fit fs steps.0 hs steps.1.0 ds (entry_fit gs steps.0 (place_of f) (entry_in f) es steps.1.0 fit (entry_differ f) steps.1.1.0) steps.1.1.1

  pub nothing_fits : AreFit sig [] []
  nothing_fits = record { fit = λ counts least. refl; apart = refl; elements = refl }
