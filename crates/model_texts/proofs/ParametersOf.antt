-- Parameters of functions: they have distinct names, and the variables that they are have the sorts of the arguments.
use Rattle.std.proofs.Common.{◌≡◌, ◌∙◌, sym, ap, subst, refl, ℕ, zero, suc, Bool, true, false, not, if◌then◌else◌, ◌&&◌, ◌||◌, List, [], ◌∷◌, map, codes, Option, Some, None, true≢false}
use Rattle.std.specs.Prelude.{option_and_then}
use Rattle.std.proofs.lemmas.Option.{none-some, same_Some}
use Rattle.smt_lex.specs.Names.{is_among}
use Rattle.smt_lex.specs.Forms.{Form, atom, node, Forms, none, ◌⨾◌}
use Rattle.smt_terms.specs.Equal.{name_eq}
use Rattle.smt_terms.specs.Sorts.{Name, Sort, Variable}
use Rattle.smt_terms.proofs.Equal.{name_itself}
use Rattle.smt_terms.proofs.Tests.{both_true, and_true, both_false, not_true}
use Rattle.script_terms.specs.Parts.{symbol_in, word_in, is_name, numeral_in}
use Rattle.script_read.specs.Outlines.{list_in}
use Rattle.model_texts.specs.ValueForms.{is_sort_form}
use Rattle.model_texts.specs.Tables.{parameter_named}
use Rattle.model_texts.specs.Entries.{Parameter, Entry, function, sort_name, elements, with_parameter, parameters_in, function_entry, function_in, sort_entry, sort_name_in, elements_in, entry_by, entry_in, have_sorts, variables}

abbrev pub parameter_names : List Parameter → List Name
parameter_names ps = map (λ p. p.name) ps

abbrev pub they_differ : List Parameter → Bool
they_differ [] = true
they_differ (p ∷ ps) = not (is_among (parameter_names ps) p.name) && they_differ ps

not_false : (b : Bool) → b ≡ false → not b ≡ true
not_false b h = ap not h

with_differ : (s : Form) (o : Option Name) (r : Option (List Parameter)) (ps : List Parameter) → ((qs : List Parameter) → r ≡ Some qs → they_differ qs ≡ true) → with_parameter s o r ≡ Some ps → they_differ ps ≡ true
with_differ s None r ps rest h = absurd (none-some ps h)
with_differ s (Some n) None ps rest h = absurd (none-some ps h)
with_differ s (Some n) (Some qs) ps rest h = by (is_among (parameter_names qs) n) refl h
  where
    by : (b : Bool) → is_among (parameter_names qs) n ≡ b → (if b then None else Some (record { name = n; sort = s } ∷ qs)) ≡ Some ps → they_differ ps ≡ true
    by true e h = absurd (none-some ps h)
    by false e h =
        subst (λ ds. they_differ ds ≡ true) (same_Some (record { name = n; sort = s } ∷ qs) ps h)
        (and_true (not (is_among (parameter_names qs) n)) (they_differ qs) (not_false (is_among (parameter_names qs) n) e) (rest qs refl))

pub parameters_differ : (fs : Forms) (ps : List Parameter) → parameters_in fs ≡ Some ps → they_differ ps ≡ true
parameters_differ none ps h = subst (λ ds. they_differ ds ≡ true) (same_Some [] ps h) refl
parameters_differ (atom t ⨾ fs) ps h = absurd (none-some ps h)
parameters_differ (node place none ⨾ fs) ps h = absurd (none-some ps h)
parameters_differ (node place (x ⨾ none) ⨾ fs) ps h = absurd (none-some ps h)
parameters_differ (node place (x ⨾ s ⨾ none) ⨾ fs) ps h = with_differ s (symbol_in x) (parameters_in fs) ps (parameters_differ fs) h
parameters_differ (node place (x ⨾ s ⨾ y ⨾ ys) ⨾ fs) ps h = absurd (none-some ps h)

list_differ : (o : Option Forms) (ps : List Parameter) → option_and_then parameters_in o ≡ Some ps → they_differ ps ≡ true
list_differ None ps h = absurd (none-some ps h)
list_differ (Some fs) ps h = parameters_differ fs ps h

-- ---- entries

abbrev pub parameters_of : Option Entry → List Parameter
parameters_of None = []
parameters_of (Some sort_name) = []
parameters_of (Some (elements s vs)) = []
parameters_of (Some (function n ps s b)) = ps

function_differ : (s b : Form) (o : Option Name) (r : Option (List Parameter)) → ((ps : List Parameter) → r ≡ Some ps → they_differ ps ≡ true) → they_differ (parameters_of (function_entry s b o r)) ≡ true
function_differ s b None r rest = refl
function_differ s b (Some n) None rest = refl
function_differ s b (Some n) (Some ps) rest = rest ps refl

function_in_differ : (fs : Forms) → they_differ (parameters_of (function_in fs)) ≡ true
function_in_differ none = refl
function_in_differ (n ⨾ none) = refl
function_in_differ (n ⨾ ps ⨾ none) = refl
function_in_differ (n ⨾ ps ⨾ s ⨾ none) = refl
function_in_differ (n ⨾ ps ⨾ s ⨾ b ⨾ none) = function_differ s b (symbol_in n) (option_and_then parameters_in (list_in ps)) (list_differ (list_in ps))
function_in_differ (n ⨾ ps ⨾ s ⨾ b ⨾ f ⨾ fs) = refl

no_parameters : (o : Option Name) (k : Option ℕ) → they_differ (parameters_of (sort_entry o k)) ≡ true
no_parameters None k = refl
no_parameters (Some n) None = refl
no_parameters (Some n) (Some zero) = refl
no_parameters (Some n) (Some (suc k)) = refl

sort_in_differ : (fs : Forms) → they_differ (parameters_of (sort_name_in fs)) ≡ true
sort_in_differ none = refl
sort_in_differ (n ⨾ none) = refl
sort_in_differ (n ⨾ i ⨾ none) = no_parameters (symbol_in n) (numeral_in i)
sort_in_differ (n ⨾ i ⨾ f ⨾ fs) = refl

elements_in_differ : (fs : Forms) → they_differ (parameters_of (elements_in fs)) ≡ true
elements_in_differ none = refl
elements_in_differ (s ⨾ vs) = refl

either_entry : (b : Bool) (o p : Option Entry) → they_differ (parameters_of o) ≡ true → they_differ (parameters_of p) ≡ true → they_differ (parameters_of (if b then o else p)) ≡ true
either_entry true o p h k = h
either_entry false o p h k = k

pub entry_differ : (f : Form) → they_differ (parameters_of (entry_in f)) ≡ true
entry_differ (atom t) = refl
entry_differ (node place none) = refl
entry_differ (node place (f ⨾ fs)) =
    let third = if is_name (codes "@sort") (symbol_in f) then elements_in fs else None in
    let second = if is_name (codes "declare-sort") (word_in f) then sort_name_in fs else third in
    either_entry (is_name (codes "define-fun") (word_in f)) (function_in fs) second (function_in_differ fs)
    (either_entry (is_name (codes "declare-sort") (word_in f)) (sort_name_in fs) third (sort_in_differ fs)
    (either_entry (is_name (codes "@sort") (symbol_in f)) (elements_in fs) None (elements_in_differ fs) refl))

-- ---- variables

pub variable_names : (ss : List Sort) (ps : List Parameter) → have_sorts ss ps ≡ true → map (λ (x : Variable). x.name) (variables ss ps) ≡ parameter_names ps
variable_names [] [] h = refl
variable_names [] (p ∷ ps) h = absurd (true≢false (sym h))
variable_names (s ∷ ss) [] h = absurd (true≢false (sym h))
variable_names (s ∷ ss) (p ∷ ps) h = ap (λ ns. p.name ∷ ns) (variable_names ss ps (both_true (is_sort_form s p.sort) (have_sorts ss ps) h).1)

pub variable_sorts : (ss : List Sort) (ps : List Parameter) → have_sorts ss ps ≡ true → map (λ (x : Variable). x.sort) (variables ss ps) ≡ ss
variable_sorts [] [] h = refl
variable_sorts [] (p ∷ ps) h = absurd (true≢false (sym h))
variable_sorts (s ∷ ss) [] h = absurd (true≢false (sym h))
variable_sorts (s ∷ ss) (p ∷ ps) h = ap (λ ts. s ∷ ts) (variable_sorts ss ps (both_true (is_sort_form s p.sort) (have_sorts ss ps) h).1)

-- each of these is the first parameter of its name
abbrev pub AreFirst : List Variable → List Variable → Type 0
AreFirst xs [] = Unit {0}
AreFirst xs (y ∷ ys) = (parameter_named xs y.name ≡ Some y) × AreFirst xs ys

first_behind : (x : Variable) (xs ys : List Variable) → is_among (map (λ (y : Variable). y.name) ys) x.name ≡ false → AreFirst xs ys → AreFirst (x ∷ xs) ys
first_behind x xs [] new are = tt
first_behind x xs (y ∷ ys) new are =
    let parts = both_false (name_eq x.name y.name) (is_among (map (λ (z : Variable). z.name) ys) x.name) new in
    (ap (λ b. if b then Some x else parameter_named xs y.name) parts.0 ∙ are.0, first_behind x xs ys parts.1 are.1)

pub variables_first : (ss : List Sort) (ps : List Parameter) → have_sorts ss ps ≡ true → they_differ ps ≡ true → AreFirst (variables ss ps) (variables ss ps)
variables_first [] [] h d = tt
variables_first [] (p ∷ ps) h d = absurd (true≢false (sym h))
variables_first (s ∷ ss) [] h d = absurd (true≢false (sym h))
variables_first (s ∷ ss) (p ∷ ps) h d =
    let sorts = both_true (is_sort_form s p.sort) (have_sorts ss ps) h in
    let apart = both_true (not (is_among (parameter_names ps) p.name)) (they_differ ps) d in (
      ap (λ b. if b then Some (record { name = p.name; sort = s }) else parameter_named (variables ss ps) p.name) (name_itself p.name),
      first_behind (record { name = p.name; sort = s }) (variables ss ps) (variables ss ps)
          (ap (λ ns. is_among ns p.name) (variable_names ss ps sorts.1) ∙ not_true (is_among (parameter_names ps) p.name) apart.0)
          (variables_first ss ps sorts.1 apart.1),
    )
