-- The parameters of printed functions are read: their names are distinct, and their sorts are those of the arguments.
use Rattle.std.proofs.Common.{◌≡◌, ℕ, suc, ◌<◌, true, false, Some, List, [], ◌∷◌, map, drop, refl, ap, ◌∙◌, arith}
use Rattle.smt_lex.specs.Names.{is_among}
use Rattle.smt_lex.specs.Forms.{Forms, none, ◌⨾◌, forms_of_list}
use Rattle.smt_terms.specs.Equal.{name_eq}
use Rattle.smt_terms.specs.Sorts.{Name, Sort, Variable}
use Rattle.smt_terms.proofs.Equal.{names_differ}
use Rattle.smt_terms.proofs.Numeral.{numeral-injective}
use Rattle.smt_terms.proofs.Tests.{and_true, or_false}
use Rattle.script_read.proofs.FormTexts.{end_of, placed, placed_in, placed_behind}
use Rattle.term_table.specs.WrittenForms.{symbol_form, sort_form, variable_form}
use Rattle.smt_print.proofs.SymbolsRead.{symbol_read}
use Rattle.model_texts.specs.ValueForms.{is_sort_form}
use Rattle.model_texts.specs.Entries.{Parameter, with_parameter, parameters_in, have_sorts, variables}
use Rattle.model_texts.specs.ModelLines.{parameter_name, parameters}
use Rattle.model_texts.proofs.Placed.{has_placed}

-- ---- names

parameter_name-injective : (i j : ℕ) → parameter_name i ≡ parameter_name j → i ≡ j
parameter_name-injective i j same = numeral-injective i j (ap (drop 2) same)

pub earlier_name : (j i : ℕ) → j < i → name_eq (parameter_name j) (parameter_name i) ≡ false
earlier_name j i less = names_differ (parameter_name j) (parameter_name i) (λ same. let is = parameter_name-injective j i same in omega (arith, less, is))

pub later_name : (j i : ℕ) → j < i → name_eq (parameter_name i) (parameter_name j) ≡ false
later_name j i less = names_differ (parameter_name i) (parameter_name j) (λ same. let is = parameter_name-injective i j same in omega (arith, less, is))

abbrev pub names : List Variable → List Name
names xs = map (λ x. x.name) xs

pub none_named : (ss : List Sort) (j i : ℕ) → j < i → is_among (names (parameters i ss)) (parameter_name j) ≡ false
none_named [] j i less = refl
none_named (s ∷ ss) j i less =
    or_false (name_eq (parameter_name j) (parameter_name i)) (is_among (names (parameters (suc i) ss)) (parameter_name j))
    (earlier_name j i less) (none_named ss j (suc i) (omega (arith, less)))

-- ---- forms

-- parameters that are these variables
pub record AreParameters (ss : List Sort) (xs : List Variable) (ps : List Parameter) : Type 0 where
  pub sorts : have_sorts ss ps ≡ true
  pub variables : variables ss ps ≡ xs
  pub names : map (λ p. p.name) ps ≡ names xs

pub record ParametersRead (ss : List Sort) (xs : List Variable) (fs : Forms) : Type 0 where
  pub parameters : List Parameter
  pub read : parameters_in fs ≡ Some parameters
  pub are : AreParameters ss xs parameters

next_parameters : (s : Sort) (ss : List Sort) (i p : ℕ) (fs : Forms) → ParametersRead ss (parameters (suc i) ss) fs
    → ParametersRead (s ∷ ss) (parameters i (s ∷ ss)) (placed p (variable_form (record { name = parameter_name i; sort = s })) ⨾ fs)
next_parameters s ss i p fs behind =
    let place = suc (end_of (suc p) (symbol_form (parameter_name i))) in
    let f = placed place (sort_form s) in
    let ps = behind.parameters in
    let new : is_among (map (λ p. p.name) ps) (parameter_name i) ≡ false =
    ap (λ ns. is_among ns (parameter_name i)) behind.are.names ∙ none_named ss i (suc i) (omega arith) in
    record {
      parameters = record { name = parameter_name i; sort = f } ∷ ps;
      read =
          ap (λ o. with_parameter f o (parameters_in fs)) (symbol_read (parameter_name i))
          ∙ ap (with_parameter f (Some (parameter_name i))) behind.read
          ∙ rw new refl;
      are = record {
        sorts = and_true (is_sort_form s f) (have_sorts ss ps) (has_placed (sort_form s) place) behind.are.sorts;
        variables = ap (λ xs. record { name = parameter_name i; sort = s } ∷ xs) behind.are.variables;
        names = ap (λ ns. parameter_name i ∷ ns) behind.are.names;
      };
    }

nothing_read : (i : ℕ) → ParametersRead [] (parameters i []) none
nothing_read i = record { parameters = []; read = refl; are = record { sorts = refl; variables = refl; names = refl } }

abbrev forms : ℕ → List Sort → Forms
forms i ss = forms_of_list (map variable_form (parameters i ss))

behind_read : (ss : List Sort) (i p : ℕ) → ParametersRead ss (parameters i ss) (placed_behind p (forms i ss) none)
behind_read [] i p = nothing_read i
behind_read (s ∷ ss) i p =
    next_parameters s ss i (suc p) (placed_behind (end_of (suc p) (variable_form (record { name = parameter_name i; sort = s }))) (forms (suc i) ss) none)
    (behind_read ss (suc i) (end_of (suc p) (variable_form (record { name = parameter_name i; sort = s }))))

pub parameters_read : (ss : List Sort) (p : ℕ) → ParametersRead ss (parameters 0 ss) (placed_in p (forms 0 ss) none)
parameters_read [] p = nothing_read 0
parameters_read (s ∷ ss) p =
    next_parameters s ss 0 p (placed_behind (end_of p (variable_form (record { name = parameter_name 0; sort = s }))) (forms 1 ss) none)
    (behind_read ss 1 (end_of p (variable_form (record { name = parameter_name 0; sort = s }))))
