-- The meaning of forms: SMT-LIB 2.6, section 5.3 with the abbreviations of section 3.6. `let` gives its names the values that
-- their forms have outside of it, a quantifier runs over all values of its names, and a definition means what its body
-- means where it was made. Nothing is put in the place of anything else.
use Rattle.std.specs.Prelude.{ℕ, Bool, true, false, cond, if◌then◌else◌, List, [], ◌∷◌, map, codes, bytes_eq, Result, Ok, Err, Option, Some, None, unwrap_or}
use Rattle.smt_lex.specs.Names.{Name, is_among}
use Rattle.smt_lex.specs.Lex.{Token, symbol_of}
use Rattle.smt_lex.specs.Forms.{Form, atom, node, Forms, none, ◌⨾◌}
use Rattle.smt_terms.specs.declared.op.Op.{Op}
use Rattle.smt_terms.specs.declared.op.Op.TheVariants.{Truth, Bits}
use Rattle.smt_terms.specs.Equal.{name_eq}
use Rattle.smt_terms.specs.Models.{Model, background, symbol_value}
use Rattle.smt_terms.specs.Operators.{op_value, first_value}
use Rattle.smt_terms.specs.Rank.{width, with_sort, sort_over}
use Rattle.smt_terms.specs.Sorts.{Sort, bool, Symbol, Variable}
use Rattle.smt_terms.specs.Term.{Quantifier, op, symbol, const_array}
use Rattle.smt_terms.specs.Values.{Value, truth, table, no_pairs, Sizes, is_true, over_values, default_value}
use Rattle.smt_terms.specs.Written.{Written, Algebra, build, written_named}
use Rattle.script_terms.specs.Refusals.{Refused}
use Rattle.script_terms.specs.Parts.{symbol_in, word_in, is_name, numeral_in, numerals_in, constant_by, vector_number, Opening, let_word, quantifier_word, annotation_word, index_word, head, opening}
use Rattle.script_terms.specs.Scope.{Local, let_names, quantified_name, parameter_name, Binding, sort_name, function, definition, named, level}
use Rattle.script_terms.specs.SortForms.{Sorts, sort_in}
use Rattle.script_terms.specs.Variables.{quantifier_binder, variables_in}

-- a value and its sort, if it has one
abbrev pub Denoted : Type 0
Denoted = Value × Option Sort

-- what names mean: those that are bound locally, the live ones at their operands, and those of sorts
pub record Meaning : Type 0 where
  pub bound : Name → Option Denoted
  pub live : Name → Option (List Denoted → Denoted)
  pub sorts : Sorts

-- what no accepted form means
abbrev pub nothing : Denoted
nothing = (truth false, None)

abbrev pub is_true_of : Denoted → Bool
is_true_of d = is_true d.0

abbrev pub denoted_or : Option Denoted → Denoted → Denoted
denoted_or (Some d) otherwise = d
denoted_or None otherwise = otherwise

-- ---- operators and symbols over what their operands mean

abbrev pub values_of : List Denoted → List Value
values_of ds = map (λ d. d.0) ds

abbrev pub sorts_denoted : List Denoted → Option (List Sort)
sorts_denoted [] = Some []
sorts_denoted (d ∷ ds) = with_sort d.1 (sorts_denoted ds)

abbrev pub over_op : Model → Op → List Denoted → Denoted
over_op m o ds = (op_value (background m) o (unwrap_or (sorts_denoted ds) []) (values_of ds), sort_over (op o) (sorts_denoted ds))

abbrev pub over_symbol : Model → Symbol → List Denoted → Denoted
over_symbol m f ds = (symbol_value m f (values_of ds), sort_over (symbol f) (sorts_denoted ds))

abbrev pub over_array : Sort → List Denoted → Denoted
over_array s ds = (table (first_value (values_of ds)) no_pairs, sort_over (const_array s) (sorts_denoted ds))

abbrev pub denoted_width : Denoted → ℕ
denoted_width d = width (unwrap_or d.1 bool)

abbrev pub value_algebra : Model → Algebra Denoted
value_algebra m = record { make = over_op m; width_in = denoted_width }

abbrev pub over_written : Model → Option Written → List Denoted → Denoted
over_written m (Some w) ds = build (value_algebra m) w ds
over_written m None ds = nothing

-- ---- names that are bound

abbrev pub bound_to : Name → Denoted → (Name → Option Denoted) → Name → Option Denoted
bound_to n d others m = cond (name_eq n m) (Some d) (others m)

abbrev pub with_bound : Name → Denoted → Meaning → Meaning
with_bound n d e = record { bound = bound_to n d e.bound; live = e.live; sorts = e.sorts }

abbrev pub with_all : List (Name × Denoted) → Meaning → Meaning
with_all [] e = e
with_all (p ∷ ps) e = with_bound p.0 p.1 (with_all ps e)

abbrev pub denoted_as : Value → Sort → Denoted
denoted_as v s = (v, Some s)

-- a test under all choices of values for variables, or under some choice, the variables from the first to the last
abbrev pub over_variables : Quantifier → List Variable → Sizes → (Meaning → Bool) → Meaning → Bool
over_variables q [] sizes test e = test e
over_variables q (x ∷ xs) sizes test e =
    over_values q x.sort sizes (λ v. over_variables q xs sizes test (with_bound x.name (denoted_as v x.sort) e))

abbrev pub accepted_or : {A E : Type 0} → A → Result A E → A
accepted_or otherwise (Ok a) = a
accepted_or otherwise (Err e) = otherwise

-- the variables of a quantifier
abbrev pub quantified_variables : Sorts → Forms → List Variable
quantified_variables sorts fs = accepted_or [] (variables_in quantifier_binder sorts [] fs)

-- ---- symbols

abbrev pub truth_of : Name → Option Op
truth_of n = if bytes_eq n (codes "true") then Some (Truth true) else (if bytes_eq n (codes "false") then Some (Truth false) else None)

-- a constant of the theories
abbrev pub over_constant : Model → Option Op → Denoted
over_constant m (Some o) = over_op m o []
over_constant m None = nothing

abbrev pub live_or : Option (List Denoted → Denoted) → List Denoted → Denoted → Denoted
live_or (Some f) ds otherwise = f ds
live_or None ds otherwise = otherwise

-- a symbol that stands alone: what is bound locally counts first, then what is live
abbrev pub symbol_means : Meaning → Model → Name → Denoted
symbol_means e m n = denoted_or (e.bound n) (live_or (e.live n) [] (over_constant m (truth_of n)))

abbrev pub symbol_or_nothing : Meaning → Model → Option Name → Denoted
symbol_or_nothing e m (Some n) = symbol_means e m n
symbol_or_nothing e m None = nothing

abbrev pub token_means : Meaning → Model → Token → Option Op → Denoted
token_means e m t (Some o) = over_op m o []
token_means e m t None = symbol_or_nothing e m (symbol_of t)

-- `(_ bvX n)`
abbrev pub vector_means : Model → Option Name → Option ℕ → Denoted
vector_means m (Some name) (Some n) = over_op m (Bits n (vector_number name)) []
vector_means m _ _ = nothing

abbrev pub index_means : Model → Forms → Denoted
index_means m (f ⨾ n ⨾ none) = vector_means m (symbol_in f) (numeral_in n)
index_means m _ = nothing

-- ---- heads

abbrev pub array_of : Result Sort Refused → List Denoted → Denoted
array_of (Ok s) ds = over_array s ds
array_of (Err refused) ds = nothing

abbrev pub named_means : Meaning → Model → Option Name → Option (List ℕ) → List Denoted → Denoted
named_means e m (Some n) (Some indices) ds = over_written m (written_named n indices) ds
named_means e m _ _ ds = nothing

-- `(_ name index ..)` and `(as const S)`
abbrev pub list_head_means : Meaning → Model → Option Name → Forms → List Denoted → Denoted
list_head_means e m w (f ⨾ s ⨾ none) ds =
    cond (is_name (codes "as") w) (array_of (sort_in e.sorts s) ds) (named_means e m (symbol_in f) (numerals_in (s ⨾ none)) ds)
list_head_means e m w (f ⨾ fs) ds = named_means e m (symbol_in f) (numerals_in fs) ds
list_head_means e m w none ds = nothing

abbrev pub symbol_head_means : Meaning → Model → Option Name → List Denoted → Denoted
symbol_head_means e m None ds = nothing
symbol_head_means e m (Some n) ds = live_or (e.live n) ds (over_written m (written_named n []) ds)

abbrev pub head_means : Form → Meaning → Model → List Denoted → Denoted
head_means (atom t) e m ds = symbol_head_means e m (symbol_of t) ds
head_means (node place none) e m ds = nothing
head_means (node place (f ⨾ fs)) e m ds = list_head_means e m (word_in f) fs ds

-- ---- forms

abbrev pub quantifier_means : Quantifier → List Variable → Sizes → (Meaning → Denoted) → Meaning → Denoted
quantifier_means q xs sizes body e = denoted_as (truth (over_variables q xs sizes (λ e'. is_true_of (body e')) e)) bool

abbrev pub let_pair : Option Name → Denoted → List (Name × Denoted) → List (Name × Denoted)
let_pair (Some n) d ps = (n, d) ∷ ps
let_pair None d ps = ps

abbrev mutual
  pub mean : Form → Meaning → Model → Denoted
  mean (atom t) e m = token_means e m t (constant_by t.item t.text)
  mean (node place none) e m = nothing
  mean (node place (f ⨾ fs)) e m = mean_list (opening f) fs e m

  -- a list that begins so, from its second form on
  pub mean_list : Opening → Forms → Meaning → Model → Denoted
  mean_list let_word (node part bs ⨾ body ⨾ none) e m = mean body (with_all (mean_bindings bs e m) e) m
  mean_list (quantifier_word q) (node part bs ⨾ body ⨾ none) e m =
      quantifier_means q (quantified_variables e.sorts bs) m.sizes (λ e'. mean body e' m) e
  mean_list annotation_word (f ⨾ attributes) e m = mean f e m
  mean_list index_word fs e m = index_means m fs
  mean_list (head f) (g ⨾ gs) e m = head_means f e m (mean g e m ∷ mean_all gs e m)
  mean_list _ _ e m = nothing

  -- the names of a `let` with what their forms mean
  pub mean_bindings : Forms → Meaning → Model → List (Name × Denoted)
  mean_bindings (node part (x ⨾ f ⨾ none) ⨾ bs) e m = let_pair (symbol_in x) (mean f e m) (mean_bindings bs e m)
  mean_bindings _ e m = []

  pub mean_all : Forms → Meaning → Model → List Denoted
  mean_all none e m = []
  mean_all (f ⨾ fs) e m = mean f e m ∷ mean_all fs e m

-- ---- what a list of bindings means, from its end

-- quantified names and parameters have their sort's default value: no name of a term mentions them
abbrev pub with_local : Local → Model → Meaning → Meaning
with_local (let_names fs) m e = with_all (mean_bindings fs e m) e
with_local (quantified_name x) m e = with_bound x.name (denoted_as (default_value x.sort) x.sort) e
with_local (parameter_name x) m e = with_bound x.name (denoted_as (default_value x.sort) x.sort) e

abbrev pub with_locals : List Local → Model → Meaning → Meaning
with_locals [] m e = e
with_locals (l ∷ ls) m e = with_local l m (with_locals ls m e)

abbrev pub with_live : (Name → Bool) → (List Denoted → Denoted) → Meaning → Meaning
with_live is_it f e = record { bound = e.bound; live = λ n. cond (is_it n) (Some f) (e.live n); sorts = e.sorts }

abbrev pub with_sort_name : Name → Sort → Meaning → Meaning
with_sort_name n s e = record { bound = e.bound; live = e.live; sorts = λ k. cond (name_eq n k) (Some s) (e.sorts k) }

-- the parameters with their arguments
abbrev pub with_arguments : List Variable → List Denoted → Meaning → Meaning
with_arguments (x ∷ xs) (d ∷ ds) e = with_bound x.name d (with_arguments xs ds e)
with_arguments _ _ e = e

abbrev pub with_binding : Binding → Model → Meaning → Meaning
with_binding (sort_name n s) m e = with_sort_name n s e
with_binding (function f) m e = with_live (name_eq f.name) (over_symbol m f) e
with_binding (definition n xs body) m e = with_live (name_eq n) (λ ds. mean body (with_arguments xs ds e) m) e
with_binding (named ns f ls) m e = with_live (is_among ns) (λ ds. mean f (with_locals ls m e) m) e
with_binding level m e = e

abbrev pub no_meaning : Meaning
no_meaning = record { bound = λ n. None; live = λ n. None; sorts = λ n. None }

abbrev pub meaning : List Binding → Model → Meaning
meaning [] m = no_meaning
meaning (b ∷ bs) m = with_binding b m (meaning bs m)
