-- The entries of model texts: functions, names of sorts, and elements of sorts.
use Rattle.std.specs.Prelude.{ℕ, zero, Bool, true, false, ◌&&◌, ◌||◌, if◌then◌else◌, List, [], ◌∷◌, ◌++◌, map, codes, Option, Some, None, option_and_then}
use Rattle.smt_lex.specs.Names.{is_among}
use Rattle.smt_lex.specs.Forms.{Form, node, Forms, none, ◌⨾◌}
use Rattle.smt_terms.specs.Equal.{name_eq}
use Rattle.smt_terms.specs.Models.{Graph}
use Rattle.smt_terms.specs.Sorts.{Name, Sort, int, free_sort, Symbol, Variable}
use Rattle.script_read.specs.Commands.{Signature}
use Rattle.script_read.specs.Outlines.{list_in}
use Rattle.script_terms.specs.Parts.{place_of, symbol_in, word_in, is_name, numeral_in}
use Rattle.model_texts.specs.Refusals.{model_form, model_sort, model_twice}
use Rattle.model_texts.specs.Reading.{Reading, ◌>>=◌, gives, refuses}
use Rattle.model_texts.specs.ValueForms.{is_sort_form, value_in}
use Rattle.model_texts.specs.Tables.{body_in}

-- ---- shapes

-- a parameter, with the form that stands where its sort does
pub record Parameter : Type 0 where
  pub name : Name
  pub sort : Form

pub data Entry : Type 0 where
  -- a name, parameters, the sort of the result and the body
  function : Name → List Parameter → Form → Form → Entry
  -- nothing is read of it
  sort_name : Entry
  -- a sort and its elements
  elements : Form → Forms → Entry

abbrev pub with_parameter : Form → Option Name → Option (List Parameter) → Option (List Parameter)
with_parameter s (Some n) (Some ps) =
    if is_among (map (λ p. p.name) ps) n then None else Some (record { name = n; sort = s } ∷ ps)
with_parameter s _ _ = None

-- parameters with distinct names
abbrev pub parameters_in : Forms → Option (List Parameter)
parameters_in none = Some []
parameters_in (node place (x ⨾ s ⨾ none) ⨾ fs) = with_parameter s (symbol_in x) (parameters_in fs)
parameters_in (f ⨾ fs) = None

abbrev pub function_entry : Form → Form → Option Name → Option (List Parameter) → Option Entry
function_entry s b (Some n) (Some ps) = Some (function n ps s b)
function_entry s b _ _ = None

-- `(define-fun f ((x SORT) ..) SORT BODY)`
abbrev pub function_in : Forms → Option Entry
function_in (n ⨾ ps ⨾ s ⨾ b ⨾ none) = function_entry s b (symbol_in n) (option_and_then parameters_in (list_in ps))
function_in _ = None

abbrev pub sort_entry : Option Name → Option ℕ → Option Entry
sort_entry (Some n) (Some zero) = Some sort_name
sort_entry _ _ = None

-- `(declare-sort S 0)`
abbrev pub sort_name_in : Forms → Option Entry
sort_name_in (n ⨾ i ⨾ none) = sort_entry (symbol_in n) (numeral_in i)
sort_name_in _ = None

-- `(@sort S V ..)`
abbrev pub elements_in : Forms → Option Entry
elements_in (s ⨾ vs) = Some (elements s vs)
elements_in none = None

abbrev pub entry_by : Form → Forms → Option Entry
entry_by f fs =
    if is_name (codes "define-fun") (word_in f) then function_in fs
    else (if is_name (codes "declare-sort") (word_in f) then sort_name_in fs
    else (if is_name (codes "@sort") (symbol_in f) then elements_in fs
    else None))

abbrev pub entry_in : Form → Option Entry
entry_in (node place (f ⨾ fs)) = entry_by f fs
entry_in _ = None

-- ---- the symbols that are given

-- the tables of `div` and `mod` by zero have names too
abbrev pub division_table : Name
division_table = codes "@div0"

abbrev pub modulus_table : Name
modulus_table = codes "@mod0"

abbrev pub table_symbol : Name → Symbol
table_symbol n = record { name = n; args = int ∷ []; result = int }

abbrev pub symbol_among : List Symbol → Name → Option Symbol
symbol_among [] n = None
symbol_among (f ∷ fs) n = if name_eq f.name n then Some f else symbol_among fs n

abbrev pub symbol_named : Signature → Name → Option Symbol
symbol_named sig n = if name_eq n division_table || name_eq n modulus_table then Some (table_symbol n) else symbol_among sig.symbols n

-- a symbol with the table that a text gives it
pub record Given : Type 0 where
  pub name : Name
  pub graph : Graph

-- the parameters have the sorts of the arguments
abbrev pub have_sorts : List Sort → List Parameter → Bool
have_sorts [] [] = true
have_sorts (s ∷ ss) (p ∷ ps) = is_sort_form s p.sort && have_sorts ss ps
have_sorts _ _ = false

abbrev pub variables : List Sort → List Parameter → List Variable
variables (s ∷ ss) (p ∷ ps) = record { name = p.name; sort = s } ∷ variables ss ps
variables _ _ = []

-- ---- entries: what was given before, and then what this one gives

abbrev pub with_table : List Given → Symbol → List Parameter → Form → Reading (List Given)
with_table gs f ps b = body_in b (variables f.args ps) f.result >>= λ g. gives (gs ++ record { name = f.name; graph = g } ∷ [])

-- a second entry, then the sorts, then the body
abbrev pub function_given : ℕ → List Given → Option Symbol → List Parameter → Form → Form → Reading (List Given)
function_given place gs None ps s b = gives gs
function_given place gs (Some f) ps s b =
    if is_among (map (λ g. g.name) gs) f.name then refuses model_twice place
    else (if have_sorts f.args ps && is_sort_form f.result s then with_table gs f ps b
    else refuses model_sort place)

-- values of a sort, which are elements
abbrev pub elements_met : Sort → Forms → List Given → Reading (List Given)
elements_met s none gs = gives gs
elements_met s (f ⨾ fs) gs = value_in f s >>= λ v. elements_met s fs gs

abbrev pub sort_given : List Name → Form → Forms → List Given → Reading (List Given)
sort_given [] f vs gs = gives gs
sort_given (n ∷ ns) f vs gs = if is_sort_form (free_sort n) f then elements_met (free_sort n) vs gs else sort_given ns f vs gs

abbrev pub entry_given : Signature → List Given → ℕ → Option Entry → Reading (List Given)
entry_given sig gs place None = refuses model_form place
entry_given sig gs place (Some sort_name) = gives gs
entry_given sig gs place (Some (elements s vs)) = sort_given sig.sorts s vs gs
entry_given sig gs place (Some (function n ps s b)) = function_given place gs (symbol_named sig n) ps s b

abbrev pub entries_given : Signature → List Given → Forms → Reading (List Given)
entries_given sig gs none = gives gs
entries_given sig gs (f ⨾ fs) = entry_given sig gs (place_of f) (entry_in f) >>= λ hs. entries_given sig hs fs
