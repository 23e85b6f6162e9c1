-- The commands of an accepted text with the forms that it asserts, and what is bound where they stand: SMT-LIB 2.6,
-- sections 3.6 (names of terms) and 4.2. Whether the text is accepted is said elsewhere.
use Rattle.std.specs.Prelude.{ℕ, suc, Bool, false, ◌&&◌, List, [], ◌∷◌, ◌++◌, filter_map, codes, Result, Ok, Err, Option, Some, None, option_and_then}
use Rattle.std.specs.List.{list_all}
use Rattle.smt_lex.specs.Names.{Name}
use Rattle.smt_lex.specs.Forms.{Form, atom, node, Forms, none, ◌⨾◌, forms_to_exit}
use Rattle.smt_terms.specs.Models.{Model}
use Rattle.smt_terms.specs.Sorts.{Sort, bool, free_sort, Symbol, Variable}
use Rattle.script_terms.specs.Refusals.{Refused}
use Rattle.smt_lex.specs.FormText.{form_text}
use Rattle.script_terms.specs.Parts.{symbol_in, is_name, Opening, let_word, quantifier_word, annotation_word, head, opening, named_parts}
use Rattle.script_terms.specs.Scope.{Local, let_names, quantified_name, parameter_name, Binding, sort_name, function, named, level, live_sort, is_level, opened, popped, emptied, definition as definition_binding}
use Rattle.script_terms.specs.SortForms.{sort_in, sorts_in}
use Rattle.script_terms.specs.Variables.{definition_binder, variables_in}
use Rattle.script_read.specs.Commands.{Command, passed, declare_sort, declare, assert, check, check_assuming, push, pop, reset, reset_assertions, globals, exit, live, literals}
use Rattle.script_read.specs.Outlines.{Outline, passing, sort_declaration, sort_definition, symbol_declaration, assertion, assuming, pushing, popping, resetting, resetting_assertions, ending, outline, levels_written, global_option, symbol_definition, checking}
use Rattle.script_read.specs.Mean.{accepted_or, quantified_variables, is_true_of, mean, meaning}

-- ---- names of terms: each keeps what is bound locally where the annotation ends

abbrev pub names_among : List (Option Form) → List Name
names_among ps = filter_map (λ p. option_and_then symbol_in p) ps

-- the names that an annotation gives to its form
abbrev pub with_names : List Name → Form → List Local → List Binding → List Binding
with_names [] f ls bs = bs
with_names (n ∷ ns) f ls bs = named (n ∷ ns) f ls ∷ bs

abbrev pub quantified_locals : List Variable → List Local → List Local
quantified_locals [] ls = ls
quantified_locals (x ∷ xs) ls = quantified_locals xs (quantified_name x ∷ ls)

abbrev mutual
  -- the bindings behind a form, where these are bound locally and those globally
  pub naming : Form → List Local → List Binding → List Binding
  naming (atom t) ls bs = bs
  naming (node place none) ls bs = bs
  naming (node place (f ⨾ fs)) ls bs = naming_list (opening f) fs ls bs

  pub naming_list : Opening → Forms → List Local → List Binding → List Binding
  naming_list let_word (node part ps ⨾ body ⨾ none) ls bs = naming body (let_names ps ∷ ls) (naming_parts ps ls bs)
  naming_list (quantifier_word q) (node part ps ⨾ body ⨾ none) ls bs =
      naming body (quantified_locals (quantified_variables (live_sort bs) ps) ls) bs
  naming_list annotation_word (f ⨾ attributes) ls bs = with_names (names_among (named_parts attributes)) f ls (naming f ls bs)
  naming_list (head f) (g ⨾ gs) ls bs = naming_all gs ls (naming g ls bs)
  naming_list _ _ ls bs = bs

  -- the forms of a `let`, in order
  pub naming_parts : Forms → List Local → List Binding → List Binding
  naming_parts (node part (x ⨾ f ⨾ none) ⨾ ps) ls bs = naming_parts ps ls (naming f ls bs)
  naming_parts _ ls bs = bs

  pub naming_all : Forms → List Local → List Binding → List Binding
  naming_all none ls bs = bs
  naming_all (f ⨾ fs) ls bs = naming_all fs ls (naming f ls bs)

-- ---- commands

-- a form with what is bound where it stands
pub record Asserted : Type 0 where
  pub form : Form
  pub bindings : List Binding

pub record Scene : Type 0 where
  -- the live bindings, the latest first
  pub bindings : List Binding
  -- whether declarations outlive their level
  pub global : Bool
  -- how many assertions there were
  pub asserted : ℕ

abbrev pub with_bindings : Scene → List Binding → Scene
with_bindings s bs = record { bindings = bs; global = s.global; asserted = s.asserted }

abbrev pub sort_meant : List Binding → Form → Sort
sort_meant bs f = accepted_or bool (sort_in (live_sort bs) f)

abbrev pub sorts_meant : List Binding → Forms → List Sort
sorts_meant bs fs = accepted_or [] (sorts_in (live_sort bs) fs)

abbrev pub parameters_meant : List Binding → Forms → List Variable
parameters_meant bs fs = accepted_or [] (variables_in definition_binder (live_sort bs) [] fs)

abbrev pub symbol_meant : List Binding → Name → Forms → Form → Symbol
symbol_meant bs n arguments f = record { name = n; args = sorts_meant bs arguments; result = sort_meant bs f }

abbrev pub parameter_locals : List Variable → List Local → List Local
parameter_locals [] ls = ls
parameter_locals (x ∷ xs) ls = parameter_locals xs (parameter_name x ∷ ls)

-- a definition, behind the names that its body gives
abbrev pub with_definition : Name → List Variable → Form → List Binding → List Binding
with_definition n xs body bs = definition_binding n xs body ∷ naming body (parameter_locals xs []) bs

abbrev pub literals_meant : List Binding → Forms → List Asserted
literals_meant bs none = []
literals_meant bs (f ⨾ fs) = record { form = f; bindings = bs } ∷ literals_meant bs fs

abbrev pub declares : Scene → Symbol → List (Command Asserted) × Scene
declares s f = (declare f ∷ [], with_bindings s (function f ∷ s.bindings))

-- an assertion's own names are bound where it stands: none of them is used before it is given
abbrev pub asserts : Scene → Form → List Binding → List (Command Asserted) × Scene
asserts s f bs = (assert (suc s.asserted) (record { form = f; bindings = bs }) ∷ [], record { bindings = bs; global = s.global; asserted = suc s.asserted })

abbrev pub is_true_symbol : Option Form → Bool
is_true_symbol None = false
is_true_symbol (Some f) = is_name (codes "true") (symbol_in f)

-- the commands that a command's outline gives, none for a definition, and what is bound behind it
abbrev pub seen : List ℕ → Scene → Outline → List (Command Asserted) × Scene
seen text s passing = (passed text ∷ [], s)
seen text s (global_option f) = (globals (is_true_symbol f) ∷ [], record { bindings = s.bindings; global = is_true_symbol f; asserted = s.asserted })
seen text s (sort_declaration n arity) = (declare_sort n.it ∷ [], with_bindings s (sort_name n.it (free_sort n.it) ∷ s.bindings))
seen text s (sort_definition n parameters f) = ([], with_bindings s (sort_name n.it (sort_meant s.bindings f) ∷ s.bindings))
seen text s (symbol_declaration n arguments f) = declares s (symbol_meant s.bindings n.it arguments f)
seen text s (symbol_definition n parameters f body) =
    ([], with_bindings s (with_definition n.it (parameters_meant s.bindings parameters) body s.bindings))
seen text s (assertion f) = asserts s f (naming f [] s.bindings)
seen text s checking = (check ∷ [], s)
seen text s (assuming fs) = (check_assuming (literals_meant s.bindings fs) ∷ [], s)
seen text s (pushing n) = (push (levels_written n) ∷ [], with_bindings s (opened level (levels_written n) s.bindings))
seen text s (popping n) = (pop (levels_written n) ∷ [], with_bindings s (popped is_level s.global (levels_written n) s.bindings))
seen text s resetting = (reset ∷ [], record { bindings = []; global = false; asserted = s.asserted })
seen text s resetting_assertions = (reset_assertions ∷ [], with_bindings s (emptied is_level s.global s.bindings))
seen text s ending = (exit ∷ [], s)

abbrev pub seen_or_none : List ℕ → Scene → Result Outline Refused → List (Command Asserted) × Scene
seen_or_none text s (Ok o) = seen text s o
seen_or_none text s (Err refused) = ([], s)

abbrev pub seen_command : Form → Scene → List (Command Asserted) × Scene
seen_command f s = seen_or_none (form_text f) s (outline f)

abbrev pub commands_seen : Forms → Scene → List (Command Asserted)
commands_seen none s = []
commands_seen (f ⨾ fs) s = let r : List (Command Asserted) × Scene = seen_command f s in r.0 ++ commands_seen fs r.1

abbrev pub first_scene : Scene
first_scene = record { bindings = []; global = false; asserted = 0 }

-- the commands of a text with the forms that they assert
abbrev pub forms_script : List ℕ → List (Command Asserted)
forms_script b = commands_seen (accepted_or none (forms_to_exit b)) first_scene

-- ---- satisfaction

-- an asserted form means true in a model
abbrev pub means_true : Model → Asserted → Bool
means_true m a = is_true_of (mean a.form (meaning a.bindings m) m)

-- every live assertion and every literal of point k of a text means true
abbrev pub holds : Model → List ℕ → ℕ → Bool
holds m b k = list_all (means_true m) (live (forms_script b) k) && list_all (means_true m) (literals (forms_script b) k)
