-- Scripts as they are read: SMT-LIB 2.6, section 3.9. One definition gives the commands with their terms and the names that
-- are left, or the first refusal: commands in order, and in each command first its outer shape, then a name that it declares
-- or defines, then its numbers, then its other parts from left to right.
use Rattle.std.specs.Prelude.{ℕ, suc, ◌+◌, ◌==◌, Bool, true, false, ◌||◌, not, cond, nat_lt, if◌then◌else◌, List, [], ◌∷◌, ◌++◌, codes, bytes_eq, count_by, Result, Ok, Err, Option, Some, None, is_some, option_map}
use Rattle.smt_lex.specs.Names.{Name, is_reserved_for_declaring, is_reserved_for_sorts}
use Rattle.smt_lex.specs.Lex.{Fault, bad_byte, bad_token, open_text, unbalanced, line_at}
use Rattle.smt_lex.specs.Forms.{Form, atom, node, Forms, none, ◌⨾◌, forms_to_exit}
use Rattle.smt_terms.specs.Connectives.{negated}
use Rattle.smt_terms.specs.Equal.{sort_eq}
use Rattle.smt_terms.specs.Fresh.{Supply}
use Rattle.smt_terms.specs.Sorts.{Sort, bool, free_sort, Symbol, Variable}
use Rattle.smt_terms.specs.Term.{Term, constant}
use Rattle.script_terms.specs.declared.causes.Cause.TheVariants.{WrongSort, BadForm, Redeclared, ReservedName, PopTooFar, NumberLimit, SortArity, UnsupportedOption}
use Rattle.script_terms.specs.Refusals.{Refused, at, Refusal, Unaccepted, unread, refused, and_then, unless, mapped, given}
use Rattle.smt_lex.specs.FormText.{form_text}
use Rattle.script_terms.specs.Parts.{place_of, symbol_in, is_name}
use Rattle.script_terms.specs.Scope.{opened, popped, emptied}
use Rattle.script_terms.specs.SortForms.{sort_in, sorts_in}
use Rattle.script_terms.specs.Variables.{definition_binder, variables_in}
use Rattle.script_terms.specs.Reading.{ReadLocal, parameter_as, ReadBinding, sort_known, function_known, definition_as, level_known, Sofar, live_sorts, is_level_known, Entry, symbol_entry, entry_of}
use Rattle.script_terms.specs.Heads.{parameters_from}
use Rattle.script_terms.specs.Read.{Context, has_sort, read}
use Rattle.script_read.specs.Commands.{Command, passed, declare_sort, declare, assert, check, check_assuming, push, pop, reset, reset_assertions, globals, exit}
use Rattle.script_read.specs.Outlines.{At, Outline, passing, sort_declaration, sort_definition, symbol_declaration, assertion, assuming, pushing, popping, resetting, resetting_assertions, ending, outline, levels_written, global_option, symbol_definition, checking}
use Rattle.script_terms.specs.TextNames.{names_with_all}

-- ---- what is known between two commands

pub record Standing : Type 0 where
  pub sofar : Sofar
  -- whether declarations outlive their level
  pub global : Bool
  -- a command came that declares, defines, asserts, checks, pushes or pops, since the start or the last `reset`
  pub begun : Bool
  -- how many assertions were read
  pub asserted : ℕ

-- what a command reads: commands, none for a definition, and what is known behind it
abbrev pub Step : Type 0
Step = Result (List (Command Term) × Standing) Refused

abbrev pub live_of : Standing → List ReadBinding
live_of s = s.sofar.live

-- behind a command of the kind that fixes the options, with these bindings
abbrev pub begun_with : Standing → List ReadBinding → Standing
begun_with s bs = record { sofar = record { live = bs; supply = s.sofar.supply }; global = s.global; begun = true; asserted = s.asserted }

-- ---- names that are declared or defined

abbrev pub declarable : {A : Type 0} → List ReadBinding → At Name → Result A Refused → Result A Refused
declarable live n next =
    unless (is_reserved_for_declaring n.it) ReservedName n.place (unless (is_some (entry_of live n.it)) Redeclared n.place next)

abbrev pub sort_declarable : {A : Type 0} → List ReadBinding → At Name → Result A Refused → Result A Refused
sort_declarable live n next =
    unless (is_reserved_for_sorts n.it) ReservedName n.place (unless (is_some (live_sorts live n.it)) Redeclared n.place next)

-- ---- sorts

abbrev pub declares_sort : At Name → At ℕ → Standing → Step
declares_sort n arity s =
    sort_declarable (live_of s) n
    (unless (not (arity.it == 0)) SortArity arity.place
    (Ok (declare_sort n.it ∷ [], begun_with s (sort_known n.it (free_sort n.it) ∷ live_of s))))

abbrev pub without_parameters : {A : Type 0} → Forms → Result A Refused → Result A Refused
without_parameters none next = next
without_parameters (f ⨾ fs) next = at SortArity (place_of f)

abbrev pub defines_sort : At Name → Forms → Form → Standing → Step
defines_sort n parameters f s =
    sort_declarable (live_of s) n
    (without_parameters parameters
    (mapped (λ to. ([], begun_with s (sort_known n.it to ∷ live_of s))) (sort_in (live_sorts (live_of s)) f)))

-- ---- symbols

abbrev pub declares : Standing → Symbol → List (Command Term) × Standing
declares s f = (declare f ∷ [], begun_with s (function_known f ∷ live_of s))

abbrev pub symbol_of_sorts : Name → List Sort → Sort → Symbol
symbol_of_sorts n args to = record { name = n; args = args; result = to }

abbrev pub declares_symbol : At Name → Forms → Form → Standing → Step
declares_symbol n arguments f s =
    declarable (live_of s) n
    (and_then (λ args. mapped (λ to. declares s (symbol_of_sorts n.it args to)) (sort_in (live_sorts (live_of s)) f))
    (sorts_in (live_sorts (live_of s)) arguments))

-- ---- definitions

-- the parameters, each read as the constant that stands for it, the latest first
abbrev pub parameters_read : List Variable → List Symbol → List ReadLocal → List ReadLocal
parameters_read (x ∷ xs) (p ∷ ps) ls = parameters_read xs ps (parameter_as x p.name ∷ ls)
parameters_read _ _ ls = ls

abbrev pub body_context : Name → List Variable → Context
body_context n xs = record { locals = parameters_read xs (parameters_from 0 xs) []; defines = Some n }

-- with what was read, and the bindings and names behind it
abbrev pub begun_after : Standing → Sofar → Standing
begun_after s sofar = record { sofar = sofar; global = s.global; begun = true; asserted = s.asserted }

abbrev pub defined_with : Name → List Variable → Form → Standing → Term × Sofar → List (Command Term) × Standing
defined_with n xs body s r = ([], begun_after s (record r.1 { live = definition_as n xs body r.0 ∷ r.1.live }))

-- the body has the sort
abbrev pub of_sort : Sort → ℕ → Result (Term × Sofar) Refused → Result (Term × Sofar) Refused
of_sort to place r = and_then (λ p. unless (not (has_sort to p.0)) WrongSort place (Ok p)) r

abbrev pub read_body : Name → List Variable → Sort → Form → Standing → Step
read_body n xs to body s = mapped (defined_with n xs body s) (of_sort to (place_of body) (read body (body_context n xs) s.sofar))

abbrev pub defines_symbol : At Name → Forms → Form → Form → Standing → Step
defines_symbol n parameters f body s =
    declarable (live_of s) n
    (and_then (λ xs. and_then (λ to. read_body n.it xs to body s) (sort_in (live_sorts (live_of s)) f))
    (variables_in definition_binder (live_sorts (live_of s)) [] parameters))

-- ---- assertions and checks

abbrev pub no_context : Context
no_context = record { locals = []; defines = None }

abbrev pub asserted_with : Standing → Term × Sofar → List (Command Term) × Standing
asserted_with s r = (assert (suc s.asserted) r.0 ∷ [], record { sofar = r.1; global = s.global; begun = true; asserted = suc s.asserted })

abbrev pub asserts : Form → Standing → Step
asserts f s = mapped (asserted_with s) (of_sort bool (place_of f) (read f no_context s.sofar))

abbrev pub boolean_constant : Symbol → List Sort → Option Term
boolean_constant f [] = cond (sort_eq f.result bool) (Some (constant f)) None
boolean_constant f (s ∷ ss) = None

abbrev pub constant_entry : Option Entry → Option Term
constant_entry (Some (symbol_entry f)) = boolean_constant f f.args
constant_entry _ = None

-- the constant that a symbol is, of those that are declared and Boolean
abbrev pub declared_constant : List ReadBinding → Option Name → Option Term
declared_constant live None = None
declared_constant live (Some n) = constant_entry (entry_of live n)

abbrev pub literal : List ReadBinding → Form → Option Term
literal live (atom t) = declared_constant live (symbol_in (atom t))
literal live (node place (f ⨾ c ⨾ none)) = cond (is_name (codes "not") (symbol_in f)) (option_map negated (declared_constant live (symbol_in c))) None
literal live (node place _) = None

abbrev pub literals_in : List ReadBinding → Forms → Result (List Term) Refused
literals_in live none = Ok []
literals_in live (f ⨾ fs) = and_then (λ t. mapped (λ ts. t ∷ ts) (literals_in live fs)) (given BadForm (place_of f) (literal live f))

abbrev pub assumes : Forms → Standing → Step
assumes fs s = mapped (λ ts. (check_assuming ts ∷ [], begun_with s (live_of s))) (literals_in (live_of s) fs)

-- ---- levels

abbrev pub most_levels : ℕ
most_levels = 1000000

abbrev pub open_levels : Standing → ℕ
open_levels s = count_by is_level_known (live_of s)

-- where the number of levels is written: at the command, where it isn't
abbrev pub place_or : Option (At ℕ) → ℕ → ℕ
place_or None place = place
place_or (Some n) place = n.place

-- n levels are opened, unless they are too many
abbrev pub pushed_unless : Bool → ℕ → ℕ → Standing → Step
pushed_unless true place n s = at NumberLimit place
pushed_unless false place n s = Ok (push n ∷ [], begun_with s (opened level_known n (live_of s)))

abbrev pub pushes : ℕ → ℕ → Standing → Step
pushes place n s = pushed_unless (nat_lt most_levels n || nat_lt most_levels (open_levels s + n)) place n s

abbrev pub pops : ℕ → ℕ → ℕ → Standing → Step
pops command place n s =
    unless (nat_lt most_levels n) NumberLimit place
    (unless (nat_lt (open_levels s) n) PopTooFar command
    (Ok (pop n ∷ [], begun_with s (popped is_level_known s.global n (live_of s)))))

-- ---- options and resets

abbrev pub truth_named : Option Name → Option Bool
truth_named None = None
truth_named (Some n) = if bytes_eq n (codes "true") then Some true else (if bytes_eq n (codes "false") then Some false else None)

abbrev pub truth_in : Option Form → Option Bool
truth_in None = None
truth_in (Some f) = truth_named (symbol_in f)

-- the value of `:global-declarations` is a truth value, and no command stands before it that it would change
abbrev pub sets_globals : ℕ → Option Bool → Standing → Step
sets_globals command None s = at UnsupportedOption command
sets_globals command (Some b) s =
    unless s.begun UnsupportedOption command
    (Ok (globals b ∷ [], record { sofar = s.sofar; global = b; begun = false; asserted = s.asserted }))

abbrev pub after_reset : Standing → Standing
after_reset s = record { sofar = record { live = []; supply = s.sofar.supply }; global = false; begun = false; asserted = s.asserted }

abbrev pub after_emptying : Standing → Standing
after_emptying s =
    record { sofar = record { live = emptied is_level_known s.global (live_of s); supply = s.sofar.supply }; global = s.global; begun = s.begun; asserted = s.asserted }

-- ---- commands

-- a command that begins at a place, with its text
abbrev pub step : ℕ → List ℕ → Standing → Outline → Step
step place text s passing = Ok (passed text ∷ [], s)
step place text s (global_option f) = sets_globals place (truth_in f) s
step place text s (sort_declaration n arity) = declares_sort n arity s
step place text s (sort_definition n parameters f) = defines_sort n parameters f s
step place text s (symbol_declaration n arguments f) = declares_symbol n arguments f s
step place text s (symbol_definition n parameters f body) = defines_symbol n parameters f body s
step place text s (assertion f) = asserts f s
step place text s checking = Ok (check ∷ [], begun_with s (live_of s))
step place text s (assuming fs) = assumes fs s
step place text s (pushing n) = pushes (place_or n place) (levels_written n) s
step place text s (popping n) = pops place (place_or n place) (levels_written n) s
step place text s resetting = Ok (reset ∷ [], after_reset s)
step place text s resetting_assertions = Ok (reset_assertions ∷ [], after_emptying s)
step place text s ending = Ok (exit ∷ [], s)

abbrev pub read_command : Form → Standing → Step
read_command f s = and_then (step (place_of f) (form_text f) s) (outline f)

-- a refusal with the number of its command
pub record Numbered : Type 0 where
  pub command : ℕ
  pub refused : Refused

abbrev pub numbered : {A : Type 0} → ℕ → Result A Refused → Result A Numbered
numbered command (Ok a) = Ok a
numbered command (Err r) = Err (record { command = command; refused = r })

abbrev pub behind : List (Command Term) → List (Command Term) × Supply → List (Command Term) × Supply
behind cs r = (cs ++ r.0, r.1)

-- the commands of forms, the first of which has this number
abbrev pub read_commands : ℕ → Forms → Standing → Result (List (Command Term) × Supply) Numbered
read_commands i none s = Ok ([], s.sofar.supply)
read_commands i (f ⨾ fs) s = and_then (λ r. mapped (behind r.0) (read_commands (suc i) fs r.1)) (numbered i (read_command f s))

-- a supply of names that are no symbol of the text
abbrev pub fresh : Forms → Supply
fresh fs = record { taken = names_with_all [] fs; number = 0 }

-- ---- scripts

abbrev pub first_standing : Forms → Standing
first_standing fs = record { sofar = record { live = []; supply = fresh fs }; global = false; begun = false; asserted = 0 }

abbrev pub fault_place : Fault → ℕ
fault_place (bad_byte p) = p
fault_place (bad_token p) = p
fault_place (open_text p) = p
fault_place (unbalanced p) = p

abbrev pub refusal : List ℕ → Numbered → Refusal
refusal b r = record { cause = r.refused.cause; command = r.command; line = line_at b r.refused.place; byte = r.refused.place }

abbrev pub commands_or_refusal : List ℕ → Result (List (Command Term) × Supply) Numbered → Result (List (Command Term) × Supply) Unaccepted
commands_or_refusal b (Ok r) = Ok r
commands_or_refusal b (Err r) = Err (refused (refusal b r))

abbrev pub read_forms : List ℕ → Result Forms Fault → Result (List (Command Term) × Supply) Unaccepted
read_forms b (Err f) = Err (unread f (line_at b (fault_place f)))
read_forms b (Ok fs) = commands_or_refusal b (read_commands 1 fs (first_standing fs))

-- the commands of a text with their terms, and the names that are left; or why it isn't accepted
abbrev pub script : List ℕ → Result (List (Command Term) × Supply) Unaccepted
script b = read_forms b (forms_to_exit b)

abbrev pub fault_of : {A E : Type 0} → Result A E → Option E
fault_of (Ok a) = None
fault_of (Err e) = Some e

-- why a text isn't accepted, if it isn't
abbrev pub fault : List ℕ → Option Unaccepted
fault b = fault_of (script b)
