-- The outer shapes of commands: SMT-LIB 2.6, section 3.9. Which parts a command has is settled here, and not what they mean.
use Rattle.std.specs.Prelude.{ℕ, Bool, true, false, cond, if◌then◌else◌, List, [], ◌∷◌, codes, bytes_eq, Result, Ok, Option, Some, None, option_map}
use Rattle.smt_lex.specs.Names.{Name, is_command_word}
use Rattle.smt_lex.specs.Lex.{Fault}
use Rattle.smt_lex.specs.Forms.{Form, atom, node, Forms, none, ◌⨾◌, forms}
use Rattle.script_terms.specs.declared.causes.Cause.TheVariants.{UnknownCommand, UnsupportedCommand, BadForm}
use Rattle.script_terms.specs.Refusals.{Refused, at, given}
use Rattle.script_terms.specs.Parts.{place_of, symbol_in, is_symbol, word_in, numeral_in, keyword_in, is_keyword, is_text}

-- a thing and where it stands
pub record At (A : Type 0) : Type 0 where
  pub it : A
  pub place : ℕ

-- ---- the commands that are supported

pub data CommandWord : Type 0 where
  set_logic_word : CommandWord
  set_info_word : CommandWord
  set_option_word : CommandWord
  get_info_word : CommandWord
  get_option_word : CommandWord
  echo_word : CommandWord
  get_model_word : CommandWord
  declare_sort_word : CommandWord
  define_sort_word : CommandWord
  declare_const_word : CommandWord
  declare_fun_word : CommandWord
  define_fun_word : CommandWord
  assert_word : CommandWord
  check_sat_word : CommandWord
  check_sat_assuming_word : CommandWord
  push_word : CommandWord
  pop_word : CommandWord
  reset_word : CommandWord
  reset_assertions_word : CommandWord
  exit_word : CommandWord

abbrev pub command_table : List (Name × CommandWord)
command_table =
    (codes "assert", assert_word) ∷ (codes "check-sat", check_sat_word) ∷ (codes "check-sat-assuming", check_sat_assuming_word) ∷ (codes "declare-const", declare_const_word)
    ∷ (codes "declare-fun", declare_fun_word) ∷ (codes "declare-sort", declare_sort_word) ∷ (codes "define-fun", define_fun_word) ∷ (codes "define-sort", define_sort_word)
    ∷ (codes "echo", echo_word) ∷ (codes "exit", exit_word) ∷ (codes "get-info", get_info_word) ∷ (codes "get-model", get_model_word) ∷ (codes "get-option", get_option_word)
    ∷ (codes "pop", pop_word) ∷ (codes "push", push_word) ∷ (codes "reset", reset_word) ∷ (codes "reset-assertions", reset_assertions_word) ∷ (codes "set-info", set_info_word)
    ∷ (codes "set-logic", set_logic_word) ∷ (codes "set-option", set_option_word) ∷ []

abbrev pub word_among : List (Name × CommandWord) → Name → Option CommandWord
word_among [] n = None
word_among (p ∷ ps) n = cond (bytes_eq p.0 n) (Some p.1) (word_among ps n)

unfoldable pub supported : Name → Option CommandWord
supported n = word_among command_table n

-- ---- shapes

pub data Outline : Type 0 where
  -- passed on as it is written
  passing : Outline
  -- `:global-declarations`, with its value if there is one
  global_option : Option Form → Outline
  -- a name and an arity; a name, parameters and a sort
  sort_declaration : At Name → At ℕ → Outline
  sort_definition : At Name → Forms → Form → Outline
  -- a name, the sorts of arguments and of the result
  symbol_declaration : At Name → Forms → Form → Outline
  -- a name, parameters, the sort of the result and the body
  symbol_definition : At Name → Forms → Form → Form → Outline
  assertion : Form → Outline
  checking : Outline
  assuming : Forms → Outline
  -- a number of levels, where one is written
  pushing : Option (At ℕ) → Outline
  popping : Option (At ℕ) → Outline
  resetting : Outline
  resetting_assertions : Outline
  ending : Outline

-- how many levels: one, where no number is written
abbrev pub levels_written : Option (At ℕ) → ℕ
levels_written None = 1
levels_written (Some n) = n.it

abbrev pub where_so : Bool → Outline → Option Outline
where_so true o = Some o
where_so false o = None

abbrev pub placed : {A : Type 0} → Form → Option A → Option (At A)
placed f a = option_map (λ it. record { it = it; place = place_of f }) a

abbrev pub symbol_at : Form → Option (At Name)
symbol_at f = placed f (symbol_in f)

abbrev pub numeral_at : Form → Option (At ℕ)
numeral_at f = placed f (numeral_in f)

abbrev pub list_in : Form → Option Forms
list_in (atom t) = None
list_in (node place fs) = Some fs

-- the outline of two parts that have their shapes
abbrev pub of_both : {A B : Type 0} → (A → B → Outline) → Option A → Option B → Option Outline
of_both make (Some a) (Some b) = Some (make a b)
of_both make _ _ = None

abbrev pub is_globals : Option Name → Bool
is_globals None = false
is_globals (Some k) = bytes_eq k (codes ":global-declarations")

-- a keyword and at most one form
abbrev pub option_shape : Form → Option Form → Option Outline
option_shape k f = where_so (is_keyword k) (cond (is_globals (keyword_in k)) (global_option f) passing)

-- the outline of a command from the forms behind its word, if they have its shape
abbrev pub shape : CommandWord → Forms → Option Outline
shape set_logic_word (w ⨾ none) = where_so (is_symbol w) passing
shape set_info_word (k ⨾ none) = where_so (is_keyword k) passing
shape set_info_word (k ⨾ f ⨾ none) = where_so (is_keyword k) passing
shape set_option_word (k ⨾ none) = option_shape k None
shape set_option_word (k ⨾ f ⨾ none) = option_shape k (Some f)
shape get_info_word (k ⨾ none) = where_so (is_keyword k) passing
shape get_option_word (k ⨾ none) = where_so (is_keyword k) passing
shape echo_word (t ⨾ none) = where_so (is_text t) passing
shape get_model_word none = Some passing
shape declare_sort_word (n ⨾ i ⨾ none) = of_both sort_declaration (symbol_at n) (numeral_at i)
shape define_sort_word (n ⨾ ps ⨾ s ⨾ none) = of_both (λ name parameters. sort_definition name parameters s) (symbol_at n) (list_in ps)
shape declare_const_word (n ⨾ s ⨾ none) = option_map (λ name. symbol_declaration name none s) (symbol_at n)
shape declare_fun_word (n ⨾ ss ⨾ s ⨾ none) = of_both (λ name arguments. symbol_declaration name arguments s) (symbol_at n) (list_in ss)
shape define_fun_word (n ⨾ ps ⨾ s ⨾ t ⨾ none) = of_both (λ name parameters. symbol_definition name parameters s t) (symbol_at n) (list_in ps)
shape assert_word (t ⨾ none) = Some (assertion t)
shape check_sat_word none = Some checking
shape check_sat_assuming_word (ls ⨾ none) = option_map assuming (list_in ls)
shape push_word none = Some (pushing None)
shape push_word (i ⨾ none) = option_map (λ n. pushing (Some n)) (numeral_at i)
shape pop_word none = Some (popping None)
shape pop_word (i ⨾ none) = option_map (λ n. popping (Some n)) (numeral_at i)
shape reset_word none = Some resetting
shape reset_assertions_word none = Some resetting_assertions
shape exit_word none = Some ending
shape _ _ = None

abbrev pub shaped : ℕ → Forms → Option CommandWord → Result Outline Refused
shaped place fs None = at UnsupportedCommand place
shaped place fs (Some w) = given BadForm place (shape w fs)

-- the first word is a command's name, the command is supported, and its parts have its shape
abbrev pub outline_by : ℕ → Option Name → Forms → Result Outline Refused
outline_by place None fs = at BadForm place
outline_by place (Some w) fs = if is_command_word w then shaped place fs (supported w) else at UnknownCommand place

-- the outline of a command; it is a list that begins with a word
abbrev pub outline : Form → Result Outline Refused
outline (atom t) = at BadForm t.start
outline (node place none) = at BadForm place
outline (node place (f ⨾ fs)) = outline_by place (word_in f) fs

-- ---- texts of commands that are passed on

abbrev pub is_passing : Result Outline Refused → Bool
is_passing (Ok passing) = true
is_passing _ = false

abbrev pub is_passing_alone : Result Forms Fault → Bool
is_passing_alone (Ok (f ⨾ none)) = is_passing (outline f)
is_passing_alone _ = false

-- one command of those that are passed on
abbrev pub is_passed_text : List ℕ → Bool
is_passed_text text = is_passing_alone (forms text)
