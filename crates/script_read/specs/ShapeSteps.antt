-- The commands that are supported, as the code holds them.
use Rattle.std.specs.Prelude.{ℕ, List, Option, Some, None}
use denote.Bor.{Bor}
use Rattle.smt_lex.specs.Forms.{Forms, none, ◌⨾◌}
use Rattle.smt_lex.specs.Names.{Name}
use Rattle.script_read.specs.declared.shapes.CommandWord.{CommandWord}
use Rattle.script_read.specs.declared.shapes.CommandWord.TheVariants.{Assert, CheckSat, CheckSatAssuming, DeclareConst, DeclareFun, DeclareSort, DefineFun, DefineSort, Echo, Exit, GetInfo, GetModel, GetOption, Pop, Push, Reset, ResetAssertions, SetInfo, SetLogic, SetOption}
use Rattle.script_read.specs.Outlines.{Outline, CommandWord as WordOf, set_logic_word, set_info_word, set_option_word, get_info_word, get_option_word, echo_word, get_model_word, declare_sort_word, define_sort_word, declare_const_word, declare_fun_word, define_fun_word, assert_word, check_sat_word, check_sat_assuming_word, push_word, pop_word, reset_word, reset_assertions_word, exit_word}

abbrev pub word_seen : CommandWord → WordOf
word_seen Assert = assert_word
word_seen CheckSat = check_sat_word
word_seen CheckSatAssuming = check_sat_assuming_word
word_seen DeclareConst = declare_const_word
word_seen DeclareFun = declare_fun_word
word_seen DeclareSort = declare_sort_word
word_seen DefineFun = define_fun_word
word_seen DefineSort = define_sort_word
word_seen Echo = echo_word
word_seen Exit = exit_word
word_seen GetInfo = get_info_word
word_seen GetModel = get_model_word
word_seen GetOption = get_option_word
word_seen Pop = pop_word
word_seen Push = push_word
word_seen Reset = reset_word
word_seen ResetAssertions = reset_assertions_word
word_seen SetInfo = set_info_word
word_seen SetLogic = set_logic_word
word_seen SetOption = set_option_word

-- a name with its command
abbrev pub entry_seen : Bor (List ℕ) × CommandWord → Name × WordOf
entry_seen p = (p.0.now, word_seen p.1)

-- the outline of a command that has no parts
abbrev pub alone : Outline → Forms → Option Outline
alone o none = Some o
alone o (f ⨾ fs) = None
