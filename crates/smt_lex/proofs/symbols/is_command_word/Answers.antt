use Rattle.std.proofs.Common.{◌∙◌, arith}
use Rattle.smt_lex.proofs.ReservedWords.{command_beginning, no_command_word, empty_command, alone}
use Rattle.smt_lex.proofs.symbols.is_command_word.Goals as goal

pub returns-in-97 : goal.returns-in-97
returns-in-97 c = c.eq.ensures ∙ alone c.args.word.now c.as_slice.ensures ∙ command_beginning c.args.word.now 97 c.in-97.is

pub returns-in-99 : goal.returns-in-99
returns-in-99 c = c.is_among.ensures ∙ command_beginning c.args.word.now 99 c.in-99.is

pub returns-in-100 : goal.returns-in-100
returns-in-100 c = c.is_among-in-100.ensures ∙ command_beginning c.args.word.now 100 c.in-100.is

pub returns-in-101 : goal.returns-in-101
returns-in-101 c = c.is_among-in-101.ensures ∙ command_beginning c.args.word.now 101 c.in-101.is

pub returns-in-103 : goal.returns-in-103
returns-in-103 c = c.is_among-in-103.ensures ∙ command_beginning c.args.word.now 103 c.in-103.is

pub returns-in-112 : goal.returns-in-112
returns-in-112 c = c.is_among-in-112.ensures ∙ command_beginning c.args.word.now 112 c.in-112.is

pub returns-in-114 : goal.returns-in-114
returns-in-114 c = c.is_among-in-114.ensures ∙ command_beginning c.args.word.now 114 c.in-114.is

pub returns-in-115 : goal.returns-in-115
returns-in-115 c = c.is_among-in-115.ensures ∙ command_beginning c.args.word.now 115 c.in-115.is

pub returns-in_default : goal.returns-in_default
returns-in_default c = empty_command c.args.word.now c.in_default.len_below

pub returns-in_default-first : goal.returns-in_default-first
returns-in_default-first c = no_command_word c.args.word.now (grind arith)
