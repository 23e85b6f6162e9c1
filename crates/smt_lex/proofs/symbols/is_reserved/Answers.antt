use Rattle.std.proofs.Common.{◌∙◌, arith}
use Rattle.smt_lex.proofs.ReservedWords.{reserved_beginning, no_reserved_word, empty_reserved, alone}
use Rattle.smt_lex.proofs.symbols.is_reserved.Goals as goal

pub returns-in-33 : goal.returns-in-33
returns-in-33 c = c.eq.ensures ∙ alone c.args.word.now c.as_slice.ensures ∙ reserved_beginning c.args.word.now 33 c.in-33.is

pub returns-in-66 : goal.returns-in-66
returns-in-66 c = c.eq-in-66.ensures ∙ alone c.args.word.now c.as_slice-in-66.ensures ∙ reserved_beginning c.args.word.now 66 c.in-66.is

pub returns-in-68 : goal.returns-in-68
returns-in-68 c = c.eq-in-68.ensures ∙ alone c.args.word.now c.as_slice-in-68.ensures ∙ reserved_beginning c.args.word.now 68 c.in-68.is

pub returns-in-72 : goal.returns-in-72
returns-in-72 c = c.eq-in-72.ensures ∙ alone c.args.word.now c.as_slice-in-72.ensures ∙ reserved_beginning c.args.word.now 72 c.in-72.is

pub returns-in-78 : goal.returns-in-78
returns-in-78 c = c.eq-in-78.ensures ∙ alone c.args.word.now c.as_slice-in-78.ensures ∙ reserved_beginning c.args.word.now 78 c.in-78.is

pub returns-in-83 : goal.returns-in-83
returns-in-83 c = c.eq-in-83.ensures ∙ alone c.args.word.now c.as_slice-in-83.ensures ∙ reserved_beginning c.args.word.now 83 c.in-83.is

pub returns-in-95 : goal.returns-in-95
returns-in-95 c = c.eq-in-95.ensures ∙ alone c.args.word.now c.as_slice-in-95.ensures ∙ reserved_beginning c.args.word.now 95 c.in-95.is

pub returns-in-97 : goal.returns-in-97
returns-in-97 c = c.is_among.ensures ∙ reserved_beginning c.args.word.now 97 c.in-97.is

pub returns-in-99 : goal.returns-in-99
returns-in-99 c = c.is_among-in-99.ensures ∙ reserved_beginning c.args.word.now 99 c.in-99.is

pub returns-in-100 : goal.returns-in-100
returns-in-100 c = c.is_among-in-100.ensures ∙ reserved_beginning c.args.word.now 100 c.in-100.is

pub returns-in-101 : goal.returns-in-101
returns-in-101 c = c.is_among-in-101.ensures ∙ reserved_beginning c.args.word.now 101 c.in-101.is

pub returns-in-102 : goal.returns-in-102
returns-in-102 c = c.eq-in-102.ensures ∙ alone c.args.word.now c.as_slice-in-102.ensures ∙ reserved_beginning c.args.word.now 102 c.in-102.is

pub returns-in-103 : goal.returns-in-103
returns-in-103 c = c.is_among-in-103.ensures ∙ reserved_beginning c.args.word.now 103 c.in-103.is

pub returns-in-108 : goal.returns-in-108
returns-in-108 c = c.eq-in-108.ensures ∙ alone c.args.word.now c.as_slice-in-108.ensures ∙ reserved_beginning c.args.word.now 108 c.in-108.is

pub returns-in-109 : goal.returns-in-109
returns-in-109 c = c.eq-in-109.ensures ∙ alone c.args.word.now c.as_slice-in-109.ensures ∙ reserved_beginning c.args.word.now 109 c.in-109.is

pub returns-in-112 : goal.returns-in-112
returns-in-112 c = c.is_among-in-112.ensures ∙ reserved_beginning c.args.word.now 112 c.in-112.is

pub returns-in-114 : goal.returns-in-114
returns-in-114 c = c.is_among-in-114.ensures ∙ reserved_beginning c.args.word.now 114 c.in-114.is

pub returns-in-115 : goal.returns-in-115
returns-in-115 c = c.is_among-in-115.ensures ∙ reserved_beginning c.args.word.now 115 c.in-115.is

pub returns-in_default : goal.returns-in_default
returns-in_default c = empty_reserved c.args.word.now c.in_default.len_below

pub returns-in_default-first : goal.returns-in_default-first
returns-in_default-first c = no_reserved_word c.args.word.now (grind arith) (grind arith) (grind arith)
