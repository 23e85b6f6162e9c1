use Rattle.smt_lex.proofs.Printing.{one_symbol}
use Rattle.smt_lex.proofs.Rereading.{read_again}
use Rattle.script_read.proofs.laws.written_tokens_are_read.Goals as goal

pub returns-clause-symbols : goal.returns-clause-symbols
returns-clause-symbols c = one_symbol

pub returns-clause-tokens : goal.returns-clause-tokens
returns-clause-tokens c = read_again
