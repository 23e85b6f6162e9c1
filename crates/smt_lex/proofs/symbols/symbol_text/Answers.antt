use Rattle.smt_lex.proofs.Printing.{one_symbol}
use Rattle.smt_lex.proofs.symbols.symbol_text.Goals as goal

pub returns-clause-one : goal.returns-clause-one
returns-clause-one c = one_symbol c.args.name.now c.requires

pub returns-then-is_simple-clause-one : goal.returns-then-is_simple-clause-one
returns-then-is_simple-clause-one c = one_symbol c.args.name.now c.requires

pub returns-in_err-text-clause-one : goal.returns-in_err-text-clause-one
returns-in_err-text-clause-one c = one_symbol c.args.name.now c.requires
