use Rattle.std.proofs.Common.{◌≡◌, drop}
use Rattle.std.specs.List.{list_all}
use Rattle.smt_lex.specs.Lexicon.{is_symbol_byte}
use Rattle.smt_lex.proofs.runs.is_symbol_bytes.Given as goal

abbrev pub invariant-loop-byte : goal.invariant-loop-byte
invariant-loop-byte l = list_all is_symbol_byte l.text ≡ list_all is_symbol_byte (drop l.byte-index l.text)
