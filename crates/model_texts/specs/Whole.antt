-- A text that was scanned to its end.
use Rattle.std.specs.Prelude.{◌≡◌, Ok}
use Rattle.smt_lex.specs.Forms.{tokens_of}
use Rattle.smt_lex.specs.Forest.{Source}
use Rattle.smt_lex.specs.declared.items.Until.TheVariants.{End}

abbrev pub IsWhole : Source → Type 0
IsWhole s = tokens_of End s.bytes ≡ Ok s.tokens
