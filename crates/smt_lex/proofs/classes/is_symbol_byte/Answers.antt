use Rattle.std.proofs.Common.{sym, ◌∙◌, ap}
use Rattle.smt_lex.proofs.ClassFacts.{told, is_symbol_class, symbol_by, no_symbol_by}
use Rattle.smt_lex.proofs.classes.is_symbol_byte.Goals as goal

pub returns-in-Letter : goal.returns-in-Letter
returns-in-Letter c = sym ((told c.args.byte).symbol ∙ ap is_symbol_class (sym c.class_of.ensures) ∙ symbol_by c.class_of.result c.in-Letter.is)

pub returns-in_default : goal.returns-in_default
returns-in_default c = sym ((told c.args.byte).symbol ∙ ap is_symbol_class (sym c.class_of.ensures) ∙ no_symbol_by c.class_of.result c.in_default.not-Letter c.in_default.not-Digit)
