use Rattle.std.proofs.Common.{sym, ◌∙◌, ap}
use Rattle.smt_lex.proofs.ClassFacts.{told, is_run_class, run_by, no_run_by}
use Rattle.smt_lex.proofs.classes.is_run_byte.Goals as goal

pub returns-in-Letter : goal.returns-in-Letter
returns-in-Letter c = sym ((told c.args.byte).run ∙ ap is_run_class (sym c.class_of.ensures) ∙ run_by c.class_of.result c.in-Letter.is)

pub returns-in_default : goal.returns-in_default
returns-in_default c =
    sym ((told c.args.byte).run ∙ ap is_run_class (sym c.class_of.ensures)
    ∙ no_run_by c.class_of.result c.in_default.not-Letter c.in_default.not-Digit c.in_default.not-Colon c.in_default.not-Hash)
