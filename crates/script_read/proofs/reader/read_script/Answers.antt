use Rattle.std.proofs.Common.{◌≡◌, false, sym, ap, ◌∙◌, subst}
use Rattle.smt_terms.specs.Fresh.{Supply}
use Rattle.term_table.specs.Formulas.{Formulas}
use Rattle.script_read.specs.declared.session.Session.{Session}
use Rattle.script_terms.specs.Known.{nothing_known}
use Rattle.script_terms.specs.Places.{forms_from}
use Rattle.script_read.specs.Script.{fresh, first_standing}
use Rattle.script_read.specs.Steps.{StandsAt}
use Rattle.smt_lex.specs.Forms.{Forms}
use Rattle.script_read.proofs.Matching.{read_balanced}
use Rattle.script_read.proofs.ReaderSteps.{first_stands, script_refused, script_read}
use Rattle.script_read.proofs.TextNames.{text_spared}
use Rattle.script_read.proofs.reader.read_script.Goals as goal

-- a session before all commands
begun : (t : Formulas) (fs : Forms) (x : Session) (names : Supply)
    → x ≡ record { sofar = record { scope = nothing_known; fresh = names }; global = false; begun = false; asserted = 0 } → names ≡ fresh fs → StandsAt t x (first_standing fs)
begun t fs x names is names_are = subst (λ (y : Session). StandsAt t y (first_standing fs)) (sym is) (first_stands t fs names names_are)

pub read_commands-requires-clause-text : goal.read_commands-requires-clause-text
read_commands-requires-clause-text c =
    text_spared c.args.forest.now.tokens c.new-session.result.sofar.fresh (read_balanced c.args.forest.now c.requires)
    (ap (λ (x : Session). x.sofar.fresh.taken) c.new-session.ensures ∙ ap (λ (s : Supply). s.taken) c.in_ok-names.ensures)

pub read_commands-requires-clause-known : goal.read_commands-requires-clause-known
read_commands-requires-clause-known c = (
  first_standing (forms_from c.args.forest.now.tokens 0),
  begun c.make_room.new.table (forms_from c.args.forest.now.tokens 0) c.new-session.result c.in_ok-names.names c.new-session.ensures c.in_ok-names.ensures,
)

pub returns-in_err-commands-clause-script : goal.returns-in_err-commands-clause-script
returns-in_err-commands-clause-script c =
    script_refused c.read_commands.new.table c.args.forest.now c.requires c.read_commands.new.session.sofar.fresh c.in_err-commands.field-0.0 c.from_residual-in_err-commands.result c.from_residual-in_err-commands.ensures.1
    (c.in_err-commands.ensures.commands (first_standing (forms_from c.args.forest.now.tokens 0))
    (begun c.make_room.new.table (forms_from c.args.forest.now.tokens 0) c.new-session.result c.in_ok-names.names c.new-session.ensures c.in_ok-names.ensures))

pub returns-clause-script : goal.returns-clause-script
returns-clause-script c =
    script_read c.read_commands.new.table c.args.forest.now c.requires c.in_ok-commands.commands c.read_commands.new.session.sofar.fresh c.into_names.result c.into_names.ensures
    (c.in_ok-commands.ensures.commands (first_standing (forms_from c.args.forest.now.tokens 0))
    (begun c.make_room.new.table (forms_from c.args.forest.now.tokens 0) c.new-session.result c.in_ok-names.names c.new-session.ensures c.in_ok-names.ensures))
