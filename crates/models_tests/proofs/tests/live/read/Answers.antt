use Rattle.script_read.specs.CommandLists.{commands_of}
use Rattle.models_tests.proofs.tests.live.read.Goals as goal

pub returns-clause-printable : goal.returns-clause-printable
returns-clause-printable g c =
    c.reading_gives_a_printable_script.ensures c.in_ok-forest.forest.bytes (commands_of c.read_script.new.table c.in_ok-script.script.commands, c.in_ok-script.field-0-1) c.in_ok-script.ensures.script
