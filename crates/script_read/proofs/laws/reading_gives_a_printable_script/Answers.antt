use Rattle.script_read.proofs.PrintableScript.{read_scripts_print}
use Rattle.script_read.proofs.laws.reading_gives_a_printable_script.Goals as goal

pub returns : goal.returns
returns c = read_scripts_print
