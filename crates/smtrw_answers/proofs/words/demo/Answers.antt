use Rattle.std.proofs.Common.{◌∙◌, ap, sym}
use Rattle.clap.specs.Words.{found_of}
use Rattle.smtrw_answers.specs.declared.grammar.Plan.TheVariants as plan
use Rattle.smtrw_answers.specs.Asking.{number_of}
use Rattle.smtrw_answers.proofs.PlannedWords.{planned_ok, seed_found}
use Rattle.smtrw_answers.proofs.words.demo.Goals as goal

pub returns-in_default : goal.returns-in_default
returns-in_default c = planned_ok plan.Demo _ c.requires

pub unreachable-requires : goal.unreachable-requires
unreachable-requires c = seed_found _ (found_of c.in-Ok.matches) c.in-Ok.ensures.values (sym (ap number_of c.get_str.ensures) ∙ sym c.number_of.ensures ∙ c.in_default-number_of.is)
