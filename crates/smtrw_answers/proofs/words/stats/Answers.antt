use Rattle.std.proofs.Common.{◌∙◌, ap, sym, option_map}
use Rattle.clap.specs.Words.{found_of}
use Rattle.smtrw_answers.specs.declared.grammar.Plan.TheVariants as plan
use Rattle.smtrw_answers.proofs.PlannedWords.{planned_ok, counting_answer, counting_found}
use Rattle.smtrw_answers.proofs.words.stats.Goals as goal

pub returns-in_default : goal.returns-in_default
returns-in_default c = planned_ok (plan.Stats c.args.word) _ c.requires

pub unreachable-requires : goal.unreachable-requires
unreachable-requires c = counting_found _ (found_of c.in-Ok.matches) c.in-Ok.ensures.values (sym c.get_str.ensures ∙ ap (option_map (λ t. t.now)) c.in_default-get_str.is)

pub returns : goal.returns
returns c =
    counting_answer _ (found_of c.in-Ok.matches) c.args.word c.in-Some.name.now c.requires c.in-Ok.ensures.values (sym c.get_str.ensures ∙ ap (option_map (λ t. t.now)) c.in-Some.is)
