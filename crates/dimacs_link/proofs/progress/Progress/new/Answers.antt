use Rattle.std.proofs.Common.{◌∙◌, refl, true, false}
use Rattle.dimacs_link.proofs.Naming.{none_named}
use Rattle.dimacs_link.proofs.progress.Progress.new.Goals as goal

pub returns : goal.returns
returns c = record {
  constants = refl;
  ending = refl;
  values = refl;
  ended = refl;
  positive = c.in_ok-all_false.ensures ∙ none_named true 1 c.args.constants;
  negative = c.in_ok-all_false-2.ensures ∙ none_named false 1 c.args.constants;
}
