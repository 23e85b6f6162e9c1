use Rattle.std.proofs.Common.{◌∙◌}
use Rattle.script_read.specs.Commands.{signature}
use Rattle.models.specs.LiveRoots.{roots, flags}
use Rattle.dimacs_link.specs.Checks.{answered_model}
use Rattle.dimacs_link.proofs.LinkedChecks.{flags_are, flags_distinct, roots_clauses, roots_hold}
use Rattle.dimacs_link.proofs.laws.checks_are_linked.Goals as goal

pub returns : goal.returns
returns c cs k printable first last linked =
    let answers = c.answers_are_models.ensures (signature cs k) (flags cs k) in
    let models = c.models_are_answers.ensures in
    let rs = roots cs k in
    let all = roots_clauses cs k linked in
    record {
      over = λ vs size. (answers vs rs (flags_are cs k) (flags_distinct cs k printable) size all).0;
      answers = λ vs size. roots_hold (answered_model cs k vs) cs k ∙ (answers vs rs (flags_are cs k) (flags_distinct cs k printable) size all).1;
      models = λ m. roots_hold m cs k ∙ models m (flags cs k) rs all;
    }
