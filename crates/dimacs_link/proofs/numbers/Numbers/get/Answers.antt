use Rattle.std.proofs.Common.{sym, ap, ◌∙◌}
use Rattle.dimacs_link.specs.Constants.{Numbered, number_in}
use Rattle.dimacs_link.proofs.Numbering.{number_in-lookup}
use Rattle.dimacs_link.proofs.numbers.Numbers.get.Goals as goal

pub returns : goal.returns
returns c = c.copied.ensures ∙ c.get.ensures.value ∙ sym (number_in-lookup c.self.inside.numbers.entries c.args.symbol) ∙ ap (λ (ps : Numbered). number_in ps c.args.symbol) c.self.view_is
