use Rattle.std.proofs.Common.{◌∙◌, ap}
use Rattle.dimacs_link.specs.Constants.{Numbered, with_number}
use Rattle.dimacs_link.proofs.Numbering.{with_number-insert}
use Rattle.dimacs_link.proofs.numbers.Numbers.set.Goals as goal

pub returns : goal.returns
returns c =
    c.in_ok-insert.ensures.entries ∙ with_number-insert c.self.inside.numbers.entries c.args.symbol c.args.number
    ∙ ap (λ (ps : Numbered). with_number ps c.args.symbol c.args.number) c.self.view_is
