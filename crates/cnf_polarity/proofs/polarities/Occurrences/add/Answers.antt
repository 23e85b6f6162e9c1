use Rattle.std.proofs.Common.{ap, sym, ◌∙◌, subst}
use Rattle.cnf_polarity.specs.Marks.{Marks, joined, marked, AddsMark}
use Rattle.cnf_polarity.proofs.KeptMarks.{adds-from}
use Rattle.cnf_polarity.proofs.polarities.Occurrences.add.Goals as goal

pub returns : goal.returns
returns c =
    subst (λ (old : Marks). AddsMark old c.insert.new.self.entries c.args.id c.args.polarities) c.self.view_is
    (adds-from c.self.inside.found.entries c.insert.new.self.entries c.args.id c.args.polarities c.with-all.result
    (c.with-all.ensures ∙ ap (λ p. joined p c.args.polarities) c.of.ensures ∙ ap (λ (ms : Marks). joined (marked ms c.args.id) c.args.polarities) (sym c.self.view_is))
    c.in_ok-insert.ensures.updates.0)
