use Rattle.std.proofs.Common.{List, [], take, slice_get, ap, sym, ◌∙◌, option_map}
use Rattle.std.specs.Map.Iter.{deref_pair}
use Rattle.ackermann.specs.declared.uses.LiveUse.{LiveUse}
use Rattle.ackermann.specs.LiveUses.{reach}
use Rattle.ackermann.proofs.KeptUses.{earlier-at}
use Rattle.ackermann.proofs.uses.LiveUses.earlier.Goals as goal

pub returns : goal.returns
returns c u at =
    earlier-at [] c.self.inside.entries.entries c.args.place (c.unwrap.result.0.now, c.unwrap.result.1.now) u c.self.invariant.chained
    (sym c.get_index.ensures.entry ∙ ap (option_map deref_pair) c.unwrap.ensures)
    (ap (λ (us : List LiveUse). slice_get us c.args.place) c.self.view_is ∙ at)
    ∙ ap (λ (us : List LiveUse). reach u.function (take c.args.place us)) c.self.view_is
