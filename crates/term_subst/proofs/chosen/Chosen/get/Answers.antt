use Rattle.std.proofs.Common.{sym, ap, ◌∙◌}
use Rattle.term_subst.specs.Keys.{chosen_in}
use Rattle.term_subst.proofs.KeysHeld.{chosen_in-lookup}
use Rattle.term_subst.proofs.chosen.Chosen.get.Goals as goal

pub returns : goal.returns
returns c =
    c.copied.ensures ∙ c.get.ensures.value ∙ chosen_in-lookup c.self.inside.results.entries c.args.key.now
    ∙ sym (c.self.invariant c.args.key.now.node c.args.key.now.cut.items) ∙ ap (λ es. chosen_in es c.args.key.now.node c.args.key.now.cut.items) c.self.view_is
