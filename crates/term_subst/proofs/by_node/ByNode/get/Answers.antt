use Rattle.std.proofs.Common.{sym, ap, ◌∙◌}
use Rattle.term_subst.specs.ByNode.{found_in}
use Rattle.term_subst.proofs.NodesFound.{found_in-lookup}
use Rattle.term_subst.proofs.by_node.ByNode.get.Goals as goal

pub returns : goal.returns
returns g c = c.get.ensures.value ∙ sym (found_in-lookup c.self.inside.entries.entries c.args.node) ∙ ap (λ es. found_in es c.args.node) c.self.view_is
