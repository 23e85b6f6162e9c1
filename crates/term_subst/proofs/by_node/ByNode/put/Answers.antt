use Rattle.std.proofs.Common.{◌∙◌, ap, ◌==◌, if◌then◌else◌, Some}
use Rattle.term_subst.specs.ByNode.{found_in}
use Rattle.term_subst.proofs.NodesFound.{found_in-insert}
use Rattle.term_subst.proofs.by_node.ByNode.put.Goals as goal

pub returns : goal.returns
returns g c = λ n.
    ap (λ es. found_in es n) c.in_ok-insert.ensures.entries ∙ found_in-insert c.self.inside.entries.entries c.args.node c.args.value n
    ∙ ap (λ es. if n.0 == c.args.node.0 then Some c.args.value else found_in es n) c.self.view_is
