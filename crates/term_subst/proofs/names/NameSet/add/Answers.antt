use Rattle.std.proofs.Common.{◌∙◌, ap, map}
use Rattle.term_subst.specs.Names.{with_name}
use Rattle.term_subst.proofs.NamesHeld.{names-inserted}
use Rattle.term_subst.proofs.names.NameSet.add.Goals as goal

pub returns-clause-ok : goal.returns-clause-ok
returns-clause-ok c =
    ap (map (λ n. n.items)) c.in_ok-insert.ensures.keys ∙ names-inserted c.self.inside.names.keys c.in_ok-name.name c.args.name.now c.in_ok-name.ensures.items
    ∙ ap (λ ns. with_name ns c.args.name.now) c.self.view_is
