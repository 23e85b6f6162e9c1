use Rattle.std.proofs.Common.{◌∙◌, ap}
use Rattle.term_subst.specs.Maps.{Pairs, with_image}
use Rattle.term_subst.proofs.Images.{with_image-insert}
use Rattle.term_subst.proofs.maps.SymMap.set.Goals as goal

pub returns-clause-set : goal.returns-clause-set
returns-clause-set c =
    c.in_ok-insert.ensures.entries ∙ with_image-insert c.self.inside.images.entries c.args.from c.args.to
    ∙ ap (λ (ps : Pairs). with_image ps c.args.from c.args.to) c.self.view_is
