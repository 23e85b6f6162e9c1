use Rattle.std.proofs.Common.{sym, ap, ◌∙◌}
use Rattle.term_subst.specs.Maps.{Pairs, image_in}
use Rattle.term_subst.proofs.Images.{image_in-lookup}
use Rattle.term_subst.proofs.maps.SymMap.get.Goals as goal

pub returns : goal.returns
returns c = c.copied.ensures ∙ c.get.ensures.value ∙ sym (image_in-lookup c.self.inside.images.entries c.args.from) ∙ ap (λ (ps : Pairs). image_in ps c.args.from) c.self.view_is
