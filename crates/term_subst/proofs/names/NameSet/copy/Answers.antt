use Rattle.std.proofs.Common.{◌∙◌}
use Rattle.term_subst.proofs.NamesHeld.{names-cloned}
use Rattle.term_subst.proofs.names.NameSet.copy.Goals as goal

pub returns : goal.returns
returns c = names-cloned c.self.inside.names.keys c.in_ok-clone.field-0.keys c.in_ok-clone.ensures.cases ∙ c.self.view_is
