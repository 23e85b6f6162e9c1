use Rattle.std.proofs.Common.{◌∙◌, ap}
use Rattle.smt_terms.specs.Free.{name_among}
use Rattle.term_subst.proofs.NamesHeld.{among-held}
use Rattle.term_subst.proofs.names.NameSet.has.Goals as goal

pub returns : goal.returns
returns c = c.contains.ensures ∙ among-held c.self.inside.names.keys c.args.name.now ∙ ap (λ ns. name_among ns c.args.name.now) c.self.view_is
