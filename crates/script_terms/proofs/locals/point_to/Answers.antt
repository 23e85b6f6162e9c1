use Rattle.std.proofs.Common.{◌∙◌, ap, sym, if◌then◌else◌}
use Rattle.smt_terms.specs.Equal.{name_eq}
use Rattle.script_terms.specs.Linked.{at_name}
use Rattle.script_terms.proofs.Linking.{pointed, taken}
use Rattle.script_terms.proofs.locals.point_to.Goals as goal

pub returns-in-Some : goal.returns-in-Some
returns-in-Some c n =
    pointed c.args.places.now.entries c.insert.new.self.entries c.args.name c.in-Some.place c.requires c.insert.result c.insert.ensures.entries c.insert.ensures.absent n
    ∙ ap (λ o. if name_eq c.args.name.now n then o else at_name c.args.places.now.entries n) (sym c.in-Some.is)

pub returns-in-None : goal.returns-in-None
returns-in-None c n =
    taken c.args.places.now.entries c.swap_remove.new.self.entries c.args.name.now n c.swap_remove.ensures.updates.1 c.swap_remove.ensures.updates.3
    ∙ ap (λ o. if name_eq c.args.name.now n then o else at_name c.args.places.now.entries n) (sym c.in-None.is)
