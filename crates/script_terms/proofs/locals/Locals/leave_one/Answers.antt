use Rattle.std.proofs.Common.{rules}
use Rattle.script_terms.proofs.Linking.{left-last, is-bound}
use Rattle.script_terms.proofs.locals.Locals.leave_one.Goals as goal

pub point_to-requires : goal.point_to-requires
point_to-requires c = is-bound c.pop.new.self.items c.in-Some.binding c.self.inside.bindings.items c.self.inside.places.entries c.self.inside.constants.items (search rules) c.self.invariant

pub invariant_of-self-2 : goal.invariant_of-self-2
invariant_of-self-2 c =
    left-last c.pop.new.self.items c.in-Some.binding c.self.inside.bindings.items c.self.inside.places.entries c.point_to.new.places.entries c.self.inside.constants.items c.pop_constant.new.constants.items
    (search rules) c.self.invariant c.point_to.ensures c.pop_constant.ensures
