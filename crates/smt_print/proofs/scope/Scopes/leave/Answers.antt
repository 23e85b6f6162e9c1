use Rattle.std.proofs.Common.{◌++◌, ap, ◌∙◌, subst, List, map, reverse, Vec, Global}
use Rattle.std.specs.Prelude.{option_to_list}
use Rattle.smt_print.specs.declared.scope.Defined.{Defined}
use Rattle.smt_print.specs.Defined.{IsScoped}
use Rattle.smt_print.proofs.NumbersFound.{scoped-around, last-first}
use Rattle.smt_print.proofs.scope.Scopes.leave.Goals as goal

pub invariant_of-self : goal.invariant_of-self
invariant_of-self c =
    let ps = c.self.inside.places.items in
    let current = c.self.inside.current.items in
    let items : Vec Defined Global → List Defined = λ v. v.items in
    let split = last-first items c.self.inside.outer.items c.pop.new.self.items c.unwrap.result (c.pop.ensures.items ∙ ap (λ r. c.pop.new.self.items ++ option_to_list r) c.unwrap.ensures) in
    scoped-around ps c.take_back.new.places.items current c.unwrap.result.items (map items (reverse c.pop.new.self.items)) (subst (IsScoped ps current) split c.self.invariant) c.take_back.ensures.places c.take_back.ensures.long
