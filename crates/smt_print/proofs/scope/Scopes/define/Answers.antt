use Rattle.std.proofs.Common.{◌≡◌, rules, length, List, map, reverse, ap, sym, ◌∙◌, subst, Vec, Global}
use Rattle.std.specs.Prelude.{set}
use Rattle.std.proofs.lemmas.Grind.{get_or_default_zero}
use Rattle.smt_print.specs.declared.scope.Defined.{Defined}
use Rattle.smt_print.specs.Defined.{IsScoped, place_in}
use Rattle.smt_print.proofs.NumbersFound.{scoped-more}
use Rattle.smt_print.proofs.scope.Scopes.define.Goals as goal

pub invariant_of-self-2 : goal.invariant_of-self-2
invariant_of-self-2 c =
    let ps = c.self.inside.places.items in
    let between = c.make_room.new.places.items in
    let current = c.self.inside.current.items in
    let new = set between c.args.id.0 c.in-Ok.number in
    let items : Vec Defined Global → List Defined = λ v. v.items in
    let outer = map items (reverse c.self.inside.outer.items) in
    let number : c.in-Ok.number ≡ length current = search rules in
    let d : Defined = record { node = c.args.id; around = c.index.result.now } in
    let around : c.index.result.now ≡ place_in between c.args.id.0 = c.index.ensures ∙ get_or_default_zero between c.args.id.0 c.index.result.now c.in_ok-make_room.ensures.room in
    subst (λ (ds : List Defined). IsScoped new ds outer) (sym c.in_ok-push.ensures.items)
    (scoped-more ps between new current outer d c.self.invariant c.in_ok-make_room.ensures.longer c.in_ok-make_room.ensures.same around c.in_ok-make_room.ensures.room (ap (set between c.args.id.0) number))
