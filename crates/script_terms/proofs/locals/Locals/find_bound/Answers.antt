use Rattle.std.proofs.Common.{◌≡◌, ◌∙◌, length, Some, None, ap, sym, reverse, option_copied, vec_len, rules, arith}
use Rattle.script_terms.specs.Bound.{innermost}
use Rattle.script_terms.proofs.Linking.{found-in, found-before, absent}
use Rattle.script_terms.proofs.locals.Locals.find_bound.Goals as goal

pub index-requires : goal.index-requires
index-requires c =
    let held : vec_len c.self.inside.bindings ≡ length c.self.inside.bindings.items = search rules in
    let at : option_copied c.get.result ≡ Some c.in-Some.place.now = ap option_copied c.in-Some.is in
    let few = found-before c.self.inside.bindings.items c.args.name.now c.in-Some.place.now (sym (c.self.invariant.places c.args.name.now) ∙ sym c.get.ensures.value ∙ at) in
    omega (arith, held, few)

pub returns-in-Some : goal.returns-in-Some
returns-in-Some c =
    let at : option_copied c.get.result ≡ Some c.in-Some.place.now = ap option_copied c.in-Some.is in
    let f = found-in c.self.inside.bindings.items c.args.name.now c.in-Some.place.now c.index.result.now c.self.invariant.links
    (sym (c.self.invariant.places c.args.name.now) ∙ sym c.get.ensures.value ∙ at) c.index.ensures in
    sym (ap (λ ps. innermost ps c.args.name.now) (sym c.self.view_is) ∙ f)

pub returns-in-None : goal.returns-in-None
returns-in-None c =
    let none : option_copied c.get.result ≡ None = ap option_copied c.in-None.is in
    sym (ap (λ ps. innermost ps c.args.name.now) (sym c.self.view_is) ∙ (absent (reverse c.self.inside.bindings.items) c.args.name.now (sym (c.self.invariant.places c.args.name.now) ∙ sym c.get.ensures.value ∙ none)).0)
