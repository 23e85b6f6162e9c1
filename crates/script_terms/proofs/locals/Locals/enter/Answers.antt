use Rattle.std.proofs.Common.{◌≡◌, ◌∙◌, ◌||◌, ◌++◌, ◌∷◌, [], ap, subst, rules, reverse, length}
use Rattle.script_terms.specs.declared.locals.Binding.{Binding}
use Rattle.script_terms.specs.Bound.{constants_before, is_quantified_local, quantified_among}
use Rattle.script_terms.specs.Linked.{names_bound, place_in, at_name, AreLinked}
use Rattle.script_terms.proofs.Linking.{entered-last, place-before}
use Rattle.script_terms.proofs.locals.Locals.enter.Goals as goal

pub is_quantified_with-is_quantified-requires : goal.is_quantified_with-is_quantified-requires
is_quantified_with-is_quantified-requires c =
    rw (c.deref.ensures.value ∙ c.in_ok-reserve.ensures.items)
    (place-before c.self.inside.bindings.items c.args.name.now c.in_ok-outer.outer (c.in_ok-outer.ensures.old ∙ c.self.invariant.places c.args.name.now))

pub invariant_of-self-2 : goal.invariant_of-self-2
invariant_of-self-2 c =
    let n = c.args.name.now in
    let quantified = c.is_quantified_with-is_quantified.result in
    let b : Binding = record { name = c.args.name; local = c.args.local; outer = c.in_ok-outer.outer; is_quantified = quantified } in
    let pushed : c.push.new.self.items ≡ c.self.inside.bindings.items ++ b ∷ [] = c.in_ok-push.ensures.items ∙ ap (λ bs. bs ++ b ∷ []) c.in_ok-reserve.ensures.items in
    let place : c.len.result ≡ length c.self.inside.bindings.items = search rules in
    let outer : c.in_ok-outer.outer ≡ at_name c.self.inside.places.entries n = c.in_ok-outer.ensures.old in
    let flag : quantified ≡ (is_quantified_local c.args.local || quantified_among (names_bound (reverse c.self.inside.bindings.items)) n) =
    subst (λ bs. AreLinked (reverse bs) → c.in_ok-outer.outer ≡ place_in (reverse bs) n → quantified ≡ (is_quantified_local c.args.local || quantified_among (names_bound (reverse bs)) n))
    (c.deref.ensures.value ∙ c.in_ok-reserve.ensures.items) (c.is_quantified_with-is_quantified.ensures n) c.self.invariant.links (outer ∙ c.self.invariant.places n) in
    let constants : reverse c.push_constant.new.constants.items ≡ constants_before c.args.local (reverse c.self.inside.constants.items) =
    c.in_ok-push_constant.ensures.ok ∙ ap (λ fs. constants_before c.args.local (reverse fs)) c.in_ok-reserve-2.ensures.items in
    entered-last c.self.inside.bindings.items b c.push.new.self.items c.self.inside.places.entries c.insert.new.self.entries c.self.inside.constants.items c.push_constant.new.constants.items
    c.len.result pushed c.self.invariant place outer flag c.in_ok-outer.ensures.entries constants
