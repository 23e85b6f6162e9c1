use Rattle.std.proofs.Common.{◌≡◌, ◌∙◌, length, ap, sym, subst, reverse, vec_len, rules, arith}
use Rattle.std.proofs.lemmas.Bool.Decides.{Decides-eqb}
use Rattle.script_terms.specs.Bound.{quantified_among}
use Rattle.script_terms.specs.Linked.{names_bound, place_in, AreLinked}
use Rattle.script_terms.proofs.Linking.{none_bound, place-before}
use Rattle.script_terms.proofs.locals.Locals.is_quantified.Goals as goal

pub is_quantified_at-requires : goal.is_quantified_at-requires
is_quantified_at-requires c =
    rw (c.deref.ensures.value)
    (place-before c.self.inside.bindings.items c.args.name.now c.copied.result (c.copied.ensures ∙ c.get.ensures.value ∙ c.self.invariant.places c.args.name.now))

pub returns : goal.returns
returns c =
    let n = c.args.name.now in
    subst (λ bs. AreLinked (reverse bs) → c.copied.result ≡ place_in (reverse bs) n → c.is_quantified_at.result ≡ quantified_among (names_bound (reverse bs)) n)
    c.deref.ensures.value (c.is_quantified_at.ensures n) c.self.invariant.links (c.copied.ensures ∙ c.get.ensures.value ∙ c.self.invariant.places n)
    ∙ ap (λ ps. quantified_among ps n) c.self.view_is

pub returns-then-is_empty : goal.returns-then-is_empty
returns-then-is_empty c =
    let held : vec_len c.self.inside.bindings ≡ length c.self.inside.bindings.items = search rules in
    let none : vec_len c.self.inside.bindings ≡ 0 = (Decides-eqb (vec_len c.self.inside.bindings) 0).0 (sym c.is_empty.ensures ∙ c.if-is_empty.true) in
    sym (ap (λ ps. quantified_among ps c.args.name.now) (sym c.self.view_is) ∙ (none_bound c.self.inside.bindings.items c.args.name.now (omega (arith, held, none))).1)
