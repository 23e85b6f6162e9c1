use Rattle.std.proofs.Common.{◌≡◌, ◌∙◌, length, ap, sym, vec_len, rules, arith}
use Rattle.std.proofs.lemmas.Bool.Decides.{Decides-eqb}
use Rattle.script_terms.specs.Bound.{innermost}
use Rattle.script_terms.proofs.Linking.{none_bound}
use Rattle.script_terms.proofs.locals.Locals.find.Goals as goal

pub returns-then-is_empty : goal.returns-then-is_empty
returns-then-is_empty c =
    let held : vec_len c.self.inside.bindings ≡ length c.self.inside.bindings.items = search rules in
    let none : vec_len c.self.inside.bindings ≡ 0 = (Decides-eqb (vec_len c.self.inside.bindings) 0).0 (sym c.is_empty.ensures ∙ c.if-is_empty.true) in
    sym (ap (λ ps. innermost ps c.args.name.now) (sym c.self.view_is) ∙ (none_bound c.self.inside.bindings.items c.args.name.now (omega (arith, held, none))).0)
