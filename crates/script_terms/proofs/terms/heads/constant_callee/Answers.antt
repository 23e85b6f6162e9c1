use Rattle.std.proofs.Common.{◌≡◌, true, length, refl, ap, sym, ◌∙◌}
use Rattle.script_terms.specs.declared.causes.Cause.TheVariants.{NumberLimit}
use Rattle.script_terms.specs.Heads.{operandless, constant_head}
use Rattle.script_terms.specs.HeadClauses.{is_constant_with, world_of}
use Rattle.script_terms.proofs.HeadsCalled.{callee_fault, constant_limit, constant_called}
use Rattle.script_terms.proofs.terms.heads.constant_callee.Goals as goal

pub returns-in-Some : goal.returns-in-Some
returns-in-Some c ts t supply s fs ns are =
    let n = c.args.name.now in
    let is : is_constant_with n (length c.args.indices.now.values.items) ≡ true = ap (is_constant_with n) (sym c.len.ensures.value) ∙ sym c.is_constant_with.ensures ∙ c.if-not-is_constant_with.false in
    callee_fault ts (world_of t supply s) (constant_head c.args.place n fs ns) c.refused-in-Some.result NumberLimit c.in-Some.beyond c.refused-in-Some.ensures
    (constant_limit ts (world_of t supply s) c.args.place fs ns c.args.indices.now are n c.in-Some.beyond c.in-Some.is is)

pub returns-in-None : goal.returns-in-None
returns-in-None c ts t supply s fs ns are =
    let n = c.args.name.now in
    let is : is_constant_with n (length c.args.indices.now.values.items) ≡ true = ap (is_constant_with n) (sym c.len.ensures.value) ∙ sym c.is_constant_with.ensures ∙ c.if-not-is_constant_with.false in
    (operandless, refl, constant_called ts (world_of t supply s) c.args.place fs ns c.args.indices.now are n c.in-None.is is)
