use Rattle.std.proofs.Common.{◌≡◌, ◌<◌, ◌^◌, All, length, ap, sym, subst, ◌∙◌}
use Rattle.smt_terms.specs.Written.{at_indices}
use Rattle.sort_check.specs.Forms.{form_seen, index_count}
use Rattle.script_terms.specs.declared.causes.Cause.TheVariants.{NumberLimit}
use Rattle.script_terms.specs.Heads.{written_at}
use Rattle.script_terms.specs.HeadClauses.{world_of}
use Rattle.script_terms.proofs.HeadsCalled.{callee_fault, index_beyond, indices_small, operator_called}
use Rattle.script_terms.proofs.terms.heads.written_callee.Goals as goal

pub returns-in-Some : goal.returns-in-Some
returns-in-Some c ts t supply s fs ns are =
    let same : length c.args.indices.now.values.items ≡ index_count (form_seen c.args.form) = sym c.len.ensures.value ∙ c.if-len-index_count.false ∙ c.index_count.ensures.number in
    callee_fault ts (world_of t supply s) (written_at c.args.place fs (at_indices (form_seen c.args.form) ns)) c.refused-in-Some.result NumberLimit c.in-Some.beyond c.refused-in-Some.ensures
    (index_beyond ts (world_of t supply s) c.args.place fs ns c.args.indices.now are (form_seen c.args.form) c.in-Some.beyond same c.in-Some.is)

pub at_indices-requires-clause-indices : goal.at_indices-requires-clause-indices
at_indices-requires-clause-indices c =
    let some = c.requires.indices in
    subst (All (λ i. i < 2 ^ 127)) (sym c.deref.ensures) (indices_small some.0 some.1 c.args.indices.now some.2 c.in_default.is)

pub returns : goal.returns
returns c ts t supply s fs ns are =
    operator_called ts (world_of t supply s) c.args.place fs ns c.args.indices.now are (form_seen c.args.form) c.at_indices.result
    (ap (at_indices (form_seen c.args.form)) (sym c.deref.ensures) ∙ c.at_indices.ensures.named) c.at_indices.ensures.apt c.in_default.is
