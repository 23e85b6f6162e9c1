use Rattle.std.proofs.Common.{◌≡◌, ◌≢◌, length, Some, rules, ap, ◌∙◌}
use Rattle.script_terms.specs.declared.causes.Cause.TheVariants.{BadForm}
use Rattle.script_terms.specs.declared.scopes.Entry.TheVariants.{Symbol, Constant, Definition, Term}
use Rattle.script_terms.specs.Heads.{live_head}
use Rattle.script_terms.specs.HeadClauses.{world_of}
use Rattle.script_terms.specs.Reading.{entry_of}
use Rattle.script_terms.proofs.HeadsCalled.{callee_fault, as_many, no_indices, live_called, live_indices}
use Rattle.script_terms.proofs.terms.heads.live_callee.Goals as goal

pub returns-then-not-is_empty : goal.returns-then-not-is_empty
returns-then-not-is_empty c ts t supply s live n fs ns shows found are =
    let some : length c.args.indices.now.values.items ≢ 0 = search rules in
    callee_fault ts (world_of t supply s) (live_head c.args.place n fs ns (entry_of live n)) c.refused.result BadForm c.args.place c.refused.ensures
    (live_indices ts t supply s live shows c.args.place n fs c.args.entry ns found (λ none. some (as_many ts (world_of t supply s) c.args.place fs ns c.args.indices.now are ∙ none)))

pub returns-in-Symbol : goal.returns-in-Symbol
returns-in-Symbol c ts t supply s live n fs ns shows found are =
    let none : length c.args.indices.now.values.items ≡ 0 = search rules in
    live_called ts t supply s live shows c.args.place n fs (Symbol c.in-Symbol.f) ns (found ∙ ap Some c.in-Symbol.is) (no_indices ts (world_of t supply s) c.args.place fs ns c.args.indices.now are none)

pub returns-in-Constant : goal.returns-in-Constant
returns-in-Constant c ts t supply s live n fs ns shows found are =
    let none : length c.args.indices.now.values.items ≡ 0 = search rules in
    live_called ts t supply s live shows c.args.place n fs (Constant c.in-Constant.constant) ns (found ∙ ap Some c.in-Constant.is) (no_indices ts (world_of t supply s) c.args.place fs ns c.args.indices.now are none)

pub returns-in-Definition : goal.returns-in-Definition
returns-in-Definition c ts t supply s live n fs ns shows found are =
    let none : length c.args.indices.now.values.items ≡ 0 = search rules in
    live_called ts t supply s live shows c.args.place n fs (Definition c.in-Definition.number) ns (found ∙ ap Some c.in-Definition.is) (no_indices ts (world_of t supply s) c.args.place fs ns c.args.indices.now are none)

pub returns-in-Term : goal.returns-in-Term
returns-in-Term c ts t supply s live n fs ns shows found are =
    let none : length c.args.indices.now.values.items ≡ 0 = search rules in
    live_called ts t supply s live shows c.args.place n fs (Term c.in-Term.field-0) ns (found ∙ ap Some c.in-Term.is) (no_indices ts (world_of t supply s) c.args.place fs ns c.args.indices.now are none)
