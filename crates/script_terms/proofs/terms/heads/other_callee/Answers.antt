use Rattle.std.proofs.Common.{◌≡◌, true, false, None, Some, is_some, ap, sym, ◌∙◌}
use Rattle.script_terms.specs.declared.causes.Cause.TheVariants.{UnknownName}
use Rattle.script_terms.specs.Bound.{innermost}
use Rattle.script_terms.specs.Heads.{named_head, live_head, theory_head}
use Rattle.script_terms.specs.HeadClauses.{world_of}
use Rattle.script_terms.specs.Known.{find}
use Rattle.script_terms.specs.Reading.{entry_of}
use Rattle.script_terms.proofs.HeadsCalled.{callee_fault, callee_moved, some_local, no_local, local_head, not_local, not_live}
use Rattle.script_terms.proofs.terms.heads.other_callee.Goals as goal

pub returns-then-is_some : goal.returns-then-is_some
returns-then-is_some c ts t supply live bound fs ns shows locals are =
    let n = c.args.name.now in
    let ps = c.args.locals.now in
    let is : is_some (innermost ps n) ≡ true = ap is_some (sym c.find.ensures) ∙ sym c.is_some.ensures ∙ c.if-is_some.true in
    let found = some_local (innermost ps n) is in
    callee_fault ts (world_of t supply c.args.scope.now) (named_head bound live c.args.place n fs ns) c.refused.result UnknownName c.args.place c.refused.ensures
    (local_head t supply ps bound locals live c.args.place n fs ns found.0 found.1)

pub returns-in-Some : goal.returns-in-Some
returns-in-Some c ts t supply live bound fs ns shows locals are =
    let n = c.args.name.now in
    let ps = c.args.locals.now in
    let is : is_some (innermost ps n) ≡ false = ap is_some (sym c.find.ensures) ∙ sym c.is_some.ensures ∙ c.if-is_some.false in
    let found : find c.args.scope.now.terms n ≡ Some c.in-Some.entry = sym c.find-2.ensures ∙ c.in-Some.is in
    callee_moved ts (world_of t supply c.args.scope.now) (named_head bound live c.args.place n fs ns) (live_head c.args.place n fs ns (entry_of live n)) c.live_callee.result
    (not_local t supply ps bound locals live c.args.place n fs ns (no_local (innermost ps n) is))
    (c.live_callee.ensures ts t supply c.args.scope.now live n fs ns shows found are)

pub returns-in-None : goal.returns-in-None
returns-in-None c ts t supply live bound fs ns shows locals are =
    let n = c.args.name.now in
    let ps = c.args.locals.now in
    let is : is_some (innermost ps n) ≡ false = ap is_some (sym c.find.ensures) ∙ sym c.is_some.ensures ∙ c.if-is_some.false in
    let missing : find c.args.scope.now.terms n ≡ None = sym c.find-2.ensures ∙ c.in-None.is in
    callee_moved ts (world_of t supply c.args.scope.now) (named_head bound live c.args.place n fs ns) (theory_head c.args.place n fs ns None) c.theory_callee.result
    (not_local t supply ps bound locals live c.args.place n fs ns (no_local (innermost ps n) is)
    ∙ not_live ts t supply c.args.scope.now live shows c.args.place n fs ns missing ∙ ap (theory_head c.args.place n fs ns) c.requires)
    (c.theory_callee.ensures ts t supply c.args.scope.now fs ns are)
