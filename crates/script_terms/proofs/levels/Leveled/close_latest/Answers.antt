use Rattle.std.proofs.Common.{◌∙◌, ap, arith, true, false}
use Rattle.script_terms.specs.Scope.{popped}
use Rattle.script_terms.specs.Known.{is_mark}
use Rattle.script_terms.specs.Laid.{borrowed}
use Rattle.script_terms.proofs.Laying.{levels-cut, cut-within, merged-is-cut, closed-is-cut, merged-cut, closed-cut}
use Rattle.script_terms.proofs.levels.Leveled.close_latest.Goals as goal

pub end_latest-ended-requires-clause-levels : goal.end_latest-ended-requires-clause-levels
end_latest-ended-requires-clause-levels g c =
    let count = c.self.invariant.count in
    let levels = levels-cut c.self.inside.marks.items c.self.inside.levels (borrowed c.self.inside.entries.entries) c.args.self.now c.self.invariant c.self.view_is in
    let some = c.requires.levels in
    omega (arith, count, levels, some)

pub invariant_of-self : goal.invariant_of-self
invariant_of-self g c =
    let ended = c.end_latest-ended.result in
    merged-is-cut c.self.inside.marks.items c.end_latest-ended.new.marks.items ended.levels ended.below c.self.inside.levels c.self.inside.entries.entries c.end_latest-ended.ensures.starts c.self.invariant c.end_latest-ended.ensures.runs

pub returns-then-keeps-clause-within : goal.returns-then-keeps-clause-within
returns-then-keeps-clause-within g c =
    let ended = c.end_latest-ended.result in
    let within = cut-within c.self.inside.marks.items c.end_latest-ended.new.marks.items ended.levels ended.below c.self.inside.levels c.self.inside.entries.entries c.end_latest-ended.ensures.starts c.self.invariant in
    let levels = levels-cut c.self.inside.marks.items c.self.inside.levels (borrowed c.self.inside.entries.entries) c.args.self.now c.self.invariant c.self.view_is in
    omega (arith, within, levels)

pub returns-then-keeps-clause-popped : goal.returns-then-keeps-clause-popped
returns-then-keeps-clause-popped g c =
    let ended = c.end_latest-ended.result in
    rw (c.if-keeps.true)
    (merged-cut c.self.inside.marks.items c.end_latest-ended.new.marks.items ended.levels ended.below c.self.inside.levels c.self.inside.entries.entries c.end_latest-ended.ensures.starts c.self.invariant
    ∙ ap (popped is_mark true ended.levels) c.self.view_is)

pub invariant_of-self-2 : goal.invariant_of-self-2
invariant_of-self-2 g c =
    let ended = c.end_latest-ended.result in
    rw (c.cut.ensures)
    (closed-is-cut c.self.inside.marks.items c.end_latest-ended.new.marks.items ended.levels ended.below c.self.inside.levels c.self.inside.entries.entries c.end_latest-ended.ensures.starts c.self.invariant c.end_latest-ended.ensures.some c.end_latest-ended.ensures.runs)

pub returns-clause-within : goal.returns-clause-within
returns-clause-within g c =
    let ended = c.end_latest-ended.result in
    let within = cut-within c.self.inside.marks.items c.end_latest-ended.new.marks.items ended.levels ended.below c.self.inside.levels c.self.inside.entries.entries c.end_latest-ended.ensures.starts c.self.invariant in
    let levels = levels-cut c.self.inside.marks.items c.self.inside.levels (borrowed c.self.inside.entries.entries) c.args.self.now c.self.invariant c.self.view_is in
    omega (arith, within, levels)

pub returns-clause-popped : goal.returns-clause-popped
returns-clause-popped g c =
    let ended = c.end_latest-ended.result in
    rw (c.cut.ensures, c.if-keeps.false)
    (closed-cut c.self.inside.marks.items c.end_latest-ended.new.marks.items ended.levels ended.below c.self.inside.levels c.self.inside.entries.entries c.end_latest-ended.ensures.starts c.self.invariant c.end_latest-ended.ensures.some
    ∙ ap (popped is_mark false ended.levels) c.self.view_is)
