use Rattle.std.proofs.Common.{◌∙◌, pos, sym}
use Rattle.simplify.specs.Folding.{is_whole}
use Rattle.simplify.proofs.GatheredNodes.{any-here, any-later, any-none}
use Rattle.simplify.proofs.numbers.has_zero.Goals as goal

pub returns-then-is_whole : goal.returns-then-is_whole
returns-then-is_whole c =
    sym (any-here (is_whole (pos 0)) c.args.table.now c.args.ids.now c.loop-id.id-index (record { 0 = 0 }) c.loop-id-test.true (sym c.is_whole.ensures ∙ c.if-is_whole.true))
    ∙ c.loop-id.invariant

pub loop-id-preserved : goal.loop-id-preserved
loop-id-preserved c =
    sym (any-later (is_whole (pos 0)) c.args.table.now c.args.ids.now c.loop-id.id-index (record { 0 = 0 }) c.loop-id-test.true (sym c.is_whole.ensures ∙ c.if-is_whole.false))
    ∙ c.loop-id.invariant

pub returns : goal.returns
returns c = sym (any-none (is_whole (pos 0)) c.args.table.now c.args.ids.now c.loop-id.id-index c.loop-id-test.false) ∙ c.loop-id.invariant
