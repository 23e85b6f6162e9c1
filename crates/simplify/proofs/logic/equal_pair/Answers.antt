use Rattle.std.proofs.Common.{false, sym, ◌∙◌}
use Rattle.simplify.proofs.LogicNodes.{like-truth}
use Rattle.simplify.proofs.logic.equal_pair.Goals as goal

pub opposite-requires : goal.opposite-requires
opposite-requires c = like-truth c.args.table.now false c.args.a c.args.b (sym c.is_truth-3.ensures ∙ c.if-is_truth-3.true) c.requires.sorts c.requires.b

pub opposite-requires-then-is_truth-4 : goal.opposite-requires-then-is_truth-4
opposite-requires-then-is_truth-4 c = like-truth c.args.table.now false c.args.b c.args.a (sym c.is_truth-4.ensures ∙ c.if-is_truth-4.true) (sym c.requires.sorts) c.requires.a
