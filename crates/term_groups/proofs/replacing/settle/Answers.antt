use Rattle.std.proofs.Common.{is_some, ap, sym, ◌∙◌}
use Rattle.quantifier_forms.specs.Memos.{result_in}
use Rattle.term_groups.proofs.ReplacedNodes.{sets-replaced, no-result}
use Rattle.term_groups.proofs.replacing.settle.Goals as goal

pub returns-clause-replaced : goal.returns-clause-replaced
returns-clause-replaced c ns are ready missing =
    sets-replaced c.args.table.now c.replaced.new.table ns c.args.memo.now c.set.new.self c.args.id c.in_ok-result.result c.in_ok-result.ensures.grows are
    (c.in_ok-result.ensures.replaced ns ready (missing (no-result (result_in c.args.memo.now 0 c.args.id) (ap is_some (sym c.get.ensures) ∙ sym c.is_some.ensures ∙ c.if-is_some.false))))
    c.in_ok-set.ensures.ok
