use Rattle.std.proofs.Common.{subst}
use Rattle.quantifier_forms.specs.Memos.{Results, Sets}
use Rattle.quantifier_forms.proofs.Memos.{sets-from}
use Rattle.quantifier_forms.proofs.memo.Memo.set.Goals as goal

pub returns-clause-ok : goal.returns-clause-ok
returns-clause-ok c =
    subst (λ (old : Results). Sets old c.insert.new.self.entries c.args.version c.args.node c.args.value) c.self.view_is
    (sets-from c.self.inside.results.entries c.insert.new.self.entries c.args.version c.args.node c.args.value c.in_ok-insert.ensures.updates.0)
