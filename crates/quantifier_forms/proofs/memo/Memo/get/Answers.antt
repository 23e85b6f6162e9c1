use Rattle.std.proofs.Common.{sym, ap, ◌∙◌}
use Rattle.quantifier_forms.specs.Memos.{Results, result_in}
use Rattle.quantifier_forms.proofs.Memos.{result-lookup}
use Rattle.quantifier_forms.proofs.memo.Memo.get.Goals as goal

pub returns : goal.returns
returns c = c.copied.ensures ∙ c.get.ensures.value ∙ sym (result-lookup c.self.inside.results.entries c.args.version c.args.node) ∙ ap (λ (ps : Results). result_in ps c.args.version c.args.node) c.self.view_is
