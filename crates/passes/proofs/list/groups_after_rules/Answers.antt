use Rattle.std.proofs.Common.{◌∙◌, rules, tests}
use Rattle.std.proofs.lemmas.Iterator.{YieldsList-from_slice}
use Rattle.std.proofs.lemmas.Iterator.Adapters.{YieldsList-from_skip_while}
use Rattle.std.proofs.lemmas.Iterator.Search.{any_from_yields_List}
use Rattle.pass_laws.specs.Lists.{makes_groups}
use Rattle.passes.proofs.ListedNames.{not_rules, groups_from_rules}
use Rattle.passes.proofs.list.groups_after_rules.Goals as goal

pub returns : goal.returns
returns c =
    any_from_yields_List makes_groups _ _ _ c.any.ensures.ran
    (YieldsList-from_skip_while _ _ _ not_rules _ (λ x b q k. search (rules, tests)) (YieldsList-from_slice c.args.passes.now (cc)) (cc) (cc))
    (λ x b q k. search (rules, tests))
    ∙ groups_from_rules c.args.passes.now
