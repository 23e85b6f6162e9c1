use Rattle.smtrw_answers.proofs.OneText.{without_rules_list}
use Rattle.smtrw_answers.proofs.laws.without_rules_one_list.Goals as goal

pub returns : goal.returns
returns c = without_rules_list
