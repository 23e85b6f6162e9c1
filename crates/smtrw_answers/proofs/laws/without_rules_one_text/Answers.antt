use Rattle.smtrw_answers.proofs.OneText.{without_rules}
use Rattle.smtrw_answers.proofs.laws.without_rules_one_text.Goals as goal

pub returns : goal.returns
returns c = without_rules
