use Rattle.smtrw_answers.proofs.OneText.{eight_write}
use Rattle.smtrw_answers.proofs.laws.eight_write_one_text.Goals as goal

pub returns : goal.returns
returns c = eight_write
