use Rattle.smtrw_answers.proofs.GrammarWords.{fault_of}
use Rattle.smtrw_answers.proofs.words.parse_words.Goals as goal

pub returns-in-Err : goal.returns-in-Err
returns-in-Err c = fault_of _ _ c.in-Err.ensures
