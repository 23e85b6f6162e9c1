-- What the commands may write: of a script, and of a model's text where the command reads one; of its seed and size, by `demo`.
use Rattle.std.specs.Prelude.{◌≡◌, ℕ, List, Ok}
use Rattle.smt_terms.specs.Sorts.{Name}
use Rattle.smtrw_answers.specs.Words.{Asked, rewrite, translate, extend, blast, unblast, dimacs, answer, stats, demo}
use Rattle.smtrw_answers.specs.Outputs.{MayBeWritten, stats_lines, demo_line}
use Rattle.smtrw_answers.specs.Carrying.{translated_text, extended_text}
use Rattle.smtrw_answers.specs.Blasting.{blasted_text, unblasted_text}
use Rattle.smtrw_answers.specs.Linking.{linked_text, answer_text}

-- of the script b and the model's text g, with stored rules of these names
abbrev pub IsOutputOf : List Name → Asked → List ℕ → List ℕ → List ℕ → Type 0
IsOutputOf rules (rewrite passes layout script) b g w = MayBeWritten b passes rules layout w
IsOutputOf rules (translate passes check script model) b g w = translated_text b passes check g ≡ Ok w
IsOutputOf rules (extend passes check script model) b g w = extended_text b passes check g ≡ Ok w
IsOutputOf rules (blast passes check script) b g w = w ≡ blasted_text b passes check
IsOutputOf rules (unblast passes check script model) b g w = unblasted_text b passes check g ≡ Ok w
IsOutputOf rules (dimacs passes check script) b g w = w ≡ linked_text b passes check
IsOutputOf rules (answer passes check script reply) b g w = answer_text b passes check g ≡ Ok w
IsOutputOf rules (stats script) b g w = w ≡ stats_lines b
IsOutputOf rules (demo seed size) b g w = w ≡ demo_line seed size
