-- The operators that take bit vectors alone, by their shapes.
use Rattle.std.specs.Prelude.{Bool, true, false, IsTrue}
use Rattle.smt_terms.specs.declared.op.Op.{Op}
use Rattle.smt_terms.specs.Rank.{Shape, concatenation, extraction, extension, rotation, bitwise, bitwise_pair, bits_comparison, shape}

abbrev pub on_words : Shape → Bool
on_words concatenation = true
on_words (extraction _ _) = true
on_words (extension _) = true
on_words (rotation _) = true
on_words bitwise = true
on_words bitwise_pair = true
on_words (bits_comparison _) = true
on_words _ = false

-- two bit vectors of one width
abbrev pub on_pairs : Shape → Bool
on_pairs bitwise_pair = true
on_pairs (bits_comparison _) = true
on_pairs _ = false

abbrev pub TakesWords : Op → Type 0
TakesWords o = IsTrue (on_words (shape o))

abbrev pub TakesPair : Op → Type 0
TakesPair o = IsTrue (on_pairs (shape o))
