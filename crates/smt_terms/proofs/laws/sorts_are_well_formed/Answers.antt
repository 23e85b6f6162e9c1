use Rattle.std.specs.Prelude.{is_some}
use Rattle.smt_terms.specs.Rank.{sort_of, is_regular}
use Rattle.smt_terms.proofs.Tests.{both_true}
use Rattle.smt_terms.proofs.SortsOfTerms.{sort_is_sort}
use Rattle.smt_terms.proofs.laws.sorts_are_well_formed.Goals as goal

pub returns : goal.returns
returns c = λ t s well has. sort_is_sort t s (both_true (is_some (sort_of t)) (is_regular t) well).1 has
