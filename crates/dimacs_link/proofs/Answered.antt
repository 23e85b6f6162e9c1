-- How many truth values an answer has.
use Rattle.std.proofs.Common.{◌≡◌, subst, ℕ, Bool, true, false, List, length, Option, Some, None, Result, Ok, Err}
use Rattle.dimacs_link.specs.declared.answers.Answer.{Answer}
use Rattle.dimacs_link.specs.declared.answers.Answer.TheVariants.{Sat, Unsat, Unknown}
use Rattle.dimacs_link.specs.declared.items.Ending.{Ending}
use Rattle.dimacs_link.specs.declared.items.Ending.TheVariants as ending
use Rattle.dimacs_link.specs.declared.items.Item.{Item}
use Rattle.dimacs_link.specs.AnswerTexts.{answer_by, answer_of, ending_of, is_end, named, HasValues}
use Rattle.dimacs_link.proofs.Naming.{length-named}
use Rattle.std.specs.List.{list_any}

by_ending : (constants size : ℕ) (o : Option Ending) (vs : List Bool) (ended : Bool) (a : Answer) → length vs ≡ constants → answer_by size o vs ended ≡ Ok a → HasValues constants a
by_ending constants size None vs ended a long e = absurd cc
by_ending constants size (Some ending.Satisfiable) vs true a long e = let same : Sat vs ≡ a = cc in subst (HasValues constants) same long
by_ending constants size (Some ending.Satisfiable) vs false a long e = absurd cc
by_ending constants size (Some ending.Unsatisfiable) vs ended a long e = let same : Unsat ≡ a = cc in subst (HasValues constants) same tt
by_ending constants size (Some ending.Unknown) vs ended a long e = let same : Unknown ≡ a = cc in subst (HasValues constants) same tt

pub as_many : (constants size : ℕ) (r : Result (List Item) ℕ) (a : Answer) → answer_of constants size r ≡ Ok a → HasValues constants a
as_many constants size (Ok is) a e = by_ending constants size (ending_of is) (named true is constants) (list_any is_end is) a (length-named true is 1 constants) e
as_many constants size (Err place) a e = absurd cc
