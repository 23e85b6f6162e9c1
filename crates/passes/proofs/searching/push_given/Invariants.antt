use Rattle.std.proofs.Common.{◌≡◌, ◌≤◌, ◌++◌, drop, length, map, Option, All}
use Rattle.term_groups.specs.Seen.{named_at}
use Rattle.term_table.specs.Formulas.{Formulas}
use Rattle.passes.specs.LiveSymbols.{given_at, given_by, IsLiveOver, HasUseOf}
use Rattle.passes.specs.Plans.{Uses, HasUse, IsPairOver}
use Rattle.passes.proofs.searching.push_given.Given as goal

abbrev pub invariant-loop-place : goal.invariant-loop-place
invariant-loop-place l = record {
  within : l.place ≤ length l.symbols;
  given : (t : Formulas) → map (given_at t) l.given ≡ given_by l.assertion (named_at t (drop l.place l.symbols)) ++ map (given_at t) l.fn.given;
  over : (t : Formulas) → All (IsPairOver t) l.symbols → All (IsLiveOver t) l.fn.given → All (IsLiveOver t) l.given;
  uses : (t : Formulas) (uses : Option Uses) → All (HasUse t uses) l.symbols → All (HasUseOf t uses) l.fn.given → All (HasUseOf t uses) l.given;
}
