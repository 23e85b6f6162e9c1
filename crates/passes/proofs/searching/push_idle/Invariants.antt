use Rattle.std.proofs.Common.{◌≡◌, ◌≤◌, ◌++◌, drop, length, map, All}
use Rattle.term_groups.specs.Seen.{named_at}
use Rattle.term_table.specs.Formulas.{Formulas, symbol_at, IsSymbol}
use Rattle.passes.specs.Plans.{IsPairOver}
use Rattle.passes.proofs.searching.push_idle.Given as goal

abbrev pub invariant-loop-place : goal.invariant-loop-place
invariant-loop-place l = record {
  within : l.place ≤ length l.symbols;
  idle : (t : Formulas) → map (symbol_at t) l.idle ≡ map (λ n. n.0) (named_at t (drop l.place l.symbols)) ++ map (symbol_at t) l.fn.idle;
  over : (t : Formulas) → All (IsPairOver t) l.symbols → All (IsSymbol t) l.fn.idle → All (IsSymbol t) l.idle;
}
