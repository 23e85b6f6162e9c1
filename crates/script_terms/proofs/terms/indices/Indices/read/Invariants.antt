use Rattle.std.proofs.Common.{◌≡◌, ℕ, ◌≤◌, ◌-◌, ◌++◌, List, length, map, option_map}
use Rattle.std.specs.Option.{option_or}
use Rattle.script_terms.specs.HeadClauses.{beyond_in}
use Rattle.script_terms.specs.Parts.{numerals_in}
use Rattle.script_terms.specs.Places.{forms_from, capped}
use Rattle.script_terms.proofs.terms.indices.Indices.read.Given as goal

abbrev pub invariant-loop-values : goal.invariant-loop-values
invariant-loop-values l = record {
  place : l.next ≤ length l.forest.tokens;
  numerals : List ℕ;
  values : l.values.items ≡ map capped numerals;
  beyond : beyond_in (forms_from l.forest.tokens l.i) ≡ option_or l.beyond (beyond_in (forms_from l.forest.tokens l.next));
  rest : numerals_in (forms_from l.forest.tokens l.i) ≡ option_map (λ ns. numerals ++ ns) (numerals_in (forms_from l.forest.tokens l.next));
}

abbrev pub decreases-loop-values : goal.decreases-loop-values
decreases-loop-values l = length l.forest.tokens - l.next
