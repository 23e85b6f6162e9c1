use Rattle.std.proofs.Common.{◌≡◌, All, map, take}
use Rattle.smt_terms.specs.Free.{is_among}
use Rattle.smt_terms.specs.Sorts.{Symbol}
use Rattle.smt_terms.specs.Term.{constant_of}
use Rattle.term_table.specs.Formulas.{IsSymbol}
use Rattle.term_walk.specs.FreeLists.{named}
use Rattle.term_subst.specs.State.{variables_at}
use Rattle.term_subst.proofs.survey.bound_symbols.Given as goal

abbrev pub invariant-loop-variable : goal.invariant-loop-variable
invariant-loop-variable l = record {
  names : (f : Symbol) → is_among (named l.table l.bound.keys) f ≡ is_among (map constant_of (variables_at l.table (take l.variable-index l.variables))) f;
  symbols : All (IsSymbol l.table) l.bound.keys;
}
