use Rattle.std.proofs.Common.{◌≡◌, ◌≤◌, drop, length}
use Rattle.smt_terms.specs.declared.ids.SymId.{SymId}
use Rattle.term_table.specs.Formulas.{Formulas}
use Rattle.term_subst.specs.Maps.{image_in}
use Rattle.term_subst.specs.Substituting.{IsMap}
use Rattle.term_subst.proofs.cut.as_map.Given as goal

abbrev pub invariant-loop-place : goal.invariant-loop-place
invariant-loop-place l = record {
  images : (f : SymId) → image_in l.map f ≡ image_in (drop l.place l.pairs) f;
  within : (t : Formulas) → IsMap t l.pairs → IsMap t l.map;
  room : l.place ≤ length l.pairs;
}
