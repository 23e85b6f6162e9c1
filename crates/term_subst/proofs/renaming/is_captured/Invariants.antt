use Rattle.std.proofs.Common.{◌≡◌, false, take}
use Rattle.smt_terms.specs.Free.{name_among}
use Rattle.smt_terms.specs.Subst.{names_in}
use Rattle.term_subst.specs.Maps.{map_at}
use Rattle.term_subst.specs.State.{AreFindings}
use Rattle.term_subst.proofs.renaming.is_captured.Given as goal

abbrev pub invariant-loop-image : goal.invariant-loop-image
invariant-loop-image l = record {
  findings : AreFindings l.table l.findings;
  none : name_among (names_in (map_at l.table (take l.image-index l.cut))) l.name ≡ false;
}
