-- What the removal of `ite` over terms puts in the place of a formula is a group for it.
use Rattle.term_groups.specs.Drawing.{ConstantsAreNew}
use Rattle.term_groups.specs.Grouping.{MakesGroups}
use Rattle.ite_free.specs.Ite.{ite}
use Rattle.ite_free.proofs.IteMade.{ite-symbols, ite-names, ite-parts, ite-some, ite-made}
use Rattle.ite_free.proofs.IteValues.{ite-sound, ite-complete}

pub ite-makes-groups : ConstantsAreNew → MakesGroups ite
ite-makes-groups new t s groupable = record {
  symbols = ite-symbols new t s;
  names = ite-names new t s;
  parts = ite-parts new t s groupable.sorted groupable.sort;
  some = ite-some t s;
  made = ite-made new t s groupable.sorted groupable.sort;
  sound = ite-sound new t s groupable;
  complete = ite-complete new t s groupable;
}
