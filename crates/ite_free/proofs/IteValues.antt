-- The group that takes the place of an assertion in the removal of `ite` says in each model what the assertion says.
use Rattle.std.proofs.Common.{IsTrue}
use Rattle.std.specs.List.{list_all}
use Rattle.smt_terms.specs.Free.{free}
use Rattle.smt_terms.specs.Fresh.{Supply}
use Rattle.smt_terms.specs.Models.{Model, IsModel}
use Rattle.smt_terms.specs.Term.{Term}
use Rattle.smt_terms.proofs.StoredTerms.{fine_term}
use Rattle.term_groups.specs.Drawing.{ConstantsAreNew}
use Rattle.term_groups.specs.Grouping.{holds_in, IsGroupable, IsGiven}
use Rattle.ite_free.specs.Ite.{ite}
use Rattle.ite_free.proofs.IteMembers.{inside_itself, stand}
use Rattle.ite_free.proofs.IteValueComplete.{asserts_hold}
use Rattle.ite_free.proofs.IteValueSound.{asserts_give}

pub ite-sound : ConstantsAreNew → (t : Term) (s : Supply) → IsGroupable t s → (m : Model) → IsModel m → IsTrue (list_all (holds_in m) (ite t s).group.asserts) → IsTrue (holds_in m t)
ite-sound new t s groupable m model holds =
    asserts_give (free t) (ite t s).group.symbols (stand new t s groupable.sorted) m model t (fine_term t groupable.sorted).rules groupable.sort holds

pub ite-complete : ConstantsAreNew → (t : Term) (s : Supply) → IsGroupable t s → (m n : Model) → IsModel m → IsGiven m n t (ite t s).group.symbols → IsTrue (holds_in m t) → IsTrue (list_all (holds_in n) (ite t s).group.asserts)
ite-complete new t s groupable m n model given holds =
    asserts_hold t (ite t s).group.symbols (stand new t s groupable.sorted) m n given (inside_itself t groupable.sorted) holds
