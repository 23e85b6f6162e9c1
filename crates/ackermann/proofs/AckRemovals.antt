-- What takes the place of an assertion is the removal of its applications behind the live ones, and the names that are left are
-- fit for the next one.
use Rattle.std.proofs.Common.{◌≡◌, Bool, true, false, ◌||◌, inl, inr, List, [], ◌∷◌, ◌++◌, All, Some, refl, ap, sym, ◌∙◌}
use Rattle.smt_terms.specs.Equal.{name_eq}
use Rattle.smt_terms.specs.Free.{name_among, names_of}
use Rattle.smt_terms.specs.Fresh.{Supply}
use Rattle.smt_terms.specs.Groups.{Named}
use Rattle.smt_terms.specs.Rank.{sort_of, IsWellSorted}
use Rattle.smt_terms.specs.Sorts.{Name, bool}
use Rattle.smt_terms.specs.SubstLaws.{names_within, GivesNone, Later}
use Rattle.smt_terms.specs.Term.{Term}
use Rattle.smt_terms.proofs.Tests.{either_true}
use Rattle.term_groups.specs.Drawing.{ConstantsAreNew}
use Rattle.term_groups.specs.Grouping.{symbols_of}
use Rattle.ackermann.specs.Ackermann.{applications, has_quantified_use, Levels, live, without_constant, ack}
use Rattle.ackermann.specs.Removals.{Removal, IsRemoval}

abbrev pub removal_of : Term → Levels → Supply → Removal
removal_of t ls s = record { input = t; symbols = (ack t ls s).group.symbols; asserts = (ack t ls s).group.asserts }

pub ack-removal : (inputs : List Term) (t : Term) (ls : Levels) (s : Supply) → IsWellSorted t → sort_of t ≡ Some bool → has_quantified_use t ≡ false → All (λ u. GivesNone s (names_within u)) inputs → GivesNone s (names_of (symbols_of (live ls))) → IsRemoval inputs (live ls) (removal_of t ls s)
ack-removal inputs t ls s sorted sort outside names apart = record {
  supply = s;
  sorted = sorted;
  sort = sort;
  outside = outside;
  names = names;
  apart = apart;
  symbols = refl;
  asserts = refl;
}

-- ---- the names that are left

pub ack-later : ConstantsAreNew → (t : Term) (ls : Levels) (s : Supply) → Later s (ack t ls s).names
ack-later laws t ls s = laws.later (without_constant (live ls) (applications t)) s

names-append : (ns ms : Named) (n : Name) → name_among (names_of (symbols_of (ns ++ ms))) n ≡ (name_among (names_of (symbols_of ns)) n || name_among (names_of (symbols_of ms)) n)
names-append [] ms n = refl
names-append (p ∷ ns) ms n = ap (λ b. name_eq p.0.name n || b) (names-append ns ms n) ∙ grouped (name_eq p.0.name n) (name_among (names_of (symbols_of ns)) n) (name_among (names_of (symbols_of ms)) n)
  where
    grouped : (a b c : Bool) → (a || (b || c)) ≡ ((a || b) || c)
    grouped true b c = refl
    grouped false b c = refl

-- they give no earlier constant, nor a new one
pub ack-spares : ConstantsAreNew → (t : Term) (ls : Levels) (s : Supply) → GivesNone s (names_of (symbols_of (live ls))) → GivesNone (ack t ls s).names (names_of (symbols_of (live ls ++ (ack t ls s).group.symbols)))
ack-spares laws t ls s apart n among =
    elim (either_true (name_among (names_of (symbols_of (live ls))) n) (name_among (names_of (symbols_of (ack t ls s).group.symbols)) n) (sym (names-append (live ls) (ack t ls s).group.symbols n) ∙ among)) [
      | inl earlier ↦ ack-later laws t ls s n (apart n earlier)
      | inr new ↦ laws.gone (without_constant (live ls) (applications t)) s n new
    ]
