-- The polarities in which the formulas of nodes occur, as marks that are kept of the nodes.
use Rattle.std.specs.Prelude.{◌≡◌, ◌==◌, ℕ, suc, Bool, true, false, ◌&&◌, ◌||◌, List, [], ◌∷◌, Option, Some, None, unwrap_or, if◌then◌else◌}
use Rattle.smt_terms.specs.declared.ids.NodeId.{NodeId}
use Rattle.smt_terms.specs.Connectives.{Kind, is_connective, kind_of}
use Rattle.smt_terms.specs.Equal.{term_eq}
use Rattle.smt_terms.specs.Term.{Term, apply, quantified, list}
use Rattle.cnf_polarity.specs.declared.polarities.Polarities.{Polarities}
use Rattle.cnf_polarity.specs.Cnf.{Turn, keeps, exchanges, takes_both, turn}

-- ---- polarities

abbrev pub no_polarities : Polarities
no_polarities = record { positive = false; negative = false }

abbrev pub both_polarities : Polarities
both_polarities = record { positive = true; negative = true }

abbrev pub has_sign : Bool → Polarities → Bool
has_sign true p = p.positive
has_sign false p = p.negative

abbrev pub exchanged : Polarities → Polarities
exchanged p = record { positive = p.negative; negative = p.positive }

abbrev pub joined : Polarities → Polarities → Polarities
joined p q = record { positive = p.positive || q.positive; negative = p.negative || q.negative }

abbrev pub turned_polarities : Turn → Polarities → Polarities
turned_polarities keeps p = p
turned_polarities exchanges p = exchanged p
turned_polarities takes_both p = both_polarities

-- ---- marks of nodes

abbrev pub Marks : Type 0
Marks = List (NodeId × Polarities)

abbrev pub mark_of : Marks → NodeId → Option Polarities
mark_of [] k = None
mark_of (m ∷ ms) k = if k.0 == m.0.0 then Some m.1 else mark_of ms k

abbrev pub marked : Marks → NodeId → Polarities
marked ms k = unwrap_or (mark_of ms k) no_polarities

-- the node k has these polarities too, and all else is as it was
pub record AddsMark (old new : Marks) (k : NodeId) (p : Polarities) : Type 0 where
  pub here : (j : NodeId) → j.0 ≡ k.0 → marked new j ≡ joined (marked old j) p
  pub others : (j : NodeId) → (j.0 ≡ k.0 → ⊥) → marked new j ≡ marked old j

-- ---- what a connective in these polarities gives its operands

-- whether the term u is among the operands from number i on and occurs there with this sign
abbrev pub passes : Kind → ℕ → Polarities → Bool → Term → List Term → Bool
passes k i p sign u [] = false
passes k i p sign u (t ∷ ts) = has_sign sign (turned_polarities (turn k i) p) && term_eq t u || passes k (suc i) p sign u ts

abbrev pub passes_on : Polarities → Bool → Term → Term → Bool
passes_on p sign u (apply h ts) = is_connective (kind_of h ts) && passes (kind_of h ts) 0 p sign u (list ts)
passes_on p sign u (quantified q xs body) = false
