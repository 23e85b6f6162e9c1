-- Which constants, and whether quantifiers, may occur in which nodes.
use Rattle.std.specs.Prelude.{Vec, ◌≡◌, ◌==◌, ◌&&◌, ◌||◌, Bool, true, false, not, List, [], ◌∷◌, Option, Some, None, is_some, if◌then◌else◌}
use Rattle.std.specs.Global.{Global}
use Rattle.smt_terms.specs.declared.ids.NodeId.{NodeId}
use Rattle.smt_terms.specs.Equal.{term_eq}
use Rattle.smt_terms.specs.Term.{Term, apply, quantified, Terms, none, ◌⨾◌}
use Rattle.term_table.specs.Formulas.{Formulas, tree, IsNode}
use Rattle.term_walk.specs.FreeLists.{has_node}
use Rattle.normal_forms.specs.Prenex.{quantifiers}
use Rattle.boolean_quantifiers.specs.declared.occurrences.Held.{Held}

-- whether a term occurs in another, bound variables aside
abbrev mutual
  pub occurs : Term → Term → Bool
  occurs c (apply h ts) = term_eq c (apply h ts) || occurs_each c ts
  occurs c (quantified q xs body) = term_eq c (quantified q xs body) || occurs c body

  pub occurs_each : Term → Terms → Bool
  occurs_each c none = false
  occurs_each c (t ⨾ ts) = occurs c t || occurs_each c ts

abbrev pub Notes : Type 0
Notes = List (NodeId × Held)

abbrev pub note_of : Notes → NodeId → Option Held
note_of [] k = None
note_of (p ∷ ps) k = if k.0 == p.0.0 then Some p.1 else note_of ps k

abbrev pub is_noted : Notes → NodeId → Bool
is_noted ns k = is_some (note_of ns k)

abbrev pub few_lack : Option (Vec NodeId Global) → NodeId → Bool
few_lack (Some v) c = not (has_node v.items c)
few_lack None c = false

abbrev pub note_lacks : Option Held → NodeId → Bool
note_lacks (Some h) c = few_lack h.few c
note_lacks None c = false

-- whether it is noted that the candidate c doesn't occur in the node k
abbrev pub lacks : List NodeId → Notes → NodeId → NodeId → Bool
lacks cs ns c k = has_node cs c && note_lacks (note_of ns k) c

abbrev pub note_is_plain : Option Held → Bool
note_is_plain (Some h) = not h.binds
note_is_plain None = false

-- whether it is noted that no quantifier stands in the node k
abbrev pub is_plain : Notes → NodeId → Bool
is_plain ns k = note_is_plain (note_of ns k)

-- notes that say the truth
pub record AreTrue (t : Formulas) (cs : List NodeId) (ns : Notes) : Type 0 where
  pub nodes : (k : NodeId) → is_noted ns k ≡ true → IsNode t k
  pub lacking : (c k : NodeId) → IsNode t c → lacks cs ns c k ≡ true → occurs (tree t c) (tree t k) ≡ false
  pub plain : (k : NodeId) → is_plain ns k ≡ true → quantifiers (tree t k) ≡ 0

-- the truth about a node
pub record IsHeld (t : Formulas) (cs : List NodeId) (k : NodeId) (h : Held) : Type 0 where
  pub lacking : (c : NodeId) → IsNode t c → has_node cs c ≡ true → few_lack h.few c ≡ true → occurs (tree t c) (tree t k) ≡ false
  pub plain : h.binds ≡ false → quantifiers (tree t k) ≡ 0
