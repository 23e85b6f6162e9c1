-- Free symbols by the numbers of nodes and of symbols: SMT-LIB 2.6, section 3.6.
use Rattle.std.specs.Prelude.{Vec, ◌≡◌, ℕ, zero, suc, ◌+◌, ◌<◌, ◌⊎◌, ◌||◌, Bool, true, false, ◌==◌, List, [], ◌∷◌, ◌++◌, All, Some, IsSome, map, length, get_or, nat_lt, if◌then◌else◌}
use Rattle.std.specs.Global.{Global}
use Rattle.std.specs.List.{list_any}
use Rattle.smt_terms.specs.declared.ids.NodeId.{NodeId}
use Rattle.smt_terms.specs.declared.ids.SymId.{SymId}
use Rattle.smt_terms.specs.Free.{is_among, with_more, head_symbols, free, free_of}
use Rattle.smt_terms.specs.Sorts.{Symbol}
use Rattle.smt_terms.specs.Term.{Term, apply, quantified, terms}
use Rattle.term_table.specs.Formulas.{Formulas, no_tree, symbol_at, tree, trees_at, operands, AreNodes, IsSymbol}
use Rattle.term_walk.specs.declared.kept.Place.{Place}
use Rattle.term_walk.specs.Marks.{is_marked, HasMark}
use Rattle.term_walk.specs.Places.{result_at}
use Rattle.term_walk.specs.Binders.{is_quantified}

-- the symbols that these numbers name
abbrev pub named : Formulas → List SymId → List Symbol
named t fs = map (symbol_at t) fs

-- the free symbols of several nodes
abbrev pub frees : Formulas → List NodeId → List Symbol
frees t ks = free_of (terms (trees_at t ks))

-- what a term says before its operands
abbrev pub own_symbols : Term → List Symbol
own_symbols (apply h _) = head_symbols h
own_symbols (quantified _ _ _) = []

-- whether one of these terms says this symbol before its operands
abbrev pub has_own : List Term → Symbol → Bool
has_own [] f = false
has_own (t ∷ ts) f = is_among (own_symbols t) f || has_own ts f

-- these are the free symbols of a term
pub record AreFree (t : Formulas) (u : Term) (fs : List SymId) : Type 0 where
  pub names : named t fs ≡ free u
  pub symbols : All (IsSymbol t) fs

abbrev pub EachOnce : List Symbol → Type 0
EachOnce [] = Unit {0}
EachOnce (f ∷ fs) = (is_among fs f ≡ false) × EachOnce fs

-- ---- nodes that were met

abbrev pub has_node : List NodeId → NodeId → Bool
has_node ks k = list_any (λ j. k.0 == j.0) ks

abbrev pub with_node : List NodeId → NodeId → List NodeId
with_node ks k = if has_node ks k then ks else ks ++ k ∷ []

-- the operands of the nodes below n that weren't met
abbrev pub operands_left : Formulas → List NodeId → ℕ → ℕ
operands_left t ks zero = 0
operands_left t ks (suc n) = operands_left t ks n + (if has_node ks (record { 0 = n }) then 0 else length (operands (get_or t.trees n no_tree)))

-- the first nodes, up to one whose number isn't below n
abbrev pub first_below : ℕ → List NodeId → List NodeId
first_below n [] = []
first_below n (k ∷ ks) = if nat_lt k.0 n then k ∷ first_below n ks else []

abbrev pub AreAmong : List Symbol → List Symbol → Type 0
AreAmong fs gs = (f : Symbol) → is_among fs f ≡ true → is_among gs f ≡ true

-- on the way to the symbols fs: those that are listed, and then those of the nodes that wait, in order. The symbols of a
-- node that was met are listed, or are those of nodes that wait before any that isn't below it
pub record Lists (t : Formulas) (P : NodeId → Type 0) (fs : List Symbol) (waiting met : List NodeId) (listed : List SymId) : Type 0 where
  pub nodes : AreNodes t waiting
  pub reached : All P waiting
  pub symbols : All (IsSymbol t) listed
  pub covered : (k : NodeId) → has_node met k ≡ true → AreAmong (free (tree t k)) (with_more (named t listed) (frees t (first_below k.0 waiting)))
  pub whole : with_more (named t listed) (frees t waiting) ≡ fs

-- what opening the node k does: its own symbols are listed, and nodes below it wait for the others
pub record Opens (t : Formulas) (k : NodeId) (before after : List NodeId) (old new : List SymId) : Type 0 where
  pub own : List Symbol
  pub kids : List NodeId
  pub waiting : after ≡ kids ++ before
  pub names : named t new ≡ with_more (named t old) own
  pub symbols : All (IsSymbol t) new
  pub says : free (tree t k) ≡ with_more own (frees t kids)
  pub nodes : AreNodes t kids
  pub below : All (λ j. j.0 < k.0) kids
  pub operands : (kids ≡ []) ⊎ (trees_at t kids ≡ operands (tree t k))

-- nodes below the number n that have a mark
abbrev pub IsReached : List Bool → ℕ → NodeId → Type 0
IsReached ms n k = (is_marked ms k.0 ≡ true) × (k.0 < n)

-- each quantified node below the number n that has a mark has the list of its free symbols
pub record HaveLists (t : Formulas) (ks : List (Place (Vec SymId Global))) (ms : List Bool) (n : ℕ) : Type 0 where
  pub each : (k : NodeId) (r : Vec SymId Global) → result_at ks k.0 ≡ Some r → AreFree t (tree t k) r.items
  pub known : (k : NodeId) → IsReached ms n k → is_quantified (tree t k) ≡ true → IsSome (result_at ks k.0)
  pub closed : (k : NodeId) → is_marked ms k.0 ≡ true → All (HasMark t ms) (operands (tree t k))
