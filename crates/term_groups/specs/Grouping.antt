-- What it means that a group takes the place of a formula (SMT-LIB 2.6, section 5.3, for values): its new symbols are drawn
-- for parts of the formula; where all of its assertions hold, the formula holds; and where the formula holds, all of them
-- hold as soon as each new symbol has the value of its term.
use Rattle.std.specs.Prelude.{◌≡◌, ◌<◌, Bool, true, ◌||◌, List, [], map, length, Some, All, IsTrue}
use Rattle.std.specs.List.{list_all}
use Rattle.smt_terms.specs.declared.op.Op.{Op}
use Rattle.smt_terms.specs.Fresh.{Supply}
use Rattle.smt_terms.specs.Free.{free, is_among}
use Rattle.smt_terms.specs.Groups.{Named, Grouped, draw_each}
use Rattle.smt_terms.specs.Models.{Model, IsModel}
use Rattle.smt_terms.specs.Rank.{sort_of, IsWellSorted}
use Rattle.smt_terms.specs.Shapes.{is_clear_below}
use Rattle.smt_terms.specs.Sorts.{bool, Symbol, Variable}
use Rattle.smt_terms.specs.SubstLaws.{names_within, GivesNone}
use Rattle.smt_terms.specs.Term.{Head, op, symbol, Term}
use Rattle.smt_terms.specs.Val.{no_variables, val}
use Rattle.smt_terms.specs.Values.{is_true}
use Rattle.term_groups.specs.Every.{every}

abbrev pub holds_in : Model → Term → Bool
holds_in m t = is_true (val m t no_variables)

abbrev pub symbols_of : Named → List Symbol
symbols_of ns = map (λ n. n.0) ns

abbrev pub terms_of : Named → List Term
terms_of ns = map (λ n. n.1) ns

-- a well-sorted truth value, none of whose names the supply gives
pub record IsGroupable (t : Term) (s : Supply) : Type 0 where
  pub sorted : IsWellSorted t
  pub sort : sort_of t ≡ Some bool
  pub names : GivesNone s (names_within t)

-- a term that stands in t outside quantifiers: its symbols are free in t, and what holds of all that stands in t holds of it
pub record IsPart (t u : Term) : Type 0 where
  pub sorted : IsWellSorted u
  pub free : (f : Symbol) → IsTrue (is_among (free u) f) → IsTrue (is_among (free t) f)
  pub within : (heads : Head → Bool) (binders : List Variable → Bool) → IsTrue (every heads binders t) → IsTrue (every heads binders u)

-- a formula that is made of parts of t and new symbols
pub record IsMadeOf (t : Term) (ns : Named) (u : Term) : Type 0 where
  pub sorted : IsWellSorted u
  pub sort : sort_of u ≡ Some bool
  pub free : (f : Symbol) → IsTrue (is_among (free u) f) → IsTrue (is_among (free t) f || is_among (symbols_of ns) f)
  pub clear : is_clear_below [] t ≡ true → is_clear_below [] u ≡ true
  pub within : (heads : Head → Bool) (binders : List Variable → Bool) → ((o : Op) → IsTrue (heads (op o)))
      → IsTrue (every heads binders t) → IsTrue (list_all (λ f. heads (symbol f)) (symbols_of ns)) → IsTrue (every heads binders u)

-- the model n gives the symbols of t what m gives them, and each new symbol the value of its term in m
pub record IsGiven (m n : Model) (t : Term) (ns : Named) : Type 0 where
  pub sizes : n.sizes ≡ m.sizes
  pub div_by_zero : n.div_by_zero ≡ m.div_by_zero
  pub mod_by_zero : n.mod_by_zero ≡ m.mod_by_zero
  pub kept : (f : Symbol) → IsTrue (is_among (free t) f) → n.graphs f ≡ m.graphs f
  pub given : All (λ p. n.graphs p.0 ≡ Some (record { rows = []; otherwise = val m p.1 no_variables })) ns

-- a group in the place of t, with names drawn from s
pub record IsGroupOf (t : Term) (s : Supply) (g : Grouped) : Type 0 where
  pub symbols : g.group.symbols ≡ (draw_each (terms_of g.group.symbols) s).symbols
  pub names : g.names ≡ (draw_each (terms_of g.group.symbols) s).names
  pub parts : All (λ p. IsPart t p.1) g.group.symbols
  pub some : 0 < length g.group.asserts
  pub made : All (IsMadeOf t g.group.symbols) g.group.asserts
  pub sound : (m : Model) → IsModel m → IsTrue (list_all (holds_in m) g.group.asserts) → IsTrue (holds_in m t)
  pub complete : (m n : Model) → IsModel m → IsGiven m n t g.group.symbols → IsTrue (holds_in m t) → IsTrue (list_all (holds_in n) g.group.asserts)

-- of a function that makes groups
abbrev pub MakesGroups : (Term → Supply → Grouped) → Type 0
MakesGroups make = (t : Term) (s : Supply) → IsGroupable t s → IsGroupOf t s (make t s)
