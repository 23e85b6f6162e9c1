-- Statements of the laws of the removal of applications, of a chain of removals (SMT-LIB 2.6, section 5.3): models are carried
-- from the inputs to what took their places, and back.
use Rattle.std.specs.Prelude.{◌≡◌, Bool, true, false, ◌||◌, List, [], ◌∷◌, ◌++◌, Some, All, IsTrue}
use Rattle.std.specs.List.{list_all}
use Rattle.smt_terms.specs.declared.op.Op.{Op}
use Rattle.smt_terms.specs.Free.{free, is_among}
use Rattle.smt_terms.specs.Groups.{Named, has_term}
use Rattle.smt_terms.specs.Models.{Model, is_graph, IsModel}
use Rattle.smt_terms.specs.Rank.{sort_of, is_empty, IsWellSorted}
use Rattle.smt_terms.specs.Shapes.{no_application, is_clear_below}
use Rattle.smt_terms.specs.Sorts.{bool, Symbol, Variable}
use Rattle.smt_terms.specs.Term.{Head, op, symbol, Term}
use Rattle.smt_terms.specs.Val.{no_variables, val}
use Rattle.term_groups.specs.Every.{every}
use Rattle.term_groups.specs.Grouping.{holds_in, symbols_of, terms_of, IsPart}
use Rattle.ackermann.specs.Removals.{Removal, AreRemovals, all_inputs, all_symbols, all_asserts, is_free_in, is_use, inner_uses}
use Rattle.ackermann.specs.Tables.{application_graph}

-- ---- models

-- the model n gives the constants of the inputs what m gives them, and each function of theirs the rows of its applications
pub record IsTabled (m n : Model) (rs : List Removal) : Type 0 where
  pub sizes : n.sizes ≡ m.sizes
  pub div_by_zero : n.div_by_zero ≡ m.div_by_zero
  pub mod_by_zero : n.mod_by_zero ≡ m.mod_by_zero
  pub constants : (f : Symbol) → IsTrue (is_free_in (all_inputs rs) f) → f.args ≡ [] → n.graphs f ≡ m.graphs f
  pub functions : (f : Symbol) → IsTrue (is_free_in (all_inputs rs) f) → is_empty f.args ≡ false → n.graphs f ≡ Some (application_graph m (all_symbols rs) f)

-- the model n gives the constants of the inputs what m gives them, and each new constant the value of its application in m
pub record IsValued (m n : Model) (rs : List Removal) : Type 0 where
  pub sizes : n.sizes ≡ m.sizes
  pub div_by_zero : n.div_by_zero ≡ m.div_by_zero
  pub mod_by_zero : n.mod_by_zero ≡ m.mod_by_zero
  pub constants : (f : Symbol) → IsTrue (is_free_in (all_inputs rs) f) → f.args ≡ [] → n.graphs f ≡ m.graphs f
  pub given : All (λ p. n.graphs p.0 ≡ Some (record { rows = []; otherwise = val m p.1 no_variables })) (all_symbols rs)

-- where all that took the places of the inputs holds in m, the inputs hold in the model with the tables of m
abbrev pub TablesAreModels : Type 0
TablesAreModels = (rs : List Removal) (m n : Model) → AreRemovals (all_inputs rs) [] rs → IsModel m → IsTabled m n rs → IsTrue (list_all (holds_in m) (all_asserts rs)) → IsTrue (list_all (holds_in n) (all_inputs rs))

-- the table of a function with arguments is valid: its keys and results have their sorts, and no keys come twice
abbrev pub TablesFit : Type 0
TablesFit = (rs : List Removal) (m : Model) (f : Symbol) → AreRemovals (all_inputs rs) [] rs → IsModel m → is_empty f.args ≡ false → IsTrue (is_graph f m.sizes (application_graph m (all_symbols rs) f))

-- where the inputs hold in m, all that took their places holds in the model in which the new constants have the values of their
-- applications in m
abbrev pub ValuesAreModels : Type 0
ValuesAreModels = (rs : List Removal) (m n : Model) → AreRemovals (all_inputs rs) [] rs → IsModel m → IsValued m n rs → IsTrue (list_all (holds_in m) (all_inputs rs)) → IsTrue (list_all (holds_in n) (all_asserts rs))

-- ---- terms

-- a truth value without applications that is made of what stands in the inputs, of operators and of new constants
pub record IsMadeFrom (inputs : List Term) (ns : Named) (u : Term) : Type 0 where
  pub sorted : IsWellSorted u
  pub sort : sort_of u ≡ Some bool
  pub plain : no_application u ≡ true
  pub constants : (f : Symbol) → IsTrue (is_among (free u) f) → f.args ≡ []
  pub free : (f : Symbol) → IsTrue (is_among (free u) f) → IsTrue (is_free_in inputs f || is_among (symbols_of ns) f)
  pub clear : IsTrue (list_all (is_clear_below []) inputs) → is_clear_below [] u ≡ true
  pub within : (heads : Head → Bool) (binders : List Variable → Bool) → ((o : Op) → IsTrue (heads (op o)))
      → IsTrue (list_all (every heads binders) inputs) → IsTrue (list_all (λ f. heads (symbol f)) (symbols_of ns)) → IsTrue (every heads binders u)

-- an application that stands in one of the inputs outside quantifiers
pub record IsUseIn (inputs : List Term) (u : Term) : Type 0 where
  pub whole : Term
  pub among : has_term inputs whole ≡ true
  pub part : IsPart whole u
  pub application : is_use u ≡ true

-- what took the places of the inputs is made from them, and the new constants stand for applications in them, each behind the
-- applications inside its operands
pub record AreMadeFrom (rs : List Removal) : Type 0 where
  pub asserts : All (IsMadeFrom (all_inputs rs) (all_symbols rs)) (all_asserts rs)
  pub uses : All (λ p. IsUseIn (all_inputs rs) p.1) (all_symbols rs)
  pub behind : (us : Named) (p : Symbol × Term) (vs : Named) → all_symbols rs ≡ us ++ p ∷ vs → All (λ u. has_term (terms_of us) u ≡ true) (inner_uses p.1)

abbrev pub RemovalsMade : Type 0
RemovalsMade = (rs : List Removal) → AreRemovals (all_inputs rs) [] rs → AreMadeFrom rs
