-- Statements of the laws that hold of values and of the value of a term.
use Rattle.std.specs.Prelude.{◌≡◌, ◌≤◌, ◌↔◌, Bool, List, [], length, Some, Ok, IfSome, IsTrue, Decides, true, ◌∷◌, ◌++◌, map}
use Rattle.smt_terms.specs.Sorts.{Sort, bool, array, Symbol, Variable}
use Rattle.smt_terms.specs.Term.{Head, symbol, Term, variable}
use Rattle.smt_terms.specs.Rank.{shape_of, width, most_bits, rank, rank_quantifier, are_bindable, IsWellSorted, sort_of, is_sort}
use Rattle.smt_terms.specs.Takes.{Takes}
use Rattle.smt_terms.specs.Free.{is_among, free}
use Rattle.smt_terms.specs.Values.{Value, Sizes, same, select, is_value}
use Rattle.smt_terms.specs.Models.{Model, background, IsModel}
use Rattle.smt_terms.specs.Val.{Env, head_value, val}

-- a symbol at arguments, the quantified variables counted
abbrev pub symbol_at : Model → Env → Symbol → List Value → Value
symbol_at m e f vs = head_value m e (symbol f) [] vs

-- two models, each with its environment, give these symbols the same values, and agree on sizes and on division by zero
pub record AgreeOn (fs : List Symbol) (m n : Model) (d e : Env) : Type 0 where
  pub backgrounds : background m ≡ background n
  pub symbols : (f : Symbol) → IsTrue (is_among fs f) → (vs : List Value) → length vs ≡ length f.args → symbol_at m d f vs ≡ symbol_at n e f vs

-- each variable that has a value has one of its sort
abbrev pub IsEnv : Sizes → Env → Type 0
IsEnv sizes e = (f : Symbol) → IfSome (e f) (λ v. IsTrue (is_value f.result sizes v))

-- ---- the laws

-- a test says `true` exactly at equal arguments
abbrev pub TellsEqual : {A : Type 0} → (A → A → Bool) → Type 0
TellsEqual {A = A} same = (a b : A) → Decides (same a b) (a ≡ b)

-- the rank of a head answers a sort exactly where the relation of its shape holds and the sort has at most 128 bits
abbrev pub RankIsRelation : Type 0
RankIsRelation = (h : Head) (ss : List Sort) (s : Sort) → (rank h ss ≡ Ok s) ↔ (Takes (shape_of h) ss s × (width s ≤ most_bits))

abbrev pub SameIsReflexive : Type 0
SameIsReflexive = (s : Sort) (sizes : Sizes) (a : Value) → IsTrue (same s sizes a a)

abbrev pub SameIsSymmetric : Type 0
SameIsSymmetric = (s : Sort) (sizes : Sizes) (a b : Value) → IsTrue (same s sizes a b) → IsTrue (same s sizes b a)

abbrev pub SameIsTransitive : Type 0
SameIsTransitive = (s : Sort) (sizes : Sizes) (a b c : Value) → IsTrue (is_sort s) → IsTrue (is_value s sizes a) → IsTrue (is_value s sizes b) → IsTrue (is_value s sizes c) → IsTrue (same s sizes a b) → IsTrue (same s sizes b c) → IsTrue (same s sizes a c)

-- arrays that are the same have values that are the same at every key
abbrev pub SameAtEveryKey : Type 0
SameAtEveryKey = (i e : Sort) (sizes : Sizes) (a b k : Value) → IsTrue (is_sort (array i e)) → IsTrue (is_value i sizes k) → IsTrue (same (array i e) sizes a b) → IsTrue (same e sizes (select i sizes a k) (select i sizes b k))

-- the value of a term that has a sort is a value of that sort
abbrev pub ValueHasSort : Type 0
ValueHasSort = (t : Term) (s : Sort) (m : Model) (e : Env) → sort_of t ≡ Some s → IsModel m → IsEnv m.sizes e → IsTrue (is_value s m.sizes (val m t e))

-- two models that agree on the free symbols of a term give it the same value
abbrev pub FreeSymbolsDecide : Type 0
FreeSymbolsDecide = (t : Term) (s : Sort) (m n : Model) (d e : Env) → sort_of t ≡ Some s → AgreeOn (free t) m n d e → val m t d ≡ val n t e

-- the operands of a quantifier's node: its variables, as constants, and a body that is a truth value
pub record IsBinder (ts : List Term) (ss : List Sort) (s : Sort) : Type 0 where
  pub variables : List Variable
  pub body : Term
  pub sorts : List Sort
  pub operands : ts ≡ map variable variables ++ body ∷ []
  pub operand_sorts : ss ≡ sorts ++ bool ∷ []
  pub number : length sorts ≡ length variables
  pub bindable : are_bindable variables ≡ true
  pub result : s ≡ bool

-- a quantifier's node has a rank exactly where its operands are such
abbrev pub BindersHaveRank : Type 0
BindersHaveRank = (ts : List Term) (ss : List Sort) (s : Sort) → (rank_quantifier ts ss ≡ Ok s) ↔ IsBinder ts ss s

-- the sort of a well-sorted term is well formed
abbrev pub SortsAreWellFormed : Type 0
SortsAreWellFormed = (t : Term) (s : Sort) → IsWellSorted t → sort_of t ≡ Some s → IsTrue (is_sort s)
