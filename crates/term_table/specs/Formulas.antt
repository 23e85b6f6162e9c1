-- What a contract sees of a table of formulas: its symbols, its array sorts and free sorts, and the term of each node,
-- each at the place that is its number. SMT-LIB 2.6, sections 3.5, 3.6 and 5.2.2.
use Rattle.std.specs.Prelude.{◌≡◌, ℕ, suc, ◌<◌, ◌≤◌, ◌⊎◌, Bool, false, List, [], ◌∷◌, ◌++◌, map, length, get_or, Option, Some, None, Result, All, Contains, IsOk, refl}
use Rattle.std.specs.Coded.{Coded, code_by, coded×, coded_ℕ, coded_list}
use Rattle.smt_terms.specs.declared.ids.NodeId.{NodeId}
use Rattle.smt_terms.specs.declared.ids.SymId.{SymId}
use Rattle.smt_terms.specs.declared.ids.SortId.{SortId}
use Rattle.smt_terms.specs.declared.op.Op.{Op}
use Rattle.smt_terms.specs.declared.op.Op.TheVariants.{Truth, Sym, Forall, Exists, ConstArray}
use Rattle.smt_terms.specs.Sorts.{Name, Sort, bool, Symbol, Variable}
use Rattle.smt_terms.specs.Term.{Quantifier, universal, existential, op, symbol, const_array, Term, apply, quantified, none, list, terms, over, variable}
use Rattle.smt_terms.specs.Rank.{Fault, rank, rank_quantifier, sort_of, IsWellSorted, is_minus_of}
use Rattle.smt_values.specs.SortIds.{sort_at, IsSortId, IsSortList, IsPlain}
use Rattle.smt_values.specs.Codes.{coded_sorts}
use Rattle.term_table.specs.Codes.{coded_symbol, coded_term}

pub record Formulas : Type 0 where
  pub symbols : List Symbol
  pub sorts : List Sort
  pub trees : List Term
  -- how many nodes more take no memory
  pub spare : ℕ

abbrev pub coded_formulas : Coded Formulas
coded_formulas =
    code_by (List Symbol × (List Sort × (List Term × ℕ))) (coded× (coded_list coded_symbol) (coded× coded_sorts (coded× (coded_list coded_term) coded_ℕ)))
    (λ t. (t.symbols, (t.sorts, (t.trees, t.spare)))) (λ p. record { symbols = p.0; sorts = p.1.0; trees = p.1.1.0; spare = p.1.1.1 }) (λ _. refl)

-- ---- numbers

-- what stands at no number of a node, and of a symbol
abbrev pub no_tree : Term
no_tree = apply (op (Truth false)) none

abbrev pub no_symbol : Symbol
no_symbol = record { name = []; args = []; result = bool }

abbrev pub tree_in : List Term → NodeId → Term
tree_in ts k = get_or ts k.0 no_tree

-- the term that a node names
abbrev pub tree : Formulas → NodeId → Term
tree t k = tree_in t.trees k

abbrev pub trees_at : Formulas → List NodeId → List Term
trees_at t ks = map (tree_in t.trees) ks

abbrev pub symbol_at : Formulas → SymId → Symbol
symbol_at t f = get_or t.symbols f.0 no_symbol

-- the symbol of this name and rank, by the numbers of its sorts
abbrev pub symbol_over : List Sort → Name → List SortId → SortId → Symbol
symbol_over ss name args to = record { name = name; args = map (sort_at ss) args; result = sort_at ss to }

abbrev pub IsNode : Formulas → NodeId → Type 0
IsNode t k = k.0 < length t.trees

abbrev pub AreNodes : Formulas → List NodeId → Type 0
AreNodes t ks = All (λ k. k.0 < length t.trees) ks

abbrev pub IsSymbol : Formulas → SymId → Type 0
IsSymbol t f = f.0 < length t.symbols

-- ---- the term of an operator over operands

-- the operators of the theories and their constants; a symbol; the constant array of a sort; a quantifier
pub data Kind : Type 0 where
  theory : Op → Kind
  applied : SymId → Kind
  filled : SortId → Kind
  binder : Quantifier → Kind

unfoldable pub kind : Op → Kind
kind (Sym f) = applied f
kind (ConstArray s) = filled s
kind Forall = binder universal
kind Exists = binder existential
kind p = theory p

-- the variable that a constant stands for where it is quantified
abbrev pub variable_of : Term → Variable
variable_of (apply (symbol f) _) = record { name = f.name; sort = f.result }
variable_of _ = record { name = []; sort = bool }

-- a quantifier's operands are its variables, as constants, and its body last
abbrev pub binders : List Term → List Variable
binders [] = []
binders (_ ∷ []) = []
binders (t ∷ u ∷ ts) = variable_of t ∷ binders (u ∷ ts)

abbrev pub body : List Term → Term
body [] = no_tree
body (t ∷ []) = t
body (_ ∷ u ∷ ts) = body (u ∷ ts)

abbrev pub kind_term : List Symbol → List Sort → Kind → List Term → Term
kind_term fs ss (theory p) ts = over (op p) ts
kind_term fs ss (applied f) ts = over (symbol (get_or fs f.0 no_symbol)) ts
kind_term fs ss (filled s) ts = over (const_array (sort_at ss s)) ts
kind_term fs ss (binder q) ts = quantified q (binders ts) (body ts)

-- the term of a node of this operator over these operands
abbrev pub term_over : Formulas → Op → List Term → Term
term_over t p ts = kind_term t.symbols t.sorts (kind p) ts

abbrev pub operands : Term → List Term
operands (apply _ ts) = list ts
operands (quantified _ xs t) = map variable xs ++ t ∷ []

-- an operator that speaks of a symbol or a sort speaks of one of the table
abbrev pub IsKindOf : List Symbol → List Sort → Kind → Type 0
IsKindOf fs ss (theory _) = Unit {0}
IsKindOf fs ss (applied f) = f.0 < length fs
IsKindOf fs ss (filled s) = IsSortId ss s
IsKindOf fs ss (binder _) = Unit {0}

abbrev pub IsOpOf : Formulas → Op → Type 0
IsOpOf t p = IsKindOf t.symbols t.sorts (kind p)

-- ---- rank

abbrev pub sort_or_bool : Option Sort → Sort
sort_or_bool (Some s) = s
sort_or_bool None = bool

abbrev pub sorts_in : List Term → List Sort
sorts_in ts = map (λ t. sort_or_bool (sort_of t)) ts

abbrev pub kind_rank : List Symbol → List Sort → Kind → List Term → Result Sort Fault
kind_rank fs ss (theory p) ts = rank (op p) (sorts_in ts)
kind_rank fs ss (applied f) ts = rank (symbol (get_or fs f.0 no_symbol)) (sorts_in ts)
kind_rank fs ss (filled s) ts = rank (const_array (sort_at ss s)) (sorts_in ts)
kind_rank fs ss (binder q) ts = rank_quantifier ts (sorts_in ts)

-- the sort of an operator over these operands, or its first fault
abbrev pub rank_over : Formulas → Op → List Term → Result Sort Fault
rank_over t p ts = kind_rank t.symbols t.sorts (kind p) ts

-- a unary minus over an integer constant, which is written where the constant is meant
abbrev pub is_minus_over : Op → List Term → Bool
is_minus_over p ts = is_minus_of (op p) (terms ts)

-- an operator and operands that make a node
pub record Makes (t : Formulas) (p : Op) (ks : List NodeId) : Type 0 where
  pub kids : AreNodes t ks
  pub numbers : IsOpOf t p
  pub ranked : IsOk (rank_over t p (trees_at t ks))
  pub minus : is_minus_over p (trees_at t ks) ≡ false

-- the node k has this operator and these operands
pub record IsNodeOf (t : Formulas) (p : Op) (ks : List NodeId) (k : NodeId) : Type 0 where
  pub node : IsNode t k
  pub term : tree t k ≡ term_over t p (trees_at t ks)
  pub kids : operands (tree t k) ≡ trees_at t ks

-- ---- growth

-- the elements that were there keep their places
pub record Grows {X : Type 0} (old new : List X) : Type 0 where
  pub longer : length old ≤ length new
  pub same : (i : ℕ) (d : X) → i < length old → get_or new i d ≡ get_or old i d

-- the list is as it was, or has this element, which it hadn't, behind those that it had
abbrev pub Adds : {X : Type 0} → List X → List X → X → Type 0
Adds old new x = (new ≡ old) ⊎ ((new ≡ old ++ x ∷ []) × (Contains old x → ⊥))

-- at most one element more
pub record GrowsByOne {X : Type 0} (old new : List X) : Type 0 where
  pub grows : Grows old new
  pub one : length new ≤ suc (length old)

-- the same symbols, sorts and nodes
pub record IsUnchanged (old new : Formulas) : Type 0 where
  pub symbols : new.symbols ≡ old.symbols
  pub sorts : new.sorts ≡ old.sorts
  pub trees : new.trees ≡ old.trees

-- ---- what holds of every table

-- the sorts of a symbol have numbers
pub record IsSymbolOver (ss : List Sort) (f : Symbol) : Type 0 where
  pub args : (i : ℕ) → i < length f.args → (k : SortId) × IsSortId ss k × (get_or f.args i bool ≡ sort_at ss k)
  pub result : (k : SortId) × IsSortId ss k × (f.result ≡ sort_at ss k)
  pub name : IsPlain f.name

-- equal sorts, symbols and terms have one number; each term is well sorted
pub record IsTable (t : Formulas) : Type 0 where
  pub sorts : IsSortList t.sorts
  pub symbols : (i : ℕ) → i < length t.symbols → IsSymbolOver t.sorts (get_or t.symbols i no_symbol)
  pub one_symbol : (i j : ℕ) → i < length t.symbols → j < length t.symbols → get_or t.symbols i no_symbol ≡ get_or t.symbols j no_symbol → i ≡ j
  pub one_tree : (i j : ℕ) → i < length t.trees → j < length t.trees → get_or t.trees i no_tree ≡ get_or t.trees j no_tree → i ≡ j
  pub sorted : (i : ℕ) → i < length t.trees → IsWellSorted (get_or t.trees i no_tree)
