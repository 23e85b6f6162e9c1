-- How the fields of a table are seen.
use Rattle.std.specs.Prelude.{◌≡◌, ◌≢◌, ℕ, ◌<◌, List, [], ◌∷◌, ◌++◌, map, length, get_or, Some, All, IsTrue}
use Rattle.smt_terms.specs.declared.ids.NodeId.{NodeId}
use Rattle.smt_terms.specs.declared.ids.SortId.{SortId}
use Rattle.smt_terms.specs.declared.op.Op.{Op}
use Rattle.smt_terms.specs.Sorts.{Sort, Symbol}
use Rattle.smt_terms.specs.Term.{Term}
use Rattle.smt_terms.specs.Rank.{sort_of, is_regular}
use Rattle.smt_values.specs.SortIds.{sort_at, IsSortId, IsSortList, IsPlain}
use Rattle.term_table.specs.declared.table.Node.{Node}
use Rattle.term_table.specs.declared.table.Entry.{Entry}
use Rattle.term_table.specs.Formulas.{Formulas, no_tree, no_symbol, tree_in, kind, kind_term, operands, IsKindOf}

-- an operator over the numbers of its operands, with the number of its sort
pub record Row : Type 0 where
  pub op : Op
  pub kids : List NodeId
  pub sort : SortId

abbrev pub row_of : Node × SortId → Row
row_of e = record { op = e.0.op; kids = e.0.kids.items; sort = e.1 }

abbrev pub symbol_of : List Sort → Entry → Symbol
symbol_of ss f = record { name = f.name.items; args = map (sort_at ss) f.args.items; result = sort_at ss f.to }

module _ (fs : List Symbol) (ss : List Sort) where
  abbrev pub row_term : List Term → Row → Term
  row_term ts r = kind_term fs ss (kind r.op) (map (tree_in ts) r.kids)

  -- the terms ts, and then those of the rows
  abbrev pub grown : List Term → List Row → List Term
  grown ts [] = ts
  grown ts (r ∷ rs) = grown (ts ++ row_term ts r ∷ []) rs

  -- a row behind the terms ts
  pub record FitsRow (ts : List Term) (r : Row) : Type 0 where
    pub kids : All (λ k. k.0 < length ts) r.kids
    pub numbers : IsKindOf fs ss (kind r.op)
    pub sort : IsSortId ss r.sort
    pub sorted : sort_of (row_term ts r) ≡ Some (sort_at ss r.sort)
    pub regular : IsTrue (is_regular (row_term ts r))
    pub operands : operands (row_term ts r) ≡ map (tree_in ts) r.kids
    pub new : (i : ℕ) → i < length ts → get_or ts i no_tree ≢ row_term ts r

  abbrev pub RowsFit : List Term → List Row → Type 0
  RowsFit ts [] = Unit {0}
  RowsFit ts (r ∷ rs) = FitsRow ts r × RowsFit (ts ++ row_term ts r ∷ []) rs

  -- the row of node n, among all terms
  pub record IsRowAt (all : List Term) (n : ℕ) (r : Row) : Type 0 where
    pub within : n < length all
    pub kids : All (λ k. k.0 < n) r.kids
    pub numbers : IsKindOf fs ss (kind r.op)
    pub sort : IsSortId ss r.sort
    pub term : get_or all n no_tree ≡ row_term all r
    pub sorted : sort_of (get_or all n no_tree) ≡ Some (sort_at ss r.sort)
    pub regular : IsTrue (is_regular (get_or all n no_tree))
    pub operands : operands (get_or all n no_tree) ≡ map (tree_in all) r.kids
    pub new : (j : ℕ) → j < n → get_or all j no_tree ≢ get_or all n no_tree

-- the sorts of a symbol are numbers of sorts
pub record FitsEntry (ss : List Sort) (f : Entry) : Type 0 where
  pub name : IsPlain f.name.items
  pub args : All (IsSortId ss) f.args.items
  pub to : IsSortId ss f.to

abbrev pub symbols_of : List Sort → List Entry → List Symbol
symbols_of ss fs = map (symbol_of ss) fs

pub record IsKept (ss : List Sort) (fs : List Entry) (es : List (Node × SortId)) : Type 0 where
  pub sorts : IsSortList ss
  pub entries : All (FitsEntry ss) fs
  pub one_symbol : (i j : ℕ) → i < length fs → j < length fs → get_or (symbols_of ss fs) i no_symbol ≡ get_or (symbols_of ss fs) j no_symbol → i ≡ j
  pub rows : RowsFit (symbols_of ss fs) ss [] (map row_of es)

abbrev pub formulas_of : List Sort → List Entry → List (Node × SortId) → ℕ → Formulas
formulas_of ss fs es spare =
    record { symbols = symbols_of ss fs; sorts = ss; trees = grown (symbols_of ss fs) ss [] (map row_of es); spare = spare }
