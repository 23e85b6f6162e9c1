-- More symbols and more sorts leave the terms of the rows as they are.
use Rattle.std.proofs.Common.{◌≡◌, ℕ, ◌<◌, ◌≤◌, List, [], ◌∷◌, ◌++◌, length, map, get_or, Some, refl, ap, sym, ◌∙◌, subst, arith}
use Rattle.smt_terms.specs.declared.ids.SortId.{SortId}
use Rattle.smt_terms.specs.Sorts.{Sort, Symbol}
use Rattle.smt_terms.specs.Term.{symbol, const_array, Term, over}
use Rattle.smt_terms.specs.Rank.{sort_of, is_regular}
use Rattle.smt_values.specs.SortIds.{sort_at, IsSortId}
use Rattle.term_table.specs.Formulas.{no_symbol, tree_in, Kind, theory, applied, filled, binder, kind, kind_term, operands, IsKindOf}
use Rattle.term_table.specs.View.{Row, row_term, grown, FitsRow, RowsFit}

pub record IsLarger (fs : List Symbol) (ss : List Sort) (gs : List Symbol) (us : List Sort) : Type 0 where
  pub symbols : length fs ≤ length gs
  pub same_symbol : (i : ℕ) → i < length fs → get_or gs i no_symbol ≡ get_or fs i no_symbol
  pub sorts : length ss ≤ length us
  pub same_sort : (k : SortId) → IsSortId ss k → sort_at us k ≡ sort_at ss k

module _ (fs : List Symbol) (ss : List Sort) (gs : List Symbol) (us : List Sort) (larger : IsLarger fs ss gs us) where
  pub kind_term-larger : (k : Kind) (ts : List Term) → IsKindOf fs ss k → kind_term gs us k ts ≡ kind_term fs ss k ts
  kind_term-larger (theory p) ts h = refl
  kind_term-larger (applied f) ts h = ap (λ g. over (symbol g) ts) (larger.same_symbol f.0 h)
  kind_term-larger (filled s) ts h = ap (λ u. over (const_array u) ts) (larger.same_sort s h)
  kind_term-larger (binder q) ts h = refl

  pub IsKindOf-larger : (k : Kind) → IsKindOf fs ss k → IsKindOf gs us k
  IsKindOf-larger (theory p) h = tt
  IsKindOf-larger (applied f) h = let more : length fs ≤ length gs = larger.symbols in omega arith
  IsKindOf-larger (filled s) h = let more : length ss ≤ length us = larger.sorts in omega arith
  IsKindOf-larger (binder q) h = tt

  row-larger : (ts : List Term) (r : Row) → FitsRow fs ss ts r → row_term gs us ts r ≡ row_term fs ss ts r
  row-larger ts r fits = kind_term-larger (kind r.op) (map (tree_in ts) r.kids) fits.numbers

  FitsRow-larger : (ts : List Term) (r : Row) → FitsRow fs ss ts r → FitsRow gs us ts r
  FitsRow-larger ts r fits =
      let same = row-larger ts r fits in
      let more : length ss ≤ length us = larger.sorts in
      let within : IsSortId ss r.sort = fits.sort in
      record {
        kids = fits.kids;
        numbers = IsKindOf-larger (kind r.op) fits.numbers;
        sort = omega arith;
        sorted = ap sort_of same ∙ fits.sorted ∙ ap Some (sym (larger.same_sort r.sort within));
        regular = ap is_regular same ∙ fits.regular;
        operands = ap operands same ∙ fits.operands;
        new = λ i lt e. fits.new i lt (e ∙ same);
      }

  pub grown-larger : (ts : List Term) (rs : List Row) → RowsFit fs ss ts rs → grown gs us ts rs ≡ grown fs ss ts rs
  grown-larger ts [] h = refl
  grown-larger ts (r ∷ rs) h =
      ap (λ t. grown gs us (ts ++ t ∷ []) rs) (row-larger ts r h.0) ∙ grown-larger (ts ++ row_term fs ss ts r ∷ []) rs h.1

  pub RowsFit-larger : (ts : List Term) (rs : List Row) → RowsFit fs ss ts rs → RowsFit gs us ts rs
  RowsFit-larger ts [] h = tt
  RowsFit-larger ts (r ∷ rs) h = (
    FitsRow-larger ts r h.0,
    subst (λ t. RowsFit gs us (ts ++ t ∷ []) rs) (sym (row-larger ts r h.0)) (RowsFit-larger (ts ++ row_term fs ss ts r ∷ []) rs h.1),
  )
