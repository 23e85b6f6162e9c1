-- The terms of a table's rows: each row stands behind its operands, and no two rows have one term.
use Rattle.std.proofs.Common.{◌≡◌, ◌≢◌, ℕ, zero, suc, ◌+◌, ◌<◌, inl, inr, ◌⊎◌, List, [], ◌∷◌, ◌++◌, length, map, get_or, All, refl, ap, sym, ◌∙◌, subst, arith, length-append}
use Rattle.std.proofs.Math.ListN.{get_or-append}
use Rattle.std.proofs.Math.Seq.{get_or-append_seam}
use Rattle.smt_terms.specs.declared.ids.NodeId.{NodeId}
use Rattle.smt_terms.specs.Sorts.{Sort, Symbol}
use Rattle.smt_terms.specs.Term.{Term}
use Rattle.smt_terms.specs.Rank.{sort_of, is_regular}
use Rattle.term_table.specs.Formulas.{no_tree, tree_in, kind, kind_term, operands}
use Rattle.term_table.specs.View.{Row, row_term, grown, FitsRow, RowsFit, IsRowAt}

-- ---- operands keep their terms as the table grows

abbrev pub Keeps : List Term → List Term → Type 0
Keeps old new = (i : ℕ) → i < length old → get_or new i no_tree ≡ get_or old i no_tree

below_tail : (n : ℕ) (k : NodeId) (ks : List NodeId) → All (λ i. i.0 < n) (k ∷ ks) → All (λ i. i.0 < n) ks
below_tail n k ks h i d lt = h (suc i) d (omega arith)

pub trees-keep : (old new : List Term) (ks : List NodeId) → Keeps old new → All (λ k. k.0 < length old) ks → map (tree_in new) ks ≡ map (tree_in old) ks
trees-keep old new [] keep below = refl
trees-keep old new (k ∷ ks) keep below =
    let first : tree_in new k ≡ tree_in old k = keep k.0 (below 0 k (omega arith)) in
    let rest : map (tree_in new) ks ≡ map (tree_in old) ks = trees-keep old new ks keep (below_tail (length old) k ks below) in
    λ i. first i ∷ rest i

keeps_append : (ts us : List Term) → Keeps ts (ts ++ us)
keeps_append ts us i lt = get_or-append ts us no_tree i lt

module _ (fs : List Symbol) (ss : List Sort) where
  pub length-grown : (ts : List Term) (rs : List Row) → length (grown fs ss ts rs) ≡ length ts + length rs
  length-grown ts [] = omega arith
  length-grown ts (r ∷ rs) =
      let more = length-grown (ts ++ row_term fs ss ts r ∷ []) rs in
      let one : length (ts ++ row_term fs ss ts r ∷ []) ≡ length ts + 1 = simp length-append (omega arith) in
      omega (arith, more, one)

  pub grown-push : (ts : List Term) (rs : List Row) (r : Row) → grown fs ss ts (rs ++ r ∷ []) ≡ grown fs ss ts rs ++ row_term fs ss (grown fs ss ts rs) r ∷ []
  grown-push ts [] r = refl
  grown-push ts (q ∷ rs) r = grown-push (ts ++ row_term fs ss ts q ∷ []) rs r

  pub RowsFit-push : (ts : List Term) (rs : List Row) (r : Row) → RowsFit fs ss ts rs → FitsRow fs ss (grown fs ss ts rs) r → RowsFit fs ss ts (rs ++ r ∷ [])
  RowsFit-push ts [] r h fits = (fits, tt)
  RowsFit-push ts (q ∷ rs) r h fits = (h.0, RowsFit-push (ts ++ row_term fs ss ts q ∷ []) rs r h.1 fits)

  pub grown-keeps : (ts : List Term) (rs : List Row) → Keeps ts (grown fs ss ts rs)
  grown-keeps ts [] i lt = refl
  grown-keeps ts (r ∷ rs) i lt =
      let one : length (ts ++ row_term fs ss ts r ∷ []) ≡ length ts + 1 = simp length-append (omega arith) in
      grown-keeps (ts ++ row_term fs ss ts r ∷ []) rs i (omega (arith, one)) ∙ keeps_append ts (row_term fs ss ts r ∷ []) i lt

  -- a row that fits, seen among all terms
  at_seam : (ts : List Term) (r : Row) (rs : List Row) → FitsRow fs ss ts r → IsRowAt fs ss (grown fs ss ts (r ∷ rs)) (length ts) r
  at_seam ts r rs fits =
      let t = row_term fs ss ts r in
      let all = grown fs ss ts (r ∷ rs) in
      let count : length all ≡ length ts + suc (length rs) = length-grown ts (r ∷ rs) in
      let keep : Keeps ts all = grown-keeps ts (r ∷ rs) in
      let one : length (ts ++ t ∷ []) ≡ length ts + 1 = simp length-append (omega arith) in
      let here : get_or all (length ts) no_tree ≡ t = grown-keeps (ts ++ t ∷ []) rs (length ts) (omega (arith, one)) ∙ get_or-append_seam ts t [] no_tree in
      let same : map (tree_in all) r.kids ≡ map (tree_in ts) r.kids = trees-keep ts all r.kids keep fits.kids in
      record {
        within = omega (arith, count);
        kids = fits.kids;
        numbers = fits.numbers;
        sort = fits.sort;
        term = here ∙ ap (kind_term fs ss (kind r.op)) (sym same);
        sorted = ap sort_of here ∙ fits.sorted;
        regular = subst (λ u. is_regular u ≡ is_regular t) (sym here) refl ∙ fits.regular;
        operands = ap operands here ∙ fits.operands ∙ sym same;
        new = λ j lt e. fits.new j lt (sym (keep j lt) ∙ e ∙ here);
      }

  pub row-at : (ts : List Term) (rs : List Row) → RowsFit fs ss ts rs → (i : ℕ) (d : Row) (n : ℕ) → i < length rs → n ≡ length ts + i → IsRowAt fs ss (grown fs ss ts rs) n (get_or rs i d)
  row-at ts [] h i d n lt e = absurd (omega arith)
  row-at ts (r ∷ rs) h zero d n lt e =
      let z : length ts ≡ n = omega arith in
      subst (λ m. IsRowAt fs ss (grown fs ss ts (r ∷ rs)) m r) z (at_seam ts r rs h.0)
  row-at ts (r ∷ rs) h (suc i) d n lt e =
      let one : length (ts ++ row_term fs ss ts r ∷ []) ≡ length ts + 1 = simp length-append (omega arith) in
      row-at (ts ++ row_term fs ss ts r ∷ []) rs h.1 i d n (omega arith) (omega (arith, one))

-- ---- rows and terms of a whole table

pub record AreRows (fs : List Symbol) (ss : List Sort) (all : List Term) (rs : List Row) : Type 0 where
  pub number : length all ≡ length rs
  pub each : (i : ℕ) (d : Row) → i < length rs → IsRowAt fs ss all i (get_or rs i d)

pub rows-are : (fs : List Symbol) (ss : List Sort) (rs : List Row) → RowsFit fs ss [] rs → AreRows fs ss (grown fs ss [] rs) rs
rows-are fs ss rs h =
    let count = length-grown fs ss [] rs in
    record { number = omega (arith, count); each = λ i d lt. row-at fs ss [] rs h i d i lt (omega arith) }

some_row : (all : List Term) (rs : List Row) (i : ℕ) → length all ≡ length rs → i < length all → (d : Row) × (i < length rs)
some_row all [] i e lt = absurd (omega arith)
some_row all (r ∷ rs) i e lt = (r, omega arith)

module _ (fs : List Symbol) (ss : List Sort) (all : List Term) (rs : List Row) (h : AreRows fs ss all rs) where
  -- two nodes of one term are one
  pub one-tree : (i j : ℕ) → i < length all → j < length all → get_or all i no_tree ≡ get_or all j no_tree → i ≡ j
  one-tree i j li lj e =
      let number = h.number in
      let ri = some_row all rs i number li in
      let rj = some_row all rs j number lj in
      by i j (h.each i ri.0 ri.1).new (h.each j rj.0 rj.1).new e
    where
      order : (m n : ℕ) → (m < n) ⊎ ((n < m) ⊎ (m ≡ n))
      order zero zero = inr (inr refl)
      order zero (suc n) = inl (omega arith)
      order (suc m) zero = inr (inl (omega arith))
      order (suc m) (suc n) = elim (order m n) [
        | inl lt ↦ inl (omega arith)
        | inr o ↦ elim o [ inl gt ↦ inr (inl (omega arith)) | inr eq ↦ inr (inr (ap suc eq)) ]
      ]

      by : (m n : ℕ) → ((k : ℕ) → k < m → get_or all k no_tree ≢ get_or all m no_tree) → ((k : ℕ) → k < n → get_or all k no_tree ≢ get_or all n no_tree) → get_or all m no_tree ≡ get_or all n no_tree → m ≡ n
      by m n hm hn same = elim (order m n) [
        | inl lt ↦ absurd (hn m lt same)
        | inr o ↦ elim o [ inl gt ↦ absurd (hm n gt (sym same)) | inr eq ↦ eq ]
      ]

  -- nodes are told by their terms
  pub kids-same : (ks ls : List NodeId) → All (λ k. k.0 < length all) ks → All (λ k. k.0 < length all) ls → map (tree_in all) ks ≡ map (tree_in all) ls → ks ≡ ls
  kids-same [] [] hk hl e = refl
  kids-same [] (l ∷ ls) hk hl e = absurd cc
  kids-same (k ∷ ks) [] hk hl e = absurd cc
  kids-same (k ∷ ks) (l ∷ ls) hk hl e =
      let first : tree_in all k ≡ tree_in all l = cc in
      let rest : map (tree_in all) ks ≡ map (tree_in all) ls = cc in
      let number : k.0 ≡ l.0 = one-tree k.0 l.0 (hk 0 k (omega arith)) (hl 0 l (omega arith)) first in
      let others : ks ≡ ls = kids-same ks ls (below_tail (length all) k ks hk) (below_tail (length all) l ls hl) rest in
      λ i. record { 0 = number i } ∷ others i
