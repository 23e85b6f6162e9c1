-- What a table's fields say of its formulas.
use Rattle.std.proofs.Common.{◌≡◌, ℕ, zero, suc, cond, ◌<◌, Bool, true, false, List, [], ◌∷◌, ◌++◌, length, map, get_or, All, Contains, Option, Some, None, is_some, Ok, refl, ap, sym, ◌∙◌, subst, arith}
use Rattle.std.specs.List.{slice_get, position, list_all}
use Rattle.std.specs.Map.{keys_of, lookup}
use Rattle.std.proofs.lemmas.List.{length-map, get_or-map, map-append}
use Rattle.std.proofs.lemmas.List.Quantifiers.{position-Some}
use Rattle.std.proofs.lemmas.Option.{get_or_from_slice_get, slice_get_within, slice_get-get_or}
use Rattle.smt_terms.specs.declared.ids.NodeId.{NodeId}
use Rattle.smt_terms.specs.declared.ids.SortId.{SortId}
use Rattle.smt_terms.specs.Sorts.{Sort, bool}
use Rattle.smt_terms.specs.Term.{symbol, Term}
use Rattle.smt_terms.specs.Rank.{sort_of, is_regular, is_sort, has_sorts}
use Rattle.smt_terms.proofs.Tests.{and_true}
use Rattle.smt_values.specs.SortIds.{sort_at, IsSortId}
use Rattle.smt_values.proofs.SortIds.{sort_is}
use Rattle.term_table.specs.declared.table.Node.{Node}
use Rattle.term_table.specs.declared.table.Entry.{Entry}
use Rattle.term_table.specs.Formulas.{Formulas, no_tree, no_symbol, tree_in, trees_at, kind, kind_term, kind_rank, operands, IsKindOf, IsOpOf, AreNodes, Makes, IsNodeOf, is_minus_over, rank_over, IsSymbolOver, IsTable}
use Rattle.term_table.specs.View.{row_of, symbol_of, grown, FitsRow, RowsFit, IsRowAt, FitsEntry, symbols_of, IsKept, formulas_of}
use Rattle.term_table.proofs.Trees.{grown-push, RowsFit-push, AreRows, rows-are, one-tree, kids-same}
use Rattle.term_table.proofs.Operators.{kind-one, kind_term-one}
use Rattle.term_table.proofs.Derived.{node_eq, node_eq-true, node_eq-from}
use Rattle.term_table.proofs.Fits.{AllGood, kind_term-sort, kind_term-operands, kind_term-regular}

-- ---- a key that isn't found

pub lookup_none : (test : Node → Bool) (es : List (Node × SortId)) (i : ℕ) (e : Node × SortId) → lookup test es ≡ None → i < length es → test (get_or es i e).0 ≡ true → ⊥
lookup_none test [] i e none lt h = absurd (omega arith)
lookup_none test (x ∷ es) zero e none lt h =
    let found : cond (test x.0) (Some x.1) (lookup test es) ≡ Some x.1 = ap (λ b. cond b (Some x.1) (lookup test es)) h in
    absurd cc
lookup_none test (x ∷ es) (suc i) e none lt h = lookup_none test es i e (rest (test x.0) none) (omega arith) h
  where
    rest : (b : Bool) → cond b (Some x.1) (lookup test es) ≡ None → lookup test es ≡ None
    rest true n = absurd cc
    rest false n = n

-- the place of a key that is found with this value
abbrev pub FoundAt : (Node → Bool) → List (Node × SortId) → SortId → Type 0
FoundAt test es v = (i : ℕ) × (i < length es) × ((d : Node × SortId) → (test (get_or es i d).0 ≡ true) × ((get_or es i d).1 ≡ v))

found_step : (test : Node → Bool) (x : Node × SortId) (es : List (Node × SortId)) (v : SortId) (b : Bool) → test x.0 ≡ b → cond b (Some x.1) (lookup test es) ≡ Some v
    → (lookup test es ≡ Some v → FoundAt test es v) → FoundAt test (x ∷ es) v
found_step test x es v true h e rest = let value : x.1 ≡ v = cc in (0, omega arith, λ d. (h, value))
found_step test x es v false h e rest = let r = rest e in (suc r.0, omega arith, r.2)

pub lookup_some : (test : Node → Bool) (es : List (Node × SortId)) (v : SortId) → lookup test es ≡ Some v → FoundAt test es v
lookup_some test [] v e = absurd cc
lookup_some test (x ∷ es) v e = found_step test x es v (test x.0) refl e (lookup_some test es v)

pub none_from : (o : Option SortId) → false ≡ is_some o → o ≡ None
none_from None e = refl
none_from (Some v) e = absurd cc

pub in_list : {X : Type 0} (xs : List X) (i : ℕ) (d e : X) → i < length xs → get_or xs i d ≡ get_or xs i e
in_list xs i d e lt =
    let same : Some (get_or xs i d) ≡ Some (get_or xs i e) = sym (slice_get-get_or xs i d lt) ∙ slice_get-get_or xs i e lt in cc

module _ (ss : List Sort) (fs : List Entry) (es : List (Node × SortId)) (h : IsKept ss fs es) where
  abbrev all : List Term
  all = grown (symbols_of ss fs) ss [] (map row_of es)

  pub kept_rows : AreRows (symbols_of ss fs) ss all (map row_of es)
  kept_rows = rows-are (symbols_of ss fs) ss (map row_of es) h.rows

  pub length-trees : length all ≡ length es
  length-trees = kept_rows.number ∙ length-map es row_of

  pub row_at : (i : ℕ) (e : Node × SortId) → slice_get es i ≡ Some e → IsRowAt (symbols_of ss fs) ss all i (row_of e)
  row_at i e is =
      let lt : i < length es = slice_get_within es i e is in
      let rows : i < length (map row_of es) = simp length-map lt in
      let same : get_or (map row_of es) i (row_of e) ≡ row_of e = get_or-map row_of es i e (row_of e) lt ∙ ap row_of (get_or_from_slice_get es i e e is) in
      subst (λ r. IsRowAt (symbols_of ss fs) ss all i r) same (kept_rows.each i (row_of e) rows)

  -- every term is well sorted
  pub sorted_at : (i : ℕ) → i < length all → ((s : Sort) × (sort_of (get_or all i no_tree) ≡ Some s)) × (is_regular (get_or all i no_tree) ≡ true)
  sorted_at i lt = by es refl
    where
      by : (xs : List (Node × SortId)) → es ≡ xs → ((s : Sort) × (sort_of (get_or all i no_tree) ≡ Some s)) × (is_regular (get_or all i no_tree) ≡ true)
      by [] e = let count = length-trees ∙ ap length e in absurd (omega (arith, count))
      by (x ∷ xs) e =
          let count = length-trees in
          let within : i < length es = omega (arith, count) in
          let at = row_at i (get_or es i x) (slice_get-get_or es i x within) in
          ((sort_at ss (get_or es i x).1, at.sorted), at.regular)

  good_at : (ks : List NodeId) → All (λ k. k.0 < length all) ks → AllGood (map (tree_in all) ks)
  good_at [] below = tt
  good_at (k ∷ ks) below =
      let here = sorted_at k.0 (below 0 k (omega arith)) in
      (here.0, here.1, good_at ks (λ i d lt. below (suc i) d (omega arith)))

  -- the symbols
  symbol_sorts : (f : Entry) → FitsEntry ss f → has_sorts (symbol (symbol_of ss f)) ≡ true
  symbol_sorts f fits = and_true (list_all is_sort (map (sort_at ss) f.args.items)) (is_sort (sort_at ss f.to)) (args f.args.items fits.args) (sort_is ss h.sorts f.to.0 fits.to)
    where
      args : (ks : List SortId) → All (IsSortId ss) ks → list_all is_sort (map (sort_at ss) ks) ≡ true
      args [] a = refl
      args (k ∷ ks) a = and_true (is_sort (sort_at ss k)) (list_all is_sort (map (sort_at ss) ks)) (sort_is ss h.sorts k.0 (a 0 k (omega arith))) (args ks (λ i d lt. a (suc i) d (omega arith)))

  symbol_at_place : (i : ℕ) → i < length (symbols_of ss fs) → (f : Entry) × FitsEntry ss f × (get_or (symbols_of ss fs) i no_symbol ≡ symbol_of ss f)
  symbol_at_place i lt = by fs refl
    where
      by : (xs : List Entry) → fs ≡ xs → (f : Entry) × FitsEntry ss f × (get_or (symbols_of ss fs) i no_symbol ≡ symbol_of ss f)
      by [] e = let count : length (symbols_of ss fs) ≡ 0 = length-map fs (symbol_of ss) ∙ ap length e in absurd (omega arith)
      by (x ∷ xs) e =
          let count : length (symbols_of ss fs) ≡ length fs = length-map fs (symbol_of ss) in
          let within : i < length fs = omega arith in
          (get_or fs i x, h.entries i x within, get_or-map (symbol_of ss) fs i x no_symbol within)

  pub symbols_sorted : (i : ℕ) → i < length (symbols_of ss fs) → has_sorts (symbol (get_or (symbols_of ss fs) i no_symbol)) ≡ true
  symbols_sorted i lt =
      let found = symbol_at_place i lt in
      ap (λ f. has_sorts (symbol f)) found.2 ∙ symbol_sorts found.0 found.1

  symbol_over : (f : Entry) → FitsEntry ss f → IsSymbolOver ss (symbol_of ss f)
  symbol_over f fits = record {
    args = λ i lt. arg f.args.items fits.args i lt;
    result = (f.to, fits.to, refl);
    name = fits.name;
  }
    where
      arg : (ks : List SortId) → All (IsSortId ss) ks → (i : ℕ) → i < length (map (sort_at ss) ks) → (k : SortId) × IsSortId ss k × (get_or (map (sort_at ss) ks) i bool ≡ sort_at ss k)
      arg [] a i lt = absurd (omega arith)
      arg (k ∷ ks) a i lt =
          let count : length (map (sort_at ss) (k ∷ ks)) ≡ length (k ∷ ks) = length-map (k ∷ ks) (sort_at ss) in
          let within : i < length (k ∷ ks) = omega arith in
          (get_or (k ∷ ks) i k, a i k within, get_or-map (sort_at ss) (k ∷ ks) i k bool within)

  one_symbol : (i j : ℕ) → i < length (symbols_of ss fs) → j < length (symbols_of ss fs) → get_or (symbols_of ss fs) i no_symbol ≡ get_or (symbols_of ss fs) j no_symbol → i ≡ j
  one_symbol i j li lj e =
      let count : length (symbols_of ss fs) ≡ length fs = length-map fs (symbol_of ss) in
      h.one_symbol i j (omega arith) (omega arith) e

  pub is_table : (n : ℕ) → IsTable (formulas_of ss fs es n)
  is_table n = record {
    sorts = h.sorts;
    symbols = λ i lt. let found = symbol_at_place i lt in subst (IsSymbolOver ss) (sym found.2) (symbol_over found.0 found.1);
    one_symbol = one_symbol;
    one_tree = one-tree (symbols_of ss fs) ss all (map row_of es) kept_rows;
    sorted = λ i lt. let found = sorted_at i lt in and_true (is_some (sort_of (get_or all i no_tree))) (is_regular (get_or all i no_tree)) (ap is_some found.0.1) found.1;
  }

  -- ---- look-ups

  -- a row that is the same as the one sought is the node of its operator and operands
  pub node_at : (n : Node) (i : ℕ) (spare : ℕ) (d : Node × SortId) → i < length es → node_eq n (get_or es i d).0 ≡ true → IsNodeOf (formulas_of ss fs es spare) n.op n.kids.items (record { 0 = i })
  node_at n i spare d within e =
      let same = node_eq-true n (get_or es i d).0 e in
      let at = row_at i (get_or es i d) (slice_get-get_or es i d within) in
      record {
        node = at.within;
        term = let ops = sym same.0 in let kids = sym same.1 in at.term ∙ (λ j. kind_term (symbols_of ss fs) ss (kind (ops j)) (map (tree_in all) (kids j)));
        kids = at.operands ∙ ap (map (tree_in all)) (sym same.1);
      }

  pub node_found : (n : Node) (i : ℕ) (spare : ℕ) → position (node_eq n) (keys_of es) ≡ Some i → IsNodeOf (formulas_of ss fs es spare) n.op n.kids.items (record { 0 = i })
  node_found n i spare e = by es refl
    where
      by : (xs : List (Node × SortId)) → es ≡ xs → IsNodeOf (formulas_of ss fs es spare) n.op n.kids.items (record { 0 = i })
      by [] f = let P : List (Node × SortId) → Type 0 = λ l. position (node_eq n) (keys_of l) ≡ Some i in let none : None ≡ Some i = subst P f e in absurd cc
      by (x ∷ xs) f =
          let found = position-Some (node_eq n) (keys_of es) i x.0 e in
          let within : i < length es = simp length-map at found.0 in
          let key : get_or (keys_of es) i x.0 ≡ (get_or es i x).0 = get_or-map (λ p. p.0) es i x x.0 within in
          node_at n i spare x within (ap (node_eq n) (sym key) ∙ found.1)

  -- no node has this operator and these operands
  pub node_absent : (n : Node) (spare : ℕ) → lookup (node_eq n) es ≡ None → AreNodes (formulas_of ss fs es spare) n.kids.items → IsOpOf (formulas_of ss fs es spare) n.op
      → (k : NodeId) → IsNodeOf (formulas_of ss fs es spare) n.op n.kids.items k → ⊥
  node_absent n spare none kids numbers k is = by es refl
    where
      by : (xs : List (Node × SortId)) → es ≡ xs → ⊥
      by [] f = let count = length-trees ∙ ap length f in let lt : k.0 < length all = is.node in absurd (omega (arith, count))
      by (x ∷ xs) f =
          let count = length-trees in
          let lt : k.0 < length all = is.node in
          let within : k.0 < length es = omega (arith, count) in
          let e = get_or es k.0 x in
          let at = row_at k.0 e (slice_get-get_or es k.0 x within) in
          let operands_same : map (tree_in all) e.0.kids.items ≡ map (tree_in all) n.kids.items = sym at.operands ∙ is.kids in
          let below : All (λ k. k.0 < length all) e.0.kids.items = λ i d l. let b = at.kids i d l in omega arith in
          let kids_same : e.0.kids.items ≡ n.kids.items = kids-same (symbols_of ss fs) ss all (map row_of es) kept_rows e.0.kids.items n.kids.items below kids operands_same in
          let terms_same : kind_term (symbols_of ss fs) ss (kind e.0.op) (map (tree_in all) n.kids.items) ≡ kind_term (symbols_of ss fs) ss (kind n.op) (map (tree_in all) n.kids.items) =
          ap (λ ts. kind_term (symbols_of ss fs) ss (kind e.0.op) ts) (sym operands_same) ∙ sym at.term ∙ is.term in
          let kinds : kind e.0.op ≡ kind n.op = kind_term-one (symbols_of ss fs) ss h.sorts one_symbol (kind e.0.op) (kind n.op) (map (tree_in all) n.kids.items) at.numbers numbers terms_same in
          let ops : e.0.op ≡ n.op = kind-one e.0.op n.op kinds in
          lookup_none (node_eq n) es k.0 x none within (node_eq-from n e.0 (sym ops) (sym kids_same))

  -- ---- one node more

  -- what makes a node
  pub record MakesNode (n : Node) (sort : SortId) : Type 0 where
    pub kids : All (λ k. k.0 < length all) n.kids.items
    pub numbers : IsKindOf (symbols_of ss fs) ss (kind n.op)
    pub within : IsSortId ss sort
    pub ranked : kind_rank (symbols_of ss fs) ss (kind n.op) (map (tree_in all) n.kids.items) ≡ Ok (sort_at ss sort)
    pub minus : is_minus_over n.op (map (tree_in all) n.kids.items) ≡ false

  -- the same, from what the contracts say
  pub makes_node : (n : Node) (sort : SortId) (spare : ℕ) (t : Formulas) → formulas_of ss fs es spare ≡ t → Makes t n.op n.kids.items
      → rank_over t n.op (trees_at t n.kids.items) ≡ Ok (sort_at t.sorts sort) → IsSortId t.sorts sort → MakesNode n sort
  makes_node n sort spare t e =
      let P : Formulas → Type 0 = λ u. Makes u n.op n.kids.items → rank_over u n.op (trees_at u n.kids.items) ≡ Ok (sort_at u.sorts sort) → IsSortId u.sorts sort → MakesNode n sort in
      subst P e (λ makes ranked within. record { kids = makes.kids; numbers = makes.numbers; within = within; ranked = ranked; minus = makes.minus })

  pub node_sort : (n : Node) (sort : SortId) → MakesNode n sort → sort_of (kind_term (symbols_of ss fs) ss (kind n.op) (map (tree_in all) n.kids.items)) ≡ Some (sort_at ss sort)
  node_sort n sort makes = kind_term-sort (symbols_of ss fs) ss (kind n.op) (map (tree_in all) n.kids.items) (sort_at ss sort) (good_at n.kids.items makes.kids) makes.ranked

  pub trees_pushed : (n : Node) (sort : SortId)
      → grown (symbols_of ss fs) ss [] (map row_of (es ++ (n, sort) ∷ [])) ≡ all ++ kind_term (symbols_of ss fs) ss (kind n.op) (map (tree_in all) n.kids.items) ∷ []
  trees_pushed n sort = ap (grown (symbols_of ss fs) ss []) (map-append row_of es ((n, sort) ∷ [])) ∙ grown-push (symbols_of ss fs) ss [] (map row_of es) (row_of (n, sort))

  -- the term isn't there where the node isn't
  term_absent : (n : Node) (sort : SortId) → MakesNode n sort → lookup (node_eq n) es ≡ None → (i : ℕ) → i < length all
      → get_or all i no_tree ≡ kind_term (symbols_of ss fs) ss (kind n.op) (map (tree_in all) n.kids.items) → ⊥
  term_absent n sort makes none i lt e =
      let operands_same = kind_term-operands (symbols_of ss fs) ss (kind n.op) (map (tree_in all) n.kids.items) (sort_at ss sort) makes.ranked in
      node_absent n 0 none makes.kids makes.numbers (record { 0 = i }) (record { node = lt; term = e; kids = ap operands e ∙ operands_same })

  pub kept_pushed : (n : Node) (sort : SortId) → MakesNode n sort → lookup (node_eq n) es ≡ None → IsKept ss fs (es ++ (n, sort) ∷ [])
  kept_pushed n sort makes none =
      let us = map (tree_in all) n.kids.items in
      let k = kind n.op in
      let fits : FitsRow (symbols_of ss fs) ss all (row_of (n, sort)) = record {
        kids = makes.kids;
        numbers = makes.numbers;
        sort = makes.within;
        sorted = node_sort n sort makes;
        regular = kind_term-regular (symbols_of ss fs) ss h.sorts symbols_sorted n.op k us (sort_at ss sort) refl (good_at n.kids.items makes.kids) makes.numbers makes.ranked makes.minus;
        operands = kind_term-operands (symbols_of ss fs) ss k us (sort_at ss sort) makes.ranked;
        new = term_absent n sort makes none;
      } in
      record {
        sorts = h.sorts;
        entries = h.entries;
        one_symbol = h.one_symbol;
        rows = subst (RowsFit (symbols_of ss fs) ss []) (sym (map-append row_of es ((n, sort) ∷ []))) (RowsFit-push (symbols_of ss fs) ss [] (map row_of es) (row_of (n, sort)) h.rows fits);
      }

  pub not_contained : (n : Node) (sort : SortId) → MakesNode n sort → lookup (node_eq n) es ≡ None → Contains all (kind_term (symbols_of ss fs) ss (kind n.op) (map (tree_in all) n.kids.items)) → ⊥
  not_contained n sort makes none is =
      let term = kind_term (symbols_of ss fs) ss (kind n.op) (map (tree_in all) n.kids.items) in
      term_absent n sort makes none is.0 is.1 (in_list all is.0 no_tree term is.1 ∙ is.2)
