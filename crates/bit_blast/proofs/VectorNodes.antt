-- Constants of bit vectors as nodes, and the nodes of their bits.
use Rattle.std.proofs.Common.{◌≡◌, ℕ, zero, suc, ◌+◌, ◌-◌, ◌<◌, ◌≤◌, ◌⊎◌, inl, inr, true, false, List, [], ◌∷◌, ◌++◌, append_assoc, append-nil, cond, filter, length, get_or, take, All, Option, Some, None, Ok, is_some, unwrap_or, refl, ap, sym, ◌∙◌, arith}
use Rattle.std.specs.Prelude.{MatchOption}
use Rattle.std.proofs.lemmas.Bool.Decides.{nat_tests}
use Rattle.std.proofs.lemmas.List.{map-append, get_or-map, length-map, take_more}
use Rattle.std.proofs.lemmas.List.Elements.{All-filter, filter-append, filter_passes, All-nil, All-cons}
use Rattle.smt_terms.specs.declared.ids.NodeId.{NodeId}
use Rattle.smt_terms.specs.declared.ids.SortId.{SortId}
use Rattle.smt_terms.specs.declared.ids.SymId.{SymId}
use Rattle.smt_terms.specs.declared.op.Op.{Op}
use Rattle.smt_terms.specs.declared.op.Op.TheVariants.{Sym, Bits, Extract}
use Rattle.smt_terms.specs.Connectives.{equal}
use Rattle.smt_terms.specs.Constants.{bits_term}
use Rattle.smt_terms.specs.Rank.{shape, rank, sort_of, is_minus}
use Rattle.smt_terms.specs.Sorts.{Sort, bool, bit_vector, Symbol}
use Rattle.smt_terms.specs.Term.{op, symbol, const_array, Term, apply, quantified, none, ◌⨾◌, terms, over, constant}
use Rattle.smt_terms.proofs.Operands.{more_sorts}
use Rattle.smt_terms.proofs.Ranked.{rank-takes, takes-rank}
use Rattle.smt_terms.proofs.Sorted.{applied, sort_of-apply}
use Rattle.smt_terms.proofs.StoredTerms.{fine_term}
use Rattle.smt_values.specs.SortIds.{sort_numbered, sort_at, IsSortId, IsSortList, is_composed}
use Rattle.smt_values.proofs.SortIds.{placed, sort_placed}
use Rattle.term_table.specs.Formulas.{Formulas, no_tree, tree, tree_in, trees_at, kind, term_over, sort_or_bool, Makes, IsTable, IsNode, AreNodes}
use Rattle.term_table.proofs.Made.{makes_ranked}
use Rattle.term_subst.proofs.Growing.{tree-grows, node-grows, trees-grow}
use Rattle.term_walk.specs.Walking.{GrowsTo}
use Rattle.bit_blast.specs.Blasted.{is_bits, bit_of, bits_from, width_of, is_vector}
use Rattle.bit_blast.specs.Subterms.{is_vector_term, symbol_in, IsVector}
use Rattle.bit_blast.proofs.SubtermTerms.{symbol-alone}

-- ---- the widths of sorts

abbrev pub vector_width : Sort → Option ℕ
vector_width (bit_vector w) = Some w
vector_width _ = None

composed-none : (s : Sort) → is_composed s ≡ true → vector_width s ≡ None
composed-none (bit_vector w) e = absurd cc
composed-none _ e = refl

low-none : (ss : List Sort) (n : ℕ) → n < 2 → vector_width (sort_numbered ss n) ≡ None
low-none ss zero lt = refl
low-none ss (suc zero) lt = refl
low-none ss (suc (suc n)) lt = absurd (omega arith)

high-none : (ss : List Sort) → IsSortList ss → (n : ℕ) → n < 130 + length ss → 130 ≤ n → vector_width (sort_numbered ss n) ≡ None
high-none ss list n within past = by (placed n)
  where
    by : (n < 130) ⊎ ((k : ℕ) × (n ≡ 130 + k)) → vector_width (sort_numbered ss n) ≡ None
    by (inl lt) = absurd (omega arith)
    by (inr p) = let k : p.0 < length ss = omega arith in ap vector_width (ap (sort_numbered ss) p.1 ∙ sort_placed ss p.0) ∙ composed-none (get_or ss p.0 bool) (list.composed p.0 k)

some-vector : (ss : List Sort) (w : ℕ) → 1 ≤ w → w ≤ 128 → sort_numbered ss (w + 1) ≡ bit_vector w
some-vector ss w some most = grind (arith, nat_tests)

-- what the number of a sort says of its width
pub number-width : (ss : List Sort) → IsSortList ss → (s : SortId) → IsSortId ss s → (o : Option ℕ) → MatchOption o ((s.0 < 2) ⊎ (130 ≤ s.0)) (λ w. (s.0 ≡ w + 1) × (1 ≤ w) × (w ≤ 128)) → o ≡ vector_width (sort_at ss s)
number-width ss list s within None (inl low) = sym (low-none ss s.0 low)
number-width ss list s within None (inr high) = sym (high-none ss list s.0 within high)
number-width ss list s within (Some w) told = sym (ap vector_width (ap (sort_numbered ss) told.0 ∙ some-vector ss w told.1 told.2))

pub width-or-none : (s : Sort) → unwrap_or (vector_width s) 0 ≡ width_of s
width-or-none (bit_vector w) = refl
width-or-none _ = refl

pub is-vector : (f : Symbol) → is_vector f ≡ is_some (vector_width f.result)
is-vector f = by f.result
  where
    by : (s : Sort) → is_vector (record { name = f.name; args = f.args; result = s }) ≡ is_some (vector_width s)
    by (bit_vector w) = refl
    by _ = refl

pub vector-result : (f : Symbol) → is_vector f ≡ true → f.result ≡ bit_vector (width_of f.result)
vector-result f vector = by f.result (sym (is-vector f) ∙ vector)
  where
    by : (s : Sort) → is_some (vector_width s) ≡ true → s ≡ bit_vector (width_of s)
    by (bit_vector w) e = refl
    by _ e = absurd cc

-- ---- whether a node is a symbol of such a sort

pub symbol-vector : (u : Term) (g : Symbol) (us : List Term) (r : Sort) → u ≡ over (symbol g) us → sort_of u ≡ Some r → is_vector_term u ≡ is_some (vector_width r)
symbol-vector u g us r is has =
    let a = applied (symbol g) (terms us) r (ap sort_of (sym is) ∙ has) in
    let result : r ≡ g.result = (rank-takes (symbol g) a.sorts r a.rank).1 in
    ap is_vector_term is ∙ is-vector g ∙ ap (λ s. is_some (vector_width s)) (sym result)

pub other-vector : (t : Formulas) (p : Op) (us : List Term) → ((f : SymId) → p ≡ Sym f → ⊥) → is_vector_term (term_over t p us) ≡ false
unfolding kind
other-vector t (Sym f) us other = absurd (other f refl)
other-vector t _ us other = refl

-- those of the first nodes that are, and of one node more
module _ (t : Formulas) (ks vs new : List NodeId) (n : ℕ) (d : NodeId) (lt : n < length ks) (before : trees_at t vs ≡ filter is_vector_term (trees_at t (take n ks))) where
  one-more : filter is_vector_term (trees_at t (take (n + 1) ks)) ≡ filter is_vector_term (trees_at t (take n ks)) ++ filter is_vector_term (tree t (get_or ks n d) ∷ [])
  one-more =
      ap (λ js. filter is_vector_term (trees_at t js)) (take_more ks n d lt)
      ∙ ap (filter is_vector_term) (map-append (tree_in t.trees) (take n ks) (get_or ks n d ∷ []))
      ∙ filter-append is_vector_term (trees_at t (take n ks)) (tree t (get_or ks n d) ∷ [])

  pub vector-more : is_vector_term (tree t (get_or ks n d)) ≡ true → new ≡ vs ++ get_or ks n d ∷ [] → trees_at t new ≡ filter is_vector_term (trees_at t (take (n + 1) ks))
  vector-more vector put =
      ap (trees_at t) put
      ∙ map-append (tree_in t.trees) vs (get_or ks n d ∷ [])
      ∙ (λ i. before i ++ cond (sym vector i) (tree t (get_or ks n d) ∷ []) [])
      ∙ sym one-more

  pub other-more : is_vector_term (tree t (get_or ks n d)) ≡ false → new ≡ vs → trees_at t new ≡ filter is_vector_term (trees_at t (take (n + 1) ks))
  other-more other same =
      ap (trees_at t) same
      ∙ sym (append-nil (trees_at t vs))
      ∙ (λ i. before i ++ cond (sym other i) (tree t (get_or ks n d) ∷ []) [])
      ∙ sym one-more

-- ---- a node that is the constant of a bit vector

constant-term : (u : Term) → is_vector_term u ≡ true → is_bits u ≡ true → (f : Symbol) × (u ≡ constant f) × (is_vector f ≡ true)
constant-term (apply (symbol f) ts) vector fine = (f, ap (apply (symbol f)) (symbol-alone f ts fine).0, vector)
constant-term (apply (op o) ts) vector fine = absurd cc
constant-term (apply (const_array s) ts) vector fine = absurd cc
constant-term (quantified q xs body) vector fine = absurd cc

-- those of these nodes that are symbols of such sorts
pub are-vectors : (t : Formulas) (ks vs : List NodeId) → AreNodes t vs → trees_at t vs ≡ filter is_vector_term (trees_at t ks) → All (λ u. is_bits u ≡ true) (trees_at t ks) → All (IsVector t) vs
are-vectors t ks vs nodes are fine i d lt =
    let n = length-map vs (tree_in t.trees) in
    let at : tree t (get_or vs i d) ≡ get_or (filter is_vector_term (trees_at t ks)) i no_tree = sym (get_or-map (tree_in t.trees) vs i d no_tree lt) ∙ ap (λ us. get_or us i no_tree) are in
    let m = ap length are in
    let within : i < length (filter is_vector_term (trees_at t ks)) = omega (arith, n, m) in
    let vector = ap is_vector_term at ∙ filter_passes is_vector_term (trees_at t ks) i no_tree within in
    let bits = ap is_bits at ∙ All-filter is_vector_term (λ u. is_bits u ≡ true) (trees_at t ks) fine i no_tree within in
    let found = constant-term (tree t (get_or vs i d)) vector bits in
    record { node = nodes i d lt; symbol = found.0; term = found.1; vector = found.2 }

module _ (t : Formulas) (table : IsTable t) (k : NodeId) (v : IsVector t k) where
  -- its sort
  pub vector-sort : (s : Sort) → sort_of (tree t k) ≡ Some s → s ≡ (symbol_in (tree t k)).result
  vector-sort s has =
      let a = applied (symbol v.symbol) none s (ap sort_of (sym v.term) ∙ has) in
      (rank-takes (symbol v.symbol) a.sorts s a.rank).1 ∙ ap (λ u. (symbol_in u).result) (sym v.term)

  pub vector-sorted : sort_of (tree t k) ≡ Some (bit_vector (width_of (symbol_in (tree t k)).result))
  vector-sorted =
      let f = fine_term (tree t k) (table.sorted k.0 v.node) in
      let symbols : symbol_in (tree t k) ≡ v.symbol = ap symbol_in v.term in
      f.has ∙ ap Some (vector-sort f.sort f.has ∙ vector-result (symbol_in (tree t k)) (ap is_vector symbols ∙ v.vector))

  pub symbol-term : tree t k ≡ constant (symbol_in (tree t k))
  symbol-term = v.term ∙ ap (λ u. constant (symbol_in u)) (sym v.term)

-- ---- the node of a bit

-- a constant of one bit
pub one-ranked : rank (op (Bits 1 1)) [] ≡ Ok (bit_vector 1)
unfolding shape
one-ranked =
    let some : 0 < 1 = omega arith in
    let fits : 1 < 2 = omega arith in
    takes-rank (op (Bits 1 1)) [] (bit_vector 1) (refl, some, fits, refl) (omega arith)

pub one-makes : (t : Formulas) → Makes t (Bits 1 1) []
unfolding kind is_minus
one-makes t = makes_ranked t (Bits 1 1) [] (bit_vector 1) (All-nil (IsNode t)) tt refl (sym one-ranked)

-- a bit of a vector
part-ranked : (w i : ℕ) → i < w → rank (op (Extract i i)) (bit_vector w ∷ []) ≡ Ok (bit_vector 1)
unfolding shape
part-ranked w i less =
    let one : 1 ≡ i - i + 1 = omega arith in
    let itself : i ≤ i = omega arith in
    takes-rank (op (Extract i i)) (bit_vector w ∷ []) (bit_vector 1) (w, refl, itself, less, ap bit_vector one) (omega arith)

module _ (t : Formulas) (table : IsTable t) (k : NodeId) (v : IsVector t k) (i : ℕ) (less : i < width_of (symbol_in (tree t k)).result) where
  pub part-makes : Makes t (Extract i i) (k ∷ [])
  unfolding kind is_minus
  part-makes =
      makes_ranked t (Extract i i) (k ∷ []) (bit_vector 1) (All-cons (IsNode t) k [] v.node (All-nil (IsNode t))) tt refl
      (sym (ap (λ o. rank (op (Extract i i)) (sort_or_bool o ∷ [])) (vector-sorted t table k v) ∙ part-ranked (width_of (symbol_in (tree t k)).result) i less))

  pub part-sorted : sort_of (apply (op (Extract i i)) (tree t k ⨾ none)) ≡ Some (bit_vector 1)
  part-sorted =
      sort_of-apply (op (Extract i i)) (tree t k ⨾ none) (bit_vector (width_of (symbol_in (tree t k)).result) ∷ []) (bit_vector 1)
      (more_sorts (tree t k) none (bit_vector (width_of (symbol_in (tree t k)).result)) [] (vector-sorted t table k v) refl)
      (part-ranked (width_of (symbol_in (tree t k)).result) i less)

  -- with: the table with the bit, and that with the constant
  module _ (mid new : Formulas) (part one : NodeId) (grows : GrowsTo mid new) (node : IsNode mid part) (is_part : tree mid part ≡ term_over t (Extract i i) (trees_at t (k ∷ []))) (is_one : tree new one ≡ term_over mid (Bits 1 1) []) where
    part-is : tree new part ≡ apply (op (Extract i i)) (tree t k ⨾ none)
    unfolding kind
    part-is = tree-grows mid new grows part node ∙ is_part

    one-is : tree new one ≡ bits_term 1 1
    unfolding kind
    one-is = is_one

    pub bit-sorts : sort_of (tree new part) ≡ sort_of (tree new one)
    bit-sorts = ap sort_of part-is ∙ part-sorted ∙ sym (ap sort_of one-is ∙ sort_of-apply (op (Bits 1 1)) none [] (bit_vector 1) refl one-ranked)

    pub bit-term : equal (tree new part) (tree new one) ≡ bit_of (symbol_in (tree t k)) i
    bit-term = (λ j. equal (part-is j) (one-is j)) ∙ ap (λ u. equal (apply (op (Extract i i)) (u ⨾ none)) (bits_term 1 1)) (symbol-term t table k v)

-- ---- one bit more

pub bits-more : (f : Symbol) (i n : ℕ) → bits_from f i (suc n) ≡ bits_from f i n ++ bit_of f (i + n) ∷ []
bits-more f i zero = let same : i ≡ i + 0 = omega arith in ap (λ j. bit_of f j ∷ []) same
bits-more f i (suc n) =
    let same : suc i + n ≡ i + suc n = omega arith in
    ap (λ us. bit_of f i ∷ us) (bits-more f (suc i) n ∙ ap (λ j. bits_from f (suc i) n ++ bit_of f j ∷ []) same)

pub vector-grows : (old new : Formulas) (k : NodeId) → GrowsTo old new → IsVector old k → IsVector new k
vector-grows old new k grows v = record { node = node-grows old new grows k v.node; symbol = v.symbol; term = tree-grows old new grows k v.node ∙ v.term; vector = v.vector }

-- old: the table at first; mid: that with the bits before; new: that with one bit more
module _ (old mid new : Formulas) (k : NodeId) (first : GrowsTo old mid) (then : GrowsTo mid new) (node : IsNode old k) where
  pub bit-pushed : (us : List Term) (ks more : List NodeId) (bit : NodeId) (i : ℕ) → AreNodes mid ks → more ≡ ks ++ bit ∷ [] → tree new bit ≡ bit_of (symbol_in (tree mid k)) i → trees_at mid ks ≡ us ++ bits_from (symbol_in (tree old k)) 0 i
      → trees_at new more ≡ us ++ bits_from (symbol_in (tree old k)) 0 (i + 1)
  bit-pushed us ks more bit i nodes put is before =
      let f = symbol_in (tree old k) in
      let stays : tree mid k ≡ tree old k = tree-grows old mid first k node in
      let next : suc i ≡ i + 1 = omega arith in
      let same : 0 + i ≡ i = omega arith in
      ap (trees_at new) put
      ∙ map-append (tree_in new.trees) ks (bit ∷ [])
      ∙ (λ j. (trees-grow mid new then ks nodes ∙ before) j ++ (is ∙ ap (λ u. bit_of (symbol_in u) i) stays) j ∷ [])
      ∙ append_assoc us (bits_from f 0 i) (bit_of f i ∷ [])
      ∙ ap (λ vs. us ++ vs) (ap (λ j. bits_from f 0 i ++ bit_of f j ∷ []) (sym same) ∙ sym (bits-more f 0 i) ∙ ap (bits_from f 0) next)
