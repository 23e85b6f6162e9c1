-- What reading over writing makes of a head over the results of its operands.
use Rattle.std.proofs.Common.{◌≡◌, true, false, cond, List, [], ◌∷◌, ◌++◌, map, length, get_or, Option, Some, None, option_copied, is_some, Bor, refl, ap, sym, ◌∙◌, subst, inl, inr}
use Rattle.std.proofs.lemmas.List.{map-append}
use Rattle.smt_terms.specs.declared.ids.NodeId.{NodeId}
use Rattle.smt_terms.specs.declared.op.Op.{Op}
use Rattle.smt_terms.specs.declared.op.Op.TheVariants.{Neg, Select, Whole}
use Rattle.smt_terms.specs.ArrayTerms.{selected}
use Rattle.smt_terms.specs.Equal.{op_eq}
use Rattle.smt_terms.specs.Made.{minus, made}
use Rattle.smt_terms.specs.Rank.{shape, rank, sort_over, sort_of, sorts_of, is_minus, is_whole, is_minus_of, IsWellSorted}
use Rattle.smt_terms.specs.Sorts.{bool, int}
use Rattle.smt_terms.specs.Term.{universal, existential, Head, op, symbol, const_array, Term, apply, quantified, Terms, none, ◌⨾◌, list, terms, over}
use Rattle.smt_terms.proofs.Equal.{Decides-op_eq}
use Rattle.smt_terms.proofs.Keeping.{KeepsAll, keeps_apply, not_minus}
use Rattle.smt_terms.proofs.Operands.{fewer_sorts}
use Rattle.smt_terms.proofs.Ranked.{rank-takes}
use Rattle.smt_terms.proofs.Sorted.{applied, quantified_sort}
use Rattle.smt_terms.proofs.SortsOfTerms.{regular}
use Rattle.smt_terms.proofs.StoredTerms.{fine_term}
use Rattle.smt_terms.proofs.Tests.{true_or_false, not_true}
use Rattle.smt_values.specs.SortIds.{sort_at}
use Rattle.term_table.specs.Formulas.{Formulas, tree, tree_in, trees_at, symbol_at, operands, sorts_in, Kind, theory, applied as applied_kind, filled, binder, kind, kind_term, kind_rank, rank_over, term_over, IsOpOf, Makes, AreNodes}
use Rattle.term_table.proofs.Made.{makes_ranked}
use Rattle.term_table.proofs.Operators.{kind-theory}
use Rattle.normal_forms.specs.Shape.{is_universally_quantified, quantifier_seen, variables_of, body_in}
use Rattle.term_walk.specs.Binders.{is_quantified}
use Rattle.array_forms.specs.Reads.{read, made_by_reading, reads, reads_all}
use Rattle.array_forms.proofs.OverWrites.{counted, ranks, one-kid, two-kids, kids-count, select-count}
use Rattle.array_forms.proofs.ReadsKeep.{operands_keep}

-- ---- a term by its head

list-all : (ts : Terms) → reads_all ts ≡ terms (map reads (list ts))
list-all none = refl
list-all (t ⨾ ts) = ap (λ us. reads t ⨾ us) (list-all ts)

-- ---- heads but `select`

other-head : (h : Head) (ts : Terms) → (h ≡ op Select → ⊥) → made_by_reading h ts ≡ made h ts
other-head (op o) (a ⨾ j ⨾ none) apart = elim (true_or_false (op_eq o Select)) [
  | inl select ↦ absurd (apart (ap (λ p. op p) ((Decides-op_eq o Select).0 select)))
  | inr other ↦ ap (λ c. cond c (read a j) (apply (op o) (a ⨾ j ⨾ none))) other ∙ sym (made-two o a j)
]
  where
    made-two : (p : Op) (b k : Term) → made (op p) (b ⨾ k ⨾ none) ≡ apply (op p) (b ⨾ k ⨾ none)
    made-two Neg b k = refl
    made-two p b k = refl
other-head h ts apart = refl

other-made : (h : Head) (ts : Terms) → (h ≡ op Neg → ⊥) → made h ts ≡ apply h ts
other-made (op Neg) ts apart = absurd (apart refl)
other-made h ts apart = refl

-- where no minus stands over a constant, the head is made as it stands
itself-made : (h : Head) (ts : Terms) → is_minus_of h ts ≡ false → made h ts ≡ apply h ts
unfolding is_minus_of is_minus is_whole
itself-made (op Neg) (apply (op (Whole n)) none ⨾ none) plain = absurd cc
itself-made (op Neg) (apply (op (Whole n)) (t ⨾ ts) ⨾ none) plain = refl
itself-made (op Neg) (apply (op c) none ⨾ none) plain = refl
itself-made (op Neg) (apply (op c) (t ⨾ ts) ⨾ none) plain = refl
itself-made (op Neg) (apply (symbol f) ts ⨾ none) plain = refl
itself-made (op Neg) (apply (const_array s) ts ⨾ none) plain = refl
itself-made (op Neg) (quantified q xs t ⨾ none) plain = refl
itself-made (op Neg) none plain = refl
itself-made (op Neg) (t ⨾ u ⨾ us) plain = refl
itself-made h ts plain = refl

-- ---- a head over its results

terms-list : (ts : Terms) → terms (list ts) ≡ ts
terms-list none = refl
terms-list (t ⨾ ts) = ap (λ us. t ⨾ us) (terms-list ts)

module _ (h : Head) (ts : Terms) (us : List Term) (fine : IsWellSorted (apply h ts)) (are : us ≡ map reads (list ts)) where
  kept : KeepsAll ts (terms us)
  kept =
      let f = fine_term (apply h ts) fine in
      let parts = applied h ts f.sort f.has in
      subst (λ vs. KeepsAll ts vs) (list-all ts ∙ ap terms (sym are)) (operands_keep ts parts.sorts (regular h ts f.rules).operands parts.operands)

  over-reads : reads (apply h ts) ≡ made_by_reading h (terms us)
  over-reads = ap (made_by_reading h) (list-all ts ∙ ap terms (sym are))

  over-sort : sort_of (over h us) ≡ sort_of (apply h ts)
  over-sort = ap (sort_over h) kept.sorts

-- ---- the operator of a node

record IsOver (t : Formulas) (p : Op) (h : Head) : Type 0 where
  term : (us : List Term) → term_over t p us ≡ over h us
  ranked : (us : List Term) → rank_over t p us ≡ rank h (sorts_in us)
  operator : (q : Op) → h ≡ op q → p ≡ q

head-of : (t : Formulas) (p : Op) (h : Head) (ts : Terms) → apply h ts ≡ term_over t p (list ts) → IsOver t p h
head-of t p h ts seen = by (kind p) refl
  where
    by : (k : Kind) → kind p ≡ k → IsOver t p h
    by (theory q) e =
        let whole : apply h ts ≡ over (op q) (list ts) = seen ∙ ap (λ k. kind_term t.symbols t.sorts k (list ts)) e in
        let same : h ≡ op q = cc in
        record {
          term = λ us. ap (λ k. kind_term t.symbols t.sorts k us) e ∙ ap (λ g. over g us) (sym same);
          ranked = λ us. ap (λ k. kind_rank t.symbols t.sorts k us) e ∙ ap (λ g. rank g (sorts_in us)) (sym same);
          operator = λ r other. (let both : op q ≡ op r = sym same ∙ other in let one : q ≡ r = cc in kind-theory p q e ∙ one);
        }
    by (applied_kind f) e =
        let whole : apply h ts ≡ over (symbol (symbol_at t f)) (list ts) = seen ∙ ap (λ k. kind_term t.symbols t.sorts k (list ts)) e in
        let same : h ≡ symbol (symbol_at t f) = cc in
        record {
          term = λ us. ap (λ k. kind_term t.symbols t.sorts k us) e ∙ ap (λ g. over g us) (sym same);
          ranked = λ us. ap (λ k. kind_rank t.symbols t.sorts k us) e ∙ ap (λ g. rank g (sorts_in us)) (sym same);
          operator = λ r other. absurd (let both : symbol (symbol_at t f) ≡ op r = sym same ∙ other in cc);
        }
    by (filled s) e =
        let whole : apply h ts ≡ over (const_array (sort_at t.sorts s)) (list ts) = seen ∙ ap (λ k. kind_term t.symbols t.sorts k (list ts)) e in
        let same : h ≡ const_array (sort_at t.sorts s) = cc in
        record {
          term = λ us. ap (λ k. kind_term t.symbols t.sorts k us) e ∙ ap (λ g. over g us) (sym same);
          ranked = λ us. ap (λ k. kind_rank t.symbols t.sorts k us) e ∙ ap (λ g. rank g (sorts_in us)) (sym same);
          operator = λ r other. absurd (let both : const_array (sort_at t.sorts s) ≡ op r = sym same ∙ other in cc);
        }
    by (binder q) e = let whole = seen ∙ ap (λ k. kind_term t.symbols t.sorts k (list ts)) e in absurd cc

-- ---- a node that is its own result

pub own-result : (t : Formulas) (p : Op) (u : Term) → IsWellSorted u → is_quantified u ≡ false → u ≡ term_over t p (operands u) → (p ≡ Select → ⊥) → map reads (operands u) ≡ operands u → u ≡ reads u
own-result t p (quantified q xs b) fine plain seen other same = absurd cc
own-result t p (apply h ts) fine plain seen other same =
    let o : IsOver t p h = head-of t p h ts seen in
    let f = fine_term (apply h ts) fine in
    sym (ap (made_by_reading h) (list-all ts ∙ ap terms same ∙ terms-list ts)
    ∙ other-head h ts (λ e. other (o.operator Select e))
    ∙ itself-made h ts (not_true (is_minus_of h ts) (regular h ts f.rules).no_minus))

-- ---- any operator but `select` and the minus

not-neg : (p : Op) → (p ≡ Neg → ⊥) → is_minus p ≡ false
unfolding is_minus
not-neg Neg apart = absurd (apart refl)
not-neg _ apart = refl

pub record IsMade (t : Formulas) (p : Op) (u : Term) (ks : List NodeId) : Type 0 where
  pub makes : Makes t p ks
  pub term : term_over t p (trees_at t ks) ≡ reads u

pub other-result : (t : Formulas) (p : Op) (u : Term) (ks : List NodeId) → IsWellSorted u → is_quantified u ≡ false → u ≡ term_over t p (operands u) → IsOpOf t p → (p ≡ Select → ⊥) → (p ≡ Neg → ⊥) → AreNodes t ks → trees_at t ks ≡ map reads (operands u) → IsMade t p u ks
other-result t p (quantified q xs b) ks fine plain seen numbers other positive nodes are = absurd cc
other-result t p (apply h ts) ks fine plain seen numbers other positive nodes are =
    let us = trees_at t ks in
    let o : IsOver t p h = head-of t p h ts seen in
    let f = fine_term (apply h ts) fine in
    record {
      makes = makes_ranked t p ks f.sort nodes numbers (not-neg p positive) (sym (o.ranked us ∙ ranks h us f.sort (over-sort h ts us fine are ∙ f.has)));
      term = o.term us ∙ sym (over-reads h ts us fine are ∙ other-head h (terms us) (λ e. other (o.operator Select e)) ∙ other-made h (terms us) (λ e. positive (o.operator Neg e)));
    }

-- ---- a minus

pub record IsMinus (t : Formulas) (u : Term) (ks : List NodeId) : Type 0 where
  pub number : length ks ≡ 1
  pub whole : (d : NodeId) → sort_of (tree t (get_or ks 0 d)) ≡ Some int
  pub term : (d : NodeId) → minus (tree t (get_or ks 0 d)) ≡ reads u

minus-over : (t : Formulas) (ts : Terms) (ks : List NodeId) → IsWellSorted (apply (op Neg) ts) → trees_at t ks ≡ map reads (list ts) → IsMinus t (apply (op Neg) ts) ks
unfolding shape
minus-over t ts ks fine are =
    let us = trees_at t ks in
    let f = fine_term (apply (op Neg) ts) fine in
    let parts = applied (op Neg) (terms us) f.sort (over-sort (op Neg) ts us fine are ∙ f.has) in
    let sorts : sorts_of (terms us) ≡ Some (int ∷ []) = parts.operands ∙ ap (λ ss. Some ss) (rank-takes (op Neg) parts.sorts f.sort parts.rank).0 in
    let n = counted us (int ∷ []) sorts in
    record {
      number = kids-count t us ks refl ∙ n;
      whole = λ d. (fewer_sorts (tree t (get_or ks 0 d)) none int [] (ap (λ vs. sorts_of (terms vs)) (sym (one-kid t us ks d refl n)) ∙ sorts)).0;
      term = λ d. ap (λ vs. made_by_reading (op Neg) (terms vs)) (sym (one-kid t us ks d refl n)) ∙ sym (over-reads (op Neg) ts us fine are);
    }

neg-term : (t : Formulas) (us : List Term) → term_over t Neg us ≡ over (op Neg) us
unfolding kind
neg-term t us = refl

pub minus-result : (t : Formulas) (u : Term) (ks : List NodeId) → IsWellSorted u → is_quantified u ≡ false → u ≡ term_over t Neg (operands u) → trees_at t ks ≡ map reads (operands u) → IsMinus t u ks
minus-result t (quantified q xs b) ks fine plain seen are = absurd cc
minus-result t (apply h ts) ks fine plain seen are =
    let whole : apply h ts ≡ over (op Neg) (list ts) = seen ∙ neg-term t (list ts) in
    let same : h ≡ op Neg = cc in
    subst (λ g. IsWellSorted (apply g ts) → IsMinus t (apply g ts) ks) (sym same) (λ f. minus-over t ts ks f are) fine

-- ---- a `select`

pub record IsSelected (t : Formulas) (u : Term) (ks : List NodeId) : Type 0 where
  pub number : length ks ≡ 2
  pub sorted : (d : NodeId) → IsWellSorted (selected (tree t (get_or ks 0 d)) (tree t (get_or ks 1 d)))
  pub term : (d : NodeId) → read (tree t (get_or ks 0 d)) (tree t (get_or ks 1 d)) ≡ reads u

select-read : (a j : Term) → made_by_reading (op Select) (a ⨾ j ⨾ none) ≡ read a j
select-read a j = ap (λ c. cond c (read a j) (apply (op Select) (a ⨾ j ⨾ none))) ((Decides-op_eq Select Select).1 refl)

select-plain : is_minus Select ≡ false
unfolding is_minus
select-plain = refl

select-over : (t : Formulas) (ts : Terms) (ks : List NodeId) → IsWellSorted (apply (op Select) ts) → trees_at t ks ≡ map reads (list ts) → IsSelected t (apply (op Select) ts) ks
select-over t ts ks fine are =
    let us = trees_at t ks in
    let f = fine_term (apply (op Select) ts) fine in
    let n = select-count us f.sort (over-sort (op Select) ts us fine are ∙ f.has) in
    let keeps = keeps_apply (op Select) ts (terms us) fine (kept (op Select) ts us fine are) (not_minus Select (terms us) select-plain) in
    record {
      number = kids-count t us ks refl ∙ n;
      sorted = λ d. subst (λ vs. IsWellSorted (over (op Select) vs)) (two-kids t us ks d refl n) keeps.sorted;
      term = λ d. sym (over-reads (op Select) ts us fine are ∙ ap (λ vs. made_by_reading (op Select) (terms vs)) (two-kids t us ks d refl n) ∙ select-read (tree t (get_or ks 0 d)) (tree t (get_or ks 1 d)));
    }

select-term : (t : Formulas) (us : List Term) → term_over t Select us ≡ over (op Select) us
unfolding kind
select-term t us = refl

pub select-result : (t : Formulas) (u : Term) (ks : List NodeId) → IsWellSorted u → is_quantified u ≡ false → u ≡ term_over t Select (operands u) → trees_at t ks ≡ map reads (operands u) → IsSelected t u ks
select-result t (quantified q xs b) ks fine plain seen are = absurd cc
select-result t (apply h ts) ks fine plain seen are =
    let whole : apply h ts ≡ over (op Select) (list ts) = seen ∙ select-term t (list ts) in
    let same : h ≡ op Select = cc in
    subst (λ g. IsWellSorted (apply g ts) → IsSelected t (apply g ts) ks) (sym same) (λ f. select-over t ts ks f are) fine

-- ---- a quantified term

pub quantified-bool : (u : Term) → is_quantified u ≡ true → IsWellSorted u → (sort_of u ≡ Some bool) × (sort_of (body_in u) ≡ Some bool)
quantified-bool (apply h ts) quant fine = absurd cc
quantified-bool (quantified q xs b) quant fine =
    let f = fine_term (quantified q xs b) fine in
    let parts = quantified_sort q xs b f.sort f.has in
    (f.has ∙ ap (λ s. Some s) parts.sort, parts.body)

pub quantified-reads : (u : Term) → is_quantified u ≡ true → reads u ≡ quantified (quantifier_seen (is_universally_quantified u)) (variables_of u) (reads (body_in u))
quantified-reads (quantified universal xs b) quant = refl
quantified-reads (quantified existential xs b) quant = refl
quantified-reads (apply h ts) quant = absurd cc

-- ---- results that are kept

pub copied-some : {T : Type 0} (o : Option (Bor T)) → is_some (option_copied o) ≡ true → is_some o ≡ true
copied-some (Some r) h = refl
copied-some None h = h

pub trees-push : (t : Formulas) (ks : List NodeId) (k : NodeId) → trees_at t (ks ++ k ∷ []) ≡ trees_at t ks ++ tree t k ∷ []
trees-push t ks k = map-append (tree_in t.trees) ks (k ∷ [])
