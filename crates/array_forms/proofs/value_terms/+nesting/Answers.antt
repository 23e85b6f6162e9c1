use Rattle.std.proofs.Common.{rules, ◌≡◌, ◌+◌, ◌<◌, ◌≤◌, length, Some, option_map, refl, ap, sym, ◌∙◌, subst, arith, true}
use Rattle.std.proofs.lemmas.Result.{IfOk-weaker}
use Rattle.smt_terms.specs.Rank.{sort_of}
use Rattle.smt_terms.specs.Sorts.{array}
use Rattle.smt_terms.specs.Values.{is_value}
use Rattle.smt_values.specs.Meaning.{meaning}
use Rattle.smt_values.specs.SortIds.{sort_at}
use Rattle.smt_values.specs.Tables.{as_value, count}
use Rattle.smt_values.specs.Valid.{HasPairs}
use Rattle.term_table.specs.Formulas.{kind, tree, IsNode}
use Rattle.term_walk.proofs.Visits.{table-grows}
use Rattle.array_forms.specs.ValueTerm.{stored, stores, value_term}
use Rattle.array_forms.proofs.ValueNodes.{scalar-sort, scalar-term, element-term, none-stores, filled-makes, filled-sort, grows-itself, grows-by, some-holds, pair-makes, pair-sort, same-parts, array-pairs, no-default, over-default, from, from-end, pair-valid, pairs-step}
use Rattle.array_forms.proofs.value_terms.+nesting.Goals as goal

-- ---- scalars and elements

pub term_of-returns-in_ok-id-in-Scalar-clause-sort : goal.term_of-returns-in_ok-id-in-Scalar-clause-sort
term_of-returns-in_ok-id-in-Scalar-clause-sort t c =
    let s = sort_at c.args.table.now.sorts c.args.sort in
    let sizes = c.requires.value.0 in
    c.in_ok-id-in-Scalar.ensures.sort
    ∙ ap (λ r. Some r) (scalar-sort c.in-Scalar.scalar s sizes (subst (λ v. is_value s sizes (meaning v) ≡ true) c.in-Scalar.is c.requires.value.1.valid))

pub term_of-returns-in_ok-id-in-Scalar-clause-term : goal.term_of-returns-in_ok-id-in-Scalar-clause-term
term_of-returns-in_ok-id-in-Scalar-clause-term t c =
    let s = sort_at c.args.table.now.sorts c.args.sort in
    let sizes = c.requires.value.0 in
    let same = scalar-sort c.in-Scalar.scalar s sizes (subst (λ v. is_value s sizes (meaning v) ≡ true) c.in-Scalar.is c.requires.value.1.valid) in
    let is = sym c.in-Scalar.is in
    sym c.in_ok-id-in-Scalar.ensures.term ∙ sym (scalar-term c.in-Scalar.scalar) ∙ (λ x. value_term (same x) (meaning (is x)))

pub term_of-returns-in-Element-clause-term : goal.term_of-returns-in-Element-clause-term
term_of-returns-in-Element-clause-term t c =
    let s = sort_at c.args.table.now.sorts c.args.sort in
    let sizes = c.requires.value.0 in
    sym (ap (λ v. value_term s (meaning v)) c.in-Element.is
    ∙ element-term s sizes c.in-Element.field-0 (subst (λ v. is_value s sizes (meaning v) ≡ true) c.in-Element.is c.requires.value.1.valid))

-- ---- arrays

pub term_of_array-returns-in_default-2-clause-term : goal.term_of_array-returns-in_default-2-clause-term
term_of_array-returns-in_default-2-clause-term t c =
    let old = c.args.table.now in
    let is = same-parts c.sorts.result.now old.sorts c.args.sort c.in-Some.index c.in-Some.element c.sorts.ensures c.in-Some.ensures.parts in
    no-default (sort_at old.sorts c.args.sort) (sort_at old.sorts c.in-Some.index) (sort_at old.sorts c.in-Some.element) is c.args.array.now.fallback c.args.array.now.pairs
    (sym (ap (value_term (sort_at old.sorts c.in-Some.element)) c.fallback.ensures.value) ∙ sym c.in_ok-fallback.ensures.term ∙ ap (option_map (tree c.term_of.new.table)) c.in_default-2.is)

pub term_of_array-intern-requires : goal.term_of_array-intern-requires
term_of_array-intern-requires t c =
    let old = c.args.table.now in
    let new = c.term_of.new.table in
    let e = sort_at old.sorts c.in-Some.element in
    let is = same-parts c.sorts.result.now old.sorts c.args.sort c.in-Some.index c.in-Some.element c.sorts.ensures c.in-Some.ensures.parts in
    filled-makes new c.args.sort (sort_at old.sorts c.in-Some.index) e (ap (λ ss. sort_at ss c.args.sort) c.term_of.ensures.sorts ∙ is) c.in-Some-2.fallback
    (some-holds (IsNode new) c.in_ok-fallback.field-0 c.in-Some-2.fallback c.in-Some-2.is c.in_ok-fallback.ensures.node)
    (some-holds (λ k. sort_of (tree new k) ≡ Some e) c.in_ok-fallback.field-0 c.in-Some-2.fallback c.in-Some-2.is c.in_ok-fallback.ensures.sort)
    (subst (λ ss. c.args.sort.0 < 130 + length ss) (sym c.term_of.ensures.sorts) c.requires.sort)

pub term_of_array-with_pairs-requires : goal.term_of_array-with_pairs-requires
unfolding kind
term_of_array-with_pairs-requires t c =
    let old = c.args.table.now in
    let new = c.term_of.new.table in
    let e = sort_at old.sorts c.in-Some.element in
    let is = same-parts c.sorts.result.now old.sorts c.args.sort c.in-Some.index c.in-Some.element c.sorts.ensures c.in-Some.ensures.parts in
    let sorts = c.intern.ensures.sorts ∙ c.term_of.ensures.sorts in
    let index : c.in-Some.index.0 < 130 + length old.sorts = omega (arith, c.requires.sort, c.in-Some.ensures.index) in
    let element : c.in-Some.element.0 < 130 + length old.sorts = omega (arith, c.requires.sort, c.in-Some.ensures.element) in
    let node = some-holds (IsNode new) c.in_ok-fallback.field-0 c.in-Some-2.fallback c.in-Some-2.is c.in_ok-fallback.ensures.node in
    let has = some-holds (λ k. sort_of (tree new k) ≡ Some e) c.in_ok-fallback.field-0 c.in-Some-2.fallback c.in-Some-2.is c.in_ok-fallback.ensures.sort in (
      search rules,
      (
        subst (λ ss. c.in-Some.index.0 < 130 + length ss) (sym sorts) index,
        (
          subst (λ ss. c.in-Some.element.0 < 130 + length ss) (sym sorts) element,
          (
            c.in_ok-filled.ensures.node,
            (
              ap sort_of c.in_ok-filled.ensures.term
                  ∙ filled-sort new c.args.sort (sort_at old.sorts c.in-Some.index) e (ap (λ ss. sort_at ss c.args.sort) c.term_of.ensures.sorts ∙ is) c.in-Some-2.fallback node has
                  ∙ ap (λ ss. Some (sort_at ss c.args.sort)) c.term_of.ensures.sorts ∙ ap (λ r. Some r) is ∙ ap (λ ss. Some (array (sort_at ss c.in-Some.index) (sort_at ss c.in-Some.element))) (sym sorts),
              (
                c.requires.array.0,
                subst (λ ss. HasPairs (sort_at ss c.in-Some.index) (sort_at ss c.in-Some.element) c.requires.array.0 c.args.array.now.pairs) (sym sorts)
                    (array-pairs (sort_at old.sorts c.args.sort) (sort_at old.sorts c.in-Some.index) e c.requires.array.0 c.args.array.now is c.requires.array.1),
              ),
            ),
          ),
        ),
      ),
    )

pub term_of_array-returns-clause-term : goal.term_of_array-returns-clause-term
unfolding kind
term_of_array-returns-clause-term t c =
    let old = c.args.table.now in
    let new = c.term_of.new.table in
    let i = sort_at old.sorts c.in-Some.index in
    let e = sort_at old.sorts c.in-Some.element in
    let ps = c.args.array.now.pairs in
    let is = same-parts c.sorts.result.now old.sorts c.args.sort c.in-Some.index c.in-Some.element c.sorts.ensures c.in-Some.ensures.parts in
    let default = sym (ap (value_term e) c.fallback.ensures.value) ∙ sym c.in_ok-fallback.ensures.term ∙ ap (option_map (tree new)) c.in-Some-2.is in
    let whole =
    ap (λ ss. stores (value_term (sort_at ss c.in-Some.index)) (value_term (sort_at ss c.in-Some.element)) (Some (tree c.intern.new.self c.in_ok-filled.filled)) ps) (c.intern.ensures.sorts ∙ c.term_of.ensures.sorts)
    ∙ ap (λ u. stores (value_term i) (value_term e) (Some u) ps) c.in_ok-filled.ensures.term
    ∙ over-default (sort_at new.sorts c.args.sort) i e (ap (λ ss. sort_at ss c.args.sort) c.term_of.ensures.sorts ∙ is) c.args.array.now.fallback ps (tree new c.in-Some-2.fallback) default
    ∙ ap (λ ss. value_term (sort_at ss c.args.sort) (as_value c.args.array.now)) c.term_of.ensures.sorts in
    IfOk-weaker c.with_pairs.result _ _ (λ found h. h ∙ whole) c.with_pairs.ensures.term

pub term_of_array-returns-clause-grows : goal.term_of_array-returns-clause-grows
term_of_array-returns-clause-grows t c =
    let made = grows-by c.term_of.new.table c.intern.new.self c.intern.ensures.grows c.intern.ensures.symbols c.intern.ensures.sorts in
    table-grows c.args.table.now c.term_of.new.table c.with_pairs.new.table c.term_of.ensures.grows
    (table-grows c.term_of.new.table c.intern.new.self c.with_pairs.new.table made c.with_pairs.ensures.grows)

-- ---- one pair

pub with_pair-intern-requires : goal.with_pair-intern-requires
with_pair-intern-requires t c =
    pair-makes c.args.table.now c.term_of.new.table c.term_of-2.new.table c.args.before c.in-Some.key c.in-Some-2.value c.args.index c.args.element c.in_ok-key.field-0 c.in_ok-value.field-0
    c.term_of.ensures.grows c.term_of-2.ensures.grows c.term_of.ensures.sorts c.requires.node c.requires.sort
    c.in-Some.is c.in_ok-key.ensures.node c.in_ok-key.ensures.sort c.in-Some-2.is c.in_ok-value.ensures.node c.in_ok-value.ensures.sort

pub with_pair-returns-clause-sort : goal.with_pair-returns-clause-sort
with_pair-returns-clause-sort t c =
    ap sort_of c.in_ok-id.ensures.term
    ∙ pair-sort c.args.table.now c.term_of.new.table c.term_of-2.new.table c.args.before c.in-Some.key c.in-Some-2.value c.args.index c.args.element c.in_ok-key.field-0 c.in_ok-value.field-0
    c.term_of.ensures.grows c.term_of-2.ensures.grows c.term_of.ensures.sorts c.requires.node c.requires.sort
    c.in-Some.is c.in_ok-key.ensures.node c.in_ok-key.ensures.sort c.in-Some-2.is c.in_ok-value.ensures.node c.in_ok-value.ensures.sort

pub with_pair-returns-clause-grows : goal.with_pair-returns-clause-grows
with_pair-returns-clause-grows t c =
    let made = grows-by c.term_of-2.new.table c.intern.new.self c.intern.ensures.grows c.intern.ensures.symbols c.intern.ensures.sorts in
    table-grows c.args.table.now c.term_of.new.table c.intern.new.self c.term_of.ensures.grows
    (table-grows c.term_of.new.table c.term_of-2.new.table c.intern.new.self c.term_of-2.ensures.grows made)

-- ---- all pairs

pub with_pairs-with_pair-requires : goal.with_pairs-with_pair-requires
with_pairs-with_pair-requires t c =
    let inv = c.loop-i.invariant in
    let old = c.args.table.now in
    let sizes = c.requires.pairs.0 in
    let valid = pair-valid (sort_at old.sorts c.args.index) (sort_at old.sorts c.args.element) sizes c.args.array.now.pairs c.loop-i.i (meaning c.pair.result.0.now) (meaning c.pair.result.1.now) c.requires.pairs.1 c.pair.ensures.pair in (
      search rules,
      (
        subst (λ ss. c.args.index.0 < 130 + length ss) (sym inv.sorts) c.requires.index,
        (
          subst (λ ss. c.args.element.0 < 130 + length ss) (sym inv.sorts) c.requires.element,
          (
            inv.node,
            (
              inv.sort ∙ ap (λ ss. Some (array (sort_at ss c.args.index) (sort_at ss c.args.element))) (sym inv.sorts),
              (
                (sizes, record { held = c.pair.ensures.key; valid = ap (λ ss. is_value (sort_at ss c.args.index) sizes (meaning c.pair.result.0.now)) inv.sorts ∙ valid.0 }),
                (sizes, record { held = c.pair.ensures.value; valid = ap (λ ss. is_value (sort_at ss c.args.element) sizes (meaning c.pair.result.1.now)) inv.sorts ∙ valid.1 }),
              ),
            ),
          ),
        ),
      ),
    )

pub with_pairs-loop-i-init : goal.with_pairs-loop-i-init
with_pairs-loop-i-init t c =
    let old = c.args.table.now in
    record {
      grows = grows-itself old;
      symbols = refl;
      sorts = refl;
      node = c.requires.node;
      sort = c.requires.sort;
      left = refl;
    }

pub with_pairs-loop-i-preserved : goal.with_pairs-loop-i-preserved
with_pairs-loop-i-preserved t c =
    let inv = c.loop-i.invariant in
    let old = c.args.table.now in
    let new = c.with_pair.new.table in
    let f = value_term (sort_at old.sorts c.args.index) in
    let g = value_term (sort_at old.sorts c.args.element) in
    let a = tree c.loop-i.table c.loop-i.stored in
    let k = meaning c.pair.result.0.now in
    let v = meaning c.pair.result.1.now in
    let now = c.in_ok-next.ensures.term ∙ ap (λ ss. stored (Some a) (value_term (sort_at ss c.args.index) k) (value_term (sort_at ss c.args.element) v)) inv.sorts in
    let step =
    pairs-step f g a c.args.array.now.pairs c.loop-i.i k v (option_map (tree new) c.in_ok-next.field-0) c.pair.ensures.pair now
    ∙ ap (λ o. stores f g (option_map (tree new) o) (from (c.loop-i.i + 1) c.args.array.now.pairs)) c.in-Some.is in
    record {
      grows = table-grows old c.loop-i.table new inv.grows c.with_pair.ensures.grows;
      symbols = c.with_pair.ensures.symbols ∙ inv.symbols;
      sorts = c.with_pair.ensures.sorts ∙ inv.sorts;
      node = some-holds (IsNode new) c.in_ok-next.field-0 c.in-Some.next c.in-Some.is c.in_ok-next.ensures.node;
      sort =
          some-holds (λ n. sort_of (tree new n) ≡ Some (array (sort_at c.loop-i.table.sorts c.args.index) (sort_at c.loop-i.table.sorts c.args.element))) c.in_ok-next.field-0 c.in-Some.next c.in-Some.is c.in_ok-next.ensures.sort
          ∙ ap (λ ss. Some (array (sort_at ss c.args.index) (sort_at ss c.args.element))) inv.sorts;
      left = sym step ∙ inv.left;
    }

pub with_pairs-returns-in_err-next-clause-grows : goal.with_pairs-returns-in_err-next-clause-grows
with_pairs-returns-in_err-next-clause-grows t c = table-grows c.args.table.now c.loop-i.table c.with_pair.new.table c.loop-i.invariant.grows c.with_pair.ensures.grows

pub with_pairs-returns-in_default-clause-term : goal.with_pairs-returns-in_default-clause-term
with_pairs-returns-in_default-clause-term t c =
    let inv = c.loop-i.invariant in
    let old = c.args.table.now in
    let new = c.with_pair.new.table in
    let f = value_term (sort_at old.sorts c.args.index) in
    let g = value_term (sort_at old.sorts c.args.element) in
    let a = tree c.loop-i.table c.loop-i.stored in
    let k = meaning c.pair.result.0.now in
    let v = meaning c.pair.result.1.now in
    let now = c.in_ok-next.ensures.term ∙ ap (λ ss. stored (Some a) (value_term (sort_at ss c.args.index) k) (value_term (sort_at ss c.args.element) v)) inv.sorts in
    let step =
    pairs-step f g a c.args.array.now.pairs c.loop-i.i k v (option_map (tree new) c.in_ok-next.field-0) c.pair.ensures.pair now
    ∙ ap (λ o. stores f g (option_map (tree new) o) (from (c.loop-i.i + 1) c.args.array.now.pairs)) c.in_default.is
    ∙ none-stores f g (from (c.loop-i.i + 1) c.args.array.now.pairs) in
    sym (sym inv.left ∙ step)

pub with_pairs-returns-in_default-clause-grows : goal.with_pairs-returns-in_default-clause-grows
with_pairs-returns-in_default-clause-grows t c = table-grows c.args.table.now c.loop-i.table c.with_pair.new.table c.loop-i.invariant.grows c.with_pair.ensures.grows

pub with_pairs-returns-clause-term : goal.with_pairs-returns-clause-term
with_pairs-returns-clause-term t c =
    let inv = c.loop-i.invariant in
    let old = c.args.table.now in
    let none_left = c.loop-i-test.false in
    let most = c.len-i-end.ensures in
    let end : count c.args.array.now.pairs ≤ c.loop-i.i = omega arith in
    sym (ap (stores (value_term (sort_at old.sorts c.args.index)) (value_term (sort_at old.sorts c.args.element)) (Some (tree c.loop-i.table c.loop-i.stored))) (from-end c.args.array.now.pairs c.loop-i.i end)) ∙ inv.left

pub with_pairs-returns-in_err-next-clause-symbols : goal.with_pairs-returns-in_err-next-clause-symbols
with_pairs-returns-in_err-next-clause-symbols t c = c.with_pair.ensures.symbols ∙ c.loop-i.invariant.symbols

pub with_pairs-returns-in_err-next-clause-sorts : goal.with_pairs-returns-in_err-next-clause-sorts
with_pairs-returns-in_err-next-clause-sorts t c = c.with_pair.ensures.sorts ∙ c.loop-i.invariant.sorts

pub with_pairs-returns-in_default-clause-symbols : goal.with_pairs-returns-in_default-clause-symbols
with_pairs-returns-in_default-clause-symbols t c = c.with_pair.ensures.symbols ∙ c.loop-i.invariant.symbols

pub with_pairs-returns-in_default-clause-sorts : goal.with_pairs-returns-in_default-clause-sorts
with_pairs-returns-in_default-clause-sorts t c = c.with_pair.ensures.sorts ∙ c.loop-i.invariant.sorts

pub with_pairs-returns-clause-node : goal.with_pairs-returns-clause-node
with_pairs-returns-clause-node t c = c.loop-i.invariant.node

pub with_pairs-returns-clause-sort : goal.with_pairs-returns-clause-sort
with_pairs-returns-clause-sort t c = c.loop-i.invariant.sort

pub with_pairs-returns-clause-grows : goal.with_pairs-returns-clause-grows
with_pairs-returns-clause-grows t c = c.loop-i.invariant.grows

pub with_pairs-returns-clause-symbols : goal.with_pairs-returns-clause-symbols
with_pairs-returns-clause-symbols t c = c.loop-i.invariant.symbols

pub with_pairs-returns-clause-sorts : goal.with_pairs-returns-clause-sorts
with_pairs-returns-clause-sorts t c = c.loop-i.invariant.sorts
