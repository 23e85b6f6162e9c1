use Rattle.std.proofs.Common.{rules, ◌≡◌, ◌∙◌, sym, ap, subst, arith, true, ◌-◌}
use Rattle.std.specs.Prelude.{is_some}
use Rattle.std.proofs.lemmas.Option.{IfSome_then}
use Rattle.smt_values.specs.Places.{place_from}
use Rattle.smt_terms.specs.Values.{is_key, value_at}
use Rattle.smt_terms.specs.Values as plain
use Rattle.smt_terms.specs.Values.{is_value}
use Rattle.smt_terms.proofs.Same.{is_value-select}
use Rattle.smt_values.specs.Meaning.{meaning}
use Rattle.smt_values.specs.SizeTable.{sizes_by}
use Rattle.smt_values.specs.SortIds.{sort_at}
use Rattle.smt_values.specs.Tables.{as_value, count, pair_at}
use Rattle.smt_values.proofs.FlatKeys.{key_place, keys-count}
use Rattle.smt_values.proofs.Pairs.{held_at, count-pairs_of}
use Rattle.smt_values.specs.Valid.{HasKeys, agree_at, cover_at, has_number}
use Rattle.smt_values.proofs.Sameness.{same_arrays, defaults_same, defaults_differ, table_keys, table_fallback, key_valid, is_key-place, value_at-nowhere, value_at-place, not_covered, covered, uncovered}
use Rattle.smt_values.proofs.Alike.{scalar_values, element_values, no_other_scalar, no_other_element, no_other_array}
use Rattle.smt_values.proofs.array.+sameness.Goals as goal

pub agree-select-left-requires : goal.agree-select-left-requires
agree-select-left-requires t c = (search rules, (c.requires.index, (record { held = (held_at c.args.pairs.now c.loop-pair.pair-index c.pair-item.result (omega arith) c.pair-item.is c.requires.held).0; valid = key_valid (sort_at c.args.sorts.now c.args.index) (sizes_by c.args.sorts.now c.args.sizes.now) c.args.pairs.now c.loop-pair.pair-index c.pair-item.result c.requires.keys (omega arith) c.pair-item.is }, table_keys (sort_at c.args.sorts.now c.args.index) (sort_at c.args.sorts.now c.args.element) (sizes_by c.args.sorts.now c.args.sizes.now) c.args.a.now c.requires.a)))

pub agree-select-right-requires : goal.agree-select-right-requires
agree-select-right-requires t c = (search rules, (c.requires.index, (record { held = (held_at c.args.pairs.now c.loop-pair.pair-index c.pair-item.result (omega arith) c.pair-item.is c.requires.held).0; valid = key_valid (sort_at c.args.sorts.now c.args.index) (sizes_by c.args.sorts.now c.args.sizes.now) c.args.pairs.now c.loop-pair.pair-index c.pair-item.result c.requires.keys (omega arith) c.pair-item.is }, table_keys (sort_at c.args.sorts.now c.args.index) (sort_at c.args.sorts.now c.args.element) (sizes_by c.args.sorts.now c.args.sizes.now) c.args.b.now c.requires.b)))

pub agree-same-requires : goal.agree-same-requires
agree-same-requires t c = (search rules, (c.requires.element, (record { held = c.select-left.ensures.held; valid = ap (is_value (sort_at c.args.sorts.now c.args.element) (sizes_by c.args.sorts.now c.args.sizes.now)) c.select-left.ensures.value ∙ is_value-select (sort_at c.args.sorts.now c.args.index) (sort_at c.args.sorts.now c.args.element) (sizes_by c.args.sorts.now c.args.sizes.now) (as_value c.args.a.now) (meaning c.pair-item.result.key) c.requires.a }, record { held = c.select-right.ensures.held; valid = ap (is_value (sort_at c.args.sorts.now c.args.element) (sizes_by c.args.sorts.now c.args.sizes.now)) c.select-right.ensures.value ∙ is_value-select (sort_at c.args.sorts.now c.args.index) (sort_at c.args.sorts.now c.args.element) (sizes_by c.args.sorts.now c.args.sizes.now) (as_value c.args.b.now) (meaning c.pair-item.result.key) c.requires.b })))

pub cover-returns-in_default : goal.cover-returns-in_default
cover-returns-in_default t c = not_covered (sort_at c.args.sorts.now c.args.index) (sizes_by c.args.sorts.now c.args.sizes.now) c.args.a.now c.args.b.now (sym c.last_of.ensures.last ∙ c.in_default.is)

pub has_number-has_key-requires : goal.has_number-has_key-requires
has_number-has_key-requires t c = (search rules, (c.requires.index, (record { held = c.value_of-key.ensures.held; valid = ap (is_value (sort_at c.args.sorts.now c.args.index) (sizes_by c.args.sorts.now c.args.sizes.now)) (c.value_of-key.ensures.value ∙ c.requires.same) ∙ c.requires.valid }, c.requires.a)))

pub find_among-same-requires : goal.find_among-same-requires
find_among-same-requires t c = (search rules, (c.requires.index, (record { held = (held_at c.args.pairs.now c.loop-i.i c.index-pairs-i.result (omega arith) c.index-pairs-i.is c.requires.held).0; valid = key_valid (sort_at c.args.sorts.now c.args.index) (sizes_by c.args.sorts.now c.args.sizes.now) c.args.pairs.now c.loop-i.i c.index-pairs-i.result c.requires.keys (omega arith) c.index-pairs-i.is }, c.requires.key)))

pub cover-returns-then-number-last : goal.cover-returns-then-number-last
cover-returns-then-number-last t c =
    let e : c.loop-index.number ≡ c.in-Some.last = omega arith in
    covered (sort_at c.args.sorts.now c.args.index) (sizes_by c.args.sorts.now c.args.sizes.now) c.args.a.now c.args.b.now c.in-Some.last (sym c.last_of.ensures.last ∙ c.in-Some.is) (λ n lt. c.loop-index.invariant.1 n (omega arith))
    (subst (λ n. has_number (sort_at c.args.sorts.now c.args.index) (sizes_by c.args.sorts.now c.args.sizes.now) c.args.a.now c.args.b.now n ≡ true) e (sym c.has_number.ensures ∙ c.loop-index-test.true))

pub cover-returns : goal.cover-returns
cover-returns t c =
    uncovered (sort_at c.args.sorts.now c.args.index) (sizes_by c.args.sorts.now c.args.sizes.now) c.args.a.now c.args.b.now c.in-Some.last c.loop-index.number c.in-Some.ensures.some (sym c.last_of.ensures.last ∙ c.in-Some.is) c.loop-index.invariant.0
    (sym c.has_number.ensures ∙ c.loop-index-test.false)

pub has_key-returns : goal.has_key-returns
has_key-returns t c =
    c.is_some.ensures ∙ ap is_some c.find.ensures.place ∙ is_key-place 0 (plain.same (sort_at c.args.sorts.now c.args.index) (sizes_by c.args.sorts.now c.args.sizes.now)) (meaning c.args.key.now) c.args.array.now.pairs

pub same-returns-in-Scalar-Scalar : goal.same-returns-in-Scalar-Scalar
same-returns-in-Scalar-Scalar t c =
    c.eq.ensures ∙ scalar_values (sort_at c.args.sorts.now c.args.sort) (sizes_by c.args.sorts.now c.args.sizes.now) c.args.a.now c.args.b.now c.in-Scalar-Scalar.a c.in-Scalar-Scalar.b c.in-Scalar-Scalar.is-0 c.in-Scalar-Scalar.is-1 c.requires.a.held c.requires.b.held c.requires.a.valid c.requires.b.valid

pub same-returns-in-Element-Element : goal.same-returns-in-Element-Element
same-returns-in-Element-Element t c =
    element_values (sort_at c.args.sorts.now c.args.sort) (sizes_by c.args.sorts.now c.args.sizes.now) c.args.a.now c.args.b.now c.in-Element-Element.a c.in-Element-Element.b c.in-Element-Element.is-0 c.in-Element-Element.is-1 c.requires.a.valid

pub same-returns-in_default : goal.same-returns-in_default
same-returns-in_default t c = absurd (no_other_scalar (sort_at c.args.sorts.now c.args.sort) (sizes_by c.args.sorts.now c.args.sizes.now) c.args.a.now c.args.b.now c.in_default.field-0-0 c.in_default.is-0 c.in_default.not-Scalar-1 c.requires.a.valid c.requires.b.valid)

pub same-returns-in_default-2 : goal.same-returns-in_default-2
same-returns-in_default-2 t c = absurd (no_other_element (sort_at c.args.sorts.now c.args.sort) (sizes_by c.args.sorts.now c.args.sizes.now) c.args.a.now c.args.b.now c.in_default.field-0-0 c.in_default.is-0 c.in_default.not-Element-1 c.requires.a.valid c.requires.b.valid)

pub same-returns-in_default-3 : goal.same-returns-in_default-3
same-returns-in_default-3 t c = absurd (no_other_array (sort_at c.args.sorts.now c.args.sort) (sizes_by c.args.sorts.now c.args.sizes.now) c.args.a.now c.args.b.now c.in_default.field-0-0 c.in_default.is-0 c.in_default.not-Array-1 c.requires.a.valid c.requires.b.valid)

pub same_arrays-agree-requires : goal.same_arrays-agree-requires
same_arrays-agree-requires t c = (search rules, (omega (arith, c.in-Some.ensures.index), (omega (arith, c.in-Some.ensures.element), (c.pairs.ensures.held, (subst (HasKeys (sort_at c.args.sorts.now c.in-Some.index) (sizes_by c.args.sorts.now c.args.sizes.now)) (sym c.pairs.ensures.pairs) (table_keys (sort_at c.args.sorts.now c.in-Some.index) (sort_at c.args.sorts.now c.in-Some.element) (sizes_by c.args.sorts.now c.args.sizes.now) c.args.a.now (sym (ap (λ t. is_value t (sizes_by c.args.sorts.now c.args.sizes.now) (as_value c.args.a.now)) c.in-Some.ensures.parts) ∙ c.requires.a)), ((sym (ap (λ t. is_value t (sizes_by c.args.sorts.now c.args.sizes.now) (as_value c.args.a.now)) c.in-Some.ensures.parts) ∙ c.requires.a), (sym (ap (λ t. is_value t (sizes_by c.args.sorts.now c.args.sizes.now) (as_value c.args.b.now)) c.in-Some.ensures.parts) ∙ c.requires.b)))))))

pub same_arrays-agree-requires-2 : goal.same_arrays-agree-requires-2
same_arrays-agree-requires-2 t c = (search rules, (omega (arith, c.in-Some.ensures.index), (omega (arith, c.in-Some.ensures.element), (c.pairs-2.ensures.held, (subst (HasKeys (sort_at c.args.sorts.now c.in-Some.index) (sizes_by c.args.sorts.now c.args.sizes.now)) (sym c.pairs-2.ensures.pairs) (table_keys (sort_at c.args.sorts.now c.in-Some.index) (sort_at c.args.sorts.now c.in-Some.element) (sizes_by c.args.sorts.now c.args.sizes.now) c.args.b.now (sym (ap (λ t. is_value t (sizes_by c.args.sorts.now c.args.sizes.now) (as_value c.args.b.now)) c.in-Some.ensures.parts) ∙ c.requires.b)), ((sym (ap (λ t. is_value t (sizes_by c.args.sorts.now c.args.sizes.now) (as_value c.args.a.now)) c.in-Some.ensures.parts) ∙ c.requires.a), (sym (ap (λ t. is_value t (sizes_by c.args.sorts.now c.args.sizes.now) (as_value c.args.b.now)) c.in-Some.ensures.parts) ∙ c.requires.b)))))))

pub same_arrays-same-requires : goal.same_arrays-same-requires
same_arrays-same-requires t c = (search rules, (omega (arith, c.in-Some.ensures.element), (record { held = c.fallback.ensures.held; valid = ap (is_value (sort_at c.args.sorts.now c.in-Some.element) (sizes_by c.args.sorts.now c.args.sizes.now)) c.fallback.ensures.value ∙ table_fallback (sort_at c.args.sorts.now c.in-Some.index) (sort_at c.args.sorts.now c.in-Some.element) (sizes_by c.args.sorts.now c.args.sizes.now) c.args.a.now (sym (ap (λ t. is_value t (sizes_by c.args.sorts.now c.args.sizes.now) (as_value c.args.a.now)) c.in-Some.ensures.parts) ∙ c.requires.a) }, record { held = c.fallback-2.ensures.held; valid = ap (is_value (sort_at c.args.sorts.now c.in-Some.element) (sizes_by c.args.sorts.now c.args.sizes.now)) c.fallback-2.ensures.value ∙ table_fallback (sort_at c.args.sorts.now c.in-Some.index) (sort_at c.args.sorts.now c.in-Some.element) (sizes_by c.args.sorts.now c.args.sizes.now) c.args.b.now (sym (ap (λ t. is_value t (sizes_by c.args.sorts.now c.args.sizes.now) (as_value c.args.b.now)) c.in-Some.ensures.parts) ∙ c.requires.b) })))

pub same_arrays-cover-requires : goal.same_arrays-cover-requires
same_arrays-cover-requires t c = (search rules, (omega (arith, c.in-Some.ensures.index), (table_keys (sort_at c.args.sorts.now c.in-Some.index) (sort_at c.args.sorts.now c.in-Some.element) (sizes_by c.args.sorts.now c.args.sizes.now) c.args.a.now (sym (ap (λ t. is_value t (sizes_by c.args.sorts.now c.args.sizes.now) (as_value c.args.a.now)) c.in-Some.ensures.parts) ∙ c.requires.a), table_keys (sort_at c.args.sorts.now c.in-Some.index) (sort_at c.args.sorts.now c.in-Some.element) (sizes_by c.args.sorts.now c.args.sizes.now) c.args.b.now (sym (ap (λ t. is_value t (sizes_by c.args.sorts.now c.args.sizes.now) (as_value c.args.b.now)) c.in-Some.ensures.parts) ∙ c.requires.b))))

pub same_arrays-returns-then-same : goal.same_arrays-returns-then-same
same_arrays-returns-then-same t c = defaults_same (agree_at (sort_at c.args.sorts.now c.in-Some.index) (sort_at c.args.sorts.now c.in-Some.element) (sizes_by c.args.sorts.now c.args.sizes.now) c.args.a.now.pairs c.args.a.now c.args.b.now) (agree_at (sort_at c.args.sorts.now c.in-Some.index) (sort_at c.args.sorts.now c.in-Some.element) (sizes_by c.args.sorts.now c.args.sizes.now) c.args.b.now.pairs c.args.a.now c.args.b.now) (cover_at (sort_at c.args.sorts.now c.in-Some.index) (sizes_by c.args.sorts.now c.args.sizes.now) c.args.a.now c.args.b.now) (plain.same (sort_at c.args.sorts.now c.in-Some.element) (sizes_by c.args.sorts.now c.args.sizes.now) c.args.a.now.fallback c.args.b.now.fallback) (sym (ap (λ ps. agree_at (sort_at c.args.sorts.now c.in-Some.index) (sort_at c.args.sorts.now c.in-Some.element) (sizes_by c.args.sorts.now c.args.sizes.now) ps c.args.a.now c.args.b.now) c.pairs.ensures.pairs) ∙ sym c.agree.ensures ∙ c.if-not-agree.false) (sym (ap (λ ps. agree_at (sort_at c.args.sorts.now c.in-Some.index) (sort_at c.args.sorts.now c.in-Some.element) (sizes_by c.args.sorts.now c.args.sizes.now) ps c.args.a.now c.args.b.now) c.pairs-2.ensures.pairs) ∙ sym c.agree-2.ensures ∙ c.if-not-agree-2.false) (let d : plain.same (sort_at c.args.sorts.now c.in-Some.element) (sizes_by c.args.sorts.now c.args.sizes.now) (meaning c.fallback.result.now) (meaning c.fallback-2.result.now) ≡ plain.same (sort_at c.args.sorts.now c.in-Some.element) (sizes_by c.args.sorts.now c.args.sizes.now) c.args.a.now.fallback c.args.b.now.fallback = (λ i. plain.same (sort_at c.args.sorts.now c.in-Some.element) (sizes_by c.args.sorts.now c.args.sizes.now) (c.fallback.ensures.value i) (c.fallback-2.ensures.value i)) in sym d ∙ sym c.same.ensures ∙ c.if-same.true) ∙ sym (same_arrays (sort_at c.args.sorts.now c.args.sort) (sort_at c.args.sorts.now c.in-Some.index) (sort_at c.args.sorts.now c.in-Some.element) (sizes_by c.args.sorts.now c.args.sizes.now) c.args.a.now c.args.b.now c.in-Some.ensures.parts)

pub same_arrays-returns : goal.same_arrays-returns
same_arrays-returns t c = c.cover.ensures ∙ defaults_differ (agree_at (sort_at c.args.sorts.now c.in-Some.index) (sort_at c.args.sorts.now c.in-Some.element) (sizes_by c.args.sorts.now c.args.sizes.now) c.args.a.now.pairs c.args.a.now c.args.b.now) (agree_at (sort_at c.args.sorts.now c.in-Some.index) (sort_at c.args.sorts.now c.in-Some.element) (sizes_by c.args.sorts.now c.args.sizes.now) c.args.b.now.pairs c.args.a.now c.args.b.now) (cover_at (sort_at c.args.sorts.now c.in-Some.index) (sizes_by c.args.sorts.now c.args.sizes.now) c.args.a.now c.args.b.now) (plain.same (sort_at c.args.sorts.now c.in-Some.element) (sizes_by c.args.sorts.now c.args.sizes.now) c.args.a.now.fallback c.args.b.now.fallback) (sym (ap (λ ps. agree_at (sort_at c.args.sorts.now c.in-Some.index) (sort_at c.args.sorts.now c.in-Some.element) (sizes_by c.args.sorts.now c.args.sizes.now) ps c.args.a.now c.args.b.now) c.pairs.ensures.pairs) ∙ sym c.agree.ensures ∙ c.if-not-agree.false) (sym (ap (λ ps. agree_at (sort_at c.args.sorts.now c.in-Some.index) (sort_at c.args.sorts.now c.in-Some.element) (sizes_by c.args.sorts.now c.args.sizes.now) ps c.args.a.now c.args.b.now) c.pairs-2.ensures.pairs) ∙ sym c.agree-2.ensures ∙ c.if-not-agree-2.false) (let d : plain.same (sort_at c.args.sorts.now c.in-Some.element) (sizes_by c.args.sorts.now c.args.sizes.now) (meaning c.fallback.result.now) (meaning c.fallback-2.result.now) ≡ plain.same (sort_at c.args.sorts.now c.in-Some.element) (sizes_by c.args.sorts.now c.args.sizes.now) c.args.a.now.fallback c.args.b.now.fallback = (λ i. plain.same (sort_at c.args.sorts.now c.in-Some.element) (sizes_by c.args.sorts.now c.args.sizes.now) (c.fallback.ensures.value i) (c.fallback-2.ensures.value i)) in sym d ∙ sym c.same.ensures ∙ c.if-same.false) ∙ sym (same_arrays (sort_at c.args.sorts.now c.args.sort) (sort_at c.args.sorts.now c.in-Some.index) (sort_at c.args.sorts.now c.in-Some.element) (sizes_by c.args.sorts.now c.args.sizes.now) c.args.a.now c.args.b.now c.in-Some.ensures.parts)

pub select-returns-in-None-clause-value : goal.select-returns-in-None-clause-value
select-returns-in-None-clause-value t c =
    c.fallback.ensures.value ∙ sym (value_at-nowhere 0 (plain.same (sort_at c.args.sorts.now c.args.index) (sizes_by c.args.sorts.now c.args.sizes.now)) (meaning c.args.key.now) c.args.array.now.pairs c.args.array.now.fallback (sym c.find.ensures.place ∙ c.in-None.is))

pub select-returns-in-Some-clause-value : goal.select-returns-in-Some-clause-value
select-returns-in-Some-clause-value t c =
    let place : c.in-Some.i ≡ c.in-Some.i - 0 = omega arith in
    let r = value_at-place 0 c.in-Some.i (plain.same (sort_at c.args.sorts.now c.args.index) (sizes_by c.args.sorts.now c.args.sizes.now)) (meaning c.args.key.now) c.args.array.now.pairs c.args.array.now.fallback (sym c.find.ensures.place ∙ c.in-Some.is) in
    sym (r.1 (meaning c.pair.result.0.now) (meaning c.pair.result.1.now) (ap (pair_at c.args.array.now.pairs) (sym place) ∙ c.pair.ensures.pair))

pub find-returns-in-Some-Some-clause-within : goal.find-returns-in-Some-Some-clause-within
find-returns-in-Some-Some-clause-within t c =
    let many = keys-count c.args.array.now.pairs c.in-Some-Some.places.now.keys c.in-Some-Some.ensures in
    IfSome_then c.get_index_of.result c.get_index_of.ensures.within (λ i lt. omega (arith, many, lt))

pub find-returns-in-Some-Some-clause-place : goal.find-returns-in-Some-Some-clause-place
find-returns-in-Some-Some-clause-place t c =
    let valid = ap (is_value (sort_at c.args.sorts.now c.args.index) (sizes_by c.args.sorts.now c.args.sizes.now)) c.in-Some-Some.ensures'.value ∙ c.requires.key.valid in
    c.get_index_of.ensures.index
    ∙ key_place (sort_at c.args.sorts.now c.args.index) (sizes_by c.args.sorts.now c.args.sizes.now) c.in-Some-Some.flat c.in-Some-Some.places.now.keys c.args.array.now.pairs c.in-Some-Some.ensures'.held valid c.in-Some-Some.ensures c.requires.keys
    ∙ ap (λ v. place_from 0 (plain.same (sort_at c.args.sorts.now c.args.index) (sizes_by c.args.sorts.now c.args.sizes.now)) v c.args.array.now.pairs) c.in-Some-Some.ensures'.value

pub find-returns-in_default-clause-within : goal.find-returns-in_default-clause-within
find-returns-in_default-clause-within t c = IfSome_then c.find_among.result c.find_among.ensures.within (λ i lt. omega (arith, count-pairs_of c.pairs.result.now, ap count c.pairs.ensures.pairs, lt))
