use Rattle.std.proofs.Common.{rules, ◌≡◌, List, refl, sym, ap, subst, ◌∙◌, arith}
use Rattle.std.proofs.lemmas.Result.{err_from_is_err_and}
use Rattle.smt_terms.specs.Sorts.{Sort, array}
use Rattle.smt_terms.specs.Values.{is_value, store}
use Rattle.smt_values.specs.Meaning.{meaning}
use Rattle.smt_values.specs.SizeTable.{size_at, sizes_by}
use Rattle.smt_values.specs.SortIds.{sort_at, IsSortList}
use Rattle.smt_values.specs.Tables.{as_value}
use Rattle.smt_values.specs.Valid.{IsValue, HasKeys}
use Rattle.script_terms.specs.Places.{form_from}
use Rattle.model_texts.specs.ValueForms.{value_in}
use Rattle.model_texts.proofs.MetNames.{gains_through}
use Rattle.model_texts.proofs.StoreReading.{everywhere_refused, storing_begins, key_form, value_form, key_refused, value_refused, storing_goes_on, storing_ends, key_stored, keys_stored, met_later, array_before, fewer, itself, no_array_index, empty_list}
use Rattle.model_texts.proofs.values.+read_value.Goals as goal

pub read_value-requires : goal.read_value-requires
read_value-requires t c =
    let t_now = c.args.table.now in
    let ts = c.args.forest.now.tokens in
    let f = form_from ts c.args.at in
    let s = sort_at t_now.sorts c.args.sort in
    let i = sort_at t_now.sorts c.in-Some.index in
    let e = sort_at t_now.sorts c.in-Some.element in
    let is : s ≡ array i e = subst (λ (ss : List Sort). sort_at ss c.args.sort ≡ array (sort_at ss c.in-Some.index) (sort_at ss c.in-Some.element)) c.sorts.ensures c.in-Some.ensures.parts in
    (search rules, (c.requires.whole, ((c.in_ok-everywhere.ensures i e is).0, omega (arith, c.in-Some.ensures.element, c.requires.sort))))

pub returns-in_err-value-clause-value : goal.returns-in_err-value-clause-value
returns-in_err-value-clause-value t c es known =
    let t_now = c.args.table.now in
    let ts = c.args.forest.now.tokens in
    let f = form_from ts c.args.at in
    let s = sort_at t_now.sorts c.args.sort in
    let i = sort_at t_now.sorts c.in-Some.index in
    let e = sort_at t_now.sorts c.in-Some.element in
    let is : s ≡ array i e = subst (λ (ss : List Sort). sort_at ss c.args.sort ≡ array (sort_at ss c.in-Some.index) (sort_at ss c.in-Some.element)) c.sorts.ensures c.in-Some.ensures.parts in
    let p = err_from_is_err_and c.from_residual-in_err-value.result c.from_residual-in_err-value.ensures.1 in
    rw (p.1, p.2)
    (everywhere_refused t_now ts f s i e is c.in_ok-chain.chain c.in_ok-chain.ensures c.in_ok-everywhere.everywhere (c.in_ok-everywhere.ensures i e is) c.args.elements.now c.read_value.new.elements c.in_err-value.field-0.0 c.in_err-value.ensures.value es known)

pub loop-stored-init : goal.loop-stored-init
loop-stored-init t c =
    let t_now = c.args.table.now in
    let ts = c.args.forest.now.tokens in
    let f = form_from ts c.args.at in
    let s = sort_at t_now.sorts c.args.sort in
    let i = sort_at t_now.sorts c.in-Some.index in
    let e = sort_at t_now.sorts c.in-Some.element in
    let is : s ≡ array i e = subst (λ (ss : List Sort). sort_at ss c.args.sort ≡ array (sort_at ss c.in-Some.index) (sort_at ss c.in-Some.element)) c.sorts.ensures c.in-Some.ensures.parts in
    storing_begins t_now ts f s i e is c.in_ok-chain.chain c.in_ok-chain.ensures c.in_ok-everywhere.everywhere (c.in_ok-everywhere.ensures i e is) c.args.elements.now c.read_value.new.elements c.in-Some.element c.in_ok-value.value c.new-array.result
    refl c.in_ok-value.ensures.value c.in_ok-value.ensures.valid c.in_ok-value.ensures.gains c.new-array.ensures

pub read_value-requires-in-Some-pop : goal.read_value-requires-in-Some-pop
read_value-requires-in-Some-pop t c =
    let t_now = c.args.table.now in
    let ts = c.args.forest.now.tokens in
    let f = form_from ts c.args.at in
    let s = sort_at t_now.sorts c.args.sort in
    let i = sort_at t_now.sorts c.in-Some.index in
    let e = sort_at t_now.sorts c.in-Some.element in
    let is : s ≡ array i e = subst (λ (ss : List Sort). sort_at ss c.args.sort ≡ array (sort_at ss c.in-Some.index) (sort_at ss c.in-Some.element)) c.sorts.ensures c.in-Some.ensures.parts in
    (search rules, (c.requires.whole, (key_form t_now ts (value_in f s) i e c.args.elements.now c.loop-stored.chain.stores.items c.pop.new.self.items c.in-Some-pop.stored c.loop-stored.array c.loop-stored.elements c.loop-stored.invariant c.in-Some-pop.ensures.items, omega (arith, c.in-Some.ensures.index, c.requires.sort))))

pub returns-in_err-key-clause-value : goal.returns-in_err-key-clause-value
returns-in_err-key-clause-value t c es known =
    let t_now = c.args.table.now in
    let ts = c.args.forest.now.tokens in
    let f = form_from ts c.args.at in
    let s = sort_at t_now.sorts c.args.sort in
    let i = sort_at t_now.sorts c.in-Some.index in
    let e = sort_at t_now.sorts c.in-Some.element in
    let is : s ≡ array i e = subst (λ (ss : List Sort). sort_at ss c.args.sort ≡ array (sort_at ss c.in-Some.index) (sort_at ss c.in-Some.element)) c.sorts.ensures c.in-Some.ensures.parts in
    let p = err_from_is_err_and c.from_residual-in_err-key.result c.from_residual-in_err-key.ensures.1 in
    rw (p.1, p.2)
    (key_refused t_now ts (value_in f s) i e c.args.elements.now c.loop-stored.chain.stores.items c.pop.new.self.items c.in-Some-pop.stored c.loop-stored.array c.loop-stored.elements c.loop-stored.invariant c.in-Some-pop.ensures.items c.read_value-in-Some-pop.new.elements c.in_err-key.field-0.0 c.in_err-key.ensures.value es known)

pub returns-in_err-key-clause-gains : goal.returns-in_err-key-clause-gains
returns-in_err-key-clause-gains t c = gains_through c.args.elements.now c.loop-stored.elements c.read_value-in-Some-pop.new.elements c.loop-stored.invariant.gains c.in_err-key.ensures.gains

pub read_value-requires-in-Some-pop-2 : goal.read_value-requires-in-Some-pop-2
read_value-requires-in-Some-pop-2 t c =
    let t_now = c.args.table.now in
    let ts = c.args.forest.now.tokens in
    let f = form_from ts c.args.at in
    let s = sort_at t_now.sorts c.args.sort in
    let i = sort_at t_now.sorts c.in-Some.index in
    let e = sort_at t_now.sorts c.in-Some.element in
    let is : s ≡ array i e = subst (λ (ss : List Sort). sort_at ss c.args.sort ≡ array (sort_at ss c.in-Some.index) (sort_at ss c.in-Some.element)) c.sorts.ensures c.in-Some.ensures.parts in
    (search rules, (c.requires.whole, (value_form t_now ts (value_in f s) i e c.args.elements.now c.loop-stored.chain.stores.items c.pop.new.self.items c.in-Some-pop.stored c.loop-stored.array c.loop-stored.elements c.loop-stored.invariant c.in-Some-pop.ensures.items, omega (arith, c.in-Some.ensures.element, c.requires.sort))))

pub returns-in_err-value-2-clause-value : goal.returns-in_err-value-2-clause-value
returns-in_err-value-2-clause-value t c es known =
    let t_now = c.args.table.now in
    let ts = c.args.forest.now.tokens in
    let f = form_from ts c.args.at in
    let s = sort_at t_now.sorts c.args.sort in
    let i = sort_at t_now.sorts c.in-Some.index in
    let e = sort_at t_now.sorts c.in-Some.element in
    let is : s ≡ array i e = subst (λ (ss : List Sort). sort_at ss c.args.sort ≡ array (sort_at ss c.in-Some.index) (sort_at ss c.in-Some.element)) c.sorts.ensures c.in-Some.ensures.parts in
    let p = err_from_is_err_and c.from_residual-in_err-value-2.result c.from_residual-in_err-value-2.ensures.1 in
    rw (p.1, p.2)
    (value_refused t_now ts (value_in f s) i e c.args.elements.now c.loop-stored.chain.stores.items c.pop.new.self.items c.in-Some-pop.stored c.loop-stored.array c.loop-stored.elements c.loop-stored.invariant c.in-Some-pop.ensures.items c.read_value-in-Some-pop.new.elements c.in_ok-key.key c.in_ok-key.ensures.value c.read_value-in-Some-pop-2.new.elements c.in_err-value-2.field-0.0 c.in_err-value-2.ensures.value es known)

pub returns-in_err-value-2-clause-gains : goal.returns-in_err-value-2-clause-gains
returns-in_err-value-2-clause-gains t c = gains_through c.args.elements.now c.read_value-in-Some-pop.new.elements c.read_value-in-Some-pop-2.new.elements (gains_through c.args.elements.now c.loop-stored.elements c.read_value-in-Some-pop.new.elements c.loop-stored.invariant.gains c.in_ok-key.ensures.gains) c.in_err-value-2.ensures.gains

pub returns-in_err-set-clause-gains : goal.returns-in_err-set-clause-gains
returns-in_err-set-clause-gains t c = gains_through c.args.elements.now c.read_value-in-Some-pop.new.elements c.read_value-in-Some-pop-2.new.elements (gains_through c.args.elements.now c.loop-stored.elements c.read_value-in-Some-pop.new.elements c.loop-stored.invariant.gains c.in_ok-key.ensures.gains) c.in_ok-value-2.ensures.gains

pub store-requires-clause-key : goal.store-requires-clause-key
store-requires-clause-key t c =
    let t_now = c.args.table.now in
    let ts = c.args.forest.now.tokens in
    let f = form_from ts c.args.at in
    let s = sort_at t_now.sorts c.args.sort in
    let i = sort_at t_now.sorts c.in-Some.index in
    let e = sort_at t_now.sorts c.in-Some.element in
    let is : s ≡ array i e = subst (λ (ss : List Sort). sort_at ss c.args.sort ≡ array (sort_at ss c.in-Some.index) (sort_at ss c.in-Some.element)) c.sorts.ensures c.in-Some.ensures.parts in
    subst (λ ss. IsValue (sort_at ss c.in-Some.index) (sizes_by ss c.set.new.self) c.in_ok-key.key) (sym c.sorts-in-Some-pop.ensures)
    (key_stored t_now c.read_value-in-Some-pop-2.new.elements c.set.new.self c.in-Some.index (subst IsSortList c.sorts.ensures c.in-Some.ensures.table) (omega (arith, c.in-Some.ensures.index, c.requires.sort)) (no_array_index t_now.sorts c.args.sort c.in-Some.index c.in-Some.element (subst IsSortList c.sorts.ensures c.in-Some.ensures.table) c.requires.sort is) (c.in_ok-set.ensures.set c.in-Some.index ∙ itself c.in-Some.index.0 c.size.result (size_at c.loop-stored.sizes c.in-Some.index) ∙ c.size.ensures) c.in_ok-key.key
    (met_later t_now c.read_value-in-Some-pop.new.elements c.read_value-in-Some-pop-2.new.elements c.in-Some.index c.in_ok-key.key c.in_ok-value-2.ensures.gains c.in_ok-key.ensures.valid))

pub store-requires-clause-keys : goal.store-requires-clause-keys
store-requires-clause-keys t c =
    let t_now = c.args.table.now in
    let ts = c.args.forest.now.tokens in
    let f = form_from ts c.args.at in
    let s = sort_at t_now.sorts c.args.sort in
    let i = sort_at t_now.sorts c.in-Some.index in
    let e = sort_at t_now.sorts c.in-Some.element in
    let is : s ≡ array i e = subst (λ (ss : List Sort). sort_at ss c.args.sort ≡ array (sort_at ss c.in-Some.index) (sort_at ss c.in-Some.element)) c.sorts.ensures c.in-Some.ensures.parts in
    subst (λ ss. HasKeys (sort_at ss c.in-Some.index) (sizes_by ss c.set.new.self) c.loop-stored.array.pairs) (sym c.sorts-in-Some-pop.ensures)
    (keys_stored t_now c.read_value-in-Some-pop-2.new.elements c.set.new.self c.in-Some.index (subst IsSortList c.sorts.ensures c.in-Some.ensures.table) (omega (arith, c.in-Some.ensures.index, c.requires.sort)) (no_array_index t_now.sorts c.args.sort c.in-Some.index c.in-Some.element (subst IsSortList c.sorts.ensures c.in-Some.ensures.table) c.requires.sort is) (c.in_ok-set.ensures.set c.in-Some.index ∙ itself c.in-Some.index.0 c.size.result (size_at c.loop-stored.sizes c.in-Some.index) ∙ c.size.ensures) e c.loop-stored.array
    (array_before t_now c.loop-stored.elements c.read_value-in-Some-pop-2.new.elements i e c.loop-stored.array
    (gains_through c.loop-stored.elements c.read_value-in-Some-pop.new.elements c.read_value-in-Some-pop-2.new.elements c.in_ok-key.ensures.gains c.in_ok-value-2.ensures.gains) c.loop-stored.invariant.valid))

pub returns-in_err-array-clause-gains : goal.returns-in_err-array-clause-gains
returns-in_err-array-clause-gains t c = gains_through c.args.elements.now c.read_value-in-Some-pop.new.elements c.read_value-in-Some-pop-2.new.elements (gains_through c.args.elements.now c.loop-stored.elements c.read_value-in-Some-pop.new.elements c.loop-stored.invariant.gains c.in_ok-key.ensures.gains) c.in_ok-value-2.ensures.gains

pub loop-stored-smaller : goal.loop-stored-smaller
loop-stored-smaller t c = fewer c.loop-stored.chain.stores.items c.pop.new.self.items c.in-Some-pop.stored c.in-Some-pop.ensures.items

pub loop-stored-preserved : goal.loop-stored-preserved
loop-stored-preserved t c =
    let t_now = c.args.table.now in
    let ts = c.args.forest.now.tokens in
    let f = form_from ts c.args.at in
    let s = sort_at t_now.sorts c.args.sort in
    let i = sort_at t_now.sorts c.in-Some.index in
    let e = sort_at t_now.sorts c.in-Some.element in
    let is : s ≡ array i e = subst (λ (ss : List Sort). sort_at ss c.args.sort ≡ array (sort_at ss c.in-Some.index) (sort_at ss c.in-Some.element)) c.sorts.ensures c.in-Some.ensures.parts in
    storing_goes_on t_now ts (value_in f s) i e c.args.elements.now c.loop-stored.chain.stores.items c.pop.new.self.items c.in-Some-pop.stored c.loop-stored.array c.loop-stored.elements c.loop-stored.invariant c.in-Some-pop.ensures.items c.read_value-in-Some-pop.new.elements c.in_ok-key.key c.in_ok-key.ensures.value
    c.read_value-in-Some-pop-2.new.elements c.in_ok-value-2.value c.in-Some.index c.in-Some.element (sizes_by c.sorts-in-Some-pop.result.now c.set.new.self) c.in_ok-array.array
    refl refl (no_array_index t_now.sorts c.args.sort c.in-Some.index c.in-Some.element (subst IsSortList c.sorts.ensures c.in-Some.ensures.table) c.requires.sort is) c.in_ok-value-2.ensures.value c.in_ok-key.ensures.valid c.in_ok-value-2.ensures.valid c.in_ok-key.ensures.gains c.in_ok-value-2.ensures.gains
    (c.in_ok-array.ensures
    ∙ ap (λ ss. store (sort_at ss c.in-Some.index) (sizes_by c.sorts-in-Some-pop.result.now c.set.new.self) (as_value c.loop-stored.array) (meaning c.in_ok-key.key) (meaning c.in_ok-value-2.value)) c.sorts-in-Some-pop.ensures)

pub returns-in_err-new-clause-gains : goal.returns-in_err-new-clause-gains
returns-in_err-new-clause-gains t c = c.loop-stored.invariant.gains

pub returns-clause-value : goal.returns-clause-value
returns-clause-value t c =
    let t_now = c.args.table.now in
    let ts = c.args.forest.now.tokens in
    let f = form_from ts c.args.at in
    let s = sort_at t_now.sorts c.args.sort in
    let i = sort_at t_now.sorts c.in-Some.index in
    let e = sort_at t_now.sorts c.in-Some.element in
    let is : s ≡ array i e = subst (λ (ss : List Sort). sort_at ss c.args.sort ≡ array (sort_at ss c.in-Some.index) (sort_at ss c.in-Some.element)) c.sorts.ensures c.in-Some.ensures.parts in
    storing_ends t_now ts (value_in f s) i e c.args.elements.now c.loop-stored.chain.stores.items c.loop-stored.array c.loop-stored.elements c.loop-stored.invariant (empty_list c.loop-stored.chain.stores.items (sym c.loop-stored.chain.stores.ok.0 ∙ c.in_default-pop.ensures.cases.0))
    _ tt (ap as_value c.in_ok-new.ensures.ok)

pub returns-clause-valid : goal.returns-clause-valid
returns-clause-valid t c =
    let t_now = c.args.table.now in
    let ts = c.args.forest.now.tokens in
    let f = form_from ts c.args.at in
    let s = sort_at t_now.sorts c.args.sort in
    let i = sort_at t_now.sorts c.in-Some.index in
    let e = sort_at t_now.sorts c.in-Some.element in
    let is : s ≡ array i e = subst (λ (ss : List Sort). sort_at ss c.args.sort ≡ array (sort_at ss c.in-Some.index) (sort_at ss c.in-Some.element)) c.sorts.ensures c.in-Some.ensures.parts in
    record {
      held = tt;
      valid = λ sizes large. ap (λ u. is_value u sizes (as_value c.in_ok-new.field-0.value)) is ∙ ap (λ x. is_value (array i e) sizes (as_value x)) c.in_ok-new.ensures.ok ∙ c.loop-stored.invariant.valid sizes large;
    }

pub returns-clause-gains : goal.returns-clause-gains
returns-clause-gains t c = c.loop-stored.invariant.gains
