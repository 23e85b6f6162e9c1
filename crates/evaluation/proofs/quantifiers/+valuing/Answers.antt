use Rattle.std.proofs.Common.{rules, ◌≡◌, ◌<◌, ◌≤◌, ◌^◌, ◌∷◌, [], true, false, All, IsSome, length, ◌-◌, Bool, List, Option, get_or, take, drop, inl, inr, ap, sym, ◌∙◌, subst, refl, arith}
use Rattle.std.specs.Prelude.{IfSome, IfNone, IsFalse}
use Rattle.std.proofs.lemmas.List.{length-take-le}
use Rattle.std.proofs.lemmas.List.Elements.{All-append, All-cons, All-nil}
use Rattle.smt_terms.specs.declared.ids.NodeId.{NodeId}
use Rattle.smt_terms.specs.Laws.{IsEnv}
use Rattle.smt_terms.specs.Term.{universal, existential, terms}
use Rattle.smt_terms.specs.Val.{Env, bits_bound, greatest_bound, runs, val, value_in_range, fits}
use Rattle.smt_terms.specs.Values.{truth, is_true, over_elements}
use Rattle.smt_values.specs.Meaning.{meaning, IsHeld}
use Rattle.smt_values.specs.declared.value.Value.{Value}
use Rattle.smt_values.specs.declared.value.Value.TheVariants.{Scalar as OfScalar}
use Rattle.term_table.specs.Formulas.{tree, trees_at, AreNodes}
use Rattle.term_walk.specs.declared.kept.Place.{Place}
use Rattle.term_walk.specs.Binders.{is_quantified}
use Rattle.models.specs.GraphRows.{meanings}
use Rattle.models.specs.ModelView.{model_at}
use Rattle.evaluation.specs.Bindings.{env_of, IsBinding, AreBindings}
use Rattle.evaluation.specs.Choices.{quantifier_of, variables_at, bits_below, first_bits, runs_with, IsVariable}
use Rattle.evaluation.specs.Evaluated.{breaks, any_breaks, IsValueOf}
use Rattle.evaluation.specs.KeptValues.{Found, known_at, AreFound}
use Rattle.evaluation.specs.Operated.{applied_at, operand_values}
use Rattle.evaluation.specs.Orders.{AreBehind, IsOrder}
use Rattle.evaluation.specs.declared.quantifiers.Quantified.{Quantified}
use Rattle.evaluation.proofs.BinderValues.{some-operand, body-is, body-narrow, body-node, body-is-formula, all-variables, bits-are, binder-value, binder-fits, binder-breaks}
use Rattle.evaluation.proofs.Choosing.{some-bit, first-bits, bits-first, rest-is, rest-all, rank-some, rank-most, runs-counted, runs-chosen, not-empty, shifted, none-chosen, next-chosen, some-chosen}
use Rattle.evaluation.proofs.EnvLaws.{is-env}
use Rattle.evaluation.proofs.FaultsTold.{memory-told, fault-told}
use Rattle.evaluation.proofs.FoundValues.{given-known, given-stay, given-found, are-held, none-found}
use Rattle.evaluation.proofs.InOrder.{bound-at, bound-within, operands-known, done-more, leaf-fits}
use Rattle.evaluation.proofs.Listed.{any-at}
use Rattle.evaluation.proofs.OrderLaws.{among}
use Rattle.evaluation.proofs.ValueLaws.{applied-value, args-are, args-values, args-within, breaks-itself, kids-known}
use Rattle.evaluation.proofs.quantifiers.+valuing.Goals as goal

-- ---- nodes in an order

pub value_all-value_of_one-requires : goal.value_all-value_of_one-requires
value_all-value_of_one-requires t c =
    let table = c.args.table.now in
    let order = c.args.order.now in
    let i = c.loop-id.id-index in
    let d : NodeId = record { 0 = 0 } in
    let lt : i < length order = c.loop-id-test.true in
    let here = c.loop-id.invariant in
    let smaller : bits_bound (tree table (get_or order i d)) ≤ greatest_bound (terms (trees_at table order)) = bound-at table order i d lt in (
      search rules,
      (
        c.requires.order.nodes i d lt,
        (
          c.requires.order.narrow i d lt,
          (
            c.requires.valid,
            (
              subst (AreBindings table) (sym here.bindings) c.requires.bindings,
              (
                subst (λ bs. AreFound table (model_at table c.args.model.now) (env_of table bs) c.args.kept.now c.loop-id.found.entries) (sym here.bindings) here.found,
                operands-known table c.args.kept.now c.loop-id.found.entries order c.requires.order i d lt here.done,
              ),
            ),
          ),
        ),
      ),
    )

pub value_all-returns-in_err-value-clause-beyond : goal.value_all-returns-in_err-value-clause-beyond
value_all-returns-in_err-value-clause-beyond t c =
    let table = c.args.table.now in
    let m = model_at table c.args.model.now in
    let order = c.args.order.now in
    let i = c.loop-id.id-index in
    let d : NodeId = record { 0 = 0 } in
    let same = c.loop-id.invariant.bindings in
    fault-told table (λ u. breaks m u (tree table (get_or order i d)) (env_of table c.loop-id.bindings.items)) (λ u. any_breaks m u (terms (trees_at table order)) (env_of table c.args.bindings.now.items)) c.in_err-value.field-0.0 c.from_residual.result
    (λ u b. any-at m u (env_of table c.args.bindings.now.items) table order i d c.loop-id-test.true (ap (λ bs. breaks m u (tree table (get_or order i d)) (env_of table bs)) (sym same) ∙ b))
    c.in_err-value.ensures.beyond c.from_residual.ensures.1

pub value_all-returns-in_err-give_value-clause-beyond : goal.value_all-returns-in_err-give_value-clause-beyond
value_all-returns-in_err-give_value-clause-beyond t c =
    memory-told c.args.table.now (λ u. any_breaks (model_at c.args.table.now c.args.model.now) u (terms (trees_at c.args.table.now c.args.order.now)) (env_of c.args.table.now c.args.bindings.now.items)) c.from_residual-in_err-give_value.result c.from_residual-in_err-give_value.ensures.1

pub value_all-loop-id-preserved : goal.value_all-loop-id-preserved
value_all-loop-id-preserved t c =
    let table = c.args.table.now in
    let m = model_at table c.args.model.now in
    let order = c.args.order.now in
    let kept = c.args.kept.now in
    let old = c.loop-id.found.entries in
    let new = c.give_value.new.found.entries in
    let i = c.loop-id.id-index in
    let d : NodeId = record { 0 = 0 } in
    let lt : i < length order = c.loop-id-test.true in
    let id = get_or order i d in
    let v = c.in_ok-value.value in
    let before = c.loop-id.invariant in
    let gives = c.in_ok-give_value.ensures in
    let stay = given-stay kept old new id v gives.here gives.others in
    let value : IsValueOf m (env_of table c.args.bindings.now.items) (tree table id) v = subst (λ bs. IsValueOf m (env_of table bs) (tree table id) v) before.bindings c.in_ok-value.ensures.value in
    record {
      found = given-found kept old new id v gives.here gives.others table m (env_of table c.args.bindings.now.items) (c.requires.order.nodes i d lt) value before.found;
      done = done-more kept old new order i d lt stay (given-known kept old new id v gives.here gives.others) before.done;
      stay = λ k s. stay k (before.stay k s);
      bindings = c.in_ok-value.ensures.bindings ∙ before.bindings;
    }

-- ---- one node

pub value_of_one-returns-in-Some-clause-value : goal.value_of_one-returns-in-Some-clause-value
value_of_one-returns-in-Some-clause-value t c =
    let table = c.args.table.now in
    let m = model_at table c.args.model.now in
    let u = tree table c.args.id in
    let e = env_of table c.args.bindings.now.items in
    let plain : is_quantified u ≡ false = sym c.is_binder.ensures ∙ c.if-is_binder.false in
    let same = c.deref.ensures.value in
    applied-value table c.know_table.ensures c.args.id c.requires.node m e c.requires.valid (is-env table m.sizes c.args.bindings.now.items c.requires.bindings) (OfScalar c.in-Some.scalar) plain
    (leaf-fits m e u plain c.in-Some.ensures.leaf)
    (sym (c.in-Some.ensures.value m) ∙ ap (λ bs. val m u (env_of table bs)) same)
    c.in-Some.ensures.scalar

pub value_of_one-values_of_nodes-requires-clause-known : goal.value_of_one-values_of_nodes-requires-clause-known
value_of_one-values_of_nodes-requires-clause-known t c =
    let table = c.args.table.now in
    let u = tree table c.args.id in
    let plain : is_quantified u ≡ false = sym c.is_binder.ensures ∙ c.if-is_binder.false in
    let nodes : AreNodes table c.kids.result.now = λ i d lt. let b = c.kids.ensures.below i d lt in let here = c.requires.node in omega arith in
    kids-known table c.args.kept.now c.args.found.now.entries c.args.id c.kids.result.now plain c.requires.operands c.kids.ensures.terms nodes

pub value_of_one-values_of_nodes-requires-clause-held : goal.value_of_one-values_of_nodes-requires-clause-held
value_of_one-values_of_nodes-requires-clause-held t c =
    are-held c.args.table.now (model_at c.args.table.now c.args.model.now) (env_of c.args.table.now c.args.bindings.now.items) c.args.kept.now c.args.found.now.entries c.requires.found

pub value_of_one-returns-in_err-args-clause-beyond : goal.value_of_one-returns-in_err-args-clause-beyond
value_of_one-returns-in_err-args-clause-beyond t c =
    memory-told c.args.table.now (λ u. breaks (model_at c.args.table.now c.args.model.now) u (tree c.args.table.now c.args.id) (env_of c.args.table.now c.args.bindings.now.items)) c.from_residual-in_err-args.result c.from_residual-in_err-args.ensures.1

pub value_of_one-applied_value-requires-clause-args : goal.value_of_one-applied_value-requires-clause-args
value_of_one-applied_value-requires-clause-args t c =
    let table = c.args.table.now in
    let m = model_at table c.args.model.now in
    let u = tree table c.args.id in
    let e = env_of table c.args.bindings.now.items in
    let plain : is_quantified u ≡ false = sym c.is_binder.ensures ∙ c.if-is_binder.false in
    args-are table c.know_table.ensures c.args.id c.requires.node m e c.requires.valid (is-env table m.sizes c.args.bindings.now.items c.requires.bindings) c.kids.result.now c.in_ok-args.args.items c.kids.ensures.terms
    (c.in_ok-args.ensures table m e c.requires.found) plain

pub value_of_one-returns-in_err-value-clause-beyond : goal.value_of_one-returns-in_err-value-clause-beyond
value_of_one-returns-in_err-value-clause-beyond t c =
    memory-told c.args.table.now (λ u. breaks (model_at c.args.table.now c.args.model.now) u (tree c.args.table.now c.args.id) (env_of c.args.table.now c.args.bindings.now.items)) c.from_residual-in_err-value.result c.from_residual-in_err-value.ensures.1

pub value_of_one-returns-in-Some-2-clause-value : goal.value_of_one-returns-in-Some-2-clause-value
value_of_one-returns-in-Some-2-clause-value t c =
    let table = c.args.table.now in
    let m = model_at table c.args.model.now in
    let id = c.args.id in
    let u = tree table id in
    let bs = c.args.bindings.now.items in
    let e = env_of table bs in
    let v = c.in-Some-2.value in
    let ks = c.kids.result.now in
    let args = c.in_ok-args.args.items in
    let plain : is_quantified u ≡ false = sym c.is_binder.ensures ∙ c.if-is_binder.false in
    let env : IsEnv m.sizes e = is-env table m.sizes bs c.requires.bindings in
    let are = c.in_ok-args.ensures table m e c.requires.found in
    let told : meaning v ≡ applied_at m u (meanings args) = subst (λ (o : Option Value). IfSome o (λ w. meaning w ≡ applied_at m u (meanings args))) c.in-Some-2.is c.in_ok-value.ensures.value in
    let held : IsHeld v = subst (λ (o : Option Value). IfSome o IsHeld) c.in-Some-2.is c.in_ok-value.ensures.held in
    applied-value table c.know_table.ensures id c.requires.node m e c.requires.valid env v plain
    (args-within table c.know_table.ensures id c.requires.node m e c.requires.valid env ks args c.kids.ensures.terms are plain)
    (
    told
    ∙ ap (applied_at m u) (args-values table c.know_table.ensures id c.requires.node m e c.requires.valid env ks args c.kids.ensures.terms are plain)
    ∙ sym (subst (λ cs. val m u (env_of table cs) ≡ applied_at m u (operand_values m (env_of table cs) u)) c.deref.ensures.value (c.in_default.ensures.none m plain))
    )
    held

pub value_of_one-returns-in-None-clause-beyond : goal.value_of_one-returns-in-None-clause-beyond
value_of_one-returns-in-None-clause-beyond t c =
    let table = c.args.table.now in
    let m = model_at table c.args.model.now in
    let id = c.args.id in
    let u = tree table id in
    let bs = c.args.bindings.now.items in
    let e = env_of table bs in
    let ks = c.kids.result.now in
    let args = c.in_ok-args.args.items in
    let plain : is_quantified u ≡ false = sym c.is_binder.ensures ∙ c.if-is_binder.false in
    let env : IsEnv m.sizes e = is-env table m.sizes bs c.requires.bindings in
    let are = c.in_ok-args.ensures table m e c.requires.found in
    let told : IsFalse (value_in_range (applied_at m u (meanings args))) = subst (λ (o : Option Value). IfNone o (IsFalse (value_in_range (applied_at m u (meanings args))))) c.in-None.is c.in_ok-value.ensures.beyond in
    let value : applied_at m u (meanings args) ≡ val m u e =
    ap (applied_at m u) (args-values table c.know_table.ensures id c.requires.node m e c.requires.valid env ks args c.kids.ensures.terms are plain)
    ∙ sym (subst (λ cs. val m u (env_of table cs) ≡ applied_at m u (operand_values m (env_of table cs) u)) c.deref.ensures.value (c.in_default.ensures.none m plain)) in
    (c.requires.node, breaks-itself m e u plain (ap value_in_range (sym value) ∙ told))

-- ---- a quantified formula

pub truth_of_binder-returns-in_err-order_below-clause-beyond : goal.truth_of_binder-returns-in_err-order_below-clause-beyond
truth_of_binder-returns-in_err-order_below-clause-beyond t c =
    memory-told c.args.table.now (λ u. breaks (model_at c.args.table.now c.args.model.now) u (tree c.args.table.now c.args.id) (env_of c.args.table.now c.args.bindings.now.items)) c.from_residual.result c.from_residual.ensures.1

pub truth_of_binder-order_below-requires-clause-narrow : goal.truth_of_binder-order_below-requires-clause-narrow
truth_of_binder-order_below-requires-clause-narrow t c =
    let less = body-narrow c.args.table.now c.know_table.ensures c.args.id c.requires.node c.requires.quantified c.kids-kids.result.now c.kids-kids.ensures.terms c.kids-kids.ensures.below (record { 0 = 0 }) in
    let narrow = c.requires.narrow in
    omega (arith, less, narrow)

pub truth_of_binder-truth_of_choices-requires : goal.truth_of_binder-truth_of_choices-requires
truth_of_binder-truth_of_choices-requires t c =
    let table = c.args.table.now in
    let id = c.args.id in
    let ks = c.kids-kids.result.now in
    let d : NodeId = record { 0 = 0 } in
    let fine = c.know_table.ensures in
    let node = c.requires.node in
    let binder = c.requires.quantified in
    let are = c.kids-kids.ensures.terms in
    let under = c.kids-kids.ensures.below in
    let q : Quantified = record { universal = c.is_universal.result; body = get_or ks (length ks - 1) d; order = c.in_ok-order_below.field-0 } in
    let some = some-operand table fine id node binder ks are under in
    let long = length-take-le (length ks - 1) ks (omega arith) in
    let rank = rank-some (take (length ks - 1) ks) (omega (arith, some, long)) in
    let bits : bits_below table (take (length ks - 1) ks) q ≡ bits_bound (tree table id) = bits-are table fine id node binder ks are under q (body-is table fine id node binder ks are under d) in
    let narrow = c.requires.narrow in (
      search rules,
      (
        all-variables table fine id node binder ks are under,
        (
          record {
            node = body-node table fine id node binder ks are under d;
            sort = body-is-formula table fine id node binder ks are under d;
            order = subst (λ (ps : List (Place Value)). IsOrder table ps q.body q.order.items) c.new.ensures c.in_ok-order_below.ensures;
          },
          (omega (arith, bits, narrow), (c.requires.valid, c.requires.bindings)),
        ),
      ),
    )

pub truth_of_binder-returns-in_err-truth-clause-beyond : goal.truth_of_binder-returns-in_err-truth-clause-beyond
truth_of_binder-returns-in_err-truth-clause-beyond t c =
    let table = c.args.table.now in
    let m = model_at table c.args.model.now in
    let id = c.args.id in
    let ks = c.kids-kids.result.now in
    let d : NodeId = record { 0 = 0 } in
    let are = c.kids-kids.ensures.terms in
    let under = c.kids-kids.ensures.below in
    let q : Quantified = record { universal = c.is_universal.result; body = get_or ks (length ks - 1) d; order = c.in_ok-order_below.field-0 } in
    let e = env_of table c.args.bindings.now.items in
    let body = body-is table c.know_table.ensures id c.requires.node c.requires.quantified ks are under d in
    fault-told table (λ u. runs existential (variables_at table (take (length ks - 1) ks)) m.sizes (λ f. breaks m u (tree table q.body) f) e) (λ u. breaks m u (tree table id) e) c.in_err-truth.field-0.0 c.from_residual-in_err-truth.result
    (λ u b. sym (binder-breaks table c.know_table.ensures id c.requires.node c.requires.quantified ks are under q body m e u) ∙ b)
    c.in_err-truth.ensures.beyond c.from_residual-in_err-truth.ensures.1

pub truth_of_binder-returns-clause-truth : goal.truth_of_binder-returns-clause-truth
truth_of_binder-returns-clause-truth t c =
    let table = c.args.table.now in
    let id = c.args.id in
    let ks = c.kids-kids.result.now in
    let d : NodeId = record { 0 = 0 } in
    let are = c.kids-kids.ensures.terms in
    let under = c.kids-kids.ensures.below in
    let q : Quantified = record { universal = c.is_universal.result; body = get_or ks (length ks - 1) d; order = c.in_ok-order_below.field-0 } in
    let body = body-is table c.know_table.ensures id c.requires.node c.requires.quantified ks are under d in
    ap truth c.in_ok-truth.ensures.truth
    ∙ binder-value table c.know_table.ensures id c.requires.node c.requires.quantified ks are under q body (model_at table c.args.model.now) (env_of table c.args.bindings.now.items) c.is_universal.ensures

pub truth_of_binder-returns-clause-within : goal.truth_of_binder-returns-clause-within
truth_of_binder-returns-clause-within t c =
    let table = c.args.table.now in
    let id = c.args.id in
    let ks = c.kids-kids.result.now in
    let d : NodeId = record { 0 = 0 } in
    let are = c.kids-kids.ensures.terms in
    let under = c.kids-kids.ensures.below in
    let q : Quantified = record { universal = c.is_universal.result; body = get_or ks (length ks - 1) d; order = c.in_ok-order_below.field-0 } in
    let body = body-is table c.know_table.ensures id c.requires.node c.requires.quantified ks are under d in
    sym (binder-fits table c.know_table.ensures id c.requires.node c.requires.quantified ks are under q body (model_at table c.args.model.now) (env_of table c.args.bindings.now.items)) ∙ c.in_ok-truth.ensures.within

-- ---- a body

pub truth_of_body-value_all-requires : goal.truth_of_body-value_all-requires
truth_of_body-value_all-requires t c =
    let table = c.args.table.now in
    let m = model_at table c.args.model.now in
    let e = env_of table c.args.bindings.now.items in
    let q = c.args.quantified.now in
    let ks = c.new-kept.result in
    let none_kept = c.new-kept.ensures in
    let same = c.deref.ensures.value in
    let ordered = c.requires.body.order in
    let below : greatest_bound (terms (trees_at table c.deref.result.now)) ≤ bits_bound (tree table q.body) =
    subst (λ (is : List NodeId). greatest_bound (terms (trees_at table is)) ≤ bits_bound (tree table q.body)) (sym same) (bound-within table q.order.items (bits_bound (tree table q.body)) ordered.below) in (
      search rules,
      (
        c.requires.valid,
        (
          c.requires.bindings,
          (
            subst (λ (ps : List (Place Value)). AreBehind table ps c.deref.result.now) (sym none_kept) (subst (λ (is : List NodeId). AreBehind table [] is) (sym same) ordered.behind),
            subst (λ (ps : List (Place Value)). AreFound table m e ps c.new-found.result.entries) (sym none_kept) (subst (λ (ps : Found). AreFound table m e [] ps) (sym c.new-found.ensures.empty) (none-found table m e)),
          ),
        ),
      ),
    )

pub truth_of_body-value_of_node-requires-clause-known : goal.truth_of_body-value_of_node-requires-clause-known
truth_of_body-value_of_node-requires-clause-known t c =
    let q = c.args.quantified.now in
    let new = c.value_all.new.found.entries in
    let all : All (λ k. IsSome (known_at c.new-kept.result new k)) q.order.items = subst (λ (is : List NodeId). All (λ k. IsSome (known_at c.new-kept.result new k)) is) c.deref.ensures.value c.in_ok-value_all.ensures.all in
    elim c.requires.body.order.root_too [
      | inl kept ↦ absurd cc
      | inr there ↦ among (λ k. IsSome (known_at c.new-kept.result new k)) q.order.items q.body all there
    ]

pub truth_of_body-value_of_node-requires-clause-held : goal.truth_of_body-value_of_node-requires-clause-held
truth_of_body-value_of_node-requires-clause-held t c =
    are-held c.args.table.now (model_at c.args.table.now c.args.model.now) (env_of c.args.table.now c.args.bindings.now.items) c.new-kept.result c.value_all.new.found.entries c.in_ok-value_all.ensures.found

pub truth_of_body-returns-in_err-value-clause-beyond : goal.truth_of_body-returns-in_err-value-clause-beyond
truth_of_body-returns-in_err-value-clause-beyond t c =
    memory-told c.args.table.now (λ u. breaks (model_at c.args.table.now c.args.model.now) u (tree c.args.table.now c.args.quantified.now.body) (env_of c.args.table.now c.args.bindings.now.items)) c.from_residual-in_err-value.result c.from_residual-in_err-value.ensures.1

-- ---- one choice of the first variable

pub truth_of_choice-returns-in_err-enter-clause-beyond : goal.truth_of_choice-returns-in_err-enter-clause-beyond
truth_of_choice-returns-in_err-enter-clause-beyond t c =
    let table = c.args.table.now in
    let m = model_at table c.args.model.now in
    memory-told table (λ u. runs_with existential (variables_at table c.args.variables.now) m.sizes (λ e. breaks m u (tree table c.args.quantified.now.body) e) (env_of table c.args.bindings.now.items) c.args.number) c.from_residual.result c.from_residual.ensures.1

pub truth_of_choice-truth_of_choices-requires : goal.truth_of_choice-truth_of_choices-requires
truth_of_choice-truth_of_choices-requires t c =
    let table = c.args.table.now in
    let ks = c.args.variables.now in
    let q = c.args.quantified.now in
    let d : NodeId = record { 0 = 0 } in
    let some = c.requires.some in
    let rest = rest-is ks in
    let bits = bits-first table ks q some in
    let first = first-bits table ks d some in
    let one = some-bit table c.know_table.ensures (get_or ks 0 d) (c.requires.variables 0 d some) in
    let same : bits_below table (take (length ks - 1) (drop 1 ks)) q ≡ bits_below table (drop 1 ks) q = ap (λ (is : List NodeId). bits_below table is q) rest in
    let rank = rank-most (take (length ks - 1) (drop 1 ks)) in
    let narrow = c.requires.narrow in (
      search rules,
      (
        subst (All (IsVariable table)) (sym rest) (rest-all (IsVariable table) ks c.requires.variables),
        (
          c.requires.body,
          (
            omega (arith, same, bits, narrow),
            (
              c.requires.valid,
              subst (AreBindings table) (sym c.in_ok-enter.ensures) (All-append (IsBinding table) c.args.bindings.now.items (c.chosen.result ∷ []) c.requires.bindings (All-cons (IsBinding table) c.chosen.result [] c.chosen.ensures.binding (All-nil (IsBinding table)))),
            ),
          ),
        ),
      ),
    )

pub truth_of_choice-returns-in_err-truth-clause-beyond : goal.truth_of_choice-returns-in_err-truth-clause-beyond
truth_of_choice-returns-in_err-truth-clause-beyond t c =
    let table = c.args.table.now in
    let m = model_at table c.args.model.now in
    let ks = c.args.variables.now in
    let bs = c.args.bindings.now.items in
    let cs = c.enter.new.bindings.items in
    let body = tree table c.args.quantified.now.body in
    let same = runs-chosen table ks (record { 0 = 0 }) bs cs c.chosen.result c.args.number c.requires.some c.in_ok-enter.ensures c.chosen.ensures.symbol c.chosen.ensures.value existential m.sizes in
    fault-told table (λ u. runs existential (variables_at table (take (length ks - 1) (drop 1 ks))) m.sizes (λ e. breaks m u body e) (env_of table cs)) (λ u. runs_with existential (variables_at table ks) m.sizes (λ e. breaks m u body e) (env_of table bs) c.args.number) c.in_err-truth.field-0.0 c.from_residual-in_err-truth.result
    (λ u h. sym (same (λ e. breaks m u body e)) ∙ h) c.in_err-truth.ensures.beyond c.from_residual-in_err-truth.ensures.1

pub truth_of_choice-returns-clause-truth : goal.truth_of_choice-returns-clause-truth
truth_of_choice-returns-clause-truth t c =
    let table = c.args.table.now in
    let m = model_at table c.args.model.now in
    let q = quantifier_of c.args.quantified.now.universal in
    let test : Env → Bool = λ e. is_true (val m (tree table c.args.quantified.now.body) e) in
    c.in_ok-truth.ensures.truth
    ∙ runs-chosen table c.args.variables.now (record { 0 = 0 }) c.args.bindings.now.items c.enter.new.bindings.items c.chosen.result c.args.number c.requires.some c.in_ok-enter.ensures c.chosen.ensures.symbol c.chosen.ensures.value q m.sizes test

pub truth_of_choice-returns-clause-within : goal.truth_of_choice-returns-clause-within
truth_of_choice-returns-clause-within t c =
    let table = c.args.table.now in
    let m = model_at table c.args.model.now in
    let test : Env → Bool = λ e. fits m (tree table c.args.quantified.now.body) e in
    let same = runs-chosen table c.args.variables.now (record { 0 = 0 }) c.args.bindings.now.items c.enter.new.bindings.items c.chosen.result c.args.number c.requires.some c.in_ok-enter.ensures c.chosen.ensures.symbol c.chosen.ensures.value universal m.sizes test in
    sym same ∙ c.in_ok-truth.ensures.within

-- ---- all choices of the first variable

pub truth_of_choices-loop-number-init : goal.truth_of_choices-loop-number-init
unfolding over_elements
truth_of_choices-loop-number-init t c =
    let table = c.args.table.now in
    let m = model_at table c.args.model.now in
    let ks = c.args.variables.now in
    let q = c.args.quantified.now in
    let e = env_of table c.args.bindings.now.items in
    record {
      truth = none-chosen q.universal (λ n. runs_with (quantifier_of q.universal) (variables_at table ks) m.sizes (λ f. is_true (val m (tree table q.body) f)) e n);
      within = refl;
      bindings = refl;
    }

pub truth_of_choices-returns-in_err-truth-2-clause-beyond : goal.truth_of_choices-returns-in_err-truth-2-clause-beyond
truth_of_choices-returns-in_err-truth-2-clause-beyond t c =
    let table = c.args.table.now in
    let m = model_at table c.args.model.now in
    let ks = c.args.variables.now in
    let n = c.loop-number.number in
    let body = tree table c.args.quantified.now.body in
    let some = not-empty ks c.if-is_empty.ensures in
    let end = shifted table ks c.args.quantified.now (record { 0 = 0 }) c.bits_of-number-end.result some c.requires.narrow c.bits_of-number-end.ensures in
    let inside = c.loop-number-test.true in
    let within : n < 2 ^ first_bits table ks = omega (arith, end, inside) in
    fault-told table (λ u. runs_with existential (variables_at table ks) m.sizes (λ e. breaks m u body e) (env_of table c.loop-number.bindings.items) n) (λ u. runs existential (variables_at table ks) m.sizes (λ e. breaks m u body e) (env_of table c.args.bindings.now.items)) c.in_err-truth-2.field-0.0 c.from_residual-in_err-truth-2.result
    (λ u h. some-chosen table ks m.sizes (λ e. breaks m u body e) (env_of table c.args.bindings.now.items) n some c.requires.variables within
    (ap (λ bs. runs_with existential (variables_at table ks) m.sizes (λ e. breaks m u body e) (env_of table bs) n) (sym c.loop-number.invariant.bindings) ∙ h))
    c.in_err-truth-2.ensures.beyond c.from_residual-in_err-truth-2.ensures.1

pub truth_of_choices-loop-number-preserved : goal.truth_of_choices-loop-number-preserved
truth_of_choices-loop-number-preserved t c =
    let table = c.args.table.now in
    let m = model_at table c.args.model.now in
    let ks = c.args.variables.now in
    let n = c.loop-number.number in
    let q = quantifier_of c.args.quantified.now.universal in
    let body = tree table c.args.quantified.now.body in
    let e = env_of table c.args.bindings.now.items in
    let before = c.loop-number.invariant in
    let same = before.bindings in
    record {
      truth = next-chosen q n (λ i. runs_with q (variables_at table ks) m.sizes (λ f. is_true (val m body f)) e i) c.loop-number.joined c.in_ok-truth-2.truth c.join-joined.result before.truth
          (c.in_ok-truth-2.ensures.truth ∙ ap (λ bs. runs_with q (variables_at table ks) m.sizes (λ f. is_true (val m body f)) (env_of table bs) n) same) c.join-joined.ensures;
      within = sym (next-chosen universal n (λ i. runs_with universal (variables_at table ks) m.sizes (λ f. fits m body f) e i) true true true (sym before.within)
          (sym c.in_ok-truth-2.ensures.within ∙ ap (λ bs. runs_with universal (variables_at table ks) m.sizes (λ f. fits m body f) (env_of table bs) n) same) refl);
      bindings = c.in_ok-truth-2.ensures.bindings ∙ same;
    }

pub truth_of_choices-returns-clause-truth : goal.truth_of_choices-returns-clause-truth
truth_of_choices-returns-clause-truth t c =
    let table = c.args.table.now in
    let m = model_at table c.args.model.now in
    let ks = c.args.variables.now in
    let q = quantifier_of c.args.quantified.now.universal in
    let test : Env → Bool = λ e. is_true (val m (tree table c.args.quantified.now.body) e) in
    let e = env_of table c.args.bindings.now.items in
    let some = not-empty ks c.if-is_empty.ensures in
    let end = shifted table ks c.args.quantified.now (record { 0 = 0 }) c.bits_of-number-end.result some c.requires.narrow c.bits_of-number-end.ensures in
    let past = c.loop-number-test.false in
    let most = c.loop-number.auto.number-end in
    let last : c.loop-number.number ≡ 2 ^ first_bits table ks = omega (arith, end, past, most) in
    c.loop-number.invariant.truth
    ∙ ap (λ n. over_elements q n (λ i. runs_with q (variables_at table ks) m.sizes test e i)) last
    ∙ sym (runs-counted table ks q m.sizes test e some c.requires.variables)

pub truth_of_choices-returns-clause-within : goal.truth_of_choices-returns-clause-within
truth_of_choices-returns-clause-within t c =
    let table = c.args.table.now in
    let m = model_at table c.args.model.now in
    let ks = c.args.variables.now in
    let test : Env → Bool = λ e. fits m (tree table c.args.quantified.now.body) e in
    let e = env_of table c.args.bindings.now.items in
    let some = not-empty ks c.if-is_empty.ensures in
    let end = shifted table ks c.args.quantified.now (record { 0 = 0 }) c.bits_of-number-end.result some c.requires.narrow c.bits_of-number-end.ensures in
    let past = c.loop-number-test.false in
    let most = c.loop-number.auto.number-end in
    let last : c.loop-number.number ≡ 2 ^ first_bits table ks = omega (arith, end, past, most) in
    runs-counted table ks universal m.sizes test e some c.requires.variables
    ∙ ap (λ n. over_elements universal n (λ i. runs_with universal (variables_at table ks) m.sizes test e i)) (sym last)
    ∙ c.loop-number.invariant.within
