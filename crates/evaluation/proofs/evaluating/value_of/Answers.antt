use Rattle.std.proofs.Common.{List, All, IsSome, ap, sym, subst}
use Rattle.std.proofs.lemmas.Result.{err_from_is_err_and}
use Rattle.smt_terms.specs.declared.ids.NodeId.{NodeId}
use Rattle.smt_terms.specs.Term.{terms}
use Rattle.smt_terms.specs.Val.{Env, no_variables}
use Rattle.term_table.specs.Formulas.{tree, trees_at}
use Rattle.models.specs.ModelView.{model_at}
use Rattle.evaluation.specs.Bindings.{env_of}
use Rattle.evaluation.specs.Evaluated.{any_breaks}
use Rattle.evaluation.specs.KeptValues.{Found, known_at, AreFound}
use Rattle.evaluation.specs.declared.bindings.Binding.{Binding}
use Rattle.evaluation.specs.Orders.{Breaks}
use Rattle.evaluation.proofs.Evaluations.{kept-found, root-known, fault-told}
use Rattle.evaluation.proofs.FoundValues.{are-held}
use Rattle.evaluation.proofs.evaluating.value_of.Goals as goal

pub value_all-requires-clause-found : goal.value_all-requires-clause-found
value_all-requires-clause-found c =
    let t = c.args.table.now in
    let m = model_at t c.args.model.now in
    subst (λ (bs : List Binding). AreFound t m (env_of t bs) c.args.kept.now c.new-found.result.entries) (sym c.new-bindings.ensures.items)
    (subst (λ (ps : Found). AreFound t m no_variables c.args.kept.now ps) (sym c.new-found.ensures.empty) (kept-found t m c.args.kept.now c.requires.kept))

pub returns-in_err-value_all-clause-value : goal.returns-in_err-value_all-clause-value
returns-in_err-value_all-clause-value c =
    let t = c.args.table.now in
    let m = model_at t c.args.model.now in
    let order = c.in_ok-order.ensures in
    let told = err_from_is_err_and c.from_residual-in_err-value_all.result c.from_residual-in_err-value_all.ensures.1 in
    let below = subst (λ (ks : List NodeId). Breaks t (λ v. any_breaks m v (terms (trees_at t ks)) (env_of t c.new-bindings.result.items)) c.in_err-value_all.field-0.0) c.deref.ensures.value c.in_err-value_all.ensures.beyond in
    let found = subst (λ (e : Env). Breaks t (λ v. any_breaks m v (terms (trees_at t c.in_ok-order.order.items)) e) c.in_err-value_all.field-0.0) (ap (env_of t) c.new-bindings.ensures.items) below in
    let fault = fault-told t m (tree t c.args.id) (λ v. any_breaks m v (terms (trees_at t c.in_ok-order.order.items)) no_variables) (λ v b. order.breaks_too m no_variables v b) c.in_err-value_all.field-0.0 found in
    rw (told.1, told.2) fault

pub value_of_node-requires-clause-known : goal.value_of_node-requires-clause-known
value_of_node-requires-clause-known c =
    let t = c.args.table.now in
    let kept = c.args.kept.now in
    let found = c.value_all.new.found.entries in
    let all : All (λ k. IsSome (known_at kept found k)) c.in_ok-order.order.items = subst (λ (ks : List NodeId). All (λ k. IsSome (known_at kept found k)) ks) c.deref.ensures.value c.in_ok-value_all.ensures.all in
    root-known t kept found c.args.id c.in_ok-order.order.items c.in_ok-order.ensures all

pub value_of_node-requires-clause-held : goal.value_of_node-requires-clause-held
value_of_node-requires-clause-held c =
    let t = c.args.table.now in
    are-held t (model_at t c.args.model.now) (env_of t c.new-bindings.result.items) c.args.kept.now c.value_all.new.found.entries c.in_ok-value_all.ensures.found

pub returns-in_err-keep_all-clause-kept : goal.returns-in_err-keep_all-clause-kept
returns-in_err-keep_all-clause-kept c =
    let t = c.args.table.now in
    let m = model_at t c.args.model.now in
    c.keep_all.ensures.values t m c.requires.kept (subst (λ (e : Env). AreFound t m e c.args.kept.now c.value_all.new.found.entries) (ap (env_of t) c.new-bindings.ensures.items) c.in_ok-value_all.ensures.found)

pub returns-clause-value : goal.returns-clause-value
returns-clause-value c =
    let t = c.args.table.now in
    let m = model_at t c.args.model.now in
    c.in_ok-value.ensures t m no_variables (subst (λ (e : Env). AreFound t m e c.args.kept.now c.value_all.new.found.entries) (ap (env_of t) c.new-bindings.ensures.items) c.in_ok-value_all.ensures.found)

pub returns-clause-kept : goal.returns-clause-kept
returns-clause-kept c =
    let t = c.args.table.now in
    let m = model_at t c.args.model.now in
    c.keep_all.ensures.values t m c.requires.kept (subst (λ (e : Env). AreFound t m e c.args.kept.now c.value_all.new.found.entries) (ap (env_of t) c.new-bindings.ensures.items) c.in_ok-value_all.ensures.found)

pub returns-clause-here : goal.returns-clause-here
returns-clause-here c =
    let t = c.args.table.now in
    let kept = c.args.kept.now in
    let found = c.value_all.new.found.entries in
    let all : All (λ k. IsSome (known_at kept found k)) c.in_ok-order.order.items = subst (λ (ks : List NodeId). All (λ k. IsSome (known_at kept found k)) ks) c.deref.ensures.value c.in_ok-value_all.ensures.all in
    c.in_ok-keep_all.ensures.all c.args.id (root-known t kept found c.args.id c.in_ok-order.order.items c.in_ok-order.ensures all)
