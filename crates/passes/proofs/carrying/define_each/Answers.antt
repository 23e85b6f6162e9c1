use Rattle.std.proofs.Common.{◌∙◌, ◌++◌, ◌≡◌, ◌∷◌, [], ap, subst, IfSome}
use Rattle.std.specs.Prelude.{option_to_list}
use Rattle.std.proofs.lemmas.List.Elements.{All-pop}
use Rattle.smt_terms.specs.declared.ids.SymId.{SymId}
use Rattle.smt_values.specs.declared.value.Value.{Value}
use Rattle.models.specs.ModelView.{model_at}
use Rattle.passes.specs.LiveSymbols.{IsValueFor}
use Rattle.passes.proofs.LiveStages.{values_for, define-more}
use Rattle.passes.proofs.carrying.define_each.Goals as goal

pub define-requires-clause-symbol : goal.define-requires-clause-symbol
define-requires-clause-symbol c =
    let P = IsValueFor c.args.table.now c.loop-symbol.model in
    (subst (λ o. IfSome o P) c.in-Some.is (All-pop P c.loop-symbol.values.items c.pop.new.self.items c.pop.result c.pop.ensures.items c.loop-symbol.invariant.each).1).0

pub define-requires-clause-value : goal.define-requires-clause-value
define-requires-clause-value c =
    let P = IsValueFor c.args.table.now c.loop-symbol.model in
    (subst (λ o. IfSome o P) c.in-Some.is (All-pop P c.loop-symbol.values.items c.pop.new.self.items c.pop.result c.pop.ensures.items c.loop-symbol.invariant.each).1).1

pub loop-symbol-preserved : goal.loop-symbol-preserved
loop-symbol-preserved c =
    let t = c.args.table.now in
    let old = c.loop-symbol.model in
    let left = c.pop.new.self.items in
    let entry : SymId × Value = (c.in-Some.symbol, c.in-Some.value) in
    let items : c.loop-symbol.values.items ≡ left ++ entry ∷ [] = c.pop.ensures.items ∙ ap (λ o. left ++ option_to_list o) c.in-Some.is in
    let done = c.in_ok-define.ensures in
    record {
      model = define-more t c.loop-symbol.values.items left entry items (model_at t old) (model_at t c.define.new.self) done.model ∙ c.loop-symbol.invariant.model;
      each = values_for t old c.define.new.self left done.sizes (All-pop (IsValueFor t old) c.loop-symbol.values.items left c.pop.result c.pop.ensures.items c.loop-symbol.invariant.each).0;
      valid = λ v. done.valid (c.loop-symbol.invariant.valid v);
      numbers = λ n. done.numbers (c.loop-symbol.invariant.numbers n);
    }
