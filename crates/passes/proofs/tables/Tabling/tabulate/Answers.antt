use Rattle.std.proofs.Common.{◌∙◌, ◌≡◌, ap, sym, subst, refl, true, false, List, IfSome, Some}
use Rattle.std.specs.List.{list_all, list_any}
use Rattle.smt_terms.specs.declared.ids.NodeId.{NodeId}
use Rattle.smt_terms.specs.Term.{Term}
use Rattle.smt_terms.specs.Val.{no_variables, fits}
use Rattle.term_table.specs.Formulas.{symbol_at, trees_at, tree}
use Rattle.models.specs.ModelView.{model_at}
use Rattle.evaluation.specs.Evaluated.{breaks}
use Rattle.passes.specs.declared.carrying.Beyond.{Beyond}
use Rattle.passes.specs.declared.tables.NewRow.{NewRow}
use Rattle.pass_laws.specs.LiveGroups.{Operands}
use Rattle.passes.specs.LiveRows.{operands_by, AreValuesIn}
use Rattle.passes.specs.Plans.{operands_at, IsUse}
use Rattle.passes.proofs.FoundUses.{operands_there}
use Rattle.passes.proofs.TabledTerms.{values_fit, row_made, row_fits, tabling_settled, tabling_row, tabling_beyond}
use Rattle.passes.proofs.tables.Tabling.tabulate.Goals as goal

pub returns-then-is_settled-clause-rows : goal.returns-then-is_settled-clause-rows
returns-then-is_settled-clause-rows c = λ gs is.
    let t = c.args.table.now in
    tabling_settled t c.args.model.now (operands_by t c.args.uses.now.entries) gs c.args.one c.args.self.now is (sym c.if-is_settled.ensures)

pub returns-in_ok-push-in-Ok-clause-rows : goal.returns-in_ok-push-in-Ok-clause-rows
returns-in_ok-push-in-Ok-clause-rows c = λ gs is.
    let t = c.args.table.now in
    let m = model_at t c.args.model.now in
    let es = c.args.uses.now.entries in
    let ops : Operands = operands_by t es in
    let one = c.args.one in
    let over = c.requires.one in
    let found = c.in-Some.found.now in
    let used : IsUse t one.term found = subst (λ o. IfSome o (IsUse t one.term)) (sym c.in-Some.ensures) c.requires.used.0 in
    let there : ops (symbol_at t one.symbol) ≡ trees_at t found.operands.items = operands_there t c.know_table.ensures one.symbol over.0 es ∙ ap (operands_at t) (sym c.in-Some.ensures) in
    let keys : AreValuesIn m (trees_at t found.operands.items) c.in-Ok.keys.items = subst (λ (ks : List NodeId). AreValuesIn m (trees_at t ks) c.in-Ok.keys.items) c.as_slice-operands.ensures.value c.in-Ok.ensures.values in
    let row : NewRow = record { function = found.function; keys = c.in-Ok.keys; value = c.in_ok-value-in-Ok.value } in
    let result = c.in_ok-value-in-Ok.ensures.value in
    tabling_row t c.args.model.now ops gs one c.args.self.now is
    (subst (λ (us : List Term). list_all (λ u. fits m u no_variables) us ≡ true) (sym there) (values_fit m (trees_at t found.operands.items) c.in-Ok.keys.items keys)) row
    (row_made t c.args.model.now one over found used ops there row refl keys result)
    (row_fits t c.args.model.now one over found used ops there row refl keys result (c.equal_formulas_have_one_number.ensures.sorted one.term over.1) c.in_ok-value-in-Ok.ensures.valid) _ refl
    c.in_ok-push-in-Ok.ensures.items

pub returns-in-Err-Beyond128-clause-rows : goal.returns-in-Err-Beyond128-clause-rows
returns-in-Err-Beyond128-clause-rows c = λ gs is.
    let t = c.args.table.now in
    let m = model_at t c.args.model.now in
    let es = c.args.uses.now.entries in
    let ops : Operands = operands_by t es in
    let one = c.args.one in
    let over = c.requires.one in
    let found = c.in-Some.found.now in
    let there : trees_at t c.as_slice-operands.result.now ≡ ops (symbol_at t one.symbol) =
    (ap (λ (ks : List NodeId). trees_at t ks) c.as_slice-operands.ensures.value ∙ ap (operands_at t) c.in-Some.ensures ∙ sym (operands_there t c.know_table.ensures one.symbol over.0 es)) in
    let beyond = rw c.in-Err-Beyond128.field-0-is at c.in-Err-Beyond128.ensures.values in
    tabling_beyond t c.args.model.now ops gs one c.args.self.now is (sym c.if-is_settled.ensures) c.in-Err-Beyond128.node
    (subst (λ (us : List Term). list_all (λ u. fits m u no_variables) us ≡ false) there beyond.0) beyond.1
    (subst (λ (us : List Term). list_any (λ u. breaks m (tree t c.in-Err-Beyond128.node) u no_variables) us ≡ true) there beyond.2) _
    (ap (λ (n : NodeId). let b : Beyond = record { assertion = one.assertion; node = n } in Some b) c.in-Err-Beyond128.node-is) refl
