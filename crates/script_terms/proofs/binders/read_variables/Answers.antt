use Rattle.std.proofs.Common.{◌≡◌, ◌∷◌, ap, sym, ◌∙◌}
use Rattle.std.proofs.lemmas.List.Elements.{All-same, All-push}
use Rattle.smt_lex.specs.Forms.{◌⨾◌}
use Rattle.term_subst.specs.Names.{with_name}
use Rattle.term_walk.proofs.Visits.{table-grows}
use Rattle.script_terms.specs.BinderClauses.{binder_seen, IsSortedName}
use Rattle.script_terms.specs.Bound.{name_at, variable_seen, variables_seen}
use Rattle.script_terms.specs.Known.{sorts_known}
use Rattle.script_terms.specs.Places.{form_from, forms_from}
use Rattle.script_terms.specs.Variables.{variable_in}
use Rattle.script_terms.proofs.BinderReading.{variables-pushed, variables-fail, sorted_names_stay, same-more}
use Rattle.script_terms.proofs.SortReading.{follows-fail}
use Rattle.script_terms.proofs.binders.read_variables.Goals as goal

pub returns-in_err-variable-clause-variables : goal.returns-in_err-variable-clause-variables
returns-in_err-variable-clause-variables c =
    let inv = c.loop-alloc.invariant in
    let ts = c.args.forest.now.tokens in
    let i = c.loop-alloc.next in
    let b = binder_seen c.args.binder in
    let f = form_from ts i in
    follows-fail _ _ (variable_in b (sorts_known c.loop-alloc.table c.args.scope.now) inv.earlier f) (variable_seen c.read_variable.new.table ts) c.in_err-variable.field-0.0 c.from_residual.result c.from_residual.ensures.1 (c.in_err-variable.ensures.variable inv.earlier inv.known)
    (λ e variable.
    variables-fail c.args.table.now c.loop-alloc.table c.read_variable.new.table c.args.scope.now inv.grows.sorts c.read_variable.ensures.grows.sorts c.requires.scope ts b _ (forms_from ts i) _ f inv.earlier (variables_seen c.loop-alloc.table ts c.loop-alloc.variables.items) e inv.rest (c.begins.ensures.yes c.loop-alloc-test.true).forms variable)

pub loop-alloc-preserved : goal.loop-alloc-preserved
loop-alloc-preserved c =
    let inv = c.loop-alloc.invariant in
    let ts = c.args.forest.now.tokens in
    let i = c.loop-alloc.next in
    let b = binder_seen c.args.binder in
    let f = form_from ts i in
    let xs = c.loop-alloc.variables.items in
    let x = c.in_ok-variable.variable in
    let more = c.read_variable.ensures.grows.sorts in
    let u = c.loop-alloc.table in
    let v = c.read_variable.new.table in
    let forms : forms_from ts i ≡ f ⨾ forms_from ts c.after-next.result = (c.begins.ensures.yes c.loop-alloc-test.true).forms ∙ ap (λ n. f ⨾ forms_from ts n) (sym c.after-next.ensures.behind) in
    record {
      place = c.after-next.ensures.within.1;
      within = All-same (IsSortedName v ts) _ _ c.in_ok-push.ensures.items (All-push (IsSortedName v ts) xs x (sorted_names_stay u v more ts xs inv.within) c.in_ok-variable.ensures.within);
      earlier = name_at ts x.name ∷ inv.earlier;
      known = same-more inv.earlier c.loop-alloc.names c.add.new.self (name_at ts x.name) inv.known (c.in_ok-add.ensures.ok ∙ ap (with_name c.loop-alloc.names) c.name.ensures);
      rest = variables-pushed c.args.table.now u v c.args.scope.now inv.grows.sorts more c.requires.scope ts b _ (forms_from ts i) (forms_from ts c.after-next.result) f inv.earlier xs c.push.new.self.items x inv.within inv.rest forms (c.in_ok-variable.ensures.variable inv.earlier inv.known) c.in_ok-push.ensures.items;
      grows = table-grows c.args.table.now u v inv.grows c.read_variable.ensures.grows;
      symbols = c.read_variable.ensures.symbols ∙ inv.symbols;
      trees = c.read_variable.ensures.trees ∙ inv.trees;
    }
