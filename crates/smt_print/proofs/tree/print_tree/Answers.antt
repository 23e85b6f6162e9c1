use Rattle.std.proofs.Common.{◌++◌, [], refl, ap, sym, ◌∙◌, subst, List, ℕ, append-nil, append_assoc}
use Rattle.smt_lex.specs.FormText.{form_text}
use Rattle.term_table.specs.Formulas.{tree}
use Rattle.smt_print.specs.Prefix.{AppendsPrefix}
use Rattle.smt_print.specs.TermForms.{tree_form}
use Rattle.smt_print.specs.TreeSteps.{Leads}
use Rattle.smt_print.proofs.Prefixes.{on_err, prefix-whole, prefix-piece, passed}
use Rattle.smt_print.proofs.TreeTexts.{leads-whole, leads-ended, next-step, root-begun}
use Rattle.smt_print.proofs.tree.print_tree.Goals as goal

pub loop-step-init : goal.loop-step-init
loop-step-init g c =
    let t = c.args.table.now in
    let whole = c.args.draft.now.text ++ form_text (tree_form (tree t c.args.root)) in
    record { printed = ([], sym (append-nil (g.O.Output.text c.args.out.now)), c.in_ok-open_term.ensures.leads [] whole (root-begun t (tree t c.args.root) c.clear.new.self c.args.draft.now.text c.clear.ensures)) }

pub loop-step-preserved : goal.loop-step-preserved
loop-step-preserved g c =
    let t = c.args.table.now in
    let whole = c.args.draft.now.text ++ form_text (tree_form (tree t c.args.root)) in
    let (done, is, leads) = c.loop-step.invariant.printed in
    let (more, after, same) = c.in_ok-pass_on.ensures.ok in
    record {
      printed = (
        done ++ more,
        after ∙ ap (λ xs. xs ++ more) is ∙ append_assoc (g.O.Output.text c.args.out.now) done more,
        subst (λ (xs : List ℕ). Leads t c.take_step.new.steps xs whole) (passed done c.take_step.new.text more c.pass_on.new.text same)
            (c.in_ok-take_step.ensures.leads done whole (next-step t c.loop-step.draft.tree c.pop.new.self c.in-Some.step (done ++ c.loop-step.draft.text) whole c.in-Some.ensures leads)),
      );
    }

pub returns-in_err-take_step-clause-prefix : goal.returns-in_err-take_step-clause-prefix
returns-in_err-take_step-clause-prefix g c =
    let t = c.args.table.now in
    let whole = c.args.draft.now.text ++ form_text (tree_form (tree t c.args.root)) in
    let (done, is, leads) = c.loop-step.invariant.printed in
    let rest = leads-whole t c.loop-step.draft.tree (done ++ c.loop-step.draft.text) whole leads in
    on_err c.from_residual-in_err-take_step.result (AppendsPrefix (g.O.Output.text c.args.out.now) (g.O.Output.text c.loop-step.out) whole)
    (prefix-whole (g.O.Output.text c.args.out.now) (g.O.Output.text c.loop-step.out) done (c.loop-step.draft.text ++ rest.0) whole is (sym (append_assoc done c.loop-step.draft.text rest.0) ∙ rest.1))

pub returns-in_err-pass_on-clause-prefix : goal.returns-in_err-pass_on-clause-prefix
returns-in_err-pass_on-clause-prefix g c =
    let t = c.args.table.now in
    let whole = c.args.draft.now.text ++ form_text (tree_form (tree t c.args.root)) in
    let (done, is, leads) = c.loop-step.invariant.printed in
    let more = c.in_ok-take_step.ensures.leads done whole (next-step t c.loop-step.draft.tree c.pop.new.self c.in-Some.step (done ++ c.loop-step.draft.text) whole c.in-Some.ensures leads) in
    let rest = leads-whole t c.take_step.new.steps (done ++ c.take_step.new.text) whole more in
    on_err c.from_residual-in_err-pass_on.result (AppendsPrefix (g.O.Output.text c.args.out.now) (g.O.Output.text c.pass_on.new.out) whole)
    (prefix-piece (g.O.Output.text c.args.out.now) (g.O.Output.text c.loop-step.out) (g.O.Output.text c.pass_on.new.out) done c.take_step.new.text c.take_step.new.text rest.0 whole
    is c.in_err-pass_on.ensures.prefix refl rest.1)

pub returns-clause-ok : goal.returns-clause-ok
returns-clause-ok g c =
    let t = c.args.table.now in
    let whole = c.args.draft.now.text ++ form_text (tree_form (tree t c.args.root)) in
    let (done, is, leads) = c.loop-step.invariant.printed in
    (done, is, leads-ended t c.loop-step.draft.tree (done ++ c.loop-step.draft.text) whole c.in_default.ensures.0 leads)
