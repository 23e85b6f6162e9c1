use Rattle.std.proofs.Common.{List, ℕ, ◌++◌, ◌∷◌, [], refl, ap, sym, ◌∙◌, subst, append-nil, append_assoc}
use Rattle.smt_lex.specs.FormText.{form_text}
use Rattle.term_table.specs.Formulas.{tree}
use Rattle.smt_print.specs.declared.dag.Step.TheVariants.{Visit}
use Rattle.smt_print.specs.DagSteps.{LeadsFrom, definitions_at, end_text}
use Rattle.smt_print.specs.Prefix.{AppendsPrefix}
use Rattle.smt_print.specs.TermForms.{dag_form}
use Rattle.smt_print.proofs.Prefixes.{on_err, prefix-whole, prefix-piece, passed}
use Rattle.smt_print.proofs.DagTurns.{leads-whole-from, next-step, root-begun, scopes-begun, root-left}
use Rattle.smt_print.proofs.dag.print_dag.Goals as goal

pub loop-step-init : goal.loop-step-init
loop-step-init g c = record {
  scopes = scopes-begun c.args.table.now c.clear.new.self c.clear.ensures.current c.clear.ensures.outer;
  printed = (
    [],
    sym (append-nil (g.O.Output.text c.args.out.now)),
    root-begun c.args.table.now c.args.root c.clear.new.self c.push.new.self c.args.draft.now.text c.requires c.clear.ensures.current c.clear.ensures.outer
        (c.in_ok-push.ensures.ok ∙ ap (λ ss. Visit c.args.root ∷ ss) c.clear-2.ensures),
  );
}

pub take_step-requires-clause-standing : goal.take_step-requires-clause-standing
take_step-requires-clause-standing g c =
    let whole = c.args.draft.now.text ++ form_text (dag_form (tree c.args.table.now c.args.root)) in
    let (done, is, leads) = c.loop-step.invariant.printed in
    let before = done ++ c.loop-step.draft.text in
    (c.args.root, before, whole, next-step c.args.table.now c.args.root c.loop-step.draft.scopes c.loop-step.draft.dag (c.in-Some.step ∷ c.pop.new.self) before whole c.in-Some.ensures leads)

pub loop-step-preserved : goal.loop-step-preserved
loop-step-preserved g c =
    let t = c.args.table.now in
    let whole = c.args.draft.now.text ++ form_text (dag_form (tree t c.args.root)) in
    let (done, is, leads) = c.loop-step.invariant.printed in
    let (more, after, same) = c.in_ok-pass_on.ensures.ok in
    record {
      scopes = c.in_ok-take_step.ensures.scopes;
      printed = (
        done ++ more,
        after ∙ ap (λ xs. xs ++ more) is ∙ append_assoc (g.O.Output.text c.args.out.now) done more,
        subst (λ (xs : List ℕ). LeadsFrom t c.args.root c.take_step.new.scopes c.take_step.new.steps xs whole) (passed done c.take_step.new.text more c.pass_on.new.text same)
            (c.in_ok-take_step.ensures.leads c.args.root done whole
            (next-step t c.args.root c.loop-step.draft.scopes c.loop-step.draft.dag (c.in-Some.step ∷ c.pop.new.self) (done ++ c.loop-step.draft.text) whole c.in-Some.ensures leads)),
      );
    }

pub returns-in_err-take_step-clause-prefix : goal.returns-in_err-take_step-clause-prefix
returns-in_err-take_step-clause-prefix g c =
    let waits = c.loop-step.draft.text in
    let whole = c.args.draft.now.text ++ form_text (dag_form (tree c.args.table.now c.args.root)) in
    let (done, is, leads) = c.loop-step.invariant.printed in
    let (rest, all) = leads-whole-from c.args.table.now c.args.root c.loop-step.draft.scopes c.loop-step.draft.dag (done ++ waits) whole leads in
    on_err c.from_residual-in_err-take_step.result (AppendsPrefix (g.O.Output.text c.args.out.now) (g.O.Output.text c.loop-step.out) whole)
    (prefix-whole (g.O.Output.text c.args.out.now) (g.O.Output.text c.loop-step.out) done (waits ++ rest) whole is (sym (append_assoc done waits rest) ∙ all))

pub returns-in_err-pass_on-clause-prefix : goal.returns-in_err-pass_on-clause-prefix
returns-in_err-pass_on-clause-prefix g c =
    let t = c.args.table.now in
    let whole = c.args.draft.now.text ++ form_text (dag_form (tree t c.args.root)) in
    let (done, is, leads) = c.loop-step.invariant.printed in
    let more =
    c.in_ok-take_step.ensures.leads c.args.root done whole
    (next-step t c.args.root c.loop-step.draft.scopes c.loop-step.draft.dag (c.in-Some.step ∷ c.pop.new.self) (done ++ c.loop-step.draft.text) whole c.in-Some.ensures leads)
    in
    let (rest, all) = leads-whole-from t c.args.root c.take_step.new.scopes c.take_step.new.steps (done ++ c.take_step.new.text) whole more in
    on_err c.from_residual-in_err-pass_on.result (AppendsPrefix (g.O.Output.text c.args.out.now) (g.O.Output.text c.pass_on.new.out) whole)
    (prefix-piece (g.O.Output.text c.args.out.now) (g.O.Output.text c.loop-step.out) (g.O.Output.text c.pass_on.new.out) done c.take_step.new.text c.take_step.new.text rest whole
    is c.in_err-pass_on.ensures.prefix refl all)

pub returns-in_err-push_end-clause-prefix : goal.returns-in_err-push_end-clause-prefix
returns-in_err-push_end-clause-prefix g c =
    let waits = c.loop-step.draft.text in
    let whole = c.args.draft.now.text ++ form_text (dag_form (tree c.args.table.now c.args.root)) in
    let (done, is, leads) = c.loop-step.invariant.printed in
    let (rest, all) = leads-whole-from c.args.table.now c.args.root c.loop-step.draft.scopes c.loop-step.draft.dag (done ++ waits) whole leads in
    on_err c.from_residual-in_err-push_end.result (AppendsPrefix (g.O.Output.text c.args.out.now) (g.O.Output.text c.loop-step.out) whole)
    (prefix-whole (g.O.Output.text c.args.out.now) (g.O.Output.text c.loop-step.out) done (waits ++ rest) whole is (sym (append_assoc done waits rest) ∙ all))

pub returns-clause-ok : goal.returns-clause-ok
returns-clause-ok g c =
    let waits = c.loop-step.draft.text in
    let whole = c.args.draft.now.text ++ form_text (dag_form (tree c.args.table.now c.args.root)) in
    let (done, is, leads) = c.loop-step.invariant.printed in
    let last = end_text (definitions_at c.args.table.now c.loop-step.draft.scopes.current) (tree c.args.table.now c.args.root) in
    let (known, all) = root-left c.args.table.now c.args.root c.loop-step.draft.scopes c.loop-step.draft.dag (done ++ waits) whole c.in_default.ensures.0 leads in
    (done, is, ap (λ xs. done ++ xs) c.in_ok-push_end.ensures ∙ sym (append_assoc done waits last) ∙ all)
