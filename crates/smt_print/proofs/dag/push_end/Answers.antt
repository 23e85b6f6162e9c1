use Rattle.std.proofs.Common.{◌++◌, replicate, length, ap, ◌≡◌, ◌∙◌, arith, append_assoc}
use Rattle.smt_lex.specs.FormText.{form_text}
use Rattle.term_table.specs.Formulas.{tree}
use Rattle.smt_print.specs.DagSteps.{definitions_at}
use Rattle.smt_print.specs.TermForms.{reference}
use Rattle.smt_print.proofs.DagNodes.{length-definitions}
use Rattle.smt_print.proofs.dag.push_end.Goals as goal

pub returns : goal.returns
returns c =
    let ds = definitions_at c.args.table.now c.args.scopes.now.current in
    let shown = form_text (reference ds (tree c.args.table.now c.args.id)) in
    let past = c.loop-test.false in
    let most = c.loop.auto.counter-end in
    let all : c.loop.counter ≡ length ds = omega (arith, c.len-end.ensures, length-definitions c.args.table.now c.args.scopes.now.current) in
    c.loop.invariant ∙ ap (λ xs. xs ++ replicate c.loop.counter 41) c.in_ok-push_reference.ensures ∙ append_assoc c.args.text.now shown (replicate c.loop.counter 41)
    ∙ ap (λ n. c.args.text.now ++ (shown ++ replicate n 41)) all
