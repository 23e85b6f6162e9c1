use Rattle.std.proofs.Common.{◌≡◌, ℕ, ◌++◌, Some, ap, sym, ◌∙◌}
use Rattle.std.specs.Prelude.{is_some}
use Rattle.smt_lex.specs.FormText.{form_text}
use Rattle.term_table.specs.Formulas.{tree}
use Rattle.smt_print.specs.DagSteps.{definitions_at}
use Rattle.smt_print.specs.TermForms.{definition_name}
use Rattle.smt_print.proofs.TreeTexts.{none-below, some-below}
use Rattle.smt_print.proofs.DagNodes.{known-has, number-is, leaf-reference, reference-text}
use Rattle.smt_print.proofs.dag.push_reference.Goals as goal

some_same : {m n : ℕ} → Some m ≡ Some n → m ≡ n
some_same e = cc

pub returns-then-is_empty : goal.returns-then-is_empty
returns-then-is_empty c =
    let u = tree c.args.table.now c.args.id in
    let leaf = none-below c.args.table.now u c.kids-kids.result.now c.is_empty.result c.is_empty.ensures c.if-is_empty.true c.kids-kids.ensures.terms in
    c.in_ok-push_head.ensures ∙ ap (λ f. c.args.text.now ++ form_text f) (leaf-reference (definitions_at c.args.table.now c.args.scopes.now.current) u leaf)

pub unwrap-requires : goal.unwrap-requires
unwrap-requires c =
    let t = c.args.table.now in
    let some = some-below t (tree t c.args.id) c.kids-kids.result.now c.is_empty.result c.is_empty.ensures c.if-is_empty.false c.kids-kids.ensures.terms in
    let has = known-has t c.args.scopes.now.current c.args.id c.kids-kids.ensures.table c.requires.scope.nodes c.requires.node some c.requires.known in
    ap is_some (number-is c.number.result c.args.scopes.now.current c.args.id c.number.ensures has)

pub returns : goal.returns
returns c =
    let t = c.args.table.now in
    let some = some-below t (tree t c.args.id) c.kids-kids.result.now c.is_empty.result c.is_empty.ensures c.if-is_empty.false c.kids-kids.ensures.terms in
    let has = known-has t c.args.scopes.now.current c.args.id c.kids-kids.ensures.table c.requires.scope.nodes c.requires.node some c.requires.known in
    let number = some_same (sym c.unwrap.ensures ∙ number-is c.number.result c.args.scopes.now.current c.args.id c.number.ensures has) in
    c.in_ok-push_name.ensures ∙ ap (λ n. c.args.text.now ++ definition_name n) number
    ∙ ap (λ xs. c.args.text.now ++ xs) (reference-text t c.args.scopes.now.current c.args.id c.kids-kids.ensures.table c.requires.scope.nodes c.requires.node some has)
