use Rattle.std.proofs.Common.{◌++◌, List, ap, sym, ◌∙◌, subst}
use Rattle.std.proofs.lemmas.List.Elements.{All-nil}
use Rattle.smt_lex.specs.Forest.{after_at}
use Rattle.smt_terms.specs.Term.{Term}
use Rattle.term_table.specs.Formulas.{tree, trees_at, IsNode, AreNodes}
use Rattle.term_walk.proofs.Visits.{table-grows}
use Rattle.script_terms.specs.Known.{Shows}
use Rattle.script_terms.specs.Places.{form_from, forms_from}
use Rattle.script_terms.specs.Refusals.{mapped}
use Rattle.script_read.specs.Script.{live_of, literals_in}
use Rattle.script_read.specs.Steps.{one}
use Rattle.script_terms.proofs.Grown.{grown_self}
use Rattle.script_read.proofs.SessionSteps.{steps_refused, refuses_whole, stands_grown}
use Rattle.script_read.proofs.LiteralNodes.{no_literal, one_literal, literal_refused, last_literal, trees_more, nodes_more, assumption_refused, assumed}
use Rattle.script_read.proofs.session.literals.assume.Goals as goal

pub loop-table-init : goal.loop-table-init
loop-table-init c = record {
  within = c.requires.within;
  grows = grown_self c.args.table.now;
  nodes = subst (AreNodes c.args.table.now) (sym c.new-literals.ensures) (All-nil (λ k. IsNode c.args.table.now k));
  read = λ s stands. no_literal c.args.table.now c.new-literals.result (literals_in (live_of s) (forms_from c.args.forest.now.tokens c.args.i)) c.new-literals.ensures;
}

pub loop-table-preserved : goal.loop-table-preserved
loop-table-preserved c = record {
  within = c.after-at.ensures.within.1;
  grows = table-grows c.args.table.now c.loop-table.table c.read_literal.new.table c.loop-table.invariant.grows c.in_ok-literal.ensures.grows;
  nodes = nodes_more c.loop-table.table c.read_literal.new.table c.loop-table.literals c.push.new.self c.in_ok-literal.literal c.in_ok-literal.ensures.grows c.loop-table.invariant.nodes c.in_ok-literal.ensures.node c.in_ok-push.ensures.ok;
  read = λ s stands.
      let shows : Shows c.loop-table.table c.args.session.now.sofar.fresh c.args.session.now.sofar.scope s.sofar.live = (stands_grown c.args.table.now c.loop-table.table c.args.session.now s c.loop-table.invariant.grows stands).shows in
      one_literal (live_of s) (literals_in (live_of s) (forms_from c.args.forest.now.tokens c.args.i)) (trees_at c.loop-table.table c.loop-table.literals)
      (forms_from c.args.forest.now.tokens c.loop-table.at) (forms_from c.args.forest.now.tokens (after_at c.args.forest.now.tokens c.loop-table.at)) (form_from c.args.forest.now.tokens c.loop-table.at) (tree c.read_literal.new.table c.in_ok-literal.literal)
      (c.loop-table.invariant.read s stands) (c.begins.ensures.yes c.loop-table-test.true).forms (c.in_ok-literal.ensures.literal c.args.session.now.sofar.fresh s.sofar.live shows)
      ∙ ap (λ (ts : List Term). mapped (λ us. ts ++ us) (literals_in (live_of s) (forms_from c.args.forest.now.tokens (after_at c.args.forest.now.tokens c.loop-table.at))))
      (sym (trees_more c.loop-table.table c.read_literal.new.table c.loop-table.literals c.push.new.self c.in_ok-literal.literal c.in_ok-literal.ensures.grows c.loop-table.invariant.nodes c.in_ok-push.ensures.ok))
      ∙ ap (λ i. mapped (λ us. trees_at c.read_literal.new.table c.push.new.self ++ us) (literals_in (live_of s) (forms_from c.args.forest.now.tokens i))) (sym c.after-at.ensures.behind);
}

pub read_literal-requires-clause-known : goal.read_literal-requires-clause-known
read_literal-requires-clause-known c =
    (c.args.session.now.sofar.fresh, c.requires.known.0.sofar.live, (stands_grown c.args.table.now c.loop-table.table c.args.session.now c.requires.known.0 c.loop-table.invariant.grows c.requires.known.1).shows)

pub returns-in_err-literal-clause-step : goal.returns-in_err-literal-clause-step
returns-in_err-literal-clause-step c = λ s stands.
    let shows : Shows c.loop-table.table c.args.session.now.sofar.fresh c.args.session.now.sofar.scope s.sofar.live = (stands_grown c.args.table.now c.loop-table.table c.args.session.now s c.loop-table.invariant.grows stands).shows in
    steps_refused one c.read_literal.new.table _ _ c.from_residual.result c.in_err-literal.field-0.0 c.from_residual.ensures.1
    (refuses_whole _ _ c.in_err-literal.field-0.0
    (λ e refused. assumption_refused s (forms_from c.args.forest.now.tokens c.args.i) e
    (literal_refused (live_of s) (literals_in (live_of s) (forms_from c.args.forest.now.tokens c.args.i)) (trees_at c.loop-table.table c.loop-table.literals)
    (forms_from c.args.forest.now.tokens c.loop-table.at) (forms_from c.args.forest.now.tokens (after_at c.args.forest.now.tokens c.loop-table.at)) (form_from c.args.forest.now.tokens c.loop-table.at) e
    (c.loop-table.invariant.read s stands) (c.begins.ensures.yes c.loop-table-test.true).forms refused))
    (c.in_err-literal.ensures.literal c.args.session.now.sofar.fresh s.sofar.live shows))

pub returns-clause-step : goal.returns-clause-step
returns-clause-step c = λ s stands.
    assumed c.args.table.now c.loop-table.table c.args.session.now s (forms_from c.args.forest.now.tokens c.args.i) c.loop-table.literals stands c.loop-table.invariant.grows
    (last_literal (live_of s) (literals_in (live_of s) (forms_from c.args.forest.now.tokens c.args.i)) (trees_at c.loop-table.table c.loop-table.literals) (forms_from c.args.forest.now.tokens c.loop-table.at)
    (c.loop-table.invariant.read s stands) (c.begins.ensures.no c.loop-table-test.false))
