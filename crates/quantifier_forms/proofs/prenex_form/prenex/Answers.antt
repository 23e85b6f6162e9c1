use Rattle.std.proofs.Common.{◌≡◌, List, ap, sym, ◌∙◌, subst}
use Rattle.smt_terms.specs.Fresh.{Supply}
use Rattle.smt_terms.specs.Shapes.{is_prenex}
use Rattle.smt_terms.specs.Sorts.{Symbol}
use Rattle.smt_terms.specs.Term.{Term}
use Rattle.term_table.specs.Formulas.{tree}
use Rattle.term_subst.specs.Substituting.{NeverGivesGained}
use Rattle.term_subst.proofs.Gaining.{none-gained}
use Rattle.normal_forms.specs.Prenex.{prenex}
use Rattle.normal_forms.proofs.Turns.{prenex-shape}
use Rattle.quantifier_forms.specs.declared.pulling.Bound.{Bound}
use Rattle.quantifier_forms.specs.Pulling.{behind_fronts, fronts_at, all_turns}
use Rattle.quantifier_forms.proofs.Turned.{normal-spared}
use Rattle.quantifier_forms.proofs.prenex_form.prenex.Goals as goal

pub pull_all-requires-clause-names : goal.pull_all-requires-clause-names
pull_all-requires-clause-names c = normal-spared (tree c.args.table.now c.args.id) (tree c.normal.new.table c.in_ok-formula.formula) c.args.fresh.now c.in_ok-formula.ensures.term c.requires.names

pub returns-clause-term : goal.returns-clause-term
returns-clause-term c =
    c.in_ok-result.ensures.term
    ∙ ap (λ (bs : List Bound). behind_fronts (fronts_at c.pull_all.new.table bs) (tree c.pull_all.new.table c.in_ok-matrix.matrix)) c.deref.ensures.value
    ∙ ap (λ (r : Term × Supply). r.0) (sym c.in_ok-matrix.ensures.term)
    ∙ ap (λ u. (all_turns u c.args.fresh.now).0) c.in_ok-formula.ensures.term

pub returns-clause-left : goal.returns-clause-left
returns-clause-left c =
    ap (λ (r : Term × Supply). r.1) (sym c.in_ok-matrix.ensures.term)
    ∙ ap (λ u. (all_turns u c.args.fresh.now).1) c.in_ok-formula.ensures.term

pub returns-clause-shape : goal.returns-clause-shape
returns-clause-shape c =
    let term : tree c.close.new.table c.in_ok-result.result ≡ (prenex (tree c.args.table.now c.args.id) c.args.fresh.now).0 =
    c.in_ok-result.ensures.term
    ∙ ap (λ (bs : List Bound). behind_fronts (fronts_at c.pull_all.new.table bs) (tree c.pull_all.new.table c.in_ok-matrix.matrix)) c.deref.ensures.value
    ∙ ap (λ (r : Term × Supply). r.0) (sym c.in_ok-matrix.ensures.term)
    ∙ ap (λ u. (all_turns u c.args.fresh.now).0) c.in_ok-formula.ensures.term in
    ap is_prenex term ∙ prenex-shape (tree c.args.table.now c.args.id) c.args.fresh.now

pub returns-in_err-formula-clause-drawn : goal.returns-in_err-formula-clause-drawn
returns-in_err-formula-clause-drawn c = none-gained c.args.fresh.now c.args.table.now.symbols c.normal.new.table.symbols c.normal.ensures.symbols

pub returns-in_err-matrix-clause-drawn : goal.returns-in_err-matrix-clause-drawn
returns-in_err-matrix-clause-drawn c = subst (λ (fs : List Symbol). NeverGivesGained c.pull_all.new.fresh fs c.pull_all.new.table.symbols) c.normal.ensures.symbols c.pull_all.ensures.drawn

pub returns-in_err-result-clause-drawn : goal.returns-in_err-result-clause-drawn
returns-in_err-result-clause-drawn c =
    subst (NeverGivesGained c.pull_all.new.fresh c.args.table.now.symbols) (sym c.close.ensures.symbols)
    (subst (λ (fs : List Symbol). NeverGivesGained c.pull_all.new.fresh fs c.pull_all.new.table.symbols) c.normal.ensures.symbols c.pull_all.ensures.drawn)

pub returns-clause-drawn : goal.returns-clause-drawn
returns-clause-drawn c =
    subst (NeverGivesGained c.pull_all.new.fresh c.args.table.now.symbols) (sym c.close.ensures.symbols)
    (subst (λ (fs : List Symbol). NeverGivesGained c.pull_all.new.fresh fs c.pull_all.new.table.symbols) c.normal.ensures.symbols c.pull_all.ensures.drawn)
