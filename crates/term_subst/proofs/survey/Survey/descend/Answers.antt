use Rattle.std.proofs.Common.{◌≡◌, ◌<◌, ◌++◌, ◌∷◌, List, map, refl, sym, ap, subst, ◌∙◌}
use Rattle.term_subst.specs.declared.survey.Inner.{Inner}
use Rattle.term_subst.specs.declared.survey.Scope.{Scope}
use Rattle.term_subst.specs.declared.survey.Task.{Task}
use Rattle.term_subst.specs.declared.survey.Task.TheVariants.{Visit, Leave, Close}
use Rattle.term_subst.specs.Steps.{load}
use Rattle.term_subst.specs.Surveying.{Surveys, tasks_at}
use Rattle.term_subst.proofs.NodesMade.{nodes-below}
use Rattle.term_subst.proofs.Surveyed.{binder-surveys, applied-surveys, applied-nearer}
use Rattle.term_subst.proofs.survey.Survey.descend.Goals as goal

pub returns-then-is_binder-clause-surveys : goal.returns-then-is_binder-clause-surveys
returns-then-is_binder-clause-surveys c = λ goal surveys.
    (let t = c.args.table.now in
    let x = c.args.self.now in
    let i : Inner = record { node = c.args.node; outer = c.replace-outer.result } in
    let binder = sym c.is_binder.ensures ∙ c.if-is_binder.true in
    let no_symbols = ap (λ (s : Scope). s.symbols.keys) c.replace-outer.ensures.after ∙ c.new.ensures.empty in
    let no_nodes = ap (λ (s : Scope). s.nodes.keys) c.replace-outer.ensures.after ∙ c.new-then-is_binder.ensures.empty in
    let after = binder-surveys t x.scope c.replace-outer.new.dest i c.args.node c.split.result.1 x.tasks goal refl c.replace-outer.ensures.value binder c.split.ensures.node c.split.ensures.body no_symbols no_nodes surveys in
    let tasks : c.push-then-is_binder.new.self ≡ Visit c.split.result.1 ∷ Close i ∷ x.tasks = c.in_ok-push-2.ensures.ok ∙ ap (λ ts. Visit c.split.result.1 ∷ ts) c.in_ok-push.ensures.ok in
    subst (λ (ts : List Task). Surveys t c.replace-outer.new.dest ts goal) (sym tasks) after)

pub returns-clause-surveys : goal.returns-clause-surveys
returns-clause-surveys c = λ goal surveys.
    (let t = c.args.table.now in
    let x = c.args.self.now in
    let ks = c.kids.result.now in
    let applied = sym c.is_binder.ensures ∙ c.if-is_binder.false in
    let nodes = nodes-below t c.args.node ks surveys.tasks_are.0 c.kids.ensures.below in
    let new : Scope = record { symbols = c.list_own.new.listed; nodes = x.scope.nodes } in
    let after = applied-surveys t x.scope new c.args.node ks x.tasks goal applied c.kids.ensures.terms nodes refl c.in_ok-list_own.ensures.names c.in_ok-list_own.ensures.symbols surveys in
    let tasks : c.push_visits.new.tasks ≡ map Visit ks ++ Leave c.args.node ∷ x.tasks = c.in_ok-push_visits.ensures ∙ ap (λ ts. map Visit ks ++ ts) c.in_ok-push-3.ensures.ok in
    subst (λ (ts : List Task). Surveys t new ts goal) (sym tasks) after)

pub returns-clause-nearer : goal.returns-clause-nearer
returns-clause-nearer c =
    let t = c.args.table.now in
    let x = c.args.self.now in
    let ks = c.kids.result.now in
    let applied = sym c.is_binder.ensures ∙ c.if-is_binder.false in
    let tasks : c.push_visits.new.tasks ≡ map Visit ks ++ Leave c.args.node ∷ x.tasks = c.in_ok-push_visits.ensures ∙ ap (λ ts. map Visit ks ++ ts) c.in_ok-push-3.ensures.ok in
    subst (λ (ts : List Task). load (tasks_at t ts) < load (tasks_at t (Visit c.args.node ∷ x.tasks))) (sym tasks) (applied-nearer t c.args.node ks x.tasks applied c.kids.ensures.terms)
