use Rattle.std.proofs.Common.{◌≡◌, ◌<◌, ◌++◌, ◌∷◌, List, map, sym, ap, subst, ◌∙◌}
use Rattle.smt_terms.specs.declared.ids.NodeId.{NodeId}
use Rattle.term_table.specs.Formulas.{tree}
use Rattle.term_subst.specs.declared.todo.Frame.{Frame}
use Rattle.term_subst.specs.declared.todo.Frame.TheVariants.{Visit, Build}
use Rattle.term_subst.specs.State.{Going, steps_at}
use Rattle.term_subst.specs.Steps.{load}
use Rattle.term_subst.proofs.NodesMade.{nodes-below}
use Rattle.term_subst.proofs.Turning.{kept-going, operands-going, operands-load}
use Rattle.term_subst.proofs.Turns.{load-some}
use Rattle.term_subst.proofs.machine.Machine.visit.Goals as goal

pub returns-in-Some-clause-going : goal.returns-in-Some-clause-going
returns-in-Some-clause-going c = λ first end going.
    (let t = c.args.table.now in
    let x = c.args.self.now in
    let after = kept-going t c.args.fresh.now first x.chosen x.level x.todo x.values.items x.findings end c.args.node going c.in-Some.result.now (sym c.in-Some.ensures) in
    subst (λ (vs : List NodeId). Going t c.args.fresh.now first x.chosen x.level x.todo vs x.findings end) (sym c.in_ok-push.ensures.items) after)

pub returns-in-Some-clause-nearer : goal.returns-in-Some-clause-nearer
returns-in-Some-clause-nearer c = load-some (tree c.args.table.now c.args.node) (steps_at c.args.table.now c.args.self.now.todo)

pub returns-clause-going : goal.returns-clause-going
returns-clause-going c = λ first end going.
    (let t = c.args.table.now in
    let x = c.args.self.now in
    let ks = c.kids.result.now in
    let applied = sym c.is_binder.ensures ∙ c.if-is_binder.false in
    let nodes = nodes-below t c.args.node ks going.frames.0.0 c.kids.ensures.below in
    let after = operands-going t c.args.node ks x.todo applied c.kids.ensures.terms c.args.fresh.now first x.chosen x.level x.values.items x.findings end nodes going in
    let todo : c.push_visits.new.todo ≡ map Visit ks ++ Build c.args.node ∷ x.todo = c.in_ok-push_visits.ensures ∙ ap (λ fs. map Visit ks ++ fs) c.in_ok-push-2.ensures.ok in
    subst (λ (fs : List Frame). Going t c.args.fresh.now first x.chosen x.level fs x.values.items x.findings end) (sym todo) after)

pub returns-clause-nearer : goal.returns-clause-nearer
returns-clause-nearer c =
    let t = c.args.table.now in
    let x = c.args.self.now in
    let ks = c.kids.result.now in
    let applied = sym c.is_binder.ensures ∙ c.if-is_binder.false in
    let todo : c.push_visits.new.todo ≡ map Visit ks ++ Build c.args.node ∷ x.todo = c.in_ok-push_visits.ensures ∙ ap (λ fs. map Visit ks ++ fs) c.in_ok-push-2.ensures.ok in
    subst (λ (fs : List Frame). load (steps_at t fs) < load (steps_at t (Visit c.args.node ∷ x.todo))) (sym todo) (operands-load t c.args.node ks x.todo applied c.kids.ensures.terms)
