use Rattle.std.proofs.Common.{◌≡◌, ◌++◌, ◌∷◌, [], List, Some, refl, sym, ap, subst, ◌∙◌}
use Rattle.smt_terms.specs.declared.ids.NodeId.{NodeId}
use Rattle.term_subst.specs.declared.todo.Frame.TheVariants.{Visit}
use Rattle.term_subst.specs.Keys.{chosen_in}
use Rattle.term_subst.specs.State.{Going}
use Rattle.term_subst.proofs.Turning.{found-going, known-going, put-going, chosen-known, chosen-node}
use Rattle.term_subst.proofs.machine.Machine.visit_binder.Goals as goal

pub returns-in_ok-push-in-Some-clause-going : goal.returns-in_ok-push-in-Some-clause-going
returns-in_ok-push-in-Some-clause-going c = λ first end going.
    (let t = c.args.table.now in
    let x = c.args.self.now in
    let k = c.args.node in
    let key = c.in_ok-key.key in
    let r = c.in-Some.result in
    let found : chosen_in x.chosen k key.cut.items ≡ Some r = ap (λ (n : NodeId). chosen_in x.chosen n key.cut.items) (sym c.in_ok-key.ensures.node) ∙ sym c.in-Some.ensures in
    let known = chosen-known t c.know_table.ensures x.chosen going.chosen x.level k going.frames.0.0 key.cut.items c.in_ok-key.ensures.cut c.in_ok-key.ensures.fits r c.requires.binder found in
    let node = chosen-node t x.chosen going.chosen k key.cut.items r found in
    let with_findings = found-going t c.args.fresh.now first x.chosen x.level x.todo x.values.items x.findings end k going c.key_of.new.findings c.in_ok-key.ensures.findings in
    let with_value = known-going t c.args.fresh.now first x.chosen x.level x.todo x.values.items c.key_of.new.findings end k with_findings r node known in
    let with_kept =
    put-going t c.args.fresh.now first x.chosen x.level (record { map = x.level.map; kept = c.put.new.self }) x.todo (x.values.items ++ r ∷ []) c.key_of.new.findings end k r
    (record { node = going.frames.0.0; image = node; known = known }) refl c.in_ok-put-in-Some.ensures with_value in
    subst (λ (vs : List NodeId). Going t c.args.fresh.now first x.chosen (record { map = x.level.map; kept = c.put.new.self }) x.todo vs c.key_of.new.findings end) (sym c.in_ok-push-in-Some.ensures.items) with_kept)

pub returns-in_ok-open-in-None-clause-going : goal.returns-in_ok-open-in-None-clause-going
returns-in_ok-open-in-None-clause-going c = λ first end going.
    (let t = c.args.table.now in
    let x = c.args.self.now in
    let with_findings = found-going t c.args.fresh.now first x.chosen x.level x.todo x.values.items x.findings end c.args.node going c.key_of.new.findings c.in_ok-key.ensures.findings in
    let at_key = subst (λ (n : NodeId). Going t c.args.fresh.now first x.chosen x.level (Visit n ∷ x.todo) x.values.items c.key_of.new.findings end) (sym c.in_ok-key.ensures.node) with_findings in
    c.in_ok-open-in-None.ensures.going first end at_key)
