use Rattle.std.proofs.Common.{◌≡◌, ◌<◌, ◌∷◌, List, sym, ap, subst, ◌∙◌}
use Rattle.smt_terms.specs.declared.ids.NodeId.{NodeId}
use Rattle.smt_terms.specs.Free.{free}
use Rattle.smt_terms.specs.Subst.{image, cut_to}
use Rattle.term_table.specs.Formulas.{tree}
use Rattle.term_subst.specs.declared.todo.Level.{Level}
use Rattle.term_subst.specs.declared.todo.Opened.{Opened}
use Rattle.term_subst.specs.declared.todo.Frame.{Frame}
use Rattle.term_subst.specs.declared.todo.Frame.TheVariants.{Visit, Close}
use Rattle.term_subst.specs.Maps.{Pairs, map_at, image_in}
use Rattle.term_subst.specs.Renaming.{Renames}
use Rattle.term_subst.specs.State.{Going, chosen_at, variables_at, steps_at, opening_at}
use Rattle.term_subst.specs.Steps.{Step, visit, close, body_of, load}
use Rattle.term_subst.specs.Substituting.{IsMap}
use Rattle.term_subst.proofs.Growing.{tree-grows, steps-grow}
use Rattle.term_subst.proofs.MapsAt.{images-same}
use Rattle.term_subst.proofs.Turning.{open-going, load-binder}
use Rattle.term_subst.proofs.machine.Machine.open.Goals as goal

pub rename-requires-clause-map : goal.rename-requires-clause-map
rename-requires-clause-map c = c.in_ok-map.ensures.within c.args.table.now (subst (IsMap c.args.table.now) (sym c.deref.ensures.value) c.requires.cut)

pub rename-requires-clause-images : goal.rename-requires-clause-images
rename-requires-clause-images c = λ f.
    (let t = c.args.table.now in
    let within = c.in_ok-map.ensures.within t (subst (IsMap t) (sym c.deref.ensures.value) c.requires.cut) in
    let same = λ (g : _). c.in_ok-map.ensures.images g ∙ ap (λ (ps : Pairs). image_in ps g) c.deref.ensures.value in
    images-same t c.split.ensures.table c.in_ok-map.map c.args.key.cut.items within c.requires.cut same f
    ∙ ap (λ (ps : Pairs). image (map_at t ps) f) (sym c.deref-2.ensures.value))

pub returns-clause-going : goal.returns-clause-going
returns-clause-going c = λ first end going.
    (let old = c.args.table.now in
    let new = c.rename.new.table in
    let x = c.args.self.now in
    let o : Opened = record { key = c.args.key; variables = c.in_ok-variables-2.variables; outer = c.replace-outer.result } in
    let ks = c.deref-3.result.now in
    let outside : o.outer ≡ x.level = c.replace-outer.ensures.value in
    let before = subst (λ (l : Level). Going old c.args.fresh.now first x.chosen l (Visit o.key.node ∷ x.todo) x.values.items x.findings end) (sym outside) going in
    let fits = c.requires.fits ∙ ap (λ (l : Level). cut_to (free (tree old c.args.key.node)) (map_at old l.map)) (sym outside) in
    let bound = ap (λ (js : List NodeId). variables_at old js) (c.deref-3.ensures.value ∙ c.in_ok-variables.ensures.items) ∙ c.split.ensures.bound in
    let renames = subst (λ (ps : Pairs). Renames old new ps ks o.variables.items c.rename.new.map c.args.fresh.now c.rename.new.fresh) c.deref-2.ensures.value c.in_ok-variables-2.ensures.renamed in
    let after =
    open-going old new c.in_ok-variables-2.ensures.gains.grows c.know_table.ensures c.args.fresh.now c.rename.new.fresh first x.chosen x.todo x.values.items x.findings c.rename.new.findings end o c.split.result.1 c.rename.new.map ks before
    c.requires.binder c.requires.cut fits c.requires.none bound c.split.ensures.node c.split.ensures.body renames c.in_ok-variables-2.ensures.gains.later c.in_ok-variables-2.ensures.findings
    c.replace-outer.new.dest (ap (λ (l : Level). l.map) c.replace-outer.ensures.after) (ap (λ (l : Level). l.kept) c.replace-outer.ensures.after ∙ c.new.ensures) in
    let todo : c.push-2.new.self ≡ Visit c.split.result.1 ∷ Close o ∷ x.todo = c.in_ok-push-2.ensures.ok ∙ ap (λ fs. Visit c.split.result.1 ∷ fs) c.in_ok-push.ensures.ok in
    subst (λ (fs : List Frame). Going new c.rename.new.fresh first x.chosen c.replace-outer.new.dest fs x.values.items c.rename.new.findings end) (sym todo) after)

pub returns-clause-nearer : goal.returns-clause-nearer
returns-clause-nearer c =
    let old = c.args.table.now in
    let new = c.rename.new.table in
    let x = c.args.self.now in
    let grows = c.in_ok-variables-2.ensures.gains.grows in
    let o : Opened = record { key = c.args.key; variables = c.in_ok-variables-2.variables; outer = c.replace-outer.result } in
    let todo : c.push-2.new.self ≡ Visit c.split.result.1 ∷ Close o ∷ x.todo = c.in_ok-push-2.ensures.ok ∙ ap (λ fs. Visit c.split.result.1 ∷ fs) c.in_ok-push.ensures.ok in
    let rest = steps-grow old new grows (chosen_at old x.chosen) c.requires.going.0 x.todo c.requires.going.2.frames.1 in
    let body = tree-grows old new grows c.split.result.1 c.split.ensures.node ∙ c.split.ensures.body in
    let steps : steps_at new c.push-2.new.self ≡ visit (body_of (tree old c.args.key.node)) ∷ close (opening_at new o) ∷ steps_at old x.todo =
    ap (steps_at new) todo ∙ (λ i. visit (body i) ∷ close (opening_at new o) ∷ rest i) in
    subst (λ (ss : List Step). load ss < load (steps_at old (Visit c.args.key.node ∷ x.todo))) (sym steps) (load-binder (tree old c.args.key.node) (opening_at new o) (steps_at old x.todo) c.requires.binder)
