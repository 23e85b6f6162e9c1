use Rattle.std.proofs.Common.{◌∷◌, subst}
use Rattle.term_subst.specs.declared.todo.Frame.{Frame}
use Rattle.term_subst.specs.Running.{Runs}
use Rattle.term_subst.proofs.Gaining.{gains-nodes}
use Rattle.term_subst.proofs.Turning.{built-nearer, closed-nearer}
use Rattle.term_subst.proofs.machine.Machine.turn.Goals as goal

pub returns-in_ok-visit-in-Visit-clause-going : goal.returns-in_ok-visit-in-Visit-clause-going
returns-in_ok-visit-in-Visit-clause-going c = λ first end going.
    c.in_ok-visit-in-Visit.ensures.going first end (subst (λ (g : Frame). Runs c.args.table.now c.args.fresh.now first c.args.self.now (g ∷ c.args.self.now.todo) end) c.in-Visit.is going)

pub returns-in_ok-build-in-Build-clause-going : goal.returns-in_ok-build-in-Build-clause-going
returns-in_ok-build-in-Build-clause-going c = λ first end going.
    c.in_ok-build-in-Build.ensures.going c.args.fresh.now first end (subst (λ (g : Frame). Runs c.args.table.now c.args.fresh.now first c.args.self.now (g ∷ c.args.self.now.todo) end) c.in-Build.is going)

pub returns-in_ok-build-in-Build-clause-nearer : goal.returns-in_ok-build-in-Build-clause-nearer
returns-in_ok-build-in-Build-clause-nearer c =
    let x = c.args.self.now in
    let old = c.args.table.now in
    let new = c.build.new.table in
    let names = c.args.fresh.now in
    let grows = (gains-nodes old new names c.in_ok-build-in-Build.ensures.grows.grows c.in_ok-build-in-Build.ensures.symbols c.in_ok-build-in-Build.ensures.sorts).grows in
    built-nearer old new grows names c.requires.going.0 x.chosen x.level c.args.frame x.todo x.values.items x.findings c.requires.going.1 c.requires.going.2 c.build.new.self.todo c.in_ok-build-in-Build.ensures.todo c.in-Build.node c.in-Build.is

pub returns-in_ok-close-in-Close-clause-going : goal.returns-in_ok-close-in-Close-clause-going
returns-in_ok-close-in-Close-clause-going c = λ first end going.
    c.in_ok-close-in-Close.ensures.going c.args.fresh.now first end (subst (λ (g : Frame). Runs c.args.table.now c.args.fresh.now first c.args.self.now (g ∷ c.args.self.now.todo) end) c.in-Close.is going)

pub returns-in_ok-close-in-Close-clause-nearer : goal.returns-in_ok-close-in-Close-clause-nearer
returns-in_ok-close-in-Close-clause-nearer c =
    let x = c.args.self.now in
    let old = c.args.table.now in
    let new = c.close.new.table in
    let names = c.args.fresh.now in
    let grows = (gains-nodes old new names c.in_ok-close-in-Close.ensures.grows.grows c.in_ok-close-in-Close.ensures.symbols c.in_ok-close-in-Close.ensures.sorts).grows in
    closed-nearer old new grows names c.requires.going.0 x.chosen x.level c.args.frame x.todo x.values.items x.findings c.requires.going.1 c.requires.going.2 c.close.new.self.todo c.in_ok-close-in-Close.ensures.todo c.in-Close.opened c.in-Close.is
