use Rattle.std.proofs.Common.{refl}
use Rattle.script_terms.proofs.Grown.{grown_self, later_self}
use Rattle.term_subst.proofs.Gaining.{none-gained}
use Rattle.passes.proofs.GroupingTurns.{numbers_with_group, commands_with_group, numbers_with_other, commands_with_other, left_with_other}
use Rattle.passes.proofs.PlannedSteps.{tells_group, tells_other}
use Rattle.passes.proofs.grouping.regroup.Goals as goal

pub returns-in_ok-spell-in-Assert-clause-numbers : goal.returns-in_ok-spell-in-Assert-clause-numbers
returns-in_ok-spell-in-Assert-clause-numbers g c =
    let e = c.in_ok-group-in-Assert.ensures in
    numbers_with_group g.G.Grouper.making c.args.table.now c.group.new.table e.grows c.args.commands.now c.requires.commands c.in-Assert.id c.in-Assert.number c.args.fresh.now c.in_ok-group-in-Assert.group e.group c.spell.new.commands c.in_ok-spell-in-Assert.ensures

pub returns-in_ok-spell-in-Assert-clause-commands : goal.returns-in_ok-spell-in-Assert-clause-commands
returns-in_ok-spell-in-Assert-clause-commands g c =
    let e = c.in_ok-group-in-Assert.ensures in
    commands_with_group g.G.Grouper.making c.args.table.now c.group.new.table e.grows c.args.commands.now c.requires.commands c.in-Assert.id c.in-Assert.number c.args.fresh.now c.in_ok-group-in-Assert.group e.group c.spell.new.commands c.in_ok-spell-in-Assert.ensures
    c.args.command c.in-Assert.is

pub returns-in_ok-spell-in-Assert-clause-step : goal.returns-in_ok-spell-in-Assert-clause-step
returns-in_ok-spell-in-Assert-clause-step g c =
    tells_group g.G.Grouper.making c.args.table.now c.group.new.table c.args.fresh.now c.in-Assert.id c.in-Assert.number c.in_ok-group-in-Assert.group c.args.command c.in-Assert.is c.in_ok-group-in-Assert.ensures.group

pub returns-in_ok-push-in_default : goal.returns-in_ok-push-in_default
returns-in_ok-push-in_default g c =
    let t = c.args.table.now in
    let s = c.args.fresh.now in
    let ks = c.args.commands.now in
    let d = c.args.command in
    let more = c.in_ok-push-in_default.ensures.ok in
    let told = c.of-step.ensures in
    record {
      numbers = numbers_with_other g.G.Grouper.making t ks d s c.push.new.self more c.requires.commands c.requires.command;
      commands = commands_with_other g.G.Grouper.making t ks d s c.push.new.self more c.in_default.not-Assert;
      left = left_with_other g.G.Grouper.making t d s c.in_default.not-Assert;
      step = tells_other g.G.Grouper.making t s d c.of-step.result c.in_default.not-Assert told.steps told.numbers;
      later = later_self s;
      drawn = none-gained s t.symbols t.symbols refl;
      grows = grown_self t;
    }
