use Rattle.passes.proofs.RemovedGroups.{group-apart, group-places, group-over, group-goes}
use Rattle.passes.proofs.removing.Removal.remove.Goals as goal

pub keep_uses-requires : goal.keep_uses-requires
keep_uses-requires c =
    let e = c.in-Ok.ensures in
    record {
      places =
          group-places c.constants_are_new.ensures c.args.table.now c.assert.new.table e.grows c.args.fresh.now c.args.self.now c.requires.over c.args.id c.args.number c.in-Ok.group e.group
          c.assert.new.self e.levels;
      apart = group-apart c.constants_are_new.ensures c.args.table.now c.assert.new.table e.grows c.args.fresh.now c.args.self.now c.requires.over c.args.id c.args.number c.in-Ok.group e.group;
    }

pub returns-clause-over : goal.returns-clause-over
returns-clause-over c =
    let e = c.in-Ok.ensures in
    let kept = c.in_ok-keep_uses.ensures in
    group-over c.constants_are_new.ensures c.args.table.now c.assert.new.table e.grows c.args.fresh.now c.args.self.now c.requires.over c.args.id c.args.number c.in-Ok.group e.group
    (record { ack = c.assert.new.self; commands = c.spell.new.commands; steps = c.push.new.self; uses = c.keep_uses.new.uses })
    e.levels e.live e.open c.in_ok-spell.ensures kept.keys (λ earlier is. kept.keeps c.assert.new.table earlier e.live is) c.in_ok-push.ensures.items c.assert.new.fresh e.left

pub returns-clause-goes : goal.returns-clause-goes
returns-clause-goes c =
    let e = c.in-Ok.ensures in
    let kept = c.in_ok-keep_uses.ensures in
    group-goes c.constants_are_new.ensures c.args.table.now c.assert.new.table e.grows c.args.fresh.now c.args.self.now c.requires.over c.args.id c.args.number c.in-Ok.group e.group
    (record { ack = c.assert.new.self; commands = c.spell.new.commands; steps = c.push.new.self; uses = c.keep_uses.new.uses })
    e.levels e.live e.open c.in_ok-spell.ensures kept.keys (λ earlier is. kept.keeps c.assert.new.table earlier e.live is) c.in_ok-push.ensures.items c.assert.new.fresh e.left
