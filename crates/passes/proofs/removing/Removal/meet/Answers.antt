use Rattle.std.proofs.Common.{refl, Some}
use Rattle.script_terms.proofs.Grown.{grown_self, later_self}
use Rattle.term_subst.proofs.Gaining.{none-gained}
use Rattle.passes.proofs.OtherCommands.{formula-of, other-goes, refused-other}
use Rattle.passes.proofs.removing.Removal.meet.Goals as goal

pub remove-requires-clause-formula : goal.remove-requires-clause-formula
remove-requires-clause-formula c = formula-of c.args.table.now c.args.fresh.now c.args.command c.in-Assert.id c.in-Assert.number c.in-Assert.is c.requires.command c.requires.ready

pub returns-in_ok-keep-in_default : goal.returns-in_ok-keep-in_default
returns-in_ok-keep-in_default c =
    let t = c.args.table.now in
    let s = c.args.fresh.now in
    let old = c.args.self.now in
    let levels = c.in_ok-open_or_close-in_default.ensures in
    let kept = c.in_ok-keep-in_default.ensures in
    record {
      over = record {
        commands = kept.within c.requires.over.commands;
        steps = kept.numbers c.requires.over.steps;
        live = levels.live t c.requires.over.live;
        kept = c.requires.over.kept;
        names = c.requires.over.names;
        uses = kept.uses (Some old.uses.entries) c.requires.over.uses;
      };
      goes =
          other-goes t s c.args.command c.in_default.not-Assert old (record { ack = c.open_or_close.new.ack; commands = c.keep.new.commands; steps = c.keep.new.steps; uses = old.uses }) refl
          kept.commands kept.steps (levels.levels t s) (levels.open t);
      refused = refused-other t c.args.command c.in_default.not-Assert;
      later = later_self s;
      drawn = none-gained s t.symbols t.symbols refl;
      grows = grown_self t;
    }
