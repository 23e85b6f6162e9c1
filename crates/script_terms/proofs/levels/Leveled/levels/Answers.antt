use Rattle.script_terms.specs.Laid.{borrowed}
use Rattle.script_terms.proofs.Laying.{levels-cut}
use Rattle.script_terms.proofs.levels.Leveled.levels.Goals as goal

pub returns : goal.returns
returns g c = levels-cut c.self.inside.marks.items c.self.inside.levels (borrowed c.self.inside.entries.entries) c.args.self.now c.self.invariant c.self.view_is
