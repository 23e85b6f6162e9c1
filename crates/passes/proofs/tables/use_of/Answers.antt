use Rattle.std.proofs.Common.{◌∙◌, sym}
use Rattle.passes.proofs.FoundUses.{use_of-lookup}
use Rattle.passes.proofs.tables.use_of.Goals as goal

pub returns : goal.returns
returns c = c.get.ensures.value ∙ sym (use_of-lookup c.args.uses.now.entries c.args.constant)
