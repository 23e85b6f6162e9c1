use Rattle.array_forms.proofs.OverWrites.{makes-select}
use Rattle.array_forms.proofs.reading.selection.Goals as goal

pub intern-requires : goal.intern-requires
intern-requires c = makes-select c.args.table.now c.args.array c.args.index c.requires.array c.requires.index c.requires.sorted
