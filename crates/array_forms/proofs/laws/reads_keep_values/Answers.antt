use Rattle.array_forms.proofs.ReadsKeep.{reads_keep}
use Rattle.array_forms.proofs.laws.reads_keep_values.Goals as goal

pub returns : goal.returns
returns c = reads_keep
