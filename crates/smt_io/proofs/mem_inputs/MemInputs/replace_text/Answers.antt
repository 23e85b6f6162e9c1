use Rattle.std.proofs.lemmas.List.{map-set}
use Rattle.smt_io.proofs.mem_inputs.MemInputs.replace_text.Goals as goal

pub returns : goal.returns
returns c = rw (← c.self.view_is) (simp map-set)
