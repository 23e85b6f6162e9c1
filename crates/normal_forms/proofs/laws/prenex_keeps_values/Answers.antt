use Rattle.normal_forms.proofs.Turns.{prenex-rewrites, prenex-shape}
use Rattle.normal_forms.proofs.laws.prenex_keeps_values.Goals as goal

pub returns : goal.returns
returns c = record { values = prenex-rewrites; shape = prenex-shape }
