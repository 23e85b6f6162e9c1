use Rattle.normal_forms.specs.Quantifiers.{shannon}
use Rattle.normal_forms.proofs.Keeps.{rewrites-as}
use Rattle.normal_forms.proofs.NoBool.{shannon-free}
use Rattle.normal_forms.proofs.ShannonInside.{shannon-inside}
use Rattle.normal_forms.proofs.ShannonRegular.{shannon-keeps}
use Rattle.normal_forms.proofs.laws.shannon_keeps_values.Goals as goal

pub returns : goal.returns
returns c = record { values = rewrites-as shannon shannon-keeps shannon-inside; shape = shannon-free }
