use Rattle.normal_forms.proofs.SelfSubstituted.{selfsub-rewrites}
use Rattle.normal_forms.proofs.SelfSubShape.{selfsub-no_bool}
use Rattle.normal_forms.proofs.laws.selfsub_keeps_values.Goals as goal

pub returns : goal.returns
returns c = record { values = selfsub-rewrites; shape = selfsub-no_bool }
