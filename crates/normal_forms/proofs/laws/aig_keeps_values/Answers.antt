use Rattle.normal_forms.specs.Aig.{aig}
use Rattle.normal_forms.proofs.Aig.{aig-means}
use Rattle.normal_forms.proofs.AigShape.{aig-form, aig-regular}
use Rattle.normal_forms.proofs.Inside.{aig-inside}
use Rattle.normal_forms.proofs.Keeps.{aig-plain, keeps-all, rewrites-as}
use Rattle.normal_forms.proofs.laws.aig_keeps_values.Goals as goal

pub returns : goal.returns
returns c = record { values = rewrites-as aig (keeps-all aig aig-means aig-regular aig-plain) (λ t s has. aig-inside t); shape = aig-form }
