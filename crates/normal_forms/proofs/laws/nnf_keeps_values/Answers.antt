use Rattle.normal_forms.specs.Nnf.{nnf}
use Rattle.normal_forms.proofs.Nnf.{nnf-means}
use Rattle.normal_forms.proofs.NnfShape.{nnf-shape, nnf-regular}
use Rattle.normal_forms.proofs.Inside.{nnf-inside}
use Rattle.normal_forms.proofs.Keeps.{nnf-plain, keeps-all, rewrites-as}
use Rattle.normal_forms.proofs.laws.nnf_keeps_values.Goals as goal

pub returns : goal.returns
returns c = record { values = rewrites-as nnf (keeps-all nnf nnf-means nnf-regular nnf-plain) (λ t s has. nnf-inside t); shape = nnf-shape }
