use Rattle.std.proofs.Common.{◌<◌, List, [], ◌∷◌, length, Option, None, arith}
use Rattle.smt_terms.specs.declared.ids.NodeId.{NodeId}
use Rattle.smt_terms.specs.Term.{Term}
use Rattle.term_table.specs.Formulas.{Formulas, trees_at}
use Rattle.simplify.specs.Folding.{two}
use Rattle.simplify.specs.Reduced.{Answers}
use Rattle.simplify.specs.Vectors as vectors
use Rattle.simplify.proofs.vectors.multiplication.Goals as goal

too_few : (t : Formulas) (law : Term → Term → Option Term) (ks : List NodeId) → length ks < 2 → Answers t (two law (trees_at t ks)) None
too_few t law [] lt = tt
too_few t law (k ∷ []) lt = tt
too_few t law (k ∷ j ∷ ks) lt = absurd (omega arith)

pub returns-in_default : goal.returns-in_default
returns-in_default c = too_few c.args.table.now vectors.multiplication c.args.ids.now c.in_default.len_below
