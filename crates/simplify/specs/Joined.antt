-- Operands of `and` and `or` one by one.
use Rattle.std.specs.Prelude.{Bool, not, ◌||◌, if◌then◌else◌, List}
use Rattle.std.specs.List.{list_any}
use Rattle.smt_terms.specs.declared.op.Op.{Op}
use Rattle.smt_terms.specs.declared.op.Op.TheVariants.{And, Or}
use Rattle.smt_terms.specs.Term.{Term}
use Rattle.smt_terms.specs.Equal.{term_eq}
use Rattle.smt_terms.specs.Connectives.{negated}
use Rattle.simplify.specs.Folding.{is_truth}

-- the operator of a neutral constant
abbrev pub operator : Bool → Op
operator neutral = if neutral then And else Or

-- whether a term is the `not` of one of these
abbrev pub denies : List Term → Term → Bool
denies ts u = list_any (λ t. term_eq (negated t) u) ts

-- whether it is the other constant or the `not` of one of these
abbrev pub is_clash : Bool → List Term → Term → Bool
is_clash neutral ts u = is_truth (not neutral) u || denies ts u
