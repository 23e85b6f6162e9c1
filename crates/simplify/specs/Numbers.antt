-- The laws of the operators of theory Ints (SMT-LIB 2.6) over operands that are simplified already. The first line that applies
-- counts; none is where none applies.
use Rattle.std.specs.Prelude.{Bool, not, ◌||◌, if◌then◌else◌, List, [], ◌∷◌, ◌++◌, filter, ℤ, pos, negsuc, ◌+ℤ◌, ◌*ℤ◌, Option, Some, None}
use Rattle.std.specs.List.{list_any}
use Rattle.std.specs.Ordering.{int_eq}
use Rattle.smt_terms.specs.declared.op.Op.{Op}
use Rattle.smt_terms.specs.declared.op.Op.TheVariants.{Add, Mul}
use Rattle.smt_terms.specs.Term.{Term}
use Rattle.smt_terms.specs.Equal.{term_eq}
use Rattle.smt_terms.specs.Values.{Value, whole}
use Rattle.smt_terms.specs.Val.{within_range}
use Rattle.smt_terms.specs.Connectives.{truth_term}
use Rattle.smt_terms.specs.Constants.{whole_term, constant_value, is_constant}
use Rattle.simplify.specs.Folding.{is_whole, over_left}

-- the number of a constant, or else the neutral one
abbrev pub number_or : ℤ → Option Value → ℤ
number_or neutral (Some (whole n)) = n
number_or neutral _ = neutral

-- the constants among the operands taken together
abbrev pub together : (ℤ → ℤ → ℤ) → ℤ → List Term → ℤ
together f neutral [] = neutral
together f neutral (t ∷ ts) = f (number_or neutral (constant_value t)) (together f neutral ts)

-- a constant, unless it is the neutral one
abbrev pub unless_neutral : ℤ → ℤ → List Term
unless_neutral neutral n = if int_eq n neutral then [] else whole_term n ∷ []

-- the other operands in their order, and the constants' number behind them, where it is in the range
abbrev pub gathered : Op → ℤ → ℤ → List Term → Option Term
gathered o neutral n ts =
    if within_range n
    then Some (over_left o (whole_term neutral) (filter (λ t. not (is_constant t)) ts ++ unless_neutral neutral n))
    else None

abbrev pub addition : List Term → Option Term
addition ts = gathered Add (pos 0) (together ◌+ℤ◌ (pos 0) ts) ts

abbrev pub multiplication : List Term → Option Term
multiplication ts =
    if list_any (is_whole (pos 0)) ts then Some (whole_term (pos 0)) else
    gathered Mul (pos 1) (together ◌*ℤ◌ (pos 1) ts) ts

abbrev pub subtraction : Term → Term → Option Term
subtraction s t =
    if is_whole (pos 0) t then Some s else
    if term_eq s t then Some (whole_term (pos 0)) else None

abbrev pub division : Term → Term → Option Term
division s t = if is_whole (pos 1) t then Some s else None

abbrev pub remainder : Term → Term → Option Term
remainder s t = if is_whole (pos 1) t || is_whole (negsuc 0) t then Some (whole_term (pos 0)) else None

-- a comparison of an operand with itself, of integers or of bit vectors
abbrev pub with_itself : Bool → Term → Term → Option Term
with_itself b s t = if term_eq s t then Some (truth_term b) else None
