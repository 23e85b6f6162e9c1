-- Making a term: no unary minus stands over an integer constant, since `(- 5)` is how SMT-LIB 2.6 (theory Ints) writes the
-- constant; wherever one would be made, the constant is meant.
use Rattle.std.specs.Prelude.{neg_ℤ}
use Rattle.smt_terms.specs.declared.op.Op.TheVariants.{Whole, Neg}
use Rattle.smt_terms.specs.Term.{Head, op, Term, apply, Terms, none, ◌⨾◌}

abbrev pub minus : Term → Term
minus (apply (op (Whole n)) none) = apply (op (Whole (neg_ℤ n))) none
minus t = apply (op Neg) (t ⨾ none)

-- the head over these operands
abbrev pub made : Head → Terms → Term
made (op Neg) (t ⨾ none) = minus t
made h ts = apply h ts
