-- The laws of `select` and `store` (SMT-LIB 2.6, theory ArraysEx) over operands that are simplified already.
use Rattle.std.specs.Prelude.{◌&&◌, if◌then◌else◌}
use Rattle.smt_terms.specs.declared.op.Op.TheVariants.{Store}
use Rattle.smt_terms.specs.Term.{op, const_array, Term, apply, none, ◌⨾◌}
use Rattle.smt_terms.specs.ArrayTerms.{selected, stored}
use Rattle.smt_terms.specs.Equal.{op_eq, term_eq}
use Rattle.smt_terms.specs.Constants.{are_different_constants}

-- an element: of a constant array its value; where the array has just been stored to, the stored value at the same index, and
-- where both indices are constants and differ the element, found in the same way, of the array before
abbrev pub selection : Term → Term → Term
selection (apply (const_array s) (v ⨾ none)) j = v
selection (apply (op o) (a ⨾ i ⨾ v ⨾ none)) j =
    if op_eq o Store && term_eq i j then v else
    if op_eq o Store && are_different_constants i j then selection a j else
    selected (apply (op o) (a ⨾ i ⨾ v ⨾ none)) j
selection a j = selected a j

-- an element that is there already
abbrev pub storing_anew : Term → Term → Term → Term
storing_anew a i v = if term_eq v (selected a i) then a else stored a i v

-- of two stores at one index the later one counts
abbrev pub storing : Term → Term → Term → Term
storing (apply (op o) (a ⨾ j ⨾ w ⨾ none)) i v =
    if op_eq o Store && term_eq i j then storing a i v else
    storing_anew (apply (op o) (a ⨾ j ⨾ w ⨾ none)) i v
storing a i v = storing_anew a i v
