-- Reading over writing: SMT-LIB 2.6, theory ArraysEx. `reads` goes from below, everywhere: a `select` of an array at an index
-- becomes what `read` gives for them.
use Rattle.std.specs.Prelude.{if◌then◌else◌}
use Rattle.smt_terms.specs.declared.op.Op.TheVariants.{Ite, Select, Store}
use Rattle.smt_terms.specs.Term.{Head, op, const_array, Term, apply, quantified, Terms, none, ◌⨾◌}
use Rattle.smt_terms.specs.ArrayTerms.{selected}
use Rattle.smt_terms.specs.Connectives.{equal}
use Rattle.smt_terms.specs.Equal.{op_eq, term_eq}
use Rattle.smt_terms.specs.Made.{made}
use Rattle.smt_terms.specs.Constants.{are_different_constants}

-- v where the indices are equal, else w
abbrev pub where_equal : Term → Term → Term → Term → Term
where_equal i j v w = apply (op Ite) (equal i j ⨾ v ⨾ w ⨾ none)

-- what is read at index j, where v has been stored at i, and w is read from the array before that
abbrev pub over_store : Term → Term → Term → Term → Term
over_store i j v w = if term_eq i j then v else if are_different_constants i j then w else where_equal i j v w

-- what is read from an array at an index: from a constant array its value; where the array isn't written out further, a `select`
abbrev pub read : Term → Term → Term
read (apply (const_array s) (v ⨾ none)) j = v
read (apply (op o) (b ⨾ i ⨾ v ⨾ none)) j =
    if op_eq o Store then over_store i j v (read b j) else selected (apply (op o) (b ⨾ i ⨾ v ⨾ none)) j
read a j = selected a j

-- a head over operands that were gone through
abbrev pub made_by_reading : Head → Terms → Term
made_by_reading (op o) (a ⨾ j ⨾ none) = if op_eq o Select then read a j else apply (op o) (a ⨾ j ⨾ none)
made_by_reading h ts = made h ts

abbrev mutual
  pub reads : Term → Term
  reads (apply h ts) = made_by_reading h (reads_all ts)
  reads (quantified q xs t) = quantified q xs (reads t)

  pub reads_all : Terms → Terms
  reads_all none = none
  reads_all (t ⨾ ts) = reads t ⨾ reads_all ts
