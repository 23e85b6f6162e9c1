-- Terms of arrays: SMT-LIB 2.6, theory ArraysEx.
use Rattle.smt_terms.specs.declared.op.Op.TheVariants.{Select, Store}
use Rattle.smt_terms.specs.Term.{op, Term, apply, none, ◌⨾◌}

abbrev pub selected : Term → Term → Term
selected a j = apply (op Select) (a ⨾ j ⨾ none)

abbrev pub stored : Term → Term → Term → Term
stored a i v = apply (op Store) (a ⨾ i ⨾ v ⨾ none)
