-- An operator over simplified operands.
use Rattle.std.specs.Prelude.{◌≡◌, List}
use Rattle.smt_terms.specs.declared.op.Op.{Op}
use Rattle.smt_terms.specs.Sorts.{Sort, Symbol}
use Rattle.smt_terms.specs.Term.{Quantifier, op, Term, terms}
use Rattle.term_table.specs.Formulas.{Formulas, Kind, theory, applied, filled, binder, kind, kind_term}
use Rattle.simplify.specs.Simplify.{red}

abbrev pub kind_reduced : List Symbol → List Sort → Kind → List Term → Term
kind_reduced fs ss (theory p) ts = red (op p) (terms ts)
kind_reduced fs ss (applied f) ts = kind_term fs ss (applied f) ts
kind_reduced fs ss (filled s) ts = kind_term fs ss (filled s) ts
kind_reduced fs ss (binder q) ts = kind_term fs ss (binder q) ts

-- what the simplifier makes of an operator over these operands
abbrev pub reduced_over : Formulas → Op → List Term → Term
reduced_over t p ts = kind_reduced t.symbols t.sorts (kind p) ts

abbrev pub IsNoBinder : Op → Type 0
IsNoBinder p = (q : Quantifier) → kind p ≡ binder q → ⊥
