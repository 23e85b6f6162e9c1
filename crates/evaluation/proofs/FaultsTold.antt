-- Faults that are passed on.
use Rattle.std.proofs.Common.{◌≡◌, Bool, true, Result, Ok, Err, sym, subst}
use Rattle.std.specs.Prelude.{IfErr}
use Rattle.std.specs.Result.{IsErrAnd}
use Rattle.smt_terms.specs.Term.{Term}
use Rattle.term_table.specs.Formulas.{Formulas, tree}
use Rattle.evaluation.specs.Orders.{Breaks}
use Rattle.evaluation.specs.declared.faults.ValueFault.{ValueFault}
use Rattle.evaluation.specs.declared.faults.ValueFault.TheVariants.{Beyond128, Memory}

breaks-more : (t : Formulas) (P Q : Term → Bool) → ((u : Term) → P u ≡ true → Q u ≡ true) → (f : ValueFault) → Breaks t P f → Breaks t Q f
breaks-more t P Q more (Beyond128 k) b = (b.0, more (tree t k) b.1)
breaks-more t P Q more Memory b = tt

-- want of memory says nothing of terms
pub memory-told : {T : Type 0} (t : Formulas) (P : Term → Bool) (r : Result T ValueFault) → IsErrAnd r (λ f. f ≡ Memory) → IfErr r (Breaks t P)
memory-told t P (Ok x) e = tt
memory-told t P (Err f) e = subst (Breaks t P) (sym e) tt

-- a fault of a part is one of the whole
pub fault-told : {T : Type 0} (t : Formulas) (P Q : Term → Bool) (f : ValueFault) (r : Result T ValueFault) → ((u : Term) → P u ≡ true → Q u ≡ true) → Breaks t P f → IsErrAnd r (λ g. g ≡ f) → IfErr r (Breaks t Q)
fault-told t P Q f (Ok x) more b e = tt
fault-told t P Q f (Err g) more b e = subst (Breaks t Q) (sym e) (breaks-more t P Q more f b)
