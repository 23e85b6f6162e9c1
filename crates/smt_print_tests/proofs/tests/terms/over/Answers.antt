use Rattle.std.proofs.Common.{◌≡◌, refl, false}
use Rattle.smt_terms.specs.declared.ids.SymId.{SymId}
use Rattle.smt_terms.specs.declared.ids.SortId.{SortId}
use Rattle.smt_terms.specs.declared.op.Op.{Op}
use Rattle.smt_terms.specs.declared.op.Op.TheVariants.{Sym, ConstArray, Forall, Exists, Neg}
use Rattle.smt_terms.specs.Rank.{is_minus}
use Rattle.term_table.specs.Formulas.{Formulas, kind, IsOpOf}
use Rattle.smt_print_tests.proofs.tests.terms.over.Goals as goal

names_nothing : (t : Formulas) (p : Op) → ((f : SymId) → p ≡ Sym f → ⊥) → ((s : SortId) → p ≡ ConstArray s → ⊥) → IsOpOf t p
unfolding kind
names_nothing t (Sym f) no-symbol no-array = absurd (no-symbol f refl)
names_nothing t (ConstArray s) no-symbol no-array = absurd (no-array s refl)
names_nothing t Forall no-symbol no-array = tt
names_nothing t Exists no-symbol no-array = tt
names_nothing t _ no-symbol no-array = tt

no_minus : (p : Op) → (p ≡ Neg → ⊥) → is_minus p ≡ false
unfolding is_minus
no_minus Neg not = absurd (not refl)
no_minus _ not = refl

pub made-requires-clause-numbers : goal.made-requires-clause-numbers
made-requires-clause-numbers g c = names_nothing c.args.table.now c.args.op c.in_default.not-Sym c.in_default.not-ConstArray

pub made-requires-clause-other : goal.made-requires-clause-other
made-requires-clause-other g c = no_minus c.args.op c.in_default.not-Neg
