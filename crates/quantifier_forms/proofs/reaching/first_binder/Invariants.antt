use Rattle.std.proofs.Common.{◌≡◌, ℕ, ◌<◌, false, get_or}
use Rattle.smt_terms.specs.declared.ids.NodeId.{NodeId}
use Rattle.term_table.specs.Formulas.{tree}
use Rattle.term_walk.specs.Binders.{is_quantified}
use Rattle.quantifier_forms.proofs.reaching.first_binder.Given as goal

abbrev pub invariant-loop-id : goal.invariant-loop-id
invariant-loop-id l = (i : ℕ) (d : NodeId) → i < l.id-index → is_quantified (tree l.table (get_or l.ids i d)) ≡ false
