use Rattle.std.proofs.Common.{◌≡◌, ℕ, ◌+◌, ◌*◌, ◌<◌, true, get_or, IsSome}
use Rattle.smt_terms.specs.declared.ids.NodeId.{NodeId}
use Rattle.smt_terms.specs.Term.{universal, terms}
use Rattle.smt_terms.specs.Val.{bits_bound, greatest_bound, val, fits}
use Rattle.smt_terms.specs.Values.{is_true, over_elements}
use Rattle.term_table.specs.Formulas.{tree, trees_at}
use Rattle.models.specs.ModelView.{model_at}
use Rattle.evaluation.specs.Bindings.{env_of}
use Rattle.evaluation.specs.Choices.{quantifier_of, variables_at, bits_below, runs_with}
use Rattle.evaluation.specs.KeptValues.{known_at, AreFound, StayKnown}
use Rattle.evaluation.proofs.Choosing.{choices_rank}
use Rattle.evaluation.proofs.quantifiers.+valuing.Given as goal

-- the bits that are left count, and within them the calls of one quantifier
abbrev pub decreases-value_all : goal.decreases-value_all
decreases-value_all l = 8 * greatest_bound (terms (trees_at l.table.now l.order.now)) + 7

abbrev pub decreases-value_of_one : goal.decreases-value_of_one
decreases-value_of_one l = 8 * bits_bound (tree l.table.now l.id) + 6

abbrev pub decreases-truth_of_binder : goal.decreases-truth_of_binder
decreases-truth_of_binder l = 8 * bits_bound (tree l.table.now l.id) + 5

abbrev pub decreases-truth_of_choices : goal.decreases-truth_of_choices
decreases-truth_of_choices l = 8 * bits_below l.table.now l.variables.now l.quantified.now + choices_rank l.variables.now

abbrev pub decreases-truth_of_choice : goal.decreases-truth_of_choice
decreases-truth_of_choice l = 8 * bits_below l.table.now l.variables.now l.quantified.now + 3

abbrev pub decreases-truth_of_body : goal.decreases-truth_of_body
decreases-truth_of_body l = 8 * bits_bound (tree l.table.now l.quantified.now.body) + 8

abbrev pub invariant-value_all-loop-id : goal.invariant-value_all-loop-id
invariant-value_all-loop-id l = record {
  found : AreFound l.table (model_at l.table l.model) (env_of l.table l.fn.bindings.items) l.kept l.found.entries;
  done : (i : ℕ) (d : NodeId) → i < l.id-index → IsSome (known_at l.kept l.found.entries (get_or l.order i d));
  stay : StayKnown l.kept l.fn.found.entries l.found.entries;
  bindings : l.bindings.items ≡ l.fn.bindings.items;
}

abbrev pub invariant-truth_of_choices-loop-number : goal.invariant-truth_of_choices-loop-number
invariant-truth_of_choices-loop-number l = record {
  truth : l.joined ≡ over_elements (quantifier_of l.quantified.universal) l.number (λ n. runs_with (quantifier_of l.quantified.universal) (variables_at l.table l.variables) (model_at l.table l.model).sizes (λ e. is_true (val (model_at l.table l.model) (tree l.table l.quantified.body) e)) (env_of l.table l.fn.bindings.items) n);
  within : over_elements universal l.number (λ n. runs_with universal (variables_at l.table l.variables) (model_at l.table l.model).sizes (λ e. fits (model_at l.table l.model) (tree l.table l.quantified.body) e) (env_of l.table l.fn.bindings.items) n) ≡ true;
  bindings : l.bindings.items ≡ l.fn.bindings.items;
}
