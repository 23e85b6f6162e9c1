-- What evaluating a formula answers: its value in a model, or why it has none within 128 bits. SMT-LIB 2.6, section 5.3.
use Rattle.std.specs.Prelude.{◌≡◌, ℕ, ◌-◌, ◌^◌, ◌<◌, ◌≤◌, min, Bool, true, false, not, ◌&&◌, ◌||◌, Result, Ok, Err, IsTrue}
use Rattle.smt_terms.specs.declared.ids.NodeId.{NodeId}
use Rattle.smt_terms.specs.Equal.{term_eq}
use Rattle.smt_terms.specs.Models.{Model}
use Rattle.smt_terms.specs.Rank.{sort_of}
use Rattle.smt_terms.specs.Term.{existential, Term, apply, quantified, Terms, none, ◌⨾◌}
use Rattle.smt_terms.specs.Val.{Env, no_variables, runs, val, value_in_range, fits, bits_bound}
use Rattle.smt_terms.specs.Values.{is_value}
use Rattle.smt_values.specs.Meaning.{meaning, IsHeld}
use Rattle.smt_values.specs.declared.value.Value.{Value}
use Rattle.term_table.specs.Formulas.{Formulas, tree, sort_or_bool, IsNode}
use Rattle.evaluation.specs.declared.faults.EvalFault.{EvalFault}
use Rattle.evaluation.specs.declared.faults.EvalFault.TheVariants.{Beyond128, EvalWidth, Memory}
use Rattle.evaluation.specs.declared.faults.ValueFault.{ValueFault}
use Rattle.evaluation.specs.declared.faults.ValueFault.TheVariants.{Beyond128 as BeyondRange, Memory as NoMemory}

-- as many bits may be bound on a path
abbrev pub most_bits : ℕ
most_bits = 16

-- the most that is told of bits that are bound
abbrev pub told_bits : ℕ → ℕ
told_bits n = min (2 ^ 32 - 1) n

-- whether u is a subterm of a term that has a whole number outside the range as its value, for some values of the variables
-- that are bound above it
abbrev mutual
  pub breaks : Model → Term → Term → Env → Bool
  breaks m u (apply h ts) e = (term_eq u (apply h ts) && not (value_in_range (val m (apply h ts) e))) || any_breaks m u ts e
  breaks m u (quantified q xs t) e = runs existential xs m.sizes (λ f. breaks m u t f) e

  pub any_breaks : Model → Term → Terms → Env → Bool
  any_breaks m u none e = false
  any_breaks m u (t ⨾ ts) e = breaks m u t e || any_breaks m u ts e

-- the value of a term that stays within the range, as a program holds it
pub record IsValueOf (m : Model) (e : Env) (u : Term) (v : Value) : Type 0 where
  pub within : fits m u e ≡ true
  pub value : meaning v ≡ val m u e
  pub held : IsHeld v
  pub valid : IsTrue (is_value (sort_or_bool (sort_of u)) m.sizes (meaning v))

-- the node k has a number outside the range as its value, and so the term u doesn't stay within it
pub record IsBeyond (t : Formulas) (m : Model) (u : Term) (k : NodeId) : Type 0 where
  pub beyond : fits m u no_variables ≡ false
  pub node : IsNode t k
  pub breaks_there : breaks m (tree t k) u no_variables ≡ true

abbrev pub Values : Formulas → Model → Term → Result Value ValueFault → Type 0
Values t m u (Ok v) = IsValueOf m no_variables u v
Values t m u (Err (BeyondRange k)) = IsBeyond t m u k
Values t m u (Err NoMemory) = Unit {0}

-- the same fault of a formula with quantifiers of any width
abbrev pub fault_of : ValueFault → EvalFault
fault_of (BeyondRange k) = Beyond128 k
fault_of NoMemory = Memory

abbrev pub Evaluates : Formulas → Model → Term → Result Value EvalFault → Type 0
Evaluates t m u (Ok v) = (bits_bound u ≤ most_bits) × IsValueOf m no_variables u v
Evaluates t m u (Err (Beyond128 k)) = (bits_bound u ≤ most_bits) × IsBeyond t m u k
Evaluates t m u (Err (EvalWidth bits)) = (most_bits < bits_bound u) × (bits ≡ told_bits (bits_bound u))
Evaluates t m u (Err Memory) = Unit {0}
