-- The value of a term's head at values of its operands: SMT-LIB 2.6, section 5.3.
use Rattle.std.specs.Prelude.{List, [], false, unwrap_or}
use Rattle.smt_terms.specs.Models.{Model}
use Rattle.smt_terms.specs.Rank.{sorts_of}
use Rattle.smt_terms.specs.Sorts.{Sort}
use Rattle.smt_terms.specs.Term.{Term, apply, quantified}
use Rattle.smt_terms.specs.Val.{Env, no_variables, head_value, vals}
use Rattle.smt_terms.specs.Values.{Value, truth}

abbrev pub operand_sorts : Term → List Sort
operand_sorts (apply h ts) = unwrap_or (sorts_of ts) []
operand_sorts (quantified q xs t) = []

abbrev pub operand_values : Model → Env → Term → List Value
operand_values m e (apply h ts) = vals m ts e
operand_values m e (quantified q xs t) = []

-- the value of a term that is no quantifier, at these values of its operands and where no variable is bound
abbrev pub applied_at : Model → Term → List Value → Value
applied_at m (apply h ts) vs = head_value m no_variables h (unwrap_or (sorts_of ts) []) vs
applied_at m (quantified q xs t) vs = truth false
