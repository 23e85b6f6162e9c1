-- A well-sorted `ite` has a condition and two branches of its sort, and its value is that of one of the branches.
use Rattle.std.proofs.Common.{◌≡◌, true, not, cond, ◌||◌, Some, refl, ap}
use Rattle.smt_terms.specs.declared.op.Op.TheVariants.{Ite}
use Rattle.smt_terms.specs.Connectives.{negated, implies, equal}
use Rattle.smt_terms.specs.Models.{Model}
use Rattle.smt_terms.specs.Rank.{sort_of}
use Rattle.smt_terms.specs.Shapes.{is_ite}
use Rattle.smt_terms.specs.Sorts.{Sort, bool}
use Rattle.smt_terms.specs.Term.{Head, op, Term, apply, Terms, none, ◌⨾◌}
use Rattle.smt_terms.specs.Operators.{op_value}
use Rattle.smt_terms.specs.Val.{no_variables, val}
use Rattle.smt_terms.specs.Values.{is_true, same}
use Rattle.smt_terms.proofs.Operands.{chosen, equal_value}
use Rattle.term_groups.specs.Grouping.{holds_in}
use Rattle.ite_free.proofs.IteBuilt.{ite-head, branches}

-- ---- the parts

pub record IsIteOver (h : Head) (ts : Terms) (s : Sort) : Type 0 where
  pub condition : Term
  pub first : Term
  pub second : Term
  pub head : h ≡ op Ite
  pub operands : ts ≡ condition ⨾ (first ⨾ (second ⨾ none))
  pub condition_sort : sort_of condition ≡ Some bool
  pub first_sort : sort_of first ≡ Some s
  pub second_sort : sort_of second ≡ Some s

pub choice : (h : Head) (ts : Terms) (s : Sort) → is_ite h ≡ true → sort_of (apply h ts) ≡ Some s → IsIteOver h ts s
choice h ts s e has =
    let parts = branches h ts s e has in
    record {
      condition = parts.condition;
      first = parts.first;
      second = parts.second;
      head = ite-head h e;
      operands = parts.operands;
      condition_sort = parts.condition_sort;
      first_sort = parts.first_sort;
      second_sort = parts.second_sort;
    }

-- ---- values

pub chosen_value : (m : Model) (c a b : Term) → val m (chosen c a b) no_variables ≡ cond (holds_in m c) (val m a no_variables) (val m b no_variables)
unfolding op_value
chosen_value m c a b = refl

pub implies_holds : (m : Model) (s t : Term) → holds_in m (implies s t) ≡ (not (holds_in m s) || holds_in m t)
unfolding op_value
implies_holds m s t = refl

pub negated_holds : (m : Model) (t : Term) → holds_in m (negated t) ≡ not (holds_in m t)
unfolding op_value
negated_holds m t = refl

pub equal_holds : (m : Model) (t u : Term) (s : Sort) → sort_of t ≡ Some s → sort_of u ≡ Some s → holds_in m (equal t u) ≡ same s m.sizes (val m t no_variables) (val m u no_variables)
equal_holds m t u s p q = ap is_true (equal_value m no_variables t u s p q)
