-- The value of a term in a model: SMT-LIB 2.6, section 5.3.
use Rattle.std.specs.Prelude.{ℕ, ◌+◌, ◌^◌, max, Bool, true, cond, ◌&&◌, nat_lt, List, [], ◌∷◌, ℤ, unsigned_abs, Option, Some, None, unwrap_or}
use Rattle.smt_terms.specs.Sorts.{Sort, bool, bit_vector, Symbol, Variable}
use Rattle.smt_terms.specs.Term.{Quantifier, universal, Head, op, symbol, const_array, Term, apply, quantified, Terms, none, ◌⨾◌, constant_of}
use Rattle.smt_terms.specs.Equal.{symbol_eq}
use Rattle.smt_terms.specs.Rank.{sorts_of}
use Rattle.smt_terms.specs.Values.{Value, truth, whole, table, no_pairs, Sizes, is_true, over_values}
use Rattle.smt_terms.specs.Operators.{op_value, first_value}
use Rattle.smt_terms.specs.Models.{Model, symbol_value, background}

-- what the quantified variables are: the values of their constants
abbrev pub Env : Type 0
Env = Symbol → Option Value

abbrev pub no_variables : Env
no_variables f = None

-- a bound variable hides what its constant was before
abbrev pub assign : Variable → Value → Env → Env
assign x v e f = cond (symbol_eq (constant_of x) f) (Some v) (e f)

-- the values of the variables from the first to the last: all choices under the universal quantifier, some choice
-- under the existential one
abbrev pub runs : Quantifier → List Variable → Sizes → (Env → Bool) → Env → Bool
runs q [] sizes test e = test e
runs q (x ∷ xs) sizes test e = over_values q x.sort sizes (λ v. runs q xs sizes test (assign x v e))

-- a head at operands of these sorts with these values; a constant may be a quantified variable
abbrev pub head_value : Model → Env → Head → List Sort → List Value → Value
head_value m e (op o) ss vs = op_value (background m) o ss vs
head_value m e (symbol f) ss [] = unwrap_or (e f) (symbol_value m f [])
head_value m e (symbol f) ss (v ∷ vs) = symbol_value m f (v ∷ vs)
head_value m e (const_array s) ss vs = table (first_value vs) no_pairs

abbrev mutual
  pub val : Model → Term → Env → Value
  val m (apply h ts) e = head_value m e h (unwrap_or (sorts_of ts) []) (vals m ts e)
  val m (quantified q xs t) e = truth (runs q xs m.sizes (λ f. is_true (val m t f)) e)

  pub vals : Model → Terms → Env → List Value
  vals m none e = []
  vals m (t ⨾ ts) e = val m t e ∷ vals m ts e

-- ---- whole numbers within the range of constants

abbrev pub within_range : ℤ → Bool
within_range n = nat_lt (unsigned_abs n) (2 ^ 127)

abbrev pub value_in_range : Value → Bool
value_in_range (whole n) = within_range n
value_in_range _ = true

-- every subterm that is a whole number lies in the range, whatever the variables are that are bound above it
abbrev mutual
  pub fits : Model → Term → Env → Bool
  fits m (apply h ts) e = fit m ts e && value_in_range (val m (apply h ts) e)
  fits m (quantified q xs t) e = runs universal xs m.sizes (λ f. fits m t f) e

  pub fit : Model → Terms → Env → Bool
  fit m none e = true
  fit m (t ⨾ ts) e = fits m t e && fit m ts e

-- ---- how many bits the quantifiers assign above a place of the term, at most

abbrev pub sort_bits : Sort → ℕ
sort_bits bool = 1
sort_bits (bit_vector width) = width
sort_bits _ = 0

abbrev pub bound_bits : List Variable → ℕ
bound_bits [] = 0
bound_bits (x ∷ xs) = sort_bits x.sort + bound_bits xs

abbrev mutual
  pub bits_bound : Term → ℕ
  bits_bound (apply h ts) = greatest_bound ts
  bits_bound (quantified q xs t) = bound_bits xs + bits_bound t

  pub greatest_bound : Terms → ℕ
  greatest_bound none = 0
  greatest_bound (t ⨾ ts) = max (bits_bound t) (greatest_bound ts)
