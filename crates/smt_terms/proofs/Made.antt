-- Making a term gives what the head over the operands is: its sort and its value.
use Rattle.std.proofs.Common.{◌≡◌, zero, suc, ◌^◌, Bool, true, false, nat_lt, ℤ, pos, negsuc, neg_ℤ, nat_abs, [], Option, Some, None, Ok, Err, refl, ap, sym, ◌∙◌}
use Rattle.smt_terms.specs.declared.op.Op.TheVariants.{Whole, Neg}
use Rattle.smt_terms.specs.Sorts.{Sort, int}
use Rattle.smt_terms.specs.Term.{Head, op, Term, apply, Terms, none, ◌⨾◌}
use Rattle.smt_terms.specs.Rank.{accepted, rank, sort_over, with_sort, sort_of}
use Rattle.smt_terms.specs.Operators.{op_value}
use Rattle.smt_terms.specs.Models.{Model}
use Rattle.smt_terms.specs.Val.{Env, val}
use Rattle.smt_terms.specs.Made.{minus, made}

nat_abs-neg : (n : ℤ) → nat_abs (neg_ℤ n) ≡ nat_abs n
nat_abs-neg (pos zero) = refl
nat_abs-neg (pos (suc n)) = refl
nat_abs-neg (negsuc n) = refl

-- the sort of an integer constant, by whether it is in the range
abbrev constant_sort : Bool → Option Sort
constant_sort within = elim (accepted None within int) as (λ _. Option Sort) [ Ok s ↦ Some s | Err _ ↦ None ]

whole-sort : (n : ℤ) → sort_of (apply (op (Whole n)) none) ≡ constant_sort (nat_lt (nat_abs n) (2 ^ 127))
unfolding rank
whole-sort n = refl

negated-sort : (within : Bool) → constant_sort within ≡ sort_over (op Neg) (with_sort (constant_sort within) (Some []))
unfolding rank
negated-sort true = refl
negated-sort false = refl

minus-sort : (t : Term) → sort_of (minus t) ≡ sort_of (apply (op Neg) (t ⨾ none))
minus-sort (apply (op (Whole n)) none) =
    whole-sort (neg_ℤ n)
    ∙ ap (λ a. constant_sort (nat_lt a (2 ^ 127))) (nat_abs-neg n)
    ∙ negated-sort (nat_lt (nat_abs n) (2 ^ 127))
    ∙ ap (λ o. sort_over (op Neg) (with_sort o (Some []))) (sym (whole-sort n))
minus-sort t = refl

pub made-sort : (h : Head) (ts : Terms) → sort_of (made h ts) ≡ sort_of (apply h ts)
made-sort (op Neg) (t ⨾ none) = minus-sort t
made-sort h ts = refl

minus-value : (m : Model) (t : Term) (e : Env) → val m (minus t) e ≡ val m (apply (op Neg) (t ⨾ none)) e
unfolding op_value
minus-value m (apply (op (Whole n)) none) e = refl
minus-value m t e = refl

pub made-value : (m : Model) (h : Head) (ts : Terms) (e : Env) → val m (made h ts) e ≡ val m (apply h ts) e
made-value m (op Neg) (t ⨾ none) e = minus-value m t e
made-value m h ts e = refl
