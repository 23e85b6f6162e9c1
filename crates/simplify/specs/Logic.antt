-- The laws of the operators of theory Core (SMT-LIB 2.6) over operands that are simplified already. The first line that applies
-- counts; where none applies there is none, or of `and`, `or` and the quantifiers the term anew.
use Rattle.std.specs.Prelude.{Bool, true, false, not, ◌&&◌, ◌||◌, nat_le, if◌then◌else◌, List, [], ◌∷◌, length, filter, Option, Some, None}
use Rattle.std.specs.List.{list_any}
use Rattle.smt_terms.specs.declared.op.Op.{Op}
use Rattle.smt_terms.specs.declared.op.Op.TheVariants.{And, Or}
use Rattle.smt_terms.specs.Sorts.{Sort, bool, Variable}
use Rattle.smt_terms.specs.Term.{Quantifier, Term, quantified, constant_of}
use Rattle.smt_terms.specs.Equal.{term_eq}
use Rattle.smt_terms.specs.Rank.{sort_of}
use Rattle.smt_terms.specs.Connectives.{truth_term, negated, opposite}
use Rattle.smt_terms.specs.Free.{free, is_among}
use Rattle.simplify.specs.Folding.{is_truth, has_term, once, over_left}

-- `and` with the neutral constant true, `or` with false: the other constant where that one or some p and (not p) are there; else
-- what is left without the neutral constant and without later copies
abbrev pub clashes : Bool → List Term → Bool
clashes neutral ts = list_any (is_truth (not neutral)) ts || list_any (λ t. has_term ts (negated t)) ts

abbrev pub junction : Op → Bool → List Term → Term
junction o neutral ts =
    if clashes neutral ts
    then truth_term (not neutral)
    else over_left o (truth_term neutral) (once (filter (λ t. not (is_truth neutral t)) ts))

abbrev pub conjunction : List Term → Term
conjunction = junction And true

abbrev pub disjunction : List Term → Term
disjunction = junction Or false

abbrev pub exclusive : Term → Term → Option Term
exclusive s t =
    if term_eq s t then Some (truth_term false) else
    if is_truth true s then Some (opposite t) else
    if is_truth true t then Some (opposite s) else
    if is_truth false s then Some t else
    if is_truth false t then Some s else None

abbrev pub implication : Term → Term → Option Term
implication s t =
    if is_truth false s then Some (truth_term true) else
    if is_truth true t then Some (truth_term true) else
    if term_eq s t then Some (truth_term true) else
    if is_truth true s then Some t else
    if is_truth false t then Some (opposite s) else None

abbrev pub equation : Term → Term → Option Term
equation s t =
    if term_eq s t then Some (truth_term true) else
    if is_truth true s then Some t else
    if is_truth true t then Some s else
    if is_truth false s then Some (opposite t) else
    if is_truth false t then Some (opposite s) else None

abbrev pub has_copies : List Term → Bool
has_copies [] = false
has_copies (t ∷ ts) = has_term ts t || has_copies ts

abbrev pub is_bool : Option Sort → Bool
is_bool (Some bool) = true
is_bool _ = false

abbrev pub starts_bool : List Term → Bool
starts_bool [] = false
starts_bool (t ∷ ts) = is_bool (sort_of t)

-- no three truth values are distinct
abbrev pub distinctness : List Term → Option Term
distinctness ts = if has_copies ts || (nat_le 3 (length ts) && starts_bool ts) then Some (truth_term false) else None

abbrev pub choice : Term → Term → Term → Option Term
choice c s t =
    if is_truth true c then Some s else
    if is_truth false c then Some t else
    if term_eq s t then Some s else
    if is_truth true s && is_truth false t then Some c else
    if is_truth false s && is_truth true t then Some (opposite c) else None

-- variables that aren't free in the body go, and the quantifier with the last of them
abbrev pub over_variables : Quantifier → List Variable → Term → Term
over_variables q [] body = body
over_variables q (x ∷ xs) body = quantified q (x ∷ xs) body

abbrev pub quantification : Quantifier → List Variable → Term → Term
quantification q xs body = over_variables q (filter (λ x. is_among (free body) (constant_of x)) xs) body
