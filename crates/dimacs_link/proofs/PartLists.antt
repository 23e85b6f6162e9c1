-- The parts of clauses, one after the other.
use Rattle.std.proofs.Common.{◌≡◌, ◌∙◌, ap, refl, ℕ, suc, ◌+◌, ◌<◌, Bool, true, false, ◌&&◌, ◌||◌, if◌then◌else◌, List, ◌∷◌, length, get_or, drop, Option, Some, None, arith}
use Rattle.std.specs.Prelude.{is_some}
use Rattle.std.proofs.Math.Seq.{drop-cons}
use Rattle.smt_terms.specs.declared.ids.NodeId.{NodeId}
use Rattle.smt_terms.specs.Sorts.{Symbol}
use Rattle.smt_terms.specs.Term.{Term}
use Rattle.term_table.specs.Formulas.{Formulas, tree, trees_at}
use Rattle.dimacs_link.specs.declared.literals.Part.{Part}
use Rattle.dimacs_link.specs.Clauses.{part, are_parts, is_true_part, has_true}

-- whether one of these is `true`, or one before them was
abbrev pub truth_from : List Symbol → Bool → List Term → Option Bool
truth_from cs found us = if are_parts cs us then Some (found || has_true cs us) else None

or_three : (a b c : Bool) → (a || (b || c)) ≡ ((a || b) || c)
or_three true b c = refl
or_three false b c = refl

pub truth_more : (cs : List Symbol) (found : Bool) (u : Term) (us : List Term) (p : Part) → part cs u ≡ Some p → truth_from cs found (u ∷ us) ≡ truth_from cs (found || is_true_part (Some p)) us
truth_more cs found u us p e =
    ap (λ o. if is_some o && are_parts cs us then Some (found || (is_true_part o || has_true cs us)) else None) e
    ∙ ap (λ b. if are_parts cs us then Some b else None) (or_three found (is_true_part (Some p)) (has_true cs us))

pub truth_none : (cs : List Symbol) (found : Bool) (u : Term) (us : List Term) → part cs u ≡ None → truth_from cs found (u ∷ us) ≡ None
truth_none cs found u us e = ap (λ o. if is_some o && are_parts cs us then Some (found || (is_true_part o || has_true cs us)) else None) e

-- ---- of nodes

pub trees_on : (t : Formulas) (ks : List NodeId) (i : ℕ) (d : NodeId) → i < length ks → trees_at t (drop i ks) ≡ tree t (get_or ks i d) ∷ trees_at t (drop (i + 1) ks)
trees_on t ks i d within =
    let on : suc i ≡ i + 1 = omega arith in
    ap (trees_at t) (drop-cons ks i d within) ∙ ap (λ j. tree t (get_or ks i d) ∷ trees_at t (drop j ks)) on
