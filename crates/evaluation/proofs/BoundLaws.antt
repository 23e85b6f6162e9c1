-- Bits that are bound, as they are told.
use Rattle.std.proofs.Common.{◌≡◌, ℕ, suc, ◌+◌, ◌<◌, min, max, true, false, List, [], ◌∷◌, ◌++◌, length, get_or, take, drop, All, Option, Some, None, is_some, refl, ap, sym, ◌∙◌, arith}
use Rattle.std.specs.Prelude.{unwrap_or}
use Rattle.std.proofs.Math.Seq.{take-suc}
use Rattle.std.proofs.lemmas.List.{map-append, get_or-map, length-map}
use Rattle.smt_terms.specs.declared.ids.NodeId.{NodeId}
use Rattle.smt_terms.specs.Groups.{has_term}
use Rattle.smt_terms.specs.Sorts.{Variable}
use Rattle.smt_terms.specs.Term.{Term, apply, quantified, Terms, none, ◌⨾◌, list}
use Rattle.smt_terms.specs.Val.{sort_bits, bound_bits, bits_bound, greatest_bound}
use Rattle.term_table.specs.Formulas.{Formulas, no_tree, tree, trees_at, tree_in, variable_of, operands, IsNode, AreNodes}
use Rattle.term_walk.specs.Binders.{is_quantified}
use Rattle.term_walk.proofs.Members.{has-at}
use Rattle.term_walk.specs.declared.kept.Place.{Place}
use Rattle.term_walk.specs.Places.{result_at}
use Rattle.evaluation.specs.Choices.{variables_at}
use Rattle.evaluation.specs.Evaluated.{told_bits}
use Rattle.evaluation.specs.KeptValues.{KeepsBounds, greatest_at, has_bound}

some-of : (o : Option ℕ) (n : ℕ) → is_some o ≡ true → ((r : ℕ) → o ≡ Some r → r ≡ n) → o ≡ Some n
some-of None n e f = absurd cc
some-of (Some r) n e f = ap Some (f r refl)

-- what is kept of a node with a bound
pub bound-of : (t : Formulas) (ks : List (Place ℕ)) (k : NodeId) → KeepsBounds t ks → has_bound ks k ≡ true → result_at ks k.0 ≡ Some (told_bits (bits_bound (tree t k)))
bound-of t ks k keeps e = some-of (result_at ks k.0) (told_bits (bits_bound (tree t k))) e (λ r f. keeps.related.related k r f)

pub greatest-more : (ks : List (Place ℕ)) (is : List NodeId) (k : NodeId) → greatest_at ks (is ++ k ∷ []) ≡ max (greatest_at ks is) (unwrap_or (result_at ks k.0) 0)
greatest-more ks [] k = omega arith
greatest-more ks (i ∷ is) k = let rest = greatest-more ks is k in omega (arith, rest)

told-max : (a b : ℕ) → max (told_bits a) (told_bits b) ≡ told_bits (max a b)
told-max a b = omega arith

pub greatest-told : (t : Formulas) (ks : List (Place ℕ)) (is : List NodeId) (ts : Terms) → trees_at t is ≡ list ts → KeepsBounds t ks → All (λ k. has_bound ks k ≡ true) is → greatest_at ks is ≡ told_bits (greatest_bound ts)
greatest-told t ks [] none e keeps all = omega arith
greatest-told t ks [] (u ⨾ us) e keeps all = absurd cc
greatest-told t ks (i ∷ is) none e keeps all = absurd cc
greatest-told t ks (i ∷ is) (u ⨾ us) e keeps all =
    let first : tree t i ≡ u = ap (λ vs. get_or vs 0 no_tree) e in
    let own : unwrap_or (result_at ks i.0) 0 ≡ told_bits (bits_bound u) = ap (λ o. unwrap_or o 0) (bound-of t ks i keeps (all 0 i (omega arith))) ∙ ap (λ v. told_bits (bits_bound v)) first in
    let rest = greatest-told t ks is us (ap (drop 1) e) keeps (λ j d lt. all (suc j) d (omega arith)) in
    (λ j. max (own j) (rest j)) ∙ told-max (bits_bound u) (greatest_bound us)

pub bits-more : (xs : List Variable) (x : Variable) → bound_bits (xs ++ x ∷ []) ≡ bound_bits xs + sort_bits x.sort
bits-more [] x = omega arith
bits-more (y ∷ xs) x = let rest = bits-more xs x in omega (arith, rest)

pub told-more : (a b : ℕ) → min 4294967295 (told_bits a + b) ≡ told_bits (a + b)
told-more a b = omega arith

next : (i : ℕ) → i + 1 ≡ suc i
next i = omega arith

pub greatest-next : (ks : List (Place ℕ)) (is : List NodeId) (i : ℕ) (d : NodeId) (r : ℕ) → i < length is → result_at ks (get_or is i d).0 ≡ Some r → greatest_at ks (take (i + 1) is) ≡ max (greatest_at ks (take i is)) r
greatest-next ks is i d r lt e = ap (λ n. greatest_at ks (take n is)) (next i) ∙ ap (greatest_at ks) (take-suc is i d lt) ∙ greatest-more ks (take i is) (get_or is i d) ∙ ap (λ o. max (greatest_at ks (take i is)) (unwrap_or o 0)) e

pub bits-next : (t : Formulas) (is : List NodeId) (i : ℕ) (d : NodeId) → i < length is → bound_bits (variables_at t (take (i + 1) is)) ≡ bound_bits (variables_at t (take i is)) + sort_bits (variable_of (tree t (get_or is i d))).sort
bits-next t is i d lt =
    ap (λ n. bound_bits (variables_at t (take n is))) (next i)
    ∙ ap (λ js. bound_bits (variables_at t js)) (take-suc is i d lt)
    ∙ ap bound_bits (map-append (λ k. variable_of (tree t k)) (take i is) (get_or is i d ∷ []))
    ∙ bits-more (variables_at t (take i is)) (variable_of (tree t (get_or is i d)))

-- the operands of a node are among those of its term
pub kids-bounded : (t : Formulas) (ks : List (Place ℕ)) (u : Term) (is : List NodeId) → ((k : NodeId) → IsNode t k → has_term (operands u) (tree t k) ≡ true → has_bound ks k ≡ true) → trees_at t is ≡ operands u → AreNodes t is → All (λ k. has_bound ks k ≡ true) is
kids-bounded t ks u is known same nodes i d lt =
    let n = length-map is (tree_in t.trees) in
    let at : get_or (trees_at t is) i no_tree ≡ tree t (get_or is i d) = get_or-map (tree_in t.trees) is i d no_tree lt in
    known (get_or is i d) (nodes i d lt) (ap (λ us. has_term us (tree t (get_or is i d))) (sym same) ∙ ap (has_term (trees_at t is)) (sym at) ∙ has-at (trees_at t is) i no_tree (omega (arith, n)))

pub applied-told : (t : Formulas) (ks : List (Place ℕ)) (u : Term) (is : List NodeId) → is_quantified u ≡ false → trees_at t is ≡ operands u → KeepsBounds t ks → All (λ k. has_bound ks k ≡ true) is → greatest_at ks is ≡ told_bits (bits_bound u)
applied-told t ks (quantified q xs b) is plain_term same keeps all = absurd cc
applied-told t ks (apply h ts) is plain_term same keeps all = greatest-told t ks is ts same keeps all

pub told-of : (t : Formulas) (ks : List (Place ℕ)) (k : NodeId) (r : ℕ) → KeepsBounds t ks → has_bound ks k ≡ true → result_at ks k.0 ≡ Some r → r ≡ told_bits (bits_bound (tree t k))
told-of t ks k r keeps e f = keeps.related.related k r f
