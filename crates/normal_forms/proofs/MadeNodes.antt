-- What makes the node of a connective.
use Rattle.std.proofs.Common.{◌≡◌, ℕ, zero, suc, ◌<◌, ◌≤◌, Bool, false, List, [], ◌∷◌, length, replicate, All, Some, Ok, IsOk, is_ok, refl, ap, sym, ◌∙◌, subst, arith}
use Rattle.std.proofs.lemmas.List.{get_or-map, length-map}
use Rattle.std.proofs.lemmas.List.Elements.{All-head, All-tail}
use Rattle.smt_terms.specs.declared.ids.NodeId.{NodeId}
use Rattle.smt_terms.specs.declared.op.Op.{Op}
use Rattle.smt_terms.specs.declared.op.Op.TheVariants.{Truth, Not, And, Or}
use Rattle.smt_terms.specs.Connectives.{truth_term, negated, all_of, any_of}
use Rattle.smt_terms.specs.Sorts.{bool}
use Rattle.smt_terms.specs.Term.{Term, op, terms, over}
use Rattle.smt_terms.specs.Rank.{several as several_of, shape, rank, sort_of, sorts_of, with_sort, width, most_bits, is_minus}
use Rattle.smt_terms.specs.Takes.{Takes}
use Rattle.smt_terms.proofs.Ranked.{takes-rank}
use Rattle.smt_terms.proofs.Sorted.{sort_of-apply}
use Rattle.term_table.specs.Formulas.{Formulas, tree, tree_in, trees_at, sort_or_bool, sorts_in, Kind, kind, theory, kind_rank, rank_over, IsKindOf, Makes, AreNodes}
use Rattle.normal_forms.specs.Nodes.{IsFormula}
use Rattle.normal_forms.proofs.NnfShape.{no-minus}

abbrev AllBool : List Term → Type 0
AllBool us = All (λ u. sort_of u ≡ Some bool) us

bool_sorts : (us : List Term) → AllBool us → sorts_in us ≡ replicate (length us) bool
bool_sorts [] h = refl
bool_sorts (u ∷ us) h =
    let first : sort_of u ≡ Some bool = All-head (λ v. sort_of v ≡ Some bool) u us h in
    let rest = bool_sorts us (All-tail (λ v. sort_of v ≡ Some bool) u us h) in
    λ i. sort_or_bool (first i) ∷ rest i

sorts_bool : (us : List Term) → AllBool us → sorts_of (terms us) ≡ Some (replicate (length us) bool)
sorts_bool [] h = refl
sorts_bool (u ∷ us) h =
    let first : sort_of u ≡ Some bool = All-head (λ v. sort_of v ≡ Some bool) u us h in
    let rest = sorts_bool us (All-tail (λ v. sort_of v ≡ Some bool) u us h) in
    λ i. with_sort (first i) (rest i)

narrow : width bool ≤ most_bits
narrow = omega arith

several-takes : (n : ℕ) → 2 ≤ n → Takes (several_of bool) (replicate n bool) bool
several-takes zero le = absurd (omega arith)
several-takes (suc zero) le = absurd (omega arith)
several-takes (suc (suc n)) le = (n, refl, refl)

and-rank : (n : ℕ) → 2 ≤ n → rank (op And) (replicate n bool) ≡ Ok bool
unfolding shape
and-rank n le = takes-rank (op And) (replicate n bool) bool (several-takes n le) narrow

or-rank : (n : ℕ) → 2 ≤ n → rank (op Or) (replicate n bool) ≡ Ok bool
unfolding shape
or-rank n le = takes-rank (op Or) (replicate n bool) bool (several-takes n le) narrow

not-rank : rank (op Not) (bool ∷ []) ≡ Ok bool
unfolding shape
not-rank = takes-rank (op Not) (bool ∷ []) bool (refl, refl) narrow

truth-rank : (b : Bool) → rank (op (Truth b)) [] ≡ Ok bool
unfolding shape
truth-rank b = takes-rank (op (Truth b)) [] bool (refl, refl) narrow

not-minus-and : is_minus And ≡ false
unfolding is_minus
not-minus-and = refl

not-minus-or : is_minus Or ≡ false
unfolding is_minus
not-minus-or = refl

not-minus-not : is_minus Not ≡ false
unfolding is_minus
not-minus-not = refl

not-minus-truth : (b : Bool) → is_minus (Truth b) ≡ false
unfolding is_minus
not-minus-truth b = refl

module _ (t : Formulas) (ks : List NodeId) (formulas : All (IsFormula t) ks) where
  pub are-nodes : AreNodes t ks
  are-nodes i d lt = (formulas i d lt).node

  pub all-bool : AllBool (trees_at t ks)
  all-bool i d lt =
      let count = length-map ks (tree_in t.trees) in
      let within : i < length ks = omega (arith, count) in
      let zero_node : NodeId = record { 0 = 0 } in
      subst (λ (u : Term). sort_of u ≡ Some bool) (sym (get_or-map (tree_in t.trees) ks i zero_node d within)) (formulas i zero_node within).sort

  count : length (trees_at t ks) ≡ length ks
  count = length-map ks (tree_in t.trees)

  ranks-bool : (p : Op) → rank (op p) (replicate (length (trees_at t ks)) bool) ≡ Ok bool → rank (op p) (sorts_in (trees_at t ks)) ≡ Ok bool
  ranks-bool p e = ap (rank (op p)) (bool_sorts (trees_at t ks) all-bool) ∙ e

  pub makes-over : (p : Op) → kind p ≡ theory p → is_minus p ≡ false → rank (op p) (replicate (length (trees_at t ks)) bool) ≡ Ok bool → Makes t p ks
  makes-over p is minus e = record {
    kids = are-nodes;
    numbers = subst (λ (k : Kind). IsKindOf t.symbols t.sorts k) (sym is) tt;
    ranked = subst (λ (k : Kind). IsOk (kind_rank t.symbols t.sorts k (trees_at t ks))) (sym is) (ap is_ok (ranks-bool p e));
    minus = no-minus p (terms (trees_at t ks)) minus;
  }

  pub sort-over : (p : Op) → rank (op p) (replicate (length (trees_at t ks)) bool) ≡ Ok bool → sort_of (over (op p) (trees_at t ks)) ≡ Some bool
  sort-over p e = sort_of-apply (op p) (terms (trees_at t ks)) (replicate (length (trees_at t ks)) bool) bool (sorts_bool (trees_at t ks) all-bool) e

  pub several : 2 ≤ length ks → 2 ≤ length (trees_at t ks)
  several le = let e = count in omega (arith, e)

  pub makes-and : 2 ≤ length ks → Makes t And ks
  unfolding kind
  makes-and le = makes-over And refl not-minus-and (and-rank (length (trees_at t ks)) (several le))

  pub makes-or : 2 ≤ length ks → Makes t Or ks
  unfolding kind
  makes-or le = makes-over Or refl not-minus-or (or-rank (length (trees_at t ks)) (several le))

  pub ranked-and : 2 ≤ length ks → rank_over t And (trees_at t ks) ≡ Ok bool
  unfolding kind
  ranked-and le = ranks-bool And (and-rank (length (trees_at t ks)) (several le))

  pub ranked-or : 2 ≤ length ks → rank_over t Or (trees_at t ks) ≡ Ok bool
  unfolding kind
  ranked-or le = ranks-bool Or (or-rank (length (trees_at t ks)) (several le))

  pub sort-and : 2 ≤ length ks → sort_of (all_of (trees_at t ks)) ≡ Some bool
  sort-and le = sort-over And (and-rank (length (trees_at t ks)) (several le))

  pub sort-or : 2 ≤ length ks → sort_of (any_of (trees_at t ks)) ≡ Some bool
  sort-or le = sort-over Or (or-rank (length (trees_at t ks)) (several le))

one-formula : (t : Formulas) (k : NodeId) → IsFormula t k → All (IsFormula t) (k ∷ [])
one-formula t k h zero d lt = h
one-formula t k h (suc i) d lt = absurd (omega arith)

no-formulas : (t : Formulas) → All (IsFormula t) []
no-formulas t i d lt = absurd (omega arith)

pub makes-not : (t : Formulas) (k : NodeId) → IsFormula t k → Makes t Not (k ∷ [])
unfolding kind
makes-not t k h = makes-over t (k ∷ []) (one-formula t k h) Not refl not-minus-not not-rank

pub ranked-not : (t : Formulas) (k : NodeId) → IsFormula t k → rank_over t Not (trees_at t (k ∷ [])) ≡ Ok bool
unfolding kind
ranked-not t k h = ranks-bool t (k ∷ []) (one-formula t k h) Not not-rank

pub sort-not : (t : Formulas) (k : NodeId) → IsFormula t k → sort_of (negated (tree t k)) ≡ Some bool
sort-not t k h = sort-over t (k ∷ []) (one-formula t k h) Not not-rank

pub makes-truth : (t : Formulas) (b : Bool) → Makes t (Truth b) []
unfolding kind
makes-truth t b = makes-over t [] (no-formulas t) (Truth b) refl (not-minus-truth b) (truth-rank b)

pub ranked-truth : (t : Formulas) (b : Bool) → rank_over t (Truth b) (trees_at t []) ≡ Ok bool
unfolding kind
ranked-truth t b = ranks-bool t [] (no-formulas t) (Truth b) (truth-rank b)

pub sort-truth : (t : Formulas) (b : Bool) → sort_of (truth_term b) ≡ Some bool
sort-truth t b = sort-over t [] (no-formulas t) (Truth b) (truth-rank b)
