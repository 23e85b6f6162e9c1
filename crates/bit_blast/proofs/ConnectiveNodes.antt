-- What makes the node of a connective over formulas.
use Rattle.std.proofs.Common.{◌≡◌, ◌≤◌, false, List, [], ◌∷◌, map, All, Some, Ok, is_ok, refl, ap, sym, ◌∙◌, subst, arith}
use Rattle.std.proofs.lemmas.List.Elements.{All-head, All-tail}
use Rattle.smt_terms.specs.declared.ids.NodeId.{NodeId}
use Rattle.smt_terms.specs.declared.op.Op.{Op}
use Rattle.smt_terms.specs.declared.op.Op.TheVariants.{Sym, Forall, Exists, ConstArray, Ite, Neg}
use Rattle.smt_terms.specs.Sorts.{Sort, bool}
use Rattle.smt_terms.specs.Term.{op, terms, over}
use Rattle.smt_terms.specs.Rank.{shape, rank, sort_of, sorts_of, with_sort, width, most_bits, is_minus}
use Rattle.smt_terms.specs.Takes.{Takes}
use Rattle.smt_terms.proofs.Ranked.{rank-takes, takes-rank}
use Rattle.smt_terms.proofs.Sorted.{sort_of-apply}
use Rattle.term_table.specs.Formulas.{Formulas, trees_at, sort_or_bool, sorts_in, Kind, kind, theory, kind_term, kind_rank, term_over, rank_over, IsKindOf, Makes}
use Rattle.normal_forms.specs.Nodes.{IsFormula}
use Rattle.normal_forms.proofs.MadeNodes.{are-nodes}
use Rattle.normal_forms.proofs.NnfShape.{no-minus}
use Rattle.bit_blast.specs.declared.gates.Gate.{Gate}
use Rattle.bit_blast.specs.declared.gates.Gate.TheVariants.{Both, Either, Differ, Alike}
use Rattle.bit_blast.specs.BitNodes.{gate_op}

-- ---- ranks

narrow : width bool ≤ most_bits
narrow = omega arith

pub gate-rank : (g : Gate) → rank (op (gate_op g)) (bool ∷ bool ∷ []) ≡ Ok bool
unfolding shape
gate-rank Both = takes-rank (op (gate_op Both)) (bool ∷ bool ∷ []) bool (0, refl, refl) narrow
gate-rank Either = takes-rank (op (gate_op Either)) (bool ∷ bool ∷ []) bool (0, refl, refl) narrow
gate-rank Differ = takes-rank (op (gate_op Differ)) (bool ∷ bool ∷ []) bool (refl, refl) narrow
gate-rank Alike = takes-rank (op (gate_op Alike)) (bool ∷ bool ∷ []) bool (bool, refl, refl) narrow

pub choice-rank : rank (op Ite) (bool ∷ bool ∷ bool ∷ []) ≡ Ok bool
unfolding shape
choice-rank = takes-rank (op Ite) (bool ∷ bool ∷ bool ∷ []) bool (bool, refl, refl) narrow

-- ---- what takes operands

takes-kind : (p : Op) (ss : List Sort) (s : Sort) → Takes (shape p) ss s → kind p ≡ theory p
unfolding shape kind
takes-kind (Sym f) ss s h = absurd h
takes-kind (ConstArray r) ss s h = absurd h
takes-kind Forall ss s h = absurd h
takes-kind Exists ss s h = absurd h
takes-kind _ ss s h = refl

takes-no-minus : (p : Op) (ss : List Sort) → Takes (shape p) ss bool → is_minus p ≡ false
unfolding shape is_minus
takes-no-minus Neg ss h = let never = h.1 in absurd cc
takes-no-minus _ ss h = refl

-- ---- over formulas

sorts-bool : (t : Formulas) (ks : List NodeId) → All (IsFormula t) ks → sorts_in (trees_at t ks) ≡ map (λ _. bool) ks
sorts-bool t [] formulas = refl
sorts-bool t (k ∷ ks) formulas =
    let first = (All-head (IsFormula t) k ks formulas).sort in
    let rest = sorts-bool t ks (All-tail (IsFormula t) k ks formulas) in
    λ i. sort_or_bool (first i) ∷ rest i

all-bool : (t : Formulas) (ks : List NodeId) → All (IsFormula t) ks → sorts_of (terms (trees_at t ks)) ≡ Some (map (λ _. bool) ks)
all-bool t [] formulas = refl
all-bool t (k ∷ ks) formulas =
    let first = (All-head (IsFormula t) k ks formulas).sort in
    let rest = all-bool t ks (All-tail (IsFormula t) k ks formulas) in
    λ i. with_sort (first i) (rest i)

module _ (t : Formulas) (p : Op) (ks : List NodeId) (formulas : All (IsFormula t) ks) (ranked : rank (op p) (map (λ _. bool) ks) ≡ Ok bool) where
  is-theory : kind p ≡ theory p
  is-theory = takes-kind p (map (λ _. bool) ks) bool (rank-takes (op p) (map (λ _. bool) ks) bool ranked)

  pub connective-ranked : rank_over t p (trees_at t ks) ≡ Ok bool
  connective-ranked = ap (λ k. kind_rank t.symbols t.sorts k (trees_at t ks)) is-theory ∙ ap (rank (op p)) (sorts-bool t ks formulas) ∙ ranked

  pub makes-connective : Makes t p ks
  makes-connective = record {
    kids = are-nodes t ks formulas;
    numbers = subst (λ (k : Kind). IsKindOf t.symbols t.sorts k) (sym is-theory) tt;
    ranked = ap is_ok connective-ranked;
    minus = no-minus p (terms (trees_at t ks)) (takes-no-minus p (map (λ _. bool) ks) (rank-takes (op p) (map (λ _. bool) ks) bool ranked));
  }

  pub connective-term : term_over t p (trees_at t ks) ≡ over (op p) (trees_at t ks)
  connective-term = ap (λ k. kind_term t.symbols t.sorts k (trees_at t ks)) is-theory

  pub connective-sort : sort_of (over (op p) (trees_at t ks)) ≡ Some bool
  connective-sort = sort_of-apply (op p) (terms (trees_at t ks)) (map (λ _. bool) ks) bool (all-bool t ks formulas) ranked
