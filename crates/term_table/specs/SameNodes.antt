-- When two nodes are the same.
use Rattle.std.specs.Prelude.{◌≡◌, Bool, ◌&&◌, ◌==◌, refl}
use Rattle.std.specs.Bool.{Decides}
use Rattle.std.specs.Cmp.{IsPartialEquivalence, IsEquivalence, both_ways, equiv, partial_equiv_from_equiv, on_equiv, and_equiv}
use Rattle.std.specs.Cmp.Lexicographic.{pointwise, lists_equiv}
use Rattle.std.proofs.lemmas.Bool.Decides.{Decides-eqb, Decides-like}
use mathlib.Core.Path.{ap, sym, ◌∙◌}
use Rattle.smt_terms.specs.declared.ids.NodeId.{NodeId}
use Rattle.smt_terms.specs.declared.op.Op.{Op}
use Rattle.smt_terms.specs.contracts.ids.NodeIdPartialEq.TheImpl.{ghosts as id_ghosts}
use Rattle.smt_terms.specs.contracts.op.OpPartialEq.TheImpl.{ghosts as op_ghosts}
use Rattle.smt_terms.proofs.Operators.{Decides-derived}
use Rattle.term_table.specs.declared.table.Node.{Node}

abbrev pub op_eq : Op → Op → Bool
op_eq = op_ghosts.eq

abbrev pub id_eq : NodeId → NodeId → Bool
id_eq = id_ghosts.eq

-- the same operator over the same operands
abbrev pub are_same : Node → Node → Bool
are_same x y = op_eq x.op y.op && pointwise id_eq x.kids.items y.kids.items

pub id_eq-Decides : (a b : NodeId) → Decides (id_eq a b) (a ≡ b)
id_eq-Decides a b = Decides-like (a.0 == b.0) (λ e. λ i. record { 0 = e i }) (λ e. ap (λ c. c.0) e) (Decides-eqb a.0 b.0)

-- a test of equality is an equivalence
equality : {K : Type 0} (E : K → K → Bool) → ((x y : K) → Decides (E x y) (x ≡ y)) → IsEquivalence E
equality E d =
    let laws : IsPartialEquivalence E = record {
      symm = λ x y. both_ways (E x y) (E y x) (λ h. (d y x).1 (sym ((d x y).0 h))) (λ h. (d x y).1 (sym ((d y x).0 h)));
      trans = λ x y z h k. (d x z).1 ((d x y).0 h ∙ (d y z).0 k);
    } in
    equiv laws (λ x. (d x x).1 refl)

pub sameness : IsEquivalence are_same
sameness = and_equiv (on_equiv (λ (n : Node). n.op) (equality op_eq Decides-derived)) (on_equiv (λ (n : Node). n.kids.items) (lists_equiv (equality id_eq id_eq-Decides)))

pub partial_sameness : IsPartialEquivalence are_same
partial_sameness = partial_equiv_from_equiv sameness
