use Rattle.std.proofs.Common.{◌≡◌, ℕ, true, List, All, Option, ap, sym, ◌∙◌, subst}
use Rattle.std.specs.Prelude.{MatchOption}
use Rattle.smt_terms.specs.declared.ids.NodeId.{NodeId}
use Rattle.smt_terms.specs.Term.{Term}
use Rattle.term_groups.specs.Seen.{IsGroup}
use Rattle.term_subst.proofs.Growing.{trees-grow}
use Rattle.term_table.specs.Formulas.{trees_at}
use Rattle.bit_blast.specs.Blasted.{is_bits, blasted}
use Rattle.bit_blast.specs.Faults.{IsFirstFault}
use Rattle.bit_blast.specs.Subterms.{AreSubterms}
use Rattle.bit_blast.proofs.blasting.blast.Goals as goal
use Rattle.bit_blast.proofs.blasting.blast.Goals.{In_ok-order}

-- the roots are as they were
same-roots : (c : In_ok-order) → trees_at c.subterms.new.table c.args.roots.now ≡ trees_at c.args.table.now c.args.roots.now
same-roots c = trees-grow c.args.table.now c.subterms.new.table c.in_ok-order.ensures.grows c.args.roots.now (λ i d lt. (c.requires.roots i d lt).node)

ordered : (c : In_ok-order) (ks : List NodeId) → ks ≡ c.in_ok-order.order.items → AreSubterms c.subterms.new.table (trees_at c.subterms.new.table c.args.roots.now) ks
ordered c ks same =
    subst (λ (js : List NodeId). AreSubterms c.subterms.new.table (trees_at c.subterms.new.table c.args.roots.now) js) (sym same)
    (subst (λ (us : List Term). AreSubterms c.subterms.new.table us c.in_ok-order.order.items) (sym (same-roots c)) c.in_ok-order.ensures.order)

pub first_fault-requires-clause-order : goal.first_fault-requires-clause-order
first_fault-requires-clause-order c = ordered (goal.at.first_fault-requires-clause-order c).In_ok-order c.deref.result.now c.deref.ensures.value

pub returns-in-Some-clause-fault : goal.returns-in-Some-clause-fault
returns-in-Some-clause-fault c =
    let t1 = c.subterms.new.table in
    let roots = c.args.roots.now in
    let told = subst (λ (r : Option ℕ). MatchOption r (All (λ u. is_bits u ≡ true) (trees_at t1 roots)) (IsFirstFault (trees_at t1 roots))) c.in-Some.is c.in_ok-root.ensures in
    subst (λ (us : List Term). IsFirstFault us c.in-Some.root) (same-roots (goal.at.returns-in-Some-clause-fault c).In_ok-order) told

pub blast_order-requires-clause-order : goal.blast_order-requires-clause-order
blast_order-requires-clause-order c = ordered (goal.at.blast_order-requires-clause-order c).In_ok-order c.deref-2.result.now c.deref-2.ensures.value

pub returns-clause-group : goal.returns-clause-group
returns-clause-group c =
    subst (λ (us : List Term). IsGroup c.blast_order.new.table c.in_ok-group.group (blasted us c.args.fresh.now).group) (same-roots (goal.at.returns-clause-group c).In_ok-order) c.in_ok-group.ensures.group

pub returns-clause-bits : goal.returns-clause-bits
returns-clause-bits c =
    let told = subst (λ (r : Option ℕ). MatchOption r (All (λ u. is_bits u ≡ true) (trees_at c.subterms.new.table c.args.roots.now)) (IsFirstFault (trees_at c.subterms.new.table c.args.roots.now))) c.in_default.is c.in_ok-root.ensures in
    subst (All (λ u. is_bits u ≡ true)) (same-roots (goal.at.returns-clause-bits c).In_ok-order) told

pub returns-clause-left : goal.returns-clause-left
returns-clause-left c = c.in_ok-group.ensures.left ∙ ap (λ us. (blasted us c.args.fresh.now).names) (same-roots (goal.at.returns-clause-left c).In_ok-order)
