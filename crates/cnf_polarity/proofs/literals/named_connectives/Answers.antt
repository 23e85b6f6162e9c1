use Rattle.std.proofs.Common.{◌+◌, List, ap, sym, ◌∙◌, subst}
use Rattle.smt_terms.specs.declared.ids.NodeId.{NodeId}
use Rattle.cnf_polarity.proofs.KeptNamed.{AreNamed, named-more, named-same}
use Rattle.cnf_polarity.proofs.literals.named_connectives.Goals as goal
use Rattle.cnf_polarity.proofs.literals.named_connectives.Goals.{then-is_named+in_ok-push, else-is_named}

pub loop-id-preserved : goal.loop-id-preserved
loop-id-preserved c =
    let none_yet : NodeId = record { 0 = 0 } in
    let t = c.args.table.now in
    let order = c.args.order.now in
    let i = c.loop-id.id-index in
    let ks = c.loop-id.named.items in
    let lt = c.loop-id-test.true in
    elim c.if-is_named.branch [
      | then-is_named+in_ok-push w ↦
          named-more t order ks i none_yet lt c.loop-id.invariant c.if-is_named.named.items (c.requires i none_yet lt) (sym c.is_named.ensures ∙ w.if-is_named.true) (ap (λ v. v.items) w.named-is ∙ w.in_ok-push.ensures.items)
      | else-is_named w ↦
          subst (λ (js : List NodeId). AreNamed t order (i + 1) js) (ap (λ v. v.items) (sym w.named-is)) (named-same t order ks i none_yet lt c.loop-id.invariant (sym c.is_named.ensures ∙ w.if-is_named.false))
    ]
