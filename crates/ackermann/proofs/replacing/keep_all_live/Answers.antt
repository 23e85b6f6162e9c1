use Rattle.std.proofs.Common.{◌≡◌, List, take, None, All, subst, arith}
use Rattle.std.proofs.lemmas.List.{take_all}
use Rattle.std.proofs.lemmas.List.Elements.{All-weaker, All-more}
use Rattle.smt_terms.specs.declared.ids.NodeId.{NodeId}
use Rattle.quantifier_forms.specs.Memos.{result_in}
use Rattle.term_groups.proofs.OrderedNodes.{missing-before}
use Rattle.ackermann.specs.LiveUses.{constant_in}
use Rattle.ackermann.proofs.replacing.keep_all_live.Goals as goal

pub loop-id-init : goal.loop-id-init
loop-id-init c = record {
  replaced = λ t ns are all. are;
  live = λ i d lt. absurd (omega arith);
  stay = λ k e. e;
}

pub loop-id-preserved : goal.loop-id-preserved
loop-id-preserved c =
    let ks = c.args.order.now in
    let us = c.args.uses.now in
    let i = c.loop-id.id-index in
    let m0 = c.loop-id.memo in
    let m1 = c.keep_live.new.memo in
    record {
      replaced = λ t ns are all. c.in_ok-keep_live.ensures.replaced t ns (c.loop-id.invariant.replaced t ns are all) (all i (record { 0 = 0 }) c.loop-id-test.true);
      live =
          All-more (λ (k : NodeId). result_in m1 0 k ≡ None → constant_in us k ≡ None) ks i (record { 0 = 0 }) c.loop-id-test.true
          (All-weaker (λ (k : NodeId). result_in m0 0 k ≡ None → constant_in us k ≡ None) (λ (k : NodeId). result_in m1 0 k ≡ None → constant_in us k ≡ None)
          (λ k live missing. live (missing-before m0 m1 k (c.in_ok-keep_live.ensures.stay k) missing)) (take i ks) c.loop-id.invariant.live)
          c.in_ok-keep_live.ensures.live;
      stay = λ k e. c.in_ok-keep_live.ensures.stay k (c.loop-id.invariant.stay k e);
    }

pub returns-clause-live : goal.returns-clause-live
returns-clause-live c =
    subst (λ (ks : List NodeId). All (λ (k : NodeId). result_in c.loop-id.memo 0 k ≡ None → constant_in c.args.uses.now k ≡ None) ks)
    (take_all c.loop-id.id-index c.args.order.now (let past = c.loop-id-test.false in omega arith)) c.loop-id.invariant.live
