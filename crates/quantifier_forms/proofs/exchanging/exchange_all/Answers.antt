use Rattle.std.proofs.Common.{◌≡◌, None, Some, refl, ap, sym, ◌∙◌, subst, arith}
use Rattle.smt_terms.specs.declared.ids.NodeId.{NodeId}
use Rattle.term_walk.proofs.Visits.{grows-self, table-grows}
use Rattle.quantifier_forms.specs.Exchanging.{IsExchanged}
use Rattle.quantifier_forms.specs.Memos.{Results, result_in}
use Rattle.quantifier_forms.proofs.Exchanged.{exchange-stays, settled-more, ready-next, root-exchanged}
use Rattle.quantifier_forms.proofs.exchanging.exchange_all.Goals as goal

pub loop-id-init : goal.loop-id-init
loop-id-init c = record {
  grows = record { trees = grows-self _; symbols = grows-self _; sorts = grows-self _ };
  symbols = refl;
  bare = c.requires.bare;
  exchanged = λ k r e. let none_there : None ≡ Some r = sym (ap (λ (m : Results). result_in m 0 k) c.new-memo.ensures) ∙ e in absurd cc;
  settled = λ i d lt. absurd (omega arith);
}

pub settle-requires-clause-exchange : goal.settle-requires-clause-exchange
settle-requires-clause-exchange c = exchange-stays c.args.table.now c.loop-id.table c.args.exchange c.loop-id.invariant.grows c.requires.exchange

pub settle-requires-clause-ready : goal.settle-requires-clause-ready
settle-requires-clause-ready c =
    ready-next c.args.table.now c.loop-id.table c.args.exchange c.loop-id.memo c.args.bare.now.keys c.args.order.now c.args.root c.loop-id.invariant.grows c.requires.bare c.requires.order c.loop-id.invariant.exchanged
    c.loop-id.id-index (record { 0 = 0 }) c.loop-id-test.true c.loop-id.invariant.settled

pub loop-id-preserved : goal.loop-id-preserved
loop-id-preserved c = record {
  grows = table-grows c.args.table.now c.loop-id.table c.settle.new.table c.loop-id.invariant.grows c.in_ok-settle.ensures.grows;
  symbols = c.in_ok-settle.ensures.symbols ∙ c.loop-id.invariant.symbols;
  bare = c.in_ok-settle.ensures.bare;
  exchanged = c.in_ok-settle.ensures.exchanged;
  settled =
      settled-more c.loop-id.table c.settle.new.table c.args.exchange c.loop-id.memo c.settle.new.memo c.args.order.now c.loop-id.id-index (record { 0 = 0 }) c.in_ok-settle.ensures.grows
      (exchange-stays c.args.table.now c.loop-id.table c.args.exchange c.loop-id.invariant.grows c.requires.exchange) c.loop-id.invariant.settled c.loop-id-test.true c.in_ok-settle.ensures.done c.in_ok-settle.ensures.others;
}

pub returns-clause-exchanged : goal.returns-clause-exchanged
returns-clause-exchanged c =
    subst (λ (k : NodeId). IsExchanged c.loop-id.table c.args.exchange c.args.root k) (sym c.known.ensures)
    (root-exchanged c.args.table.now c.loop-id.table c.args.exchange c.loop-id.memo c.args.bare.now.keys c.args.order.now c.args.root c.loop-id.invariant.grows c.requires.bare c.requires.order c.loop-id.invariant.exchanged
    (λ i d lt within. c.loop-id.invariant.settled i d (let past = c.loop-id-test.false in omega arith) within))
