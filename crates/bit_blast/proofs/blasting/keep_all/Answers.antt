use Rattle.std.proofs.Common.{◌≡◌, true, List, take, All, ◌∙◌, subst, arith}
use Rattle.std.proofs.lemmas.List.{take_all}
use Rattle.std.proofs.lemmas.List.Elements.{All-more, All-weaker}
use Rattle.smt_terms.specs.declared.ids.NodeId.{NodeId}
use Rattle.term_groups.specs.Seen.{named_at}
use Rattle.term_walk.proofs.Visits.{table-grows}
use Rattle.bit_blast.specs.Subterms.{is_kept}
use Rattle.bit_blast.proofs.SettledNodes.{next-bits, next-ready, next-no_vector}
use Rattle.bit_blast.proofs.blasting.keep_all.Goals as goal

abbrev first : NodeId
first = record { 0 = 0 }

pub settle-requires-clause-bits : goal.settle-requires-clause-bits
settle-requires-clause-bits c =
    next-bits c.args.table.now c.loop-id.table c.know_table.ensures c.loop-id.invariant.grows c.args.order.now c.requires.order c.requires.bits c.loop-id.id-index first c.loop-id-test.true

pub settle-requires-clause-vectors : goal.settle-requires-clause-vectors
settle-requires-clause-vectors c missing =
    next-no_vector c.args.table.now c.loop-id.table c.know_table.ensures c.loop-id.invariant.grows c.args.order.now c.requires.order c.requires.bits c.loop-id.id-index first c.loop-id-test.true
    c.args.vectors.now c.loop-id.lists (λ i d lt. (c.requires.drawn.constants i d lt).node) c.requires.vectors c.loop-id.invariant.vectors missing

pub settle-requires-clause-operands : goal.settle-requires-clause-operands
settle-requires-clause-operands c = (
  named_at c.args.table.now c.args.constants.now.symbols,
  next-ready c.args.table.now c.loop-id.table c.know_table.ensures c.loop-id.invariant.grows c.args.order.now c.requires.order c.requires.bits c.loop-id.id-index first c.loop-id-test.true
      (named_at c.args.table.now c.args.constants.now.symbols) c.loop-id.lists c.loop-id.invariant.kept c.loop-id.invariant.done,
)

pub loop-id-preserved : goal.loop-id-preserved
loop-id-preserved c =
    let old = c.args.table.now in
    let ns = named_at old c.args.constants.now.symbols in
    let before = c.loop-id.lists in
    let after = c.settle.new.lists in
    record {
      grows = table-grows old c.loop-id.table c.settle.new.table c.loop-id.invariant.grows c.in_ok-settle.ensures.grows;
      symbols = c.in_ok-settle.ensures.symbols ∙ c.loop-id.invariant.symbols;
      sorts = c.in_ok-settle.ensures.sorts ∙ c.loop-id.invariant.sorts;
      kept =
          c.in_ok-settle.ensures.kept ns c.loop-id.invariant.kept
          (next-ready old c.loop-id.table c.know_table.ensures c.loop-id.invariant.grows c.args.order.now c.requires.order c.requires.bits c.loop-id.id-index first c.loop-id-test.true ns before c.loop-id.invariant.kept c.loop-id.invariant.done);
      vectors = All-weaker (λ k. is_kept before k ≡ true) (λ k. is_kept after k ≡ true) c.in_ok-settle.ensures.stay c.args.vectors.now c.loop-id.invariant.vectors;
      done =
          All-more (λ k. is_kept after k ≡ true) c.args.order.now c.loop-id.id-index first c.loop-id-test.true
          (All-weaker (λ k. is_kept before k ≡ true) (λ k. is_kept after k ≡ true) c.in_ok-settle.ensures.stay (take c.loop-id.id-index c.args.order.now) c.loop-id.invariant.done) c.in_ok-settle.ensures.done;
    }

pub returns-clause-done : goal.returns-clause-done
returns-clause-done c =
    let past = c.loop-id-test.false in
    subst (λ (ks : List NodeId). All (λ k. is_kept c.loop-id.lists k ≡ true) ks) (take_all c.loop-id.id-index c.args.order.now (omega arith)) c.loop-id.invariant.done
