use Rattle.std.proofs.Common.{get_or, refl, ap, ◌∙◌, arith}
use Rattle.smt_terms.specs.Groups.{constant_for}
use Rattle.term_walk.proofs.Visits.{grows-self, table-grows}
use Rattle.quantifier_forms.proofs.Sweeps.{tree-stays, done-more}
use Rattle.term_groups.proofs.OrderedNodes.{ready-next, all-done, missing-before}
use Rattle.term_groups.proofs.ReplacedNodes.{operands-fit}
use Rattle.term_groups.proofs.replacing.replace_all.Goals as goal

pub loop-id-init : goal.loop-id-init
loop-id-init c = record {
  grows = record { trees = grows-self c.args.table.now.trees; symbols = grows-self c.args.table.now.symbols; sorts = grows-self c.args.table.now.sorts };
  symbols = refl;
  replaced = λ ns started. started.replaced;
  stay = λ k e. e;
  done = λ i d lt within. absurd (omega arith);
}

pub settle-requires-clause-fit : goal.settle-requires-clause-fit
settle-requires-clause-fit c =
    let ns = c.requires.started.0 in
    operands-fit c.loop-id.table ns c.loop-id.memo _
    (ready-next c.args.table.now c.loop-id.table c.know_table.ensures c.loop-id.invariant.grows c.args.order.now c.requires.nodes c.requires.order ns c.loop-id.memo (c.loop-id.invariant.replaced ns c.requires.started.1)
    c.loop-id.id-index (record { 0 = 0 }) c.loop-id-test.true c.loop-id.invariant.done)

pub loop-id-preserved : goal.loop-id-preserved
loop-id-preserved c =
    let t = c.args.table.now in
    let id = get_or c.args.order.now c.loop-id.id-index (record { 0 = 0 }) in
    record {
      grows = table-grows t c.loop-id.table c.settle.new.table c.loop-id.invariant.grows c.in_ok-settle.ensures.grows;
      symbols = c.in_ok-settle.ensures.symbols ∙ c.loop-id.invariant.symbols;
      replaced = λ ns started.
          c.in_ok-settle.ensures.replaced ns (c.loop-id.invariant.replaced ns started)
          (ready-next t c.loop-id.table c.know_table.ensures c.loop-id.invariant.grows c.args.order.now c.requires.nodes c.requires.order ns c.loop-id.memo (c.loop-id.invariant.replaced ns started) c.loop-id.id-index (record { 0 = 0 }) c.loop-id-test.true c.loop-id.invariant.done)
          (λ missing.
          ap (constant_for ns) (tree-stays t c.loop-id.table id c.loop-id.invariant.grows (c.requires.nodes c.loop-id.id-index (record { 0 = 0 }) c.loop-id-test.true))
          ∙ started.missing c.loop-id.id-index (record { 0 = 0 }) c.loop-id-test.true (missing-before c.args.memo.now c.loop-id.memo id (c.loop-id.invariant.stay id) missing));
      stay = λ k e. c.in_ok-settle.ensures.stay k (c.loop-id.invariant.stay k e);
      done = done-more c.loop-id.memo c.settle.new.memo 0 c.args.order.now c.loop-id.id-index (record { 0 = 0 }) c.in_ok-settle.ensures.stay c.loop-id-test.true c.in_ok-settle.ensures.done c.loop-id.invariant.done;
    }

pub returns-clause-done : goal.returns-clause-done
returns-clause-done c ns started =
    all-done c.args.table.now c.loop-id.table c.know_table.ensures c.loop-id.invariant.grows c.args.order.now c.requires.nodes c.requires.order ns c.loop-id.memo (c.loop-id.invariant.replaced ns started)
    (λ i d lt within. c.loop-id.invariant.done i d (let past = c.loop-id-test.false in omega arith) within)
