use Rattle.std.proofs.Common.{◌≡◌, refl, ◌∙◌, subst, sym, arith, length}
use Rattle.smt_terms.specs.declared.ids.NodeId.{NodeId}
use Rattle.term_table.specs.Formulas.{trees_at}
use Rattle.term_walk.proofs.Visits.{table-grows}
use Rattle.cnf_polarity.specs.Literals.{names_at}
use Rattle.cnf_polarity.specs.Shapes.{is_named}
use Rattle.cnf_polarity.proofs.KeptOrders.{Apart, once-apart, apart-filter}
use Rattle.cnf_polarity.proofs.KeptNames.{KeepsNames, one-more, literal-there}
use Rattle.cnf_polarity.proofs.KeptLiterals.{table-itself, plain-first, ready-next, keeps-next}
use Rattle.cnf_polarity.proofs.literals.keep_literals.Goals as goal

pub loop-i-preserved : goal.loop-i-preserved
loop-i-preserved c =
    let t = c.args.table.now in
    let apart : Apart (trees_at t c.args.named.now) = subst Apart (sym c.requires.named) (apart-filter is_named (trees_at t c.args.order.now) (once-apart (trees_at t c.args.order.now) c.requires.parts.1.once)) in
    one-more t c.args.named.now c.args.names.now apart c.loop-i.i (record { 0 = 0 }) c.get.result c.loop-i.literals c.set.new.self c.loop-i-test.true c.get.ensures c.loop-i.invariant c.in_ok-set.ensures.ok

pub loop-id-init : goal.loop-id-init
loop-id-init c =
    let t = c.args.table.now in
    let us = trees_at t c.args.order.now in
    let named = c.args.named.now in
    let names = c.args.names.now in
    let none_left = c.loop-i-test.false in
    let most = c.loop-i.auto.i-end in
    let at_end : c.loop-i.i ≡ length named = omega arith in
    let apart : Apart (trees_at t named) = subst Apart (sym c.requires.named) (apart-filter is_named us (once-apart us c.requires.parts.1.once)) in
    let all = subst (λ n. KeepsNames named names n c.loop-i.literals) at_end c.loop-i.invariant in
    record {
      grows = table-itself t;
      symbols = refl;
      sorts = refl;
      literals = plain-first t (names_at t named names) c.args.order.now c.loop-i.literals c.requires.order (literal-there t us named names c.know_table.ensures c.requires.nodes c.requires.named apart c.requires.names c.requires.number c.loop-i.literals all);
    }

pub keep_negation-requires-clause-ready : goal.keep_negation-requires-clause-ready
keep_negation-requires-clause-ready c =
    let t = c.args.table.now in
    let inv = c.loop-id.invariant in
    let ns = names_at t c.args.named.now c.args.names.now in
    (ns, ready-next t c.loop-id.table ns c.args.order.now c.requires.order inv.grows c.loop-id.id-index (record { 0 = 0 }) c.loop-id-test.true c.loop-id.literals inv.literals c.know_table.ensures c.requires.parts)

pub loop-id-preserved : goal.loop-id-preserved
loop-id-preserved c =
    let none_yet : NodeId = record { 0 = 0 } in
    let t = c.args.table.now in
    let inv = c.loop-id.invariant in
    let kept = c.in_ok-keep_negation.ensures in
    let ns = names_at t c.args.named.now c.args.names.now in
    let ready = ready-next t c.loop-id.table ns c.args.order.now c.requires.order inv.grows c.loop-id.id-index none_yet c.loop-id-test.true c.loop-id.literals inv.literals c.know_table.ensures c.requires.parts in
    record {
      grows = table-grows t c.loop-id.table c.keep_negation.new.table inv.grows kept.grows;
      symbols = kept.symbols ∙ inv.symbols;
      sorts = kept.sorts ∙ inv.sorts;
      literals =
          keeps-next t c.loop-id.table ns c.args.order.now c.requires.order inv.grows c.loop-id.id-index none_yet c.loop-id-test.true c.loop-id.literals inv.literals
          c.keep_negation.new.table c.keep_negation.new.literals kept.grows kept.others (kept.literal ns ready);
    }
