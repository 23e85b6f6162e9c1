use Rattle.std.proofs.Common.{◌≡◌, ◌∷◌, [], Bool, List, length, get_or, false, true, ap, sym, subst, arith}
use Rattle.std.proofs.lemmas.List.{length-append}
use Rattle.smt_terms.specs.declared.ids.NodeId.{NodeId}
use Rattle.quantifier_forms_tests.proofs.Spared.{AreMarked, marked-more}
use Rattle.quantifier_forms_tests.proofs.tests.spared.is_spared.Goals as goal

pub is_spared_over-mark-requires-clause-marks : goal.is_spared_over-mark-requires-clause-marks
is_spared_over-mark-requires-clause-marks c s = subst (AreMarked s c.args.table.now) (sym c.deref.ensures.value) (c.loop-number.invariant.marked s)

pub loop-number-preserved : goal.loop-number-preserved
loop-number-preserved c =
    let marks = c.loop-number.marks.items in
    let mark = c.is_spared_over-mark.result in
    let id : NodeId = record { 0 = c.loop-number.number } in
    let items = c.in_ok-push.ensures.items in
    let count = c.loop-number.invariant.count in
    record {
      count = (let more = ap length items in let two = length-append marks (mark ∷ []) in omega (arith, more, two, count));
      marked = λ s. subst (AreMarked s c.args.table.now) (sym items) (marked-more s c.args.table.now marks mark id count (c.is_spared_over-mark.ensures s) (c.loop-number.invariant.marked s));
    }

pub returns : goal.returns
returns c s told = c.loop-number.invariant.marked s c.args.root (subst (λ (ms : List Bool). get_or ms c.args.root.0 false ≡ true) c.deref-2.ensures.value (c.is_marked.ensures told))
