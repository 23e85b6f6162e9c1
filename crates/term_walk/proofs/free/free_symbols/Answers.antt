use Rattle.std.proofs.Common.{◌≡◌, ◌+◌, ℕ, suc, Bool, sym, subst, ◌∙◌, List, ◌∷◌, [], arith}
use Rattle.term_table.specs.Formulas.{tree}
use Rattle.term_walk.specs.FreeLists.{HaveLists, AreFree}
use Rattle.term_walk.specs.Marks.{AreMarkedFrom}
use Rattle.term_walk.proofs.FreeScan.{no-lists, root-reached}
use Rattle.term_walk.proofs.free.free_symbols.Goals as goal

pub loop-number-init : goal.loop-number-init
loop-number-init c =
    let none = no-lists c.args.table.now (c.args.root ∷ []) c.in_ok-marked.marked.items c.in_ok-marked.ensures.marks in
    let marks = subst (λ (ms : List Bool). HaveLists c.args.table.now [] ms 0) (sym c.as_slice-marks.ensures.value) none in
    record { lists = subst (λ (ks : _). HaveLists c.args.table.now ks c.as_slice-marks.result.now 0) (sym c.new-lists.ensures) marks }

pub loop-number-preserved : goal.loop-number-preserved
loop-number-preserved c =
    let next : suc c.loop-number.number ≡ c.loop-number.number + 1 = omega arith in
    record { lists = subst (λ (n : ℕ). HaveLists c.args.table.now c.give_list.new.lists c.as_slice-marks.result.now n) next c.in_ok-give_list.ensures }

pub scope-requires-clause-lists : goal.scope-requires-clause-lists
scope-requires-clause-lists c =
    let past = c.loop-number-test.false in
    let from = subst (λ (ms : List Bool). AreMarkedFrom c.args.table.now (c.args.root ∷ []) 0 ms) (sym c.as_slice-marks.ensures.value) c.in_ok-marked.ensures.marks in
    (c.as_slice-marks.result.now, c.loop-number.number, c.loop-number.invariant.lists, root-reached c.args.table.now c.args.root c.as_slice-marks.result.now c.loop-number.number from (omega arith))

pub returns : goal.returns
returns c = subst (AreFree c.args.table.now (tree c.args.table.now c.args.root)) (sym (c.in_ok-symbols.ensures.items ∙ c.as_slice.ensures.keys)) c.in_ok-listed.ensures
