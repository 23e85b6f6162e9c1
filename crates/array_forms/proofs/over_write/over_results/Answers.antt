use Rattle.std.proofs.Common.{◌∙◌, arith}
use Rattle.term_table.specs.Formulas.{tree}
use Rattle.array_forms.proofs.OverResults.{other-result, minus-result, select-result}
use Rattle.array_forms.proofs.over_write.over_results.Goals as goal

pub bounds-kids-0 : goal.bounds-kids-0
bounds-kids-0 c =
    let t = c.args.table.now in
    let s = select-result t (tree t c.args.id) c.args.kids.now (c.op.ensures.table.sorted c.args.id.0 c.requires.node) c.requires.applied c.in-Select.ensures.term c.requires.kids in
    let n = s.number in
    omega arith

pub bounds-kids-1 : goal.bounds-kids-1
bounds-kids-1 c =
    let t = c.args.table.now in
    let s = select-result t (tree t c.args.id) c.args.kids.now (c.op.ensures.table.sorted c.args.id.0 c.requires.node) c.requires.applied c.in-Select.ensures.term c.requires.kids in
    let n = s.number in
    omega arith

pub read-requires-clause-sorted : goal.read-requires-clause-sorted
read-requires-clause-sorted c =
    let t = c.args.table.now in
    (select-result t (tree t c.args.id) c.args.kids.now (c.op.ensures.table.sorted c.args.id.0 c.requires.node) c.requires.applied c.in-Select.ensures.term c.requires.kids).sorted (record { 0 = 0 })

pub returns-in_ok-result-in-Select-clause-result : goal.returns-in_ok-result-in-Select-clause-result
returns-in_ok-result-in-Select-clause-result c =
    let t = c.args.table.now in
    let s = select-result t (tree t c.args.id) c.args.kids.now (c.op.ensures.table.sorted c.args.id.0 c.requires.node) c.requires.applied c.in-Select.ensures.term c.requires.kids in
    record { node = c.in_ok-result-in-Select.ensures.node; term = c.in_ok-result-in-Select.ensures.term ∙ s.term (record { 0 = 0 }) }

pub bounds-kids-0-in-Neg : goal.bounds-kids-0-in-Neg
bounds-kids-0-in-Neg c =
    let t = c.args.table.now in
    let m = minus-result t (tree t c.args.id) c.args.kids.now (c.op.ensures.table.sorted c.args.id.0 c.requires.node) c.requires.applied c.in-Neg.ensures.term c.requires.kids in
    let n = m.number in
    omega arith

pub minus-requires-clause-whole : goal.minus-requires-clause-whole
minus-requires-clause-whole c =
    let t = c.args.table.now in
    (minus-result t (tree t c.args.id) c.args.kids.now (c.op.ensures.table.sorted c.args.id.0 c.requires.node) c.requires.applied c.in-Neg.ensures.term c.requires.kids).whole (record { 0 = 0 })

pub returns-in_ok-result-in-Neg-clause-result : goal.returns-in_ok-result-in-Neg-clause-result
returns-in_ok-result-in-Neg-clause-result c =
    let t = c.args.table.now in
    let m = minus-result t (tree t c.args.id) c.args.kids.now (c.op.ensures.table.sorted c.args.id.0 c.requires.node) c.requires.applied c.in-Neg.ensures.term c.requires.kids in
    record { node = c.in_ok-result-in-Neg.ensures.node; term = c.in_ok-result-in-Neg.ensures.term ∙ m.term (record { 0 = 0 }) }

pub intern-requires : goal.intern-requires
intern-requires c =
    let t = c.args.table.now in
    let u = tree t c.args.id in
    (other-result t c.op.result u c.args.kids.now (c.op.ensures.table.sorted c.args.id.0 c.requires.node) c.requires.applied c.op.ensures.term c.op.ensures.numbers c.in_default.not-Select c.in_default.not-Neg c.requires.nodes c.requires.kids).makes

pub returns-in_ok-result-in_default-clause-result : goal.returns-in_ok-result-in_default-clause-result
returns-in_ok-result-in_default-clause-result c =
    let t = c.args.table.now in
    let u = tree t c.args.id in
    record {
      node = c.in_ok-result-in_default.ensures.node;
      term =
          c.in_ok-result-in_default.ensures.term
          ∙ (other-result t c.op.result u c.args.kids.now (c.op.ensures.table.sorted c.args.id.0 c.requires.node) c.requires.applied c.op.ensures.term c.op.ensures.numbers c.in_default.not-Select c.in_default.not-Neg c.requires.nodes c.requires.kids).term;
    }
