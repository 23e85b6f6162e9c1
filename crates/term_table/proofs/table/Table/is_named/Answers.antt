use Rattle.std.proofs.Common.{map, sym, ap, ◌∙◌, arith}
use Rattle.smt_terms.specs.Equal.{name_eq}
use Rattle.smt_terms.specs.Rank.{symbol_name}
use Rattle.term_table.specs.Formulas.{trees_at}
use Rattle.term_table.proofs.Binding.{named-here, named-step, length-names, name-at}
use Rattle.term_table.proofs.table.Table.is_named.Goals as goal

pub returns-then-eq : goal.returns-then-eq
returns-then-eq c =
    let count = length-names c.args.self.now c.args.kids.now in
    let k = c.loop-kid.kid-index in
    sym (c.loop-kid.invariant
    ∙ named-here c.args.name.now (map symbol_name (trees_at c.args.self.now c.args.kids.now)) k (omega (arith, count))
    (ap (name_eq c.args.name.now) (name-at c.args.self.now c.args.kids.now k _ c.loop-kid-test.true ∙ sym c.constant_name.ensures) ∙ sym c.eq.ensures ∙ c.if-eq.true))

pub loop-kid-preserved : goal.loop-kid-preserved
loop-kid-preserved c =
    let count = length-names c.args.self.now c.args.kids.now in
    let k = c.loop-kid.kid-index in
    c.loop-kid.invariant
    ∙ named-step c.args.name.now (map symbol_name (trees_at c.args.self.now c.args.kids.now)) k (omega (arith, count))
    (ap (name_eq c.args.name.now) (name-at c.args.self.now c.args.kids.now k _ c.loop-kid-test.true ∙ sym c.constant_name.ensures) ∙ sym c.eq.ensures ∙ c.if-eq.false)
