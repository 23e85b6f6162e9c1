use Rattle.std.proofs.Common.{◌+◌, [], ◌∷◌, length, get_or, ap, ◌∙◌, length-append}
use Rattle.smt_terms.specs.declared.ids.NodeId.{NodeId}
use Rattle.term_table.specs.Formulas.{tree}
use Rattle.term_walk.proofs.Visits.{table-grows}
use Rattle.normal_forms.specs.Nodes.{IsFormula}
use Rattle.cnf_polarity.specs.Cnf.{complement}
use Rattle.cnf_polarity.proofs.PutFormulas.{formula-tree, puts-one, puts-next}
use Rattle.cnf_polarity.proofs.defining.complements.Goals as goal

pub loop-literal-preserved : goal.loop-literal-preserved
loop-literal-preserved c =
    let inv = c.loop-literal.invariant in
    let none_yet : NodeId = record { 0 = 0 } in
    let t = c.args.table.now in
    let i = c.loop-literal.literal-index in
    let k : NodeId = get_or c.args.literals.now i none_yet in
    let was : IsFormula t k = c.requires.literals i none_yet c.loop-literal-test.true in
    let r = c.in_ok-complement.field-0 in
    let made = c.in_ok-complement.ensures in
    record {
      grows = table-grows t c.loop-literal.table c.complement.new.table inv.grows made.grows;
      symbols = made.symbols ∙ inv.symbols;
      sorts = made.sorts ∙ inv.sorts;
      number = ap length c.in_ok-push.ensures.items ∙ length-append c.loop-literal.others.items (r ∷ []) ∙ ap (λ n. n + 1) inv.number;
      puts =
          puts-next t c.loop-literal.table c.complement.new.table [] c.loop-literal.others.items c.push.new.self.items c.args.literals.now complement i none_yet c.loop-literal-test.true inv.puts
          (puts-one c.loop-literal.table c.complement.new.table made.grows c.loop-literal.others.items c.push.new.self.items r (complement (tree t k)) inv.puts.formulas made.formula (made.term ∙ ap complement (formula-tree t c.loop-literal.table inv.grows k was)) c.in_ok-push.ensures.items);
    }
