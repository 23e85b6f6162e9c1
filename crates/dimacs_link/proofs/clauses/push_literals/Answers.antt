use Rattle.std.proofs.Common.{◌∙◌, ap, List, ◌++◌, take, Option}
use Rattle.smt_terms.specs.declared.ids.NodeId.{NodeId}
use Rattle.term_table.specs.Formulas.{trees_at}
use Rattle.dimacs_link.specs.declared.literals.Part.{Part}
use Rattle.dimacs_link.specs.Clauses.{literals, literals_text, literals_in}
use Rattle.dimacs_link.proofs.ClauseLists.{literals_more}
use Rattle.dimacs_link.proofs.clauses.push_literals.Goals as goal

pub loop-operand-preserved : goal.loop-operand-preserved
loop-operand-preserved c cs are =
    let t = c.args.table.now in
    let ks = c.args.operands.now in
    let i = c.loop-operand.operand-index in
    let d : NodeId = record { 0 = 0 } in
    c.in_ok-push_part.ensures
    ∙ ap (λ (bs : List _). bs ++ literals_text (literals_in c.part_of.result)) (c.loop-operand.invariant cs are)
    ∙ ap (λ (o : Option Part). (c.args.text.now.items ++ literals_text (literals cs (trees_at t (take i ks)))) ++ literals_text (literals_in o)) (c.part_of.ensures cs are)
    ∙ literals_more t cs ks i d c.loop-operand-test.true c.args.text.now.items
