use Rattle.std.proofs.Common.{length, All, ap, sym, ◌∙◌, subst, arith}
use Rattle.term_table.specs.Formulas.{trees_at}
use Rattle.normal_forms.specs.Nodes.{IsFormula}
use Rattle.ackermann.specs.Ackermann.{all_equal}
use Rattle.ackermann.proofs.PairedUses.{as-many}
use Rattle.ackermann.proofs.pairs.equal_operands.Goals as goal

pub all_of-requires-clause-formulas : goal.all_of-requires-clause-formulas
all_of-requires-clause-formulas c = subst (All (IsFormula c.equations.new.table)) (sym c.deref.ensures.value) c.in_ok-equations.ensures.formulas

pub all_of-requires-clause-some : goal.all_of-requires-clause-some
all_of-requires-clause-some c =
    let n = as-many c.args.table.now c.equations.new.table c.args.first.now c.args.second.now c.in_ok-equations.equations.items c.requires.sorts c.in_ok-equations.ensures.terms in
    let m = ap length c.deref.ensures.value in
    let some = c.requires.some in
    omega (arith, n, m)

pub returns-clause-term : goal.returns-clause-term
returns-clause-term c = c.in_ok-all.ensures.term ∙ ap (λ ks. all_equal (trees_at c.equations.new.table ks)) c.deref.ensures.value ∙ ap all_equal c.in_ok-equations.ensures.terms
