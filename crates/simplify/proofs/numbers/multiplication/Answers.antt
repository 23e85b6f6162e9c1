use Rattle.std.proofs.Common.{cond, pos, ◌*ℤ◌, Some, IfOk, subst}
use Rattle.smt_terms.specs.declared.op.Op.TheVariants.{Mul}
use Rattle.smt_terms.specs.Constants.{whole_term}
use Rattle.smt_terms.specs.Equal.{op_eq}
use Rattle.term_table.specs.Formulas.{trees_at}
use Rattle.simplify.specs.Gathering.{products}
use Rattle.simplify.specs.Numbers.{gathered, together}
use Rattle.simplify.specs.Reduced.{Answers}
use Rattle.simplify.proofs.numbers.multiplication.Goals as goal

pub gathered-requires-clause-gathers : goal.gathered-requires-clause-gathers
gathered-requires-clause-gathers c = products

pub returns-clause-found : goal.returns-clause-found
unfolding op_eq
returns-clause-found c =
    let ts = trees_at c.args.table.now c.args.ids.now in
    subst (λ b. IfOk c.gathered.result (Answers c.gathered.new.table (cond b (Some (whole_term (pos 0))) (gathered Mul (pos 1) (together ◌*ℤ◌ (pos 1) ts) ts)))) c.if-has_zero.ensures c.gathered.ensures.found
