use Rattle.std.proofs.Common.{sym, arith}
use Rattle.term_table.specs.Formulas.{trees_at}
use Rattle.dimacs_link.proofs.NodeParts.{no_inverse, length-trees}
use Rattle.dimacs_link.proofs.literals.inverse.Goals as goal

pub returns-in_default-2 : goal.returns-in_default-2
returns-in_default-2 c cs are =
    let t = c.args.table.now in
    let ks = c.args.operands.now in
    sym (no_inverse cs (trees_at t ks) (λ one. let two = c.in_default.len_at_least in omega (arith, length-trees t ks)))
