use Rattle.std.proofs.lemmas.Result.{on_ok_weaker}
use Rattle.term_table.specs.Formulas.{tree}
use Rattle.cnf_polarity.specs.Cnf as plain
use Rattle.cnf_polarity.proofs.PutFormulas.{puts-one}
use Rattle.cnf_polarity.proofs.defining.triple.Goals as goal

pub returns-clause-puts : goal.returns-clause-puts
returns-clause-puts c =
    let t = c.args.table.now in
    let put = c.in_ok-clause.ensures in
    on_ok_weaker c.push.result (puts-one t c.disjunction.new.table put.grows c.args.asserts.now c.push.new.self c.in_ok-clause.clause (plain.triple (tree t c.args.a) (tree t c.args.b) (tree t c.args.c)) c.requires.asserts put.formula put.term) c.push.ensures.ok
