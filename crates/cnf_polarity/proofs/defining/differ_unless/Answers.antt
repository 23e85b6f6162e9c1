use Rattle.std.proofs.lemmas.Result.{on_ok_weaker}
use Rattle.term_table.specs.Formulas.{tree}
use Rattle.term_walk.proofs.Visits.{table-grows}
use Rattle.cnf_polarity.specs.Cnf.{complement, triple}
use Rattle.cnf_polarity.proofs.PutFormulas.{formulas-stay, puts-two, formula-itself, formula-later, complement-of, puts-triple}
use Rattle.cnf_polarity.proofs.defining.differ_unless.Goals as goal

pub triple-requires-2-clause-asserts : goal.triple-requires-2-clause-asserts
triple-requires-2-clause-asserts c =
    let t1 = c.triple.new.table in
    let t3 = c.complement-2.new.table in
    formulas-stay t1 t3 (table-grows t1 c.complement.new.table t3 c.in_ok-not_a.ensures.grows c.in_ok-not_b.ensures.grows) c.triple.new.asserts c.in_ok-triple.ensures.puts.formulas

pub returns-clause-grows : goal.returns-clause-grows
returns-clause-grows c =
    let t = c.args.table.now in
    let t1 = c.triple.new.table in
    let t2 = c.complement.new.table in
    let t3 = c.complement-2.new.table in
    let to_t2 = table-grows t t1 t2 c.in_ok-triple.ensures.grows c.in_ok-not_a.ensures.grows in
    table-grows t t3 c.triple-2.new.table (table-grows t t2 t3 to_t2 c.in_ok-not_b.ensures.grows) c.triple-2.ensures.grows

pub returns-clause-puts : goal.returns-clause-puts
returns-clause-puts c =
    let t = c.args.table.now in
    let t1 = c.triple.new.table in
    let t2 = c.complement.new.table in
    let t3 = c.complement-2.new.table in
    let u = tree t c.args.l in
    let v = tree t c.args.a in
    let w = tree t c.args.b in
    let to_t1 = c.in_ok-triple.ensures.grows in
    let to_t2 = table-grows t t1 t2 to_t1 c.in_ok-not_a.ensures.grows in
    let to_t3 = table-grows t t2 t3 to_t2 c.in_ok-not_b.ensures.grows in
    let between = table-grows t1 t2 t3 c.in_ok-not_a.ensures.grows c.in_ok-not_b.ensures.grows in
    let l = formula-later t t3 c.args.l u to_t3 (formula-itself t c.args.l c.requires.l) in
    let a = formula-later t t1 c.args.a v to_t1 (formula-itself t c.args.a c.requires.a) in
    let b = formula-later t t2 c.args.b w to_t2 (formula-itself t c.args.b c.requires.b) in
    let not_a = formula-later t2 t3 c.in_ok-not_a.not_a (complement v) c.in_ok-not_b.ensures.grows (complement-of t1 t2 c.args.a c.in_ok-not_a.not_a v a c.in_ok-not_a.ensures.formula c.in_ok-not_a.ensures.term) in
    let not_b = complement-of t2 t3 c.args.b c.in_ok-not_b.not_b w b c.in_ok-not_b.ensures.formula c.in_ok-not_b.ensures.term in
    on_ok_weaker c.triple-2.result
    (λ puts. puts-two t t1 t3 c.triple-2.new.table c.args.asserts.now c.triple.new.asserts c.triple-2.new.asserts (triple u v w) (triple u (complement v) (complement w)) between c.in_ok-triple.ensures.puts
    (puts-triple t3 c.triple-2.new.table c.triple.new.asserts c.triple-2.new.asserts c.args.l c.in_ok-not_a.not_a c.in_ok-not_b.not_b u (complement v) (complement w) l not_a not_b puts))
    c.triple-2.ensures.puts
