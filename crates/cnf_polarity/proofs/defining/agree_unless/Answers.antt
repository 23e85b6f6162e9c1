use Rattle.std.proofs.lemmas.Result.{on_ok_weaker}
use Rattle.std.proofs.Common.{[], ◌∷◌}
use Rattle.term_table.specs.Formulas.{tree}
use Rattle.term_walk.proofs.Visits.{table-grows}
use Rattle.cnf_polarity.specs.Cnf.{complement, triple}
use Rattle.cnf_polarity.proofs.PutFormulas.{puts-after, puts-two, formula-itself, formula-later, complement-of, puts-triple}
use Rattle.cnf_polarity.proofs.defining.agree_unless.Goals as goal

pub returns-clause-puts : goal.returns-clause-puts
returns-clause-puts c =
    let t = c.args.table.now in
    let t1 = c.complement.new.table in
    let t2 = c.triple.new.table in
    let t3 = c.complement-2.new.table in
    let u = tree t c.args.l in
    let v = tree t c.args.a in
    let w = tree t c.args.b in
    let not_a = c.in_ok-not_a.not_a in
    let not_b = c.in_ok-not_b.not_b in
    let to_t1 = c.in_ok-not_a.ensures.grows in
    let to_t2 = table-grows t t1 t2 to_t1 c.in_ok-triple.ensures.grows in
    let to_t3 = table-grows t t2 t3 to_t2 c.in_ok-not_b.ensures.grows in
    let l = formula-itself t c.args.l c.requires.l in
    let a = formula-itself t c.args.a c.requires.a in
    let b = formula-itself t c.args.b c.requires.b in
    let other_a = complement-of t t1 c.args.a not_a v a c.in_ok-not_a.ensures.formula c.in_ok-not_a.ensures.term in
    let other_b = complement-of t2 t3 c.args.b not_b w (formula-later t t2 c.args.b w to_t2 b) c.in_ok-not_b.ensures.formula c.in_ok-not_b.ensures.term in
    let first =
    puts-after t t1 t2 c.args.asserts.now c.triple.new.asserts (triple u (complement v) w ∷ []) to_t1 c.requires.asserts
    (puts-triple t1 t2 c.args.asserts.now c.triple.new.asserts c.args.l not_a c.args.b u (complement v) w (formula-later t t1 c.args.l u to_t1 l) other_a (formula-later t t1 c.args.b w to_t1 b) c.in_ok-triple.ensures.puts) in
    on_ok_weaker c.triple-2.result
    (λ puts. puts-two t t2 t3 c.triple-2.new.table c.args.asserts.now c.triple.new.asserts c.triple-2.new.asserts (triple u (complement v) w) (triple u v (complement w)) c.in_ok-not_b.ensures.grows first
    (puts-triple t3 c.triple-2.new.table c.triple.new.asserts c.triple-2.new.asserts c.args.l c.args.a not_b u v (complement w) (formula-later t t3 c.args.l u to_t3 l) (formula-later t t3 c.args.a v to_t3 a) other_b puts))
    c.triple-2.ensures.puts
