use Rattle.std.proofs.lemmas.Result.{on_ok_weaker}
use Rattle.std.proofs.Common.{[], ◌∷◌}
use Rattle.term_table.specs.Formulas.{tree}
use Rattle.term_walk.proofs.Visits.{table-grows}
use Rattle.cnf_polarity.specs.Cnf.{complement, triple}
use Rattle.cnf_polarity.proofs.PutFormulas.{puts-after, puts-then, formula-itself, formula-later, complement-of, puts-triple}
use Rattle.cnf_polarity.proofs.defining.choose_unless.Goals as goal

pub returns-clause-puts : goal.returns-clause-puts
returns-clause-puts c =
    let t = c.args.table.now in
    let t1 = c.complement.new.table in
    let t2 = c.triple.new.table in
    let x = tree t c.args.c in
    let u = tree t c.args.l in
    let v = tree t c.args.a in
    let w = tree t c.args.b in
    let not_c = c.in_ok-not_c.not_c in
    let to_t1 = c.in_ok-not_c.ensures.grows in
    let to_t2 = table-grows t t1 t2 to_t1 c.in_ok-triple.ensures.grows in
    let l = formula-itself t c.args.l c.requires.l in
    let k = formula-itself t c.args.c c.requires.c in
    let a = formula-itself t c.args.a c.requires.a in
    let b = formula-itself t c.args.b c.requires.b in
    let other_c = complement-of t t1 c.args.c not_c x k c.in_ok-not_c.ensures.formula c.in_ok-not_c.ensures.term in
    let first =
    puts-after t t1 t2 c.args.asserts.now c.triple.new.asserts (triple u (complement x) v ∷ []) to_t1 c.requires.asserts
    (puts-triple t1 t2 c.args.asserts.now c.triple.new.asserts c.args.l not_c c.args.a u (complement x) v (formula-later t t1 c.args.l u to_t1 l) other_c (formula-later t t1 c.args.a v to_t1 a) c.in_ok-triple.ensures.puts) in
    on_ok_weaker c.triple-2.result
    (λ puts. puts-then t t2 c.triple-2.new.table c.args.asserts.now c.triple.new.asserts c.triple-2.new.asserts (triple u (complement x) v ∷ []) (triple u x w ∷ []) first
    (puts-triple t2 c.triple-2.new.table c.triple.new.asserts c.triple-2.new.asserts c.args.l c.args.c c.args.b u x w (formula-later t t2 c.args.l u to_t2 l) (formula-later t t2 c.args.c x to_t2 k) (formula-later t t2 c.args.b w to_t2 b) puts))
    c.triple-2.ensures.puts
