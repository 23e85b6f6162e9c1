use Rattle.std.proofs.Common.{◌∙◌, sym, ap, arith, ◌<◌, length}
use Rattle.smt_values.specs.Tables.{Table, count, pair_at}
use Rattle.smt_values.proofs.Pairs.{count-pairs_of, pair_at-pairs_of, held_at}
use Rattle.smt_values.proofs.value.ArrayValue.pair.Goals as goal

pub index-pair-requires : goal.index-pair-requires
index-pair-requires c =
    let seen = ap (λ (t : Table). count t.pairs) c.self.view_is in
    omega (arith, seen, count-pairs_of c.self.inside.pairs.items)

pub returns-clause-pair : goal.returns-clause-pair
returns-clause-pair c =
    let seen = ap (λ (t : Table). count t.pairs) c.self.view_is in
    let lt : c.args.i < length c.self.inside.pairs.items = omega (arith, seen, count-pairs_of c.self.inside.pairs.items) in
    ap (λ (t : Table). pair_at t.pairs c.args.i) (sym c.self.view_is) ∙ pair_at-pairs_of c.self.inside.pairs.items c.args.i c.index-pair.result.now lt c.index-pair.ensures

pub returns-clause-key : goal.returns-clause-key
returns-clause-key c =
    let seen = ap (λ (t : Table). count t.pairs) c.self.view_is in
    let lt : c.args.i < length c.self.inside.pairs.items = omega (arith, seen, count-pairs_of c.self.inside.pairs.items) in
    (held_at c.self.inside.pairs.items c.args.i c.index-pair.result.now lt c.index-pair.ensures c.self.invariant.1).0

pub returns-clause-value : goal.returns-clause-value
returns-clause-value c =
    let seen = ap (λ (t : Table). count t.pairs) c.self.view_is in
    let lt : c.args.i < length c.self.inside.pairs.items = omega (arith, seen, count-pairs_of c.self.inside.pairs.items) in
    (held_at c.self.inside.pairs.items c.args.i c.index-pair.result.now lt c.index-pair.ensures c.self.invariant.1).1
