use Rattle.std.proofs.Common.{arith, subst}
use Rattle.pass_laws.specs.Carry.{Asked}
use Rattle.passes.specs.LiveSymbols.{IsWidest}
use Rattle.passes.proofs.LeastAsked.{none_wide, same_wide, less_wide}
use Rattle.passes.proofs.carrying.with_bits.Goals as goal

pub returns-then-bits-gt-MOST_BITS : goal.returns-then-bits-gt-MOST_BITS
returns-then-bits-gt-MOST_BITS c = λ qs u is before.
    let q : Asked = record { number = c.args.assertion; term = u } in
    none_wide qs q c.args.bits is (subst (IsWidest qs) c.in_default.is before) c.if-bits-gt-MOST_BITS.true

pub returns-then-assertion-wide : goal.returns-then-assertion-wide
returns-then-assertion-wide c = λ qs u is before.
    let q : Asked = record { number = c.args.assertion; term = u } in
    same_wide qs q c.args.bits is c.in-Some.wide (subst (IsWidest qs) c.in-Some.is before) c.if-assertion-wide.true c.max.result c.max.ensures

pub returns : goal.returns
returns c = λ qs u is before.
    let q : Asked = record { number = c.args.assertion; term = u } in
    less_wide qs q c.args.bits is c.in-Some.wide (subst (IsWidest qs) c.in-Some.is before) (omega arith) (omega arith)
