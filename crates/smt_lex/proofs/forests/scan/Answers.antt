use Rattle.std.proofs.Common.{arith}
use Rattle.smt_lex.proofs.Keeping.{is_forest}
use Rattle.smt_lex.proofs.forests.scan.Goals as goal

pub invariant_of-result : goal.invariant_of-result
invariant_of-result c =
    is_forest c.args.until c.args.bytes.items c.as_slice.result.now c.in_ok-entries.entries.items c.as_slice.ensures.value (omega (arith, c.requires, c.args.bytes.ok.0))
    c.in_ok-entries.ensures.spans c.in_ok-entries.ensures.ends c.in_ok-entries.ensures.tokens
