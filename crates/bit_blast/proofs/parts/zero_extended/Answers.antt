use Rattle.std.proofs.Common.{◌≡◌, ◌++◌, false, replicate}
use Rattle.std.proofs.lemmas.Result.{IfOk-weaker}
use Rattle.term_table.specs.Formulas.{trees_at}
use Rattle.bit_blast.specs.BitNodes.{AreBits}
use Rattle.bit_blast.specs.Blasted.{term_gates}
use Rattle.bit_blast.specs.Circuits.{constant}
use Rattle.bit_blast.proofs.BitParts.{extended-bits}
use Rattle.bit_blast.proofs.parts.zero_extended.Goals as goal

pub returns-clause-bits : goal.returns-clause-bits
returns-clause-bits c =
    IfOk-weaker c.extended.result (λ ks. ks.items ≡ c.args.a.now ++ replicate c.args.n c.in_ok-zero.zero)
    (λ ks. AreBits c.truth.new.table ks.items (trees_at c.args.table.now c.args.a.now ++ replicate c.args.n (constant term_gates false)))
    (λ ks is. extended-bits c.args.table.now c.truth.new.table c.args.a.now ks.items c.in_ok-zero.zero (constant term_gates false) c.args.n c.in_ok-zero.ensures.grows c.requires c.in_ok-zero.ensures.formula c.in_ok-zero.ensures.term is)
    c.extended.ensures
