use Rattle.std.proofs.Common.{◌≡◌, ◌++◌, replicate}
use Rattle.std.proofs.lemmas.Result.{IfOk-weaker}
use Rattle.term_table.specs.Formulas.{trees_at}
use Rattle.bit_blast.specs.BitNodes.{AreBits}
use Rattle.bit_blast.specs.Blasted.{term_gates}
use Rattle.bit_blast.specs.Circuits.{top}
use Rattle.bit_blast.proofs.BitParts.{extended-bits}
use Rattle.bit_blast.proofs.parts.sign_extended.Goals as goal

pub returns-clause-bits : goal.returns-clause-bits
returns-clause-bits c =
    let bits = trees_at c.args.table.now c.args.a.now in
    IfOk-weaker c.extended.result (λ ks. ks.items ≡ c.args.a.now ++ replicate c.args.n c.in_ok-sign.sign)
    (λ ks. AreBits c.top.new.table ks.items (bits ++ replicate c.args.n (top term_gates bits)))
    (λ ks is. extended-bits c.args.table.now c.top.new.table c.args.a.now ks.items c.in_ok-sign.sign (top term_gates bits) c.args.n c.in_ok-sign.ensures.grows c.requires c.in_ok-sign.ensures.formula c.in_ok-sign.ensures.term is)
    c.extended.ensures
