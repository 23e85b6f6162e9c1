use Rattle.std.proofs.Common.{◌∙◌, sym, ap, arith, ◌≡◌, length}
use Rattle.smt_values.specs.Tables.{Table, count}
use Rattle.smt_values.proofs.Pairs.{count-pairs_of}
use Rattle.smt_values.proofs.value.ArrayValue.len.Goals as goal

pub returns : goal.returns
returns c =
    let size : c.len.result ≡ length c.self.inside.pairs.items = omega arith in
    size ∙ sym (count-pairs_of c.self.inside.pairs.items) ∙ ap (λ (t : Table). count t.pairs) c.self.view_is
