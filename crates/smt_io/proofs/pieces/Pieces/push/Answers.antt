use Rattle.std.proofs.Common.{rules, append_assoc, ap, sym, ◌∙◌, ◌++◌, take, drop}
use Rattle.std.proofs.Math.Seq.{take-add}
use Rattle.smt_io.proofs.Transfers.{take-rest}
use Rattle.smt_io.proofs.pieces.Pieces.push.Goals as goal

pub loop-done-preserved : goal.loop-done-preserved
loop-done-preserved c =
    let before = c.loop-done.invariant in
    let done = c.loop-done.done in
    let n = c.in_ok-done.field-0 in
    let bytes = c.args.bytes.now in
    record {
      within = search rules;
      bytes = c.in_ok-done.ensures.ok ∙ ap (λ xs. c.loop-done.self ++ take n xs) (take-rest bytes done)
          ∙ ap (λ xs. xs ++ take n (drop done bytes)) before.bytes ∙ append_assoc c.args.self.now (take done bytes) (take n (drop done bytes))
          ∙ ap (λ xs. c.args.self.now ++ xs) (sym (take-add done n bytes));
    }
