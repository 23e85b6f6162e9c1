use Rattle.std.proofs.Common.{ap, subst, ℕ, ◌+◌, length, List, arith, Ok, Err}
use Rattle.std.proofs.lemmas.Result.{err_from_is_err_and}
use Rattle.dimacs_link.specs.AnswerTexts.{line_items, items_at}
use Rattle.dimacs_link.specs.Readings.{Reads, parts_behind}
use Rattle.dimacs_link.proofs.Passages.{part_more, part_stops}
use Rattle.dimacs_link.proofs.progress.Progress.read_text.Goals as goal

pub returns-in_err-read_line-clause-read : goal.returns-in_err-read_line-clause-read
returns-in_err-read_line-clause-read c =
    let p = err_from_is_err_and c.from_residual.result c.from_residual.ensures.1 in
    let line = c.cut.result.0.now in
    let start = c.lines.start in
    let at = c.in_err-read_line.field-0.0 in
    let read = subst (λ (l : List ℕ). Reads c.lines.self (λ count. items_at count start l) (Err at) c.read_line.new.self) c.without_return.ensures.text c.in_err-read_line.ensures.read in
    rw (p.1, p.2) (part_stops line_items 10 0 c.args.text.now start c.lines.rest.now line (parts_behind 10 c.cut.result.1) c.args.self.now c.lines.self c.read_line.new.self at c.cut.ensures.parts c.lines.invariant.read read)

pub returns-in_err-read_line-clause-fault : goal.returns-in_err-read_line-clause-fault
returns-in_err-read_line-clause-fault c =
    let p = err_from_is_err_and c.from_residual.result c.from_residual.ensures.1 in
    rw (p.1, p.2) (omega (arith, c.in_err-read_line.ensures.fault))

pub lines-preserved : goal.lines-preserved
lines-preserved c =
    let line = c.cut.result.0.now in
    let start = c.lines.start in
    let len = rw c.in-Some.is at c.cut.ensures.len in
    let read = subst (λ (l : List ℕ). Reads c.lines.self (λ count. items_at count start l) (Ok tt) c.read_line.new.self) c.without_return.ensures.text c.in_ok-read_line.ensures.read in
    record {
      place = omega (arith, len);
      read =
          part_more line_items 10 0 c.args.text.now start c.lines.rest.now line (parts_behind 10 c.cut.result.1) c.args.self.now c.lines.self c.read_line.new.self tt
          (start + (length line + 1)) c.in-Some.text.now c.cut.ensures.parts (ap (parts_behind 10) c.in-Some.is) (omega arith) c.lines.invariant.read read;
    }
