use Rattle.std.proofs.Common.{◌≡◌, None, Some, ap, sym, ◌∙◌, rules}
use Rattle.smt_io.specs.NameCounts.{place_of, count_of}
use Rattle.smt_io.proofs.CountLemmas.{place_of-added, count_of-added}
use Rattle.smt_io.proofs.fault_counts.FaultCounts.place_for.Goals as goal

pub returns-clause-place : goal.returns-clause-place
returns-clause-place c =
    let none : place_of c.args.name.now c.args.self.now ≡ None = search rules in
    ap (place_of c.args.name.now) c.in_ok-add.ensures.ok ∙ place_of-added c.args.name.now c.args.self.now none ∙ ap Some (sym c.len-place.ensures)

pub returns-clause-counts : goal.returns-clause-counts
returns-clause-counts c = λ n. ap (count_of n) c.in_ok-add.ensures.ok ∙ count_of-added c.args.self.now c.args.name.now n
