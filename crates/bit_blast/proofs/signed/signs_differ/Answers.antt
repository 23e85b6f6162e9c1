use Rattle.std.proofs.Common.{◌≡◌, IfOk, ap, ◌∙◌, subst}
use Rattle.smt_terms.specs.Term.{Term}
use Rattle.term_table.specs.Formulas.{tree}
use Rattle.bit_blast.specs.Blasted.{term_gates}
use Rattle.bit_blast.specs.Circuits.{differ, top}
use Rattle.bit_blast.proofs.BitsOverTables.{tree-kept, trees-kept}
use Rattle.bit_blast.proofs.signed.signs_differ.Goals as goal

pub returns-clause-term : goal.returns-clause-term
returns-clause-term c =
    let first = c.in_ok-s.ensures in
    let second = c.in_ok-t.ensures in
    let s = tree-kept c.top.new.table c.top-2.new.table second.grows c.in_ok-s.s first.formula ∙ first.term in
    let t = second.term ∙ ap (top term_gates) (trees-kept c.args.table.now c.top.new.table first.grows c.args.b.now c.requires.b) in
    subst (λ (u : Term). IfOk c.pair.result (λ k. tree c.pair.new.table k ≡ u)) (λ i. differ term_gates (s i) (t i)) c.pair.ensures.term
