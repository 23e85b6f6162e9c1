use Rattle.std.proofs.Common.{◌≡◌, false, List, length, replicate, IfOk, ap, sym, ◌∙◌, subst}
use Rattle.smt_terms.specs.Term.{Term}
use Rattle.term_table.specs.Formulas.{tree, tree_in, trees_at}
use Rattle.bit_blast.specs.Blasted.{term_gates}
use Rattle.bit_blast.specs.Circuits.{constant, filled, equal}
use Rattle.bit_blast.proofs.BitsOverTables.{trees-kept, trees-count}
use Rattle.bit_blast.proofs.MovedBits.{map-replicate}
use Rattle.bit_blast.proofs.signed.is_zero.Goals as goal

pub returns-clause-term : goal.returns-clause-term
returns-clause-term c =
    let t = c.truth.new.table in
    let none = c.in_ok-none.ensures.term in
    let us : List Term = trees_at c.args.table.now c.args.a.now in
    let a = trees-kept c.args.table.now t c.in_ok-none.ensures.grows c.args.a.now c.requires.a in
    let count = sym (trees-count c.args.table.now c.args.a.now) in
    let zero : trees_at t c.deref.result.now ≡ filled (constant term_gates false) us =
    ap (trees_at t) (c.deref.ensures.value ∙ c.in_ok-zero.ensures) ∙ map-replicate (tree_in t.trees) (length c.args.a.now) c.in_ok-none.none ∙ (λ i. replicate (count i) (none i)) in
    subst (λ (u : Term). IfOk c.equal.result (λ k. tree c.equal.new.table k ≡ u)) (λ i. equal term_gates (a i) (zero i)) c.equal.ensures.term
