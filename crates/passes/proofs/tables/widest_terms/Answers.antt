use Rattle.std.proofs.Common.{sym, subst, get_or, ◌++◌, List, take}
use Rattle.std.proofs.lemmas.Option.{slice_get-get_or}
use Rattle.smt_terms.specs.declared.ids.NodeId.{NodeId}
use Rattle.term_table.specs.Formulas.{tree, trees_at}
use Rattle.pass_laws.specs.Carry.{Asked, asked_for}
use Rattle.passes.specs.LiveSymbols.{IsWidest}
use Rattle.passes.proofs.ListPlaces.{all_taken}
use Rattle.passes.proofs.TabledTerms.{asked-taken}
use Rattle.passes.proofs.tables.widest_terms.Goals as goal

pub loop-term-preserved : goal.loop-term-preserved
loop-term-preserved c =
    let t = c.args.table.now in
    let ks = c.args.terms.now in
    let i = c.loop-term.term-index in
    let d : NodeId = record { 0 = 0 } in
    let k = get_or ks i d in
    record {
      kept = c.in_ok-bits.ensures.kept;
      widest = λ qs before.
          subst (λ (rs : List Asked). IsWidest rs c.with_bits-widest.result) (sym (asked-taken t c.args.assertion ks i k (slice_get-get_or ks i d c.loop-term-test.true) qs))
          (c.with_bits-widest.ensures (qs ++ asked_for c.args.assertion (trees_at t (take i ks))) (tree t k) c.in_ok-bits.ensures.bound (c.loop-term.invariant.widest qs before));
    }

pub returns-clause-widest : goal.returns-clause-widest
returns-clause-widest c = λ qs before.
    subst (λ (ks : List NodeId). IsWidest (qs ++ asked_for c.args.assertion (trees_at c.args.table.now ks)) c.loop-term.widest) (all_taken c.args.terms.now c.loop-term.term-index c.loop-term-test.false) (c.loop-term.invariant.widest qs before)
