use Rattle.std.proofs.Common.{◌++◌, ◌∷◌, [], append_assoc, map, take, ap, sym, ◌∙◌}
use Rattle.term_table.specs.Formulas.{trees_at}
use Rattle.term_walk.proofs.Visits.{table-grows}
use Rattle.ackermann.specs.LiveUses.{uses_of, said}
use Rattle.ackermann.proofs.GrownUses.{use-grows}
use Rattle.ackermann.proofs.PairedUses.{said-grows}
use Rattle.ackermann.proofs.PlacedUses.{place-within, function-use, use-in, more-said}
use Rattle.ackermann.proofs.pairs.push_pairs_at.Goals as goal

pub at-requires : goal.at-requires
at-requires c = place-within c.args.uses.now c.args.new.now.function c.args.places.now c.requires.places c.loop-place.place-index c.loop-place-test.true

pub push_pair-requires-clause-earlier : goal.push_pair-requires-clause-earlier
push_pair-requires-clause-earlier c =
    use-grows c.args.table.now c.loop-place.table c.loop-place.invariant.grows c.at.result.now
    (use-in c.args.uses.now c.args.new.now.function c.args.places.now c.requires.places c.loop-place.place-index c.loop-place-test.true c.at.result.now c.at.ensures c.args.table.now c.requires.uses)

pub push_pair-requires-clause-new : goal.push_pair-requires-clause-new
push_pair-requires-clause-new c = use-grows c.args.table.now c.loop-place.table c.loop-place.invariant.grows c.args.new.now c.requires.new

pub push_pair-requires-clause-function : goal.push_pair-requires-clause-function
push_pair-requires-clause-function c = function-use c.args.uses.now c.args.new.now.function c.args.places.now c.requires.places c.loop-place.place-index c.loop-place-test.true c.at.result.now c.at.ensures

pub loop-place-preserved : goal.loop-place-preserved
loop-place-preserved c =
    let t = c.args.table.now in
    let v = c.args.new.now in
    let u = c.at.result.now in
    let us = c.args.uses.now in
    let i = c.loop-place.place-index in
    let own = use-in us v.function c.args.places.now c.requires.places i c.loop-place-test.true u c.at.ensures t c.requires.uses in
    record {
      grows = table-grows t c.loop-place.table c.push_pair.new.table c.loop-place.invariant.grows c.in_ok-push_pair.ensures.grows;
      symbols = c.in_ok-push_pair.ensures.symbols ∙ c.loop-place.invariant.symbols;
      nodes = c.in_ok-push_pair.ensures.nodes;
      terms =
          c.in_ok-push_pair.ensures.terms
          ∙ (λ j. c.loop-place.invariant.terms j ++ said-grows t c.loop-place.table u v c.loop-place.invariant.grows own c.requires.new j ∷ [])
          ∙ append_assoc (trees_at t c.args.asserts.now) (map (λ w. said t w v) (take i (uses_of v.function us))) (said t u v ∷ [])
          ∙ ap (λ xs. trees_at t c.args.asserts.now ++ xs) (sym (more-said us v.function c.args.places.now c.requires.places i c.loop-place-test.true u c.at.ensures (λ w. said t w v)));
    }
