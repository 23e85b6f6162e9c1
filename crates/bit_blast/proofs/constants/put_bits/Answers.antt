use Rattle.std.proofs.Common.{List, ◌∙◌, sym, subst}
use Rattle.std.proofs.lemmas.List.Elements.{All-push}
use Rattle.smt_terms.specs.declared.ids.NodeId.{NodeId}
use Rattle.term_table.specs.Formulas.{trees_at, IsNode, AreNodes}
use Rattle.term_subst.proofs.Growing.{nodes-grow}
use Rattle.term_walk.proofs.Visits.{table-grows}
use Rattle.bit_blast.proofs.VectorNodes.{bit-pushed}
use Rattle.bit_blast.proofs.constants.put_bits.Goals as goal

pub loop-place-preserved : goal.loop-place-preserved
loop-place-preserved c =
    let old = c.args.table.now in
    let mid = c.loop-place.table in
    let new = c.bit_at.new.table in
    let ks = c.loop-place.bits.items in
    record {
      grows = table-grows old mid new c.loop-place.invariant.grows c.in_ok-bit.ensures.grows;
      symbols = c.in_ok-bit.ensures.symbols ∙ c.loop-place.invariant.symbols;
      sorts = c.in_ok-bit.ensures.sorts ∙ c.loop-place.invariant.sorts;
      nodes =
          subst (λ (js : List NodeId). AreNodes new js) (sym c.in_ok-push.ensures.items)
          (All-push (IsNode new) ks c.in_ok-bit.bit (nodes-grow mid new c.in_ok-bit.ensures.grows ks c.loop-place.invariant.nodes) c.in_ok-bit.ensures.formula.node);
      terms =
          bit-pushed old mid new c.args.vector c.loop-place.invariant.grows c.in_ok-bit.ensures.grows c.requires.vector.node (trees_at old c.args.bits.now.items) ks c.push.new.self.items c.in_ok-bit.bit c.loop-place.place
          c.loop-place.invariant.nodes c.in_ok-push.ensures.items c.in_ok-bit.ensures.term c.loop-place.invariant.terms;
    }
