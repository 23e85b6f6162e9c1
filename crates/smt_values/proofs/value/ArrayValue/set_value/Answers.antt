use Rattle.std.proofs.Common.{◌∙◌, sym, ap, subst, arith, ◌<◌, length}
use Rattle.std.proofs.lemmas.List.Elements.{All-set}
use Rattle.std.proofs.lemmas.Option.{IfSome_then}
use Rattle.smt_values.specs.FlatKeys.{AreKeysOf}
use Rattle.smt_values.specs.Tables.{Table, count, with_value_at}
use Rattle.smt_values.specs.Meaning.{meaning, pairs_of, IsHeld}
use Rattle.smt_values.specs.declared.value.Pair.{Pair}
use Rattle.smt_values.proofs.FlatKeys.{keys-set}
use Rattle.smt_values.proofs.Pairs.{count-pairs_of, pairs_of-set, held_at}
use Rattle.smt_values.proofs.value.ArrayValue.set_value.Goals as goal

pub index_mut-requires : goal.index_mut-requires
index_mut-requires c =
    let seen = ap (λ (t : Table). count t.pairs) c.self.view_is in
    omega (arith, seen, count-pairs_of c.self.inside.pairs.items)

pub invariant_of-self : goal.invariant_of-self
invariant_of-self c =
    let sized = ap (λ (t : Table). count t.pairs) c.self.view_is in
    let ps = c.self.inside.pairs.items in
    let lt : c.args.i < length ps = omega (arith, sized, count-pairs_of ps) in
    let stored = pairs_of-set ps c.args.i c.index_mut.result.now c.args.value lt c.index_mut.ensures.value in
    let key = (held_at ps c.args.i c.index_mut.result.now lt c.index_mut.ensures.value c.self.invariant.1).0 in (
      c.self.invariant.0,
      All-set (λ (p : Pair). IsHeld p.key × IsHeld p.value) ps c.args.i (record { key = c.index_mut.result.now.key; value = c.args.value }) (key, c.requires.held) c.self.invariant.1,
      IfSome_then c.self.inside.places c.self.invariant.2 (λ s are. subst (λ qs. AreKeysOf qs s.keys) (sym stored) (keys-set (pairs_of ps) c.args.i (meaning c.args.value) s.keys are)),
    )

pub returns : goal.returns
returns c =
    let seen = c.self.view_is in
    let sized = ap (λ (t : Table). count t.pairs) c.self.view_is in
    let lt : c.args.i < length c.self.inside.pairs.items = omega (arith, sized, count-pairs_of c.self.inside.pairs.items) in
    let items = pairs_of-set c.self.inside.pairs.items c.args.i c.index_mut.result.now c.args.value lt c.index_mut.ensures.value in
    λ i. record { fallback = (seen i).fallback; pairs = (items ∙ ap (λ (t : Table). with_value_at t.pairs c.args.i (meaning c.args.value)) seen) i }
