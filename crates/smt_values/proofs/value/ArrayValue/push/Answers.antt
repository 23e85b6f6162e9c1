use Rattle.std.proofs.Common.{◌∙◌, ap, sym, subst}
use Rattle.std.proofs.lemmas.List.Elements.{All-push}
use Rattle.std.proofs.lemmas.Option.{IfSome_then}
use Rattle.smt_values.specs.FlatKeys.{AreKeysOf}
use Rattle.smt_values.specs.Meaning.{meaning, pairs_of, IsHeld, AreHeld}
use Rattle.smt_values.specs.Tables.{Table, with_pair}
use Rattle.smt_values.specs.declared.value.Pair.{Pair}
use Rattle.smt_values.proofs.Pairs.{pairs_of-push}
use Rattle.smt_values.proofs.value.ArrayValue.push.Goals as goal

pub invariant_of-self-2 : goal.invariant_of-self-2
invariant_of-self-2 c =
    let pair : Pair = record { key = c.args.key; value = c.args.value } in
    let items = ap pairs_of c.in_ok-push.ensures.items ∙ pairs_of-push c.self.inside.pairs.items pair in
    let seen = c.self.view_is ∙ c.take_places.ensures.same in
    let stored = items ∙ ap (λ (t : Table). with_pair t.pairs (meaning c.args.key) (meaning c.args.value)) seen in (
      c.self.invariant.0,
      subst AreHeld (sym c.in_ok-push.ensures.items) (All-push (λ (p : Pair). IsHeld p.key × IsHeld p.value) c.self.inside.pairs.items pair c.self.invariant.1 (c.requires.key, c.requires.value)),
      IfSome_then c.in_ok-places-2.places c.in_ok-places-2.ensures (λ s more. subst (λ ps. AreKeysOf ps s.keys) (sym stored) (more c.args.self.now.pairs (meaning c.args.value) c.in_ok-places.ensures.places)),
    )

pub returns : goal.returns
returns c =
    let items = ap pairs_of c.in_ok-push.ensures.items ∙ pairs_of-push c.self.inside.pairs.items (record { key = c.args.key; value = c.args.value }) in
    let seen = c.self.view_is ∙ c.take_places.ensures.same in
    λ i. record { fallback = (seen i).fallback; pairs = (items ∙ ap (λ (t : Table). with_pair t.pairs (meaning c.args.key) (meaning c.args.value)) seen) i }
