use Rattle.std.proofs.Common.{◌≡◌, ℕ, ◌+◌, ◌-◌, ◌<◌, ◌≤◌, List, [], ◌∷◌, ◌++◌, length, get_or, take, drop, ap, sym, ◌∙◌, arith}
use Rattle.std.proofs.lemmas.List.{get_or-drop, length-drop, take_more}
use Rattle.std.proofs.lemmas.Option.{get_or_from_slice_get}
use Rattle.smt_terms.specs.declared.ids.NodeId.{NodeId}
use Rattle.bit_blast.proofs.constants.nodes_between.Goals as goal

one-more : (xs before after : List NodeId) (start place : ℕ) (x : NodeId) → start ≤ place → place < length xs → get_or xs place x ≡ x → before ≡ take (place - start) (drop start xs) → after ≡ before ++ x ∷ [] → after ≡ take (place + 1 - start) (drop start xs)
one-more xs before after start place x low within at are put =
    let n = length-drop start xs in
    let next : place - start + 1 ≡ place + 1 - start = omega arith in
    let back : place ≡ start + (place - start) = omega arith in
    put
    ∙ (λ i. are i ++ (sym at ∙ ap (λ k. get_or xs k x) back ∙ sym (get_or-drop start xs (place - start) x)) i ∷ [])
    ∙ sym (take_more (drop start xs) (place - start) x (omega (arith, n)))
    ∙ ap (λ k. take k (drop start xs)) next

pub loop-place-preserved : goal.loop-place-preserved
loop-place-preserved c =
    one-more c.args.nodes.now c.loop-place.some.items c.push.new.self.items c.args.start c.loop-place.place c.get.result (omega arith) (omega arith)
    (get_or_from_slice_get c.args.nodes.now c.loop-place.place c.get.result c.get.result c.get.ensures) c.loop-place.invariant c.in_ok-push.ensures.items
