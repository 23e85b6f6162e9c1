use Rattle.std.proofs.Common.{◌≡◌, ◌∙◌, ap, ℕ, ◌+◌, ◌<◌, List, [], ◌∷◌, ◌++◌, map, length, take, Some, arith}
use Rattle.std.specs.Prelude.{slice_get}
use Rattle.std.proofs.lemmas.Grind.{common_steps}
use Rattle.std.proofs.lemmas.List.{map_more}
use Rattle.std.proofs.lemmas.Option.{get_or_from_slice_get}
use Rattle.smt_terms.specs.declared.ids.NodeId.{NodeId}
use Rattle.models.proofs.live_terms.add_literals.Goals as goal

one_more : (ns : List NodeId) (i : ℕ) (n : NodeId) → i < length ns → slice_get ns i ≡ Some n
    → map {B = NodeId × ℕ} (λ m. (m, 0)) (take (i + 1) ns) ≡ map (λ m. (m, 0)) (take i ns) ++ (n, 0) ∷ []
one_more ns i n within is =
    map_more (λ m. (m, 0)) ns i n within ∙ ap (λ m. map {B = NodeId × ℕ} (λ k. (k, 0)) (take i ns) ++ (m, 0) ∷ []) (get_or_from_slice_get ns i n n is)

pub loop-i-preserved : goal.loop-i-preserved
loop-i-preserved c =
    grind (arith, common_steps, one_more c.in-CheckAssuming.literals c.loop-i.i c.get.result (omega arith) c.get.ensures)
