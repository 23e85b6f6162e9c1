-- Results of quantified nodes under cut maps, as terms and by numbers.
use Rattle.std.proofs.Common.{◌≡◌, ℕ, ◌==◌, ◌&&◌, Bool, true, false, cond, if◌then◌else◌, List, [], ◌∷◌, All, Option, Some, refl, ap, sym, ◌∙◌}
use Rattle.std.specs.Prelude.{option_map}
use Rattle.std.proofs.lemmas.Bool.Decides.{Decides-eqb}
use Rattle.std.proofs.lemmas.List.Elements.{All-head, All-tail}
use Rattle.smt_terms.specs.declared.ids.NodeId.{NodeId}
use Rattle.smt_terms.specs.Term.{Term}
use Rattle.smt_terms.specs.Equal.{term_eq}
use Rattle.smt_terms.specs.Subst.{map_eq, chosen_for}
use Rattle.smt_terms.proofs.Equal.{Decides-term_eq}
use Rattle.smt_terms.proofs.Tests.{alike_from}
use Rattle.term_table.specs.Formulas.{Formulas, IsTable, tree, IsNode}
use Rattle.term_subst.specs.declared.chosen.Key.{Key}
use Rattle.term_subst.specs.Keys.{pairs_eq, is_key, chosen_in}
use Rattle.term_subst.specs.Maps.{Pairs, map_at}
use Rattle.term_subst.specs.State.{IsChosen, chosen_at}
use Rattle.term_subst.specs.Substituting.{IsPair, IsMap}
use Rattle.term_subst.proofs.MapsAt.{symbols-alike}

module _ (t : Formulas) (table : IsTable t) where
  nodes-alike : (j k : NodeId) → IsNode t j → IsNode t k → term_eq (tree t j) (tree t k) ≡ (j.0 == k.0)
  nodes-alike j k a b =
      alike_from (term_eq (tree t j) (tree t k)) (j.0 == k.0)
      (λ e. (Decides-eqb j.0 k.0).1 (table.one_tree j.0 k.0 a b ((Decides-term_eq (tree t j) (tree t k)).0 e)))
      (λ e. (Decides-term_eq (tree t j) (tree t k)).1 (let same : j.0 ≡ k.0 = (Decides-eqb j.0 k.0).0 e in ap (λ n. tree t (record { 0 = n })) same))

  eq-turned : (i j : ℕ) → (i == j) ≡ (j == i)
  eq-turned i j = alike_from (i == j) (j == i) (λ e. (Decides-eqb j i).1 (sym ((Decides-eqb i j).0 e))) (λ e. (Decides-eqb i j).1 (sym ((Decides-eqb j i).0 e)))

  maps-alike : (ps qs : Pairs) → IsMap t ps → IsMap t qs → map_eq (map_at t ps) (map_at t qs) ≡ pairs_eq ps qs
  maps-alike [] [] a b = refl
  maps-alike [] (q ∷ qs) a b = refl
  maps-alike (p ∷ ps) [] a b = refl
  maps-alike (p ∷ ps) (q ∷ qs) a b =
      let first = All-head (IsPair t) p ps a in
      let second = All-head (IsPair t) q qs b in
      let key = symbols-alike t table q.0 p.0 second.symbol first.symbol ∙ eq-turned q.0.0 p.0.0 in
      let image = nodes-alike p.1 q.1 first.image second.image in
      let rest = maps-alike ps qs (All-tail (IsPair t) p ps a) (All-tail (IsPair t) q qs b) in
      λ i. key i && (image i && rest i)

  found-alike : (b c : Bool) (d : Option Term) (r : NodeId) (o : Option NodeId) → b ≡ c → d ≡ option_map (tree t) o → cond b (Some (tree t r)) d ≡ option_map (tree t) (if c then Some r else o)
  found-alike true true d r o e h = refl
  found-alike false false d r o e h = h
  found-alike true false d r o e h = absurd cc
  found-alike false true d r o e h = absurd cc

  pub chosen-alike : (es : List (Key × NodeId)) → All (IsChosen t) es → (k : NodeId) → IsNode t k → (ps : Pairs) → IsMap t ps → chosen_for (chosen_at t es) (map_at t ps) (tree t k) ≡ option_map (tree t) (chosen_in es k ps)
  chosen-alike [] all k node ps pairs = refl
  chosen-alike (e ∷ es) all k node ps pairs =
      let first = All-head (IsChosen t) e es all in
      let cut = maps-alike e.0.cut.items ps first.cut pairs in
      let term = nodes-alike e.0.node k first.node node in
      let test : (map_eq (map_at t e.0.cut.items) (map_at t ps) && term_eq (tree t e.0.node) (tree t k)) ≡ is_key e.0 k ps = (λ i. cut i && term i) in
      found-alike (map_eq (map_at t e.0.cut.items) (map_at t ps) && term_eq (tree t e.0.node) (tree t k)) (is_key e.0 k ps)
      (chosen_for (chosen_at t es) (map_at t ps) (tree t k)) e.1 (chosen_in es k ps) test
      (chosen-alike es (All-tail (IsChosen t) e es all) k node ps pairs)
