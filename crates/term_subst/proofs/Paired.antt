-- Parameters with their arguments, as pairs.
use Rattle.std.proofs.Common.{◌≡◌, ℕ, zero, suc, ◌+◌, ◌<◌, ◌≤◌, List, [], ◌∷◌, ◌++◌, map, zip, length, get_or, take, refl, ap, ◌∙◌, arith}
use Rattle.std.proofs.lemmas.List.{take_more, take_all}
use Rattle.std.proofs.lemmas.Slice.Zip.{length-zip}
use Rattle.smt_terms.specs.declared.ids.NodeId.{NodeId}
use Rattle.smt_terms.specs.declared.ids.SymId.{SymId}
use Rattle.smt_terms.specs.Fresh.{Supply}
use Rattle.smt_terms.specs.Subst.{image, subst, expand}
use Rattle.smt_terms.specs.Term.{Term}
use Rattle.term_table.specs.Formulas.{Formulas, IsTable, symbol_at, tree, trees_at}
use Rattle.term_subst.specs.Maps.{Pairs, map_at, image_in}
use Rattle.term_subst.specs.Substituting.{IsMap}
use Rattle.term_subst.proofs.Alike.{subst-by-images}
use Rattle.term_subst.proofs.MapsAt.{images-same}

zip-at : (fs : List SymId) (ks : List NodeId) (i : ℕ) (f : SymId) (k : NodeId) → i < length fs → i < length ks → get_or (zip fs ks) i (f, k) ≡ (get_or fs i f, get_or ks i k)
zip-at [] ks i f k lt also = absurd (omega arith)
zip-at (g ∷ fs) [] i f k lt also = absurd (omega arith)
zip-at (g ∷ fs) (j ∷ ks) zero f k lt also = refl
zip-at (g ∷ fs) (j ∷ ks) (suc i) f k lt also = zip-at fs ks i f k (omega arith) (omega arith)

pub zip-more : (fs : List SymId) (ks : List NodeId) (i : ℕ) (f : SymId) (k : NodeId) → length ks ≡ length fs → i < length ks → take (i + 1) (zip fs ks) ≡ take i (zip fs ks) ++ (get_or fs i f, get_or ks i k) ∷ []
zip-more fs ks i f k many lt =
    let count = length-zip fs ks in
    take_more (zip fs ks) i (f, k) (omega (arith, count)) ∙ ap (λ p. take i (zip fs ks) ++ p ∷ []) (zip-at fs ks i f k (omega arith) lt)

pub zip-all : (fs : List SymId) (ks : List NodeId) (i : ℕ) → length ks ≤ i → take i (zip fs ks) ≡ zip fs ks
zip-all fs ks i le = (let count = length-zip fs ks in take_all i (zip fs ks) (omega (arith, count)))

pub map_at-zip : (t : Formulas) (fs : List SymId) (ks : List NodeId) → map_at t (zip fs ks) ≡ zip (map (symbol_at t) fs) (trees_at t ks)
map_at-zip t [] ks = refl
map_at-zip t (f ∷ fs) [] = refl
map_at-zip t (f ∷ fs) (k ∷ ks) = ap (λ m. (symbol_at t f, tree t k) ∷ m) (map_at-zip t fs ks)

pub expand-by-images : (t : Formulas) → IsTable t → (ps : Pairs) → IsMap t ps → (fs : List SymId) (ks : List NodeId) → IsMap t (zip fs ks) → ((f : SymId) → image_in ps f ≡ image_in (zip fs ks) f)
    → (u : Term) (s : Supply) → subst (map_at t ps) u s ≡ expand (map (symbol_at t) fs) u (trees_at t ks) s
expand-by-images t table ps pairs fs ks others same u s =
    subst-by-images (map_at t ps) (zip (map (symbol_at t) fs) (trees_at t ks)) (λ f. images-same t table ps (zip fs ks) pairs others same f ∙ ap (λ m. image m f) (map_at-zip t fs ks)) u s
