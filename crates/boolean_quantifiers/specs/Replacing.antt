-- Terms in the places of constants, as nodes.
use Rattle.std.specs.Prelude.{◌≡◌, ℕ, ◌<◌, ◌==◌, ◌||◌, Bool, true, false, cond, List, [], ◌∷◌, map, All, Option, Some, None, is_some, if◌then◌else◌}
use Rattle.smt_terms.specs.declared.ids.NodeId.{NodeId}
use Rattle.smt_terms.specs.Equal.{term_eq}
use Rattle.smt_terms.specs.Groups.{has_term}
use Rattle.smt_terms.specs.Sorts.{Symbol, Variable}
use Rattle.smt_terms.specs.Term.{Term, apply, quantified, Terms, none, ◌⨾◌, constant, variable}
use Rattle.term_table.specs.Formulas.{Formulas, tree, operands, IsNode}
use Rattle.quantifier_forms.specs.Memos.{Results, result_in, known_in}
use Rattle.quantifier_forms.specs.Rebuilding.{IsLike}

abbrev pub Images : Type 0
Images = List (Term × Term)

-- the image of a term, the first one
abbrev pub image_for : Images → Term → Option Term
image_for [] t = None
image_for (p ∷ ps) t = cond (term_eq p.0 t) (Some p.1) (image_for ps t)

abbrev pub has_image : Images → Term → Bool
has_image [] t = false
has_image (p ∷ ps) t = term_eq p.0 t || has_image ps t

-- whether one of the variables has an image
abbrev pub binds_image : Images → List Variable → Bool
binds_image ps [] = false
binds_image ps (x ∷ xs) = has_image ps (variable x) || binds_image ps xs

abbrev pub or_else : Option Term → Term → Term
or_else (Some t) u = t
or_else None u = u

abbrev mutual
  -- images in the places of constants; a quantified term that binds one of them stays as it is
  pub put : Images → Term → Term
  put ps (apply h ts) = or_else (image_for ps (apply h ts)) (apply h (put_each ps ts))
  put ps (quantified q xs body) = cond (binds_image ps xs) (quantified q xs body) (quantified q xs (put ps body))

  pub put_each : Images → Terms → Terms
  put_each ps none = none
  put_each ps (t ⨾ ts) = put ps t ⨾ put_each ps ts

-- ---- nodes

abbrev pub Pairs : Type 0
Pairs = List (NodeId × NodeId)

abbrev pub image_of : Pairs → NodeId → Option NodeId
image_of [] k = None
image_of (p ∷ ps) k = if p.0.0 == k.0 then Some p.1 else image_of ps k

abbrev pub images_at : Formulas → Pairs → Images
images_at t ps = map (λ p. (tree t p.0, tree t p.1)) ps

-- a constant and its image, which is like it
pub record IsImage (t : Formulas) (p : NodeId × NodeId) : Type 0 where
  pub from : IsNode t p.0
  pub symbol : Symbol
  pub constant_is : tree t p.0 ≡ constant symbol
  pub image : IsNode t p.1
  pub like : IsLike (tree t p.0) (tree t p.1)

abbrev pub AreImages : Formulas → Pairs → Type 0
AreImages t ps = All (IsImage t) ps

-- the node r is what the images make of the node k
pub record IsPut (t : Formulas) (ps : Pairs) (k r : NodeId) : Type 0 where
  pub node : IsNode t k
  pub result : IsNode t r
  pub term : tree t r ≡ put (images_at t ps) (tree t k)
  pub like : IsLike (tree t k) (tree t r)

-- the results in this version are what the images make
abbrev pub ArePut : Formulas → Pairs → Results → ℕ → Type 0
ArePut t ps m v = (k r : NodeId) → result_in m v k ≡ Some r → IsPut t ps k r

-- a node that passes the test stays as it is
abbrev pub Spares : Formulas → Pairs → (NodeId → Bool) → Type 0
Spares t ps f = (k : NodeId) → IsNode t k → f k ≡ true → put (images_at t ps) (tree t k) ≡ tree t k

-- the operands of a node have results
abbrev pub AreReady : Formulas → Pairs → Results → ℕ → NodeId → Type 0
AreReady t ps m v id = (k : NodeId) → k.0 < id.0 → has_term (operands (tree t id)) (tree t k) ≡ true → IsPut t ps k (known_in m v k)

-- a node that has a result, or is spared
abbrev pub is_known : Results → ℕ → (NodeId → Bool) → NodeId → Bool
is_known m v f k = is_some (result_in m v k) || f k

-- a node that had a result has one, and results of other versions are as they were
pub record Extends (old new : Results) (v : ℕ) : Type 0 where
  pub stay : (k : NodeId) → is_some (result_in old v k) ≡ true → is_some (result_in new v k) ≡ true
  pub others : (w : ℕ) (k : NodeId) → (w ≡ v → ⊥) → result_in new w k ≡ result_in old w k
