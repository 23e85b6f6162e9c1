-- Images are read and set by the numbers of symbols.
use Rattle.std.proofs.Common.{◌≡◌, ℕ, suc, ◌-◌, ◌<◌, ◌≤◌, ◌==◌, Bool, true, false, cond, if◌then◌else◌, [], ◌∷◌, length, get_or, drop, All, Option, Some, refl, ap, sym, subst, ◌∙◌, arith}
use Rattle.std.proofs.Math.Seq.{drop-cons}
use Rattle.std.specs.Map.{lookup}
use Rattle.std.proofs.lemmas.Bool.Decides.{Decides-eqb}
use Rattle.std.proofs.lemmas.List.Elements.{All-nil, All-cons, All-head, All-tail}
use Rattle.indexmap.specs.IndexMap.{insert_entry}
use Rattle.smt_terms.specs.declared.ids.NodeId.{NodeId}
use Rattle.smt_terms.specs.declared.ids.SymId.{SymId}
use Rattle.smt_terms.specs.contracts.ids.SymIdPartialEq.TheImpl.{ghosts}
use Rattle.term_subst.specs.Maps.{Pairs, image_in, with_image}

apart : {A : Type 0} (s k e : ℕ) (a b v : A) → (k ≡ e → ⊥) → (if s == e then a else (if s == k then v else b)) ≡ (if s == k then v else (if s == e then a else b))
apart s k e a b v differ = by (s == e) (s == k) refl refl
  where
    by : (p q : Bool) → (s == e) ≡ p → (s == k) ≡ q → (if p then a else (if q then v else b)) ≡ (if q then v else (if p then a else b))
    by true true h g = absurd (differ (sym ((Decides-eqb s k).0 g) ∙ (Decides-eqb s e).0 h))
    by true false h g = refl
    by false q h g = refl

replaced : {A : Type 0} (b : Bool) (u a v : A) → (if b then v else u) ≡ (if b then v else (if b then a else u))
replaced true u a v = refl
replaced false u a v = refl

-- the image that was set is found, and other images as before
pub image_in-with : (ps : Pairs) (k : SymId) (v : NodeId) (f : SymId) → image_in (with_image ps k v) f ≡ (if f.0 == k.0 then Some v else image_in ps f)
image_in-with [] k v f = refl
image_in-with (p ∷ ps) k v f = by (image_in-with ps k v f) (k.0 == p.0.0) refl
  where
    by : image_in (with_image ps k v) f ≡ (if f.0 == k.0 then Some v else image_in ps f) → (b : Bool) → (k.0 == p.0.0) ≡ b
        → image_in (if◌then◌else◌ {A = Pairs} b ((p.0, v) ∷ ps) (p ∷ with_image ps k v)) f ≡ (if f.0 == k.0 then Some v else (if f.0 == p.0.0 then Some p.1 else image_in ps f))
    by rest true h =
        let same : k.0 ≡ p.0.0 = (Decides-eqb k.0 p.0.0).0 h in
        replaced (f.0 == p.0.0) (image_in ps f) (Some p.1) (Some v) ∙ ap (λ n. if f.0 == n then Some v else (if f.0 == p.0.0 then Some p.1 else image_in ps f)) (sym same)
    by rest false h =
        ap (λ (o : Option NodeId). if f.0 == p.0.0 then Some p.1 else o) rest
        ∙ apart f.0 k.0 p.0.0 (Some p.1) (image_in ps f) (Some v) (λ e. let d = (Decides-eqb k.0 p.0.0).1 e in cc)

-- what holds of each pair holds with one more; of the symbol's number alone, since the pair keeps the symbol that it had
pub with_image-All : (P : SymId × NodeId → Type 0) (ps : Pairs) (k : SymId) (v : NodeId) → ((f : SymId) → f.0 ≡ k.0 → P (f, v)) → All P ps → All P (with_image ps k v)
with_image-All P [] k v one all = All-cons P (k, v) [] (one k refl) (All-nil P)
with_image-All P (p ∷ ps) k v one all = by (with_image-All P ps k v one (All-tail P p ps all)) (k.0 == p.0.0) refl
  where
    by : All P (with_image ps k v) → (b : Bool) → (k.0 == p.0.0) ≡ b → All P (if◌then◌else◌ {A = Pairs} b ((p.0, v) ∷ ps) (p ∷ with_image ps k v))
    by rest true h = All-cons P (p.0, v) ps (one p.0 (sym ((Decides-eqb k.0 p.0.0).0 h))) (All-tail P p ps all)
    by rest false h = All-cons P p (with_image ps k v) (All-head P p ps all) rest

-- ---- as the map of the kit has them

pub with_image-insert : (ps : Pairs) (k : SymId) (v : NodeId) → insert_entry ghosts.eq ps k v ≡ with_image ps k v
with_image-insert [] k v = refl
with_image-insert (p ∷ ps) k v = ap (λ (rest : Pairs). if◌then◌else◌ {A = Pairs} (k.0 == p.0.0) ((p.0, v) ∷ ps) (p ∷ rest)) (with_image-insert ps k v)

pub image_in-lookup : (ps : Pairs) (f : SymId) → image_in ps f ≡ lookup (ghosts.eq f) ps
image_in-lookup [] f = refl
image_in-lookup (p ∷ ps) f = by (image_in-lookup ps f) (f.0 == p.0.0)
  where
    by : image_in ps f ≡ lookup (ghosts.eq f) ps → (b : Bool) → (if b then Some p.1 else image_in ps f) ≡ cond {A = Option NodeId} b (Some p.1) (lookup (ghosts.eq f) ps)
    by rest true = refl
    by rest false = rest

-- ---- a list of pairs, put into a map from the last to the first

module _ (pairs : Pairs) (place : ℕ) (d : SymId × NodeId) (old new : Pairs) (some : 0 < place) (room : place ≤ length pairs)
    (set : new ≡ with_image old (get_or pairs (place - 1) d).0 (get_or pairs (place - 1) d).1) where
  front : drop (place - 1) pairs ≡ get_or pairs (place - 1) d ∷ drop place pairs
  front = drop-cons pairs (place - 1) d (omega arith) ∙ ap (λ i. get_or pairs (place - 1) d ∷ drop i pairs) (let e : suc (place - 1) ≡ place = omega arith in e)

  pub images-set : ((f : SymId) → image_in old f ≡ image_in (drop place pairs) f) → (f : SymId) → image_in new f ≡ image_in (drop (place - 1) pairs) f
  images-set images f =
      let p = get_or pairs (place - 1) d in
      ap (λ (ps : Pairs). image_in ps f) set ∙ image_in-with old p.0 p.1 f
      ∙ ap (λ (o : Option NodeId). if f.0 == p.0.0 then Some p.1 else o) (images f)
      ∙ ap (λ (ps : Pairs). image_in ps f) (sym front)

  pub pairs-set : (P : SymId × NodeId → Type 0) → All P pairs → All P old → All P new
  pairs-set P all before =
      let p = get_or pairs (place - 1) d in
      subst (All P) (sym set) (with_image-All P old p.0 p.1 (λ f e. subst P (let same : p ≡ (f, p.1) = (λ i. (record { 0 = sym e i }, p.1)) in same) (all (place - 1) d (omega arith))) before)
