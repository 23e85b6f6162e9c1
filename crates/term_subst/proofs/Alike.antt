-- Maps with the same images substitute alike.
use Rattle.std.proofs.Common.{◌≡◌, List, [], ◌∷◌, refl, ap, ◌∙◌}
use Rattle.std.specs.Prelude.{option_map}
use Rattle.std.specs.List.{cons_option}
use Rattle.smt_terms.specs.Sorts.{Symbol}
use Rattle.smt_terms.specs.Term.{Head, op, symbol, const_array, Term, apply, quantified, Terms, none, ◌⨾◌}
use Rattle.smt_terms.specs.Free.{free, without}
use Rattle.smt_terms.specs.Fresh.{Supply}
use Rattle.smt_terms.specs.Subst.{Map, image, cut_to, names_in, renaming, Choices, chosen_for, keep, kept_or, quantify, image_or_itself, rebuilt, subst_from, substs_from, subst}

module _ (m n : Map) (same : (f : Symbol) → image m f ≡ image n f) where
  pub cut-alike : (fs : List Symbol) → cut_to fs m ≡ cut_to fs n
  cut-alike [] = refl
  cut-alike (f ∷ fs) = λ i. cons_option (option_map (λ t. (f, t)) (same f i)) (cut-alike fs i)

  pub rebuilt-alike : (h : Head) (ts : Terms) → rebuilt m h ts ≡ rebuilt n h ts
  rebuilt-alike (symbol f) none = ap (λ o. image_or_itself o f) (same f)
  rebuilt-alike (symbol f) (t ⨾ ts) = refl
  rebuilt-alike (op p) ts = refl
  rebuilt-alike (const_array s) ts = refl

  mutual
    pub subst-alike : (t : Term) (s : Choices) → subst_from m t s ≡ subst_from n t s
    subst-alike (apply h ts) s =
        ap (λ (r : Terms × Choices). (rebuilt m h r.0, r.1)) (substs-alike ts s) ∙ ap (λ u. (u, (substs_from n ts s).1)) (rebuilt-alike h (substs_from n ts s).0)
    subst-alike (quantified q xs body) s =
        ap (λ (cut : Map). kept_or (chosen_for s.chosen cut (quantified q xs body)) s λ s'. keep cut (quantified q xs body) (quantify q (renaming (names_in cut) xs cut s'.names) s'.chosen (λ m' s''. subst_from m' body s'')))
        (cut-alike (without xs (free body)))

    substs-alike : (ts : Terms) (s : Choices) → substs_from m ts s ≡ substs_from n ts s
    substs-alike none s = refl
    substs-alike (t ⨾ ts) s =
        ap (λ (a : Term × Choices). (a.0 ⨾ (substs_from m ts a.1).0, (substs_from m ts a.1).1)) (subst-alike t s)
        ∙ ap (λ (r : Terms × Choices). ((subst_from n t s).0 ⨾ r.0, r.1)) (substs-alike ts (subst_from n t s).1)

  -- the order of a map's pairs doesn't count
  pub subst-by-images : (t : Term) (s : Supply) → subst m t s ≡ subst n t s
  subst-by-images t s = ap (λ (r : Term × Choices). (r.0, r.1.names)) (subst-alike t (record { names = s; chosen = [] }))
