-- What is made of a term by results that are kept has its sort.
use Rattle.std.proofs.Common.{◌≡◌, List, Option, Some, None, refl, ap, sym, ◌∙◌}
use Rattle.smt_terms.specs.Sorts.{Symbol}
use Rattle.smt_terms.specs.Term.{Head, op, symbol, const_array, Term, apply, quantified, Terms, none, ◌⨾◌, constant}
use Rattle.smt_terms.specs.Free.{free, without}
use Rattle.smt_terms.specs.Rank.{sort_of, sorts_of, sort_over, with_sort}
use Rattle.smt_terms.specs.Made.{made}
use Rattle.smt_terms.specs.Subst.{Map, image, cut_to, Chosen, image_or_itself, rebuilt}
use Rattle.smt_terms.specs.SubstLaws.{HaveSorts}
use Rattle.smt_terms.proofs.Made.{made-sort}
use Rattle.term_subst.specs.Done.{done, dones, KeepSorts}
use Rattle.term_subst.proofs.DoneLaws.{mapped, both-some}

module _ (m : Map) (cs : List Chosen) (have : HaveSorts m) (keep : KeepSorts cs) where
  constant-sort : (f : Symbol) (o : Option Term) → image m f ≡ o → sort_of (image_or_itself o f) ≡ sort_of (constant f)
  constant-sort f None e = refl
  constant-sort f (Some u) e = have f u e

  over-sort : (h : Head) (ts us : Terms) → sorts_of us ≡ sorts_of ts → sort_of (made h us) ≡ sort_of (apply h ts)
  over-sort h ts us sorts = made-sort h us ∙ ap (sort_over h) sorts

  pub rebuilt-sort : (h : Head) (ts us : Terms) → dones m cs ts ≡ Some us → sorts_of us ≡ sorts_of ts → sort_of (rebuilt m h us) ≡ sort_of (apply h ts)
  rebuilt-sort (symbol f) none us e sorts = let nothing : none ≡ us = cc in ap (λ vs. sort_of (rebuilt m (symbol f) vs)) (sym nothing) ∙ constant-sort f (image m f) refl
  rebuilt-sort (symbol f) (t ⨾ ts) us e sorts =
      let found = both-some (done m cs t) (dones m cs ts) us e in
      ap (λ vs. sort_of (rebuilt m (symbol f) vs)) (sym found.4) ∙ over-sort (symbol f) (t ⨾ ts) (found.0 ⨾ found.1) (ap sorts_of found.4 ∙ sorts)
  rebuilt-sort (op p) ts us e sorts = over-sort (op p) ts us sorts
  rebuilt-sort (const_array s) ts us e sorts = over-sort (const_array s) ts us sorts

  mutual
    pub done-sort : (t r : Term) → done m cs t ≡ Some r → sort_of r ≡ sort_of t
    done-sort (apply h ts) r e =
        let found = mapped (rebuilt m h) (dones m cs ts) r e in
        ap sort_of (sym found.2) ∙ rebuilt-sort h ts found.0 found.1 (dones-sorts ts found.0 found.1)
    done-sort (quantified q xs body) r e = keep (cut_to (without xs (free body)) m) (quantified q xs body) r e

    pub dones-sorts : (ts us : Terms) → dones m cs ts ≡ Some us → sorts_of us ≡ sorts_of ts
    dones-sorts none us e = (let nothing : none ≡ us = cc in ap sorts_of (sym nothing))
    dones-sorts (t ⨾ ts) us e =
        let found = both-some (done m cs t) (dones m cs ts) us e in
        ap sorts_of (sym found.4) ∙ (λ i. with_sort (done-sort t found.0 found.2 i) (dones-sorts ts found.1 found.3 i))
