-- Negation normal form and and-inverter form bring in no sort and no quantified name: each sort and each quantified name of the
-- result passes the tests that those of the term pass.
use Rattle.std.proofs.Common.{◌≡◌, ℕ, zero, suc, Bool, true, ◌&&◌, List, [], ◌∷◌, map, refl, sym, subst}
use Rattle.std.specs.List.{list_all}
use Rattle.smt_terms.specs.declared.op.Op.{Op}
use Rattle.smt_terms.specs.declared.op.Op.TheVariants.{Not, And, Or}
use Rattle.smt_terms.specs.Sorts.{Name, Sort}
use Rattle.smt_terms.specs.Term.{op, Term, apply, quantified, Terms, none, ◌⨾◌, terms}
use Rattle.smt_terms.specs.Connectives.{Kind, truth_value, negation, conjunction, disjunction, exclusive, implication, equivalence, difference, conditional, atom, kind_of, negated, all_of, both, either, opposite, nth}
use Rattle.smt_terms.proofs.Tests.{both_true, and_true}
use Rattle.normal_forms.specs.Nnf.{differ, agree, positive_distinct, negative_distinct, positive, negative, nnf, nnf_not, nnf_each, nnf_not_each}
use Rattle.normal_forms.specs.Aig.{same_sides, aig_distinct, inverted, aig, aig_each}
use Rattle.script_read.specs.Printable.{head_sorts, all_within, all_within_each}

module _ (sorts : Sort → Bool) (names : Name → Bool) where
  abbrev within : Term → Bool
  within t = all_within sorts names t

  abbrev Within : Term → Type 0
  Within t = within t ≡ true

  abbrev All : List Term → Type 0
  All ts = list_all within ts ≡ true

  -- ---- terms that are made of such

  over-one : (o : Op) (t : Term) → Within t → Within (apply (op o) (t ⨾ none))
  over-one o t a = and_true (within t) true a refl

  over-two : (o : Op) (s t : Term) → Within s → Within t → Within (apply (op o) (s ⨾ t ⨾ none))
  over-two o s t a b = and_true (within s) (within t && true) a (over-one o t b)

  listed : (ts : List Term) → All ts → all_within_each sorts names (terms ts) ≡ true
  listed [] all = refl
  listed (t ∷ ts) all =
      let parts = both_true (within t) (list_all within ts) all in
      and_true (within t) (all_within_each sorts names (terms ts)) parts.0 (listed ts parts.1)

  over-all : (o : Op) (ts : List Term) → All ts → Within (apply (op o) (terms ts))
  over-all o ts all = listed ts all

  place : (ts : List Term) (i : ℕ) → All ts → Within (nth ts i)
  place [] i all = refl
  place (t ∷ ts) zero all = (both_true (within t) (list_all within ts) all).0
  place (t ∷ ts) (suc i) all = place ts i (both_true (within t) (list_all within ts) all).1

  and : (s t : Term) → Within s → Within t → Within (both s t)
  and s t = over-two And s t

  or : (s t : Term) → Within s → Within t → Within (either s t)
  or s t = over-two Or s t

  -- ---- negation normal form

  abbrev Two : Term → Term → Type 0
  Two a b = Within a × Within b

  differ-within : (ps ns : List Term) → All ps → All ns → Within (differ ps ns)
  differ-within ps ns a b = or (both (nth ps 0) (nth ns 1)) (both (nth ns 0) (nth ps 1)) (and (nth ps 0) (nth ns 1) (place ps 0 a) (place ns 1 b)) (and (nth ns 0) (nth ps 1) (place ns 0 b) (place ps 1 a))

  agree-within : (ps ns : List Term) → All ps → All ns → Within (agree ps ns)
  agree-within ps ns a b = and (either (nth ns 0) (nth ps 1)) (either (nth ps 0) (nth ns 1)) (or (nth ns 0) (nth ps 1) (place ns 0 b) (place ps 1 a)) (or (nth ps 0) (nth ns 1) (place ps 0 a) (place ns 1 b))

  distinct-within : (ps ns : List Term) → All ps → All ns → Two (positive_distinct ps ns) (negative_distinct ps ns)
  distinct-within [] ns a b = (differ-within [] ns a b, agree-within [] ns a b)
  distinct-within (p ∷ []) ns a b = (differ-within (p ∷ []) ns a b, agree-within (p ∷ []) ns a b)
  distinct-within (p ∷ q ∷ []) ns a b = (differ-within (p ∷ q ∷ []) ns a b, agree-within (p ∷ q ∷ []) ns a b)
  distinct-within (p ∷ q ∷ r ∷ ps) ns a b = (refl, refl)

  branches-within : (c d a b : Term) → Within c → Within d → Within a → Within b → Within (both (either c a) (either d b))
  branches-within c d a b pc pd pa pb = and (either c a) (either d b) (or c a pc pa) (or d b pd pb)

  forms-within : (k : Kind) (t : Term) (ps ns : List Term) → Within t → All ps → All ns → Two (positive k t ps ns) (negative k t ps ns)
  forms-within (truth_value v) t ps ns p a b = (p, refl)
  forms-within atom t ps ns p a b = (p, over-one Not t p)
  forms-within negation t ps ns p a b = (place ns 0 b, place ps 0 a)
  forms-within conjunction t ps ns p a b = (over-all And ps a, over-all Or ns b)
  forms-within disjunction t ps ns p a b = (over-all Or ps a, over-all And ns b)
  forms-within implication t ps ns p a b = (or (nth ns 0) (nth ps 1) (place ns 0 b) (place ps 1 a), and (nth ps 0) (nth ns 1) (place ps 0 a) (place ns 1 b))
  forms-within exclusive t ps ns p a b = (differ-within ps ns a b, agree-within ps ns a b)
  forms-within equivalence t ps ns p a b = (agree-within ps ns a b, differ-within ps ns a b)
  forms-within difference t ps ns p a b = distinct-within ps ns a b
  forms-within conditional t ps ns p a b = (
    branches-within (nth ns 0) (nth ps 0) (nth ps 1) (nth ps 2) (place ns 0 b) (place ps 0 a) (place ps 1 a) (place ps 2 a),
    branches-within (nth ns 0) (nth ps 0) (nth ns 1) (nth ns 2) (place ns 0 b) (place ps 0 a) (place ns 1 b) (place ns 2 b),
  )

  mutual
    both-within : (t : Term) → Within t → Two (nnf t) (nnf_not t)
    both-within (apply h ts) given =
        let each : All (nnf_each ts) × All (nnf_not_each ts) = each-within ts (both_true (list_all sorts (head_sorts h)) (all_within_each sorts names ts) given).1 in
        forms-within (kind_of h ts) (apply h ts) (nnf_each ts) (nnf_not_each ts) given each.0 each.1
    both-within (quantified q xs body) given =
        let parts = both_true (list_all (λ x. sorts x.sort && names x.name) xs) (within body) given in
        let inner : Two (nnf body) (nnf_not body) = both-within body parts.1 in (
          and_true (list_all (λ x. sorts x.sort && names x.name) xs) (within (nnf body)) parts.0 inner.0,
          and_true (list_all (λ x. sorts x.sort && names x.name) xs) (within (nnf_not body)) parts.0 inner.1,
        )

    each-within : (ts : Terms) → all_within_each sorts names ts ≡ true → All (nnf_each ts) × All (nnf_not_each ts)
    each-within none given = (refl, refl)
    each-within (t ⨾ ts) given =
        let parts = both_true (within t) (all_within_each sorts names ts) given in
        let first : Two (nnf t) (nnf_not t) = both-within t parts.0 in
        let rest : All (nnf_each ts) × All (nnf_not_each ts) = each-within ts parts.1 in
        (and_true (within (nnf t)) (list_all within (nnf_each ts)) first.0 rest.0, and_true (within (nnf_not t)) (list_all within (nnf_not_each ts)) first.1 rest.1)

  pub nnf-within : (t : Term) → Within t → Within (nnf t)
  nnf-within t given = (both-within t given).0

  -- ---- and-inverter form

  opposite-added : (r : Term) → Within r → opposite r ≡ negated r → Within (opposite r)
  opposite-added r p e = subst Within (sym e) (over-one Not r p)

  opposed : (r : Term) → Within r → Within (opposite r)
  opposed (apply (op Not) (t ⨾ none)) p = (both_true (within t) true p).0
  opposed r p = opposite-added r p refl

  opposed-each : (rs : List Term) → All rs → All (map opposite rs)
  opposed-each [] all = refl
  opposed-each (r ∷ rs) all =
      let parts = both_true (within r) (list_all within rs) all in
      and_true (within (opposite r)) (list_all within (map opposite rs)) (opposed r parts.0) (opposed-each rs parts.1)

  -- not both the first and the second
  not-both : (s t : Term) → Within s → Within t → Within (opposite (both s t))
  not-both s t a b = opposed (both s t) (and s t a b)

  same-within : (rs : List Term) → All rs → Within (same_sides rs)
  same-within rs a =
      let r : Within (nth rs 0) = place rs 0 a in
      let s : Within (nth rs 1) = place rs 1 a in
      and (opposite (both (nth rs 0) (opposite (nth rs 1)))) (opposite (both (opposite (nth rs 0)) (nth rs 1)))
      (not-both (nth rs 0) (opposite (nth rs 1)) r (opposed (nth rs 1) s)) (not-both (opposite (nth rs 0)) (nth rs 1) (opposed (nth rs 0) r) s)

  aig_distinct-within : (rs : List Term) → All rs → Within (aig_distinct rs)
  aig_distinct-within [] a = opposed (same_sides []) (same-within [] a)
  aig_distinct-within (r ∷ []) a = opposed (same_sides (r ∷ [])) (same-within (r ∷ []) a)
  aig_distinct-within (r ∷ s ∷ []) a = opposed (same_sides (r ∷ s ∷ [])) (same-within (r ∷ s ∷ []) a)
  aig_distinct-within (r ∷ s ∷ t ∷ rs) a = refl

  inverted-within : (k : Kind) (t : Term) (rs : List Term) → Within t → All rs → Within (inverted k t rs)
  inverted-within (truth_value v) t rs p a = p
  inverted-within atom t rs p a = p
  inverted-within negation t rs p a = opposed (nth rs 0) (place rs 0 a)
  inverted-within conjunction t rs p a = over-all And rs a
  inverted-within disjunction t rs p a = opposed (all_of (map opposite rs)) (over-all And (map opposite rs) (opposed-each rs a))
  inverted-within implication t rs p a = not-both (nth rs 0) (opposite (nth rs 1)) (place rs 0 a) (opposed (nth rs 1) (place rs 1 a))
  inverted-within exclusive t rs p a = opposed (same_sides rs) (same-within rs a)
  inverted-within equivalence t rs p a = same-within rs a
  inverted-within difference t rs p a = aig_distinct-within rs a
  inverted-within conditional t rs p a =
      and (opposite (both (nth rs 0) (opposite (nth rs 1)))) (opposite (both (opposite (nth rs 0)) (opposite (nth rs 2))))
      (not-both (nth rs 0) (opposite (nth rs 1)) (place rs 0 a) (opposed (nth rs 1) (place rs 1 a)))
      (not-both (opposite (nth rs 0)) (opposite (nth rs 2)) (opposed (nth rs 0) (place rs 0 a)) (opposed (nth rs 2) (place rs 2 a)))

  mutual
    pub aig-within : (t : Term) → Within t → Within (aig t)
    aig-within (apply h ts) given =
        inverted-within (kind_of h ts) (apply h ts) (aig_each ts) given
        (aigs-within ts (both_true (list_all sorts (head_sorts h)) (all_within_each sorts names ts) given).1)
    aig-within (quantified q xs body) given =
        let parts = both_true (list_all (λ x. sorts x.sort && names x.name) xs) (within body) given in
        and_true (list_all (λ x. sorts x.sort && names x.name) xs) (within (aig body)) parts.0 (aig-within body parts.1)

    aigs-within : (ts : Terms) → all_within_each sorts names ts ≡ true → All (aig_each ts)
    aigs-within none given = refl
    aigs-within (t ⨾ ts) given =
        let parts = both_true (within t) (all_within_each sorts names ts) given in
        and_true (within (aig t)) (list_all within (aig_each ts)) (aig-within t parts.0) (aigs-within ts parts.1)
