-- A term whose quantified terms are kept is substituted without a change of what is kept, and after a substitution they are.
use Rattle.std.proofs.Common.{◌≡◌, ℕ, zero, suc, ◌+◌, ◌<◌, Bool, true, false, cond, ◌&&◌, List, [], ◌∷◌, Option, Some, None, refl, ap, sym, ◌∙◌, subst, arith}
use Rattle.std.specs.Prelude.{option_map}
use Rattle.smt_terms.specs.Sorts.{Variable}
use Rattle.smt_terms.specs.Term.{Quantifier, Term, apply, quantified, Terms, none, ◌⨾◌}
use Rattle.smt_terms.specs.Equal.{symbol_eq, term_eq}
use Rattle.smt_terms.specs.Free.{free, without}
use Rattle.smt_terms.specs.Subst.{Map, cut_to, names_in, renaming, Chosen, Choices, map_eq, chosen_for, keep, kept_or, quantify, rebuilt, subst_from, substs_from}
use Rattle.smt_terms.proofs.Tests.{both_true, and_true}
use Rattle.smt_terms.proofs.Equal.{Decides-symbol_eq, Decides-term_eq}
use Rattle.smt_terms.proofs.Cuts.{map-same}
use Rattle.term_subst.specs.Done.{with_first, done, dones}

-- what is kept stays
abbrev pub StaysChosen : List Chosen → List Chosen → Type 0
StaysChosen old new = (m : Map) (t r : Term) → chosen_for old m t ≡ Some r → chosen_for new m t ≡ Some r

-- the number of heads and quantifiers
abbrev mutual
  pub size : Term → ℕ
  size (apply h ts) = suc (sizes ts)
  size (quantified q xs body) = suc (size body)

  pub sizes : Terms → ℕ
  sizes none = zero
  sizes (t ⨾ ts) = size t + sizes ts

-- ---- equality of maps

pub map-alike : (m n : Map) → m ≡ n → map_eq m n ≡ true
map-alike m n e = subst (λ k. map_eq m k ≡ true) e (own m)
  where
    own : (m : Map) → map_eq m m ≡ true
    own [] = refl
    own (p ∷ ps) =
        and_true (symbol_eq p.0 p.0) (term_eq p.1 p.1 && map_eq ps ps) ((Decides-symbol_eq p.0 p.0).1 refl)
        (and_true (term_eq p.1 p.1) (map_eq ps ps) ((Decides-term_eq p.1 p.1).1 refl) (own ps))

-- the key that was kept last is found
pub chosen-first : (c : Chosen) (cs : List Chosen) → chosen_for (c ∷ cs) c.cut c.term ≡ Some c.result
chosen-first c cs =
    ap (λ b. cond b (Some c.result) (chosen_for cs c.cut c.term))
    (and_true (map_eq c.cut c.cut) (term_eq c.term c.term) (map-alike c.cut c.cut refl) ((Decides-term_eq c.term c.term).1 refl))

-- another key is found as before
pub chosen-other : (c : Chosen) (cs : List Chosen) (m : Map) (t : Term) → (c.cut ≡ m → c.term ≡ t → ⊥) → chosen_for (c ∷ cs) m t ≡ chosen_for cs m t
chosen-other c cs m t other = by (map_eq c.cut m && term_eq c.term t) refl
  where
    by : (b : Bool) → (map_eq c.cut m && term_eq c.term t) ≡ b → cond b (Some c.result) (chosen_for cs m t) ≡ chosen_for cs m t
    by true e =
        let parts = both_true (map_eq c.cut m) (term_eq c.term t) e in
        absurd (other (map-same c.cut m parts.0) ((Decides-term_eq c.term t).0 parts.1))
    by false e = refl

not-both : (cs : List Chosen) (m n : Map) (t u r : Term) → chosen_for cs n u ≡ Some r → chosen_for cs m t ≡ None → m ≡ n → t ≡ u → ⊥
not-both cs m n t u r found new e f =
    let same : chosen_for cs m t ≡ chosen_for cs n u = λ i. chosen_for cs (e i) (f i) in
    absurd (let both : Some r ≡ None = sym found ∙ sym same ∙ new in cc)

-- a key that wasn't kept takes nothing away
pub stays-new : (c : Chosen) (cs : List Chosen) → chosen_for cs c.cut c.term ≡ None → StaysChosen cs (c ∷ cs)
stays-new c cs new m t r found =
    chosen-other c cs m t (not-both cs c.cut m c.term t r found new) ∙ found

-- ---- options

pub mapped : {A B : Type 0} (f : A → B) (o : Option A) (r : B) → option_map f o ≡ Some r → (a : A) × (o ≡ Some a) × (f a ≡ r)
mapped f None r e = absurd cc
mapped f (Some a) r e = (a, refl, let same : f a ≡ r = cc in same)

pub both-some : (a : Option Term) (b : Option Terms) (us : Terms) → with_first a b ≡ Some us → (u : Term) × (vs : Terms) × (a ≡ Some u) × (b ≡ Some vs) × (u ⨾ vs ≡ us)
both-some None b us e = absurd cc
both-some (Some u) None us e = absurd cc
both-some (Some u) (Some vs) us e = (u, vs, refl, refl, let same : u ⨾ vs ≡ us = cc in same)

-- ---- the laws

mutual
  pub done-stays : (m : Map) (old new : List Chosen) → StaysChosen old new → (t r : Term) → done m old t ≡ Some r → done m new t ≡ Some r
  done-stays m old new stays (apply h ts) r e =
      let found = mapped (rebuilt m h) (dones m old ts) r e in
      ap (option_map (rebuilt m h)) (dones-stays m old new stays ts found.0 found.1) ∙ ap Some found.2
  done-stays m old new stays (quantified q xs body) r e = stays (cut_to (without xs (free body)) m) (quantified q xs body) r e

  dones-stays : (m : Map) (old new : List Chosen) → StaysChosen old new → (ts us : Terms) → dones m old ts ≡ Some us → dones m new ts ≡ Some us
  dones-stays m old new stays none us e = e
  dones-stays m old new stays (t ⨾ ts) us e =
      let found = both-some (done m old t) (dones m old ts) us e in
      (λ i. with_first (done-stays m old new stays t found.0 found.2 i) (dones-stays m old new stays ts found.1 found.3 i)) ∙ ap Some found.4

mutual
  -- where all is kept, nothing changes
  pub done-still : (m : Map) (t r : Term) (s : Choices) → done m s.chosen t ≡ Some r → subst_from m t s ≡ (r, s)
  done-still m (apply h ts) r s e =
      let found = mapped (rebuilt m h) (dones m s.chosen ts) r e in
      ap (λ (p : Terms × Choices). (rebuilt m h p.0, p.1)) (dones-still m ts found.0 s found.1) ∙ ap (λ u. (u, s)) found.2
  done-still m (quantified q xs body) r s e =
      ap (λ o. kept_or o s λ s'. keep (cut_to (without xs (free body)) m) (quantified q xs body) (quantify q (renaming (names_in (cut_to (without xs (free body)) m)) xs (cut_to (without xs (free body)) m) s'.names) s'.chosen (λ m' s''. subst_from m' body s''))) e

  dones-still : (m : Map) (ts us : Terms) (s : Choices) → dones m s.chosen ts ≡ Some us → substs_from m ts s ≡ (us, s)
  dones-still m none us s e = (let same : none ≡ us = cc in ap (λ vs. (vs, s)) same)
  dones-still m (t ⨾ ts) us s e =
      let found = both-some (done m s.chosen t) (dones m s.chosen ts) us e in
      ap (λ (a : Term × Choices). (a.0 ⨾ (substs_from m ts a.1).0, (substs_from m ts a.1).1)) (done-still m t found.0 s found.2)
      ∙ ap (λ (p : Terms × Choices). (found.0 ⨾ p.0, p.1)) (dones-still m ts found.1 s found.3) ∙ ap (λ vs. (vs, s)) found.4

-- a quantified term, by what was kept
stays-chosen : (m : Map) (q : Quantifier) (xs : List Variable) (body : Term) (s : Choices)
    → ((n : Map) (t : Choices) → StaysChosen t.chosen (subst_from n body t).1.chosen)
    → (cut : Map) (o : Option Term) → chosen_for s.chosen cut (quantified q xs body) ≡ o
    → StaysChosen s.chosen (kept_or o s λ s'. keep cut (quantified q xs body) (quantify q (renaming (names_in cut) xs cut s'.names) s'.chosen (λ m' s''. subst_from m' body s''))).1.chosen
stays-chosen m q xs body s below cut (Some r) e n t u found = found
stays-chosen m q xs body s below cut None e n t u found =
    let r = renaming (names_in cut) xs cut s.names in
    let b = subst_from r.map body (record { names = r.names; chosen = s.chosen }) in
    chosen-other (record { cut = cut; term = quantified q xs body; result = quantified q r.variables b.0 }) b.1.chosen n t
    (not-both s.chosen cut n (quantified q xs body) t u found e)
    ∙ below r.map (record { names = r.names; chosen = s.chosen }) n t u found

mutual
  pub subst-stays : (m : Map) (t : Term) (s : Choices) → StaysChosen s.chosen (subst_from m t s).1.chosen
  subst-stays m (apply h ts) s = substs-stays m ts s
  subst-stays m (quantified q xs body) s =
      stays-chosen m q xs body s (λ n t. subst-stays n body t) (cut_to (without xs (free body)) m) (chosen_for s.chosen (cut_to (without xs (free body)) m) (quantified q xs body)) refl

  substs-stays : (m : Map) (ts : Terms) (s : Choices) → StaysChosen s.chosen (substs_from m ts s).1.chosen
  substs-stays m none s n t r found = found
  substs-stays m (t ⨾ ts) s n u r found = substs-stays m ts (subst_from m t s).1 n u r (subst-stays m t s n u r found)

-- a quantified term is kept afterwards
after-chosen : (q : Quantifier) (xs : List Variable) (body : Term) (s : Choices) (cut : Map) (more : Choices → Term × Choices) (o : Option Term) → chosen_for s.chosen cut (quantified q xs body) ≡ o
    → chosen_for (kept_or o s λ s'. keep cut (quantified q xs body) (more s')).1.chosen cut (quantified q xs body) ≡ Some (kept_or o s λ s'. keep cut (quantified q xs body) (more s')).0
after-chosen q xs body s cut more (Some r) e = e
after-chosen q xs body s cut more None e = chosen-first (record { cut = cut; term = quantified q xs body; result = (more s).0 }) (more s).1.chosen

mutual
  pub done-after : (m : Map) (t : Term) (s : Choices) → done m (subst_from m t s).1.chosen t ≡ Some (subst_from m t s).0
  done-after m (apply h ts) s = ap (option_map (rebuilt m h)) (dones-after m ts s)
  done-after m (quantified q xs body) s =
      after-chosen q xs body s (cut_to (without xs (free body)) m)
      (λ s'. quantify q (renaming (names_in (cut_to (without xs (free body)) m)) xs (cut_to (without xs (free body)) m) s'.names) s'.chosen (λ m' s''. subst_from m' body s''))
      (chosen_for s.chosen (cut_to (without xs (free body)) m) (quantified q xs body)) refl

  pub dones-after : (m : Map) (ts : Terms) (s : Choices) → dones m (substs_from m ts s).1.chosen ts ≡ Some (substs_from m ts s).0
  dones-after m none s = refl
  dones-after m (t ⨾ ts) s =
      let a = subst_from m t s in
      let first = done-stays m a.1.chosen (substs_from m ts a.1).1.chosen (substs-stays m ts a.1) t a.0 (done-after m t s) in
      let rest = dones-after m ts a.1 in
      ap (λ o. with_first o (dones m (substs_from m ts a.1).1.chosen ts)) first ∙ ap (with_first (Some a.0)) rest

-- what was substituted is substituted at once
pub subst-again : (m : Map) (t : Term) (s : Choices) → subst_from m t (subst_from m t s).1 ≡ subst_from m t s
subst-again m t s = done-still m t (subst_from m t s).0 (subst_from m t s).1 (done-after m t s)

-- ---- larger terms

larger-chosen : (q : Quantifier) (xs : List Variable) (body : Term) (s : Choices) (u : Term) (n : Map) → size (quantified q xs body) < size u
    → ((k : Map) (t : Choices) → chosen_for (subst_from k body t).1.chosen n u ≡ chosen_for t.chosen n u)
    → (cut : Map) (o : Option Term)
    → chosen_for (kept_or o s λ s'. keep cut (quantified q xs body) (quantify q (renaming (names_in cut) xs cut s'.names) s'.chosen (λ m' s''. subst_from m' body s''))).1.chosen n u ≡ chosen_for s.chosen n u
larger-chosen q xs body s u n less below cut (Some r) = refl
larger-chosen q xs body s u n less below cut None =
    let r = renaming (names_in cut) xs cut s.names in
    let b = subst_from r.map body (record { names = r.names; chosen = s.chosen }) in
    chosen-other (record { cut = cut; term = quantified q xs body; result = quantified q r.variables b.0 }) b.1.chosen n u
    (λ c d. absurd (let same : size (quantified q xs body) ≡ size u = ap size d in omega arith))
    ∙ below r.map (record { names = r.names; chosen = s.chosen })

mutual
  pub subst-larger : (m : Map) (t : Term) (s : Choices) (n : Map) (u : Term) → size t < size u → chosen_for (subst_from m t s).1.chosen n u ≡ chosen_for s.chosen n u
  subst-larger m (apply h ts) s n u less = substs-larger m ts s n u (let l : suc (sizes ts) < size u = less in omega arith)
  subst-larger m (quantified q xs body) s n u less =
      larger-chosen q xs body s u n less (λ k t. subst-larger k body t n u (let l : suc (size body) < size u = less in omega arith))
      (cut_to (without xs (free body)) m) (chosen_for s.chosen (cut_to (without xs (free body)) m) (quantified q xs body))

  substs-larger : (m : Map) (ts : Terms) (s : Choices) (n : Map) (u : Term) → sizes ts < size u → chosen_for (substs_from m ts s).1.chosen n u ≡ chosen_for s.chosen n u
  substs-larger m none s n u less = refl
  substs-larger m (t ⨾ ts) s n u less =
      substs-larger m ts (subst_from m t s).1 n u (let l : size t + sizes ts < size u = less in omega arith)
      ∙ subst-larger m t s n u (let l : size t + sizes ts < size u = less in omega arith)
