-- What each turn of a substitution leaves to do leads to the same end, and is less.
use Rattle.std.proofs.Common.{◌≡◌, suc, ◌+◌, ◌<◌, List, [], ◌∷◌, ◌++◌, map, Some, None, refl, ap, sym, subst, ◌∙◌, append_assoc, arith}
use Rattle.smt_terms.specs.Sorts.{Symbol, Variable}
use Rattle.smt_terms.specs.Term.{Quantifier, Head, Term, apply, quantified, Terms, none, ◌⨾◌, list}
use Rattle.smt_terms.specs.Free.{free, without}
use Rattle.smt_terms.specs.Subst.{Map, image, cut_to, names_in, Renamed, renaming, Choices, chosen_for, keep, kept_or, quantify, subst_from, substs_from}
use Rattle.term_subst.specs.Done.{done}
use Rattle.term_subst.specs.Steps.{Opening, Step, visit, build, close, result_of, with_result, End, Leads, weights, load}
use Rattle.term_subst.proofs.Alike.{subst-alike}
use Rattle.term_subst.proofs.DoneLaws.{done-still, done-after, dones-after, size, subst-larger}

pub append-nothing : {A : Type 0} (xs : List A) → xs ++ [] ≡ xs
append-nothing [] = refl
append-nothing (x ∷ xs) = ap (λ ys. x ∷ ys) (append-nothing xs)

-- a term whose result is known
pub leads-known : (m : Map) (t r : Term) (steps : List Step) (vs : List Term) (s : Choices) (end : End) → done m s.chosen t ≡ Some r → Leads m (visit t ∷ steps) vs s end → Leads m steps (vs ++ r ∷ []) s end
leads-known m t r steps vs s end known leads = subst (λ (p : Term × Choices). Leads m steps (vs ++ p.0 ∷ []) p.1 end) (done-still m t r s known) leads

leads-visits : (m : Map) (ts : Terms) (steps : List Step) (vs : List Term) (s : Choices) (end : End)
    → Leads m steps (vs ++ list (substs_from m ts s).0) (substs_from m ts s).1 end → Leads m (map visit (list ts) ++ steps) vs s end
leads-visits m none steps vs s end leads = subst (λ (us : List Term). Leads m steps us s end) (append-nothing vs) leads
leads-visits m (t ⨾ ts) steps vs s end leads =
    let first = subst_from m t s in
    let rest = substs_from m ts first.1 in
    leads-visits m ts steps (vs ++ first.0 ∷ []) first.1 end
    (subst (λ (us : List Term). Leads m steps us rest.1 end) (sym (append_assoc vs (first.0 ∷ []) (list rest.0))) leads)

-- a head over operands
pub leads-apply : (m : Map) (h : Head) (ts : Terms) (steps : List Step) (vs : List Term) (s : Choices) (end : End)
    → Leads m (visit (apply h ts) ∷ steps) vs s end → Leads m (map visit (list ts) ++ build (apply h ts) ∷ steps) vs s end
leads-apply m h ts steps vs s end leads =
    leads-visits m ts (build (apply h ts) ∷ steps) vs s end (vs, (substs_from m ts s).0, refl, dones-after m ts s, leads)

-- a quantified term that is opened, under any map with the images of the renaming's
module _ (m : Map) (q : Quantifier) (xs : List Variable) (body : Term) (s : Choices) where
  abbrev pub cut : Map
  cut = cut_to (without xs (free body)) m

  abbrev pub renamed : Renamed
  renamed = renaming (names_in cut) xs cut s.names

  abbrev pub opening : Opening
  opening = record { term = quantified q xs body; cut = cut; renamed = renamed.variables; outer = m }

  abbrev pub inside : Choices
  inside = record { names = renamed.names; chosen = s.chosen }

  pub leads-open : (n : Map) (steps : List Step) (vs : List Term) (end : End) → chosen_for s.chosen cut (quantified q xs body) ≡ None → ((f : Symbol) → image n f ≡ image renamed.map f)
      → Leads m (visit (quantified q xs body) ∷ steps) vs s end → Leads n (visit body ∷ close opening ∷ steps) vs inside end
  leads-open n steps vs end new same leads =
      let alike = subst-alike n renamed.map same body inside in
      let more : Term × Choices → Type 0 = λ p. Leads m steps (vs ++ p.0 ∷ []) p.1 end in
      let made = subst more (ap (λ o. kept_or o s λ s'. keep cut (quantified q xs body) (quantify q (renaming (names_in cut) xs cut s'.names) s'.chosen (λ m' s''. subst_from m' body s''))) new) leads in
      let over : Term × Choices → Type 0 = λ b. Leads m steps (vs ++ result_of opening b.0 ∷ []) (with_result opening b.0 b.1) end in (
        vs,
        (subst_from n body inside).0,
        refl,
        done-after n body inside,
        subst-larger n body inside cut (quantified q xs body) (let less : size body < suc (size body) = omega arith in less) ∙ new,
        subst over (sym alike) made,
      )

-- ---- each turn leaves less

load-visits : (ts : Terms) (steps : List Step) → load (map visit (list ts) ++ steps) ≡ weights ts + load steps
load-visits none steps = omega arith
load-visits (t ⨾ ts) steps = let rest = load-visits ts steps in omega arith

pub load-apply : (h : Head) (ts : Terms) (steps : List Step) → load (map visit (list ts) ++ build (apply h ts) ∷ steps) < load (visit (apply h ts) ∷ steps)
load-apply h ts steps = let all = load-visits ts (build (apply h ts) ∷ steps) in omega arith

pub load-open : (q : Quantifier) (xs : List Variable) (body : Term) (o : Opening) (steps : List Step) → load (visit body ∷ close o ∷ steps) < load (visit (quantified q xs body) ∷ steps)
load-open q xs body o steps = omega arith

pub load-some : (t : Term) (steps : List Step) → load steps < load (visit t ∷ steps)
load-some (apply h ts) steps = omega arith
load-some (quantified q xs body) steps = omega arith
