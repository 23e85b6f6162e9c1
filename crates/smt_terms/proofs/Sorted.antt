-- What it says that a term has a sort, and that a quantifier's operands have a rank.
use Rattle.std.proofs.Common.{◌≡◌, suc, Bool, true, List, [], ◌∷◌, length, Option, Some, None, Result, Ok, Err, refl, ap, ◌∙◌}
use Rattle.smt_terms.specs.Sorts.{Sort, bool, Variable}
use Rattle.smt_terms.specs.Term.{Quantifier, Head, Term, apply, quantified, Terms, none, ◌⨾◌, list}
use Rattle.smt_terms.specs.Rank.{Fault, rank, are_bindable, sort_bound, sort_over, with_sort, sort_of, sorts_of}

-- ---- an applied head has the sort of its rank over its operands' sorts

pub record IsApplied (h : Head) (ts : Terms) (s : Sort) : Type 0 where
  pub sorts : List Sort
  pub operands : sorts_of ts ≡ Some sorts
  pub rank : rank h sorts ≡ Ok s

over_some : (h : Head) (ss : Option (List Sort)) (s : Sort) → sort_over h ss ≡ Some s → (us : List Sort) × (ss ≡ Some us) × (rank h us ≡ Ok s)
over_some h None s e = absurd cc
over_some h (Some us) s e = (us, refl, answer (rank h us) e)
  where
    answer : (r : Result Sort Fault) → elim r as (λ _. Option Sort) [ Ok t ↦ Some t | Err _ ↦ None ] ≡ Some s → r ≡ Ok s
    answer (Ok t) g = cc
    answer (Err f) g = absurd cc

pub applied : (h : Head) (ts : Terms) (s : Sort) → sort_of (apply h ts) ≡ Some s → IsApplied h ts s
applied h ts s e =
    let found = over_some h (sorts_of ts) s e in
    record { sorts = found.0; operands = found.1; rank = found.2 }

pub sort_of-apply : (h : Head) (ts : Terms) (ss : List Sort) (s : Sort) → sorts_of ts ≡ Some ss → rank h ss ≡ Ok s → sort_of (apply h ts) ≡ Some s
sort_of-apply h ts ss s operands ranked =
    ap (sort_over h) operands ∙ ap (λ (r : Result Sort Fault). elim r as (λ _. Option Sort) [ Ok t ↦ Some t | Err _ ↦ None ]) ranked

-- ---- operands have sorts one by one

with_some : (o : Option Sort) (p : Option (List Sort)) (us : List Sort) → with_sort o p ≡ Some us → (s : Sort) × (ss : List Sort) × (o ≡ Some s) × (p ≡ Some ss) × (us ≡ s ∷ ss)
with_some None p us e = absurd cc
with_some (Some s) None us e = absurd cc
with_some (Some s) (Some ss) us e = (s, ss, refl, refl, cc)

pub record AreSorted (t : Term) (ts : Terms) (us : List Sort) : Type 0 where
  pub sort : Sort
  pub sorts : List Sort
  pub first : sort_of t ≡ Some sort
  pub others : sorts_of ts ≡ Some sorts
  pub all : us ≡ sort ∷ sorts

pub sorted : (t : Term) (ts : Terms) (us : List Sort) → sorts_of (t ⨾ ts) ≡ Some us → AreSorted t ts us
sorted t ts us e =
    let found = with_some (sort_of t) (sorts_of ts) us e in
    record { sort = found.0; sorts = found.1; first = found.2; others = found.3; all = found.4 }

pub length-sorts_of : (ts : Terms) (ss : List Sort) → sorts_of ts ≡ Some ss → length ss ≡ length (list ts)
length-sorts_of none ss e = let empty : ss ≡ [] = cc in ap length empty
length-sorts_of (t ⨾ ts) ss e =
    let found = sorted t ts ss e in
    ap length found.all ∙ ap suc (length-sorts_of ts found.sorts found.others)

-- ---- a quantified term is a truth value

pub record IsQuantified (xs : List Variable) (t : Term) (s : Sort) : Type 0 where
  pub bindable : are_bindable xs ≡ true
  pub body : sort_of t ≡ Some bool
  pub sort : s ≡ bool

bound_some : (b : Bool) (o : Option Sort) (s : Sort) → sort_bound b o ≡ Some s → (b ≡ true) × (o ≡ Some bool) × (s ≡ bool)
bound_some true (Some bool) s e = (refl, refl, cc)
bound_some _ _ s e = absurd cc

pub quantified_sort : (q : Quantifier) (xs : List Variable) (t : Term) (s : Sort) → sort_of (quantified q xs t) ≡ Some s → IsQuantified xs t s
quantified_sort q xs t s e =
    let found = bound_some (are_bindable xs) (sort_of t) s e in
    record { bindable = found.0; body = found.1; sort = found.2 }

pub sort_of-quantified : (q : Quantifier) (xs : List Variable) (t : Term) → are_bindable xs ≡ true → sort_of t ≡ Some bool → sort_of (quantified q xs t) ≡ Some bool
sort_of-quantified q xs t bindable body = λ i. sort_bound (bindable i) (body i)
