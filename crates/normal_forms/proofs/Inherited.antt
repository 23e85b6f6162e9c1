-- What the forms of a formula inherit: a property that the builders keep and that atoms have.
use Rattle.std.proofs.Common.{◌≡◌, ℕ, zero, suc, Bool, true, false, not, List, [], ◌∷◌, refl}
use Rattle.std.specs.Prelude.{⊤}
use Rattle.smt_terms.specs.Sorts.{Variable}
use Rattle.smt_terms.specs.Term.{Quantifier, Head, Term, apply, quantified, Terms, none, ◌⨾◌}
use Rattle.smt_terms.specs.Connectives.{Kind, truth_value, negation, conjunction, disjunction, exclusive, implication, equivalence, difference, conditional, atom, kind_of, truth_term, negated, all_of, any_of, both, either, nth}
use Rattle.normal_forms.specs.Nnf.{differ, agree, positive_distinct, negative_distinct, positive, negative, dual, nnf, nnf_not, nnf_each, nnf_not_each}

abbrev pub All : (Term → Type 0) → List Term → Type 0
All P [] = ⊤
All P (t ∷ ts) = P t × All P ts

abbrev pub AllOf : (Term → Type 0) → Terms → Type 0
AllOf Q none = ⊤
AllOf Q (t ⨾ ts) = Q t × AllOf Q ts

-- a property P of forms, of formulas that have the property Q
pub record Inherits (P Q : Term → Type 0) : Type 0 where
  pub truths : (b : Bool) → P (truth_term b)
  pub and : (s t : Term) → P s → P t → P (both s t)
  pub or : (s t : Term) → P s → P t → P (either s t)
  pub all : (ts : List Term) → All P ts → P (all_of ts)
  pub any : (ts : List Term) → All P ts → P (any_of ts)
  pub bound : (q p : Quantifier) (xs : List Variable) (body b : Term) → Q (quantified q xs body) → P b → P (quantified p xs b)
  pub value : (h : Head) (ts : Terms) (b : Bool) → kind_of h ts ≡ truth_value b → Q (apply h ts) → P (apply h ts)
  pub plain : (h : Head) (ts : Terms) → kind_of h ts ≡ atom → Q (apply h ts) → P (apply h ts)
  pub denied : (h : Head) (ts : Terms) → kind_of h ts ≡ atom → Q (apply h ts) → P (negated (apply h ts))
  pub inside : (h : Head) (ts : Terms) → Q (apply h ts) → AllOf Q ts
  pub body : (q : Quantifier) (xs : List Variable) (t : Term) → Q (quantified q xs t) → Q t

pub nth-inherits : (P : Term → Type 0) → P (truth_term false) → (ts : List Term) (i : ℕ) → All P ts → P (nth ts i)
nth-inherits P none_there [] i all = none_there
nth-inherits P none_there (t ∷ ts) zero all = all.0
nth-inherits P none_there (t ∷ ts) (suc i) all = nth-inherits P none_there ts i all.1

module _ (P Q : Term → Type 0) (c : Inherits P Q) where
  place : (ts : List Term) (i : ℕ) → All P ts → P (nth ts i)
  place = nth-inherits P (c.truths false)

  differ-form : (ps ns : List Term) → All P ps → All P ns → P (differ ps ns)
  differ-form ps ns a b =
      c.or (both (nth ps 0) (nth ns 1)) (both (nth ns 0) (nth ps 1))
      (c.and (nth ps 0) (nth ns 1) (place ps 0 a) (place ns 1 b)) (c.and (nth ns 0) (nth ps 1) (place ns 0 b) (place ps 1 a))

  agree-form : (ps ns : List Term) → All P ps → All P ns → P (agree ps ns)
  agree-form ps ns a b =
      c.and (either (nth ns 0) (nth ps 1)) (either (nth ps 0) (nth ns 1))
      (c.or (nth ns 0) (nth ps 1) (place ns 0 b) (place ps 1 a)) (c.or (nth ps 0) (nth ns 1) (place ps 0 a) (place ns 1 b))

  distinct-forms : (ps ns : List Term) → All P ps → All P ns → P (positive_distinct ps ns) × P (negative_distinct ps ns)
  distinct-forms [] ns a b = (differ-form [] ns a b, agree-form [] ns a b)
  distinct-forms (p ∷ []) ns a b = (differ-form (p ∷ []) ns a b, agree-form (p ∷ []) ns a b)
  distinct-forms (p ∷ q ∷ []) ns a b = (differ-form (p ∷ q ∷ []) ns a b, agree-form (p ∷ q ∷ []) ns a b)
  distinct-forms (p ∷ q ∷ r ∷ ps) ns a b = (c.truths false, c.truths true)

  forms-of : (h : Head) (ts : Terms) (ps ns : List Term) → Q (apply h ts) → All P ps → All P ns → (k : Kind) → kind_of h ts ≡ k → P (positive k (apply h ts) ps ns) × P (negative k (apply h ts) ps ns)
  forms-of h ts ps ns given a b (truth_value v) e = (c.value h ts v e given, c.truths (not v))
  forms-of h ts ps ns given a b atom e = (c.plain h ts e given, c.denied h ts e given)
  forms-of h ts ps ns given a b negation e = (place ns 0 b, place ps 0 a)
  forms-of h ts ps ns given a b conjunction e = (c.all ps a, c.any ns b)
  forms-of h ts ps ns given a b disjunction e = (c.any ps a, c.all ns b)
  forms-of h ts ps ns given a b implication e = (c.or (nth ns 0) (nth ps 1) (place ns 0 b) (place ps 1 a), c.and (nth ps 0) (nth ns 1) (place ps 0 a) (place ns 1 b))
  forms-of h ts ps ns given a b exclusive e = (differ-form ps ns a b, agree-form ps ns a b)
  forms-of h ts ps ns given a b equivalence e = (agree-form ps ns a b, differ-form ps ns a b)
  forms-of h ts ps ns given a b difference e = distinct-forms ps ns a b
  forms-of h ts ps ns given a b conditional e = (
    c.and (either (nth ns 0) (nth ps 1)) (either (nth ps 0) (nth ps 2))
        (c.or (nth ns 0) (nth ps 1) (place ns 0 b) (place ps 1 a)) (c.or (nth ps 0) (nth ps 2) (place ps 0 a) (place ps 2 a)),
    c.and (either (nth ns 0) (nth ns 1)) (either (nth ps 0) (nth ns 2))
        (c.or (nth ns 0) (nth ns 1) (place ns 0 b) (place ns 1 b)) (c.or (nth ps 0) (nth ns 2) (place ps 0 a) (place ns 2 b)),
  )

  mutual
    pub both-forms : (t : Term) → Q t → P (nnf t) × P (nnf_not t)
    both-forms (apply h ts) given =
        let each : All P (nnf_each ts) × All P (nnf_not_each ts) = all-forms ts (c.inside h ts given) in
        forms-of h ts (nnf_each ts) (nnf_not_each ts) given each.0 each.1 (kind_of h ts) refl
    both-forms (quantified q xs body) given =
        let inner : P (nnf body) × P (nnf_not body) = both-forms body (c.body q xs body given) in
        (c.bound q q xs body (nnf body) given inner.0, c.bound q (dual q) xs body (nnf_not body) given inner.1)

    pub all-forms : (ts : Terms) → AllOf Q ts → All P (nnf_each ts) × All P (nnf_not_each ts)
    all-forms none given = (tt, tt)
    all-forms (t ⨾ ts) given =
        let first : P (nnf t) × P (nnf_not t) = both-forms t given.0 in
        let rest : All P (nnf_each ts) × All P (nnf_not_each ts) = all-forms ts given.1 in
        ((first.0, rest.0), (first.1, rest.1))
