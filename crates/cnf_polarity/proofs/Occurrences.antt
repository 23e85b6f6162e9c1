-- Occurrences of formulas in a formula, each in its polarity: those in a part are among those of the whole.
use Rattle.std.proofs.Common.{◌≡◌, Bool, true, false, ◌&&◌, List, ◌++◌, refl, ap, ◌∙◌}
use Rattle.std.proofs.lemmas.List.Folds.{list_any-append}
use Rattle.smt_terms.specs.Connectives.{is_connective, kind_of}
use Rattle.smt_terms.specs.Equal.{term_eq}
use Rattle.smt_terms.specs.Term.{Head, Term, apply, Terms}
use Rattle.smt_terms.proofs.Equal.{Decides-term_eq}
use Rattle.smt_terms.proofs.Tests.{and_true, left_true, right_true}
use Rattle.cnf_polarity.specs.Cnf.{Occurrence, within, occurrences, occurrences_of, is_sign, occurs}

-- what occurs in the first list occurs in the second
abbrev pub AreAmong : List Occurrence → List Occurrence → Type 0
AreAmong ps os = (positive : Bool) (u : Term) → occurs positive u ps ≡ true → occurs positive u os ≡ true

pub first-among : (ps qs os : List Occurrence) → AreAmong (ps ++ qs) os → AreAmong ps os
first-among ps qs os among positive u h =
    among positive u (list_any-append (λ o. is_sign positive o.1 && term_eq o.0 u) ps qs ∙ left_true (occurs positive u ps) (occurs positive u qs) h)

pub second-among : (ps qs os : List Occurrence) → AreAmong (ps ++ qs) os → AreAmong qs os
second-among ps qs os among positive u h =
    among positive u (list_any-append (λ o. is_sign positive o.1 && term_eq o.0 u) ps qs ∙ right_true (occurs positive u ps) (occurs positive u qs) h)

same-sign : (p : Bool) → is_sign p p ≡ true
same-sign true = refl
same-sign false = refl

-- a formula occurs where its occurrences are
pub occurs-there : (p : Bool) (h : Head) (ts : Terms) (os : List Occurrence) → AreAmong (occurrences p (apply h ts)) os → occurs p (apply h ts) os ≡ true
occurs-there p h ts os among =
    let same : term_eq (apply h ts) (apply h ts) ≡ true = (Decides-term_eq (apply h ts) (apply h ts)).1 refl in
    among p (apply h ts) (left_true (is_sign p p && term_eq (apply h ts) (apply h ts)) _ (and_true (is_sign p p) (term_eq (apply h ts) (apply h ts)) (same-sign p) same))

-- and so are those of its operands, if it is a connective
pub operands-among : (p : Bool) (h : Head) (ts : Terms) (os : List Occurrence) → is_connective (kind_of h ts) ≡ true → AreAmong (occurrences p (apply h ts)) os → AreAmong (occurrences_of (kind_of h ts) 0 p ts) os
operands-among p h ts os c among positive u e =
    among positive u (right_true (is_sign positive p && term_eq (apply h ts) u) _ (ap (λ b. occurs positive u (within b (occurrences_of (kind_of h ts) 0 p ts))) c ∙ e))
