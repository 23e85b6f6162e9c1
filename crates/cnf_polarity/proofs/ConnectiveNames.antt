-- All connectives of a formula that get names are of its connective part.
use Rattle.std.proofs.Common.{◌≡◌, true, false, List, [], ◌∷◌, All, refl, ◌∙◌}
use Rattle.std.proofs.lemmas.List.Elements.{All-nil, All-cons}
use Rattle.smt_terms.specs.Term.{Term, apply, quantified, Terms, none, ◌⨾◌}
use Rattle.smt_terms.specs.Equal.{term_eq}
use Rattle.smt_terms.specs.Connectives.{Kind, truth_value, negation, atom, kind_of, is_connective}
use Rattle.smt_terms.specs.Groups.{has_term, with_new}
use Rattle.smt_terms.proofs.Tests.{left_true, right_true}
use Rattle.cnf_polarity.specs.Cnf.{named_at, named_connectives, named_connectives_of}
use Rattle.cnf_polarity.proofs.TermLists.{term_itself, has_term-with_new, all-with_new}
use Rattle.cnf_polarity.proofs.ConnectiveParts.{IsFormulaIn, AreFormulasIn, operands-in, first-in, others-in}

pub named-itself : (u : Term) (inner : List Term) → has_term (with_new inner (u ∷ [])) u ≡ true
named-itself u inner =
    has_term-with_new inner (u ∷ []) u
    ∙ right_true (has_term inner u) (has_term (u ∷ []) u) (left_true (term_eq u u) false (term_itself u))

all-named_at : (P : Term → Type 0) (k : Kind) (u : Term) (inner : List Term) → P u → (is_connective k ≡ true → All P inner) → All P (named_at k u inner)
all-named_at P (truth_value b) u inner here below = All-nil P
all-named_at P atom u inner here below = All-nil P
all-named_at P negation u inner here below = below refl
all-named_at P _ u inner here below = all-with_new P inner (u ∷ []) (below refl) (All-cons P u [] here (All-nil P))

mutual
  pub connectives-in : (t u : Term) → IsFormulaIn t u → All (IsFormulaIn t) (named_connectives u)
  connectives-in t (apply h us) a =
      all-named_at (IsFormulaIn t) (kind_of h us) (apply h us) (named_connectives_of us) a (λ c. connectives-in-each t us (operands-in t h us a c))
  connectives-in t (quantified q xs body) a = All-nil (IsFormulaIn t)

  pub connectives-in-each : (t : Term) (us : Terms) → AreFormulasIn t us → All (IsFormulaIn t) (named_connectives_of us)
  connectives-in-each t none a = All-nil (IsFormulaIn t)
  connectives-in-each t (u ⨾ us) a =
      all-with_new (IsFormulaIn t) (named_connectives u) (named_connectives_of us)
      (connectives-in t u (first-in t u us a)) (connectives-in-each t us (others-in t u us a))
