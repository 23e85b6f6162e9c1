-- A listing in which nothing is skipped and quantified terms aren't opened lists the parts of a term.
use Rattle.std.proofs.Common.{◌≡◌, Bool, true, false, cond, List, [], All, filter, refl}
use Rattle.std.proofs.lemmas.List.Elements.{All-nil, All-push}
use Rattle.smt_terms.specs.Sorts.{Variable}
use Rattle.smt_terms.specs.Term.{Quantifier, Term, apply, quantified}
use Rattle.quantifier_forms.specs.Listing.{listed, listed_each, listed_variables}
use Rattle.term_groups.specs.Parts.{operands_of, collected, AreParts}
use Rattle.term_groups.proofs.ListedCollected.{wanted-collected}
use Rattle.term_groups.proofs.ListedOrders.{listed-behind, listed-once}
use Rattle.term_groups.proofs.ListedTerms.{listed-keeps}

pub listed-parts : (opens : Term → Bool) → ((q : Quantifier) (xs : List Variable) (t : Term) → opens (quantified q xs t) ≡ false) → (t : Term) → AreParts opens t (listed (λ _. false) opens t [])
listed-parts opens closed (apply h us) = record {
  before = cond (opens (apply h us)) (listed_each (λ _. false) opens us []) [];
  last = refl;
  behind = listed-behind opens closed (apply h us);
  once = listed-once opens closed (apply h us);
}
listed-parts opens closed (quantified q xs body) = record {
  before = cond (opens (quantified q xs body)) (listed (λ _. false) opens body (listed_variables (λ _. false) opens xs [])) [];
  last = refl;
  behind = listed-behind opens closed (quantified q xs body);
  once = listed-once opens closed (quantified q xs body);
}

pub listed-collected : (opens wanted : Term → Bool) → ((q : Quantifier) (xs : List Variable) (t : Term) → opens (quantified q xs t) ≡ false) → (t : Term) → filter wanted (listed (λ _. false) opens t []) ≡ collected opens wanted t
listed-collected opens wanted closed t = wanted-collected opens wanted closed t

-- what holds of a term and goes down to the operands of what is opened holds of all its parts
pub listed-all : (opens : Term → Bool) → ((q : Quantifier) (xs : List Variable) (t : Term) → opens (quantified q xs t) ≡ false) → (P : Term → Type 0) → ((t : Term) → P t → opens t ≡ true → All P (operands_of t)) → (t : Term) → P t → All P (listed (λ _. false) opens t [])
listed-all opens closed P down t holds = listed-keeps opens closed P down (All P) (λ ts u each one. All-push P ts u each one) t [] holds (All-nil P)
