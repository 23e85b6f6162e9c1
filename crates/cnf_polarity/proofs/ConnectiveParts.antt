-- The formulas of the connective part of a formula: they stand in it outside quantifiers, and are truth values.
use Rattle.std.proofs.Common.{◌≡◌, ℕ, zero, suc, Bool, true, List, [], ◌∷◌, replicate, Some, refl, ◌∙◌}
use Rattle.std.specs.Prelude.{is_some}
use Rattle.smt_terms.specs.Sorts.{bool, Symbol, Variable}
use Rattle.smt_terms.specs.Term.{Head, Term, apply, Terms, ◌⨾◌}
use Rattle.smt_terms.specs.Rank.{sort_of, sorts_of, is_regular, are_regular, IsWellSorted}
use Rattle.smt_terms.specs.Free.{is_among, head_symbols, free, free_of}
use Rattle.smt_terms.specs.Shapes.{is_head_seen, is_clear_below, are_clear_below}
use Rattle.smt_terms.specs.Connectives.{Kind, truth_value, negation, atom, kind_of, is_connective}
use Rattle.smt_terms.specs.Groups.{has_term, with_new}
use Rattle.smt_terms.proofs.Tests.{both_true, left_true, right_true}
use Rattle.smt_terms.proofs.Among.{is_among-with_more}
use Rattle.smt_terms.proofs.Sorted.{sorted}
use Rattle.smt_terms.proofs.SortsOfTerms.{regular}
use Rattle.smt_terms.proofs.Operands.{fewer_sorts, well_sorted}
use Rattle.smt_terms.proofs.Connected.{Connected, connected, is_logical}
use Rattle.term_groups.specs.Every.{every, every_of}
use Rattle.cnf_polarity.specs.Cnf.{named_at, named_connectives, named_connectives_of}
use Rattle.cnf_polarity.proofs.TermLists.{has_term-with_new}

-- of the formula t
pub record IsFormulaIn (t u : Term) : Type 0 where
  pub sorted : IsWellSorted u
  pub sort : sort_of u ≡ Some bool
  pub free : (f : Symbol) → is_among (free u) f ≡ true → is_among (free t) f ≡ true
  pub clear : is_clear_below [] t ≡ true → is_clear_below [] u ≡ true
  pub within : (heads : Head → Bool) (binders : List Variable → Bool) → every heads binders t ≡ true → every heads binders u ≡ true
  pub named : (x : Term) → has_term (named_connectives u) x ≡ true → has_term (named_connectives t) x ≡ true

pub formula-itself : (t : Term) → IsWellSorted t → sort_of t ≡ Some bool → IsFormulaIn t t
formula-itself t fine has = record { sorted = fine; sort = has; free = λ f e. e; clear = λ e. e; within = λ heads binders e. e; named = λ x e. e }

-- ---- the operands of a connective

pub record AreFormulasIn (t : Term) (us : Terms) : Type 0 where
  pub number : ℕ
  pub sorts : sorts_of us ≡ Some (replicate number bool)
  pub regular : are_regular us ≡ true
  pub free : (f : Symbol) → is_among (free_of us) f ≡ true → is_among (free t) f ≡ true
  pub clear : is_clear_below [] t ≡ true → are_clear_below [] us ≡ true
  pub within : (heads : Head → Bool) (binders : List Variable → Bool) → every heads binders t ≡ true → every_of heads binders us ≡ true
  pub named : (x : Term) → has_term (named_connectives_of us) x ≡ true → has_term (named_connectives t) x ≡ true

pub connective-logical : (k : Kind) → is_connective k ≡ true → is_logical k ≡ true
connective-logical (truth_value b) c = refl
connective-logical atom c = absurd cc
connective-logical _ c = refl

named-inside : (u : Term) (inner : List Term) (x : Term) → has_term inner x ≡ true → has_term (with_new inner (u ∷ [])) x ≡ true
named-inside u inner x e = has_term-with_new inner (u ∷ []) x ∙ left_true (has_term inner x) (has_term (u ∷ []) x) e

named-below : (k : Kind) (u : Term) (inner : List Term) (x : Term) → is_connective k ≡ true → has_term inner x ≡ true → has_term (named_at k u inner) x ≡ true
named-below (truth_value b) u inner x c e = absurd cc
named-below atom u inner x c e = absurd cc
named-below negation u inner x c e = e
named-below _ u inner x c e = named-inside u inner x e

pub operands-in : (t : Term) (h : Head) (us : Terms) → IsFormulaIn t (apply h us) → is_connective (kind_of h us) ≡ true → AreFormulasIn t us
operands-in t h us a c =
    let r : Connected h us bool = connected h us bool a.sort (connective-logical (kind_of h us) c) in
    record {
      number = r.number;
      sorts = r.sorts;
      regular = (regular h us (both_true (is_some (sort_of (apply h us))) (is_regular (apply h us)) a.sorted).1).operands;
      free = λ f e. a.free f (is_among-with_more (head_symbols h) (free_of us) f ∙ right_true (is_among (head_symbols h) f) (is_among (free_of us) f) e);
      clear = λ e. (both_true (is_head_seen [] h) (are_clear_below [] us) (a.clear e)).1;
      within = λ heads binders e. (both_true (heads h) (every_of heads binders us) (a.within heads binders e)).1;
      named = λ x e. a.named x (named-below (kind_of h us) (apply h us) (named_connectives_of us) x c e);
    }

-- a formula before others, where they are n
record AreBool (u : Term) (us : Terms) : Type 0 where
  number : ℕ
  first : sort_of u ≡ Some bool
  others : sorts_of us ≡ Some (replicate number bool)

each-bool : (u : Term) (us : Terms) (n : ℕ) → sorts_of (u ⨾ us) ≡ Some (replicate n bool) → AreBool u us
each-bool u us zero has = let a = sorted u us [] has in let no : [] ≡ a.sort ∷ a.sorts = a.all in absurd cc
each-bool u us (suc n) has = let a = fewer_sorts u us bool (replicate n bool) has in record { number = n; first = a.0; others = a.1 }

pub first-in : (t u : Term) (us : Terms) → AreFormulasIn t (u ⨾ us) → IsFormulaIn t u
first-in t u us a =
    let sort = (each-bool u us a.number a.sorts).first in
    record {
      sorted = well_sorted u bool sort (both_true (is_regular u) (are_regular us) a.regular).0;
      sort = sort;
      free = λ f e. a.free f (is_among-with_more (free u) (free_of us) f ∙ left_true (is_among (free u) f) (is_among (free_of us) f) e);
      clear = λ e. (both_true (is_clear_below [] u) (are_clear_below [] us) (a.clear e)).0;
      within = λ heads binders e. (both_true (every heads binders u) (every_of heads binders us) (a.within heads binders e)).0;
      named = λ x e. a.named x (has_term-with_new (named_connectives u) (named_connectives_of us) x ∙ left_true (has_term (named_connectives u) x) (has_term (named_connectives_of us) x) e);
    }

pub others-in : (t u : Term) (us : Terms) → AreFormulasIn t (u ⨾ us) → AreFormulasIn t us
others-in t u us a =
    let rest = each-bool u us a.number a.sorts in
    record {
      number = rest.number;
      sorts = rest.others;
      regular = (both_true (is_regular u) (are_regular us) a.regular).1;
      free = λ f e. a.free f (is_among-with_more (free u) (free_of us) f ∙ right_true (is_among (free u) f) (is_among (free_of us) f) e);
      clear = λ e. (both_true (is_clear_below [] u) (are_clear_below [] us) (a.clear e)).1;
      within = λ heads binders e. (both_true (every heads binders u) (every_of heads binders us) (a.within heads binders e)).1;
      named = λ x e. a.named x (has_term-with_new (named_connectives u) (named_connectives_of us) x ∙ right_true (has_term (named_connectives u) x) (has_term (named_connectives_of us) x) e);
    }
