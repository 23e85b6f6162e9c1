-- The terms that get constants are parts of the formula, and each of them is an `ite` that is no connective.
use Rattle.std.proofs.Common.{◌≡◌, Bool, true, List, [], ◌∷◌, All, Some, ◌∙◌}
use Rattle.std.specs.Prelude.{IsTrue, is_some}
use Rattle.std.proofs.lemmas.List.Elements.{All-nil, All-weaker}
use Rattle.smt_terms.specs.Free.{is_among, head_symbols, free, free_of}
use Rattle.smt_terms.specs.Groups.{where_so}
use Rattle.smt_terms.specs.Rank.{sort_of, sorts_of, is_regular, are_regular, IsWellSorted}
use Rattle.smt_terms.specs.Shapes.{is_term_ite, is_head_seen, is_clear_below, are_clear_below}
use Rattle.smt_terms.specs.Sorts.{Sort, Symbol, Variable}
use Rattle.smt_terms.specs.Term.{Head, Term, apply, quantified, Terms, none, ◌⨾◌}
use Rattle.smt_terms.proofs.Among.{is_among-with_more}
use Rattle.smt_terms.proofs.Keeping.{the_sort}
use Rattle.smt_terms.proofs.Operands.{well_sorted}
use Rattle.smt_terms.proofs.Sorted.{applied, sorted}
use Rattle.smt_terms.proofs.SortsOfTerms.{regular}
use Rattle.smt_terms.proofs.Tests.{both_true, left_true, right_true}
use Rattle.term_groups.specs.Every.{every, every_of}
use Rattle.term_groups.specs.Grouping.{IsPart}
use Rattle.ite_free.specs.Ite.{term_ites, term_ites_of}
use Rattle.ite_free.specs.Removing.{is_choice}
use Rattle.term_groups.proofs.NamedTerms.{All-with_new, All-where_so}

-- ---- well-sorted operands

pub record AreWellSorted (ts : Terms) : Type 0 where
  pub sorts : List Sort
  pub sorted : sorts_of ts ≡ Some sorts
  pub regular : are_regular ts ≡ true

pub operands-well_sorted : (h : Head) (ts : Terms) → IsWellSorted (apply h ts) → AreWellSorted ts
operands-well_sorted h ts fine =
    let parts = both_true (is_some (sort_of (apply h ts))) (is_regular (apply h ts)) fine in
    let found = the_sort (sort_of (apply h ts)) parts.0 in
    let over = applied h ts found.0 found.1 in
    record { sorts = over.sorts; sorted = over.operands; regular = (regular h ts parts.1).operands }

pub first-well_sorted : (t : Term) (ts : Terms) → AreWellSorted (t ⨾ ts) → IsWellSorted t
first-well_sorted t ts fine =
    let here = sorted t ts fine.sorts fine.sorted in
    well_sorted t here.sort here.first (both_true (is_regular t) (are_regular ts) fine.regular).0

pub others-well_sorted : (t : Term) (ts : Terms) → AreWellSorted (t ⨾ ts) → AreWellSorted ts
others-well_sorted t ts fine =
    let here = sorted t ts fine.sorts fine.sorted in
    record { sorts = here.sorts; sorted = here.others; regular = (both_true (is_regular t) (are_regular ts) fine.regular).1 }

-- ---- parts of a term and of its operands

-- a part that is clear where the term is
pub record IsClearPart (t u : Term) : Type 0 where
  pub part : IsPart t u
  pub clear : is_clear_below [] t ≡ true → is_clear_below [] u ≡ true

-- a term that stands in one of these operands outside quantifiers
pub record IsPartOfEach (ts : Terms) (u : Term) : Type 0 where
  pub sorted : IsWellSorted u
  pub symbols : (f : Symbol) → IsTrue (is_among (free u) f) → IsTrue (is_among (free_of ts) f)
  pub within : (heads : Head → Bool) (binders : List Variable → Bool) → IsTrue (every_of heads binders ts) → IsTrue (every heads binders u)
  pub clear : are_clear_below [] ts ≡ true → is_clear_below [] u ≡ true

pub part-itself : (t : Term) → IsWellSorted t → IsClearPart t t
part-itself t fine = record {
  part = record { sorted = fine; free = λ f among. among; within = λ heads binders holds. holds };
  clear = λ clear. clear;
}

pub part-through : (t u w : Term) → IsClearPart t u → IsClearPart u w → IsClearPart t w
part-through t u w first second = record {
  part = record {
    sorted = second.part.sorted;
    free = λ f among. first.part.free f (second.part.free f among);
    within = λ heads binders holds. second.part.within heads binders (first.part.within heads binders holds);
  };
  clear = λ clear. second.clear (first.clear clear);
}

pub part-in_first : (t : Term) (ts : Terms) (u : Term) → IsClearPart t u → IsPartOfEach (t ⨾ ts) u
part-in_first t ts u p = record {
  sorted = p.part.sorted;
  symbols = λ f among. is_among-with_more (free t) (free_of ts) f ∙ left_true (is_among (free t) f) (is_among (free_of ts) f) (p.part.free f among);
  within = λ heads binders holds. p.part.within heads binders (both_true (every heads binders t) (every_of heads binders ts) holds).0;
  clear = λ clear. p.clear (both_true (is_clear_below [] t) (are_clear_below [] ts) clear).0;
}

pub part-in_others : (t : Term) (ts : Terms) (u : Term) → IsPartOfEach ts u → IsPartOfEach (t ⨾ ts) u
part-in_others t ts u p = record {
  sorted = p.sorted;
  symbols = λ f among. is_among-with_more (free t) (free_of ts) f ∙ right_true (is_among (free t) f) (is_among (free_of ts) f) (p.symbols f among);
  within = λ heads binders holds. p.within heads binders (both_true (every heads binders t) (every_of heads binders ts) holds).1;
  clear = λ clear. p.clear (both_true (is_clear_below [] t) (are_clear_below [] ts) clear).1;
}

pub part-in_operands : (h : Head) (ts : Terms) (u : Term) → IsPartOfEach ts u → IsClearPart (apply h ts) u
part-in_operands h ts u p = record {
  part = record {
    sorted = p.sorted;
    free = λ f among. is_among-with_more (head_symbols h) (free_of ts) f ∙ right_true (is_among (head_symbols h) f) (is_among (free_of ts) f) (p.symbols f among);
    within = λ heads binders holds. p.within heads binders (both_true (heads h) (every_of heads binders ts) holds).1;
  };
  clear = λ clear. p.clear (both_true (is_head_seen [] h) (are_clear_below [] ts) clear).1;
}

-- ---- what gets constants

mutual
  pub ites-parts : (t : Term) → IsWellSorted t → All (IsClearPart t) (term_ites t)
  ites-parts (apply h ts) fine =
      All-with_new (IsClearPart (apply h ts)) (term_ites_of ts) (where_so (is_term_ite h ts) (apply h ts ∷ []))
      (All-weaker (IsPartOfEach ts) (IsClearPart (apply h ts)) (part-in_operands h ts) (term_ites_of ts) (ites-parts_of_each ts (operands-well_sorted h ts fine)))
      (All-where_so (IsClearPart (apply h ts)) (is_term_ite h ts) (apply h ts) (λ _. part-itself (apply h ts) fine))
  ites-parts (quantified q xs body) fine = All-nil (IsClearPart (quantified q xs body))

  ites-parts_of_each : (ts : Terms) → AreWellSorted ts → All (IsPartOfEach ts) (term_ites_of ts)
  ites-parts_of_each none fine = All-nil (IsPartOfEach none)
  ites-parts_of_each (t ⨾ ts) fine =
      All-with_new (IsPartOfEach (t ⨾ ts)) (term_ites t) (term_ites_of ts)
      (All-weaker (IsClearPart t) (IsPartOfEach (t ⨾ ts)) (part-in_first t ts) (term_ites t) (ites-parts t (first-well_sorted t ts fine)))
      (All-weaker (IsPartOfEach ts) (IsPartOfEach (t ⨾ ts)) (part-in_others t ts) (term_ites_of ts) (ites-parts_of_each ts (others-well_sorted t ts fine)))

-- an `ite` that is no connective
abbrev pub IsChoice : Term → Type 0
IsChoice t = is_choice t ≡ true

mutual
  pub ites-choices : (t : Term) → All IsChoice (term_ites t)
  ites-choices (apply h ts) =
      All-with_new IsChoice (term_ites_of ts) (where_so (is_term_ite h ts) (apply h ts ∷ []))
      (ites-choices_of_each ts) (All-where_so IsChoice (is_term_ite h ts) (apply h ts) (λ choice. choice))
  ites-choices (quantified q xs body) = All-nil IsChoice

  ites-choices_of_each : (ts : Terms) → All IsChoice (term_ites_of ts)
  ites-choices_of_each none = All-nil IsChoice
  ites-choices_of_each (t ⨾ ts) = All-with_new IsChoice (term_ites t) (term_ites_of ts) (ites-choices t) (ites-choices_of_each ts)
