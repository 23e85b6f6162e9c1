-- The applications of a term are parts of it, and what is known of a term that stands in one of the inputs.
use Rattle.std.proofs.Common.{◌≡◌, Bool, true, false, List, [], ◌∷◌, All, Some, ◌∙◌}
use Rattle.std.specs.Prelude.{IsTrue}
use Rattle.std.proofs.lemmas.List.Elements.{All-nil, All-weaker}
use Rattle.smt_terms.specs.Free.{is_among, head_symbols, free, free_of}
use Rattle.smt_terms.specs.Groups.{where_so}
use Rattle.smt_terms.specs.Rank.{sorts_of, is_regular, are_regular, IsWellSorted}
use Rattle.smt_terms.specs.Shapes.{is_application, is_head_seen, is_clear_below, are_clear_below}
use Rattle.smt_terms.specs.Sorts.{Sort, Symbol, Variable}
use Rattle.smt_terms.specs.Term.{Head, Term, apply, quantified, Terms, none, ◌⨾◌}
use Rattle.smt_terms.proofs.Among.{is_among-with_more}
use Rattle.smt_terms.proofs.Operands.{well_sorted}
use Rattle.smt_terms.proofs.Sorted.{applied, sorted}
use Rattle.smt_terms.proofs.SortsOfTerms.{regular}
use Rattle.smt_terms.proofs.StoredTerms.{fine_term}
use Rattle.smt_terms.proofs.Tests.{both_true, both_false, left_true, right_true}
use Rattle.term_groups.specs.Every.{every, every_of}
use Rattle.term_groups.specs.Grouping.{IsPart}
use Rattle.ackermann.specs.Ackermann.{applications, applications_of, has_quantified_use, have_quantified_use}
use Rattle.ackermann.specs.Removals.{is_use}
use Rattle.term_groups.proofs.NamedTerms.{All-with_new, All-where_so}

-- ---- well-sorted operands

record AreWellSorted (ts : Terms) : Type 0 where
  sorts : List Sort
  have : sorts_of ts ≡ Some sorts
  rules : are_regular ts ≡ true

operands-well_sorted : (h : Head) (ts : Terms) → IsWellSorted (apply h ts) → AreWellSorted ts
operands-well_sorted h ts fine =
    let f = fine_term (apply h ts) fine in
    let over = applied h ts f.sort f.has in
    record { sorts = over.sorts; have = over.operands; rules = (regular h ts f.rules).operands }

first-well_sorted : (t : Term) (ts : Terms) → AreWellSorted (t ⨾ ts) → IsWellSorted t
first-well_sorted t ts fine =
    let here = sorted t ts fine.sorts fine.have in
    well_sorted t here.sort here.first (both_true (is_regular t) (are_regular ts) fine.rules).0

others-well_sorted : (t : Term) (ts : Terms) → AreWellSorted (t ⨾ ts) → AreWellSorted ts
others-well_sorted t ts fine =
    let here = sorted t ts fine.sorts fine.have in
    record { sorts = here.sorts; have = here.others; rules = (both_true (is_regular t) (are_regular ts) fine.rules).1 }

-- ---- parts of a term and of its operands

-- a part that is clear where the term is, and has an application below a quantifier only where the term has
pub record IsPiece (t u : Term) : Type 0 where
  pub part : IsPart t u
  pub clear : is_clear_below [] t ≡ true → is_clear_below [] u ≡ true
  pub outside : has_quantified_use t ≡ false → has_quantified_use u ≡ false

-- a term that stands in one of these operands outside quantifiers
record IsPieceOfEach (ts : Terms) (u : Term) : Type 0 where
  sorted : IsWellSorted u
  symbols : (f : Symbol) → IsTrue (is_among (free u) f) → IsTrue (is_among (free_of ts) f)
  within : (heads : Head → Bool) (binders : List Variable → Bool) → IsTrue (every_of heads binders ts) → IsTrue (every heads binders u)
  clear : are_clear_below [] ts ≡ true → is_clear_below [] u ≡ true
  outside : have_quantified_use ts ≡ false → has_quantified_use u ≡ false

pub piece-itself : (t : Term) → IsWellSorted t → IsPiece t t
piece-itself t fine = record {
  part = record { sorted = fine; free = λ f among. among; within = λ heads binders holds. holds };
  clear = λ clear. clear;
  outside = λ outside. outside;
}

piece-in_first : (t : Term) (ts : Terms) (u : Term) → IsPiece t u → IsPieceOfEach (t ⨾ ts) u
piece-in_first t ts u p = record {
  sorted = p.part.sorted;
  symbols = λ f among. is_among-with_more (free t) (free_of ts) f ∙ left_true (is_among (free t) f) (is_among (free_of ts) f) (p.part.free f among);
  within = λ heads binders holds. p.part.within heads binders (both_true (every heads binders t) (every_of heads binders ts) holds).0;
  clear = λ clear. p.clear (both_true (is_clear_below [] t) (are_clear_below [] ts) clear).0;
  outside = λ outside. p.outside (both_false (has_quantified_use t) (have_quantified_use ts) outside).0;
}

piece-in_others : (t : Term) (ts : Terms) (u : Term) → IsPieceOfEach ts u → IsPieceOfEach (t ⨾ ts) u
piece-in_others t ts u p = record {
  sorted = p.sorted;
  symbols = λ f among. is_among-with_more (free t) (free_of ts) f ∙ right_true (is_among (free t) f) (is_among (free_of ts) f) (p.symbols f among);
  within = λ heads binders holds. p.within heads binders (both_true (every heads binders t) (every_of heads binders ts) holds).1;
  clear = λ clear. p.clear (both_true (is_clear_below [] t) (are_clear_below [] ts) clear).1;
  outside = λ outside. p.outside (both_false (has_quantified_use t) (have_quantified_use ts) outside).1;
}

piece-in_operands : (h : Head) (ts : Terms) (u : Term) → IsPieceOfEach ts u → IsPiece (apply h ts) u
piece-in_operands h ts u p = record {
  part = record {
    sorted = p.sorted;
    free = λ f among. is_among-with_more (head_symbols h) (free_of ts) f ∙ right_true (is_among (head_symbols h) f) (is_among (free_of ts) f) (p.symbols f among);
    within = λ heads binders holds. p.within heads binders (both_true (heads h) (every_of heads binders ts) holds).1;
  };
  clear = λ clear. p.clear (both_true (is_head_seen [] h) (are_clear_below [] ts) clear).1;
  outside = p.outside;
}

-- ---- what gets constants

mutual
  pub applications-pieces : (t : Term) → IsWellSorted t → All (IsPiece t) (applications t)
  applications-pieces (apply h ts) fine =
      All-with_new (IsPiece (apply h ts)) (applications_of ts) (where_so (is_application h ts) (apply h ts ∷ []))
      (All-weaker (IsPieceOfEach ts) (IsPiece (apply h ts)) (piece-in_operands h ts) (applications_of ts) (operands-pieces ts (operands-well_sorted h ts fine)))
      (All-where_so (IsPiece (apply h ts)) (is_application h ts) (apply h ts) (λ _. piece-itself (apply h ts) fine))
  applications-pieces (quantified q xs body) fine = All-nil (IsPiece (quantified q xs body))

  operands-pieces : (ts : Terms) → AreWellSorted ts → All (IsPieceOfEach ts) (applications_of ts)
  operands-pieces none fine = All-nil (IsPieceOfEach none)
  operands-pieces (t ⨾ ts) fine =
      All-with_new (IsPieceOfEach (t ⨾ ts)) (applications t) (applications_of ts)
      (All-weaker (IsPiece t) (IsPieceOfEach (t ⨾ ts)) (piece-in_first t ts) (applications t) (applications-pieces t (first-well_sorted t ts fine)))
      (All-weaker (IsPieceOfEach ts) (IsPieceOfEach (t ⨾ ts)) (piece-in_others t ts) (applications_of ts) (operands-pieces ts (others-well_sorted t ts fine)))

abbrev pub IsUse : Term → Type 0
IsUse t = is_use t ≡ true

mutual
  pub applications-uses : (t : Term) → All IsUse (applications t)
  applications-uses (apply h ts) =
      All-with_new IsUse (applications_of ts) (where_so (is_application h ts) (apply h ts ∷ []))
      (operands-uses ts) (All-where_so IsUse (is_application h ts) (apply h ts) (λ there. there))
  applications-uses (quantified q xs body) = All-nil IsUse

  operands-uses : (ts : Terms) → All IsUse (applications_of ts)
  operands-uses none = All-nil IsUse
  operands-uses (t ⨾ ts) = All-with_new IsUse (applications t) (applications_of ts) (applications-uses t) (operands-uses ts)
