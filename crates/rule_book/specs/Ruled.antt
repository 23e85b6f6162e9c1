-- A term rewritten once from below by rules of the eight (SMT-LIB 2.6, section 3.6, for the terms): at each term, made anew over
-- its rewritten subterms, the rules are asked in the order of their names, and the first template takes its place.
use Rattle.std.specs.Prelude.{List, [], ◌∷◌, slice_get, Option, Some, None, unwrap_or}
use Rattle.smt_terms.specs.Sorts.{Name}
use Rattle.smt_terms.specs.Term.{Term, apply, quantified, Terms, none, ◌⨾◌}
use Rattle.smt_terms.specs.Made.{made}
use Rattle.rule_book.specs.View.{TermView, view_of, view_holes}
use Rattle.rule_book.specs.Template.{Template, filled}
use Rattle.rule_book.specs.EightRules.{eight, or_else}

abbrev pub first_answer : List Name → TermView → Option Template
first_answer [] v = None
first_answer (n ∷ ns) v = or_else (eight n v) (first_answer ns v)

abbrev pub answer_for : List Name → Option TermView → Option Template
answer_for ns None = None
answer_for ns (Some v) = first_answer ns v

-- the template over the terms of the view's holes, or else the term itself
abbrev pub in_place_of : Term → Option Template → Term
in_place_of t None = t
in_place_of t (Some p) = unwrap_or (filled (slice_get (view_holes t)) p) t

abbrev pub rewritten : List Name → Term → Term
rewritten ns t = in_place_of t (answer_for ns (view_of t))

abbrev mutual
  pub ruled : List Name → Term → Term
  ruled ns (apply h ts) = rewritten ns (made h (ruled_all ns ts))
  ruled ns (quantified q xs t) = quantified q xs (ruled ns t)

  pub ruled_all : List Name → Terms → Terms
  ruled_all ns none = none
  ruled_all ns (t ⨾ ts) = ruled ns t ⨾ ruled_all ns ts
