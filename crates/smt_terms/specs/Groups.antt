-- What a pass that needs new symbols makes of an assertion: constants, each with the term that it stands for, and the
-- assertions that take the place of the one.
use Rattle.std.specs.Prelude.{Bool, true, false, not, cond, ◌||◌, List, [], ◌∷◌, ◌++◌, filter, Option, Some, None, unwrap_or}
use Rattle.smt_terms.specs.Sorts.{bool, Symbol}
use Rattle.smt_terms.specs.Term.{Term, apply, quantified, Terms, none, ◌⨾◌, constant}
use Rattle.smt_terms.specs.Equal.{term_eq}
use Rattle.smt_terms.specs.Fresh.{Supply, fresh_constant, after_draw}
use Rattle.smt_terms.specs.Rank.{sort_of}

-- constants, each with the term that it stands for
abbrev pub Named : Type 0
Named = List (Symbol × Term)

pub record Group : Type 0 where
  pub symbols : Named
  pub asserts : List Term

-- a group and the names that are left
pub record Grouped : Type 0 where
  pub group : Group
  pub names : Supply

abbrev pub has_term : List Term → Term → Bool
has_term [] t = false
has_term (u ∷ us) t = term_eq u t || has_term us t

-- the first terms, and then those of the second that aren't among them
abbrev pub with_new : List Term → List Term → List Term
with_new ts us = ts ++ filter (λ u. not (has_term ts u)) us

-- the constant of a term
abbrev pub constant_for : Named → Term → Option Symbol
constant_for [] t = None
constant_for (n ∷ ns) t = cond (term_eq n.1 t) (Some n.0) (constant_for ns t)

-- constants that were drawn, and the names that are left
pub record Drawn : Type 0 where
  pub symbols : Named
  pub names : Supply

abbrev pub drawn_first : Symbol → Term → Drawn → Drawn
drawn_first f t d = record { symbols = (f, t) ∷ d.symbols; names = d.names }

-- a fresh constant of its sort for each of these terms, in order
abbrev pub draw_each : List Term → Supply → Drawn
draw_each [] s = record { symbols = []; names = s }
draw_each (t ∷ ts) s = drawn_first (fresh_constant (unwrap_or (sort_of t) bool) s) t (draw_each ts (after_draw s))

abbrev pub constant_or : Option Symbol → Term → Term
constant_or (Some f) t = constant f
constant_or None t = t

abbrev mutual
  -- the term with constants in place of the terms that they stand for, outside quantifiers; a term that has a constant gives
  -- way as it was, whatever stands for its operands
  pub with_constants : Named → Term → Term
  with_constants ns (apply h ts) = constant_or (constant_for ns (apply h ts)) (apply h (with_constants_each ns ts))
  with_constants ns (quantified q xs body) = quantified q xs body

  pub with_constants_each : Named → Terms → Terms
  with_constants_each ns none = none
  with_constants_each ns (t ⨾ ts) = with_constants ns t ⨾ with_constants_each ns ts

-- the list where the test holds, else none
abbrev pub where_so : Bool → List Term → List Term
where_so true ts = ts
where_so false ts = []
