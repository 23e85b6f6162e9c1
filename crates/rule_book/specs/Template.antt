-- Templates: terms over holes (SMT-LIB 2.6, section 3.6, for the terms), in postfix order.
use Rattle.std.specs.Prelude.{ℕ, Bool, true, nat_le, if◌then◌else◌, List, [], ◌∷◌, length, take, drop, reverse, Option, Some, None}
use Rattle.std.specs.List.{list_all}
use Rattle.smt_terms.specs.declared.op.Op.{Op}
use Rattle.smt_terms.specs.Sorts.{Sort}
use Rattle.smt_terms.specs.Term.{op, Term, terms}
use Rattle.smt_terms.specs.Made.{made}
use Rattle.smt_terms.specs.Rank.{sort_over}
use Rattle.smt_terms.specs.Values.{Value}
use Rattle.smt_terms.specs.Operators.{Background, op_value}
use Rattle.rule_book.specs.View.{is_theory, is_literal}

-- the hole of that number, a constant, or an operator over so many of the last results, in their order
pub data TermPiece : Type 0 where
  hole : ℕ → TermPiece
  literal : Op → TermPiece
  applied : Op → ℕ → TermPiece

abbrev pub Template : Type 0
Template = List TermPiece

-- constants, and theory operators alone
abbrev pub is_piece : TermPiece → Bool
is_piece (hole i) = true
is_piece (literal o) = is_literal o
is_piece (applied o n) = is_theory o

abbrev pub applies_theory : Template → Bool
applies_theory ps = list_all is_piece ps

-- ---- what a template gives, for what its holes are and what operators make of results. The results so far stand in a list,
-- the last one first; in the end there is to be one.

abbrev pub and_more : {A : Type 0} → List A → Option A → (List A → Option A) → Option A
and_more done None more = None
and_more done (Some a) more = more (a ∷ done)

abbrev pub result_of : {A : Type 0} → List A → Option A
result_of [] = None
result_of (a ∷ []) = Some a
result_of (a ∷ b ∷ rest) = None

abbrev pub over_last : {A : Type 0} → (List A → Option A) → ℕ → List A → Option A
over_last make n done = if nat_le n (length done) then make (reverse (take n done)) else None

abbrev pub give : {A : Type 0} → (ℕ → Option A) → (Op → List A → Option A) → Template → List A → Option A
give holes make [] done = result_of done
give holes make (hole i ∷ ps) done = and_more done (holes i) (give holes make ps)
give holes make (literal o ∷ ps) done = and_more done (make o []) (give holes make ps)
give holes make (applied o n ∷ ps) done = and_more (drop n done) (over_last (make o) n done) (give holes make ps)

abbrev pub given : {A : Type 0} → (ℕ → Option A) → (Op → List A → Option A) → Template → Option A
given holes make ps = give holes make ps []

-- ---- the term, with terms in the holes

abbrev pub term_over : Op → List Term → Option Term
term_over o ts = Some (made (op o) (terms ts))

abbrev pub filled : (ℕ → Option Term) → Template → Option Term
filled holes ps = given holes term_over ps

-- ---- the sort and the value, with sorts and values for the holes

pub record Denoted : Type 0 where
  pub sort : Sort
  pub value : Value

abbrev pub sorts : List Denoted → List Sort
sorts [] = []
sorts (d ∷ ds) = d.sort ∷ sorts ds

abbrev pub values : List Denoted → List Value
values [] = []
values (d ∷ ds) = d.value ∷ values ds

abbrev pub with_value : Value → Option Sort → Option Denoted
with_value v None = None
with_value v (Some s) = Some (record { sort = s; value = v })

abbrev pub sort_made : Op → List Sort → Option Sort
sort_made o ss = sort_over (op o) (Some ss)

abbrev pub denoted_over : Background → Op → List Denoted → Option Denoted
denoted_over b o ds = with_value (op_value b o (sorts ds) (values ds)) (sort_made o (sorts ds))

abbrev pub template_sort : (ℕ → Option Sort) → Template → Option Sort
template_sort holes ps = given holes sort_made ps

abbrev pub template_value : Background → (ℕ → Option Denoted) → Template → Option Denoted
template_value b holes ps = given holes (denoted_over b) ps
