-- Sorts as they are written: SMT-LIB 2.6, section 3.5, with the sorts of the theories.
use Rattle.std.specs.Prelude.{ℕ, ◌==◌, nat_lt, if◌then◌else◌, List, [], ◌∷◌, codes, bytes_eq, Result, Ok, Option, Some, None}
use Rattle.smt_lex.specs.Names.{Name, is_theory_sort}
use Rattle.smt_lex.specs.Forms.{Form, atom, node, Forms, none, ◌⨾◌}
use Rattle.smt_terms.specs.Equal.{sort_eq}
use Rattle.smt_terms.specs.Rank.{is_array, most_bits}
use Rattle.smt_terms.specs.Sorts.{Sort, bool, int, bit_vector, array, free_sort}
use Rattle.script_terms.specs.declared.causes.Cause.TheVariants.{WidthLimit, BadIndex, BadForm, UnknownName, RealSort, IndexSort, SortArity}
use Rattle.script_terms.specs.Refusals.{Refused, at, and_then, unless, mapped}
use Rattle.script_terms.specs.Parts.{place_of, symbol_in, word_in, is_name, numeral_in}

-- which sorts live names stand for
abbrev pub Sorts : Type 0
Sorts = Name → Option Sort

-- ---- a name alone

abbrev pub live_or_unknown : ℕ → Option Sort → Result Sort Refused
live_or_unknown place (Some s) = Ok s
live_or_unknown place None = at UnknownName place

abbrev pub sort_of_name : Sorts → ℕ → Name → Result Sort Refused
sort_of_name live place n =
    if bytes_eq n (codes "Bool") then Ok bool
    else (if bytes_eq n (codes "Int") then Ok int
    else (if bytes_eq n (codes "Real") then at RealSort place
    else (if is_theory_sort n then at BadForm place
    else live_or_unknown place (live n))))

abbrev pub sort_of_symbol : Sorts → ℕ → Option Name → Result Sort Refused
sort_of_symbol live place None = at BadForm place
sort_of_symbol live place (Some n) = sort_of_name live place n

-- ---- lists

-- the sort of bit vectors of a width
abbrev pub vectors_of : ℕ → Option ℕ → Result Sort Refused
vectors_of place None = at BadForm place
vectors_of place (Some w) = unless (w == 0) BadIndex place (unless (nat_lt most_bits w) WidthLimit place (Ok (bit_vector w)))

-- `(_ BitVec n)`, from what is behind the `_`
abbrev pub indexed_sort : ℕ → Forms → Result Sort Refused
indexed_sort place (f ⨾ n ⨾ none) = if is_name (codes "BitVec") (symbol_in f) then vectors_of place (numeral_in n) else at BadForm place
indexed_sort place _ = at BadForm place

-- a part of a list with what it is as a sort
pub record Part : Type 0 where
  pub place : ℕ
  pub sort : Result Sort Refused

-- the index sort is examined, then that it is no array sort, then the element sort
abbrev pub array_sort : ℕ → List Part → Result Sort Refused
array_sort place (i ∷ e ∷ []) =
    and_then (λ index. unless (is_array index) IndexSort i.place (mapped (λ element. array index element) e.sort)) i.sort
array_sort place _ = at BadForm place

-- a live name that has no parameters: a declared sort has the wrong arity, a defined one can't be applied
abbrev pub applied_name : ℕ → Name → Option Sort → Result Sort Refused
applied_name place n None = at UnknownName place
applied_name place n (Some s) = if sort_eq s (free_sort n) then at SortArity place else at BadForm place

abbrev pub applied_sort : Sorts → ℕ → List Part → Option Name → Result Sort Refused
applied_sort live place parts None = at BadForm place
applied_sort live place parts (Some n) =
    if bytes_eq n (codes "Array") then array_sort place parts
    else (if is_theory_sort n then at BadForm place
    else applied_name place n (live n))

-- a list that begins with a form: the other forms, and what they are as sorts
abbrev pub sort_of_list : Sorts → ℕ → Form → Forms → List Part → Result Sort Refused
sort_of_list live place f fs parts =
    if is_name (codes "_") (word_in f) then indexed_sort place fs
    else applied_sort live place parts (symbol_in f)

abbrev mutual
  -- the sort that a form is, or its first refusal
  pub sort_in : Sorts → Form → Result Sort Refused
  sort_in live (atom t) = sort_of_symbol live t.start (symbol_in (atom t))
  sort_in live (node place none) = at BadForm place
  sort_in live (node place (f ⨾ fs)) = sort_of_list live place f fs (parts_in live fs)

  pub parts_in : Sorts → Forms → List Part
  parts_in live none = []
  parts_in live (f ⨾ fs) = record { place = place_of f; sort = sort_in live f } ∷ parts_in live fs

-- the sorts of a list, from left to right
abbrev pub all_sorts : List Part → Result (List Sort) Refused
all_sorts [] = Ok []
all_sorts (p ∷ ps) = and_then (λ s. mapped (λ ss. s ∷ ss) (all_sorts ps)) p.sort

abbrev pub sorts_in : Sorts → Forms → Result (List Sort) Refused
sorts_in live fs = all_sorts (parts_in live fs)
