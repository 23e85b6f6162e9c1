-- Symbols and heads of applications: SMT-LIB 2.6, section 3.6 (identifiers, qualified identifiers, applications).
use Rattle.std.specs.Prelude.{ℕ, suc, ◌^◌, ◌==◌, Bool, true, false, ◌&&◌, nat_lt, nat_le, nat_abs, if◌then◌else◌, List, [], ◌∷◌, map, drop, codes, bytes_eq, Result, Ok, Err, Option, Some, None, is_some, unwrap_or}
use Rattle.smt_lex.specs.Lexicon.{is_numeral}
use Rattle.smt_lex.specs.Names.{Name, is_among, is_theory_name, is_bit_vector_constant}
use Rattle.smt_lex.specs.Lex.{Token, symbol_of}
use Rattle.smt_lex.specs.Forms.{Form, atom, node, Forms, none, ◌⨾◌}
use Rattle.smt_lex.specs.declared.items.Item.{Item}
use Rattle.smt_lex.specs.declared.items.Item.TheVariants.{Decimal}
use Rattle.smt_terms.specs.declared.op.Op.{Op}
use Rattle.smt_terms.specs.declared.op.Op.TheVariants.{Whole, Bits}
use Rattle.smt_terms.specs.Connectives.{truth_term}
use Rattle.smt_terms.specs.Fresh.{Supply}
use Rattle.smt_terms.specs.Made.{made}
use Rattle.smt_terms.specs.Rank.{most_bits, rank, sort_of, sorts_of, width, Fault as RankFault}
use Rattle.smt_terms.specs.Sorts.{Sort, bool, Symbol, Variable}
use Rattle.smt_terms.specs.Subst.{parameter, expand}
use Rattle.smt_terms.specs.Term.{op, symbol, const_array, Term, apply, terms, none as no_terms, over, constant}
use Rattle.smt_terms.specs.Written.{Written, Indexed, operator_named, at_indices, written_rank, Algebra, build}
use Rattle.script_terms.specs.declared.causes.Cause.TheVariants.{WrongArity, WidthLimit, BadIndex, BadForm, UnknownName, NumberLimit, RealSort}
use Rattle.script_terms.specs.Refusals.{Refused, at, unless, mapped, cause_of}
use Rattle.script_terms.specs.Parts.{place_of, symbol_in, word_in, is_name, numeral_in, numerals_in, constant_by, greatest_number, vector_number}
use Rattle.script_terms.specs.SortForms.{sort_in}
use Rattle.script_terms.specs.Reading.{ReadLocal, ReadBinding, Sofar, live_sorts, Entry, symbol_entry, definition_entry, term_entry, entry_of, bound_as, Reading, by_rule}

-- ---- atoms

-- functions of the theory of reals
abbrev pub real_names : List Name
real_names = codes "/" ∷ codes "to_real" ∷ codes "to_int" ∷ codes "is_int" ∷ []

-- a symbol that stands alone and that nothing binds
abbrev pub theory_symbol : ℕ → Name → Result Term Refused
theory_symbol place n =
    if bytes_eq n (codes "true") then Ok (truth_term true)
    else (if bytes_eq n (codes "false") then Ok (truth_term false)
    else (if is_among real_names n then at RealSort place
    else (if is_theory_name n then at WrongArity place
    else at UnknownName place)))

abbrev pub constant_or_refused : ℕ → Symbol → List Sort → Result Term Refused
constant_or_refused place f [] = Ok (constant f)
constant_or_refused place f (s ∷ ss) = at WrongArity place

abbrev pub live_symbol : ℕ → Name → Option Entry → Result Term Refused
live_symbol place n (Some (symbol_entry f)) = constant_or_refused place f f.args
live_symbol place n (Some (definition_entry [] t)) = Ok t
live_symbol place n (Some (definition_entry (x ∷ xs) t)) = at WrongArity place
live_symbol place n (Some (term_entry t)) = Ok t
live_symbol place n None = theory_symbol place n

abbrev pub symbol_term : ℕ → Name → Option Term → Option Entry → Result Term Refused
symbol_term place n (Some t) entry = Ok t
symbol_term place n None entry = live_symbol place n entry

-- a constant that is a token
abbrev pub token_constant : ℕ → Op → Result Term Refused
token_constant place (Whole n) = unless (nat_lt greatest_number (nat_abs n)) NumberLimit place (Ok (apply (op (Whole n)) no_terms))
token_constant place (Bits w n) = unless (nat_lt most_bits w) WidthLimit place (Ok (apply (op (Bits w n)) no_terms))
token_constant place _ = at BadForm place

-- of what is neither a constant nor a symbol, decimals are reals
abbrev pub other_atom : ℕ → Item → Result Term Refused
other_atom place Decimal = at RealSort place
other_atom place _ = at BadForm place

abbrev pub name_or_other : List ReadLocal → List ReadBinding → Token → Option Name → Result Term Refused
name_or_other locals live t (Some n) = symbol_term t.start n (bound_as locals n) (entry_of live n)
name_or_other locals live t None = other_atom t.start t.item

abbrev pub atom_by : List ReadLocal → List ReadBinding → Token → Option Op → Result Term Refused
atom_by locals live t (Some o) = token_constant t.start o
atom_by locals live t None = name_or_other locals live t (symbol_of t)

-- the term that a token is
abbrev pub atom_term : List ReadLocal → Token → List ReadBinding → Result Term Refused
atom_term locals t live = atom_by locals live t (constant_by t.item t.text)

-- ---- `(_ bvX n)`: both are numerals, n is a width, and X is below 2^n

abbrev pub is_vector_name : Option Name → Bool
is_vector_name None = false
is_vector_name (Some n) = is_bit_vector_constant n && is_numeral (drop 2 n)

abbrev pub vector_of_width : ℕ → ℕ → ℕ → Result Term Refused
vector_of_width place x n =
    unless (n == 0) BadIndex place
    (unless (nat_lt most_bits n) WidthLimit place
    (unless (nat_le (2 ^ n) x) BadIndex place (Ok (apply (op (Bits n x)) no_terms))))

abbrev pub vector_constant_of : ℕ → Option Name → Option ℕ → Result Term Refused
vector_constant_of place (Some name) (Some n) =
    if is_vector_name (Some name) then vector_of_width place (vector_number name) n else at BadForm place
vector_constant_of place _ _ = at BadForm place

-- from what is behind the `_`
abbrev pub vector_constant : ℕ → Forms → Result Term Refused
vector_constant place (f ⨾ n ⨾ none) = vector_constant_of place (symbol_in f) (numeral_in n)
vector_constant place _ = at BadForm place

-- ---- heads

pub data Callee : Type 0 where
  written : Written → Callee
  -- the constant array of a sort
  array_of_sort : Sort → Callee
  called : Symbol → Callee
  defined : List Variable → Term → Callee
  -- what takes no operands
  operandless : Callee

-- an index is no greater than a numeral may be
abbrev pub indices_within : Forms → Callee → Result Callee Refused
indices_within none c = Ok c
indices_within (f ⨾ fs) c = unless (nat_lt greatest_number (unwrap_or (numeral_in f) 0)) NumberLimit (place_of f) (indices_within fs c)

-- the operator at its indices, where they are as many as it takes
abbrev pub written_at : ℕ → Forms → Option Written → Result Callee Refused
written_at place fs None = at BadForm place
written_at place fs (Some w) = indices_within fs (written w)

-- `true`, `false` and `const` take no index, `bvX` takes one
abbrev pub takes_no_index : Name → Bool
takes_no_index n = is_among (codes "true" ∷ codes "false" ∷ codes "const" ∷ []) n

abbrev pub constant_head : ℕ → Name → Forms → List ℕ → Result Callee Refused
constant_head place n fs [] = if takes_no_index n then Ok operandless else at BadForm place
constant_head place n fs (i ∷ []) = if is_bit_vector_constant n then indices_within fs operandless else at BadForm place
constant_head place n fs _ = at BadForm place

-- a name of the theories with indices, which are forms too
abbrev pub theory_head : ℕ → Name → Forms → List ℕ → Option Indexed → Result Callee Refused
theory_head place n fs indices (Some o) = written_at place fs (at_indices o indices)
theory_head place n fs indices None =
    if is_among real_names n then at RealSort place
    else (if is_theory_name n then constant_head place n fs indices
    else at UnknownName place)

-- a live name takes no index
abbrev pub live_head : ℕ → Name → Forms → List ℕ → Option Entry → Result Callee Refused
live_head place n fs indices None = theory_head place n fs indices (operator_named n)
live_head place n fs [] (Some (symbol_entry f)) = Ok (called f)
live_head place n fs [] (Some (definition_entry xs t)) = Ok (defined xs t)
live_head place n fs [] (Some (term_entry t)) = Ok operandless
live_head place n fs (i ∷ is) (Some entry) = at BadForm place

-- a name that is bound locally is no head
abbrev pub named_head : List ReadLocal → List ReadBinding → ℕ → Name → Forms → List ℕ → Result Callee Refused
named_head locals live place n fs indices =
    unless (is_some (bound_as locals n)) UnknownName place (live_head place n fs indices (entry_of live n))

-- `(_ name index ..)`
abbrev pub indexed_head : List ReadLocal → List ReadBinding → ℕ → Forms → Option Name → Option (List ℕ) → Result Callee Refused
indexed_head locals live place fs (Some n) (Some (i ∷ is)) = named_head locals live place n fs (i ∷ is)
indexed_head locals live place fs _ _ = at BadForm place

-- `(as const S)`
abbrev pub filling_head : List ReadBinding → ℕ → Forms → Result Callee Refused
filling_head live place (f ⨾ s ⨾ none) =
    if is_name (codes "const") (symbol_in f) then mapped array_of_sort (sort_in (live_sorts live) s) else at BadForm place
filling_head live place _ = at BadForm place

abbrev pub list_head : List ReadLocal → List ReadBinding → ℕ → Option Name → Forms → Result Callee Refused
list_head locals live place (Some w) (f ⨾ fs) =
    if bytes_eq w (codes "_") then indexed_head locals live place fs (symbol_in f) (numerals_in fs)
    else (if bytes_eq w (codes "as") then filling_head live place (f ⨾ fs)
    else at BadForm place)
list_head locals live place _ _ = at BadForm place

abbrev pub atom_head : List ReadLocal → List ReadBinding → ℕ → Option Name → Result Callee Refused
atom_head locals live place None = at BadForm place
atom_head locals live place (Some n) = named_head locals live place n none []

-- what the head of an application calls; its own faults are at its first byte
abbrev pub callee_of : List ReadLocal → Form → List ReadBinding → Result Callee Refused
callee_of locals (atom t) live = atom_head locals live t.start (symbol_of t)
callee_of locals (node place none) live = at BadForm place
callee_of locals (node place (f ⨾ fs)) live = list_head locals live place (word_in f) fs

-- ---- applications

abbrev pub term_width : Term → ℕ
term_width t = width (unwrap_or (sort_of t) bool)

-- terms, of which a unary minus over a constant is the constant
abbrev pub term_algebra : Algebra Term
term_algebra = record { make = λ o ts. made (op o) (terms ts); width_in = term_width }

abbrev pub operand_sorts : List Term → List Sort
operand_sorts ts = unwrap_or (sorts_of (terms ts)) []

-- the term where there is a rank
abbrev pub where_ranked : ℕ → Result Sort RankFault → Term → Result Term Refused
where_ranked place (Ok s) t = Ok t
where_ranked place (Err fault) t = at (cause_of fault) place

-- the constants that stand for the parameters of a definition from number i on
abbrev pub parameters_from : ℕ → List Variable → List Symbol
parameters_from i [] = []
parameters_from i (x ∷ xs) = parameter i x.sort ∷ parameters_from (suc i) xs

abbrev pub with_supply : Sofar → Term × Supply → Result (Term × Sofar) Refused
with_supply s r = Ok (r.0, record s { supply = r.1 })

-- a definition over its arguments, which take the places of its parameters
abbrev pub expanded : ℕ → List Variable → Term → List Term → Result Sort RankFault → Reading Term
expanded place xs t ts (Ok to) s = with_supply s (expand (parameters_from 0 xs) t ts s.supply)
expanded place xs t ts (Err fault) s = at (cause_of fault) place

-- the rank of a definition's arguments
abbrev pub rank_of_arguments : List Variable → List Term → Result Sort RankFault
rank_of_arguments xs ts = rank (symbol (record { name = []; args = map (λ x. x.sort) xs; result = bool })) (operand_sorts ts)

-- the application to operands that were read
abbrev pub applied : Callee → ℕ → List Term → Reading Term
applied (written w) place ts = by_rule (where_ranked place (written_rank w (operand_sorts ts)) (build term_algebra w ts))
applied (array_of_sort s) place ts = by_rule (where_ranked place (rank (const_array s) (operand_sorts ts)) (over (const_array s) ts))
applied (called f) place ts = by_rule (where_ranked place (rank (symbol f) (operand_sorts ts)) (over (symbol f) ts))
applied (defined xs t) place ts = expanded place xs t ts (rank_of_arguments xs ts)
applied operandless place ts = by_rule (at WrongArity place)
