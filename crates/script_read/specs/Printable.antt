-- Lists of commands that can be printed and read again: nothing that reading would refuse is among them. SMT-LIB 2.6,
-- sections 3.1 (symbols), 3.9 and 4.2.
use Rattle.std.specs.Prelude.{ℕ, ◌+◌, ◌-◌, ◌==◌, Bool, true, false, not, ◌&&◌, nat_le, List, [], ◌∷◌, length}
use Rattle.std.specs.List.{list_all}
use Rattle.smt_lex.specs.Lexicon.{bar, backslash}
use Rattle.smt_lex.specs.Names.{is_among, is_reserved_for_declaring, is_reserved_for_sorts}
use Rattle.smt_terms.specs.declared.op.Op.TheVariants.{Not}
use Rattle.smt_terms.specs.Free.{free, is_among as is_among_symbols, names_of}
use Rattle.smt_terms.specs.Rank.{is_sort, is_well_sorted}
use Rattle.smt_terms.specs.Shapes.{is_bool, is_clear}
use Rattle.smt_terms.specs.Sorts.{Name, Sort, bool, int, bit_vector, array, free_sort, Symbol}
use Rattle.smt_terms.specs.Term.{Head, op, symbol, const_array, Term, apply, quantified, Terms, none, ◌⨾◌}
use Rattle.script_terms.specs.Read.{has_sort}
use Rattle.script_read.specs.Commands.{Command, passed, declare_sort, declare, assert, check, check_assuming, push, pop, reset, reset_assertions, globals, exit, State, start, after, sorts_of_state, symbols_of_state}
use Rattle.script_read.specs.Outlines.{is_passed_text}
use Rattle.script_read.specs.Script.{most_levels}

-- ---- names and sorts

-- a name that can be written between bars
abbrev pub is_writable : Name → Bool
is_writable n = list_all (λ b. not (b == bar) && not (b == backslash)) n

-- a name that may be declared or quantified
abbrev pub is_usable : Name → Bool
is_usable n = is_writable n && not (is_reserved_for_declaring n)

-- the declared sorts in a sort are among these
abbrev pub sort_is_live : List Name → Sort → Bool
sort_is_live ns bool = true
sort_is_live ns int = true
sort_is_live ns (bit_vector w) = true
sort_is_live ns (array i e) = sort_is_live ns i && sort_is_live ns e
sort_is_live ns (free_sort n) = is_among ns n

-- ---- terms

abbrev pub head_sorts : Head → List Sort
head_sorts (op o) = []
head_sorts (symbol f) = f.result ∷ f.args
head_sorts (const_array s) = s ∷ []

abbrev mutual
  -- each sort in the term passes one test, and each quantified name another
  pub all_within : (Sort → Bool) → (Name → Bool) → Term → Bool
  all_within sorts names (apply h ts) = list_all sorts (head_sorts h) && all_within_each sorts names ts
  all_within sorts names (quantified q xs t) = list_all (λ x. sorts x.sort && names x.name) xs && all_within sorts names t

  pub all_within_each : (Sort → Bool) → (Name → Bool) → Terms → Bool
  all_within_each sorts names none = true
  all_within_each sorts names (t ⨾ ts) = all_within sorts names t && all_within_each sorts names ts

-- the free symbols of a term are live
abbrev pub symbols_are_live : State Term → Term → Bool
symbols_are_live s t = list_all (λ f. is_among_symbols (symbols_of_state s) f) (free t)

abbrev pub is_printable_term : State Term → Term → Bool
is_printable_term s t =
    is_well_sorted t && (is_clear t && (symbols_are_live s t && all_within (sort_is_live (sorts_of_state s)) is_usable t))

-- ---- literals: a live Boolean constant, or its negation

abbrev pub is_live_constant : State Term → Term → Bool
is_live_constant s (apply (symbol f) none) = is_bool f.result && (length f.args == 0 && is_among_symbols (symbols_of_state s) f)
is_live_constant s _ = false

abbrev pub is_live_literal : State Term → Term → Bool
is_live_literal s (apply (op Not) (t ⨾ none)) = is_live_constant s t
is_live_literal s t = is_live_constant s t

-- ---- commands

abbrev pub open_levels : State Term → ℕ
open_levels s = length s.levels - 1

abbrev pub is_new_sort : State Term → Name → Bool
is_new_sort s n = is_writable n && (not (is_reserved_for_sorts n) && not (is_among (sorts_of_state s) n))

abbrev pub is_new_symbol : State Term → Symbol → Bool
is_new_symbol s f =
    is_usable f.name
    && (not (is_among (names_of (symbols_of_state s)) f.name)
    && list_all (λ to. is_sort to && sort_is_live (sorts_of_state s) to) (f.result ∷ f.args))

-- the command may stand behind commands that lead to this state; begun says whether one of them fixed the options
abbrev pub may_stand : Bool → State Term → Command Term → Bool
may_stand begun s (passed text) = is_passed_text text
may_stand begun s (declare_sort n) = is_new_sort s n
may_stand begun s (declare f) = is_new_symbol s f
may_stand begun s (assert i t) = has_sort bool t && is_printable_term s t
may_stand begun s (check_assuming ls) = list_all (is_live_literal s) ls
may_stand begun s (push n) = nat_le n most_levels && nat_le (open_levels s + n) most_levels
may_stand begun s (pop n) = nat_le n most_levels && nat_le n (open_levels s)
may_stand begun s (globals b) = not begun
may_stand begun s check = true
may_stand begun s reset = true
may_stand begun s reset_assertions = true
may_stand begun s exit = true

-- whether the options are fixed behind the command
abbrev pub fixes : Bool → Command Term → Bool
fixes begun (passed text) = begun
fixes begun (globals b) = begun
fixes begun reset_assertions = begun
fixes begun exit = begun
fixes begun reset = false
fixes begun _ = true

-- `exit` stands last
abbrev pub may_be_followed : Command Term → List (Command Term) → Bool
may_be_followed exit (c ∷ cs) = false
may_be_followed _ cs = true

abbrev pub printable_from : Bool → State Term → List (Command Term) → Bool
printable_from begun s [] = true
printable_from begun s (c ∷ cs) = may_stand begun s c && (may_be_followed c cs && printable_from (fixes begun c) (after c s) cs)

abbrev pub printable : List (Command Term) → Bool
printable cs = printable_from false start cs
