-- The reading of sorted variables step by step, and the constants that are drawn for them.
use Rattle.std.specs.Prelude.{◌≡◌, ℕ, Bool, true, false, not, List, [], ◌∷◌, Result, Ok, Err}
use Rattle.smt_lex.specs.Lex.{Token}
use Rattle.smt_lex.specs.Names.{Name}
use Rattle.smt_lex.specs.Forms.{Form}
use Rattle.smt_terms.specs.Free.{name_among}
use Rattle.smt_terms.specs.Fresh.{Supply, after_draw, fresh_constant}
use Rattle.smt_terms.specs.Sorts.{Symbol, Variable}
use Rattle.smt_terms.specs.Term.{constant_of}
use Rattle.script_terms.specs.declared.causes.Cause.TheVariants.{QuantifiedSort}
use Rattle.script_terms.specs.declared.faults.Fault.{Fault}
use Rattle.script_terms.specs.Bound.{name_at}
use Rattle.script_terms.specs.Parts.{place_of, symbol_in}
use Rattle.script_terms.specs.Places.{form_from}
use Rattle.script_terms.specs.Refusals.{Refused, and_then, unless}
use Rattle.script_terms.specs.Replies.{refused_seen}
use Rattle.script_terms.specs.SortForms.{Sorts, sort_in}
use Rattle.script_terms.specs.Variables.{Binder, may_have, variable_of}

-- the same names in another order
abbrev pub SameNames : List Name → List Name → Type 0
SameNames ms ns = (n : Name) → name_among ms n ≡ name_among ns n

-- a new name with its sort
abbrev pub sorted_name : Binder → Sorts → Form → Name → Result Variable Refused
sorted_name b live f n = and_then (λ s. unless (not (may_have b s)) QuantifiedSort (place_of f) (Ok (record { name = n; sort = s }))) (sort_in live f)

-- the name of token i is new behind others of its list, or is refused, in a part of the list at this place
abbrev pub IsNewName : List Token → List Name → ℕ → ℕ → Result (Unit {0}) Fault → Type 0
IsNewName ts earlier part i (Ok _) =
    (b : Binder) (live : Sorts) (f : Form) → variable_of b live earlier part (place_of (form_from ts i)) f (symbol_in (form_from ts i)) ≡ sorted_name b live f (name_at ts i)
IsNewName ts earlier part i (Err e) =
    (b : Binder) (live : Sorts) (f : Form) → variable_of b live earlier part (place_of (form_from ts i)) f (symbol_in (form_from ts i)) ≡ Err (refused_seen e)

-- ---- constants

-- the constant that a variable is read as, and the names that are left: it has a fresh name where its own is taken
abbrev pub drawn_if : Bool → Variable → Supply → Symbol × Supply
drawn_if true x s = (fresh_constant x.sort s, after_draw s)
drawn_if false x s = (constant_of x, s)

abbrev pub drawn_for : (Name → Bool) → Variable → Supply → Symbol × Supply
drawn_for is_taken x s = drawn_if (is_taken x.name) x s

abbrev pub symbol_first : Symbol → List Symbol × Supply → List Symbol × Supply
symbol_first f r = (f ∷ r.0, r.1)

-- the same of a list, from the first to the last
abbrev pub all_drawn : (Name → Bool) → List Variable → Supply → List Symbol × Supply
all_drawn is_taken [] s = ([], s)
all_drawn is_taken (x ∷ xs) s = symbol_first (drawn_for is_taken x s).0 (all_drawn is_taken xs (drawn_for is_taken x s).1)
