-- The constants and the roots of a check, and the truth of the check in a model.
use Rattle.std.proofs.Common.{◌≡◌, ◌∙◌, sym, ap, refl, ℕ, Bool, true, false, List, [], ◌∷◌, map, All, Some, None, if◌then◌else◌}
use Rattle.std.proofs.lemmas.List.Elements.{All-nil, All-cons, All-filter, All-weaker, filter_passes}
use Rattle.std.proofs.lemmas.List.Folds.{list_all-append}
use Rattle.smt_terms.specs.declared.ids.SymId.{SymId}
use Rattle.smt_terms.specs.Equal.{symbol_eq}
use Rattle.smt_terms.specs.Free.{is_among}
use Rattle.smt_terms.specs.Models.{Model}
use Rattle.smt_terms.specs.Sorts.{Symbol}
use Rattle.smt_terms.specs.Term.{Term}
use Rattle.smt_terms.proofs.Equal.{Decides-symbol_eq}
use Rattle.smt_terms.proofs.Tests.{left_true, right_true}
use Rattle.term_table.specs.Formulas.{Formulas, IsSymbol}
use Rattle.script_read.specs.Commands.{Command, live, literals, signature}
use Rattle.script_read.specs.Printable.{printable}
use Rattle.script_read.specs.Satisfied.{sat}
use Rattle.models.specs.LiveTerms.{live_terms}
use Rattle.models.specs.LiveRoots.{roots, is_flag, flags}
use Rattle.models.proofs.LiveRoots.{roots_are}
use Rattle.dimacs_link.specs.AnswerModels.{AreFlags}
use Rattle.dimacs_link.specs.Checks.{first_other, unlinked_root}
use Rattle.dimacs_link.specs.Clauses.{is_clause}
use Rattle.dimacs_link.specs.Constants.{are_distinct, constants_at, AreConstants}
use Rattle.dimacs_link.specs.Laws.{holds, all_hold, AreClauses}
use Rattle.dimacs_link.proofs.DistinctSymbols.{signature_distinct, kept_distinct}

-- ---- the constants

abbrev IsAmong : List Symbol → Symbol → Type 0
IsAmong fs f = is_among fs f ≡ true

each_among : (fs : List Symbol) → All (λ f. is_among fs f ≡ true) fs
each_among [] = All-nil (IsAmong [])
each_among (f ∷ fs) =
    All-cons (IsAmong (f ∷ fs)) f fs
    (left_true (symbol_eq f f) (is_among fs f) ((Decides-symbol_eq f f).1 refl))
    (All-weaker (IsAmong fs) (IsAmong (f ∷ fs)) (λ g among. right_true (symbol_eq f g) (is_among fs g) among) fs (each_among fs))

pub flags_are : (cs : List (Command Term)) (k : ℕ) → AreFlags (signature cs k).symbols (flags cs k)
flags_are cs k = record {
  flags = filter_passes is_flag (signature cs k).symbols;
  among = All-filter is_flag (IsAmong (signature cs k).symbols) (signature cs k).symbols (each_among (signature cs k).symbols);
}

pub flags_distinct : (cs : List (Command Term)) (k : ℕ) → printable cs ≡ true → are_distinct (flags cs k) ≡ true
flags_distinct cs k h = kept_distinct is_flag (signature cs k).symbols (signature_distinct cs k h)

-- over a table
pub flags_constants : (t : Formulas) (fs : List SymId) (cs : List (Command Term)) (k : ℕ) → printable cs ≡ true → All (IsSymbol t) fs → constants_at t fs ≡ flags cs k → AreConstants t fs
flags_constants t fs cs k h symbols so = record { symbols = symbols; distinct = ap are_distinct so ∙ flags_distinct cs k h }

-- ---- the roots

abbrev IsClause : List Symbol → Term → Type 0
IsClause fs t = is_clause fs t ≡ true

none_other : (fs : List Symbol) (rs : List (Term × ℕ)) → first_other fs rs ≡ None → AreClauses fs (map (λ r. r.0) rs)
none_other fs [] none = All-nil (IsClause fs)
none_other fs (r ∷ rs) none = by (is_clause fs r.0) refl none (none_other fs rs)
  where
    by : (b : Bool) → is_clause fs r.0 ≡ b → (if b then first_other fs rs else Some r.1) ≡ None → (first_other fs rs ≡ None → AreClauses fs (map (λ q. q.0) rs)) → AreClauses fs (map (λ q. q.0) (r ∷ rs))
    by true here h below = All-cons (IsClause fs) r.0 (map (λ q. q.0) rs) here (below h)
    by false here h below = absurd cc

pub roots_clauses : (cs : List (Command Term)) (k : ℕ) → unlinked_root cs k ≡ None → AreClauses (flags cs k) (roots cs k)
roots_clauses cs k none = none_other (flags cs k) (live_terms cs k) none

pub roots_hold : (m : Model) (cs : List (Command Term)) (k : ℕ) → sat m cs k ≡ all_hold m (roots cs k)
roots_hold m cs k = sym (list_all-append (holds m) (live cs k) (literals cs k)) ∙ ap (all_hold m) (sym (roots_are cs k))
