-- States without what they assert: a command leads from states that declare the same to states that declare the same, and
-- whether a command may stand hangs on what is declared alone.
use Rattle.std.proofs.Common.{◌≡◌, ◌∙◌, sym, ap, refl, ℕ, ◌+◌, ◌-◌, Bool, true, false, not, ◌&&◌, List, [], ◌∷◌, ◌++◌, length, replicate}
use Rattle.std.specs.Prelude.{nat_le, ◌==◌}
use Rattle.std.specs.List.{list_all}
use Rattle.std.proofs.lemmas.List.{length-map}
use Rattle.smt_lex.specs.Names.{is_among, is_reserved_for_sorts}
use Rattle.smt_terms.specs.declared.op.Op.TheVariants.{Not}
use Rattle.smt_terms.specs.Free.{is_among as is_among_symbols, names_of}
use Rattle.smt_terms.specs.Rank.{is_sort}
use Rattle.smt_terms.specs.Shapes.{is_bool}
use Rattle.smt_terms.specs.Term.{op, symbol, const_array, Term, apply, quantified, none, ◌⨾◌}
use Rattle.script_read.specs.Commands.{Command, passed, declare_sort, declare, assert, check, check_assuming, push, pop, reset, reset_assertions, globals, exit, Level, State, empty_level, start, throughout, on_latest, with_sort, with_symbol, with_assertion, levels_popped, levels_emptied, with_levels, after, sorts_of_state, symbols_of_state}
use Rattle.script_read.specs.Printable.{is_writable, is_usable, sort_is_live, is_live_constant, is_live_literal, may_stand}
use Rattle.script_read.specs.Script.{most_levels}
use Rattle.script_read.proofs.ShownLevels.{bare_level, bare_levels, bare_sort, bare_symbol, bare_pushed, bare_popped, bare_sorts, bare_symbols, bare_emptied}

abbrev pub asserts_nothing : Command Term → Bool
asserts_nothing (assert i t) = false
asserts_nothing _ = true

-- ---- states without what they assert

abbrev pub Outline : Type 0
Outline = State (Unit {0})

abbrev pub outline : State Term → Outline
outline s = record { levels = bare_levels s.levels; global = s.global }

-- an assertion opens a level where there is none, and that is all
abbrev outline_after : Command Term → Outline → Outline
outline_after (declare_sort n) s = with_levels s (on_latest (with_sort n) s.levels)
outline_after (declare f) s = with_levels s (on_latest (with_symbol f) s.levels)
outline_after (assert i a) s = with_levels s (on_latest (λ l. l) s.levels)
outline_after (push n) s = with_levels s (replicate n empty_level ++ s.levels)
outline_after (pop n) s = with_levels s (levels_popped s.global n s.levels)
outline_after reset_assertions s = with_levels s (levels_emptied s.global s.levels)
outline_after reset s = start
outline_after (globals b) s = record { levels = s.levels; global = b }
outline_after _ s = s

bare_assertion : (a : Term) (ls : List (Level Term)) → bare_levels (on_latest (with_assertion a) ls) ≡ on_latest (λ l. l) (bare_levels ls)
bare_assertion a [] = refl
bare_assertion a (l ∷ ls) = refl

after_outline : (c : Command Term) (s : State Term) → outline (after c s) ≡ outline_after c (outline s)
after_outline (declare_sort n) s = ap (with_levels (outline s)) (bare_sort n s.levels)
after_outline (declare f) s = ap (with_levels (outline s)) (bare_symbol f s.levels)
after_outline (assert i a) s = ap (with_levels (outline s)) (bare_assertion a s.levels)
after_outline (push n) s = ap (with_levels (outline s)) (bare_pushed n s.levels)
after_outline (pop n) s = ap (with_levels (outline s)) (bare_popped s.global n s.levels)
after_outline reset_assertions s = ap (with_levels (outline s)) (bare_emptied s.global s.levels)
after_outline _ s = refl

pub same_after : (c : Command Term) (s t : State Term) → outline s ≡ outline t → outline (after c s) ≡ outline (after c t)
same_after c s t h = after_outline c s ∙ ap (outline_after c) h ∙ sym (after_outline c t)

-- whatever is asserted
pub asserted_after : (i : ℕ) (a b : Term) (s t : State Term) → outline s ≡ outline t → outline (after (assert i a) s) ≡ outline (after (assert i b) t)
asserted_after i a b s t h = after_outline (assert i a) s ∙ ap (outline_after (assert i a)) h ∙ sym (after_outline (assert i b) t)

-- ---- what may stand

-- the same sorts and symbols, and as many levels
pub record DeclareTheSame (s t : State Term) : Type 0 where
  pub sorts : sorts_of_state s ≡ sorts_of_state t
  pub symbols : symbols_of_state s ≡ symbols_of_state t
  pub levels : length s.levels ≡ length t.levels

pub declare_the_same : (s t : State Term) → outline s ≡ outline t → DeclareTheSame s t
declare_the_same s t h = record {
  sorts = sym (bare_sorts s.levels) ∙ ap (λ r. throughout (λ l. l.sorts) r.levels) h ∙ bare_sorts t.levels;
  symbols = sym (bare_symbols s.levels) ∙ ap (λ r. throughout (λ l. l.symbols) r.levels) h ∙ bare_symbols t.levels;
  levels = sym (length-map s.levels bare_level) ∙ ap (λ r. length r.levels) h ∙ length-map t.levels bare_level;
}

module _ (s t : State Term) (h : DeclareTheSame s t) where
  constant_alike : (u : Term) → is_live_constant s u ≡ is_live_constant t u
  constant_alike (apply (symbol f) none) = ap (λ fs. is_bool f.result && (length f.args == 0 && is_among_symbols fs f)) h.symbols
  constant_alike (apply (symbol f) (u ⨾ us)) = refl
  constant_alike (apply (op o) us) = refl
  constant_alike (apply (const_array a) us) = refl
  constant_alike (quantified q xs u) = refl

  literal_alike : (u : Term) → is_live_literal s u ≡ is_live_literal t u
  literal_alike (apply (op Not) (u ⨾ none)) = constant_alike u
  literal_alike u = constant_alike u

  literals_alike : (us : List Term) → list_all (is_live_literal s) us ≡ list_all (is_live_literal t) us
  literals_alike [] = refl
  literals_alike (u ∷ us) = λ i. literal_alike u i && literals_alike us i

  pub stands_alike : (begun : Bool) (c : Command Term) → asserts_nothing c ≡ true → may_stand begun s c ≡ may_stand begun t c
  stands_alike begun (passed text) is = refl
  stands_alike begun (declare_sort n) is = ap (λ ns. is_writable n && (not (is_reserved_for_sorts n) && not (is_among ns n))) h.sorts
  stands_alike begun (declare f) is = λ i. is_usable f.name && (not (is_among (names_of (h.symbols i)) f.name) && list_all (λ to. is_sort to && sort_is_live (h.sorts i) to) (f.result ∷ f.args))
  stands_alike begun (assert i u) is = absurd cc
  stands_alike begun check is = refl
  stands_alike begun (check_assuming us) is = literals_alike us
  stands_alike begun (push n) is = ap (λ k. nat_le n most_levels && nat_le (k - 1 + n) most_levels) h.levels
  stands_alike begun (pop n) is = ap (λ k. nat_le n most_levels && nat_le n (k - 1)) h.levels
  stands_alike begun reset is = refl
  stands_alike begun reset_assertions is = refl
  stands_alike begun (globals b) is = refl
  stands_alike begun exit is = refl
