-- The states behind commands that can be printed: each level's assertions are formulas over the symbols that are declared there or
-- below, and all symbols have usable names that are different. The supply gives none of their names.
use Rattle.std.proofs.Common.{◌≡◌, ◌∙◌, sym, ap, refl, subst, ℕ, zero, suc, Bool, true, false, not, ◌&&◌, List, [], ◌∷◌, ◌++◌, drop, replicate, append_assoc, append-nil, All}
use Rattle.std.specs.List.{list_all}
use Rattle.std.proofs.lemmas.List.Elements.{All-nil, All-cons, All-head, All-tail, All-append, All-push, All-weaker}
use Rattle.smt_lex.specs.Names.{is_among as is_among_names}
use Rattle.smt_terms.specs.Equal.{name_eq}
use Rattle.smt_terms.specs.Free.{is_among, name_among, names_of}
use Rattle.smt_terms.specs.Fresh.{Supply, NeverGives}
use Rattle.smt_terms.specs.Rank.{is_sort, are_distinct}
use Rattle.smt_terms.specs.Sorts.{Name, Symbol}
use Rattle.smt_terms.specs.SubstLaws.{GivesNone}
use Rattle.smt_terms.specs.Term.{Term}
use Rattle.smt_terms.proofs.Equal.{name_itself}
use Rattle.smt_terms.proofs.Tests.{both_true, left_true, not_true}
use Rattle.script_read.specs.Commands.{Command, passed, declare_sort, declare, assert, check, check_assuming, push, pop, reset, reset_assertions, globals, exit, Level, State, empty_level, start, throughout, on_latest, with_sort, with_symbol, with_assertion, with_declarations, folded, levels_popped, levels_emptied, after, sorts_of_state, symbols_of_state, live_in}
use Rattle.script_read.specs.Laws.{names_in_command}
use Rattle.script_read.specs.Printable.{is_usable, sort_is_live, is_new_symbol, may_stand}
use Rattle.bit_scripts.proofs.DistinctNames.{among_left, joined_distinct, left_distinct, others_than}
use Rattle.bit_scripts.proofs.LiveFormulas.{IsLiveFormula, with_more_live, assertion_live}

-- ---- symbols

abbrev IsUsable : Symbol → Type 0
IsUsable f = is_usable f.name ≡ true

abbrev IsSpared : Supply → Symbol → Type 0
IsSpared s f = NeverGives s f.name

-- symbols that can be declared one after the other, none of whose names the supply gives
pub record AreLive (s : Supply) (fs : List Symbol) : Type 0 where
  pub usable : All (λ f. is_usable f.name ≡ true) fs
  pub spared : All (λ f. NeverGives s f.name) fs
  pub distinct : are_distinct (names_of fs) ≡ true

pub none_live : (s : Supply) → AreLive s []
none_live s = record { usable = All-nil IsUsable; spared = All-nil (IsSpared s); distinct = refl }

All-left : (P : Symbol → Type 0) (fs gs : List Symbol) → All P (fs ++ gs) → All P fs
All-left P [] gs all = All-nil P
All-left P (f ∷ fs) gs all = All-cons P f fs (All-head P f (fs ++ gs) all) (All-left P fs gs (All-tail P f (fs ++ gs) all))

left_live : (s : Supply) (fs gs : List Symbol) → AreLive s (fs ++ gs) → AreLive s fs
left_live s fs gs live = record {
  usable = All-left IsUsable fs gs live.usable;
  spared = All-left (IsSpared s) fs gs live.spared;
  distinct = left_distinct fs gs live.distinct;
}

one_more_live : (s : Supply) (st : State Term) (f : Symbol) → AreLive s (symbols_of_state st) → is_new_symbol st f ≡ true → NeverGives s f.name → AreLive s (symbols_of_state st ++ f ∷ [])
one_more_live s st f live new never =
    let a = both_true (is_usable f.name) (not (is_among_names (names_of (symbols_of_state st)) f.name) && list_all (λ to. is_sort to && sort_is_live (sorts_of_state st) to) (f.result ∷ f.args)) new in
    let b = both_true (not (is_among_names (names_of (symbols_of_state st)) f.name)) (list_all (λ to. is_sort to && sort_is_live (sorts_of_state st) to) (f.result ∷ f.args)) a.1 in
    record {
      usable = All-push IsUsable (symbols_of_state st) f live.usable a.0;
      spared = All-push (IsSpared s) (symbols_of_state st) f live.spared never;
      distinct = joined_distinct (symbols_of_state st) (f ∷ []) live.distinct refl (others_than (symbols_of_state st) f (not_true (is_among_names (names_of (symbols_of_state st)) f.name) b.0));
    }

-- ---- levels

abbrev all_symbols : List (Level Term) → List Symbol
all_symbols ls = throughout (λ l. l.symbols) ls

kept_symbols : (change : Level Term → Level Term) → ((l : Level Term) → (change l).symbols ≡ l.symbols) → (ls : List (Level Term)) → all_symbols (on_latest change ls) ≡ all_symbols ls
kept_symbols change same [] = same empty_level
kept_symbols change same (l ∷ ls) = ap (λ fs. all_symbols ls ++ fs) (same l)

declared_symbols : (f : Symbol) (ls : List (Level Term)) → all_symbols (on_latest (with_symbol f) ls) ≡ all_symbols ls ++ f ∷ []
declared_symbols f [] = refl
declared_symbols f (l ∷ ls) = sym (append_assoc (all_symbols ls) l.symbols (f ∷ []))

pushed_symbols : (n : ℕ) (ls : List (Level Term)) → all_symbols (replicate n empty_level ++ ls) ≡ all_symbols ls
pushed_symbols zero ls = refl
pushed_symbols (suc n) ls = append-nil (all_symbols (replicate n empty_level ++ ls)) ∙ pushed_symbols n ls

folded_symbols : (n : ℕ) (ls : List (Level Term)) → all_symbols (folded n ls) ≡ all_symbols ls
folded_symbols zero ls = refl
folded_symbols (suc n) [] = refl
folded_symbols (suc n) (l ∷ []) = refl
folded_symbols (suc n) (k ∷ l ∷ ls) = folded_symbols n (with_declarations k l ∷ ls) ∙ sym (append_assoc (all_symbols ls) l.symbols k.symbols)

module _ (s : Supply) where
  -- each level's assertions are formulas over the symbols of this level and of those below it
  abbrev LevelsFit : List (Level Term) → Type 0
  LevelsFit [] = Unit {0}
  LevelsFit (l ∷ ls) = All (IsLiveFormula s (all_symbols (l ∷ ls))) l.asserted × LevelsFit ls

  abbrev EmptyFits : List (Level Term) → Type 0
  EmptyFits ls = All (IsLiveFormula s (all_symbols (empty_level ∷ ls))) []

  empty_fits : (ls : List (Level Term)) → EmptyFits ls
  empty_fits ls = All-nil (IsLiveFormula s (all_symbols (empty_level ∷ ls)))

  -- ---- what commands leave of assertions

  sort_fits : (n : Name) (ls : List (Level Term)) → LevelsFit ls → LevelsFit (on_latest (with_sort n) ls)
  sort_fits n [] fit = (empty_fits [], tt)
  sort_fits n (l ∷ ls) fit = fit

  symbol_fits : (f : Symbol) (ls : List (Level Term)) → LevelsFit ls → LevelsFit (on_latest (with_symbol f) ls)
  symbol_fits f [] fit = (All-nil (IsLiveFormula s (all_symbols (with_symbol f empty_level ∷ []))), tt)
  symbol_fits f (l ∷ ls) fit = (
    All-weaker (IsLiveFormula s (all_symbols (l ∷ ls))) (IsLiveFormula s (all_symbols (with_symbol f l ∷ ls)))
        (with_more_live s (all_symbols (l ∷ ls)) (all_symbols (with_symbol f l ∷ ls))
        (λ g among. ap (λ fs. is_among fs g) (declared_symbols f (l ∷ ls)) ∙ among_left (all_symbols (l ∷ ls)) (f ∷ []) g among))
        l.asserted fit.0,
    fit.1,
  )

  assertion_fits : (t : Term) (ls : List (Level Term)) → IsLiveFormula s (all_symbols ls) t → LevelsFit ls → LevelsFit (on_latest (with_assertion t) ls)
  assertion_fits t [] formula fit = (All-push (IsLiveFormula s []) [] t (All-nil (IsLiveFormula s [])) formula, tt)
  assertion_fits t (l ∷ ls) formula fit = (All-push (IsLiveFormula s (all_symbols (l ∷ ls))) l.asserted t fit.0 formula, fit.1)

  pushed_fit : (n : ℕ) (ls : List (Level Term)) → LevelsFit ls → LevelsFit (replicate n empty_level ++ ls)
  pushed_fit zero ls fit = fit
  pushed_fit (suc n) ls fit = (empty_fits (replicate n empty_level ++ ls), pushed_fit n ls fit)

  dropped_fit : (n : ℕ) (ls : List (Level Term)) → LevelsFit ls → LevelsFit (drop n ls)
  dropped_fit zero ls fit = fit
  dropped_fit (suc n) [] fit = tt
  dropped_fit (suc n) (l ∷ ls) fit = dropped_fit n ls fit.1

  folded_fit : (n : ℕ) (ls : List (Level Term)) → LevelsFit ls → LevelsFit (folded n ls)
  folded_fit zero ls fit = fit
  folded_fit (suc n) [] fit = tt
  folded_fit (suc n) (l ∷ []) fit = fit
  folded_fit (suc n) (k ∷ l ∷ ls) fit =
      folded_fit n (with_declarations k l ∷ ls) (
        All-weaker (IsLiveFormula s (all_symbols (l ∷ ls))) (IsLiveFormula s (all_symbols (with_declarations k l ∷ ls)))
            (with_more_live s (all_symbols (l ∷ ls)) (all_symbols (with_declarations k l ∷ ls))
            (λ g among. ap (λ fs. is_among fs g) (sym (append_assoc (all_symbols ls) l.symbols k.symbols)) ∙ among_left (all_symbols (l ∷ ls)) k.symbols g among))
            l.asserted fit.1.0,
        fit.1.1,
      )

  popped_fit : (global : Bool) (n : ℕ) (ls : List (Level Term)) → LevelsFit ls → LevelsFit (levels_popped global n ls)
  popped_fit true n ls fit = folded_fit n ls fit
  popped_fit false n ls fit = dropped_fit n ls fit

  emptied_fit : (global : Bool) (ls : List (Level Term)) → LevelsFit (levels_emptied global ls)
  emptied_fit true ls = (All-nil (IsLiveFormula s (all_symbols ls)), tt)
  emptied_fit false ls = (empty_fits [], tt)

  -- all that is asserted
  asserted_live : (ls : List (Level Term)) → LevelsFit ls → All (IsLiveFormula s (all_symbols ls)) (throughout (λ l. l.asserted) ls)
  asserted_live [] fit = All-nil (IsLiveFormula s [])
  asserted_live (l ∷ ls) fit =
      All-append (IsLiveFormula s (all_symbols (l ∷ ls))) (throughout (λ k. k.asserted) ls) l.asserted
      (All-weaker (IsLiveFormula s (all_symbols ls)) (IsLiveFormula s (all_symbols (l ∷ ls)))
      (with_more_live s (all_symbols ls) (all_symbols (l ∷ ls)) (λ g among. among_left (all_symbols ls) l.symbols g among)) (throughout (λ k. k.asserted) ls) (asserted_live ls fit.1))
      fit.0

  -- ---- what they leave of symbols

  dropped_live : (n : ℕ) (ls : List (Level Term)) → AreLive s (all_symbols ls) → AreLive s (all_symbols (drop n ls))
  dropped_live zero ls live = live
  dropped_live (suc n) [] live = live
  dropped_live (suc n) (l ∷ ls) live = dropped_live n ls (left_live s (all_symbols ls) l.symbols live)

  popped_live : (global : Bool) (n : ℕ) (ls : List (Level Term)) → AreLive s (all_symbols ls) → AreLive s (all_symbols (levels_popped global n ls))
  popped_live true n ls live = subst (AreLive s) (sym (folded_symbols n ls)) live
  popped_live false n ls live = dropped_live n ls live

  emptied_live : (global : Bool) (ls : List (Level Term)) → AreLive s (all_symbols ls) → AreLive s (all_symbols (levels_emptied global ls))
  emptied_live true ls live = live
  emptied_live false ls live = none_live s

  -- ---- states

  pub record Fits (st : State Term) : Type 0 where
    levels : LevelsFit st.levels
    pub symbols : AreLive s (symbols_of_state st)

  pub start_fits : Fits start
  start_fits = record { levels = (empty_fits [], tt); symbols = none_live s }

  pub live_fits : (st : State Term) → Fits st → All (IsLiveFormula s (symbols_of_state st)) (live_in st)
  live_fits st fits = asserted_live st.levels fits.levels

  pub after_fits : (begun : Bool) (c : Command Term) (st : State Term) → may_stand begun st c ≡ true → GivesNone s (names_in_command c) → Fits st → Fits (after c st)
  after_fits begun (declare_sort n) st h names fits = record {
    levels = sort_fits n st.levels fits.levels;
    symbols = subst (AreLive s) (sym (kept_symbols (with_sort n) (λ l. refl) st.levels)) fits.symbols;
  }
  after_fits begun (declare f) st h names fits = record {
    levels = symbol_fits f st.levels fits.levels;
    symbols = subst (AreLive s) (sym (declared_symbols f st.levels)) (one_more_live s st f fits.symbols h (names f.name (left_true (name_eq f.name f.name) (name_among [] f.name) (name_itself f.name))));
  }
  after_fits begun (assert i t) st h names fits = record {
    levels = assertion_fits t st.levels (assertion_live s begun st i t h names) fits.levels;
    symbols = subst (AreLive s) (sym (kept_symbols (with_assertion t) (λ l. refl) st.levels)) fits.symbols;
  }
  after_fits begun (push n) st h names fits = record {
    levels = pushed_fit n st.levels fits.levels;
    symbols = subst (AreLive s) (sym (pushed_symbols n st.levels)) fits.symbols;
  }
  after_fits begun (pop n) st h names fits = record { levels = popped_fit st.global n st.levels fits.levels; symbols = popped_live st.global n st.levels fits.symbols }
  after_fits begun reset_assertions st h names fits = record { levels = emptied_fit st.global st.levels; symbols = emptied_live st.global st.levels fits.symbols }
  after_fits begun reset st h names fits = start_fits
  after_fits begun (globals b) st h names fits = record { levels = fits.levels; symbols = fits.symbols }
  after_fits begun (passed text) st h names fits = fits
  after_fits begun check st h names fits = fits
  after_fits begun (check_assuming ls) st h names fits = fits
  after_fits begun exit st h names fits = fits
