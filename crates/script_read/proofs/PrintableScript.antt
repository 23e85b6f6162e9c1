-- The commands of an accepted text can be printed: live bindings show the levels of the state, and nothing that reading
-- would refuse is among the commands.
use Rattle.std.proofs.Common.{◌≡◌, ◌∙◌, sym, ap, subst, refl, ℕ, suc, ◌+◌, ◌≤◌, ◌==◌, Bool, true, false, not, cond, ◌&&◌, ◌||◌, List, [], ◌∷◌, ◌++◌, length, replicate, Option, Some, None, Result, Ok, Err, arith}
use Rattle.std.specs.Prelude.{⊤, nat_lt, nat_le, is_some, option_map, codes, count_by}
use Rattle.std.specs.List.{list_all}
use Rattle.std.proofs.lemmas.Bool.{ltb-false, false_from_ne_true}
use Rattle.std.proofs.lemmas.List.{length-map}
use Rattle.smt_lex.specs.Names.{Name, is_among, is_reserved_for_declaring, is_reserved_for_sorts}
use Rattle.smt_lex.specs.Lex.{Fault, symbol_of}
use Rattle.smt_lex.specs.Forms.{Form, atom, node, Forms, none, ◌⨾◌, forms_to_exit}
use Rattle.smt_lex.specs.FormText.{form_text}
use Rattle.smt_terms.specs.Connectives.{negated}
use Rattle.smt_terms.specs.Equal.{sort_eq, symbol_eq}
use Rattle.smt_terms.specs.Free.{is_among as is_among_symbols, name_among, names_of, free}
use Rattle.smt_terms.specs.Fresh.{Supply}
use Rattle.smt_terms.specs.Rank.{is_sort, sort_of, is_regular, is_well_sorted}
use Rattle.smt_terms.specs.Shapes.{is_bool, is_clear_below, is_clear}
use Rattle.smt_terms.specs.Sorts.{Sort, bool, free_sort, Symbol, Variable}
use Rattle.smt_terms.specs.Term.{Term, constant}
use Rattle.smt_terms.proofs.ClearTerms.{Apart, free_distinct}
use Rattle.smt_terms.proofs.Equal.{Decides-sort_eq, symbol_itself, name_itself}
use Rattle.smt_terms.proofs.Ranked.{le_true}
use Rattle.smt_terms.proofs.Tests.{and_true, both_true, left_true, right_true, both_false, contrary}
use Rattle.script_terms.specs.declared.causes.Cause.{Cause}
use Rattle.script_terms.specs.declared.causes.Cause.TheVariants.{BadForm, Redeclared, ReservedName, PopTooFar, NumberLimit, SortArity, UnsupportedOption}
use Rattle.script_read.specs.Commands.{Command, declare_sort, check_assuming, pop, reset, reset_assertions, globals, exit, Level, State, empty_level, start, levels_popped, levels_emptied, throughout, on_latest, with_sort, with_symbol, with_assertion, after, sorts_of_state, symbols_of_state}
use Rattle.script_read.specs.Laws.{ReadScriptsArePrintable}
use Rattle.script_read.specs.Outlines.{At, Outline, passing, global_option, sort_declaration, sort_definition, symbol_declaration, symbol_definition, assertion, checking, assuming, pushing, popping, resetting, resetting_assertions, ending, levels_written, outline, is_passed_text}
use Rattle.script_terms.specs.Parts.{place_of, symbol_in, is_name}
use Rattle.script_read.specs.Printable.{is_writable, is_usable, sort_is_live, all_within, symbols_are_live, is_printable_term, is_live_constant, is_live_literal, open_levels as levels_open, may_stand, fixes, may_be_followed, printable_from, printable}
use Rattle.script_terms.specs.Read.{is_of_sort, has_sort, read}
use Rattle.script_terms.specs.Reading.{ReadBinding, sort_known, is_level_known, live_sorts, Entry, symbol_entry, definition_entry, term_entry, entry_of}
use Rattle.script_terms.specs.Refusals.{Refused, and_then, unless, mapped, given}
use Rattle.script_read.specs.Scenes.{seen_command}
use Rattle.script_terms.specs.Scope.{popped, emptied}
use Rattle.script_read.specs.Script.{Standing, Step, live_of, begun_with, declarable, sort_declarable, declares_sort, without_parameters, defines_sort, declares, symbol_of_sorts, declares_symbol, body_context, defined_with, of_sort, read_body, defines_symbol, no_context, asserted_with, asserts, boolean_constant, constant_entry, declared_constant, literal, literals_in, assumes, most_levels, open_levels, place_or, pushed_unless, pops, truth_in, sets_globals, step, read_command, numbered, behind, read_commands, first_standing, read_forms}
use Rattle.script_terms.specs.TextNames.{names_with_all}
use Rattle.script_terms.specs.SortForms.{sort_in, sorts_in}
use Rattle.script_terms.specs.Variables.{definition_binder, variables_in}
use Rattle.script_read.proofs.Agreement.{numbered_ok, read_ok}
use Rattle.script_read.proofs.ClearReads.{AllClear, declared_apart, ClearRead, form_clear}
use Rattle.script_read.proofs.ClearScript.{StepClear, command_clear, nothing_clear}
use Rattle.script_read.proofs.Defining.{nothing_ready}
use Rattle.script_terms.proofs.NameFacts.{Within, AllWithin}
use Rattle.script_read.proofs.Fitting.{declared_of, Sound}
use Rattle.script_read.proofs.FormTexts.{IsWritten, AreWritten}
use Rattle.script_read.proofs.LastExit.{ExitsLast, text_exits_last}
use Rattle.script_read.proofs.LiveSorts.{sort_live, sorts_live, variables_are_usable}
use Rattle.script_terms.proofs.NameFacts.{all_within_text}
use Rattle.script_read.proofs.OutlineFacts.{is_exit_form, OutlineTold, outline_told, passed_again}
use Rattle.script_terms.proofs.Outcomes.{and_then_ok, mapped_ok, given_ok, ok_same}
use Rattle.script_read.proofs.Paired.{Stands, sound_of, OutlineWithin, outline_within, of_sort_sorted, gone_ok, command_goes, first_stands}
use Rattle.script_read.proofs.RegularReads.{RegularRead, form_regular, nothing_regular}
use Rattle.script_read.proofs.RegularStanding.{sorts_fine}
use Rattle.script_read.proofs.ShownLevels.{Bare, bare_levels, levels_of, levels_some, levels_length, bare_sort, bare_symbol, bare_pushed, bare_popped, bare_emptied, bare_sorts, bare_symbols, levels_opened, levels_of_popped, levels_of_emptied, known_sorts, known_symbols, is_own, with_sort_if, name_last_if, sorts_known, symbols_known, known_live, named_live, declared_known, entry_known}
use Rattle.script_read.proofs.Shown.{scene_of, of_sort_ok}
use Rattle.script_terms.proofs.SortFacts.{sort_fine}
use Rattle.script_read.proofs.TermsMean.{ok_on}
use Rattle.script_read.proofs.UsableBindings.{IsUsableTerm, AllUsable, sorts_usable, usable_opened, usable_popped, usable_emptied}
use Rattle.script_read.proofs.UsableReads.{sorts_at, Kept, same_sorts, UsableRead, sorts_kept, form_usable, parameters_usable, nothing_usable}
use Rattle.script_read.proofs.WritableText.{NamesFit, text_names, text_written}

-- ---- live bindings that show a state

-- begun says whether one of the printed commands fixed the options
record Tracked (begun : Bool) (st : State Term) (s : Standing) : Type 0 where
  levels : bare_levels st.levels ≡ levels_of s.sofar.live
  global : st.global ≡ s.global
  begun_too : begun ≡ true → s.begun ≡ true
  usable : AllUsable s.sofar.live

-- the command of a form, if there is one, may stand there
abbrev Led : Form → Bool → State Term → List (Command Term) → Standing → Type 0
Led f begun st [] s = Tracked begun st s
Led f begun st (c ∷ []) s = (may_stand begun st c ≡ true) × (c ≡ exit → is_exit_form f ≡ true) × Tracked (fixes begun c) (after c st) s
Led f begun st (c ∷ d ∷ cs) s = ⊥

abbrev StepLed : Form → Bool → State Term → Step → Type 0
StepLed f begun st (Ok r) = Led f begun st r.0 r.1
StepLed f begun st (Err e) = ⊤

unless_led : (f : Form) (begun : Bool) (st : State Term) (test : Bool) (cause : Cause) (place : ℕ) (r : Step) → (test ≡ false → StepLed f begun st r) → StepLed f begun st (unless test cause place r)
unless_led f begun st true cause place r h = tt
unless_led f begun st false cause place r h = h refl

then_led : {A : Type 0} (f : Form) (begun : Bool) (st : State Term) (k : A → Step) (r : Result A Refused) → ((a : A) → r ≡ Ok a → StepLed f begun st (k a)) → StepLed f begun st (and_then k r)
then_led f begun st k (Ok a) h = h a refl
then_led f begun st k (Err e) h = tt

mapped_led : {A : Type 0} (f : Form) (begun : Bool) (st : State Term) (k : A → List (Command Term) × Standing) (r : Result A Refused) → ((a : A) → r ≡ Ok a → Led f begun st (k a).0 (k a).1) → StepLed f begun st (mapped k r)
mapped_led f begun st k (Ok a) h = h a refl
mapped_led f begun st k (Err e) h = tt

-- ---- what the state has

module _ (begun : Bool) (st : State Term) (s : Standing) (tracked : Tracked begun st s) where
  abbrev live_now : List ReadBinding
  live_now = s.sofar.live

  state_sorts : sorts_of_state st ≡ sorts_known live_now
  state_sorts = sym (bare_sorts st.levels) ∙ ap (throughout (λ l. l.sorts)) tracked.levels ∙ known_sorts live_now

  state_symbols : symbols_of_state st ≡ symbols_known live_now
  state_symbols = sym (bare_symbols st.levels) ∙ ap (throughout (λ l. l.symbols)) tracked.levels ∙ known_symbols live_now

  state_open : count_by is_level_known live_now ≡ levels_open st
  state_open =
      let a : length (bare_levels st.levels) ≡ length st.levels = length-map st.levels _ in
      let b : length (bare_levels st.levels) ≡ length (levels_of live_now) = ap length tracked.levels in
      let c = levels_length live_now in
      omega (arith, a, b, c)

  kept_now : Kept (levels_of live_now) live_now
  kept_now = record { shown = refl; usable = tracked.usable }

  sorts_here : sorts_at (levels_of live_now) ≡ sorts_of_state st
  sorts_here = known_sorts live_now ∙ sym state_sorts

  live_here : (r : Sort) → sort_is_live (sorts_known live_now) r ≡ true → sort_is_live (sorts_of_state st) r ≡ true
  live_here r h = ap (λ ns. sort_is_live ns r) state_sorts ∙ h

-- behind a command that changes neither bindings nor the state
same_tracked : (begun : Bool) (st : State Term) (s : Standing) → Tracked begun st s → Tracked true st (begun_with s (live_of s))
same_tracked begun st s tracked = record { levels = tracked.levels; global = tracked.global; begun_too = λ h. refl; usable = tracked.usable }

-- ---- lists of what passes

all_among : (test : Symbol → Bool) (fs : List Symbol) → ((g : Symbol) → is_among_symbols fs g ≡ true → test g ≡ true) → list_all test fs ≡ true
all_among test [] h = refl
all_among test (f ∷ fs) h =
    and_true (test f) (list_all test fs) (h f (left_true (symbol_eq f f) (is_among_symbols fs f) (symbol_itself f))) (all_among test fs (λ g among. h g (right_true (symbol_eq f g) (is_among_symbols fs g) among)))

both_all : (test other : Sort → Bool) (ss : List Sort) → list_all test ss ≡ true → list_all other ss ≡ true → list_all (λ to. test to && other to) ss ≡ true
both_all test other [] h k = refl
both_all test other (s ∷ ss) h k =
    let a = both_true (test s) (list_all test ss) h in
    let b = both_true (other s) (list_all other ss) k in
    and_true (test s && other s) (list_all (λ to. test to && other to) ss) (and_true (test s) (other s) a.0 b.0) (both_all test other ss a.1 b.1)

among_last : (ns : List Name) (n : Name) → is_among (ns ++ n ∷ []) n ≡ true
among_last [] n = left_true _ false (name_itself n)
among_last (k ∷ ns) n = right_true _ (is_among (ns ++ n ∷ []) n) (among_last ns n)

own_sort : (n : Name) → is_own n (free_sort n) ≡ true
own_sort n = (Decides-sort_eq (free_sort n) (free_sort n)).1 refl

assertion_bare : (t : Term) (ls : List (Level Term)) (bs : List ReadBinding) → bare_levels ls ≡ levels_of bs → bare_levels (on_latest (with_assertion t) ls) ≡ levels_of bs
assertion_bare t [] bs h = absurd (let some = levels_some bs in omega (arith, some, ap length h))
assertion_bare t (l ∷ ls) bs h = h

at_most : (m n : ℕ) → nat_lt m n ≡ false → nat_le n m ≡ true
at_most m n h = le_true n m (ltb-false m n h)

-- ---- steps

module _ (ns : List Name) (fit : NamesFit ns) (f : Form) (begun : Bool) (st : State Term) (s : Standing) (stands : Stands ns s) (all : AllClear s.sofar.live) (tracked : Tracked begun st s) where
  abbrev live_before : List ReadBinding
  live_before = s.sofar.live

  abbrev levels_before : List Bare
  levels_before = levels_of s.sofar.live

  sound : Sound ns (declared_of s.sofar.live) s.sofar
  sound = sound_of ns s stands

  kept : Kept (levels_of s.sofar.live) s.sofar.live
  kept = kept_now begun st s tracked

  -- ---- assertions

  symbols_live : (t : Term) → ((g : Symbol) → is_among_symbols (free t) g ≡ true → is_among_symbols (declared_of live_before) g ≡ true) → symbols_are_live st t ≡ true
  symbols_live t within = all_among (λ g. is_among_symbols (symbols_of_state st) g) (free t) (λ g among. ap (λ fs. is_among_symbols fs g) (state_symbols begun st s tracked) ∙ declared_known live_before g (within g among))

  asserts_led : (g : Form) → Within ns g → StepLed f begun st (asserts g s)
  asserts_led g within =
      mapped_led f begun st (asserted_with s) (of_sort bool (place_of g) (read g no_context s.sofar)) (λ p h.
      let is : read g no_context s.sofar ≡ Ok p = of_sort_ok bool (place_of g) (read g no_context s.sofar) p h in
      let apart : Apart (declared_of live_before) = declared_apart live_before all in
      let regular : RegularRead p = ok_on (read g no_context s.sofar) RegularRead p (form_regular g ns within no_context s.sofar nothing_regular stands.rules) is in
      let clear : ClearRead (declared_of live_before) p = ok_on (read g no_context s.sofar) (ClearRead (declared_of live_before)) p (form_clear g ns (declared_of live_before) within no_context s.sofar (nothing_ready ns (declared_of live_before) s.sofar sound) (nothing_clear (declared_of live_before) apart) all) is in
      let usable : UsableRead ns fit levels_before p = ok_on (read g no_context s.sofar) (UsableRead ns fit levels_before) p (form_usable ns fit levels_before g within no_context s.sofar (nothing_usable ns fit levels_before) kept) is in
      let sort : sort_of p.0 ≡ Some bool = of_sort_sorted bool (place_of g) (read g no_context s.sofar) p h in
      let sorted : is_well_sorted p.0 ≡ true = and_true (is_some (sort_of p.0)) (is_regular p.0) (ap is_some sort) regular.rules in
      let names : is_clear p.0 ≡ true = and_true (is_clear_below [] p.0) _ clear.term.clear (free_distinct (declared_of live_before) p.0 apart clear.term.within) in
      let symbols : symbols_are_live st p.0 ≡ true = symbols_live p.0 clear.term.within in
      let within_state : all_within (sort_is_live (sorts_of_state st)) is_usable p.0 ≡ true = subst (λ es. IsUsableTerm es p.0) (sorts_here begun st s tracked) usable.usable in
      let rest : (symbols_are_live st p.0 && all_within (sort_is_live (sorts_of_state st)) is_usable p.0) ≡ true = and_true (symbols_are_live st p.0) (all_within (sort_is_live (sorts_of_state st)) is_usable p.0) symbols within_state in
      let clear_rest : (is_clear p.0 && (symbols_are_live st p.0 && all_within (sort_is_live (sorts_of_state st)) is_usable p.0)) ≡ true = and_true (is_clear p.0) (symbols_are_live st p.0 && all_within (sort_is_live (sorts_of_state st)) is_usable p.0) names rest in
      let printable_term : is_printable_term st p.0 ≡ true = and_true (is_well_sorted p.0) (is_clear p.0 && (symbols_are_live st p.0 && all_within (sort_is_live (sorts_of_state st)) is_usable p.0)) sorted clear_rest in (
        and_true (has_sort bool p.0) (is_printable_term st p.0) (ap (is_of_sort bool) sort) printable_term,
        (λ same. absurd cc),
        record {
          levels = assertion_bare p.0 st.levels live_before tracked.levels ∙ sym usable.kept.shown;
          global = tracked.global;
          begun_too = λ k. refl;
          usable = usable.kept.usable;
        },
      ))

  -- ---- definitions

  body_led : (n : Name) (xs : List Variable) (to : Sort) (body : Form) → list_all (λ x. sort_is_live (sorts_at levels_before) x.sort && is_usable x.name) xs ≡ true → Within ns body → StepLed f begun st (read_body n xs to body s)
  body_led n xs to body variables within =
      mapped_led f begun st (defined_with n xs body s) (of_sort to (place_of body) (read body (body_context n xs) s.sofar)) (λ p h.
      let is : read body (body_context n xs) s.sofar ≡ Ok p = of_sort_ok to (place_of body) (read body (body_context n xs) s.sofar) p h in
      let usable : UsableRead ns fit levels_before p = ok_on (read body (body_context n xs) s.sofar) (UsableRead ns fit levels_before) p (form_usable ns fit levels_before body within (body_context n xs) s.sofar (parameters_usable ns fit levels_before 0 xs [] variables (nothing_usable ns fit levels_before)) kept) is in
      record {
        levels = tracked.levels ∙ sym usable.kept.shown;
        global = tracked.global;
        begun_too = λ k. refl;
        usable = (subst (λ es. IsUsableTerm es p.0) (sym (same_sorts levels_before p.1.live usable.kept)) usable.usable, usable.kept.usable);
      })

  -- ---- declarations

  sort_declarable_led : (n : At Name) (next : Step) → (is_reserved_for_sorts n.it ≡ false → is_some (live_sorts live_before n.it) ≡ false → StepLed f begun st next) → StepLed f begun st (sort_declarable (live_of s) n next)
  sort_declarable_led n next h =
      unless_led f begun st (is_reserved_for_sorts n.it) ReservedName n.place (unless (is_some (live_sorts (live_of s) n.it)) Redeclared n.place next) (λ allowed.
      unless_led f begun st (is_some (live_sorts (live_of s) n.it)) Redeclared n.place next (λ new. h allowed new))

  declarable_led : (n : At Name) (next : Step) → (is_reserved_for_declaring n.it ≡ false → is_some (entry_of live_before n.it) ≡ false → StepLed f begun st next) → StepLed f begun st (declarable (live_of s) n next)
  declarable_led n next h =
      unless_led f begun st (is_reserved_for_declaring n.it) ReservedName n.place (unless (is_some (entry_of (live_of s) n.it)) Redeclared n.place next) (λ allowed.
      unless_led f begun st (is_some (entry_of (live_of s) n.it)) Redeclared n.place next (λ new. h allowed new))

  no_parameters_led : (parameters : Forms) (next : Step) → StepLed f begun st next → StepLed f begun st (without_parameters parameters next)
  no_parameters_led none next h = h
  no_parameters_led (g ⨾ gs) next h = tt

  declares_sort_led : (n : At Name) (arity : At ℕ) → name_among ns n.it ≡ true → StepLed f begun st (declares_sort n arity s)
  declares_sort_led n arity text =
      let next : Step = Ok (declare_sort n.it ∷ [], begun_with s (sort_known n.it (free_sort n.it) ∷ live_of s)) in
      sort_declarable_led n (unless (not (arity.it == 0)) SortArity arity.place next) (λ allowed new.
      unless_led f begun st (not (arity.it == 0)) SortArity arity.place next (λ none_there.
      let other : is_among (sorts_of_state st) n.it ≡ false = false_from_ne_true (is_among (sorts_of_state st) n.it) (λ among. contrary {A = ⊥} (is_some (live_sorts live_before n.it)) (known_live live_before n.it (sym (ap (λ ks. is_among ks n.it) (state_sorts begun st s tracked)) ∙ among)) new) in
      let rest : (not (is_reserved_for_sorts n.it) && not (is_among (sorts_of_state st) n.it)) ≡ true = and_true (not (is_reserved_for_sorts n.it)) (not (is_among (sorts_of_state st) n.it)) (ap not allowed) (ap not other) in (
        and_true (is_writable n.it) (not (is_reserved_for_sorts n.it) && not (is_among (sorts_of_state st) n.it)) (fit n.it text) rest,
        (λ same. absurd cc),
        record {
          levels = bare_sort n.it st.levels ∙ ap (on_latest (with_sort n.it)) tracked.levels ∙ sym (ap (λ b. with_sort_if b n.it levels_before) (own_sort n.it));
          global = tracked.global;
          begun_too = λ k. refl;
          usable = (ap (λ b. is_among (name_last_if b n.it (sorts_known live_before)) n.it) (own_sort n.it) ∙ among_last (sorts_known live_before) n.it, tracked.usable);
        },
      )))

  defines_sort_led : (n : At Name) (parameters : Forms) (g : Form) → StepLed f begun st (defines_sort n parameters g s)
  defines_sort_led n parameters g =
      let make : Sort → List (Command Term) × Standing = λ to. ([], begun_with s (sort_known n.it to ∷ live_of s)) in
      sort_declarable_led n (without_parameters parameters (mapped make (sort_in (live_sorts (live_of s)) g))) (λ allowed new.
      no_parameters_led parameters (mapped make (sort_in (live_sorts (live_of s)) g))
      (mapped_led f begun st make (sort_in (live_sorts (live_of s)) g) (λ to h.
      let live_to : sort_is_live (sorts_known live_before) to ≡ true = sort_live (sorts_known live_before) g (live_sorts live_before) to (sorts_usable live_before tracked.usable) h in
      let other : is_own n.it to ≡ false = false_from_ne_true (is_own n.it to) (λ e. contrary {A = ⊥} (is_some (live_sorts live_before n.it)) (known_live live_before n.it (ap (sort_is_live (sorts_known live_before)) (sym ((Decides-sort_eq to (free_sort n.it)).0 e)) ∙ live_to)) new) in
      record {
        levels = tracked.levels ∙ sym (ap (λ b. with_sort_if b n.it levels_before) other);
        global = tracked.global;
        begun_too = λ k. refl;
        usable = (ap (λ b. sort_is_live (name_last_if b n.it (sorts_known live_before)) to) other ∙ live_to, tracked.usable);
      })))

  declares_symbol_led : (n : At Name) (arguments : Forms) (g : Form) → name_among ns n.it ≡ true → StepLed f begun st (declares_symbol n arguments g s)
  declares_symbol_led n arguments g text =
      let result : List Sort → Step = λ args. mapped (λ to. declares s (symbol_of_sorts n.it args to)) (sort_in (live_sorts (live_of s)) g) in
      declarable_led n (and_then result (sorts_in (live_sorts (live_of s)) arguments)) (λ allowed new.
      then_led f begun st result (sorts_in (live_sorts (live_of s)) arguments) (λ args h.
      mapped_led f begun st (λ to. declares s (symbol_of_sorts n.it args to)) (sort_in (live_sorts (live_of s)) g) (λ to k.
      let there : (m : Name) (r : Sort) → live_sorts live_before m ≡ Some r → sort_is_live (sorts_known live_before) r ≡ true = sorts_usable live_before tracked.usable in
      let fine : list_all is_sort (to ∷ args) ≡ true = and_true (is_sort to) (list_all is_sort args) (sort_fine g (live_sorts live_before) to sound.sorts k) (sorts_fine arguments (live_sorts live_before) args sound.sorts h) in
      let live : list_all (sort_is_live (sorts_known live_before)) (to ∷ args) ≡ true = and_true (sort_is_live (sorts_known live_before) to) (list_all (sort_is_live (sorts_known live_before)) args) (sort_live (sorts_known live_before) g (live_sorts live_before) to there k) (sorts_live (sorts_known live_before) arguments (live_sorts live_before) args there h) in
      let in_state : list_all (sort_is_live (sorts_of_state st)) (to ∷ args) ≡ true = ap (λ ks. list_all (sort_is_live ks) (to ∷ args)) (state_sorts begun st s tracked) ∙ live in
      let other : is_among (names_of (symbols_of_state st)) n.it ≡ false = false_from_ne_true (is_among (names_of (symbols_of_state st)) n.it) (λ among. contrary {A = ⊥} (is_some (entry_of live_before n.it)) (named_live live_before n.it (sym (ap (λ fs. is_among (names_of fs) n.it) (state_symbols begun st s tracked)) ∙ among)) new) in
      let usable_name : is_usable n.it ≡ true = and_true (is_writable n.it) (not (is_reserved_for_declaring n.it)) (fit n.it text) (ap not allowed) in
      let rest : (not (is_among (names_of (symbols_of_state st)) n.it) && list_all (λ r. is_sort r && sort_is_live (sorts_of_state st) r) (to ∷ args)) ≡ true =
      and_true (not (is_among (names_of (symbols_of_state st)) n.it)) (list_all (λ r. is_sort r && sort_is_live (sorts_of_state st) r) (to ∷ args)) (ap not other) (both_all is_sort (sort_is_live (sorts_of_state st)) (to ∷ args) fine in_state) in (
        and_true (is_usable n.it) (not (is_among (names_of (symbols_of_state st)) n.it) && list_all (λ r. is_sort r && sort_is_live (sorts_of_state st) r) (to ∷ args)) usable_name rest,
        (λ same. absurd cc),
        record {
          levels = bare_symbol (symbol_of_sorts n.it args to) st.levels ∙ ap (on_latest (with_symbol (symbol_of_sorts n.it args to))) tracked.levels;
          global = tracked.global;
          begun_too = λ e. refl;
          usable = (live, tracked.usable);
        },
      ))))

  defines_symbol_led : (n : At Name) (parameters : Forms) (g body : Form) → AllWithin ns parameters → Within ns body → StepLed f begun st (defines_symbol n parameters g body s)
  defines_symbol_led n parameters g body within_parameters within_body =
      let result : List Variable → Step = λ xs. and_then (λ to. read_body n.it xs to body s) (sort_in (live_sorts (live_of s)) g) in
      declarable_led n (and_then result (variables_in definition_binder (live_sorts (live_of s)) [] parameters)) (λ allowed new.
      then_led f begun st result (variables_in definition_binder (live_sorts (live_of s)) [] parameters) (λ xs h.
      then_led f begun st (λ to. read_body n.it xs to body s) (sort_in (live_sorts (live_of s)) g) (λ to k.
      body_led n.it xs to body (variables_are_usable (sorts_at levels_before) ns fit definition_binder (live_sorts live_before) [] parameters xs (sorts_kept ns fit levels_before live_before kept) within_parameters h) within_body)))

  -- ---- literals

  abbrev LiveConstant : Term → Type 0
  LiveConstant t = (g : Symbol) × (constant g ≡ t) × (is_live_constant st (constant g) ≡ true)

  constant_live : (n : Name) (g : Symbol) (args : List Sort) (t : Term) → entry_of live_before n ≡ Some (symbol_entry g) → g.args ≡ args → boolean_constant g args ≡ Some t → LiveConstant t
  constant_live n g [] t entry none_of h = go (sort_eq g.result bool) refl h
    where
      known : is_among_symbols (symbols_of_state st) g ≡ true
      known = ap (λ fs. is_among_symbols fs g) (state_symbols begun st s tracked) ∙ entry_known live_before n g entry

      alone : (length g.args == 0) ≡ true
      alone = ap (λ ss. length ss == 0) none_of

      go : (b : Bool) → sort_eq g.result bool ≡ b → cond b (Some (constant g)) None ≡ Some t → LiveConstant t
      go true e k = (g, cc, and_true (is_bool g.result) ((length g.args == 0) && is_among_symbols (symbols_of_state st) g) (ap is_bool ((Decides-sort_eq g.result bool).0 e)) (and_true (length g.args == 0) (is_among_symbols (symbols_of_state st) g) alone known))
      go false e k = absurd cc
  constant_live n g (a ∷ args) t entry none_of h = absurd cc

  entry_live : (n : Name) (o : Option Entry) (t : Term) → entry_of live_before n ≡ o → constant_entry o ≡ Some t → LiveConstant t
  entry_live n (Some (symbol_entry g)) t entry h = constant_live n g g.args t entry refl h
  entry_live n (Some (definition_entry xs u)) t entry h = absurd cc
  entry_live n (Some (term_entry u)) t entry h = absurd cc
  entry_live n None t entry h = absurd cc

  declared_live : (o : Option Name) (t : Term) → declared_constant live_before o ≡ Some t → LiveConstant t
  declared_live None t h = absurd cc
  declared_live (Some n) t h = entry_live n (entry_of live_before n) t refl h

  negation_live : (c : Form) (o : Option Term) (t : Term) → declared_constant live_before (symbol_in c) ≡ o → option_map negated o ≡ Some t → is_live_literal st t ≡ true
  negation_live c None t entry h = absurd cc
  negation_live c (Some u) t entry h =
      let found = declared_live (symbol_in c) u entry in
      let same : negated u ≡ t = cc in
      subst (λ v. is_live_literal st v ≡ true) same (subst (λ v. is_live_literal st (negated v) ≡ true) found.1 found.2)

  literal_live : (g : Form) (t : Term) → literal live_before g ≡ Some t → is_live_literal st t ≡ true
  literal_live (atom k) t h = let found = declared_live (symbol_of k) t h in subst (λ v. is_live_literal st v ≡ true) found.1 found.2
  literal_live (node place (g ⨾ c ⨾ none)) t h = go (is_name (codes "not") (symbol_in g)) h
    where
      go : (b : Bool) → cond b (option_map negated (declared_constant live_before (symbol_in c))) None ≡ Some t → is_live_literal st t ≡ true
      go true k = negation_live c (declared_constant live_before (symbol_in c)) t refl k
      go false k = absurd cc
  literal_live (node place _) t h = absurd cc

  literals_live : (gs : Forms) (ts : List Term) → literals_in live_before gs ≡ Ok ts → list_all (is_live_literal st) ts ≡ true
  literals_live none ts h = ap (list_all (is_live_literal st)) (sym (ok_same [] ts (Ok []) refl h))
  literals_live (g ⨾ gs) ts h =
      let (t, here, rest) = and_then_ok (λ t. mapped (λ us. t ∷ us) (literals_in live_before gs)) (given BadForm (place_of g) (literal live_before g)) ts h in
      let (us, behind_it, whole) = mapped_ok (λ us. t ∷ us) (literals_in live_before gs) ts rest in
      ap (list_all (is_live_literal st)) (sym whole) ∙ and_true (is_live_literal st t) (list_all (is_live_literal st) us) (literal_live g t (given_ok BadForm (place_of g) (literal live_before g) t here)) (literals_live gs us behind_it)

  assumes_led : (gs : Forms) → StepLed f begun st (assumes gs s)
  assumes_led gs =
      mapped_led f begun st (λ ts. (check_assuming ts ∷ [], begun_with s (live_of s))) (literals_in (live_of s) gs) (λ ts h.
      (literals_live gs ts h, (λ same. absurd cc), same_tracked begun st s tracked))

  -- ---- levels and options

  pushed_led : (test : Bool) (place n : ℕ) → (test ≡ false → (nat_le n most_levels && nat_le (levels_open st + n) most_levels) ≡ true) → StepLed f begun st (pushed_unless test place n s)
  pushed_led true place n few = tt
  pushed_led false place n few = (
    few refl,
    (λ same. absurd cc),
    record {
      levels = bare_pushed n st.levels ∙ ap (λ ls. replicate n empty_level ++ ls) tracked.levels ∙ sym (levels_opened n live_before);
      global = tracked.global;
      begun_too = λ k. refl;
      usable = usable_opened n live_before tracked.usable;
    },
  )

  pushes_led : (place n : ℕ) → StepLed f begun st (pushed_unless (nat_lt most_levels n || nat_lt most_levels (open_levels s + n)) place n s)
  pushes_led place n =
      pushed_led (nat_lt most_levels n || nat_lt most_levels (open_levels s + n)) place n (λ h.
      let parts = both_false (nat_lt most_levels n) (nat_lt most_levels (open_levels s + n)) h in
      and_true (nat_le n most_levels) (nat_le (levels_open st + n) most_levels) (at_most most_levels n parts.0)
      (ap (λ k. nat_le (k + n) most_levels) (sym (state_open begun st s tracked)) ∙ at_most most_levels (open_levels s + n) parts.1))

  pops_led : (command place n : ℕ) → StepLed f begun st (pops command place n s)
  pops_led command place n =
      let next : Step = Ok (pop n ∷ [], begun_with s (popped is_level_known s.global n (live_of s))) in
      unless_led f begun st (nat_lt most_levels n) NumberLimit place (unless (nat_lt (open_levels s) n) PopTooFar command next) (λ few.
      unless_led f begun st (nat_lt (open_levels s) n) PopTooFar command next (λ open_ones.
      let enough : n ≤ count_by is_level_known live_before = ltb-false (open_levels s) n open_ones in (
        and_true (nat_le n most_levels) (nat_le n (levels_open st)) (at_most most_levels n few) (ap (nat_le n) (sym (state_open begun st s tracked)) ∙ at_most (open_levels s) n open_ones),
        (λ same. absurd cc),
        record {
          levels = ap (λ b. bare_levels (levels_popped b n st.levels)) tracked.global ∙ bare_popped s.global n st.levels ∙ ap (levels_popped s.global n) tracked.levels ∙ sym (levels_of_popped s.global n live_before enough);
          global = tracked.global;
          begun_too = λ k. refl;
          usable = usable_popped s.global n live_before tracked.usable;
        },
      )))

  sets_led : (place : ℕ) (o : Option Bool) → StepLed f begun st (sets_globals place o s)
  sets_led place None = tt
  sets_led place (Some b) =
      unless_led f begun st s.begun UnsupportedOption place (Ok (globals b ∷ [], record { sofar = s.sofar; global = b; begun = false; asserted = s.asserted })) (λ early.
      let not_begun : begun ≡ false = false_from_ne_true begun (λ k. contrary {A = ⊥} s.begun (tracked.begun_too k) early) in
      (ap not not_begun, (λ same. absurd cc), record { levels = tracked.levels; global = refl; begun_too = λ k. contrary {A = false ≡ true} begun k not_begun; usable = tracked.usable }))

  reset_led : Led f begun st (reset ∷ []) (record { sofar = record { live = []; supply = s.sofar.supply }; global = false; begun = false; asserted = s.asserted })
  reset_led = (refl, (λ same. absurd cc), record { levels = refl; global = refl; begun_too = λ k. k; usable = tt })

  emptied_led : Led f begun st (reset_assertions ∷ []) (record { sofar = record { live = emptied is_level_known s.global (live_of s); supply = s.sofar.supply }; global = s.global; begun = s.begun; asserted = s.asserted })
  emptied_led = (
    refl,
    (λ same. absurd cc),
    record {
      levels = ap (λ b. bare_levels (levels_emptied b st.levels)) tracked.global ∙ bare_emptied s.global st.levels ∙ ap (levels_emptied s.global) tracked.levels ∙ sym (levels_of_emptied s.global live_before);
      global = tracked.global;
      begun_too = tracked.begun_too;
      usable = usable_emptied s.global live_before tracked.usable;
    },
  )

  -- ---- any command

  abbrev Told : List ℕ → Outline → Type 0
  Told text passing = is_passed_text text ≡ true
  Told text (sort_declaration n arity) = name_among ns n.it ≡ true
  Told text ending = is_exit_form f ≡ true
  Told text _ = ⊤

  step_led : (place : ℕ) (text : List ℕ) (o : Outline) → OutlineWithin ns o → Told text o → StepLed f begun st (step place text s o)
  step_led place text passing within told = (told, (λ same. absurd cc), record { levels = tracked.levels; global = tracked.global; begun_too = tracked.begun_too; usable = tracked.usable })
  step_led place text (global_option g) within told = sets_led place (truth_in g)
  step_led place text (sort_declaration n arity) within told = declares_sort_led n arity told
  step_led place text (sort_definition n parameters g) within told = defines_sort_led n parameters g
  step_led place text (symbol_declaration n arguments g) within told = declares_symbol_led n arguments g within
  step_led place text (symbol_definition n parameters g body) within told = defines_symbol_led n parameters g body within.0 within.1
  step_led place text (assertion g) within told = asserts_led g within
  step_led place text checking within told = (refl, (λ same. absurd cc), same_tracked begun st s tracked)
  step_led place text (assuming gs) within told = assumes_led gs
  step_led place text (pushing n) within told = pushes_led (place_or n place) (levels_written n)
  step_led place text (popping n) within told = pops_led place (place_or n place) (levels_written n)
  step_led place text resetting within told = reset_led
  step_led place text resetting_assertions within told = emptied_led
  step_led place text ending within told = (refl, (λ same. told), record { levels = tracked.levels; global = tracked.global; begun_too = tracked.begun_too; usable = tracked.usable })

  told_outline : (o : Outline) → IsWritten f → outline f ≡ Ok o → OutlineTold ns f o → Told (form_text f) o
  told_outline passing written is told = passed_again f written is
  told_outline (sort_declaration n arity) written is told = told
  told_outline ending written is told = told
  told_outline _ written is told = tt

  outlined_led : (o : Result Outline Refused) → Within ns f → IsWritten f → outline f ≡ o → StepLed f begun st (and_then (step (place_of f) (form_text f) s) o)
  outlined_led (Ok o) within written is = step_led (place_of f) (form_text f) o (outline_within ns f o within is) (told_outline o written is (outline_told ns f o within is))
  outlined_led (Err e) within written is = tt

  command_led : Within ns f → IsWritten f → StepLed f begun st (read_command f s)
  command_led within written = outlined_led (outline f) within written refl

-- ---- all commands

followed : (c : Command Term) (ds : List (Command Term)) → (c ≡ exit → ds ≡ []) → may_be_followed c ds ≡ true
followed exit [] h = refl
followed exit (d ∷ ds) h = absurd (let none_there = h refl in cc)
followed c ds h = refl

led_first : (f : Form) (begun : Bool) (st : State Term) (cs ds : List (Command Term)) (s : Standing) → Led f begun st cs s → (is_exit_form f ≡ true → ds ≡ []) → ((b : Bool) (t : State Term) → Tracked b t s → printable_from b t ds ≡ true) → printable_from begun st (cs ++ ds) ≡ true
led_first f begun st [] ds s led last below = below begun st led
led_first f begun st (c ∷ []) ds s led last below =
    and_true (may_stand begun st c) (may_be_followed c ds && printable_from (fixes begun c) (after c st) ds) led.0
    (and_true (may_be_followed c ds) (printable_from (fixes begun c) (after c st) ds) (followed c ds (λ is. last (led.1 is))) (below (fixes begun c) (after c st) led.2))
led_first f begun st (c ∷ d ∷ cs) ds s led last below = absurd led

nothing_more : (i : ℕ) (fs : Forms) (s : Standing) (q : List (Command Term) × Supply) → fs ≡ none → read_commands i fs s ≡ Ok q → q.0 ≡ []
nothing_more i none s q same h = ap (λ (x : List (Command Term) × Supply). x.0) (sym (ok_same ([], s.sofar.supply) q (read_commands i none s) refl h))
nothing_more i (f ⨾ fs) s q same h = absurd cc

commands_print : (ns : List Name) (fit : NamesFit ns) (i : ℕ) (fs : Forms) (s : Standing) (r : List (Command Term) × Supply) (begun : Bool) (st : State Term) → Stands ns s → AllClear s.sofar.live → Tracked begun st s → AllWithin ns fs → AreWritten fs → ExitsLast fs → read_commands i fs s ≡ Ok r → printable_from begun st r.0 ≡ true
commands_print ns fit i none s r begun st stands all tracked within written exits h =
    ap (λ (x : List (Command Term) × Supply). printable_from begun st x.0) (sym (ok_same ([], s.sofar.supply) r (read_commands i none s) refl h))
commands_print ns fit i (f ⨾ fs) s r begun st stands all tracked within written exits h =
    let (p, here, rest) = and_then_ok (λ p. mapped (behind p.0) (read_commands (suc i) fs p.1)) (numbered i (read_command f s)) r h in
    let (q, more, whole) = mapped_ok (behind p.0) (read_commands (suc i) fs p.1) r rest in
    let done : read_command f s ≡ Ok p = numbered_ok i (read_command f s) p here in
    let gone = gone_ok ns (read_command f s) p (seen_command f (scene_of s)).0 done (command_goes ns f s stands within.0) in
    let clear : StepClear (Ok p) = subst StepClear done (command_clear ns f s stands all within.0) in
    let led : Led f begun st p.0 p.1 = subst (StepLed f begun st) done (command_led ns fit f begun st s stands all tracked within.0 written.0) in
    let joined : printable_from begun st (p.0 ++ q.0) ≡ true =
    led_first f begun st p.0 q.0 p.1 led (λ is. nothing_more (suc i) fs p.1 q (exits.0 is) more) (λ b t now. commands_print ns fit (suc i) fs p.1 q b t gone.1 clear.1 now within.1 written.1 exits.1 more) in
    ap (λ (x : List (Command Term) × Supply). printable_from begun st x.0) (sym whole) ∙ joined

first_tracked : (fs : Forms) → Tracked false start (first_standing fs)
first_tracked fs = record { levels = refl; global = refl; begun_too = λ h. h; usable = tt }

forms_print : (b : List ℕ) (o : Result Forms Fault) (r : List (Command Term) × Supply) → forms_to_exit b ≡ o → read_forms b o ≡ Ok r → printable r.0 ≡ true
forms_print b (Ok fs) r is h =
    commands_print (names_with_all [] fs) (text_names b fs is) 1 fs (first_standing fs) r false start (first_stands fs) tt (first_tracked fs) (all_within_text fs) (text_written b fs is) (text_exits_last b fs is) (read_ok b (read_commands 1 fs (first_standing fs)) r h)
forms_print b (Err e) r is h = absurd cc

pub read_scripts_print : ReadScriptsArePrintable
read_scripts_print b r h = forms_print b (forms_to_exit b) r refl h
