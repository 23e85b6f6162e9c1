-- The names that are left behind a text's commands aren't those of a symbol in them.
use Rattle.std.proofs.Common.{◌≡◌, sym, subst, refl, ℕ, suc, ◌+◌, ◌==◌, Bool, true, false, not, cond, ◌||◌, List, [], ◌∷◌, ◌++◌, Option, Some, None, Result, Ok, Err}
use Rattle.std.specs.Prelude.{⊤, nat_lt, is_some, option_map, codes, flat_map}
use Rattle.std.proofs.lemmas.Grind.{flat_map-append}
use Rattle.smt_lex.specs.Names.{Name, is_reserved_for_declaring, is_reserved_for_sorts}
use Rattle.smt_lex.specs.Lex.{Fault, symbol_of}
use Rattle.smt_lex.specs.Forms.{Form, atom, node, Forms, none, ◌⨾◌, forms_to_exit}
use Rattle.smt_terms.specs.Connectives.{negated}
use Rattle.smt_terms.specs.Equal.{sort_eq}
use Rattle.smt_terms.specs.Free.{name_among}
use Rattle.smt_terms.specs.Fresh.{Supply, NeverGives}
use Rattle.smt_terms.specs.Sorts.{Sort, bool, free_sort, Symbol, Variable}
use Rattle.smt_terms.specs.SubstLaws.{names_within, GivesNone, Later}
use Rattle.smt_terms.specs.Term.{Term, constant}
use Rattle.script_terms.specs.declared.causes.Cause.{Cause}
use Rattle.script_terms.specs.declared.causes.Cause.TheVariants.{BadForm, Redeclared, ReservedName, PopTooFar, NumberLimit, SortArity, UnsupportedOption}
use Rattle.script_read.specs.Commands.{Command, passed, declare_sort, declare, assert, check, check_assuming, push, pop, reset, reset_assertions, globals, exit}
use Rattle.script_read.specs.Laws.{names_in_command, GivesNoNameOf, NamesLeftAreNew}
use Rattle.script_read.specs.Mean.{mean}
use Rattle.script_read.specs.Outlines.{At, Outline, passing, global_option, sort_declaration, sort_definition, symbol_declaration, symbol_definition, assertion, checking, assuming, pushing, popping, resetting, resetting_assertions, ending, levels_written, outline}
use Rattle.smt_lex.specs.FormText.{form_text}
use Rattle.script_terms.specs.Parts.{place_of, symbol_in, is_name}
use Rattle.script_terms.specs.Read.{read}
use Rattle.script_terms.specs.Reading.{sort_known, level_known, is_level_known, live_sorts, Entry, symbol_entry, definition_entry, term_entry, entry_of}
use Rattle.script_terms.specs.Refusals.{Refused, and_then, unless, mapped, given}
use Rattle.script_read.specs.Scenes.{seen_command}
use Rattle.script_terms.specs.Scope.{opened, popped}
use Rattle.script_read.specs.Script.{Standing, Step, live_of, begun_with, declarable, sort_declarable, declares_sort, without_parameters, defines_sort, declares, symbol_of_sorts, declares_symbol, body_context, defined_with, of_sort, read_body, defines_symbol, no_context, asserted_with, asserts, boolean_constant, constant_entry, declared_constant, literal, literals_in, assumes, most_levels, open_levels, place_or, pushed_unless, pops, truth_in, sets_globals, step, read_command, numbered, behind, read_commands, first_standing, read_forms}
use Rattle.script_terms.specs.TextNames.{names_with_all}
use Rattle.script_terms.specs.SortForms.{sort_in, sorts_in}
use Rattle.script_terms.specs.Variables.{definition_binder, variables_in}
use Rattle.script_read.proofs.Agreement.{numbered_ok, read_ok}
use Rattle.script_read.proofs.Defining.{variables_fine, nothing_ready, body_ready}
use Rattle.script_terms.proofs.NameFacts.{Within, AllWithin}
use Rattle.script_read.proofs.Fitting.{declared_of, Sound, Reads}
use Rattle.script_terms.proofs.NameFacts.{all_within_text, spared_later, spared_both, spared_first, spared_none}
use Rattle.script_terms.proofs.Outcomes.{and_then_ok, mapped_ok, given_ok, ok_same}
use Rattle.script_read.proofs.Paired.{Stands, sound_of, OutlineWithin, outline_within, gone_ok, command_goes, first_stands}
use Rattle.script_read.proofs.Shown.{scene_of, of_sort_ok}
use Rattle.script_terms.proofs.SortFacts.{VariablesRead, variables_read}
use Rattle.script_read.proofs.TermsMean.{form_reads, ok_on}

-- ---- steps

-- a step's commands have no name that is left, and no name comes back
record Spares (before : Supply) (r : List (Command Term) × Standing) : Type 0 where
  names : GivesNoNameOf r.1.sofar.supply r.0
  later : Later before r.1.sofar.supply

abbrev StepSpares : Supply → Step → Type 0
StepSpares before (Ok r) = Spares before r
StepSpares before (Err e) = ⊤

unless_spares : (before : Supply) (test : Bool) (cause : Cause) (place : ℕ) (r : Step) → StepSpares before r → StepSpares before (unless test cause place r)
unless_spares before true cause place r h = tt
unless_spares before false cause place r h = h

then_spares : {A : Type 0} (before : Supply) (k : A → Step) (r : Result A Refused) → ((a : A) → r ≡ Ok a → StepSpares before (k a)) → StepSpares before (and_then k r)
then_spares before k (Ok a) h = h a refl
then_spares before k (Err e) h = tt

mapped_spares : {A : Type 0} (before : Supply) (f : A → List (Command Term) × Standing) (r : Result A Refused) → ((a : A) → r ≡ Ok a → Spares before (f a)) → StepSpares before (mapped f r)
mapped_spares before f (Ok a) h = h a refl
mapped_spares before f (Err e) h = tt

one_command : (s : Supply) (c : Command Term) → GivesNone s (names_in_command c) → GivesNoNameOf s (c ∷ [])
one_command s c spared = spared_both s (names_in_command c) [] spared (spared_none s)

-- a command without symbols
silent_command : (s : Supply) (c : Command Term) → names_in_command c ≡ [] → GivesNoNameOf s (c ∷ [])
silent_command s c none_there = one_command s c (subst (GivesNone s) (sym none_there) (spared_none s))

module _ (ns : List Name) (s : Standing) (stands : Stands ns s) where
  abbrev before : Supply
  before = s.sofar.supply

  sound : Sound ns (declared_of s.sofar.live) s.sofar
  sound = sound_of ns s stands

  -- a command without symbols, behind which the names are as they were
  silent_step : (c : Command Term) (t : Standing) → names_in_command c ≡ [] → t.sofar.supply ≡ before → Spares before (c ∷ [], t)
  silent_step c t none_there same = record {
    names = silent_command t.sofar.supply c none_there;
    later = subst (λ left. Later before left) (sym same) (λ n h. h);
  }

  no_command : (t : Standing) → t.sofar.supply ≡ before → Spares before ([], t)
  no_command t same = record { names = spared_none t.sofar.supply; later = subst (λ left. Later before left) (sym same) (λ n h. h) }

  -- ---- terms

  asserts_spares : (f : Form) → Within ns f → StepSpares before (asserts f s)
  asserts_spares f within =
      mapped_spares before (asserted_with s) (of_sort bool (place_of f) (read f no_context s.sofar)) (λ p h.
      let is : read f no_context s.sofar ≡ Ok p = of_sort_ok bool (place_of f) (read f no_context s.sofar) p h in
      let reads : Reads ns (declared_of s.sofar.live) [] (λ E m. mean f E m) s.sofar p = ok_on (read f no_context s.sofar) (Reads ns (declared_of s.sofar.live) [] (λ E m. mean f E m) s.sofar) p (form_reads f ns (declared_of s.sofar.live) within no_context s.sofar (nothing_ready ns (declared_of s.sofar.live) s.sofar sound)) is in
      record { names = one_command p.1.supply (assert (suc s.asserted) p.0) reads.spared; later = reads.moves.later })

  body_spares : (n : Name) (xs : List Variable) (to : Sort) (body : Form) → VariablesRead ns definition_binder [] xs → Within ns body → StepSpares before (read_body n xs to body s)
  body_spares n xs to body variables within =
      mapped_spares before (defined_with n xs body s) (of_sort to (place_of body) (read body (body_context n xs) s.sofar)) (λ p h.
      let is : read body (body_context n xs) s.sofar ≡ Ok p = of_sort_ok to (place_of body) (read body (body_context n xs) s.sofar) p h in
      let reads : Reads ns (declared_of s.sofar.live) (body_context n xs).locals (λ E m. mean body E m) s.sofar p = ok_on (read body (body_context n xs) s.sofar) (Reads ns (declared_of s.sofar.live) (body_context n xs).locals (λ E m. mean body E m) s.sofar) p (form_reads body ns (declared_of s.sofar.live) within (body_context n xs) s.sofar (body_ready ns (declared_of s.sofar.live) s.sofar sound xs (variables_fine ns [] xs variables.sound))) is in
      record { names = spared_none p.1.supply; later = reads.moves.later })

  -- ---- declarations and definitions

  declarable_spares : (n : At Name) (next : Step) → StepSpares before next → StepSpares before (declarable (live_of s) n next)
  declarable_spares n next h =
      unless_spares before (is_reserved_for_declaring n.it) ReservedName n.place (unless (is_some (entry_of (live_of s) n.it)) Redeclared n.place next)
      (unless_spares before (is_some (entry_of (live_of s) n.it)) Redeclared n.place next h)

  sort_declarable_spares : (n : At Name) (next : Step) → StepSpares before next → StepSpares before (sort_declarable (live_of s) n next)
  sort_declarable_spares n next h =
      unless_spares before (is_reserved_for_sorts n.it) ReservedName n.place (unless (is_some (live_sorts (live_of s) n.it)) Redeclared n.place next)
      (unless_spares before (is_some (live_sorts (live_of s) n.it)) Redeclared n.place next h)

  no_parameters_spares : (parameters : Forms) (next : Step) → StepSpares before next → StepSpares before (without_parameters parameters next)
  no_parameters_spares none next h = h
  no_parameters_spares (f ⨾ gs) next h = tt

  declares_sort_spares : (n : At Name) (arity : At ℕ) → StepSpares before (declares_sort n arity s)
  declares_sort_spares n arity =
      let next : Step = Ok (declare_sort n.it ∷ [], begun_with s (sort_known n.it (free_sort n.it) ∷ live_of s)) in
      sort_declarable_spares n (unless (not (arity.it == 0)) SortArity arity.place next)
      (unless_spares before (not (arity.it == 0)) SortArity arity.place next (silent_step (declare_sort n.it) (begun_with s (sort_known n.it (free_sort n.it) ∷ live_of s)) refl refl))

  defines_sort_spares : (n : At Name) (parameters : Forms) (f : Form) → StepSpares before (defines_sort n parameters f s)
  defines_sort_spares n parameters f =
      let make : Sort → List (Command Term) × Standing = λ to. ([], begun_with s (sort_known n.it to ∷ live_of s)) in
      sort_declarable_spares n (without_parameters parameters (mapped make (sort_in (live_sorts (live_of s)) f)))
      (no_parameters_spares parameters (mapped make (sort_in (live_sorts (live_of s)) f))
      (mapped_spares before make (sort_in (live_sorts (live_of s)) f) (λ to h. no_command (begun_with s (sort_known n.it to ∷ live_of s)) refl)))

  declares_symbol_spares : (n : At Name) (arguments : Forms) (f : Form) → name_among ns n.it ≡ true → StepSpares before (declares_symbol n arguments f s)
  declares_symbol_spares n arguments f text =
      let result : List Sort → Step = λ args. mapped (λ to. declares s (symbol_of_sorts n.it args to)) (sort_in (live_sorts (live_of s)) f) in
      declarable_spares n (and_then result (sorts_in (live_sorts (live_of s)) arguments))
      (then_spares before result (sorts_in (live_sorts (live_of s)) arguments) (λ args h.
      mapped_spares before (λ to. declares s (symbol_of_sorts n.it args to)) (sort_in (live_sorts (live_of s)) f) (λ to k. record {
        names = one_command before (declare (symbol_of_sorts n.it args to)) (spared_first before n.it [] (stands.text n.it text) (spared_none before));
        later = λ m given. given;
      })))

  defines_symbol_spares : (n : At Name) (parameters : Forms) (f body : Form) → AllWithin ns parameters → Within ns body → StepSpares before (defines_symbol n parameters f body s)
  defines_symbol_spares n parameters f body within_parameters within_body =
      let result : List Variable → Step = λ xs. and_then (λ to. read_body n.it xs to body s) (sort_in (live_sorts (live_of s)) f) in
      declarable_spares n (and_then result (variables_in definition_binder (live_sorts (live_of s)) [] parameters))
      (then_spares before result (variables_in definition_binder (live_sorts (live_of s)) [] parameters) (λ xs h.
      then_spares before (λ to. read_body n.it xs to body s) (sort_in (live_sorts (live_of s)) f) (λ to k.
      body_spares n.it xs to body (variables_read ns definition_binder (live_sorts (live_of s)) [] parameters xs sound.sorts within_parameters h) within_body)))

  -- ---- literals

  constant_spared : (n : Name) (f : Symbol) (args : List Sort) (t : Term) → entry_of s.sofar.live n ≡ Some (symbol_entry f) → boolean_constant f args ≡ Some t → GivesNone before (names_within t)
  constant_spared n f [] t entry h = go (sort_eq f.result bool) h
    where
      never : NeverGives before f.name
      never = (sound.entries n (symbol_entry f) entry).0

      go : (b : Bool) → cond b (Some (constant f)) None ≡ Some t → GivesNone before (names_within t)
      go true e = let same : constant f ≡ t = cc in subst (λ u. GivesNone before (names_within u)) same (spared_first before f.name [] never (spared_none before))
      go false e = absurd cc
  constant_spared n f (a ∷ args) t entry h = absurd cc

  entry_spared : (n : Name) (o : Option Entry) (t : Term) → entry_of s.sofar.live n ≡ o → constant_entry o ≡ Some t → GivesNone before (names_within t)
  entry_spared n (Some (symbol_entry f)) t entry h = constant_spared n f f.args t entry h
  entry_spared n (Some (definition_entry xs u)) t entry h = absurd cc
  entry_spared n (Some (term_entry u)) t entry h = absurd cc
  entry_spared n None t entry h = absurd cc

  declared_spared : (o : Option Name) (t : Term) → declared_constant (live_of s) o ≡ Some t → GivesNone before (names_within t)
  declared_spared None t h = absurd cc
  declared_spared (Some n) t h = entry_spared n (entry_of s.sofar.live n) t refl h

  negation_spared : (c : Form) (o : Option Term) (t : Term) → declared_constant (live_of s) (symbol_in c) ≡ o → option_map negated o ≡ Some t → GivesNone before (names_within t)
  negation_spared c None t entry h = absurd cc
  negation_spared c (Some u) t entry h =
      let same : negated u ≡ t = cc in
      subst (λ v. GivesNone before (names_within v)) same (spared_both before (names_within u) [] (declared_spared (symbol_in c) u entry) (spared_none before))

  literal_spared : (f : Form) (t : Term) → literal (live_of s) f ≡ Some t → GivesNone before (names_within t)
  literal_spared (atom k) t h = declared_spared (symbol_of k) t h
  literal_spared (node place (f ⨾ c ⨾ none)) t h = go (is_name (codes "not") (symbol_in f)) h
    where
      go : (b : Bool) → cond b (option_map negated (declared_constant (live_of s) (symbol_in c))) None ≡ Some t → GivesNone before (names_within t)
      go true k = negation_spared c (declared_constant (live_of s) (symbol_in c)) t refl k
      go false k = absurd cc
  literal_spared (node place _) t h = absurd cc

  literals_spared : (gs : Forms) (ts : List Term) → literals_in (live_of s) gs ≡ Ok ts → GivesNone before (flat_map names_within ts)
  literals_spared none ts h = subst (λ us. GivesNone before (flat_map names_within us)) (ok_same [] ts (Ok []) refl h) (spared_none before)
  literals_spared (f ⨾ gs) ts h =
      let (t, here, rest) = and_then_ok (λ t. mapped (λ us. t ∷ us) (literals_in (live_of s) gs)) (given BadForm (place_of f) (literal (live_of s) f)) ts h in
      let (us, behind_it, all) = mapped_ok (λ us. t ∷ us) (literals_in (live_of s) gs) ts rest in
      subst (λ vs. GivesNone before (flat_map names_within vs)) all
      (spared_both before (names_within t) (flat_map names_within us) (literal_spared f t (given_ok BadForm (place_of f) (literal (live_of s) f) t here)) (literals_spared gs us behind_it))

  assumes_spares : (gs : Forms) → StepSpares before (assumes gs s)
  assumes_spares gs =
      mapped_spares before (λ ts. (check_assuming ts ∷ [], begun_with s (live_of s))) (literals_in (live_of s) gs) (λ ts h.
      record { names = one_command before (check_assuming ts) (literals_spared gs ts h); later = λ m given. given })

  -- ---- levels and options

  pushed_spares : (test : Bool) (place n : ℕ) → StepSpares before (pushed_unless test place n s)
  pushed_spares true place n = tt
  pushed_spares false place n = silent_step (push n) (begun_with s (opened level_known n (live_of s))) refl refl

  pops_spares : (command place n : ℕ) → StepSpares before (pops command place n s)
  pops_spares command place n =
      let next : Step = Ok (pop n ∷ [], begun_with s (popped is_level_known s.global n (live_of s))) in
      unless_spares before (nat_lt most_levels n) NumberLimit place (unless (nat_lt (open_levels s) n) PopTooFar command next)
      (unless_spares before (nat_lt (open_levels s) n) PopTooFar command next (silent_step (pop n) (begun_with s (popped is_level_known s.global n (live_of s))) refl refl))

  sets_spares : (place : ℕ) (o : Option Bool) → StepSpares before (sets_globals place o s)
  sets_spares place None = tt
  sets_spares place (Some b) =
      let t : Standing = record { sofar = s.sofar; global = b; begun = false; asserted = s.asserted } in
      unless_spares before s.begun UnsupportedOption place (Ok (globals b ∷ [], t)) (silent_step (globals b) t refl refl)

  -- ---- any command

  step_spares : (place : ℕ) (text : List ℕ) (o : Outline) → OutlineWithin ns o → StepSpares before (step place text s o)
  step_spares place text passing within = silent_step (passed text) s refl refl
  step_spares place text (global_option f) within = sets_spares place (truth_in f)
  step_spares place text (sort_declaration n arity) within = declares_sort_spares n arity
  step_spares place text (sort_definition n parameters f) within = defines_sort_spares n parameters f
  step_spares place text (symbol_declaration n arguments f) within = declares_symbol_spares n arguments f within
  step_spares place text (symbol_definition n parameters f body) within = defines_symbol_spares n parameters f body within.0 within.1
  step_spares place text (assertion f) within = asserts_spares f within
  step_spares place text checking within = silent_step check (begun_with s (live_of s)) refl refl
  step_spares place text (assuming gs) within = assumes_spares gs
  step_spares place text (pushing n) within = pushed_spares (nat_lt most_levels (levels_written n) || nat_lt most_levels (open_levels s + levels_written n)) (place_or n place) (levels_written n)
  step_spares place text (popping n) within = pops_spares place (place_or n place) (levels_written n)
  step_spares place text resetting within = record { names = silent_command before reset refl; later = λ m given. given }
  step_spares place text resetting_assertions within = record { names = silent_command before reset_assertions refl; later = λ m given. given }
  step_spares place text ending within = silent_step exit s refl refl

outlined_spares : (ns : List Name) (f : Form) (s : Standing) (o : Result Outline Refused) → Stands ns s → ((x : Outline) → o ≡ Ok x → OutlineWithin ns x) → StepSpares s.sofar.supply (and_then (step (place_of f) (form_text f) s) o)
outlined_spares ns f s (Ok o) stands within = step_spares ns s stands (place_of f) (form_text f) o (within o refl)
outlined_spares ns f s (Err e) stands within = tt

command_spares : (ns : List Name) (f : Form) (s : Standing) → Stands ns s → Within ns f → StepSpares s.sofar.supply (read_command f s)
command_spares ns f s stands within = outlined_spares ns f s (outline f) stands (λ o h. outline_within ns f o within h)

-- ---- all commands

-- the names that were left before some commands, and those that are left behind them
record SparesAll (before : Supply) (r : List (Command Term) × Supply) : Type 0 where
  names : GivesNoNameOf r.1 r.0
  later : Later before r.1

joined_spares : (left : Supply) (cs ds : List (Command Term)) → GivesNoNameOf left cs → GivesNoNameOf left ds → GivesNoNameOf left (cs ++ ds)
joined_spares left cs ds a b = subst (GivesNone left) (sym (flat_map-append names_in_command cs ds)) (spared_both left (flat_map names_in_command cs) (flat_map names_in_command ds) a b)

commands_spare : (ns : List Name) (i : ℕ) (fs : Forms) (s : Standing) (r : List (Command Term) × Supply) → Stands ns s → AllWithin ns fs → read_commands i fs s ≡ Ok r → SparesAll s.sofar.supply r
commands_spare ns i none s r stands within h =
    subst (SparesAll s.sofar.supply) (ok_same ([], s.sofar.supply) r (read_commands i none s) refl h) (record { names = spared_none s.sofar.supply; later = λ n given. given })
commands_spare ns i (f ⨾ fs) s r stands within h =
    let (p, here, rest) = and_then_ok (λ p. mapped (behind p.0) (read_commands (suc i) fs p.1)) (numbered i (read_command f s)) r h in
    let (q, more, whole) = mapped_ok (behind p.0) (read_commands (suc i) fs p.1) r rest in
    let done : read_command f s ≡ Ok p = numbered_ok i (read_command f s) p here in
    let gone = gone_ok ns (read_command f s) p (seen_command f (scene_of s)).0 done (command_goes ns f s stands within.0) in
    let now : Spares s.sofar.supply p = subst (StepSpares s.sofar.supply) done (command_spares ns f s stands within.0) in
    let others : SparesAll p.1.sofar.supply q = commands_spare ns (suc i) fs p.1 q gone.1 within.1 more in
    subst (SparesAll s.sofar.supply) whole (record {
      names = joined_spares q.1 p.0 q.0 (spared_later p.1.sofar.supply q.1 (flat_map names_in_command p.0) others.later now.names) others.names;
      later = λ n given. others.later n (now.later n given);
    })

forms_spare : (b : List ℕ) (o : Result Forms Fault) (r : List (Command Term) × Supply) → read_forms b o ≡ Ok r → GivesNoNameOf r.1 r.0
forms_spare b (Ok fs) r h = (commands_spare (names_with_all [] fs) 1 fs (first_standing fs) r (first_stands fs) (all_within_text fs) (read_ok b (read_commands 1 fs (first_standing fs)) r h)).names
forms_spare b (Err e) r h = absurd cc

pub names_left_new : NamesLeftAreNew
names_left_new b r h = forms_spare b (forms_to_exit b) r h
