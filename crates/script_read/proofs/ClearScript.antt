-- The terms of an accepted text have clear names.
use Rattle.std.proofs.Common.{◌≡◌, ◌≢◌, ◌∙◌, sym, ap, subst, refl, ℕ, zero, suc, ◌+◌, ◌<◌, ◌==◌, Bool, true, false, not, cond, ◌||◌, ◌⊎◌, inl, inr, List, [], ◌∷◌, ◌++◌, map, Option, Some, None, Result, Ok, Err, arith}
use Rattle.std.specs.Prelude.{⊤, nat_lt, is_some, option_map, codes}
use Rattle.std.specs.List.{list_all}
use Rattle.std.proofs.lemmas.List.{map-append}
use Rattle.smt_lex.specs.Names.{Name, is_among as is_among_names, is_reserved_for_declaring, is_reserved_for_sorts}
use Rattle.smt_lex.specs.Lex.{Fault, symbol_of}
use Rattle.smt_lex.specs.Forms.{Form, atom, node, Forms, none, ◌⨾◌, forms_to_exit}
use Rattle.smt_terms.specs.Connectives.{negated}
use Rattle.smt_terms.specs.Equal.{name_eq, sort_eq, symbol_eq}
use Rattle.smt_terms.specs.Free.{is_among}
use Rattle.smt_terms.specs.Fresh.{Supply}
use Rattle.smt_terms.specs.Shapes.{is_clear_below, is_clear}
use Rattle.smt_terms.specs.Sorts.{Sort, bool, free_sort, Symbol, Variable}
use Rattle.smt_terms.specs.Subst.{parameter}
use Rattle.smt_terms.specs.Term.{Term, constant}
use Rattle.smt_terms.proofs.ClearTerms.{Apart, apart_front, free_distinct}
use Rattle.smt_terms.proofs.Equal.{Decides-symbol_eq, name_itself}
use Rattle.smt_terms.proofs.Tests.{and_true, either_true, left_true, right_true, contrary}
use Rattle.script_terms.specs.declared.causes.Cause.{Cause}
use Rattle.script_terms.specs.declared.causes.Cause.TheVariants.{BadForm, Redeclared, ReservedName, PopTooFar, NumberLimit, SortArity, UnsupportedOption}
use Rattle.script_read.specs.Commands.{Command, passed, declare_sort, declare, assert, check, check_assuming, push, pop, reset, reset_assertions, globals, exit, with_asserted, live, literals}
use Rattle.script_terms.specs.Heads.{parameters_from}
use Rattle.script_read.specs.Laws.{ReadTermsAreClear}
use Rattle.script_read.specs.Mean.{mean}
use Rattle.script_read.specs.Outlines.{At, Outline, passing, global_option, sort_declaration, sort_definition, symbol_declaration, symbol_definition, assertion, checking, assuming, pushing, popping, resetting, resetting_assertions, ending, levels_written, outline}
use Rattle.smt_lex.specs.FormText.{form_text}
use Rattle.script_terms.specs.Parts.{place_of, symbol_in, is_name}
use Rattle.script_terms.specs.Read.{local_constants, read}
use Rattle.script_terms.specs.Reading.{ReadLocal, parameter_as, ReadBinding, sort_known, function_known, definition_as, named_as, level_known, is_level_known, live_sorts, Entry, symbol_entry, definition_entry, term_entry, entry_of}
use Rattle.script_terms.specs.Refusals.{Refused, and_then, unless, mapped, given}
use Rattle.script_terms.specs.Scope.{or_later, opened, closed, merged, flattened, popped, emptied}
use Rattle.script_read.specs.Script.{Standing, Step, live_of, begun_with, declarable, sort_declarable, declares_sort, without_parameters, defines_sort, declares, symbol_of_sorts, declares_symbol, parameters_read, body_context, defined_with, of_sort, read_body, defines_symbol, no_context, asserted_with, asserts, boolean_constant, constant_entry, declared_constant, literal, literals_in, assumes, most_levels, open_levels, place_or, pushed_unless, pops, truth_in, sets_globals, step, read_command, numbered, behind, read_commands, first_standing, read_forms}
use Rattle.script_terms.specs.TextNames.{names_with_all}
use Rattle.script_terms.specs.SortForms.{sort_in, sorts_in}
use Rattle.script_terms.specs.Variables.{definition_binder, variables_in}
use Rattle.script_read.proofs.Agreement.{numbered_ok, read_ok}
use Rattle.script_read.proofs.ClearBuilt.{ClearTerm, clear_more, in_left, in_right, in_either}
use Rattle.script_read.proofs.ClearReads.{BindingClear, AllClear, declared_apart, LocalsClear, constant_terms, ClearRead, form_clear}
use Rattle.script_read.proofs.Defining.{variables_fine, nothing_ready, body_ready}
use Rattle.script_terms.proofs.NameFacts.{Within, AllWithin}
use Rattle.script_read.proofs.Fitting.{declared_of, Sound, Reads}
use Rattle.script_read.proofs.Meanings.{live_with, literals_with}
use Rattle.script_terms.proofs.NameFacts.{parameter_reserved, parameter_numbers, all_within_text}
use Rattle.script_terms.proofs.Outcomes.{and_then_ok, mapped_ok, given_ok, ok_same}
use Rattle.script_read.proofs.Paired.{Stands, sound_of, OutlineWithin, outline_within, gone_ok, command_goes, first_stands}
use Rattle.script_read.proofs.Shown.{scene_of, of_sort_ok}
use Rattle.script_read.specs.Scenes.{seen_command}
use Rattle.script_terms.proofs.SortFacts.{VariablesRead, variables_read}
use Rattle.script_read.proofs.Standing.{alike_merged, alike_flattened}
use Rattle.script_read.proofs.TermsMean.{form_reads, ok_on}

-- ---- commands with clear terms

abbrev ClearOne : Type 0
ClearOne = (t : Term) × (is_clear t ≡ true)

abbrev plain : List (Command ClearOne) → List (Command Term)
plain ps = map (with_asserted (λ p. p.0)) ps

abbrev ClearCommands : List (Command Term) → Type 0
ClearCommands cs = (ps : List (Command ClearOne)) × (plain ps ≡ cs)

abbrev pub StepClear : Step → Type 0
StepClear (Ok r) = ClearCommands r.0 × AllClear r.1.sofar.live
StepClear (Err e) = ⊤

unless_clear : (test : Bool) (cause : Cause) (place : ℕ) (r : Step) → (test ≡ false → StepClear r) → StepClear (unless test cause place r)
unless_clear true cause place r h = tt
unless_clear false cause place r h = h refl

then_clear : {A : Type 0} (k : A → Step) (r : Result A Refused) → ((a : A) → r ≡ Ok a → StepClear (k a)) → StepClear (and_then k r)
then_clear k (Ok a) h = h a refl
then_clear k (Err e) h = tt

mapped_clear : {A : Type 0} (f : A → List (Command Term) × Standing) (r : Result A Refused) → ((a : A) → r ≡ Ok a → StepClear (Ok (f a))) → StepClear (mapped f r)
mapped_clear f (Ok a) h = h a refl
mapped_clear f (Err e) h = tt

-- ---- levels

clear_opened : (n : ℕ) (bs : List ReadBinding) → AllClear bs → AllClear (opened level_known n bs)
clear_opened zero bs all = all
clear_opened (suc n) bs all = (tt, clear_opened n bs all)

clear_closed : (n : ℕ) (bs : List ReadBinding) → AllClear bs → AllClear (closed is_level_known n bs)
clear_closed n [] all = tt
clear_closed zero (b ∷ bs) all = all
clear_closed (suc n) (level_known ∷ bs) all = clear_closed n bs all.1
clear_closed (suc n) (_ ∷ bs) all = clear_closed (suc n) bs all.1

clear_merged : (n : ℕ) (bs : List ReadBinding) → AllClear bs → AllClear (merged is_level_known n bs)
clear_merged n [] all = tt
clear_merged zero (b ∷ bs) all = all
clear_merged (suc n) (level_known ∷ bs) all = clear_merged n bs all.1
clear_merged (suc n) (b ∷ bs) all = (subst (λ fs. BindingClear fs b) (sym (alike_merged (suc n) bs).declared) all.0, clear_merged (suc n) bs all.1)

clear_flattened : (bs : List ReadBinding) → AllClear bs → AllClear (flattened is_level_known bs)
clear_flattened [] all = tt
clear_flattened (level_known ∷ bs) all = clear_flattened bs all.1
clear_flattened (b ∷ bs) all = (subst (λ fs. BindingClear fs b) (sym (alike_flattened bs).declared) all.0, clear_flattened bs all.1)

clear_popped : (global : Bool) (n : ℕ) (bs : List ReadBinding) → AllClear bs → AllClear (popped is_level_known global n bs)
clear_popped true n bs all = clear_merged n bs all
clear_popped false n bs all = clear_closed n bs all

clear_emptied : (global : Bool) (bs : List ReadBinding) → AllClear bs → AllClear (emptied is_level_known global bs)
clear_emptied true bs all = clear_flattened bs all
clear_emptied false bs all = tt

-- ---- a declared symbol's name is live

later_some : (b : Bool) (y : Entry) (o : Option Entry) → is_some o ≡ true → is_some (or_later b y o) ≡ true
later_some true y o h = refl
later_some false y o h = h

declared_live : (bs : List ReadBinding) (g : Symbol) → is_among (declared_of bs) g ≡ true → is_some (entry_of bs g.name) ≡ true
declared_live [] g h = absurd cc
declared_live (sort_known k r ∷ bs) g h = declared_live bs g h
declared_live (function_known f ∷ bs) g h = go (either_true (symbol_eq f g) (is_among (declared_of bs) g) h) (declared_live bs g)
  where
    here : (b : Bool) → b ≡ true → is_some (or_later b (symbol_entry f) (entry_of bs g.name)) ≡ true
    here true e = refl
    here false e = absurd cc

    go : (symbol_eq f g ≡ true) ⊎ (is_among (declared_of bs) g ≡ true) → (is_among (declared_of bs) g ≡ true → is_some (entry_of bs g.name) ≡ true) → is_some (or_later (name_eq f.name g.name) (symbol_entry f) (entry_of bs g.name)) ≡ true
    go (inl e) below = here (name_eq f.name g.name) (ap (λ (k : Symbol). name_eq f.name k.name) (sym ((Decides-symbol_eq f g).0 e)) ∙ name_itself f.name)
    go (inr e) below = later_some (name_eq f.name g.name) (symbol_entry f) (entry_of bs g.name) (below e)
declared_live (definition_as j xs body t ∷ bs) g h = later_some (name_eq j g.name) (definition_entry xs t) (entry_of bs g.name) (declared_live bs g h)
declared_live (named_as names f t ls ∷ bs) g h = later_some (is_among_names names g.name) (term_entry t) (entry_of bs g.name) (declared_live bs g h)
declared_live (level_known ∷ bs) g h = declared_live bs g h

-- ---- parameters

abbrev LowerNumbers : ℕ → List ReadLocal → Type 0
LowerNumbers i ls = (g : Symbol) → is_among (local_constants ls) g ≡ true → (k : ℕ) × (k < i) × (r : Sort) × (parameter k r ≡ g)

module _ (fs : List Symbol) (reserved : (g : Symbol) → is_among fs g ≡ true → is_reserved_for_declaring g.name ≡ false) where
  parameter_apart : (i : ℕ) (x : Variable) (ls : List ReadLocal) → LowerNumbers i ls → (g : Symbol) → is_among (local_constants ls ++ fs) g ≡ true → (parameter i x.sort).name ≢ g.name
  parameter_apart i x ls lower g among same = go (in_either (local_constants ls) fs g among)
    where
      go : (is_among (local_constants ls) g ≡ true) ⊎ (is_among fs g ≡ true) → ⊥
      go (inl e) =
          let found = lower g e in
          let number : i ≡ found.0 = parameter_numbers i found.0 x.sort found.2 (same ∙ ap (λ (h : Symbol). h.name) (sym found.3)) in
          let less : found.0 < i = found.1 in
          absurd (omega arith)
      go (inr e) = contrary {A = ⊥} (is_reserved_for_declaring (parameter i x.sort).name) (parameter_reserved i x.sort) (ap is_reserved_for_declaring same ∙ reserved g e)

  lower_more : (i : ℕ) (x : Variable) (ls : List ReadLocal) → LowerNumbers i ls → LowerNumbers (suc i) (parameter_as x (parameter i x.sort).name ∷ ls)
  lower_more i x ls lower g among = go (either_true (symbol_eq (parameter i x.sort) g) (is_among (local_constants ls) g) among)
    where
      go : (symbol_eq (parameter i x.sort) g ≡ true) ⊎ (is_among (local_constants ls) g ≡ true) → (k : ℕ) × (k < suc i) × (r : Sort) × (parameter k r ≡ g)
      go (inl e) = let less : i < suc i = omega arith in (i, less, x.sort, (Decides-symbol_eq (parameter i x.sort) g).0 e)
      go (inr e) =
          let found = lower g e in
          let before : found.0 < i = found.1 in
          let less : found.0 < suc i = omega arith in
          (found.0, less, found.2, found.3)

  parameters_clear : (i : ℕ) (xs : List Variable) (ls : List ReadLocal) → LowerNumbers i ls → LocalsClear fs ls → LocalsClear fs (parameters_read xs (parameters_from i xs) ls)
  parameters_clear i [] ls lower locals = locals
  parameters_clear i (x ∷ xs) ls lower locals =
      parameters_clear (suc i) xs (parameter_as x (parameter i x.sort).name ∷ ls) (lower_more i x ls lower) (record {
        terms = λ n t h. constant_terms fs ls x (parameter i x.sort).name n t (name_eq x.name n) locals.terms h;
        apart = apart_front (parameter i x.sort) (local_constants ls ++ fs) locals.apart (parameter_apart i x ls lower);
      })

parameter_or_before : (i : ℕ) (xs : List Variable) (ls : List ReadLocal) (g : Symbol) → is_among (local_constants (parameters_read xs (parameters_from i xs) ls)) g ≡ true → (is_among (parameters_from i xs) g ≡ true) ⊎ (is_among (local_constants ls) g ≡ true)
parameter_or_before i [] ls g h = inr h
parameter_or_before i (x ∷ xs) ls g h = go (parameter_or_before (suc i) xs (parameter_as x (parameter i x.sort).name ∷ ls) g h)
  where
    split : (symbol_eq (parameter i x.sort) g ≡ true) ⊎ (is_among (local_constants ls) g ≡ true) → ((symbol_eq (parameter i x.sort) g || is_among (parameters_from (suc i) xs) g) ≡ true) ⊎ (is_among (local_constants ls) g ≡ true)
    split (inl e) = inl (left_true (symbol_eq (parameter i x.sort) g) (is_among (parameters_from (suc i) xs) g) e)
    split (inr e) = inr e

    go : (is_among (parameters_from (suc i) xs) g ≡ true) ⊎ (is_among (local_constants (parameter_as x (parameter i x.sort).name ∷ ls)) g ≡ true) → ((symbol_eq (parameter i x.sort) g || is_among (parameters_from (suc i) xs) g) ≡ true) ⊎ (is_among (local_constants ls) g ≡ true)
    go (inl e) = inl (right_true (symbol_eq (parameter i x.sort) g) (is_among (parameters_from (suc i) xs) g) e)
    go (inr e) = split (either_true (symbol_eq (parameter i x.sort) g) (is_among (local_constants ls) g) e)

only_parameters : (xs : List Variable) (fs : List Symbol) (g : Symbol) → is_among (local_constants (parameters_read xs (parameters_from 0 xs) []) ++ fs) g ≡ true → is_among (parameters_from 0 xs ++ fs) g ≡ true
only_parameters xs fs g among = go (in_either (local_constants (parameters_read xs (parameters_from 0 xs) [])) fs g among)
  where
    first : (is_among (parameters_from 0 xs) g ≡ true) ⊎ (false ≡ true) → is_among (parameters_from 0 xs ++ fs) g ≡ true
    first (inl e) = in_left (parameters_from 0 xs) fs g e
    first (inr e) = absurd cc

    go : (is_among (local_constants (parameters_read xs (parameters_from 0 xs) [])) g ≡ true) ⊎ (is_among fs g ≡ true) → is_among (parameters_from 0 xs ++ fs) g ≡ true
    go (inl e) = first (parameter_or_before 0 xs [] g e)
    go (inr e) = in_right (parameters_from 0 xs) fs g e

pub nothing_clear : (fs : List Symbol) → Apart fs → LocalsClear fs []
nothing_clear fs apart = record { terms = λ n t h. no_term n t h; apart = apart }
  where
    no_term : (n : Name) (t : Term) → None ≡ Some t → ClearTerm fs t
    no_term n t h = absurd cc

no_lower : LowerNumbers 0 []
no_lower g among = absurd cc

-- ---- literals

constant_shape : (f : Symbol) (args : List Sort) (t : Term) → boolean_constant f args ≡ Some t → constant f ≡ t
constant_shape f [] t h = go (sort_eq f.result bool) h
  where
    go : (b : Bool) → cond b (Some (constant f)) None ≡ Some t → constant f ≡ t
    go true e = cc
    go false e = absurd cc
constant_shape f (a ∷ args) t h = absurd cc

entry_shape : (o : Option Entry) (t : Term) → constant_entry o ≡ Some t → (f : Symbol) × (constant f ≡ t)
entry_shape (Some (symbol_entry f)) t h = (f, constant_shape f f.args t h)
entry_shape (Some (definition_entry xs u)) t h = absurd cc
entry_shape (Some (term_entry u)) t h = absurd cc
entry_shape None t h = absurd cc

declared_shape : (live : List ReadBinding) (o : Option Name) (t : Term) → declared_constant live o ≡ Some t → (f : Symbol) × (constant f ≡ t)
declared_shape live None t h = absurd cc
declared_shape live (Some n) t h = entry_shape (entry_of live n) t h

negation_clear : (live : List ReadBinding) (c : Form) (o : Option Term) (t : Term) → declared_constant live (symbol_in c) ≡ o → option_map negated o ≡ Some t → is_clear t ≡ true
negation_clear live c None t entry h = absurd cc
negation_clear live c (Some u) t entry h =
    let shape = declared_shape live (symbol_in c) u entry in
    let same : negated u ≡ t = cc in
    ap is_clear (sym same) ∙ ap (λ v. is_clear (negated v)) (sym shape.1)

literal_clear : (live : List ReadBinding) (f : Form) (t : Term) → literal live f ≡ Some t → is_clear t ≡ true
literal_clear live (atom k) t h = ap is_clear (sym (declared_shape live (symbol_of k) t h).1)
literal_clear live (node place (f ⨾ c ⨾ none)) t h = go (is_name (codes "not") (symbol_in f)) h
  where
    go : (b : Bool) → cond b (option_map negated (declared_constant live (symbol_in c))) None ≡ Some t → is_clear t ≡ true
    go true k = negation_clear live c (declared_constant live (symbol_in c)) t refl k
    go false k = absurd cc
literal_clear live (node place _) t h = absurd cc

literals_clear : (live : List ReadBinding) (gs : Forms) (ts : List Term) → literals_in live gs ≡ Ok ts → (ps : List ClearOne) × (map (λ (p : ClearOne). p.0) ps ≡ ts)
literals_clear live none ts h = ([], ok_same [] ts (Ok []) refl h)
literals_clear live (f ⨾ gs) ts h =
    let (t, here, rest) = and_then_ok (λ t. mapped (λ us. t ∷ us) (literals_in live gs)) (given BadForm (place_of f) (literal live f)) ts h in
    let (us, behind_it, all) = mapped_ok (λ us. t ∷ us) (literals_in live gs) ts rest in
    let others = literals_clear live gs us behind_it in
    ((t, literal_clear live f t (given_ok BadForm (place_of f) (literal live f) t here)) ∷ others.0, ap (λ vs. t ∷ vs) others.1 ∙ all)

-- ---- steps

module _ (ns : List Name) (s : Standing) (stands : Stands ns s) (all : AllClear s.sofar.live) where
  abbrev declared_before : List Symbol
  declared_before = declared_of s.sofar.live

  sound : Sound ns declared_before s.sofar
  sound = sound_of ns s stands

  apart : Apart declared_before
  apart = declared_apart s.sofar.live all

  asserts_clear : (f : Form) → Within ns f → StepClear (asserts f s)
  asserts_clear f within =
      mapped_clear (asserted_with s) (of_sort bool (place_of f) (read f no_context s.sofar)) (λ p h.
      let is : read f no_context s.sofar ≡ Ok p = of_sort_ok bool (place_of f) (read f no_context s.sofar) p h in
      let b : ClearRead declared_before p = ok_on (read f no_context s.sofar) (ClearRead declared_before) p (form_clear f ns declared_before within no_context s.sofar (nothing_ready ns declared_before s.sofar sound) (nothing_clear declared_before apart) all) is in
      let clear : is_clear p.0 ≡ true = and_true (is_clear_below [] p.0) _ b.term.clear (free_distinct declared_before p.0 apart b.term.within) in
      ((assert (suc s.asserted) (p.0, clear) ∷ [], refl), b.live))

  body_clear : (n : Name) (xs : List Variable) (to : Sort) (body : Form) → VariablesRead ns definition_binder [] xs → Within ns body → StepClear (read_body n xs to body s)
  body_clear n xs to body variables within =
      mapped_clear (defined_with n xs body s) (of_sort to (place_of body) (read body (body_context n xs) s.sofar)) (λ p h.
      let is : read body (body_context n xs) s.sofar ≡ Ok p = of_sort_ok to (place_of body) (read body (body_context n xs) s.sofar) p h in
      let ready = body_ready ns declared_before s.sofar sound xs (variables_fine ns [] xs variables.sound) in
      let reads : Reads ns declared_before (body_context n xs).locals (λ E m. mean body E m) s.sofar p = ok_on (read body (body_context n xs) s.sofar) (Reads ns declared_before (body_context n xs).locals (λ E m. mean body E m) s.sofar) p (form_reads body ns declared_before within (body_context n xs) s.sofar ready) is in
      let locals : LocalsClear declared_before (body_context n xs).locals = parameters_clear declared_before (λ g k. (sound.symbols g k).1) 0 xs [] no_lower (nothing_clear declared_before apart) in
      let b : ClearRead (local_constants (body_context n xs).locals ++ declared_before) p = ok_on (read body (body_context n xs) s.sofar) (ClearRead (local_constants (body_context n xs).locals ++ declared_before)) p (form_clear body ns declared_before within (body_context n xs) s.sofar ready locals all) is in
      let term : ClearTerm (parameters_from 0 xs ++ declared_before) p.0 = clear_more (local_constants (body_context n xs).locals ++ declared_before) (parameters_from 0 xs ++ declared_before) p.0 (only_parameters xs declared_before) b.term in
      (([], refl), (subst (λ gs. ClearTerm (parameters_from 0 xs ++ gs) p.0) (sym reads.moves.sound.declared) term, b.live)))

  declarable_clear : (n : At Name) (next : Step) → (is_some (entry_of s.sofar.live n.it) ≡ false → StepClear next) → StepClear (declarable (live_of s) n next)
  declarable_clear n next h =
      unless_clear (is_reserved_for_declaring n.it) ReservedName n.place (unless (is_some (entry_of (live_of s) n.it)) Redeclared n.place next) (λ allowed.
      unless_clear (is_some (entry_of (live_of s) n.it)) Redeclared n.place next h)

  sort_declarable_clear : (n : At Name) (next : Step) → StepClear next → StepClear (sort_declarable (live_of s) n next)
  sort_declarable_clear n next h =
      unless_clear (is_reserved_for_sorts n.it) ReservedName n.place (unless (is_some (live_sorts (live_of s) n.it)) Redeclared n.place next) (λ allowed.
      unless_clear (is_some (live_sorts (live_of s) n.it)) Redeclared n.place next (λ new. h))

  no_parameters_clear : (parameters : Forms) (next : Step) → StepClear next → StepClear (without_parameters parameters next)
  no_parameters_clear none next h = h
  no_parameters_clear (f ⨾ gs) next h = tt

  declares_sort_clear : (n : At Name) (arity : At ℕ) → StepClear (declares_sort n arity s)
  declares_sort_clear n arity =
      let next : Step = Ok (declare_sort n.it ∷ [], begun_with s (sort_known n.it (free_sort n.it) ∷ live_of s)) in
      sort_declarable_clear n (unless (not (arity.it == 0)) SortArity arity.place next)
      (unless_clear (not (arity.it == 0)) SortArity arity.place next (λ none_there. ((declare_sort n.it ∷ [], refl), (tt, all))))

  defines_sort_clear : (n : At Name) (parameters : Forms) (f : Form) → StepClear (defines_sort n parameters f s)
  defines_sort_clear n parameters f =
      let make : Sort → List (Command Term) × Standing = λ to. ([], begun_with s (sort_known n.it to ∷ live_of s)) in
      sort_declarable_clear n (without_parameters parameters (mapped make (sort_in (live_sorts (live_of s)) f)))
      (no_parameters_clear parameters (mapped make (sort_in (live_sorts (live_of s)) f))
      (mapped_clear make (sort_in (live_sorts (live_of s)) f) (λ to h. (([], refl), (tt, all)))))

  declares_symbol_clear : (n : At Name) (arguments : Forms) (f : Form) → StepClear (declares_symbol n arguments f s)
  declares_symbol_clear n arguments f =
      let result : List Sort → Step = λ args. mapped (λ to. declares s (symbol_of_sorts n.it args to)) (sort_in (live_sorts (live_of s)) f) in
      declarable_clear n (and_then result (sorts_in (live_sorts (live_of s)) arguments)) (λ new.
      then_clear result (sorts_in (live_sorts (live_of s)) arguments) (λ args h.
      mapped_clear (λ to. declares s (symbol_of_sorts n.it args to)) (sort_in (live_sorts (live_of s)) f) (λ to k. (
        (declare (symbol_of_sorts n.it args to) ∷ [], refl),
        (λ g among same. contrary {A = ⊥} (is_some (entry_of s.sofar.live n.it)) (ap (λ m. is_some (entry_of s.sofar.live m)) same ∙ declared_live s.sofar.live g among) new, all),
      ))))

  defines_symbol_clear : (n : At Name) (parameters : Forms) (f body : Form) → AllWithin ns parameters → Within ns body → StepClear (defines_symbol n parameters f body s)
  defines_symbol_clear n parameters f body within_parameters within_body =
      let result : List Variable → Step = λ xs. and_then (λ to. read_body n.it xs to body s) (sort_in (live_sorts (live_of s)) f) in
      declarable_clear n (and_then result (variables_in definition_binder (live_sorts (live_of s)) [] parameters)) (λ new.
      then_clear result (variables_in definition_binder (live_sorts (live_of s)) [] parameters) (λ xs h.
      then_clear (λ to. read_body n.it xs to body s) (sort_in (live_sorts (live_of s)) f) (λ to k.
      body_clear n.it xs to body (variables_read ns definition_binder (live_sorts (live_of s)) [] parameters xs sound.sorts within_parameters h) within_body)))

  assumes_clear : (gs : Forms) → StepClear (assumes gs s)
  assumes_clear gs = mapped_clear (λ ts. (check_assuming ts ∷ [], begun_with s (live_of s))) (literals_in (live_of s) gs) (λ ts h.
      let found = literals_clear (live_of s) gs ts h in
      ((check_assuming found.0 ∷ [], ap (λ us. check_assuming us ∷ []) found.1), all))

  pushed_clear : (test : Bool) (place n : ℕ) → StepClear (pushed_unless test place n s)
  pushed_clear true place n = tt
  pushed_clear false place n = ((push n ∷ [], refl), clear_opened n (live_of s) all)

  pops_clear : (command place n : ℕ) → StepClear (pops command place n s)
  pops_clear command place n =
      let next : Step = Ok (pop n ∷ [], begun_with s (popped is_level_known s.global n (live_of s))) in
      unless_clear (nat_lt most_levels n) NumberLimit place (unless (nat_lt (open_levels s) n) PopTooFar command next) (λ few.
      unless_clear (nat_lt (open_levels s) n) PopTooFar command next (λ open_ones.
      ((pop n ∷ [], refl), clear_popped s.global n (live_of s) all)))

  sets_clear : (place : ℕ) (o : Option Bool) → StepClear (sets_globals place o s)
  sets_clear place None = tt
  sets_clear place (Some b) = unless_clear s.begun UnsupportedOption place (Ok (globals b ∷ [], record { sofar = s.sofar; global = b; begun = false; asserted = s.asserted })) (λ early. ((globals b ∷ [], refl), all))

  step_clear : (place : ℕ) (text : List ℕ) (o : Outline) → OutlineWithin ns o → StepClear (step place text s o)
  step_clear place text passing within = ((passed text ∷ [], refl), all)
  step_clear place text (global_option f) within = sets_clear place (truth_in f)
  step_clear place text (sort_declaration n arity) within = declares_sort_clear n arity
  step_clear place text (sort_definition n parameters f) within = defines_sort_clear n parameters f
  step_clear place text (symbol_declaration n arguments f) within = declares_symbol_clear n arguments f
  step_clear place text (symbol_definition n parameters f body) within = defines_symbol_clear n parameters f body within.0 within.1
  step_clear place text (assertion f) within = asserts_clear f within
  step_clear place text checking within = ((check ∷ [], refl), all)
  step_clear place text (assuming gs) within = assumes_clear gs
  step_clear place text (pushing n) within = pushed_clear (nat_lt most_levels (levels_written n) || nat_lt most_levels (open_levels s + levels_written n)) (place_or n place) (levels_written n)
  step_clear place text (popping n) within = pops_clear place (place_or n place) (levels_written n)
  step_clear place text resetting within = ((reset ∷ [], refl), tt)
  step_clear place text resetting_assertions within = ((reset_assertions ∷ [], refl), clear_emptied s.global (live_of s) all)
  step_clear place text ending within = ((exit ∷ [], refl), all)

outlined_clear : (ns : List Name) (f : Form) (s : Standing) (o : Result Outline Refused) → Stands ns s → AllClear s.sofar.live → ((x : Outline) → o ≡ Ok x → OutlineWithin ns x) → StepClear (and_then (step (place_of f) (form_text f) s) o)
outlined_clear ns f s (Ok o) stands all within = step_clear ns s stands all (place_of f) (form_text f) o (within o refl)
outlined_clear ns f s (Err e) stands all within = tt

pub command_clear : (ns : List Name) (f : Form) (s : Standing) → Stands ns s → AllClear s.sofar.live → Within ns f → StepClear (read_command f s)
command_clear ns f s stands all within = outlined_clear ns f s (outline f) stands all (λ o h. outline_within ns f o within h)

commands_clear : (ns : List Name) (i : ℕ) (fs : Forms) (s : Standing) (r : List (Command Term) × Supply) → Stands ns s → AllClear s.sofar.live → AllWithin ns fs → read_commands i fs s ≡ Ok r → ClearCommands r.0
commands_clear ns i none s r stands all within h = ([], ap (λ (x : List (Command Term) × Supply). x.0) (ok_same ([], s.sofar.supply) r (read_commands i none s) refl h))
commands_clear ns i (f ⨾ fs) s r stands all within h =
    let (p, here, rest) = and_then_ok (λ p. mapped (behind p.0) (read_commands (suc i) fs p.1)) (numbered i (read_command f s)) r h in
    let (q, more, whole) = mapped_ok (behind p.0) (read_commands (suc i) fs p.1) r rest in
    let done : read_command f s ≡ Ok p = numbered_ok i (read_command f s) p here in
    let gone = gone_ok ns (read_command f s) p (seen_command f (scene_of s)).0 done (command_goes ns f s stands within.0) in
    let now : ClearCommands p.0 × AllClear p.1.sofar.live = subst StepClear done (command_clear ns f s stands all within.0) in
    let others : ClearCommands q.0 = commands_clear ns (suc i) fs p.1 q gone.1 now.1 within.1 more in
    let joined : plain now.0.0 ++ plain others.0 ≡ p.0 ++ q.0 = λ j. now.0.1 j ++ others.1 j in
    (now.0.0 ++ others.0, map-append (with_asserted (λ (c : ClearOne). c.0)) now.0.0 others.0 ∙ joined ∙ ap (λ (x : List (Command Term) × Supply). x.0) whole)

forms_clear : (b : List ℕ) (o : Result Forms Fault) (r : List (Command Term) × Supply) → read_forms b o ≡ Ok r → ClearCommands r.0
forms_clear b (Ok fs) r h = commands_clear (names_with_all [] fs) 1 fs (first_standing fs) r (first_stands fs) tt (all_within_text fs) (read_ok b (read_commands 1 fs (first_standing fs)) r h)
forms_clear b (Err e) r h = absurd cc

all_clear : (xs ys : List ClearOne) → list_all is_clear (map (λ (p : ClearOne). p.0) xs ++ map (λ (p : ClearOne). p.0) ys) ≡ true
all_clear [] [] = refl
all_clear [] (p ∷ ys) = and_true (is_clear p.0) (list_all is_clear (map (λ (q : ClearOne). q.0) ys)) p.1 (all_clear [] ys)
all_clear (p ∷ xs) ys = and_true (is_clear p.0) (list_all is_clear (map (λ (q : ClearOne). q.0) xs ++ map (λ (q : ClearOne). q.0) ys)) p.1 (all_clear xs ys)

clear_at : (cs : List (Command Term)) (k : ℕ) → ClearCommands cs → list_all is_clear (live cs k ++ literals cs k) ≡ true
clear_at cs k found =
    ap (λ ts. list_all is_clear (ts ++ literals cs k)) (ap (λ ds. live ds k) (sym found.1) ∙ live_with (λ (p : ClearOne). p.0) found.0 k)
    ∙ ap (λ ts. list_all is_clear (map (λ (p : ClearOne). p.0) (live found.0 k) ++ ts)) (ap (λ ds. literals ds k) (sym found.1) ∙ literals_with (λ (p : ClearOne). p.0) found.0 k)
    ∙ all_clear (live found.0 k) (literals found.0 k)

pub read_terms_clear : ReadTermsAreClear
read_terms_clear b r h k = clear_at r.0 k (forms_clear b (forms_to_exit b) r h)
