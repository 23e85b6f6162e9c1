-- The commands of an accepted text with terms and those with forms go in pairs: each form that is asserted or assumed means
-- what its term means.
use Rattle.std.proofs.Common.{◌≡◌, ◌∙◌, sym, ap, subst, refl, ℕ, suc, ◌+◌, ◌==◌, Bool, true, false, not, ◌||◌, List, [], ◌∷◌, ◌++◌, map, Option, Some, None, Result, Ok, Err}
use Rattle.std.specs.Prelude.{⊤, cond, nat_lt, is_some, option_map, if◌then◌else◌}
use Rattle.std.specs.List.{list_all}
use Rattle.std.proofs.lemmas.List.{map-append}
use Rattle.smt_lex.specs.Names.{Name, is_command_word, is_reserved_for_declaring, is_reserved_for_sorts}
use Rattle.smt_lex.specs.Lex.{Fault, symbol_of}
use Rattle.smt_lex.specs.Forms.{Form, atom, node, Forms, none, ◌⨾◌, forms_to_exit}
use Rattle.smt_terms.specs.Free.{name_among}
use Rattle.smt_terms.specs.Fresh.{Supply}
use Rattle.smt_terms.specs.Models.{Model}
use Rattle.smt_terms.specs.Rank.{is_sort, sort_of, is_regular}
use Rattle.smt_terms.specs.Sorts.{Sort, bool, free_sort, Symbol, Variable}
use Rattle.smt_terms.specs.SubstLaws.{GivesNone}
use Rattle.smt_terms.specs.Term.{Term}
use Rattle.smt_terms.specs.Val.{Env, no_variables}
use Rattle.smt_terms.proofs.Tests.{and_true}
use Rattle.script_terms.specs.declared.causes.Cause.{Cause}
use Rattle.script_terms.specs.declared.causes.Cause.TheVariants.{WrongSort, BadForm, Redeclared, ReservedName, PopTooFar, NumberLimit, SortArity, UnsupportedOption, UnknownCommand}
use Rattle.script_read.specs.Commands.{Command, passed, declare_sort, declare, assert, check, check_assuming, push, pop, reset, reset_assertions, globals, exit, with_asserted}
use Rattle.script_read.specs.Laws.{denoted}
use Rattle.script_read.specs.Mean.{Denoted, accepted_or, mean, meaning, with_arguments}
use Rattle.script_read.specs.Outlines.{At, CommandWord, set_logic_word, set_info_word, set_option_word, get_info_word, get_option_word, echo_word, get_model_word, declare_sort_word, define_sort_word, declare_const_word, declare_fun_word, define_fun_word, assert_word, check_sat_word, check_sat_assuming_word, push_word, pop_word, reset_word, reset_assertions_word, exit_word, Outline, passing, global_option, sort_declaration, sort_definition, symbol_declaration, symbol_definition, assertion, checking, assuming, pushing, popping, resetting, resetting_assertions, ending, levels_written, where_so, of_both, symbol_at, numeral_at, list_in, is_globals, shape, shaped, outline_by, outline, supported, placed}
use Rattle.smt_lex.specs.FormText.{form_text}
use Rattle.script_terms.specs.Parts.{place_of, is_symbol, is_keyword, is_text, keyword_in, word_in}
use Rattle.script_terms.specs.Read.{has_sort, read}
use Rattle.script_terms.specs.Reading.{ReadBinding, sort_known, function_known, level_known, Sofar, as_bindings, live_sorts, is_level_known, entry_of}
use Rattle.script_terms.specs.Refusals.{Refused, at, and_then, unless, mapped, given}
use Rattle.script_read.specs.Scenes.{Asserted, is_true_symbol, naming, literals_meant, seen, seen_or_none, seen_command, commands_seen, symbol_meant, first_scene}
use Rattle.script_terms.specs.Scope.{opened, popped}
use Rattle.script_read.specs.Script.{Standing, Step, live_of, begun_with, declarable, sort_declarable, declares_sort, without_parameters, defines_sort, declares, symbol_of_sorts, declares_symbol, body_context, defined_with, of_sort, read_body, defines_symbol, no_context, asserted_with, asserts, literal, literals_in, assumes, most_levels, open_levels, place_or, pushed_unless, pops, truth_in, sets_globals, step, read_command, numbered, behind, read_commands, first_standing, read_forms, script}
use Rattle.script_terms.specs.TextNames.{names_with_all}
use Rattle.script_terms.specs.SortForms.{sort_in, sorts_in}
use Rattle.script_terms.specs.Variables.{definition_binder, variables_in}
use Rattle.script_read.proofs.Agreement.{command_shows, shown_at, numbered_ok, read_ok}
use Rattle.script_read.proofs.Bindings.{read_leads}
use Rattle.script_read.proofs.Defining.{variables_fine, nothing_ready, body_ready, agrees_arguments}
use Rattle.script_terms.proofs.NameFacts.{Within, AllWithin}
use Rattle.script_read.proofs.Fitting.{declared_of, Unassigned, Given, Sound, Built, Moves, Reads}
use Rattle.script_read.proofs.Literals.{LiteralRead, literal_means}
use Rattle.script_terms.proofs.NameFacts.{all_within_text}
use Rattle.script_read.proofs.Naming.{agrees_alone}
use Rattle.script_terms.proofs.Outcomes.{and_then_ok, mapped_ok, given_ok, ok_same}
use Rattle.script_read.proofs.RegularReads.{AllRegular, RegularRead, form_regular, parameters_regular, nothing_regular}
use Rattle.script_read.proofs.RegularStanding.{regular_opened, regular_popped, regular_emptied, sorts_fine, literal_regular}
use Rattle.script_read.proofs.Shown.{scene_of, bindings_of, truth_of_form, same_symbol, of_sort_ok, leads_ok}
use Rattle.script_terms.proofs.SortFacts.{VariablesRead, variables_read, sort_fine, unless_passed}
use Rattle.script_read.proofs.Standing.{sound_built, built_opened, built_popped, built_emptied}
use Rattle.script_read.proofs.TermsMean.{form_reads, ok_on, the_sort}

-- ---- pairs of commands

-- a term with the form that it is read from
pub record Meant : Type 0 where
  pub term : Term
  pub form : Asserted
  pub same : (m : Model) → mean form.form (meaning form.bindings m) m ≡ denoted m no_variables term
  pub sort : sort_of term ≡ Some bool
  pub rules : is_regular term ≡ true

abbrev pub with_terms : List (Command Meant) → List (Command Term)
with_terms ps = map (with_asserted (λ p. p.term)) ps

abbrev pub with_forms : List (Command Meant) → List (Command Asserted)
with_forms ps = map (with_asserted (λ p. p.form)) ps

abbrev pub Pairs : List (Command Term) → List (Command Asserted) → Type 0
Pairs cs ds = (ps : List (Command Meant)) × (with_terms ps ≡ cs) × (with_forms ps ≡ ds)

-- what is known between two commands
pub record Stands (ns : List Name) (s : Standing) : Type 0 where
  pub text : GivesNone s.sofar.supply ns
  pub built : Built ns s.sofar.supply s.sofar.live
  pub rules : AllRegular s.sofar.live

-- a step gives what the outline shows, in pairs, and leads to where all is known again
abbrev pub Goes : List Name → Step → List (Command Asserted) → Type 0
Goes ns (Ok r) ds = Pairs r.0 ds × Stands ns r.1
Goes ns (Err e) ds = ⊤

stands_with : (ns : List Name) (s : Standing) (bs : List ReadBinding) → Stands ns s → Built ns s.sofar.supply bs → AllRegular bs → Stands ns (begun_with s bs)
stands_with ns s bs stands built rules = record { text = stands.text; built = built; rules = rules }

pub sound_of : (ns : List Name) (s : Standing) → Stands ns s → Sound ns (declared_of s.sofar.live) s.sofar
sound_of ns s stands = sound_built ns s.sofar.supply stands.text s.sofar.live stands.built

-- ---- tests before a step

unless_goes : (ns : List Name) (test : Bool) (cause : Cause) (place : ℕ) (r : Step) (ds : List (Command Asserted)) → (test ≡ false → Goes ns r ds) → Goes ns (unless test cause place r) ds
unless_goes ns true cause place r ds h = tt
unless_goes ns false cause place r ds h = h refl

then_goes : {A : Type 0} (ns : List Name) (k : A → Step) (r : Result A Refused) (ds : List (Command Asserted)) → ((a : A) → r ≡ Ok a → Goes ns (k a) ds) → Goes ns (and_then k r) ds
then_goes ns k (Ok a) ds h = h a refl
then_goes ns k (Err e) ds h = tt

mapped_goes : {A : Type 0} (ns : List Name) (f : A → List (Command Term) × Standing) (r : Result A Refused) (ds : List (Command Asserted)) → ((a : A) → r ≡ Ok a → Goes ns (Ok (f a)) ds) → Goes ns (mapped f r) ds
mapped_goes ns f (Ok a) ds h = h a refl
mapped_goes ns f (Err e) ds h = tt

declarable_goes : (ns : List Name) (live : List ReadBinding) (n : At Name) (next : Step) (ds : List (Command Asserted)) → (is_reserved_for_declaring n.it ≡ false → Goes ns next ds) → Goes ns (declarable live n next) ds
declarable_goes ns live n next ds h =
    unless_goes ns (is_reserved_for_declaring n.it) ReservedName n.place (unless (is_some (entry_of live n.it)) Redeclared n.place next) ds (λ allowed.
    unless_goes ns (is_some (entry_of live n.it)) Redeclared n.place next ds (λ new. h allowed))

sort_declarable_goes : (ns : List Name) (live : List ReadBinding) (n : At Name) (next : Step) (ds : List (Command Asserted)) → Goes ns next ds → Goes ns (sort_declarable live n next) ds
sort_declarable_goes ns live n next ds h =
    unless_goes ns (is_reserved_for_sorts n.it) ReservedName n.place (unless (is_some (live_sorts live n.it)) Redeclared n.place next) ds (λ allowed.
    unless_goes ns (is_some (live_sorts live n.it)) Redeclared n.place next ds (λ new. h))

no_parameters_goes : (ns : List Name) (parameters : Forms) (next : Step) (ds : List (Command Asserted)) → Goes ns next ds → Goes ns (without_parameters parameters next) ds
no_parameters_goes ns none next ds h = h
no_parameters_goes ns (f ⨾ fs) next ds h = tt

-- ---- the forms of a command are those of the text

abbrev pub OutlineWithin : List Name → Outline → Type 0
OutlineWithin ns (symbol_declaration n arguments f) = name_among ns n.it ≡ true
OutlineWithin ns (symbol_definition n parameters f body) = AllWithin ns parameters × Within ns body
OutlineWithin ns (assertion f) = Within ns f
OutlineWithin ns _ = ⊤

where_within : (ns : List Name) (b : Bool) (x o : Outline) → OutlineWithin ns x → where_so b x ≡ Some o → OutlineWithin ns o
where_within ns true x o h e = let same : x ≡ o = cc in subst (OutlineWithin ns) same h
where_within ns false x o h e = absurd cc

option_within : (ns : List Name) (b g : Bool) (f : Option Form) (o : Outline) → where_so b (cond g (global_option f) passing) ≡ Some o → OutlineWithin ns o
option_within ns b true f o e = where_within ns b (global_option f) o tt e
option_within ns b false f o e = where_within ns b passing o tt e

some_within : (ns : List Name) (x o : Outline) → OutlineWithin ns x → Some x ≡ Some o → OutlineWithin ns o
some_within ns x o h e = let same : x ≡ o = cc in subst (OutlineWithin ns) same h

both_within : {A B : Type 0} (ns : List Name) (make : A → B → Outline) (a : Option A) (b : Option B) (o : Outline) → ((x : A) (y : B) → a ≡ Some x → b ≡ Some y → OutlineWithin ns (make x y)) → of_both make a b ≡ Some o → OutlineWithin ns o
both_within ns make (Some a) (Some b) o h e = some_within ns (make a b) o (h a b refl refl) e
both_within ns make (Some a) None o h e = absurd cc
both_within ns make None b o h e = absurd cc

mapped_within : {A : Type 0} (ns : List Name) (make : A → Outline) (a : Option A) (o : Outline) → ((x : A) → a ≡ Some x → OutlineWithin ns (make x)) → option_map make a ≡ Some o → OutlineWithin ns o
mapped_within ns make (Some a) o h e = some_within ns (make a) o (h a refl) e
mapped_within ns make None o h e = absurd cc

symbol_within : (ns : List Name) (f : Form) (n : At Name) → Within ns f → symbol_at f ≡ Some n → name_among ns n.it ≡ true
symbol_within ns (node place fs) n within e = absurd cc
symbol_within ns (atom t) n within e = go (symbol_of t) refl e
  where
    go : (o : Option Name) → symbol_of t ≡ o → placed (atom t) o ≡ Some n → name_among ns n.it ≡ true
    go None eo k = absurd cc
    go (Some m) eo k = let same : record { it = m; place = place_of (atom t) } ≡ n = cc in ap (λ (a : At Name). name_among ns a.it) (sym same) ∙ within m eo

list_within : (ns : List Name) (f : Form) (fs : Forms) → Within ns f → list_in f ≡ Some fs → AllWithin ns fs
list_within ns (node place gs) fs within e = let same : gs ≡ fs = cc in subst (AllWithin ns) same within
list_within ns (atom t) fs within e = absurd cc

shape_within : (ns : List Name) (w : CommandWord) (fs : Forms) (o : Outline) → AllWithin ns fs → shape w fs ≡ Some o → OutlineWithin ns o
shape_within ns set_logic_word (f ⨾ none) o within e = where_within ns (is_symbol f) passing o tt e
shape_within ns set_info_word (k ⨾ none) o within e = where_within ns (is_keyword k) passing o tt e
shape_within ns set_info_word (k ⨾ f ⨾ none) o within e = where_within ns (is_keyword k) passing o tt e
shape_within ns set_option_word (k ⨾ none) o within e = option_within ns (is_keyword k) (is_globals (keyword_in k)) None o e
shape_within ns set_option_word (k ⨾ f ⨾ none) o within e = option_within ns (is_keyword k) (is_globals (keyword_in k)) (Some f) o e
shape_within ns get_info_word (k ⨾ none) o within e = where_within ns (is_keyword k) passing o tt e
shape_within ns get_option_word (k ⨾ none) o within e = where_within ns (is_keyword k) passing o tt e
shape_within ns echo_word (t ⨾ none) o within e = where_within ns (is_text t) passing o tt e
shape_within ns get_model_word none o within e = some_within ns passing o tt e
shape_within ns declare_sort_word (n ⨾ i ⨾ none) o within e = both_within ns sort_declaration (symbol_at n) (numeral_at i) o (λ x y h k. tt) e
shape_within ns define_sort_word (n ⨾ ps ⨾ s ⨾ none) o within e = both_within ns (λ name parameters. sort_definition name parameters s) (symbol_at n) (list_in ps) o (λ x y h k. tt) e
shape_within ns declare_const_word (n ⨾ s ⨾ none) o within e = mapped_within ns (λ name. symbol_declaration name none s) (symbol_at n) o (λ x h. symbol_within ns n x within.0 h) e
shape_within ns declare_fun_word (n ⨾ ss ⨾ s ⨾ none) o within e = both_within ns (λ name arguments. symbol_declaration name arguments s) (symbol_at n) (list_in ss) o (λ x y h k. symbol_within ns n x within.0 h) e
shape_within ns define_fun_word (n ⨾ ps ⨾ s ⨾ t ⨾ none) o within e = both_within ns (λ name parameters. symbol_definition name parameters s t) (symbol_at n) (list_in ps) o (λ x y h k. (list_within ns ps y within.1.0 k, within.1.1.1.0)) e
shape_within ns assert_word (t ⨾ none) o within e = some_within ns (assertion t) o within.0 e
shape_within ns check_sat_word none o within e = some_within ns checking o tt e
shape_within ns check_sat_assuming_word (ls ⨾ none) o within e = mapped_within ns assuming (list_in ls) o (λ x h. tt) e
shape_within ns push_word none o within e = some_within ns (pushing None) o tt e
shape_within ns push_word (i ⨾ none) o within e = mapped_within ns (λ n. pushing (Some n)) (numeral_at i) o (λ x h. tt) e
shape_within ns pop_word none o within e = some_within ns (popping None) o tt e
shape_within ns pop_word (i ⨾ none) o within e = mapped_within ns (λ n. popping (Some n)) (numeral_at i) o (λ x h. tt) e
shape_within ns reset_word none o within e = some_within ns resetting o tt e
shape_within ns reset_assertions_word none o within e = some_within ns resetting_assertions o tt e
shape_within ns exit_word none o within e = some_within ns ending o tt e
shape_within ns _ _ o within e = absurd cc

shaped_within : (ns : List Name) (place : ℕ) (fs : Forms) (w : Option CommandWord) (o : Outline) → AllWithin ns fs → shaped place fs w ≡ Ok o → OutlineWithin ns o
shaped_within ns place fs None o within e = absurd cc
shaped_within ns place fs (Some w) o within e = shape_within ns w fs o within (given_ok BadForm place (shape w fs) o e)

pub outline_within : (ns : List Name) (f : Form) (o : Outline) → Within ns f → outline f ≡ Ok o → OutlineWithin ns o
outline_within ns (atom t) o within e = absurd cc
outline_within ns (node place none) o within e = absurd cc
outline_within ns (node place (f ⨾ fs)) o within e = by_word (word_in f) e
  where
    by_word : (w : Option Name) → outline_by place w fs ≡ Ok o → OutlineWithin ns o
    by_word None k = absurd cc
    by_word (Some w) k = known (is_command_word w) k
      where
        known : (b : Bool) → (if b then shaped place fs (supported w) else at UnknownCommand place) ≡ Ok o → OutlineWithin ns o
        known true l = shaped_within ns place fs (supported w) o within.1 l
        known false l = absurd cc

-- ---- terms that commands read

pub of_sort_sorted : (to : Sort) (place : ℕ) (r : Result (Term × Sofar) Refused) (p : Term × Sofar) → of_sort to place r ≡ Ok p → sort_of p.0 ≡ Some to
of_sort_sorted to place (Ok q) p h =
    let (sorted, last) = unless_passed (not (has_sort to q.0)) WrongSort place (Ok q) p h in
    let same : q ≡ p = ok_same q p (Ok q) refl last in
    ap (λ (x : Term × Sofar). sort_of x.0) (sym same) ∙ the_sort to q.0 sorted
of_sort_sorted to place (Err e) p h = absurd cc

stands_behind : (ns : List Name) (s : Standing) (fs : List Symbol) (sofar : Sofar) (global begun : Bool) (asserted : ℕ) → Moves ns fs s.sofar sofar → AllRegular sofar.live → Stands ns (record { sofar = sofar; global = global; begun = begun; asserted = asserted })
stands_behind ns s fs sofar global begun asserted moves rules = record { text = moves.sound.text; built = moves.sound.built; rules = rules }

-- one more literal's term
terms_more : (p : Meant) (ps : List Meant) (us ts : List Term) → map (λ (q : Meant). q.term) ps ≡ us → p.term ∷ us ≡ ts → map (λ (q : Meant). q.term) (p ∷ ps) ≡ ts
terms_more p ps us ts h k = ap (λ vs. p.term ∷ vs) h ∙ k

module _ (ns : List Name) (s : Standing) (stands : Stands ns s) where
  abbrev known_symbols : List Symbol
  known_symbols = declared_of s.sofar.live

  sound : Sound ns known_symbols s.sofar
  sound = sound_of ns s stands

  asserts_goes : (f : Form) → Within ns f → Goes ns (asserts f s) (assert (suc s.asserted) (record { form = f; bindings = naming f [] (bindings_of s) }) ∷ [])
  asserts_goes f within =
      mapped_goes ns (asserted_with s) (of_sort bool (place_of f) (read f no_context s.sofar)) (assert (suc s.asserted) (record { form = f; bindings = naming f [] (bindings_of s) }) ∷ []) (λ p h.
      let is : read f no_context s.sofar ≡ Ok p = of_sort_ok bool (place_of f) (read f no_context s.sofar) p h in
      let reads : Reads ns known_symbols [] (λ E m. mean f E m) s.sofar p = ok_on (read f no_context s.sofar) (Reads ns known_symbols [] (λ E m. mean f E m) s.sofar) p (form_reads f ns known_symbols within no_context s.sofar (nothing_ready ns known_symbols s.sofar sound)) is in
      let fine : RegularRead p = ok_on (read f no_context s.sofar) RegularRead p (form_regular f ns within no_context s.sofar nothing_regular stands.rules) is in
      let leads : as_bindings p.1.live ≡ naming f [] (bindings_of s) = leads_ok (read f no_context s.sofar) p (naming f [] (bindings_of s)) is (read_leads f no_context s.sofar) in
      let meant : Meant = record {
        term = p.0;
        form = record { form = f; bindings = naming f [] (bindings_of s) };
        same = λ m. ap (λ bs. mean f (meaning bs m) m) (sym leads) ∙ reads.means m (meaning (as_bindings p.1.live) m) no_variables (agrees_alone ns known_symbols p.1 m no_variables reads.moves.sound (λ g among. refl));
        sort = of_sort_sorted bool (place_of f) (read f no_context s.sofar) p h;
        rules = fine.rules;
      } in
      ((assert (suc s.asserted) meant ∷ [], refl, refl), stands_behind ns s known_symbols p.1 s.global true (suc s.asserted) reads.moves fine.live))

  body_goes : (n : Name) (xs : List Variable) (to : Sort) (body : Form) → is_reserved_for_declaring n ≡ false → VariablesRead ns definition_binder [] xs → Within ns body → Goes ns (read_body n xs to body s) []
  body_goes n xs to body allowed variables within =
      mapped_goes ns (defined_with n xs body s) (of_sort to (place_of body) (read body (body_context n xs) s.sofar)) [] (λ p h.
      let is : read body (body_context n xs) s.sofar ≡ Ok p = of_sort_ok to (place_of body) (read body (body_context n xs) s.sofar) p h in
      let reads : Reads ns known_symbols (body_context n xs).locals (λ E m. mean body E m) s.sofar p = ok_on (read body (body_context n xs) s.sofar) (Reads ns known_symbols (body_context n xs).locals (λ E m. mean body E m) s.sofar) p (form_reads body ns known_symbols within (body_context n xs) s.sofar (body_ready ns known_symbols s.sofar sound xs (variables_fine ns [] xs variables.sound))) is in
      let fine : RegularRead p = ok_on (read body (body_context n xs) s.sofar) RegularRead p (form_regular body ns within (body_context n xs) s.sofar (parameters_regular 0 xs [] (variables_fine ns [] xs variables.sound) nothing_regular) stands.rules) is in
      let means : (m : Model) (ds : List Denoted) (d : Env) → Unassigned (declared_of p.1.live) d → Given 0 xs ds d → mean body (with_arguments xs ds (meaning (as_bindings p.1.live) m)) m ≡ denoted m d p.0 = λ m ds d own arguments.
      let undeclared : Unassigned known_symbols d = subst (λ gs. Unassigned gs d) reads.moves.sound.declared own in
      reads.means m (with_arguments xs ds (meaning (as_bindings p.1.live) m)) d (agrees_arguments m ns known_symbols p.1.live xs ds d (meaning (as_bindings p.1.live) m) variables.sound (agrees_alone ns known_symbols p.1 m d reads.moves.sound undeclared) arguments) in (
        ([], refl, refl),
        record {
          text = reads.moves.sound.text;
          built = ((allowed, (reads.spared, (to, of_sort_sorted to (place_of body) (read body (body_context n xs) s.sofar) p h), variables_fine ns [] xs variables.sound), means), reads.moves.sound.built);
          rules = (fine.rules, fine.live);
        },
      ))

  -- ---- declarations and definitions

  declares_sort_goes : (n : At Name) (arity : At ℕ) → Goes ns (declares_sort n arity s) (declare_sort n.it ∷ [])
  declares_sort_goes n arity =
      let given_step : Step = Ok (declare_sort n.it ∷ [], begun_with s (sort_known n.it (free_sort n.it) ∷ live_of s)) in
      sort_declarable_goes ns (live_of s) n (unless (not (arity.it == 0)) SortArity arity.place given_step) (declare_sort n.it ∷ [])
      (unless_goes ns (not (arity.it == 0)) SortArity arity.place given_step (declare_sort n.it ∷ []) (λ none_there.
      ((declare_sort n.it ∷ [], refl, refl), stands_with ns s (sort_known n.it (free_sort n.it) ∷ live_of s) stands (refl, stands.built) (refl, stands.rules))))

  defines_sort_goes : (n : At Name) (parameters : Forms) (f : Form) → Goes ns (defines_sort n parameters f s) []
  defines_sort_goes n parameters f =
      let make : Sort → List (Command Term) × Standing = λ to. ([], begun_with s (sort_known n.it to ∷ live_of s)) in
      sort_declarable_goes ns (live_of s) n (without_parameters parameters (mapped make (sort_in (live_sorts (live_of s)) f))) []
      (no_parameters_goes ns parameters (mapped make (sort_in (live_sorts (live_of s)) f)) []
      (mapped_goes ns make (sort_in (live_sorts (live_of s)) f) [] (λ to h.
      (([], refl, refl), stands_with ns s (sort_known n.it to ∷ live_of s) stands (sort_fine f (live_sorts (live_of s)) to sound.sorts h, stands.built) (sort_fine f (live_sorts (live_of s)) to sound.sorts h, stands.rules)))))

  declares_symbol_goes : (n : At Name) (arguments : Forms) (f : Form) → name_among ns n.it ≡ true → Goes ns (declares_symbol n arguments f s) (declare (symbol_meant (bindings_of s) n.it arguments f) ∷ [])
  declares_symbol_goes n arguments f text =
      let ds : List (Command Asserted) = declare (symbol_meant (bindings_of s) n.it arguments f) ∷ [] in
      let result : List Sort → Step = λ args. mapped (λ to. declares s (symbol_of_sorts n.it args to)) (sort_in (live_sorts (live_of s)) f) in
      declarable_goes ns (live_of s) n (and_then result (sorts_in (live_sorts (live_of s)) arguments)) ds (λ allowed.
      then_goes ns result (sorts_in (live_sorts (live_of s)) arguments) ds (λ args h.
      mapped_goes ns (λ to. declares s (symbol_of_sorts n.it args to)) (sort_in (live_sorts (live_of s)) f) ds (λ to k. (
        (declare (symbol_of_sorts n.it args to) ∷ [], refl, ap (λ g. declare g ∷ []) (same_symbol s n.it arguments f args to h k)),
        stands_with ns s (function_known (symbol_of_sorts n.it args to) ∷ live_of s) stands ((text, allowed), stands.built)
            (and_true (list_all is_sort args) (is_sort to) (sorts_fine arguments (live_sorts (live_of s)) args sound.sorts h) (sort_fine f (live_sorts (live_of s)) to sound.sorts k), stands.rules),
      ))))

  defines_symbol_goes : (n : At Name) (parameters : Forms) (f body : Form) → AllWithin ns parameters → Within ns body → Goes ns (defines_symbol n parameters f body s) []
  defines_symbol_goes n parameters f body within_parameters within_body =
      let result : List Variable → Step = λ xs. and_then (λ to. read_body n.it xs to body s) (sort_in (live_sorts (live_of s)) f) in
      declarable_goes ns (live_of s) n (and_then result (variables_in definition_binder (live_sorts (live_of s)) [] parameters)) [] (λ allowed.
      then_goes ns result (variables_in definition_binder (live_sorts (live_of s)) [] parameters) [] (λ xs h.
      then_goes ns (λ to. read_body n.it xs to body s) (sort_in (live_sorts (live_of s)) f) [] (λ to k.
      body_goes n.it xs to body allowed (variables_read ns definition_binder (live_sorts (live_of s)) [] parameters xs sound.sorts within_parameters h) within_body)))

  -- ---- literals

  literals_go : (gs : Forms) (ts : List Term) → literals_in (live_of s) gs ≡ Ok ts → (ps : List Meant) × (map (λ (p : Meant). p.term) ps ≡ ts) × (map (λ (p : Meant). p.form) ps ≡ literals_meant (bindings_of s) gs)
  literals_go none ts h = ([], ok_same [] ts (Ok []) refl h, refl)
  literals_go (f ⨾ gs) ts h =
      let (t, here, rest) = and_then_ok (λ t. mapped (λ us. t ∷ us) (literals_in (live_of s) gs)) (given BadForm (place_of f) (literal (live_of s) f)) ts h in
      let (us, behind_it, all) = mapped_ok (λ us. t ∷ us) (literals_in (live_of s) gs) ts rest in
      let read_it : LiteralRead (λ m. mean f (meaning (bindings_of s) m) m) t = literal_means ns known_symbols s.sofar sound f t (given_ok BadForm (place_of f) (literal (live_of s) f) t here) in
      let others = literals_go gs us behind_it in
      let first : Meant = record { term = t; form = record { form = f; bindings = bindings_of s }; same = read_it.means; sort = read_it.sort; rules = literal_regular (live_of s) stands.rules f t (given_ok BadForm (place_of f) (literal (live_of s) f) t here) } in
      (first ∷ others.0, terms_more first others.0 us ts others.1 all, ap (λ vs. first.form ∷ vs) others.2)

  assumes_goes : (gs : Forms) → Goes ns (assumes gs s) (check_assuming (literals_meant (bindings_of s) gs) ∷ [])
  assumes_goes gs =
      mapped_goes ns (λ ts. (check_assuming ts ∷ [], begun_with s (live_of s))) (literals_in (live_of s) gs) (check_assuming (literals_meant (bindings_of s) gs) ∷ []) (λ ts h.
      let found = literals_go gs ts h in
      ((check_assuming found.0 ∷ [], ap (λ us. check_assuming us ∷ []) found.1, ap (λ us. check_assuming us ∷ []) found.2), stands_with ns s (live_of s) stands stands.built stands.rules))

  -- ---- levels and options

  pushed_goes : (test : Bool) (place n : ℕ) → Goes ns (pushed_unless test place n s) (push n ∷ [])
  pushed_goes true place n = tt
  pushed_goes false place n = ((push n ∷ [], refl, refl), stands_with ns s (opened level_known n (live_of s)) stands (built_opened ns s.sofar.supply n (live_of s) stands.built) (regular_opened n (live_of s) stands.rules))

  pops_goes : (command place n : ℕ) → Goes ns (pops command place n s) (pop n ∷ [])
  pops_goes command place n =
      let given_step : Step = Ok (pop n ∷ [], begun_with s (popped is_level_known s.global n (live_of s))) in
      unless_goes ns (nat_lt most_levels n) NumberLimit place (unless (nat_lt (open_levels s) n) PopTooFar command given_step) (pop n ∷ []) (λ few.
      unless_goes ns (nat_lt (open_levels s) n) PopTooFar command given_step (pop n ∷ []) (λ open_ones.
      ((pop n ∷ [], refl, refl), stands_with ns s (popped is_level_known s.global n (live_of s)) stands (built_popped ns s.sofar.supply s.global n (live_of s) stands.built) (regular_popped s.global n (live_of s) stands.rules))))

  sets_goes : (place : ℕ) (o : Option Bool) (seen_value : Bool) → ((b : Bool) → o ≡ Some b → seen_value ≡ b) → Goes ns (sets_globals place o s) (globals seen_value ∷ [])
  sets_goes place None v h = tt
  sets_goes place (Some b) v h =
      unless_goes ns s.begun UnsupportedOption place (Ok (globals b ∷ [], record { sofar = s.sofar; global = b; begun = false; asserted = s.asserted })) (globals v ∷ []) (λ early.
      ((globals b ∷ [], refl, ap (λ c. globals c ∷ []) (sym (h b refl))), record { text = stands.text; built = stands.built; rules = stands.rules }))

  -- ---- commands

  pub step_goes : (place : ℕ) (text : List ℕ) (o : Outline) → OutlineWithin ns o → Goes ns (step place text s o) (seen text (scene_of s) o).0
  step_goes place text passing within = ((passed text ∷ [], refl, refl), stands)
  step_goes place text (global_option f) within = sets_goes place (truth_in f) (is_true_symbol f) (truth_of_form f)
  step_goes place text (sort_declaration n arity) within = declares_sort_goes n arity
  step_goes place text (sort_definition n parameters f) within = defines_sort_goes n parameters f
  step_goes place text (symbol_declaration n arguments f) within = declares_symbol_goes n arguments f within
  step_goes place text (symbol_definition n parameters f body) within = defines_symbol_goes n parameters f body within.0 within.1
  step_goes place text (assertion f) within = asserts_goes f within
  step_goes place text checking within = ((check ∷ [], refl, refl), stands_with ns s (live_of s) stands stands.built stands.rules)
  step_goes place text (assuming gs) within = assumes_goes gs
  step_goes place text (pushing n) within = pushed_goes (nat_lt most_levels (levels_written n) || nat_lt most_levels (open_levels s + levels_written n)) (place_or n place) (levels_written n)
  step_goes place text (popping n) within = pops_goes place (place_or n place) (levels_written n)
  step_goes place text resetting within = ((reset ∷ [], refl, refl), record { text = stands.text; built = tt; rules = tt })
  step_goes place text resetting_assertions within = ((reset_assertions ∷ [], refl, refl), record { text = stands.text; built = built_emptied ns s.sofar.supply s.global (live_of s) stands.built; rules = regular_emptied s.global (live_of s) stands.rules })
  step_goes place text ending within = ((exit ∷ [], refl, refl), stands)

outlined_goes : (ns : List Name) (f : Form) (s : Standing) (o : Result Outline Refused) → Stands ns s → ((x : Outline) → o ≡ Ok x → OutlineWithin ns x) → Goes ns (and_then (step (place_of f) (form_text f) s) o) (seen_or_none (form_text f) (scene_of s) o).0
outlined_goes ns f s (Ok o) stands within = step_goes ns s stands (place_of f) (form_text f) o (within o refl)
outlined_goes ns f s (Err e) stands within = tt

pub command_goes : (ns : List Name) (f : Form) (s : Standing) → Stands ns s → Within ns f → Goes ns (read_command f s) (seen_command f (scene_of s)).0
command_goes ns f s stands within = outlined_goes ns f s (outline f) stands (λ o h. outline_within ns f o within h)

pub gone_ok : (ns : List Name) (r : Step) (p : List (Command Term) × Standing) (ds : List (Command Asserted)) → r ≡ Ok p → Goes ns r ds → Pairs p.0 ds × Stands ns p.1
gone_ok ns r p ds h k = subst (λ x. Goes ns x ds) h k

-- ---- all commands

pairs_joined : (cs rest : List (Command Term)) (ds more : List (Command Asserted)) → Pairs cs ds → Pairs rest more → Pairs (cs ++ rest) (ds ++ more)
pairs_joined cs rest ds more a b =
    let terms_joined : with_terms a.0 ++ with_terms b.0 ≡ cs ++ rest = λ i. a.1 i ++ b.1 i in
    let forms_joined : with_forms a.0 ++ with_forms b.0 ≡ ds ++ more = λ i. a.2 i ++ b.2 i in (
      a.0 ++ b.0,
      map-append (with_asserted (λ (p : Meant). p.term)) a.0 b.0 ∙ terms_joined,
      map-append (with_asserted (λ (p : Meant). p.form)) a.0 b.0 ∙ forms_joined,
    )

commands_pair : (ns : List Name) (i : ℕ) (fs : Forms) (s : Standing) (r : List (Command Term) × Supply) → Stands ns s → AllWithin ns fs → read_commands i fs s ≡ Ok r → Pairs r.0 (commands_seen fs (scene_of s))
commands_pair ns i none s r stands within h = ([], ap (λ (x : List (Command Term) × Supply). x.0) (ok_same ([], s.sofar.supply) r (read_commands i none s) refl h), refl)
commands_pair ns i (f ⨾ fs) s r stands within h =
    let (p, here, rest) = and_then_ok (λ p. mapped (behind p.0) (read_commands (suc i) fs p.1)) (numbered i (read_command f s)) r h in
    let (q, more, all) = mapped_ok (behind p.0) (read_commands (suc i) fs p.1) r rest in
    let (now, later) = shown_at (read_command f s) p (seen_command f (scene_of s)) (numbered_ok i (read_command f s) p here) (command_shows f s) in
    let gone = gone_ok ns (read_command f s) p (seen_command f (scene_of s)).0 (numbered_ok i (read_command f s) p here) (command_goes ns f s stands within.0) in
    let others : Pairs q.0 (commands_seen fs (seen_command f (scene_of s)).1) = subst (λ sc. Pairs q.0 (commands_seen fs sc)) later (commands_pair ns (suc i) fs p.1 q gone.1 within.1 more) in
    subst (λ (x : List (Command Term) × Supply). Pairs x.0 (commands_seen (f ⨾ fs) (scene_of s))) all (pairs_joined p.0 q.0 (seen_command f (scene_of s)).0 (commands_seen fs (seen_command f (scene_of s)).1) gone.0 others)

pub first_stands : (fs : Forms) → Stands (names_with_all [] fs) (first_standing fs)
first_stands fs = record { text = λ n h i k e. h; built = tt; rules = tt }

forms_pair : (b : List ℕ) (o : Result Forms Fault) (r : List (Command Term) × Supply) → read_forms b o ≡ Ok r → Pairs r.0 (commands_seen (accepted_or none o) first_scene)
forms_pair b (Ok fs) r h = commands_pair (names_with_all [] fs) 1 fs (first_standing fs) r (first_stands fs) (all_within_text fs) (read_ok b (read_commands 1 fs (first_standing fs)) r h)
forms_pair b (Err e) r h = absurd cc

pub script_pairs : (b : List ℕ) (r : List (Command Term) × Supply) → script b ≡ Ok r → Pairs r.0 (commands_seen (accepted_or none (forms_to_exit b)) first_scene)
script_pairs b r h = forms_pair b (forms_to_exit b) r h
