-- The commands of an accepted text with their terms are those with their forms.
use Rattle.std.proofs.Common.{◌≡◌, ◌∙◌, sym, ap, subst, refl, ℕ, zero, suc, ◌+◌, ◌==◌, Bool, true, false, ◌||◌, List, [], ◌∷◌, map, Result, Ok, Err, Option, Some, None}
use Rattle.std.specs.Prelude.{⊤, not, nat_lt, codes, bytes_eq, if◌then◌else◌, is_some}
use Rattle.smt_lex.specs.Names.{Name, is_reserved_for_declaring, is_reserved_for_sorts}
use Rattle.smt_lex.specs.Forms.{Form, Forms, none, ◌⨾◌}
use Rattle.smt_terms.specs.Sorts.{Sort, bool, free_sort, Variable}
use Rattle.smt_terms.specs.Subst.{parameter}
use Rattle.smt_terms.specs.Term.{Term}
use Rattle.script_terms.specs.declared.causes.Cause.{Cause}
use Rattle.script_terms.specs.declared.causes.Cause.TheVariants.{WrongSort, BadForm, Redeclared, ReservedName, PopTooFar, NumberLimit, SortArity, UnsupportedOption}
use Rattle.script_terms.specs.Refusals.{Refused, and_then, unless, mapped, given}
use Rattle.script_terms.specs.Parts.{place_of, symbol_in, is_name}
use Rattle.script_terms.specs.SortForms.{sort_in, sorts_in}
use Rattle.script_terms.specs.Variables.{definition_binder, variables_in}
use Rattle.script_read.specs.Commands.{Command, declare_sort, declare, assert, check_assuming, push, pop, globals}
use Rattle.script_terms.specs.Heads.{parameters_from}
use Rattle.script_read.specs.Laws.{LeadsTo, blank, bare}
use Rattle.script_read.specs.Mean.{accepted_or}
use Rattle.script_read.specs.Outlines.{At, Outline, passing, sort_declaration, sort_definition, symbol_declaration, assertion, assuming, pushing, popping, resetting, resetting_assertions, ending, levels_written, global_option, symbol_definition, checking}
use Rattle.script_terms.specs.Read.{has_sort, read}
use Rattle.script_terms.specs.Reading.{ReadLocal, parameter_as, as_local, ReadBinding, sort_known, level_known, as_binding, as_bindings, is_level_known, Sofar, live_sorts, entry_of}
use Rattle.script_read.specs.Scenes.{Asserted, Scene, literals_meant, is_true_symbol, naming, seen, sort_meant, sorts_meant, symbol_meant, parameters_meant, parameter_locals, with_definition}
use Rattle.script_terms.specs.Scope.{Binding, sort_name, function, level, is_level, opened, closed, merged, flattened, popped, emptied, definition as definition_binding}
use Rattle.script_read.specs.Script.{Standing, Step, live_of, begun_with, declarable, sort_declarable, declares_sort, without_parameters, defines_sort, declares, symbol_of_sorts, declares_symbol, body_context, of_sort, read_body, defines_symbol, no_context, asserted_with, asserts, literal, literals_in, assumes, most_levels, open_levels, place_or, pushed_unless, pops, truth_named, truth_in, sets_globals, step, parameters_read, defined_with}
use Rattle.script_read.proofs.Bindings.{read_leads}
use Rattle.script_terms.proofs.Outcomes.{and_then_ok, mapped_ok}

abbrev mk : List Binding → Bool → ℕ → Scene
mk bs global asserted = record { bindings = bs; global = global; asserted = asserted }

-- what a standing shows without terms
abbrev pub scene_of : Standing → Scene
scene_of s = record { bindings = as_bindings s.sofar.live; global = s.global; asserted = s.asserted }

-- a step gives what the outline shows
abbrev pub Shows : Step → List (Command Asserted) × Scene → Type 0
Shows (Ok r) q = (bare r.0 ≡ bare q.0) × (scene_of r.1 ≡ q.1)
Shows (Err e) q = ⊤

-- ---- tests before a step

pub unless_shows : (test : Bool) (cause : Cause) (place : ℕ) (r : Step) (q : List (Command Asserted) × Scene) → Shows r q → Shows (unless test cause place r) q
unless_shows true cause place r q h = tt
unless_shows false cause place r q h = h

pub then_shows : {A : Type 0} (k : A → Step) (r : Result A Refused) (q : List (Command Asserted) × Scene) → ((a : A) → r ≡ Ok a → Shows (k a) q) → Shows (and_then k r) q
then_shows k (Ok a) q h = h a refl
then_shows k (Err e) q h = tt

pub mapped_shows : {A : Type 0} (f : A → List (Command Term) × Standing) (r : Result A Refused) (q : List (Command Asserted) × Scene) → ((a : A) → r ≡ Ok a → Shows (Ok (f a)) q) → Shows (mapped f r) q
mapped_shows f (Ok a) q h = h a refl
mapped_shows f (Err e) q h = tt

-- ---- levels of bindings without terms

pub opened_shows : (n : ℕ) (bs : List ReadBinding) → as_bindings (opened level_known n bs) ≡ opened level n (as_bindings bs)
opened_shows zero bs = refl
opened_shows (suc n) bs = ap (λ cs. level ∷ cs) (opened_shows n bs)

pub closed_shows : (n : ℕ) (bs : List ReadBinding) → as_bindings (closed is_level_known n bs) ≡ closed is_level n (as_bindings bs)
closed_shows n [] = refl
closed_shows zero (b ∷ bs) = refl
closed_shows (suc n) (level_known ∷ bs) = closed_shows n bs
closed_shows (suc n) (_ ∷ bs) = closed_shows (suc n) bs

pub merged_shows : (n : ℕ) (bs : List ReadBinding) → as_bindings (merged is_level_known n bs) ≡ merged is_level n (as_bindings bs)
merged_shows n [] = refl
merged_shows zero (b ∷ bs) = refl
merged_shows (suc n) (level_known ∷ bs) = merged_shows n bs
merged_shows (suc n) (b ∷ bs) = ap (λ cs. as_binding b ∷ cs) (merged_shows (suc n) bs)

pub flattened_shows : (bs : List ReadBinding) → as_bindings (flattened is_level_known bs) ≡ flattened is_level (as_bindings bs)
flattened_shows [] = refl
flattened_shows (level_known ∷ bs) = flattened_shows bs
flattened_shows (b ∷ bs) = ap (λ cs. as_binding b ∷ cs) (flattened_shows bs)

pub popped_shows : (global : Bool) (n : ℕ) (bs : List ReadBinding) → as_bindings (popped is_level_known global n bs) ≡ popped is_level global n (as_bindings bs)
popped_shows true n bs = merged_shows n bs
popped_shows false n bs = closed_shows n bs

pub emptied_shows : (global : Bool) (bs : List ReadBinding) → as_bindings (emptied is_level_known global bs) ≡ emptied is_level global (as_bindings bs)
emptied_shows true bs = flattened_shows bs
emptied_shows false bs = refl

-- a scene with bindings that are the same
rebound : (bs cs : List Binding) (global : Bool) (asserted : ℕ) → bs ≡ cs → mk bs global asserted ≡ mk cs global asserted
rebound bs cs global asserted e = ap (λ ds. mk ds global asserted) e

-- ---- options

named_truth : (t u b : Bool) → (if t then Some true else (if u then Some false else None)) ≡ Some b → t ≡ b
named_truth true u b h = cc
named_truth false true b h = cc
named_truth false false b h = absurd (cc)

truth_of_symbol : (o : Option Name) (b : Bool) → truth_named o ≡ Some b → is_name (codes "true") o ≡ b
truth_of_symbol None b h = absurd (cc)
truth_of_symbol (Some n) b h = named_truth (bytes_eq n (codes "true")) (bytes_eq n (codes "false")) b h

pub truth_of_form : (f : Option Form) (b : Bool) → truth_in f ≡ Some b → is_true_symbol f ≡ b
truth_of_form None b h = absurd (cc)
truth_of_form (Some f) b h = truth_of_symbol (symbol_in f) b h

-- the value of the option, where it is accepted
sets_shows : (place : ℕ) (o : Option Bool) (seen_value : Bool) (s : Standing) → ((b : Bool) → o ≡ Some b → seen_value ≡ b) → Shows (sets_globals place o s) (globals seen_value ∷ [], mk (as_bindings s.sofar.live) seen_value s.asserted)
sets_shows place None v s h = tt
sets_shows place (Some b) v s h =
    unless_shows s.begun UnsupportedOption place (Ok (globals b ∷ [], record { sofar = s.sofar; global = b; begun = false; asserted = s.asserted })) (globals v ∷ [], mk (as_bindings s.sofar.live) v s.asserted)
    (ap (λ c. globals c ∷ []) (sym (h b refl)), ap (λ c. mk (as_bindings s.sofar.live) c s.asserted) (sym (h b refl)))

-- ---- parameters

parameters_agree : (i : ℕ) (xs : List Variable) (ls : List ReadLocal) → map as_local (parameters_read xs (parameters_from i xs) ls) ≡ parameter_locals xs (map as_local ls)
parameters_agree i [] ls = refl
parameters_agree i (x ∷ xs) ls = parameters_agree (suc i) xs (parameter_as x (parameter i x.sort).name ∷ ls)

-- ---- literals

literals_show : (live : List ReadBinding) (bs : List Binding) (fs : Forms) (ts : List Term) → literals_in live fs ≡ Ok ts → map blank ts ≡ map blank (literals_meant bs fs)
literals_show live bs none ts h =
    let e : [] ≡ ts = cc in ap (λ us. map blank us) (sym e)
literals_show live bs (f ⨾ fs) ts h =
    let (t, here, rest) = and_then_ok (λ t. mapped (λ ts. t ∷ ts) (literals_in live fs)) (given BadForm (place_of f) (literal live f)) ts h in
    let (us, behind, all) = mapped_ok (λ ts. t ∷ ts) (literals_in live fs) ts rest in
    ap (λ vs. map blank vs) (sym all) ∙ ap (λ vs. tt ∷ vs) (literals_show live bs fs us behind)

-- ---- names

declarable_shows : (live : List ReadBinding) (n : At Name) (next : Step) (q : List (Command Asserted) × Scene) → Shows next q → Shows (declarable live n next) q
declarable_shows live n next q h =
    unless_shows (is_reserved_for_declaring n.it) ReservedName n.place (unless (is_some (entry_of live n.it)) Redeclared n.place next) q
    (unless_shows (is_some (entry_of live n.it)) Redeclared n.place next q h)

sort_declarable_shows : (live : List ReadBinding) (n : At Name) (next : Step) (q : List (Command Asserted) × Scene) → Shows next q → Shows (sort_declarable live n next) q
sort_declarable_shows live n next q h =
    unless_shows (is_reserved_for_sorts n.it) ReservedName n.place (unless (is_some (live_sorts live n.it)) Redeclared n.place next) q
    (unless_shows (is_some (live_sorts live n.it)) Redeclared n.place next q h)

no_parameters_shows : (parameters : Forms) (next : Step) (q : List (Command Asserted) × Scene) → Shows next q → Shows (without_parameters parameters next) q
no_parameters_shows none next q h = h
no_parameters_shows (f ⨾ fs) next q h = tt

-- ---- declarations and definitions

abbrev pub bindings_of : Standing → List Binding
bindings_of s = as_bindings s.sofar.live

declares_sort_shows : (n : At Name) (arity : At ℕ) (s : Standing) → Shows (declares_sort n arity s) (declare_sort n.it ∷ [], mk (sort_name n.it (free_sort n.it) ∷ bindings_of s) s.global s.asserted)
declares_sort_shows n arity s =
    let given : Step = Ok (declare_sort n.it ∷ [], begun_with s (sort_known n.it (free_sort n.it) ∷ live_of s)) in
    let q : List (Command Asserted) × Scene = (declare_sort n.it ∷ [], mk (sort_name n.it (free_sort n.it) ∷ bindings_of s) s.global s.asserted) in
    sort_declarable_shows (live_of s) n (unless (not (arity.it == 0)) SortArity arity.place given) q
    (unless_shows (not (arity.it == 0)) SortArity arity.place given q (refl, refl))

defines_sort_shows : (n : At Name) (parameters : Forms) (f : Form) (s : Standing) → Shows (defines_sort n parameters f s) ([], mk (sort_name n.it (sort_meant (bindings_of s) f) ∷ bindings_of s) s.global s.asserted)
defines_sort_shows n parameters f s =
    let make : Sort → List (Command Term) × Standing = λ to. ([], begun_with s (sort_known n.it to ∷ live_of s)) in
    let q : List (Command Asserted) × Scene = ([], mk (sort_name n.it (sort_meant (bindings_of s) f) ∷ bindings_of s) s.global s.asserted) in
    sort_declarable_shows (live_of s) n (without_parameters parameters (mapped make (sort_in (live_sorts (live_of s)) f))) q
    (no_parameters_shows parameters (mapped make (sort_in (live_sorts (live_of s)) f)) q
    (mapped_shows make (sort_in (live_sorts (live_of s)) f) q (λ to h.
    (refl, ap (λ t. mk (sort_name n.it t ∷ bindings_of s) s.global s.asserted) (sym (ap (accepted_or bool) h))))))

pub same_symbol : (s : Standing) (n : Name) (arguments : Forms) (f : Form) (args : List Sort) (to : Sort) → sorts_in (live_sorts (live_of s)) arguments ≡ Ok args → sort_in (live_sorts (live_of s)) f ≡ Ok to → symbol_of_sorts n args to ≡ symbol_meant (bindings_of s) n arguments f
same_symbol s n arguments f args to h k =
    ap (λ ss. symbol_of_sorts n ss to) (sym (ap (accepted_or []) h)) ∙ ap (λ t. symbol_of_sorts n (sorts_meant (bindings_of s) arguments) t) (sym (ap (accepted_or bool) k))

declares_symbol_shows : (n : At Name) (arguments : Forms) (f : Form) (s : Standing) → Shows (declares_symbol n arguments f s) (declare (symbol_meant (bindings_of s) n.it arguments f) ∷ [], mk (function (symbol_meant (bindings_of s) n.it arguments f) ∷ bindings_of s) s.global s.asserted)
declares_symbol_shows n arguments f s =
    let q : List (Command Asserted) × Scene = (declare (symbol_meant (bindings_of s) n.it arguments f) ∷ [], mk (function (symbol_meant (bindings_of s) n.it arguments f) ∷ bindings_of s) s.global s.asserted) in
    let result : List Sort → Step = λ args. mapped (λ to. declares s (symbol_of_sorts n.it args to)) (sort_in (live_sorts (live_of s)) f) in
    declarable_shows (live_of s) n (and_then result (sorts_in (live_sorts (live_of s)) arguments)) q
    (then_shows result (sorts_in (live_sorts (live_of s)) arguments) q (λ args h.
    mapped_shows (λ to. declares s (symbol_of_sorts n.it args to)) (sort_in (live_sorts (live_of s)) f) q (λ to k. (
      ap (λ g. declare g ∷ []) (same_symbol s n.it arguments f args to h k),
      ap (λ g. mk (function g ∷ bindings_of s) s.global s.asserted) (same_symbol s n.it arguments f args to h k),
    ))))

-- ---- terms of a sort

unless_of_sort : (test : Bool) (place : ℕ) (p r : Term × Sofar) → unless test WrongSort place (Ok p) ≡ Ok r → p ≡ r
unless_of_sort true place p r h = absurd (cc)
unless_of_sort false place p r h = cc

pub of_sort_ok : (to : Sort) (place : ℕ) (r : Result (Term × Sofar) Refused) (p : Term × Sofar) → of_sort to place r ≡ Ok p → r ≡ Ok p
of_sort_ok to place (Ok r) p h = ap Ok (unless_of_sort (not (has_sort to r.0)) place r p h)
of_sort_ok to place (Err e) p h = absurd (cc)

-- what a term that was read leads to
pub leads_ok : (r : Result (Term × Sofar) Refused) (p : Term × Sofar) (bs : List Binding) → r ≡ Ok p → LeadsTo r bs → as_bindings p.1.live ≡ bs
leads_ok r p bs h k = subst (λ x. LeadsTo x bs) h k

asserts_shows : (f : Form) (s : Standing) → Shows (asserts f s) (assert (suc s.asserted) (record { form = f; bindings = naming f [] (bindings_of s) }) ∷ [], mk (naming f [] (bindings_of s)) s.global (suc s.asserted))
asserts_shows f s =
    mapped_shows (asserted_with s) (of_sort bool (place_of f) (read f no_context s.sofar)) (assert (suc s.asserted) (record { form = f; bindings = naming f [] (bindings_of s) }) ∷ [], mk (naming f [] (bindings_of s)) s.global (suc s.asserted))
    (λ p h. (
      refl,
      ap (λ bs. mk bs s.global (suc s.asserted))
          (leads_ok (read f no_context s.sofar) p (naming f [] (bindings_of s)) (of_sort_ok bool (place_of f) (read f no_context s.sofar) p h) (read_leads f no_context s.sofar)),
    ))

pub body_leads : (n : Name) (xs : List Variable) (to : Sort) (body : Form) (s : Standing) (p : Term × Sofar) → of_sort to (place_of body) (read body (body_context n xs) s.sofar) ≡ Ok p → as_bindings p.1.live ≡ naming body (parameter_locals xs []) (bindings_of s)
body_leads n xs to body s p h =
    leads_ok (read body (body_context n xs) s.sofar) p (naming body (map as_local (parameters_read xs (parameters_from 0 xs) [])) (bindings_of s))
    (of_sort_ok to (place_of body) (read body (body_context n xs) s.sofar) p h) (read_leads body (body_context n xs) s.sofar)
    ∙ ap (λ ls. naming body ls (bindings_of s)) (parameters_agree 0 xs [])

read_body_shows : (n : Name) (xs ys : List Variable) (to : Sort) (body : Form) (s : Standing) → xs ≡ ys → Shows (read_body n xs to body s) ([], mk (with_definition n ys body (bindings_of s)) s.global s.asserted)
read_body_shows n xs ys to body s same =
    mapped_shows (defined_with n xs body s) (of_sort to (place_of body) (read body (body_context n xs) s.sofar)) ([], mk (with_definition n ys body (bindings_of s)) s.global s.asserted)
    (λ p h. (
      refl,
      ap (λ bs. mk (definition_binding n xs body ∷ bs) s.global s.asserted) (body_leads n xs to body s p h)
          ∙ ap (λ zs. mk (with_definition n zs body (bindings_of s)) s.global s.asserted) same,
    ))

defines_symbol_shows : (n : At Name) (parameters : Forms) (f body : Form) (s : Standing) → Shows (defines_symbol n parameters f body s) ([], mk (with_definition n.it (parameters_meant (bindings_of s) parameters) body (bindings_of s)) s.global s.asserted)
defines_symbol_shows n parameters f body s =
    let q : List (Command Asserted) × Scene = ([], mk (with_definition n.it (parameters_meant (bindings_of s) parameters) body (bindings_of s)) s.global s.asserted) in
    let result : List Variable → Step = λ xs. and_then (λ to. read_body n.it xs to body s) (sort_in (live_sorts (live_of s)) f) in
    declarable_shows (live_of s) n (and_then result (variables_in definition_binder (live_sorts (live_of s)) [] parameters)) q
    (then_shows result (variables_in definition_binder (live_sorts (live_of s)) [] parameters) q (λ xs h.
    then_shows (λ to. read_body n.it xs to body s) (sort_in (live_sorts (live_of s)) f) q (λ to _.
    read_body_shows n.it xs (parameters_meant (bindings_of s) parameters) to body s (sym (ap (accepted_or []) h)))))

assumes_shows : (fs : Forms) (s : Standing) → Shows (assumes fs s) (check_assuming (literals_meant (bindings_of s) fs) ∷ [], scene_of s)
assumes_shows fs s =
    mapped_shows (λ ts. (check_assuming ts ∷ [], begun_with s (live_of s))) (literals_in (live_of s) fs) (check_assuming (literals_meant (bindings_of s) fs) ∷ [], scene_of s)
    (λ ts h. (ap (λ us. check_assuming us ∷ []) (literals_show (live_of s) (bindings_of s) fs ts h), refl))

-- ---- levels

pushed_shows : (test : Bool) (place n : ℕ) (s : Standing) → Shows (pushed_unless test place n s) (push n ∷ [], mk (opened level n (bindings_of s)) s.global s.asserted)
pushed_shows true place n s = tt
pushed_shows false place n s = (refl, rebound (as_bindings (opened level_known n (live_of s))) (opened level n (bindings_of s)) s.global s.asserted (opened_shows n (live_of s)))

pops_shows : (command place n : ℕ) (s : Standing) → Shows (pops command place n s) (pop n ∷ [], mk (popped is_level s.global n (bindings_of s)) s.global s.asserted)
pops_shows command place n s =
    let given : Step = Ok (pop n ∷ [], begun_with s (popped is_level_known s.global n (live_of s))) in
    let q : List (Command Asserted) × Scene = (pop n ∷ [], mk (popped is_level s.global n (bindings_of s)) s.global s.asserted) in
    unless_shows (nat_lt most_levels n) NumberLimit place (unless (nat_lt (open_levels s) n) PopTooFar command given) q
    (unless_shows (nat_lt (open_levels s) n) PopTooFar command given q
    (refl, rebound (as_bindings (popped is_level_known s.global n (live_of s))) (popped is_level s.global n (bindings_of s)) s.global s.asserted (popped_shows s.global n (live_of s))))

-- ---- commands

pub step_shows : (place : ℕ) (text : List ℕ) (s : Standing) (o : Outline) → Shows (step place text s o) (seen text (scene_of s) o)
step_shows place text s passing = (refl, refl)
step_shows place text s (global_option f) = sets_shows place (truth_in f) (is_true_symbol f) s (truth_of_form f)
step_shows place text s (sort_declaration n arity) = declares_sort_shows n arity s
step_shows place text s (sort_definition n parameters f) = defines_sort_shows n parameters f s
step_shows place text s (symbol_declaration n arguments f) = declares_symbol_shows n arguments f s
step_shows place text s (symbol_definition n parameters f body) = defines_symbol_shows n parameters f body s
step_shows place text s (assertion f) = asserts_shows f s
step_shows place text s checking = (refl, refl)
step_shows place text s (assuming fs) = assumes_shows fs s
step_shows place text s (pushing n) = pushed_shows (nat_lt most_levels (levels_written n) || nat_lt most_levels (open_levels s + levels_written n)) (place_or n place) (levels_written n) s
step_shows place text s (popping n) = pops_shows place (place_or n place) (levels_written n) s
step_shows place text s resetting = (refl, refl)
step_shows place text s resetting_assertions = (refl, rebound (as_bindings (emptied is_level_known s.global (live_of s))) (emptied is_level s.global (bindings_of s)) s.global s.asserted (emptied_shows s.global (live_of s)))
step_shows place text s ending = (refl, refl)
