-- Printed commands are read, one by one: what each leaves known, and what it shows.
use Rattle.std.proofs.Common.{◌≡◌, ℕ, zero, suc, ◌+◌, ◌≤◌, Bool, true, false, not, Result, Ok, Option, Some, None, List, [], ◌∷◌, map, refl, ap, sym, subst, ◌∙◌, arith}
use Rattle.std.specs.Prelude.{◌&&◌, nat_le, nat_lt, codes, is_some, option_map}
use Rattle.std.specs.List.{list_all}
use Rattle.std.proofs.lemmas.Bool.{le-ltb, leb-true}
use Rattle.smt_lex.specs.Names.{Name, is_syntax_word, is_command_word}
use Rattle.smt_lex.specs.Forms.{Form, Forms, none, forms_of_list}
use Rattle.smt_terms.specs.Rank.{sort_of, is_sort}
use Rattle.smt_terms.specs.Sorts.{Sort, bool, free_sort, Symbol}
use Rattle.smt_terms.specs.Term.{Term}
use Rattle.smt_terms.specs.Val.{no_variables}
use Rattle.smt_terms.proofs.Equal.{Decides-sort_eq}
use Rattle.smt_terms.proofs.Tests.{both_true, not_true, or_false}
use Rattle.script_terms.specs.declared.causes.Cause.TheVariants.{WrongSort, BadForm, Redeclared, ReservedName, NumberLimit, PopTooFar, UnsupportedOption}
use Rattle.script_read.specs.Commands.{Command, passed, declare_sort, declare, assert, check, push, pop, reset, reset_assertions, globals, exit, State, after, Signature}
use Rattle.script_read.specs.Mean.{accepted_or, meaning}
use Rattle.script_read.specs.Outlines.{At, Outline, passing, sort_declaration, symbol_declaration, assertion, checking, pushing, popping, resetting, resetting_assertions, ending, global_option, of_both, numeral_at, supported, outline}
use Rattle.smt_lex.specs.FormText.{form_text}
use Rattle.script_terms.specs.Parts.{place_of}
use Rattle.script_read.specs.Printable.{sort_is_live, is_new_sort, is_new_symbol, is_printable_term, fixes, open_levels as levels_open}
use Rattle.script_terms.specs.Read.{has_sort, is_of_sort}
use Rattle.script_terms.specs.Reading.{ReadBinding, sort_known, function_known, level_known, is_level_known, as_binding, as_bindings, entry_of, live_sorts}
use Rattle.script_terms.specs.Refusals.{Refused, and_then, unless, given, mapped}
use Rattle.script_read.specs.Scenes.{Asserted, Scene, naming, seen, seen_or_none, seen_command, sort_meant, is_true_symbol, declares as seen_declares, asserts as seen_asserts}
use Rattle.script_terms.specs.Scope.{Binding, level, is_level, opened, closed, merged, flattened, popped, emptied}
use Rattle.script_read.specs.Script.{Standing, Step, begun_with, no_context, asserted_with, of_sort, step, read_command, declares, symbol_of_sorts, most_levels, open_levels, pushed_unless, truth_in, sets_globals, after_reset, after_emptying}
use Rattle.script_terms.specs.SortForms.{sort_in, sorts_in}
use Rattle.term_table.specs.WrittenForms.{word_form, symbol_form, numeral_form, sort_form, truth_form, list_form, keyword_form}
use Rattle.smt_print.specs.Laws.{MeansTheSame}
use Rattle.smt_print.specs.Text.{command_form, sort_declaration as sort_declaration_form, declaration, globals_option}
use Rattle.smt_print.proofs.Contexts.{AllTaken}
use Rattle.smt_print.proofs.FormTexts.{end_of, placed, placed_in}
use Rattle.smt_print.proofs.LikePoints.{LikeCommand, like_passed, like_sort, like_symbol, like_assert, like_check, like_push, like_pop, like_reset, like_emptying, like_globals, like_exit}
use Rattle.smt_print.proofs.LiveNames.{shown, shown_usual, shown_read, shown_meant, nothing_around, nothing_meant}
use Rattle.smt_print.proofs.NamesTaken.{unplaced}
use Rattle.smt_print.proofs.Printables.{IsUsual, printable_fits, sort_fits}
use Rattle.smt_print.proofs.Readings.{knowing}
use Rattle.smt_print.proofs.SortsRead.{SortsFit, sort_read, sorts_read}
use Rattle.smt_print.proofs.Stands.{Fits, Stands}
use Rattle.smt_print.proofs.SymbolsRead.{symbol_read, numeral_read}
use Rattle.smt_print.proofs.Tracks.{Tracks, same_signature, usual_state, sort_new, symbol_new, tracks_assert, tracks_push, open_same, tracks_pop, tracks_reset, tracks_emptied, tracks_globals}

-- ---- what is known between two commands is what the state says

pub record Follows (used : List Name) (fixed : Bool) (st : State Term) (s : Standing) : Type 0 where
  pub tracks : Tracks st s.sofar.live
  pub global : s.global ≡ st.global
  pub begun : s.begun ≡ fixed
  pub taken : s.sofar.supply.taken ≡ used

abbrev pub scene_of : Standing → Scene
scene_of s = record { bindings = as_bindings s.sofar.live; global = s.global; asserted = s.asserted }

-- the command is read from this form
pub record IsReadFrom (taken : List Name) (begun : Bool) (st : State Term) (c : Command Term) (s : Standing) (f : Form) : Type 0 where
  pub results : List (Command Term)
  pub behind : Standing
  pub shown_command : Command Asserted
  pub is_read : read_command f s ≡ Ok (results, behind)
  pub follows : Follows taken (fixes begun c) (after c st) behind
  pub is_seen : seen_command f (scene_of s) ≡ (shown_command ∷ [], scene_of behind)
  pub like : LikeCommand Term Asserted MeansTheSame c shown_command

-- from the step of an outline
pub from_outline : (taken : List Name) (begun : Bool) (st : State Term) (c : Command Term) (s : Standing) (f : Form) (o : Outline) (results : List (Command Term)) (behind : Standing) (d : Command Asserted) → outline f ≡ Ok o
    → step (place_of f) (form_text f) s o ≡ Ok (results, behind) → Follows taken (fixes begun c) (after c st) behind → seen (form_text f) (scene_of s) o ≡ (d ∷ [], scene_of behind) → LikeCommand Term Asserted MeansTheSame c d
    → IsReadFrom taken begun st c s f
from_outline taken begun st c s f o results behind d is stepped follows shows like = record {
  results = results;
  behind = behind;
  shown_command = d;
  is_read = ap (and_then (step (place_of f) (form_text f) s)) is ∙ stepped;
  follows = follows;
  is_seen = ap (seen_or_none (form_text f) (scene_of s)) is ∙ shows;
  like = like;
}

-- ---- assertions

-- a layout whose forms stand for the terms
abbrev pub StandFor : (Term → Form) → Type 0
StandFor form = (g : Signature) (t : Term) (s : Sort) → Fits g [] t s → Stands g [] [] (form t) t s

pub sort_is_bool : (o : Option Sort) → is_of_sort bool o ≡ true → o ≡ Some bool
sort_is_bool None h = absurd (cc)
sort_is_bool (Some s) h = ap Some ((Decides-sort_eq s bool).0 h)

assert_outline : (p : ℕ) (f : Form) → outline (placed p (command_form (codes "assert") (f ∷ []))) ≡ Ok (assertion (placed (suc (end_of (suc p) (word_form (codes "assert")))) f))
unfolding is_command_word supported
assert_outline p f = refl

abbrev asserted_behind : Standing → ℕ → Standing
asserted_behind s i = record { sofar = knowing s.sofar.live s.sofar.supply.taken i; global = s.global; begun = true; asserted = suc s.asserted }

pub assert_read : (form : Term → Form) → StandFor form → (taken : List Name) (begun : Bool) (st : State Term) (s : Standing) (i : ℕ) (t : Term) (p : ℕ) → Follows taken begun st s → (has_sort bool t && is_printable_term st t) ≡ true
    → AllTaken taken (placed p (command_form (codes "assert") (form t ∷ []))) → IsReadFrom taken begun st (assert i t) s (placed p (command_form (codes "assert") (form t ∷ [])))
assert_read form stand taken begun st s i t p follows may all =
    let bs = s.sofar.live in
    let parts = both_true (has_sort bool t) (is_printable_term st t) may in
    let sort : sort_of t ≡ Some bool = sort_is_bool (sort_of t) parts.0 in
    let fits : Fits (shown bs) [] t bool = subst (λ g. Fits g [] t bool) (same_signature st bs follows.tracks) (printable_fits st t bool (usual_state st bs follows.tracks) sort parts.1) in
    let stands = stand (shown bs) t bool fits in
    let q = suc (end_of (suc p) (word_form (codes "assert"))) in
    let f = placed q (form t) in
    let there : AllTaken s.sofar.supply.taken (form t) = subst (λ ns. AllTaken ns (form t)) (sym follows.taken) (unplaced (form t) q taken all.1.0) in
    let is_read = stands.reads.reads bs s.sofar.supply.taken no_context q s.sofar.supply.number (shown_read bs follows.tracks.declared) nothing_around there in
    let u = is_read.0 in
    let j = is_read.1 in
    let truth : has_sort bool u ≡ true = ap (is_of_sort bool) is_read.3 in
    let same : naming f [] (as_bindings bs) ≡ as_bindings bs = stands.silent.names q [] (as_bindings bs) in
    from_outline taken begun st (assert i t) s (placed p (command_form (codes "assert") (form t ∷ []))) (assertion f) (assert (suc s.asserted) u ∷ []) (asserted_behind s j)
    (assert (suc s.asserted) (record { form = f; bindings = as_bindings bs })) (assert_outline p (form t))
    (ap (λ r. mapped (asserted_with s) (of_sort bool (place_of f) r)) is_read.2 ∙ ap (λ b. mapped (asserted_with s) (unless (not b) WrongSort (place_of f) (Ok (u, knowing bs s.sofar.supply.taken j)))) truth)
    (record { tracks = tracks_assert i t st bs follows.tracks; global = follows.global; begun = refl; taken = follows.taken })
    (ap (λ cs. seen_asserts (scene_of s) f cs) same)
    (like_assert i (suc s.asserted) t (record { form = f; bindings = as_bindings bs }) (λ m. stands.means.means m (meaning (as_bindings bs) m) no_variables q (shown_meant bs m follows.tracks.declared) (nothing_meant bs m follows.tracks.declared)))

-- ---- declarations

-- a name or a number where it stands
abbrev name_at : ℕ → Name → At Name
name_at place n = record { it = n; place = place }

abbrev number_at : ℕ → ℕ → At ℕ
number_at place n = record { it = n; place = place }

abbrev scene_with : List Binding → Bool → ℕ → Scene
scene_with bs global asserted = record { bindings = bs; global = global; asserted = asserted }

abbrev shown_with : Command Asserted → Scene → List (Command Asserted) × Scene
shown_with c scene = (c ∷ [], scene)

-- an outline, or the refusal of a wrong shape
abbrev given_shape : ℕ → Option Outline → Result Outline Refused
given_shape p o = given BadForm p o

sort_outline : (p : ℕ) (n : Name) (q r : ℕ) → q ≡ suc (end_of (suc p) (word_form (codes "declare-sort"))) → r ≡ suc (end_of q (symbol_form n))
    → outline (placed p (sort_declaration_form n)) ≡ Ok (sort_declaration (name_at q n) (number_at r 0))
unfolding is_command_word supported
sort_outline p n q r first second =
    let q' = suc (end_of (suc p) (word_form (codes "declare-sort"))) in
    let r' = suc (end_of q' (symbol_form n)) in
    ap (λ o. given_shape p (of_both sort_declaration (option_map (name_at q') o) (numeral_at (placed r' (numeral_form 0))))) (symbol_read n)
    ∙ ap (λ o. given_shape p (of_both sort_declaration (Some (name_at q' n)) (option_map (number_at r') o))) (numeral_read 0)
    ∙ ap (λ k. Ok (sort_declaration (name_at q' n) (number_at (suc (end_of k (symbol_form n))) 0))) (sym first)
    ∙ ap (λ k. Ok (sort_declaration (name_at k n) (number_at (suc (end_of q (symbol_form n))) 0))) (sym first)
    ∙ ap (λ k. Ok (sort_declaration (name_at q n) (number_at k 0))) (sym second)

pub sort_declared : (taken : List Name) (begun : Bool) (st : State Term) (s : Standing) (n : Name) (p : ℕ) → Follows taken begun st s → is_new_sort st n ≡ true → IsReadFrom taken begun st (declare_sort n) s (placed p (sort_declaration_form n))
sort_declared taken begun st s n p follows new =
    let bs = s.sofar.live in
    let is_new = sort_new st bs n follows.tracks new in
    let q = suc (end_of (suc p) (word_form (codes "declare-sort"))) in
    let r = suc (end_of q (symbol_form n)) in
    let behind = begun_with s (sort_known n (free_sort n) ∷ bs) in
    from_outline taken begun st (declare_sort n) s (placed p (sort_declaration_form n)) (sort_declaration (name_at q n) (number_at r 0))
    (declare_sort n ∷ []) behind (declare_sort n) (sort_outline p n q r refl refl)
    (ap (λ t. unless t ReservedName q (unless (is_some (live_sorts bs n)) Redeclared q (Ok (declare_sort n ∷ [], behind)))) is_new.free ∙ ap (λ o. unless (is_some o) Redeclared q (Ok (declare_sort n ∷ [], behind))) is_new.unused)
    (record { tracks = is_new.tracks st follows.tracks; global = follows.global; begun = refl; taken = follows.taken })
    refl (like_sort n)

-- where the parts of a declaration stand
abbrev name_place : ℕ → ℕ
name_place p = suc (end_of (suc p) (word_form (codes "declare-fun")))

abbrev arguments_place : ℕ → Symbol → ℕ
arguments_place p f = suc (end_of (name_place p) (symbol_form f.name))

abbrev result_place : ℕ → Symbol → ℕ
result_place p f = suc (end_of (arguments_place p f) (list_form (map sort_form f.args)))

abbrev arguments_in : ℕ → Symbol → Forms
arguments_in p f = placed_in (suc (arguments_place p f)) (forms_of_list (map sort_form f.args)) none

symbol_outline : (p : ℕ) (f : Symbol) → outline (placed p (declaration f)) ≡ Ok (symbol_declaration (name_at (name_place p) f.name) (arguments_in p f) (placed (result_place p f) (sort_form f.result)))
unfolding is_command_word supported
symbol_outline p f =
    ap (λ o. given_shape p (of_both (λ name arguments. symbol_declaration name arguments (placed (result_place p f) (sort_form f.result))) (option_map (name_at (name_place p)) o) (Some (arguments_in p f))))
    (symbol_read f.name)

pub sorts_fit : (g : Signature) (ss : List Sort) → IsUsual g → list_all (λ to. is_sort to && sort_is_live g.sorts to) ss ≡ true → SortsFit g ss
sorts_fit g [] usual all = tt
sorts_fit g (s ∷ ss) usual all =
    let parts = both_true (is_sort s && sort_is_live g.sorts s) (list_all (λ to. is_sort to && sort_is_live g.sorts to) ss) all in
    let here = both_true (is_sort s) (sort_is_live g.sorts s) parts.0 in
    (sort_fits g s usual here.0 here.1, sorts_fit g ss usual parts.1)

pub symbol_declared : (taken : List Name) (begun : Bool) (st : State Term) (s : Standing) (f : Symbol) (p : ℕ) → Follows taken begun st s → is_new_symbol st f ≡ true → IsReadFrom taken begun st (declare f) s (placed p (declaration f))
symbol_declared taken begun st s f p follows new =
    let bs = s.sofar.live in
    let is_new = symbol_new st bs f follows.tracks new in
    let fit : SortsFit (shown bs) (f.result ∷ f.args) = sorts_fit (shown bs) (f.result ∷ f.args) (shown_usual bs follows.tracks.declared) is_new.sorts in
    let known = (shown_read bs follows.tracks.declared).sorts in
    let args : sorts_in (live_sorts bs) (arguments_in p f) ≡ Ok f.args = sorts_read (shown bs) (live_sorts bs) known f.args (suc (arguments_place p f)) fit.1 in
    let result : sort_in (live_sorts bs) (placed (result_place p f) (sort_form f.result)) ≡ Ok f.result = sort_read (shown bs) (live_sorts bs) known f.result (result_place p f) fit.0 in
    let behind = begun_with s (function_known f ∷ bs) in
    let q = name_place p in
    let next : List Sort → Step = λ args. mapped (λ to. declares s (symbol_of_sorts f.name args to)) (sort_in (live_sorts bs) (placed (result_place p f) (sort_form f.result))) in
    let r = and_then next (sorts_in (live_sorts bs) (arguments_in p f)) in
    from_outline taken begun st (declare f) s (placed p (declaration f)) (symbol_declaration (name_at q f.name) (arguments_in p f) (placed (result_place p f) (sort_form f.result)))
    (declare f ∷ []) behind (declare f) (symbol_outline p f)
    (ap (λ t. unless t ReservedName q (unless (is_some (entry_of bs f.name)) Redeclared q r)) is_new.free
    ∙ ap (λ o. unless (is_some o) Redeclared q r) is_new.unused
    ∙ ap (and_then next) args
    ∙ ap (mapped (λ to. declares s (symbol_of_sorts f.name f.args to))) result)
    (record { tracks = is_new.tracks st follows.tracks; global = follows.global; begun = refl; taken = follows.taken })
    (ap (λ o. seen_declares (scene_of s) (symbol_of_sorts f.name (accepted_or [] o) (sort_meant (as_bindings bs) (placed (result_place p f) (sort_form f.result))))) args
    ∙ ap (λ o. seen_declares (scene_of s) (symbol_of_sorts f.name f.args (accepted_or bool o))) result)
    (like_symbol f)

-- ---- checks, resets and options

pub check_read : (taken : List Name) (begun : Bool) (st : State Term) (s : Standing) (p : ℕ) → Follows taken begun st s → IsReadFrom taken begun st check s (placed p (command_form (codes "check-sat") []))
unfolding is_command_word supported
check_read taken begun st s p follows =
    from_outline taken begun st check s (placed p (command_form (codes "check-sat") [])) checking (check ∷ []) (begun_with s s.sofar.live) check refl refl
    (record { tracks = follows.tracks; global = follows.global; begun = refl; taken = follows.taken }) refl like_check

pub reset_read : (taken : List Name) (begun : Bool) (st : State Term) (s : Standing) (p : ℕ) → Follows taken begun st s → IsReadFrom taken begun st reset s (placed p (command_form (codes "reset") []))
unfolding is_command_word supported
reset_read taken begun st s p follows =
    from_outline taken begun st reset s (placed p (command_form (codes "reset") [])) resetting (reset ∷ []) (after_reset s) reset refl refl
    (record { tracks = tracks_reset st; global = refl; begun = refl; taken = follows.taken }) refl like_reset

pub exit_read : (taken : List Name) (begun : Bool) (st : State Term) (s : Standing) (p : ℕ) → Follows taken begun st s → IsReadFrom taken begun st exit s (placed p (command_form (codes "exit") []))
unfolding is_command_word supported
exit_read taken begun st s p follows =
    from_outline taken begun st exit s (placed p (command_form (codes "exit") [])) ending (exit ∷ []) s exit refl refl follows refl like_exit

pub passed_read : (taken : List Name) (begun : Bool) (st : State Term) (s : Standing) (text : List ℕ) (f : Form) → Follows taken begun st s → outline f ≡ Ok passing → IsReadFrom taken begun st (passed text) s f
passed_read taken begun st s text f follows is =
    from_outline taken begun st (passed text) s f passing (passed (form_text f) ∷ []) s (passed (form_text f)) is refl follows refl (like_passed text (form_text f))

-- bindings without terms, of levels that are opened and closed
opened_shown : (n : ℕ) (bs : List ReadBinding) → as_bindings (opened level_known n bs) ≡ opened level n (as_bindings bs)
opened_shown zero bs = refl
opened_shown (suc n) bs = ap (λ cs. level ∷ cs) (opened_shown n bs)

closed_shown : (n : ℕ) (bs : List ReadBinding) → as_bindings (closed is_level_known n bs) ≡ closed is_level n (as_bindings bs)
closed_shown zero [] = refl
closed_shown (suc n) [] = refl
closed_shown zero (b ∷ bs) = refl
closed_shown (suc n) (level_known ∷ bs) = closed_shown n bs
closed_shown (suc n) (b ∷ bs) = closed_shown (suc n) bs

merged_shown : (n : ℕ) (bs : List ReadBinding) → as_bindings (merged is_level_known n bs) ≡ merged is_level n (as_bindings bs)
merged_shown zero [] = refl
merged_shown (suc n) [] = refl
merged_shown zero (b ∷ bs) = refl
merged_shown (suc n) (level_known ∷ bs) = merged_shown n bs
merged_shown (suc n) (b ∷ bs) = ap (λ cs. as_binding b ∷ cs) (merged_shown (suc n) bs)

flat_shown : (bs : List ReadBinding) → as_bindings (flattened is_level_known bs) ≡ flattened is_level (as_bindings bs)
flat_shown [] = refl
flat_shown (level_known ∷ bs) = flat_shown bs
flat_shown (b ∷ bs) = ap (λ cs. as_binding b ∷ cs) (flat_shown bs)

popped_shown : (b : Bool) (n : ℕ) (bs : List ReadBinding) → as_bindings (popped is_level_known b n bs) ≡ popped is_level b n (as_bindings bs)
popped_shown true n bs = merged_shown n bs
popped_shown false n bs = closed_shown n bs

emptied_shown : (b : Bool) (bs : List ReadBinding) → as_bindings (emptied is_level_known b bs) ≡ emptied is_level b (as_bindings bs)
emptied_shown true bs = flat_shown bs
emptied_shown false bs = refl

pub emptying_read : (taken : List Name) (begun : Bool) (st : State Term) (s : Standing) (p : ℕ) → Follows taken begun st s → IsReadFrom taken begun st reset_assertions s (placed p (command_form (codes "reset-assertions") []))
unfolding is_command_word supported
emptying_read taken begun st s p follows =
    from_outline taken begun st reset_assertions s (placed p (command_form (codes "reset-assertions") [])) resetting_assertions (reset_assertions ∷ []) (after_emptying s) reset_assertions refl refl
    (record {
      tracks = subst (λ b. Tracks (after reset_assertions st) (emptied is_level_known b s.sofar.live)) (sym follows.global) (tracks_emptied st s.sofar.live follows.tracks);
      global = follows.global;
      begun = follows.begun;
      taken = follows.taken;
    })
    (ap (λ bs. shown_with reset_assertions (scene_with bs s.global s.asserted)) (sym (emptied_shown s.global s.sofar.live)))
    like_emptying

globals_outline : (b : Bool) (p : ℕ) → outline (placed p (globals_option b)) ≡ Ok (global_option (Some (placed (suc (end_of (suc (end_of (suc p) (word_form (codes "set-option")))) (keyword_form (codes ":global-declarations")))) (truth_form b))))
unfolding is_command_word supported
globals_outline true p = refl
globals_outline false p = refl

truth_shown : (b : Bool) (p : ℕ) → (truth_in (Some (placed p (truth_form b))) ≡ Some b) × (is_true_symbol (Some (placed p (truth_form b))) ≡ b)
unfolding is_syntax_word is_command_word
truth_shown true p = (refl, refl)
truth_shown false p = (refl, refl)

pub globals_read : (taken : List Name) (begun : Bool) (st : State Term) (s : Standing) (b : Bool) (p : ℕ) → Follows taken begun st s → not begun ≡ true → IsReadFrom taken begun st (globals b) s (placed p (globals_option b))
globals_read taken begun st s b p follows may =
    let q = suc (end_of (suc (end_of (suc p) (word_form (codes "set-option")))) (keyword_form (codes ":global-declarations"))) in
    let f = Some (placed q (truth_form b)) in
    let behind : Standing = record { sofar = s.sofar; global = b; begun = false; asserted = s.asserted } in
    let fresh_options : begun ≡ false = not_true begun may in
    let t = truth_shown b q in
    from_outline taken begun st (globals b) s (placed p (globals_option b)) (global_option f) (globals b ∷ []) behind (globals b) (globals_outline b p)
    (ap (λ o. sets_globals (place_of (placed p (globals_option b))) o s) t.0 ∙ ap (λ h. unless h UnsupportedOption (place_of (placed p (globals_option b))) (Ok (globals b ∷ [], behind))) (follows.begun ∙ fresh_options))
    (record { tracks = tracks_globals b st s.sofar.live follows.tracks; global = refl; begun = sym fresh_options; taken = follows.taken })
    (ap (λ c. shown_with (globals c) (scene_with (as_bindings s.sofar.live) c s.asserted)) t.1)
    (like_globals b)

-- ---- levels

within_levels : (n : ℕ) → nat_le n most_levels ≡ true → nat_lt most_levels n ≡ false
within_levels n h = le-ltb most_levels n (leb-true n most_levels h)

push_outline : (p n : ℕ) → outline (placed p (command_form (codes "push") (numeral_form n ∷ []))) ≡ Ok (pushing (Some (number_at (suc (end_of (suc p) (word_form (codes "push")))) n)))
unfolding is_command_word supported
push_outline p n = ap (λ o. given_shape p (option_map (λ n. pushing (Some n)) (option_map (number_at (suc (end_of (suc p) (word_form (codes "push"))))) o))) (numeral_read n)

pop_outline : (p n : ℕ) → outline (placed p (command_form (codes "pop") (numeral_form n ∷ []))) ≡ Ok (popping (Some (number_at (suc (end_of (suc p) (word_form (codes "pop")))) n)))
unfolding is_command_word supported
pop_outline p n = ap (λ o. given_shape p (option_map (λ n. popping (Some n)) (option_map (number_at (suc (end_of (suc p) (word_form (codes "pop"))))) o))) (numeral_read n)

pub push_read : (taken : List Name) (begun : Bool) (st : State Term) (s : Standing) (n p : ℕ) → Follows taken begun st s → (nat_le n most_levels && nat_le (levels_open st + n) most_levels) ≡ true
    → IsReadFrom taken begun st (push n) s (placed p (command_form (codes "push") (numeral_form n ∷ [])))
push_read taken begun st s n p follows may =
    let parts = both_true (nat_le n most_levels) (nat_le (levels_open st + n) most_levels) may in
    let q = suc (end_of (suc p) (word_form (codes "push"))) in
    let few : nat_lt most_levels (open_levels s + n) ≡ false = ap (λ k. nat_lt most_levels (k + n)) (open_same st s.sofar.live follows.tracks) ∙ within_levels (levels_open st + n) parts.1 in
    from_outline taken begun st (push n) s (placed p (command_form (codes "push") (numeral_form n ∷ []))) (pushing (Some (number_at q n))) (push n ∷ []) (begun_with s (opened level_known n s.sofar.live)) (push n)
    (push_outline p n)
    (ap (λ b. pushed_unless b q n s) (or_false (nat_lt most_levels n) (nat_lt most_levels (open_levels s + n)) (within_levels n parts.0) few))
    (record { tracks = tracks_push n st s.sofar.live follows.tracks; global = follows.global; begun = refl; taken = follows.taken })
    (ap (λ bs. shown_with (push n) (scene_with bs s.global s.asserted)) (sym (opened_shown n s.sofar.live)))
    (like_push n)

pub pop_read : (taken : List Name) (begun : Bool) (st : State Term) (s : Standing) (n p : ℕ) → Follows taken begun st s → (nat_le n most_levels && nat_le n (levels_open st)) ≡ true
    → IsReadFrom taken begun st (pop n) s (placed p (command_form (codes "pop") (numeral_form n ∷ [])))
pop_read taken begun st s n p follows may =
    let parts = both_true (nat_le n most_levels) (nat_le n (levels_open st)) may in
    let q = suc (end_of (suc p) (word_form (codes "pop"))) in
    let bs = s.sofar.live in
    let same : open_levels s ≡ levels_open st = open_same st bs follows.tracks in
    let there : n ≤ levels_open st = leb-true n (levels_open st) parts.1 in
    let behind = begun_with s (popped is_level_known s.global n bs) in
    from_outline taken begun st (pop n) s (placed p (command_form (codes "pop") (numeral_form n ∷ []))) (popping (Some (number_at q n))) (pop n ∷ []) behind (pop n)
    (pop_outline p n)
    (ap (λ b. unless b NumberLimit q (unless (nat_lt (open_levels s) n) PopTooFar p (Ok (pop n ∷ [], behind)))) (within_levels n parts.0)
    ∙ ap (λ b. unless b PopTooFar p (Ok (pop n ∷ [], behind))) (le-ltb (open_levels s) n (omega (arith, same, there))))
    (record {
      tracks = subst (λ b. Tracks (after (pop n) st) (popped is_level_known b n bs)) (sym follows.global) (tracks_pop n st bs there follows.tracks);
      global = follows.global;
      begun = refl;
      taken = follows.taken;
    })
    (ap (λ cs. shown_with (pop n) (scene_with cs s.global s.asserted)) (sym (popped_shown s.global n bs)))
    (like_pop n)
