-- A script of the demonstration is accepted: none of its commands is refused.
use Rattle.std.proofs.Common.{◌≡◌, ℕ, suc, ◌+◌, ◌%◌, ◌^◌, Bool, true, false, not, Ok, Some, List, [], ◌∷◌, length, refl, ap, sym, subst, ◌∙◌, arith}
use Rattle.std.specs.Prelude.{◌&&◌, codes}
use Rattle.smt_lex.specs.Forms.{Form, Forms, none, ◌⨾◌}
use Rattle.smt_lex.specs.FormText.{form_text}
use Rattle.smt_lex.specs.Names.{Name, is_command_word, is_theory_name, is_reserved_for_declaring}
use Rattle.smt_terms.specs.Free.{is_among as is_among_symbols}
use Rattle.smt_terms.specs.Fresh.{Supply}
use Rattle.smt_terms.specs.Sorts.{bool, Symbol}
use Rattle.smt_terms.specs.Term.{Term}
use Rattle.smt_terms.proofs.Tests.{both_true}
use Rattle.script_terms.specs.declared.causes.Cause.TheVariants.{WrongSort}
use Rattle.script_terms.specs.Parts.{place_of}
use Rattle.script_terms.specs.Read.{has_sort, is_of_sort}
use Rattle.script_terms.specs.Refusals.{and_then, mapped, unless}
use Rattle.script_terms.specs.TextNames.{names_with_all}
use Rattle.script_read.specs.Commands.{Command, passed, declare, check, State, start, after, Signature}
use Rattle.script_read.specs.Outlines.{assertion, supported, outline}
use Rattle.script_read.specs.Printable.{is_new_symbol}
use Rattle.script_read.specs.Script.{Standing, begun_with, no_context, asserted_with, of_sort, step, read_command, numbered, behind, read_commands, first_standing, commands_or_refusal, read_forms, script, fault_of}
use Rattle.smt_print.specs.Text.{command_form, lines_in}
use Rattle.smt_print.proofs.CommandsRead.{Follows, symbol_declared}
use Rattle.smt_print.proofs.Contexts.{LiveRead, AllTaken, EachTaken}
use Rattle.smt_print.proofs.FormTexts.{placed}
use Rattle.smt_print.proofs.LinesRead.{AreForms, forms_of_lines}
use Rattle.smt_print.proofs.LiveNames.{shown_read, nothing_around}
use Rattle.smt_print.proofs.NamesTaken.{forms_taken, unplaced}
use Rattle.smt_print.proofs.Printables.{signature_of}
use Rattle.smt_print.proofs.Readings.{knowing, Reads}
use Rattle.smt_print.proofs.ScriptsRead.{IsFormOf}
use Rattle.smt_print.proofs.Tracks.{same_signature}
use Rattle.smtrw_answers.specs.Laws.{DemoScriptsAreAccepted}
use Rattle.smtrw_answers.specs.Outputs.{pool_name}
use Rattle.smtrw_answers.proofs.DemoForms.{truth_symbol, form_from, steps_written}
use Rattle.smtrw_answers.proofs.DemoLines.{flags, declarations, last_commands, demo_commands, asserting, demo_lines, demo_text}
use Rattle.smtrw_answers.proofs.DemoNames.{numbers, flags_pass}
use Rattle.smtrw_answers.proofs.DemoTerms.{FlagsAreLive, steps_read}

abbrev IsAccepted : ℕ → Forms → Standing → Type 0
IsAccepted i fs s = (r : List (Command Term) × Supply) × (read_commands i fs s ≡ Ok r)

next_accepted : (i : ℕ) (f : Form) (fs : Forms) (s t : Standing) (cs : List (Command Term)) → read_command f s ≡ Ok (cs, t) → IsAccepted (suc i) fs t → IsAccepted i (f ⨾ fs) s
next_accepted i f fs s t cs is further =
    (behind cs further.0, ap (λ r. and_then (λ r. mapped (behind r.0) (read_commands (suc i) fs r.1)) (numbered i r)) is ∙ ap (mapped (behind cs)) further.1)

-- forms of these commands, of which this one is asserted
abbrev AreFormsOf : Form → List (Command Term) → Forms → Type 0
AreFormsOf f cs fs = AreForms (IsFormOf (asserting f)) cs fs

-- ---- the check

check_read : (p : ℕ) (s : Standing) → read_command (placed p (command_form (codes "check-sat") [])) s ≡ Ok (check ∷ [], begun_with s s.sofar.live)
unfolding is_command_word supported
check_read p s = refl

check_accepted : (f : Form) (i : ℕ) (fs : Forms) (s : Standing) → AreFormsOf f (check ∷ []) fs → IsAccepted i fs s
check_accepted f i none s are = absurd are
check_accepted f i (g ⨾ none) s are =
    next_accepted i g none s (begun_with s s.sofar.live) (check ∷ []) (ap (λ h. read_command h s) are.0.1 ∙ check_read are.0.0 s) (([], s.sofar.supply), refl)
check_accepted f i (g ⨾ h ⨾ fs) s are = absurd are.1

-- ---- the assertion

abbrev form_place : ℕ → ℕ
form_place p = suc (suc p + length (codes "assert"))

assert_outline : (p : ℕ) (f : Form) → outline (placed p (command_form (codes "assert") (f ∷ []))) ≡ Ok (assertion (placed (form_place p) f))
unfolding is_command_word supported
assert_outline p f = refl

assertion_accepted : (f : Form) (taken : List Name) (begun : Bool) (st : State Term) (i : ℕ) (fs : Forms) (s : Standing) → Reads (signature_of st) [] [] f (Some bool) → Follows taken begun st s → EachTaken taken fs
    → AreFormsOf f last_commands fs → IsAccepted i fs s
assertion_accepted f taken begun st i none s reads follows all are = absurd are
assertion_accepted f taken begun st i (g ⨾ fs) s reads follows all are =
    let bs = s.sofar.live in
    let p = are.0.0 in
    let q = form_place p in
    let whole = placed p (command_form (codes "assert") (f ∷ [])) in
    let here : AllTaken taken whole = subst (AllTaken taken) are.0.1 all.0 in
    let there : AllTaken s.sofar.supply.taken f = subst (λ ns. AllTaken ns f) (sym follows.taken) (unplaced f q taken here.1.0) in
    let live : LiveRead (signature_of st) bs = subst (λ h. LiveRead h bs) (sym (same_signature st bs follows.tracks)) (shown_read bs follows.tracks.declared) in
    let is_read = reads.reads bs s.sofar.supply.taken no_context q s.sofar.supply.number live nothing_around there in
    let known = knowing bs s.sofar.supply.taken is_read.1 in
    let result = asserted_with s (is_read.0, known) in
    let truth : has_sort bool is_read.0 ≡ true = ap (is_of_sort bool) is_read.3 in
    next_accepted i g fs s result.1 result.0
    (ap (λ h. read_command h s) are.0.1 ∙ ap (and_then (step p (form_text whole) s)) (assert_outline p f) ∙ ap (λ r. mapped (asserted_with s) (of_sort bool (place_of (placed q f)) r)) is_read.2
    ∙ ap (λ b. mapped (asserted_with s) (unless (not b) WrongSort (place_of (placed q f)) (Ok (is_read.0, known)))) truth)
    (check_accepted f (suc i) fs result.1 are.1)

-- ---- the declarations

-- each symbol is new behind those before it
abbrev may_declare : State Term → List Symbol → Bool
may_declare st [] = true
may_declare st (f ∷ fs) = is_new_symbol st f && may_declare (after (declare f) st) fs

abbrev declared : State Term → List Symbol → State Term
declared st [] = st
declared st (f ∷ fs) = declared (after (declare f) st) fs

declarations_accepted : (f : Form) (taken : List Name) (begun : Bool) (st : State Term) (ds : List Symbol) (i : ℕ) (fs : Forms) (s : Standing) → Reads (signature_of (declared st ds)) [] [] f (Some bool) → may_declare st ds ≡ true
    → Follows taken begun st s → EachTaken taken fs → AreFormsOf f (declarations ds last_commands) fs → IsAccepted i fs s
declarations_accepted f taken begun st [] i fs s reads may follows all are = assertion_accepted f taken begun st i fs s reads follows all are
declarations_accepted f taken begun st (d ∷ ds) i none s reads may follows all are = absurd are
declarations_accepted f taken begun st (d ∷ ds) i (g ⨾ fs) s reads may follows all are =
    let parts = both_true (is_new_symbol st d) (may_declare (after (declare d) st) ds) may in
    let here = symbol_declared taken begun st s d are.0.0 follows parts.0 in
    next_accepted i g fs s here.behind here.results (ap (λ h. read_command h s) are.0.1 ∙ here.is_read)
    (declarations_accepted f taken true (after (declare d) st) ds (suc i) fs here.behind reads parts.1 here.follows all.1 are.1)

flags_new : may_declare start (flags (numbers 0 8)) ≡ true
unfolding is_reserved_for_declaring is_theory_name
flags_new = refl

-- ---- the whole

abbrev flag_signature : Signature
flag_signature = signature_of (declared start (flags (numbers 0 8)))

flags_live : FlagsAreLive flag_signature
flags_live i few = flags_pass (λ i. is_among_symbols flag_signature.symbols (truth_symbol (pool_name i))) refl i few

commands_accepted : (f : Form) (fs : Forms) → Reads flag_signature [] [] f (Some bool) → AreFormsOf f demo_commands fs → IsAccepted 1 fs (first_standing fs)
commands_accepted f none reads are = absurd are
commands_accepted f (g ⨾ fs) reads are =
    let s = first_standing (g ⨾ fs) in
    let taken = names_with_all [] (g ⨾ fs) in
    let follows : Follows taken false start s = record { tracks = record { levels = refl; declared = tt }; global = refl; begun = refl; taken = refl } in
    next_accepted 1 g fs s s (passed (form_text g) ∷ []) (ap (and_then (step (place_of g) (form_text g) s)) are.0)
    (declarations_accepted f taken false start (flags (numbers 0 8)) 2 fs s reads flags_new follows (forms_taken (g ⨾ fs) []).1 are.1)

pub demo_accepted : DemoScriptsAreAccepted
demo_accepted seed size some =
    let first = seed % 2 ^ 31 in
    let f = form_from size 0 first in
    let b = lines_in (asserting f) demo_commands in
    let found = forms_of_lines (asserting f) (IsFormOf (asserting f)) demo_commands (demo_lines f (steps_written size 0 first)) in
    let r = commands_accepted f found.0 (steps_read flag_signature flags_live size 0 first (omega (arith, some))) found.2 in
    let is : script b ≡ Ok r.0 = ap (read_forms b) found.1 ∙ ap (commands_or_refusal b) r.1 in
    ap (λ b. fault_of (script b)) (sym (demo_text seed size)) ∙ ap fault_of is
