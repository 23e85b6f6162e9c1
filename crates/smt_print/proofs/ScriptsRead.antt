-- Printed scripts are read back, command by command.
use Rattle.std.proofs.Common.{◌≡◌, ℕ, suc, inl, inr, Bool, true, false, not, Ok, Some, List, [], ◌∷◌, ◌++◌, map, refl, ap, sym, subst, ◌∙◌, arith}
use Rattle.std.specs.Prelude.{◌&&◌, codes}
use Rattle.std.specs.List.{list_all}
use Rattle.smt_lex.specs.declared.items.Item.TheVariants.{Word, Keyword}
use Rattle.smt_lex.specs.Names.{Name, IsName, is_among, is_reserved_for_sorts}
use Rattle.smt_lex.specs.Forms.{Form, Forms, none, ◌⨾◌, forms_of_list, is_exit_word}
use Rattle.smt_lex.proofs.Joining.{run_lexeme}
use Rattle.smt_terms.specs.Fresh.{Supply}
use Rattle.smt_terms.specs.Free.{names_of}
use Rattle.smt_terms.specs.Rank.{sort_of, is_sort}
use Rattle.smt_terms.specs.Sorts.{Sort, bool, Symbol}
use Rattle.smt_terms.specs.Term.{Term}
use Rattle.smt_terms.proofs.Tests.{both_true}
use Rattle.script_read.specs.Commands.{Command, passed, declare_sort, declare, assert, check, check_assuming, push, pop, reset, reset_assertions, globals, exit, State, start, after, sorts_of_state, symbols_of_state, Signature}
use Rattle.script_read.specs.Mean.{accepted_or}
use Rattle.script_read.specs.Outlines.{passing, outline}
use Rattle.smt_lex.specs.FormText.{form_text}
use Rattle.script_read.specs.Printable.{is_usable, is_new_sort, is_new_symbol, is_printable_term, may_stand, fixes, may_be_followed, printable_from, printable, is_writable, sort_is_live}
use Rattle.script_terms.specs.Read.{has_sort}
use Rattle.script_terms.specs.Reading.{ReadBinding}
use Rattle.script_terms.specs.Refusals.{and_then, mapped}
use Rattle.script_read.specs.Scenes.{Asserted, commands_seen, first_scene, forms_script}
use Rattle.script_read.specs.Script.{Standing, numbered, behind, read_commands, first_standing, commands_or_refusal, read_forms, script, fault_of}
use Rattle.script_terms.specs.TextNames.{names_with_all}
use Rattle.smt_print.specs.declared.layout.Layout.{Layout}
use Rattle.smt_print.specs.declared.layout.Layout.TheVariants.{Tree, Dag}
use Rattle.term_table.specs.WrittenForms.{list_form, truth_form, keyword_form, numeral_form, sort_form, symbol_form}
use Rattle.smt_print.specs.Laws.{MeansTheSame, ReadsBack, PrintingReadsBack}
use Rattle.smt_print.specs.TermForms.{tree_form}
use Rattle.smt_print.specs.Text.{term_form, command_form, command_text, sort_declaration, declaration, globals_option, lines}
use Rattle.smt_print.proofs.CommandsRead.{Follows, IsReadFrom, StandFor, scene_of, sort_is_bool, assert_read, sort_declared, symbol_declared, sorts_fit, check_read, reset_read, exit_read, passed_read, emptying_read, globals_read, push_read, pop_read}
use Rattle.smt_print.proofs.Contexts.{AllTaken, EachTaken}
use Rattle.smt_print.proofs.FormTexts.{IsWritten, AreWritten, placed, lexed_form}
use Rattle.smt_print.proofs.LikePoints.{LikeCommands, Alike, alike}
use Rattle.smt_print.proofs.LinesRead.{EndsThere, form_line, list_goes_on, CommandLine, EndsOrGoesOn, AllLines, AreForms, forms_of_lines}
use Rattle.smt_print.proofs.LiteralsRead.{assuming_read, AreLiterals, all_literals, literal_fits}
use Rattle.smt_print.proofs.LiveNames.{shown, shown_usual}
use Rattle.smt_print.proofs.NamesTaken.{forms_taken}
use Rattle.smt_print.proofs.PassedTexts.{passed_line}
use Rattle.smt_print.proofs.Printables.{signature_of, IsUsual, printable_fits, usable_parts}
use Rattle.smt_print.proofs.SortsRead.{SortsFit}
use Rattle.smt_print.proofs.Stands.{Fits, tree_stands, dag_stands, sort_names, writable}
use Rattle.smt_print.proofs.TextsRead.{term_written}
use Rattle.smt_print.proofs.Tracks.{Tracks, usual_state, symbol_new, bound_after, tracks_after}
use Rattle.smt_print.proofs.Writable.{word_written, symbol_written, numeral_written, truth_written, sort_written}
use Rattle.smt_print.proofs.WritableTerms.{tree_written}

-- ---- commands and their forms

-- the form of a command; that of one that is passed on stands in its text
abbrev pub printed : (Term → Form) → Command Term → Form
printed form (passed text) = list_form []
printed form (declare_sort n) = sort_declaration n
printed form (declare f) = declaration f
printed form (assert i t) = command_form (codes "assert") (form t ∷ [])
printed form check = command_form (codes "check-sat") []
printed form (check_assuming ls) = command_form (codes "check-sat-assuming") (list_form (map tree_form ls) ∷ [])
printed form (push n) = command_form (codes "push") (numeral_form n ∷ [])
printed form (pop n) = command_form (codes "pop") (numeral_form n ∷ [])
printed form reset = command_form (codes "reset") []
printed form reset_assertions = command_form (codes "reset-assertions") []
printed form (globals b) = globals_option b
printed form exit = command_form (codes "exit") []

abbrev pub IsFormOf : (Term → Form) → Command Term → Form → Type 0
IsFormOf form (passed text) f = outline f ≡ Ok passing
IsFormOf form c f = (p : ℕ) × (f ≡ placed p (printed form c))

from_printed : (form : Term → Form) (taken : List Name) (begun : Bool) (st : State Term) (s : Standing) (c : Command Term) (f : Form) → (is : (p : ℕ) × (f ≡ placed p (printed form c))) → AllTaken taken f
    → ((p : ℕ) → AllTaken taken (placed p (printed form c)) → IsReadFrom taken begun st c s (placed p (printed form c))) → IsReadFrom taken begun st c s f
from_printed form taken begun st s c f is all read = subst (IsReadFrom taken begun st c s) (sym is.1) (read is.0 (subst (AllTaken taken) is.1 all))

command_is_read : (form : Term → Form) → StandFor form → (taken : List Name) (begun : Bool) (st : State Term) (s : Standing) (c : Command Term) (f : Form) → Follows taken begun st s → may_stand begun st c ≡ true → IsFormOf form c f
    → AllTaken taken f → IsReadFrom taken begun st c s f
command_is_read form stand taken begun st s (passed text) f follows may is all = passed_read taken begun st s text f follows is
command_is_read form stand taken begun st s (declare_sort n) f follows may is all = from_printed form taken begun st s (declare_sort n) f is all (λ p a. sort_declared taken begun st s n p follows may)
command_is_read form stand taken begun st s (declare g) f follows may is all = from_printed form taken begun st s (declare g) f is all (λ p a. symbol_declared taken begun st s g p follows may)
command_is_read form stand taken begun st s (assert i t) f follows may is all = from_printed form taken begun st s (assert i t) f is all (λ p a. assert_read form stand taken begun st s i t p follows may a)
command_is_read form stand taken begun st s check f follows may is all = from_printed form taken begun st s check f is all (λ p a. check_read taken begun st s p follows)
command_is_read form stand taken begun st s (check_assuming ls) f follows may is all = from_printed form taken begun st s (check_assuming ls) f is all (λ p a. assuming_read taken begun st s ls p follows may)
command_is_read form stand taken begun st s (push n) f follows may is all = from_printed form taken begun st s (push n) f is all (λ p a. push_read taken begun st s n p follows may)
command_is_read form stand taken begun st s (pop n) f follows may is all = from_printed form taken begun st s (pop n) f is all (λ p a. pop_read taken begun st s n p follows may)
command_is_read form stand taken begun st s reset f follows may is all = from_printed form taken begun st s reset f is all (λ p a. reset_read taken begun st s p follows)
command_is_read form stand taken begun st s reset_assertions f follows may is all = from_printed form taken begun st s reset_assertions f is all (λ p a. emptying_read taken begun st s p follows)
command_is_read form stand taken begun st s (globals b) f follows may is all = from_printed form taken begun st s (globals b) f is all (λ p a. globals_read taken begun st s b p follows may)
command_is_read form stand taken begun st s exit f follows may is all = from_printed form taken begun st s exit f is all (λ p a. exit_read taken begun st s p follows)

-- ---- scripts

pub record ScriptRead (cs : List (Command Term)) (i : ℕ) (fs : Forms) (s : Standing) : Type 0 where
  pub commands : List (Command Term) × Supply
  pub read : read_commands i fs s ≡ Ok commands
  pub like : LikeCommands Term Asserted MeansTheSame cs (commands_seen fs (scene_of s))

next_command : (begun : Bool) (taken : List Name) (st : State Term) (c : Command Term) (cs : List (Command Term)) (i : ℕ) (f : Form) (fs : Forms) (s : Standing) → (here : IsReadFrom taken begun st c s f) → ScriptRead cs (suc i) fs here.behind
    → ScriptRead (c ∷ cs) i (f ⨾ fs) s
next_command begun taken st c cs i f fs s here rest = record {
  commands = behind here.results rest.commands;
  read = ap (λ r. and_then (λ r. mapped (behind r.0) (read_commands (suc i) fs r.1)) (numbered i r)) here.is_read ∙ ap (mapped (behind here.results)) rest.read;
  like = subst (λ r. LikeCommands Term Asserted MeansTheSame (c ∷ cs) (r.0 ++ commands_seen fs r.1)) (sym here.is_seen) (here.like, rest.like);
}

pub script_is_read : (form : Term → Form) → StandFor form → (taken : List Name) (cs : List (Command Term)) (begun : Bool) (st : State Term) (i : ℕ) (fs : Forms) (s : Standing) → Follows taken begun st s → printable_from begun st cs ≡ true
    → AreForms (IsFormOf form) cs fs → EachTaken taken fs → ScriptRead cs i fs s
script_is_read form stand taken [] begun st i none s follows may are all = record { commands = ([], s.sofar.supply); read = refl; like = tt }
script_is_read form stand taken [] begun st i (f ⨾ fs) s follows may are all = absurd are
script_is_read form stand taken (c ∷ cs) begun st i none s follows may are all = absurd are
script_is_read form stand taken (c ∷ cs) begun st i (f ⨾ fs) s follows may are all =
    let a = both_true (may_stand begun st c) (may_be_followed c cs && printable_from (fixes begun c) (after c st) cs) may in
    let b = both_true (may_be_followed c cs) (printable_from (fixes begun c) (after c st) cs) a.1 in
    let here = command_is_read form stand taken begun st s c f follows a.0 are.0 all.0 in
    next_command begun taken st c cs i f fs s here (script_is_read form stand taken cs (fixes begun c) (after c st) (suc i) fs here.behind here.follows b.1 are.1 all.1)

-- ---- lines

-- a layout whose forms can be written
abbrev WrittenFor : (Term → Form) → Type 0
WrittenFor form = (g : Signature) (t : Term) (s : Sort) → Fits g [] t s → IsWritten (form t)

-- a line before these commands
abbrev LineFor : List ℕ → (Form → Type 0) → List (Command Term) → Type 0
LineFor text Is cs = (l : CommandLine text Is) × EndsOrGoesOn l.line.lexed cs

-- the line of a command that isn't `exit`
pub command_line : (name : List ℕ) (parts : List Form) (Is : Form → Type 0) (cs : List (Command Term)) → IsWritten (command_form name parts) → is_exit_word Word name ≡ false → ((p : ℕ) → Is (placed p (command_form name parts)))
    → LineFor (form_text (command_form name parts)) Is cs
command_line name parts Is cs written other is =
    (record { form_at = λ p. placed p (command_form name parts); line = form_line (command_form name parts) written; is = is }, inl (list_goes_on (record { item = Word; start = 0; text = name }) (forms_of_list parts) written other))

sorts_written : (g : Signature) (ss : List Sort) → SortsFit g ss → AreWritten (forms_of_list (map sort_form ss))
sorts_written g [] fit = tt
sorts_written g (s ∷ ss) fit = (sort_written s (sort_names g s fit.0), sorts_written g ss fit.1)

literals_written : (g : Signature) (ts : List Term) → IsUsual g → AreLiterals g ts → AreWritten (forms_of_list (map tree_form ts))
literals_written g [] usual all = tt
literals_written g (t ∷ ts) usual all = (tree_written t (writable g t [] bool (literal_fits g t usual all.0)), literals_written g ts usual all.1)

keyword_written : IsWritten (keyword_form (codes ":global-declarations"))
keyword_written = (tt, run_lexeme (codes ":global-declarations") Keyword (omega arith) refl refl)

sort_parts : (st : State Term) (n : Name) → is_new_sort st n ≡ true → is_writable n ≡ true
sort_parts st n new = (both_true (is_writable n) (not (is_reserved_for_sorts n) && not (is_among (sorts_of_state st) n)) new).0

symbol_parts : (st : State Term) (f : Symbol) → is_new_symbol st f ≡ true → IsName f.name
symbol_parts st f new =
    (usable_parts f.name (both_true (is_usable f.name) (not (is_among (names_of (symbols_of_state st)) f.name) && list_all (λ to. is_sort to && sort_is_live (sorts_of_state st) to) (f.result ∷ f.args)) new).0).0

assert_written : (form : Term → Form) → WrittenFor form → (st : State Term) (bs : List ReadBinding) (t : Term) → Tracks st bs → (has_sort bool t && is_printable_term st t) ≡ true → IsWritten (form t)
assert_written form written st bs t tracks may =
    let parts = both_true (has_sort bool t) (is_printable_term st t) may in
    let sort : sort_of t ≡ Some bool = sort_is_bool (sort_of t) parts.0 in
    written (signature_of st) t bool (printable_fits st t bool (usual_state st bs tracks) sort parts.1)

exit_ends : EndsThere (λ p ts. lexed_form p (command_form (codes "exit") []) ts)
exit_ends p ts = refl

nothing_follows : (cs : List (Command Term)) → may_be_followed exit cs ≡ true → cs ≡ []
nothing_follows [] h = refl
nothing_follows (c ∷ cs) h = absurd (cc)

pub line_before : (form : Term → Form) → WrittenFor form → (c : Command Term) (cs : List (Command Term)) (begun : Bool) (st : State Term) (bs : List ReadBinding) → Tracks st bs → may_stand begun st c ≡ true → may_be_followed c cs ≡ true
    → LineFor (command_text form c) (IsFormOf form c) cs
line_before form written (passed text) cs begun st bs tracks may follow =
    let l = passed_line text may in
    (record { form_at = l.form_at; line = l.line; is = l.is }, inl l.goes)
line_before form written (declare_sort n) cs begun st bs tracks may follow =
    command_line (codes "declare-sort") (symbol_form n ∷ numeral_form 0 ∷ []) (IsFormOf form (declare_sort n)) cs
    (word_written (codes "declare-sort") refl, (symbol_written n (sort_parts st n may), (numeral_written 0, tt))) refl (λ p. (p, refl))
line_before form written (declare f) cs begun st bs tracks may follow =
    let new = symbol_new st bs f tracks may in
    let fit : SortsFit (shown bs) (f.result ∷ f.args) = sorts_fit (shown bs) (f.result ∷ f.args) (shown_usual bs tracks.declared) new.sorts in
    command_line (codes "declare-fun") (symbol_form f.name ∷ list_form (map sort_form f.args) ∷ sort_form f.result ∷ []) (IsFormOf form (declare f)) cs
    (word_written (codes "declare-fun") refl, (symbol_written f.name (symbol_parts st f may), (sorts_written (shown bs) f.args fit.1, (sort_written f.result (sort_names (shown bs) f.result fit.0), tt)))) refl (λ p. (p, refl))
line_before form written (assert i t) cs begun st bs tracks may follow =
    command_line (codes "assert") (form t ∷ []) (IsFormOf form (assert i t)) cs (word_written (codes "assert") refl, (assert_written form written st bs t tracks may, tt)) refl (λ p. (p, refl))
line_before form written check cs begun st bs tracks may follow = command_line (codes "check-sat") [] (IsFormOf form check) cs (word_written (codes "check-sat") refl, tt) refl (λ p. (p, refl))
line_before form written (check_assuming ls) cs begun st bs tracks may follow =
    command_line (codes "check-sat-assuming") (list_form (map tree_form ls) ∷ []) (IsFormOf form (check_assuming ls)) cs
    (word_written (codes "check-sat-assuming") refl, (literals_written (signature_of st) ls (usual_state st bs tracks) (all_literals st ls may), tt)) refl (λ p. (p, refl))
line_before form written (push n) cs begun st bs tracks may follow = command_line (codes "push") (numeral_form n ∷ []) (IsFormOf form (push n)) cs (word_written (codes "push") refl, (numeral_written n, tt)) refl (λ p. (p, refl))
line_before form written (pop n) cs begun st bs tracks may follow = command_line (codes "pop") (numeral_form n ∷ []) (IsFormOf form (pop n)) cs (word_written (codes "pop") refl, (numeral_written n, tt)) refl (λ p. (p, refl))
line_before form written reset cs begun st bs tracks may follow = command_line (codes "reset") [] (IsFormOf form reset) cs (word_written (codes "reset") refl, tt) refl (λ p. (p, refl))
line_before form written reset_assertions cs begun st bs tracks may follow =
    command_line (codes "reset-assertions") [] (IsFormOf form reset_assertions) cs (word_written (codes "reset-assertions") refl, tt) refl (λ p. (p, refl))
line_before form written (globals b) cs begun st bs tracks may follow =
    command_line (codes "set-option") (keyword_form (codes ":global-declarations") ∷ truth_form b ∷ []) (IsFormOf form (globals b)) cs (word_written (codes "set-option") refl, (keyword_written, (truth_written b, tt))) refl (λ p. (p, refl))
line_before form written exit cs begun st bs tracks may follow =
    let is : IsWritten (command_form (codes "exit") []) = (word_written (codes "exit") refl, tt) in
    (record { form_at = λ p. placed p (command_form (codes "exit") []); line = form_line (command_form (codes "exit") []) is; is = λ p. (p, refl) }, inr (exit_ends, nothing_follows cs follow))

pub all_lines : (form : Term → Form) → WrittenFor form → (cs : List (Command Term)) (begun : Bool) (st : State Term) (bs : List ReadBinding) → Tracks st bs → printable_from begun st cs ≡ true → AllLines form (IsFormOf form) cs
all_lines form written [] begun st bs tracks may = tt
all_lines form written (c ∷ cs) begun st bs tracks may =
    let a = both_true (may_stand begun st c) (may_be_followed c cs && printable_from (fixes begun c) (after c st) cs) may in
    let b = both_true (may_be_followed c cs) (printable_from (fixes begun c) (after c st) cs) a.1 in
    let here = line_before form written c cs begun st bs tracks a.0 b.0 in
    (here.0, here.1, all_lines form written cs (fixes begun c) (after c st) (bound_after c st.global bs) (tracks_after begun c st bs tracks a.0) b.1)

-- ---- whole texts

abbrev from_start : Tracks start []
from_start = record { levels = refl; declared = tt }

text_reads_back : (layout : Layout) → StandFor (term_form layout) → WrittenFor (term_form layout) → (cs : List (Command Term)) → printable cs ≡ true → ReadsBack layout cs
text_reads_back layout stand written cs may =
    let form = term_form layout in
    let b = lines layout cs in
    let found = forms_of_lines form (IsFormOf form) cs (all_lines form written cs false start [] from_start may) in
    let fs = found.0 in
    let follows : Follows (names_with_all [] fs) false start (first_standing fs) = record { tracks = from_start; global = refl; begun = refl; taken = refl } in
    let r = script_is_read form stand (names_with_all [] fs) cs false start 1 fs (first_standing fs) follows may found.2 (forms_taken fs []) in
    let is : script b ≡ Ok r.commands = ap (read_forms b) found.1 ∙ ap (commands_or_refusal b) r.read in
    let seen : forms_script b ≡ commands_seen fs first_scene = ap (λ q. commands_seen (accepted_or none q) first_scene) found.1 in
    let same : Alike Term Asserted MeansTheSame cs (forms_script b) = subst (Alike Term Asserted MeansTheSame cs) (sym seen) (alike Term Asserted MeansTheSame cs (commands_seen fs first_scene) r.like) in
    record {
      accepted = ap fault_of is;
      kinds = sym same.kinds;
      signatures = λ k. sym (same.signatures k);
      live = same.live;
      literals = same.literals;
    }

pub printing_reads_back : PrintingReadsBack
printing_reads_back Tree cs may = text_reads_back Tree (λ g t s fits. tree_stands g [] t s fits) (λ g t s fits. term_written Tree t (writable g t [] s fits)) cs may
printing_reads_back Dag cs may = text_reads_back Dag (λ g t s fits. dag_stands g t s fits) (λ g t s fits. term_written Dag t (writable g t [] s fits)) cs may
