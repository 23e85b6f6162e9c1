-- How a text ends a run before anything is written of it.
use Rattle.std.proofs.Common.{◌≡◌, ◌∙◌, sym, ap, refl, ℕ, ◌<◌, ◌≤◌, nat_lt, Bool, true, false, if◌then◌else◌, List, length, Option, Some, None, Result, Ok, Err, subst, arith}
use Rattle.std.specs.Prelude.{option_map, IsErrAnd}
use Rattle.std.proofs.lemmas.Bool.Decides.{nat_tests}
use Rattle.smt_lex.specs.Lex.{Fault, bad_byte, bad_token, open_text, unbalanced, line_at}
use Rattle.smt_lex.specs.Forms.{Forms, forms_to_exit}
use Rattle.smt_lex.specs.Forest.{Refuses}
use Rattle.smt_lex.specs.declared.faults.LexFault.{LexFault}
use Rattle.smt_lex.specs.declared.faults.LexFault.TheVariants.{BadByte, BadToken, OpenText, Unbalanced, Memory}
use Rattle.smt_terms.specs.Fresh.{Supply}
use Rattle.smt_terms.specs.Term.{Term}
use Rattle.script_terms.specs.declared.faults.Refusal.{Refusal}
use Rattle.script_terms.specs.declared.faults.ScriptFault.{ScriptFault}
use Rattle.script_terms.specs.declared.faults.ScriptFault.TheVariants.{Refused as ScriptRefused, Memory as NoMemory}
use Rattle.term_table.specs.Formulas.{Formulas}
use Rattle.script_read.specs.CommandLists.{IsRefusal, ReadsScript}
use Rattle.script_read.specs.Commands.{Command}
use Rattle.script_terms.specs.Refusals.{Unaccepted, unread, refused}
use Rattle.script_read.specs.Script.{read_forms, fault_of, fault, script}
use Rattle.pass_laws.specs.declared.names.Pass.{Pass}
use Rattle.passes.specs.declared.running.PassFault.{PassFault}
use Rattle.passes.specs.declared.running.PassFault.TheVariants.{QuantifiedUse, Memory as NoMemoryForPassing}
use Rattle.pass_laws.specs.Passed.{refused_assertion}
use Rattle.smtrw_answers.specs.declared.status.Status.{Status}
use Rattle.smtrw_answers.specs.declared.status.Status.TheVariants.{Done, Refused, Usage, ReadFailed, WriteFailed, OutOfMemory, ModelRefused, Beyond128, PassRefused}
use Rattle.smtrw_answers.specs.Endings.{longest_text, too_long, refusal_of, script_end, passes_end, rewrite_end, or_later as status_or_later}
use Rattle.smtrw_answers.specs.Faults.{status_of_lexing, status_of_passing, status_of_reading}
use Rattle.smtrw_answers.specs.Outputs.{commands, names_left, read_or_none}
use Rattle.smtrw_run.specs.declared.rewriting.Rewriting.{Rewriting}
use Rattle.smtrw_run.specs.Prepared.{EndsEarly}
use Rattle.smtrw_run.specs.Rewriting.{EndsFor}

-- the end of a text that isn't too long, by what reading it answers
abbrev end_of : Result (List (Command Term) × Supply) Unaccepted → Option Status
end_of r = option_map refusal_of (fault_of r)

within_limit : (b : List ℕ) → length b ≤ longest_text → nat_lt longest_text (length b) ≡ false
within_limit b short = grind (arith, nat_tests)

ends_by : (b : List ℕ) → length b ≤ longest_text → script_end b ≡ end_of (script b)
ends_by b short = ap (λ (long : Bool). if long then Some (Refused too_long) else end_of (script b)) (within_limit b short)

beyond_limit : (b : List ℕ) → longest_text < length b → nat_lt longest_text (length b) ≡ true
beyond_limit b long = grind (arith, nat_tests)

pub too_long_ends : (b : List ℕ) → longest_text < length b → script_end b ≡ Some (Refused too_long)
too_long_ends b long = ap (λ (long : Bool). if long then Some (Refused too_long) else end_of (script b)) (beyond_limit b long)

-- ---- a fault of tokens or parentheses

unread_end : (b : List ℕ) → length b ≤ longest_text → (f : Fault) → forms_to_exit b ≡ Err f → script_end b ≡ end_of (read_forms b (Err f))
unread_end b short f is = ends_by b short ∙ ap (λ (fs : Result Forms Fault). end_of (read_forms b fs)) is

at_line : (b : List ℕ) (code place : ℕ) (line : ℕ) → line ≡ line_at b place → Some (Refused (record { code = code; command = 0; line = line_at b place; byte = place })) ≡ Some (Refused (record { code = code; command = 0; line = line; byte = place }))
at_line b code place line is = ap (λ (n : ℕ). Some (Refused (record { code = code; command = 0; line = n; byte = place }))) (sym is)

pub lexing_ends : (b : List ℕ) → length b ≤ longest_text → (f : LexFault) → Refuses b (forms_to_exit b) f → EndsEarly (script_end b) (status_of_lexing f)
lexing_ends b short (BadByte place line) h = unread_end b short (bad_byte place) h.0 ∙ at_line b 10 place line h.1
lexing_ends b short (BadToken place line) h = unread_end b short (bad_token place) h.0 ∙ at_line b 11 place line h.1
lexing_ends b short (OpenText place line) h = unread_end b short (open_text place) h.0 ∙ at_line b 12 place line h.1
lexing_ends b short (Unbalanced place line) h = unread_end b short (unbalanced place) h.0 ∙ at_line b 13 place line h.1
lexing_ends b short Memory h = tt

-- ---- a refused command

refused_by : (r : Refusal) (u : Unaccepted) → IsRefusal r u → refusal_of u ≡ Refused r
refused_by r (refused n) is = λ i. Refused (record { code = sym is.0 i; command = sym is.1 i; line = sym is.2 i; byte = sym is.3 i })
refused_by r (unread f line) is = absurd is

refused_end : (r : Refusal) (x : Result (List (Command Term) × Supply) Unaccepted) → IsErrAnd x (IsRefusal r) → end_of x ≡ Some (Refused r)
refused_end r (Err u) is = ap Some (refused_by r u is)
refused_end r (Ok c) is = absurd is

pub reading_ends : (b : List ℕ) → length b ≤ longest_text → (r : Refusal) → IsErrAnd (script b) (IsRefusal r) → script_end b ≡ Some (Refused r)
reading_ends b short r is = ends_by b short ∙ refused_end r (script b) is

-- ---- an accepted text

pub faultless_ends : (b : List ℕ) → length b ≤ longest_text → fault b ≡ None → script_end b ≡ None
faultless_ends b short is = ends_by b short ∙ ap (λ (u : Option Unaccepted). option_map refusal_of u) is

pub accepted_ends : (b : List ℕ) → length b ≤ longest_text → (r : List (Command Term) × Supply) → script b ≡ Ok r → script_end b ≡ None
accepted_ends b short r is = faultless_ends b short (ap fault_of is)

-- ---- faults

pub ends_so : (end : Option Status) (r : Result Rewriting Status) (status : Status) → IsErrAnd r (λ s. s ≡ status) → EndsEarly end status → EndsFor end r
ends_so end (Err s) status is ends = subst (λ (x : Status). EndsEarly end x) (sym is) ends
ends_so end (Ok w) status is ends = absurd is

pub unread_ends : (b : List ℕ) → length b ≤ longest_text → (t : Formulas) (f : ScriptFault) → ReadsScript t b (Err f) → EndsEarly (script_end b) (status_of_reading f)
unread_ends b short t (ScriptRefused r) reads = reading_ends b short r reads
unread_ends b short t NoMemory reads = tt

-- ---- the passes

module _ (b : List ℕ) (read : List (Command Term) × Supply) (is : script b ≡ Ok read) (ps : List Pass) where
  -- they end the run as they do for the commands that were read
  pub passes_end_so : (o : Option ℕ) → refused_assertion ps read.0 read.1 ≡ o → passes_end b ps ≡ option_map (λ (i : ℕ). PassRefused 50 i) o
  passes_end_so o so =
      ap (λ (r : Result (List (Command Term) × Supply) Unaccepted). option_map (λ (i : ℕ). PassRefused 50 i) (refused_assertion ps (read_or_none r).0 (read_or_none r).1)) is
      ∙ ap (λ (a : Option ℕ). option_map (λ (i : ℕ). PassRefused 50 i) a) so

  -- a rewriting ends by a fault of theirs
  pub passing_ends : length b ≤ longest_text → (f : PassFault) → ((a : ℕ) → f ≡ QuantifiedUse a → refused_assertion ps read.0 read.1 ≡ Some a) → EndsEarly (rewrite_end b ps) (status_of_passing f)
  passing_ends short (QuantifiedUse a) so = λ i. status_or_later (accepted_ends b short read is i) (passes_end_so (Some a) (so a refl) i)
  passing_ends short NoMemoryForPassing so = tt

  pub rewriting_accepted : length b ≤ longest_text → refused_assertion ps read.0 read.1 ≡ None → rewrite_end b ps ≡ None
  rewriting_accepted short none i = status_or_later (accepted_ends b short read is i) (passes_end_so None none i)

-- the code of their refusal
passes_code : (o : Option ℕ) (code assertion : ℕ) → option_map (λ (i : ℕ). PassRefused 50 i) o ≡ Some (PassRefused code assertion) → code ≡ 50
passes_code (Some a) code assertion is = cc
passes_code None code assertion is = absurd cc

pub passes_end_code : (b : List ℕ) (ps : List Pass) (code assertion : ℕ) → passes_end b ps ≡ Some (PassRefused code assertion) → code ≡ 50
passes_end_code b ps code assertion is = passes_code (refused_assertion ps (commands b) (names_left b)) code assertion is

-- none is that of a script
unread_is_no_pass : (u : Unaccepted) (code assertion : ℕ) → Some (refusal_of u) ≡ Some (PassRefused code assertion) → ⊥
unread_is_no_pass (unread f line) code assertion is = absurd cc
unread_is_no_pass (refused r) code assertion is = absurd cc

fault_is_no_pass : (long : Bool) (o : Option Unaccepted) (code assertion : ℕ) → (if long then Some (Refused too_long) else option_map refusal_of o) ≡ Some (PassRefused code assertion) → ⊥
fault_is_no_pass true o code assertion is = absurd cc
fault_is_no_pass false None code assertion is = absurd cc
fault_is_no_pass false (Some u) code assertion is = unread_is_no_pass u code assertion is

pub script_end_is_no_pass : (b : List ℕ) (code assertion : ℕ) → script_end b ≡ Some (PassRefused code assertion) → ⊥
script_end_is_no_pass b code assertion is = fault_is_no_pass (nat_lt longest_text (length b)) (fault b) code assertion is

rewriting_code : (b : List ℕ) (ps : List Pass) (o : Option Status) → o ≡ script_end b → (code assertion : ℕ) → status_or_later o (passes_end b ps) ≡ Some (PassRefused code assertion) → code ≡ 50
rewriting_code b ps None at code assertion is = passes_end_code b ps code assertion is
rewriting_code b ps (Some s) at code assertion is = absurd (script_end_is_no_pass b code assertion (sym at ∙ is))

pub rewrite_end_code : (b : List ℕ) (ps : List Pass) (code assertion : ℕ) → rewrite_end b ps ≡ Some (PassRefused code assertion) → code ≡ 50
rewrite_end_code b ps code assertion is = rewriting_code b ps (script_end b) refl code assertion is

-- what ends the script ends its rewriting
pub rewriting_ends : (b : List ℕ) (ps : List Pass) (status : Status) → EndsEarly (script_end b) status → EndsEarly (rewrite_end b ps) status
rewriting_ends b ps (Refused r) is = ap (λ (o : Option Status). status_or_later o (passes_end b ps)) is
rewriting_ends b ps OutOfMemory is = tt
rewriting_ends b ps Done is = absurd is
rewriting_ends b ps (Usage u) is = absurd is
rewriting_ends b ps (ReadFailed word) is = absurd is
rewriting_ends b ps WriteFailed is = absurd is
rewriting_ends b ps (ModelRefused code line byte) is = absurd is
rewriting_ends b ps (Beyond128 assertion) is = absurd is
rewriting_ends b ps (PassRefused code assertion) is = ap (λ (o : Option Status). status_or_later o (passes_end b ps)) is
