-- How a model's text ends the run as it is read.
use Rattle.std.proofs.Common.{◌≡◌, ◌∙◌, sym, ap, ℕ, ◌<◌, ◌≤◌, nat_lt, Bool, true, false, cond, List, length, Option, Some, None, Result, Ok, Err, subst, arith}
use Rattle.std.specs.Prelude.{IfErr, IfOk, IfSome, IsErrAnd}
use Rattle.std.proofs.lemmas.Bool.Decides.{nat_tests}
use Rattle.smt_io.specs.Told.{TookMore}
use Rattle.smt_lex.specs.declared.faults.LexFault.{LexFault}
use Rattle.smt_lex.specs.declared.faults.LexFault.TheVariants.{BadByte, BadToken, OpenText, Unbalanced, Memory}
use Rattle.smt_lex.specs.Lex.{Fault, bad_byte, bad_token, open_text, unbalanced, line_at}
use Rattle.smt_lex.specs.Forest.{Refuses}
use Rattle.smt_lex.specs.Forms.{Forms, forms}
use Rattle.smt_terms.specs.Models.{Model}
use Rattle.term_table.specs.Formulas.{Formulas}
use Rattle.script_read.specs.Commands.{Signature}
use Rattle.script_read.specs.Script.{fault_place}
use Rattle.models.specs.ModelView.{ModelLists}
use Rattle.model_texts.specs.declared.faults.ModelFault.{ModelFault}
use Rattle.model_texts.specs.declared.faults.ModelFault.TheVariants.{ModelForm, ModelSort, NotATable, ModelNumber, ModelTwice, Memory as NoMemory}
use Rattle.model_texts.specs.ModelText.{model_of, model_from}
use Rattle.model_texts.specs.ReadModel.{ReadsModel, IsRefusedFor}
use Rattle.model_texts.specs.Refusals.{Cause, Unmodelled, unread, refused, code_of, model_form, model_sort, not_a_table, model_number, model_twice}
use Rattle.pass_laws.specs.Carry.{Stage}
use Rattle.smtrw_answers.specs.declared.status.Status.{Status}
use Rattle.smtrw_answers.specs.declared.status.Status.TheVariants.{Done, Refused as ScriptRefused, Usage, ReadFailed, WriteFailed, OutOfMemory, ModelRefused, Beyond128, PassRefused}
use Rattle.smtrw_answers.specs.Endings.{longest_text, fault_code, model_refusal_of, model_end, text_end}
use Rattle.smtrw_answers.specs.Faults.{status_of_model, status_of_model_lexing}
use Rattle.smtrw_answers.specs.Words.{Word, Numbered}
use Rattle.smtrw_run.specs.Carrying.{EndsAtFile, EndsAtModel, IsModelRead, ReadsText}

pub not_too_long : (g : List ℕ) → length g ≤ longest_text → nat_lt longest_text (length g) ≡ false
not_too_long g short = grind (arith, nat_tests)

pub too_long : (g : List ℕ) → longest_text < length g → nat_lt longest_text (length g) ≡ true
too_long g long = grind (arith, nat_tests)

-- ---- a text that is too long

pub long_ends : (sig : Signature) (told rest : Option (List ℕ)) (given given_now : ℕ) → TookMore told rest given given_now → EndsAtModel sig told (ModelRefused 2 0 longest_text)
long_ends sig None rest given given_now took = tt
long_ends sig (Some g) (Some left) given given_now took =
    let long : nat_lt longest_text (length g) ≡ true = too_long g (omega (arith, took)) in
    λ stages. ap (λ (c : Bool). cond c (Some (ModelRefused 2 0 longest_text)) (model_end stages (model_of g sig))) long
long_ends sig (Some g) None given given_now took = absurd took

module _ (g : List ℕ) (short : length g ≤ longest_text) (sig : Signature) where
  -- a text that gives no model
  refused_ends : (u : Unmodelled) → model_of g sig ≡ Err u → (stages : Model → List Stage) → text_end g (model_end stages (model_of g sig)) ≡ Some (model_refusal_of u)
  refused_ends u is stages i = cond (not_too_long g short i) (Some (ModelRefused 2 0 longest_text)) (model_end stages (is i))

  -- ---- a fault of tokens or parentheses

  unread_ends : (f : Fault) (line : ℕ) → forms g ≡ Err f → line ≡ line_at g (fault_place f) → EndsAtModel sig (Some g) (ModelRefused (fault_code f) line (fault_place f))
  unread_ends f line is at_line stages =
      refused_ends (unread f (line_at g (fault_place f))) (ap (λ (r : Result Forms Fault). model_from g sig r) is) stages
      ∙ ap (λ (n : ℕ). Some (ModelRefused (fault_code f) n (fault_place f))) (sym at_line)

  pub lexing_refused : (f : LexFault) → Refuses g (forms g) f → EndsAtModel sig (Some g) (status_of_model_lexing f)
  lexing_refused (BadByte place line) h = unread_ends (bad_byte place) line h.0 h.1
  lexing_refused (BadToken place line) h = unread_ends (bad_token place) line h.0 h.1
  lexing_refused (OpenText place line) h = unread_ends (open_text place) line h.0 h.1
  lexing_refused (Unbalanced place line) h = unread_ends (unbalanced place) line h.0 h.1
  lexing_refused Memory h = tt

  -- ---- a refusal of forms

  form_refused : (cause : Cause) (line byte : ℕ) → IsRefusedFor g sig cause line byte → EndsAtModel sig (Some g) (ModelRefused (code_of cause) line byte)
  form_refused cause line byte is = refused_ends (refused (record { cause = cause; line = line; byte = byte })) is

  pub reading_refused : (t : Formulas) (f : ModelFault) → ReadsModel t g sig (Err f) → EndsAtModel sig (Some g) (status_of_model f)
  reading_refused t (ModelForm line byte) is = form_refused model_form line byte is
  reading_refused t (ModelSort line byte) is = form_refused model_sort line byte is
  reading_refused t (NotATable line byte) is = form_refused not_a_table line byte is
  reading_refused t (ModelNumber line byte) is = form_refused model_number line byte is
  reading_refused t (ModelTwice line byte) is = form_refused model_twice line byte is
  reading_refused t NoMemory is = tt

  pub refused_so : (t : Formulas) (f : ModelFault) (r : Result ModelLists Status) → ReadsModel t g sig (Err f) → IsErrAnd r (λ s. s ≡ status_of_model f) → ReadsText t sig (Some g) r
  refused_so t f (Err status) reads is = subst (λ (s : Status). EndsAtModel sig (Some g) s) (sym is) (reading_refused t f reads)
  refused_so t f (Ok m) reads is = absurd is

  -- ---- a model

  pub text_read : (t : Formulas) (m : ModelLists) → ReadsModel t g sig (Ok m) → ReadsText t sig (Some g) (Ok m)
  text_read t m is = record { over = is.1; numbers = is.2; given = (not_too_long g short, is.0) }

-- ---- a told text is the one that was read

untold_ends : (sig : Signature) (g : List ℕ) (status : Status) → EndsAtModel sig (Some g) status → EndsAtModel sig None status
untold_ends sig g Done ends = ends
untold_ends sig g (ScriptRefused r) ends = ends
untold_ends sig g (Usage u) ends = ends
untold_ends sig g (ReadFailed word) ends = ends
untold_ends sig g WriteFailed ends = ends
untold_ends sig g OutOfMemory ends = tt
untold_ends sig g (ModelRefused code line byte) ends = tt
untold_ends sig g (Beyond128 assertion) ends = ends
untold_ends sig g (PassRefused code assertion) ends = ends

pub read_as_told : (t : Formulas) (sig : Signature) (g : List ℕ) (told : Option (List ℕ)) (r : Result ModelLists Status) → IfSome told (λ h. g ≡ h) → ReadsText t sig (Some g) r → ReadsText t sig told r
read_as_told t sig g (Some h) r is reads = subst (λ (x : List ℕ). ReadsText t sig (Some x) r) is reads
read_as_told t sig g None (Ok m) is reads = record { over = reads.over; numbers = reads.numbers; given = tt }
read_as_told t sig g None (Err status) is reads = untold_ends sig g status reads

-- ---- a text that was read ends the run as one in a file

module _ (t : Formulas) (sig : Signature) (told : Option (List ℕ)) (before now : Word → ℕ) (file : Numbered) where
  text_ends : (status : Status) → EndsAtModel sig told status → EndsAtFile sig told before now file status
  text_ends (ReadFailed word) ends = absurd ends
  text_ends Done ends = ends
  text_ends (ScriptRefused r) ends = ends
  text_ends (Usage u) ends = ends
  text_ends WriteFailed ends = ends
  text_ends OutOfMemory ends = ends
  text_ends (ModelRefused code line byte) ends = ends
  text_ends (Beyond128 assertion) ends = ends
  text_ends (PassRefused code assertion) ends = ends

  pub ends_in_file : (r : Result ModelLists Status) → ReadsText t sig told r → IfErr r (EndsAtFile sig told before now file)
  ends_in_file (Ok m) reads = tt
  ends_in_file (Err status) reads = text_ends status reads

pub model_in_file : (t : Formulas) (sig : Signature) (told : Option (List ℕ)) (r : Result ModelLists Status) → ReadsText t sig told r → IfOk r (IsModelRead t sig told)
model_in_file t sig told (Ok m) reads = reads
model_in_file t sig told (Err status) reads = tt
