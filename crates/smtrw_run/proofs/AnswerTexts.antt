-- How a solver's answer ends the run as it is read.
use Rattle.std.proofs.Common.{◌≡◌, ◌∙◌, sym, ap, ℕ, ◌≤◌, nat_lt, Bool, true, cond, List, length, Option, Some, None, Result, Ok, Err, subst, arith}
use Rattle.std.specs.Prelude.{IfErr, IfOk, IfSome, IsErrAnd}
use Rattle.smt_io.specs.Told.{TookMore}
use Rattle.smt_lex.specs.Lex.{line_at}
use Rattle.dimacs_link.specs.declared.answers.Answer.{Answer}
use Rattle.dimacs_link.specs.declared.answers.AnswerFault.{AnswerFault}
use Rattle.dimacs_link.specs.declared.answers.AnswerFault.TheVariants.{Form, Memory}
use Rattle.dimacs_link.specs.AnswerTexts.{reading, HasValues, IsFaultOf}
use Rattle.smtrw_answers.specs.declared.status.Status.{Status}
use Rattle.smtrw_answers.specs.declared.status.Status.TheVariants.{Done, Refused, Usage, ReadFailed, WriteFailed, OutOfMemory, ModelRefused, Beyond128, PassRefused}
use Rattle.smtrw_answers.specs.Endings.{longest_text}
use Rattle.smtrw_answers.specs.Faults.{status_of_answer}
use Rattle.smtrw_answers.specs.Words.{Word, Numbered}
use Rattle.smtrw_run.specs.Linking.{EndsAtAnswer, EndsAtAnswerFile, IsAnswerRead, ReadsAnswer, reading_refusal}
use Rattle.smtrw_run.proofs.ModelTexts.{not_too_long, too_long}

-- ---- a text that is too long

pub long_answer : (n : ℕ) (told rest : Option (List ℕ)) (given given_now : ℕ) → TookMore told rest given given_now → EndsAtAnswer n told (ModelRefused 2 0 longest_text)
long_answer n None rest given given_now took = tt
long_answer n (Some g) (Some left) given given_now took =
    let long : nat_lt longest_text (length g) ≡ true = too_long g (omega (arith, took)) in
    ap (λ (c : Bool). cond c (Some (ModelRefused 2 0 longest_text)) (reading_refusal g (reading n g))) long
long_answer n (Some g) None given given_now took = absurd took

-- ---- a text that was read

module _ (n : ℕ) (g : List ℕ) (short : length g ≤ longest_text) where
  fault_ends : (place : ℕ) → reading n g ≡ Err place → cond (nat_lt longest_text (length g)) (Some (ModelRefused 2 0 longest_text)) (reading_refusal g (reading n g)) ≡ Some (ModelRefused 95 (line_at g place) place)
  fault_ends place is i = cond (not_too_long g short i) (Some (ModelRefused 2 0 longest_text)) (reading_refusal g (is i))

  answer_refused : (f : AnswerFault) → IsFaultOf n g f → EndsAtAnswer n (Some g) (status_of_answer f)
  answer_refused (Form line byte) is = fault_ends byte is.0 ∙ ap (λ (l : ℕ). Some (ModelRefused 95 l byte)) (sym is.1)
  answer_refused Memory is = tt

  pub refused_so : (f : AnswerFault) (r : Result Answer Status) → IsFaultOf n g f → IsErrAnd r (λ s. s ≡ status_of_answer f) → ReadsAnswer n (Some g) r
  refused_so f (Err status) fault is = subst (λ (s : Status). EndsAtAnswer n (Some g) s) (sym is) (answer_refused f fault)
  refused_so f (Ok a) fault is = absurd is

  pub answer_read : (a : Answer) → reading n g ≡ Ok a → HasValues n a → ReadsAnswer n (Some g) (Ok a)
  answer_read a is values = record { values = values; given = (not_too_long g short, is) }

-- ---- a told text is the one that was read

untold_ends : (n : ℕ) (g : List ℕ) (status : Status) → EndsAtAnswer n (Some g) status → EndsAtAnswer n None status
untold_ends n g Done ends = ends
untold_ends n g (Refused r) ends = ends
untold_ends n g (Usage u) ends = ends
untold_ends n g (ReadFailed word) ends = ends
untold_ends n g WriteFailed ends = ends
untold_ends n g OutOfMemory ends = tt
untold_ends n g (ModelRefused code line byte) ends = tt
untold_ends n g (Beyond128 assertion) ends = ends
untold_ends n g (PassRefused code assertion) ends = ends

pub read_as_told : (n : ℕ) (g : List ℕ) (told : Option (List ℕ)) (r : Result Answer Status) → IfSome told (λ h. g ≡ h) → ReadsAnswer n (Some g) r → ReadsAnswer n told r
read_as_told n g (Some h) r is reads = subst (λ (x : List ℕ). ReadsAnswer n (Some x) r) is reads
read_as_told n g None (Ok a) is reads = record { values = reads.values; given = tt }
read_as_told n g None (Err status) is reads = untold_ends n g status reads

module _ (n : ℕ) (told : Option (List ℕ)) (before now : Word → ℕ) (file : Numbered) where
  text_ends : (status : Status) → EndsAtAnswer n told status → EndsAtAnswerFile n told before now file status
  text_ends (ReadFailed word) ends = absurd ends
  text_ends Done ends = ends
  text_ends (Refused r) ends = ends
  text_ends (Usage u) ends = ends
  text_ends WriteFailed ends = ends
  text_ends OutOfMemory ends = ends
  text_ends (ModelRefused code line byte) ends = ends
  text_ends (Beyond128 assertion) ends = ends
  text_ends (PassRefused code assertion) ends = ends

  pub ends_in_file : (r : Result Answer Status) → ReadsAnswer n told r → IfErr r (EndsAtAnswerFile n told before now file)
  ends_in_file (Ok a) reads = tt
  ends_in_file (Err status) reads = text_ends status reads

pub answer_in_file : (n : ℕ) (told : Option (List ℕ)) (r : Result Answer Status) → ReadsAnswer n told r → IfOk r (IsAnswerRead n told)
answer_in_file n told (Ok a) reads = reads
answer_in_file n told (Err status) reads = tt
