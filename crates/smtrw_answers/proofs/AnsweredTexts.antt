-- What `answer` writes of truth values reads back as the model that they stand for.
use Rattle.std.proofs.Common.{◌≡◌, ◌∙◌, sym, ap, subst, ℕ, ◌≤◌, Bool, List, [], length, None, Result, Ok}
use Rattle.script_read.specs.Commands.{signature, checks}
use Rattle.script_read.specs.Script.{fault}
use Rattle.model_texts.specs.ModelText.{model_of}
use Rattle.pass_laws.specs.declared.names.Pass.{Pass}
use Rattle.pass_laws.specs.Carry.{Stage, back_stages, beyond}
use Rattle.pass_laws.specs.Laws.{IsReady}
use Rattle.pass_laws.specs.Passed.{refused_assertion}
use Rattle.dimacs_link.specs.declared.answers.Answer.{Answer}
use Rattle.dimacs_link.specs.declared.answers.Answer.TheVariants.{Sat}
use Rattle.dimacs_link.specs.AnswerTexts.{items, checked, reading, HasValues}
use Rattle.dimacs_link.specs.Checks.{unlinked_root, IsLinked, ChecksAreLinked}
use Rattle.dimacs_link.proofs.Answered.{as_many}
use Rattle.smtrw_answers.specs.Accepted.{nothing_mapped, accepted_text}
use Rattle.smtrw_answers.specs.Blasting.{names_behind}
use Rattle.smtrw_answers.specs.Carrying.{signature_before}
use Rattle.smtrw_answers.specs.Endings.{or_later, script_end, check_end, passes_end, clauses_end, linking_end, text_end, reading_end}
use Rattle.smtrw_answers.specs.Laws.{AnsweredTextsReadBack}
use Rattle.smtrw_answers.specs.Linking.{linked_constants, linked_model, answered, answer_lines, lines_if_read, answer_text}
use Rattle.smtrw_answers.specs.Outputs.{commands, names_left, rewritten_commands}
use Rattle.smtrw_answers.proofs.CarriedModels.{IsCarriable, carried_back}
use Rattle.smtrw_answers.proofs.CarriedTexts.{none_met, within_stages, read_text, TextLaws, printed_back, ready, ready_rewritten}
use Rattle.smtrw_answers.proofs.ReadableAnswers.{answered_readable}
use Rattle.smtrw_answers.proofs.SameChecks.{checks_passed}
use Rattle.smtrw_answers.proofs.UnblastedTexts.{check_there}

-- ---- a run that ends well

abbrev stages : List ℕ → List Pass → ℕ → List Bool → List Stage
stages b ps k vs = back_stages ps (commands b) (names_left b) k (linked_model b ps k vs)

-- of the script, the check, the passes, the clauses and what is evaluated
record EndedWell (b : List ℕ) (ps : List Pass) (k : ℕ) (vs : List Bool) : Type 0 where
  whole : fault b ≡ None
  few : k ≤ checks (commands b)
  taken : refused_assertion ps (commands b) (names_left b) ≡ None
  clauses : unlinked_root (rewritten_commands b ps) k ≡ None
  within : beyond (stages b ps k vs) ≡ None

ended_well : (b : List ℕ) (ps : List Pass) (k : ℕ) (g : List ℕ) (vs : List Bool) (o : Result Answer ℕ)
    → or_later (script_end b) (or_later (check_end b k) (or_later (linking_end b ps k) (text_end g (reading_end b ps k g o)))) ≡ None → o ≡ Ok (Sat vs) → EndedWell b ps k vs
ended_well b ps k g vs o ends read =
    let first = none_met (script_end b) _ ends in
    let second = none_met (check_end b k) _ first.1 in
    let third = none_met (linking_end b ps k) _ second.1 in
    let linking = none_met (passes_end b ps) (clauses_end b ps k) third.0 in
    let fourth = read_text g (reading_end b ps k g o) third.1 in
    record {
      whole = accepted_text b first.0;
      few = check_there (checks (commands b)) k _ second.0;
      taken = nothing_mapped _ (refused_assertion ps (commands b) (names_left b)) linking.0;
      clauses = nothing_mapped _ (unlinked_root (rewritten_commands b ps) k) linking.1;
      within = within_stages (stages b ps k vs) (sym (ap (reading_end b ps k g) read) ∙ fourth);
    }

-- ---- the model

values_read : (constants : ℕ) (g : List ℕ) (a : Answer) → reading constants g ≡ Ok a → HasValues constants a
unfolding reading
values_read constants g a e = as_many constants (length g) (checked [] (items constants g)) a e

pub record AnsweringLaws : Type 0 where
  pub texts : TextLaws
  pub linked : ChecksAreLinked

same_text : (p q : List ℕ) → ◌≡◌ {A = Result (List ℕ) ℕ} (Ok p) (Ok q) → p ≡ q
same_text p q h = cc

lines_written : (b : List ℕ) (ps : List Pass) (k : ℕ) (a : Answer) (o : Result Answer ℕ) (out : List ℕ) → o ≡ Ok a → lines_if_read b ps k o ≡ Ok out → answer_lines b ps k a ≡ out
lines_written b ps k a o out read h = same_text (answer_lines b ps k a) out (sym (ap (lines_if_read b ps k) read) ∙ h)

module _ (laws : AnsweringLaws) (b : List ℕ) (ps : List Pass) (k : ℕ) (some : 1 ≤ k) (g : List ℕ) (vs : List Bool) (well : EndedWell b ps k vs) (read : reading (length (linked_constants b ps k)) g ≡ Ok (Sat vs)) where
  before : IsReady (commands b) (names_left b)
  before = ready laws.texts b ps well.taken well.whole

  behind : IsReady (rewritten_commands b ps) (names_behind b ps)
  behind = ready_rewritten laws.texts b ps well.taken well.whole

  few_behind : k ≤ checks (rewritten_commands b ps)
  few_behind = subst (λ n. k ≤ n) (sym (checks_passed laws.texts.carrying ps (commands b) (names_left b) well.taken before)) well.few

  is_linked : IsLinked (rewritten_commands b ps) k
  is_linked = laws.linked (rewritten_commands b ps) k behind.printable some few_behind well.clauses

  linked_carriable : IsCarriable (rewritten_commands b ps) k (linked_model b ps k vs)
  linked_carriable = record {
    over = is_linked.over vs (values_read (length (linked_constants b ps k)) g (Sat vs) read);
    readable = answered_readable (signature (rewritten_commands b ps) k) (linked_constants b ps k) vs;
  }

  carried : IsCarriable (commands b) k (answered b ps k vs)
  carried = carried_back laws.texts.carrying ps (commands b) (names_left b) well.taken before k (linked_model b ps k vs) well.within linked_carriable

  answer_printed : (out : List ℕ) → answer_text b ps k g ≡ Ok out → model_of out (signature_before b k) ≡ Ok (answered b ps k vs)
  answer_printed out h =
      ap (λ w. model_of w (signature_before b k)) (sym (lines_written b ps k (Sat vs) (reading (length (linked_constants b ps k)) g) out read h))
      ∙ printed_back laws.texts (commands b) before.printable k (answered b ps k vs) carried

pub answered_back : AnsweringLaws → AnsweredTextsReadBack
answered_back laws b ps k g out vs some ends read h =
    answer_printed laws b ps k some g vs (ended_well b ps k g vs (reading (length (linked_constants b ps k)) g) ends read) read out h
