-- What `unblast` writes reads back as the model that was carried.
use Rattle.std.proofs.Common.{◌≡◌, ◌∙◌, sym, ap, subst, refl, ℕ, ◌≤◌, Bool, true, false, if◌then◌else◌, List, Some, None, Result, Ok}
use Rattle.std.specs.Prelude.{nat_lt}
use Rattle.std.proofs.lemmas.Bool.{ltb-false}
use Rattle.smt_terms.specs.Models.{Model}
use Rattle.script_read.specs.Commands.{signature, checks}
use Rattle.script_read.specs.Script.{fault}
use Rattle.model_texts.specs.ModelText.{model_of}
use Rattle.model_texts.specs.Refusals.{Unmodelled}
use Rattle.pass_laws.specs.declared.names.Pass.{Pass}
use Rattle.pass_laws.specs.Carry.{Stage, beyond}
use Rattle.pass_laws.specs.Laws.{IsReady}
use Rattle.pass_laws.specs.Passed.{refused_assertion}
use Rattle.bit_scripts.specs.Laws.{IsBlasted, ScriptsAreBlasted}
use Rattle.bit_scripts.specs.Scripts.{new_bits, refused_root}
use Rattle.smtrw_answers.specs.Accepted.{nothing_mapped, accepted_text}
use Rattle.smtrw_answers.specs.declared.status.Status.{Status}
use Rattle.smtrw_answers.specs.Blasting.{names_behind, blasted_commands, signature_blasted, lifted, unblasted, unblasted_text}
use Rattle.smtrw_answers.specs.Carrying.{signature_before}
use Rattle.smtrw_answers.specs.Endings.{or_later, script_end, check_end, passes_end, bits_end, blasting_end, model_end, text_end, unblast_stages}
use Rattle.smtrw_answers.specs.Laws.{UnblastedTextsReadBack}
use Rattle.smtrw_answers.specs.Outputs.{commands, names_left, rewritten_commands}
use Rattle.smtrw_answers.proofs.CarriedModels.{IsCarriable, carried_back}
use Rattle.smtrw_answers.proofs.CarriedTexts.{none_met, within_stages, read_text, TextLaws, read_carriable, printed_back, ready, ready_rewritten, printed_as}
use Rattle.smtrw_answers.proofs.ReadableLifts.{lifted_readable}
use Rattle.smtrw_answers.proofs.SameChecks.{checks_passed}

-- ---- a run that ends well

pub check_there : (n k : ℕ) (s : Status) → (if nat_lt n k then Some s else None) ≡ None → k ≤ n
check_there n k s h = by (nat_lt n k) refl h
  where
    by : (b : Bool) → nat_lt n k ≡ b → (if b then Some s else None) ≡ None → k ≤ n
    by true more h = absurd cc
    by false few h = ltb-false n k few

-- of the script, the check, the passes, the bits and what is evaluated
record EndedWell (b : List ℕ) (ps : List Pass) (k : ℕ) (stages : List Stage) : Type 0 where
  whole : fault b ≡ None
  few : k ≤ checks (commands b)
  taken : refused_assertion ps (commands b) (names_left b) ≡ None
  bits : refused_root (rewritten_commands b ps) k ≡ None
  within : beyond stages ≡ None

ended_well : (b : List ℕ) (ps : List Pass) (k : ℕ) (g : List ℕ) (m : Model) (stages : Model → List Stage) (o : Result Model Unmodelled)
    → or_later (script_end b) (or_later (check_end b k) (or_later (blasting_end b ps k) (text_end g (model_end stages o)))) ≡ None → o ≡ Ok m → EndedWell b ps k (stages m)
ended_well b ps k g m stages o ends read =
    let first = none_met (script_end b) _ ends in
    let second = none_met (check_end b k) _ first.1 in
    let third = none_met (blasting_end b ps k) _ second.1 in
    let blasting = none_met (passes_end b ps) (bits_end b ps k) third.0 in
    let fourth = read_text g (model_end stages o) third.1 in
    record {
      whole = accepted_text b first.0;
      few = check_there (checks (commands b)) k _ second.0;
      taken = nothing_mapped _ (refused_assertion ps (commands b) (names_left b)) blasting.0;
      bits = nothing_mapped _ (refused_root (rewritten_commands b ps) k) blasting.1;
      within = within_stages (stages m) (sym (ap (model_end stages) read) ∙ fourth);
    }

-- ---- the model

pub record UnblastingLaws : Type 0 where
  pub texts : TextLaws
  pub blasted : ScriptsAreBlasted

module _ (laws : UnblastingLaws) (b : List ℕ) (ps : List Pass) (k : ℕ) (some : 1 ≤ k) (g : List ℕ) (m : Model) (well : EndedWell b ps k (unblast_stages b ps k m)) (read : model_of g (signature_blasted b ps k) ≡ Ok m) where
  before : IsReady (commands b) (names_left b)
  before = ready laws.texts b ps well.taken well.whole

  behind : IsReady (rewritten_commands b ps) (names_behind b ps)
  behind = ready_rewritten laws.texts b ps well.taken well.whole

  few_behind : k ≤ checks (rewritten_commands b ps)
  few_behind = subst (λ n. k ≤ n) (sym (checks_passed laws.texts.carrying ps (commands b) (names_left b) well.taken before)) well.few

  is_blasted : IsBlasted (rewritten_commands b ps) k (names_behind b ps) (blasted_commands b ps k)
  is_blasted = laws.blasted (rewritten_commands b ps) k (names_behind b ps) behind.printable behind.names some few_behind well.bits

  read_flags : IsCarriable (blasted_commands b ps k) 1 m
  read_flags = read_carriable laws.texts (blasted_commands b ps k) is_blasted.printable 1 m g read

  read_lifted : IsCarriable (rewritten_commands b ps) k (lifted b ps k m)
  read_lifted = record {
    over = (is_blasted.lifts m read_flags.over).0;
    readable = lifted_readable (signature (rewritten_commands b ps) k).symbols (new_bits (rewritten_commands b ps) k (names_behind b ps)) m read_flags.readable;
  }

  carried : IsCarriable (commands b) k (unblasted b ps k m)
  carried = carried_back laws.texts.carrying ps (commands b) (names_left b) well.taken before k (lifted b ps k m) well.within read_lifted

  carried_printed : (out : List ℕ) → unblasted_text b ps k g ≡ Ok out → model_of out (signature_before b k) ≡ Ok (unblasted b ps k m)
  carried_printed out h =
      ap (λ w. model_of w (signature_before b k)) (sym (printed_as laws.texts m (unblasted b ps k) (signature_before b k) (model_of g (signature_blasted b ps k)) out read h))
      ∙ printed_back laws.texts (commands b) before.printable k (unblasted b ps k m) carried

pub unblasted_back : UnblastingLaws → UnblastedTextsReadBack
unblasted_back laws b ps k g out m some ends read h =
    carried_printed laws b ps k some g m (ended_well b ps k g m (unblast_stages b ps k) (model_of g (signature_blasted b ps k)) ends read) read out h
