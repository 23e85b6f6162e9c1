-- Blasting keeps its promise: reading keeps meaning, the passes carry models, the models of what takes the place of a check are
-- those of the check, and printing reads back.
use Rattle.std.proofs.Common.{◌≡◌, ◌∙◌, sym, ap, refl, subst, ℕ, true, List, All, Ok}
use Rattle.smt_terms.specs.Models.{Model}
use Rattle.smt_terms.specs.Term.{Term}
use Rattle.script_read.specs.Commands.{Command, Signature}
use Rattle.script_read.specs.Scenes.{holds}
use Rattle.script_read.specs.Script.{script}
use Rattle.smt_print.specs.declared.layout.Layout.TheVariants.{Dag}
use Rattle.smt_print.specs.Laws.{ReadsBack}
use Rattle.pass_laws.specs.declared.names.Pass.{Pass}
use Rattle.pass_laws.specs.Laws.{IsModelOf, CarriesModels}
use Rattle.bit_scripts.specs.Laws.{IsBlasted, ScriptsAreBlasted}
use Rattle.models.specs.LiveRoots.{is_flag}
use Rattle.smtrw_answers.specs.Blasting.{names_behind, blasted_commands, blasted_text, lifted, unblasted, blasted_model, IsBlasting}
use Rattle.smtrw_answers.specs.Carrying.{translated, extended}
use Rattle.smtrw_answers.specs.Headline.{IsModelAt}
use Rattle.smtrw_answers.specs.Laws.{BlastingKeepsItsPromise}
use Rattle.smtrw_answers.specs.Outputs.{read_or_none, commands, rewritten_commands}
use Rattle.smtrw_answers.proofs.ReadPoints.{TextLaws, read_found, read_model, model_read, text, printed_model, model_printed}

pub record BlastingLaws : Type 0 where
  pub texts : TextLaws
  pub blasted : ScriptsAreBlasted

module _ (laws : TextLaws) (b : List ℕ) (ps : List Pass) (k : ℕ) (blasted : IsBlasted (rewritten_commands b ps) k (names_behind b ps) (blasted_commands b ps k)) (carried : CarriesModels (commands b) (rewritten_commands b ps) (translated b ps) (extended b ps)) (reads : script b ≡ Ok (read_or_none (script b))) where
  abbrev ds : List (Command Term)
  ds = blasted_commands b ps k

  printed : ReadsBack Dag (blasted_commands b ps k)
  printed = text laws Dag ds blasted.printable

  model_back : (m : Model) → IsModelAt (blasted_text b ps k) 1 m → holds m (blasted_text b ps k) 1 ≡ true → IsModelAt b k (unblasted b ps k m) × (holds (unblasted b ps k m) b k ≡ true)
  model_back m over held =
      let is : IsModelOf ds 1 m = printed_model laws Dag ds blasted.printable m 1 over held in
      let up = blasted.lifts m is.over in
      let behind : IsModelOf (rewritten_commands b ps) k (lifted b ps k m) = record { over = up.0; sat = up.1 ∙ is.sat } in
      model_read laws.reading b reads (unblasted b ps k m) k (carried.back k (lifted b ps k m) behind)

  model_forth : (m : Model) → IsModelAt b k m → holds m b k ≡ true → IsModelAt (blasted_text b ps k) 1 (blasted_model b ps k m) × (holds (blasted_model b ps k m) (blasted_text b ps k) 1 ≡ true)
  model_forth m over held =
      let is : IsModelOf (rewritten_commands b ps) k (extended b ps k m) = carried.forth k m (read_model laws.reading b reads m k over held) in
      let down = blasted.lowers (extended b ps k m) is.over in
      let made : IsModelOf ds 1 (blasted_model b ps k m) = record { over = down.0; sat = down.1 ∙ is.sat } in
      model_printed laws Dag ds blasted.printable (blasted_model b ps k m) 1 made

  promise : IsBlasting b ps k (blasted_text b ps k)
  promise = record {
    text = refl;
    accepted = printed.accepted;
    one_check = printed.kinds ∙ blasted.kinds;
    sorts = ap (λ (g : Signature). g.sorts) (printed.signatures 1) ∙ blasted.sorts;
    flags = subst (λ (g : Signature). All (λ f. is_flag f ≡ true) g.symbols) (sym (printed.signatures 1)) blasted.flags;
    boolean = blasted.boolean;
    translation = model_back;
    extension = model_forth;
  }

pub keeps_blasting : BlastingLaws → BlastingKeepsItsPromise
keeps_blasting laws b ps k accepted some few taken ready carried =
    let blasted : IsBlasted (rewritten_commands b ps) k (names_behind b ps) (blasted_commands b ps k) = laws.blasted (rewritten_commands b ps) k (names_behind b ps) ready.printable ready.names some few taken in
    promise laws.texts b ps k blasted carried (read_found (script b) ((laws.texts.reading.answers b).1 accepted))
