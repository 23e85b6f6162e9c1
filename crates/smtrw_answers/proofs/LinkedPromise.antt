-- Linking keeps its promise: reading keeps meaning, the passes carry models, and truth values make the clauses of a check true exactly
-- where the models that they stand for satisfy it.
use Rattle.std.proofs.Common.{◌≡◌, ◌∙◌, sym, refl, ℕ, Bool, true, List, length, Ok}
use Rattle.smt_terms.specs.Models.{Model}
use Rattle.script_read.specs.Scenes.{holds}
use Rattle.script_read.specs.Script.{script}
use Rattle.pass_laws.specs.declared.names.Pass.{Pass}
use Rattle.pass_laws.specs.Laws.{IsModelOf, CarriesModels}
use Rattle.dimacs_link.specs.AnswerModels.{truths_in}
use Rattle.dimacs_link.specs.Checks.{IsLinked, ChecksAreLinked}
use Rattle.smtrw_answers.specs.Carrying.{translated, extended}
use Rattle.smtrw_answers.specs.Headline.{IsModelAt}
use Rattle.smtrw_answers.specs.Laws.{LinkingKeepsItsPromise}
use Rattle.smtrw_answers.specs.Linking.{linked_constants, linked_text, linked_model, answered, satisfies_clauses, IsLinking}
use Rattle.smtrw_answers.specs.Outputs.{read_or_none, commands, rewritten_commands}
use Rattle.smtrw_answers.proofs.ReadPoints.{ReadingLaws, read_found, read_model, model_read}

pub record LinkingLaws : Type 0 where
  pub reading : ReadingLaws
  pub linked : ChecksAreLinked

module _ (laws : ReadingLaws) (b : List ℕ) (ps : List Pass) (k : ℕ) (linked : IsLinked (rewritten_commands b ps) k) (carried : CarriesModels (commands b) (rewritten_commands b ps) (translated b ps) (extended b ps)) (reads : script b ≡ Ok (read_or_none (script b))) where
  answer_back : (vs : List Bool) → length vs ≡ length (linked_constants b ps k) → satisfies_clauses b ps k vs ≡ true → IsModelAt b k (answered b ps k vs) × (holds (answered b ps k vs) b k ≡ true)
  answer_back vs long made =
      let behind : IsModelOf (rewritten_commands b ps) k (linked_model b ps k vs) = record { over = linked.over vs long; sat = linked.answers vs long ∙ made } in
      model_read laws b reads (answered b ps k vs) k (carried.back k (linked_model b ps k vs) behind)

  model_forth : (m : Model) → IsModelAt b k m → holds m b k ≡ true → satisfies_clauses b ps k (truths_in (extended b ps k m) (linked_constants b ps k)) ≡ true
  model_forth m over held =
      let is : IsModelOf (rewritten_commands b ps) k (extended b ps k m) = carried.forth k m (read_model laws b reads m k over held) in
      sym (linked.models (extended b ps k m)) ∙ is.sat

  promise : IsLinking b ps k (linked_text b ps k)
  promise = record { text = refl; exact = linked.answers; translation = answer_back; extension = model_forth }

pub keeps_linking : LinkingLaws → LinkingKeepsItsPromise
keeps_linking laws b ps k accepted some few taken ready carried =
    let linked : IsLinked (rewritten_commands b ps) k = laws.linked (rewritten_commands b ps) k ready.printable some few taken in
    promise laws.reading b ps k linked carried (read_found (script b) ((laws.reading.answers b).1 accepted))
