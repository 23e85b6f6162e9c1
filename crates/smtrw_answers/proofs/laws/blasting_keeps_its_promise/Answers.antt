use Rattle.smtrw_answers.proofs.BlastedPromise.{keeps_blasting}
use Rattle.smtrw_answers.proofs.ReadPoints.{ReadingLaws}
use Rattle.smtrw_answers.proofs.laws.blasting_keeps_its_promise.Goals as goal

pub returns : goal.returns
returns c =
    let reading : ReadingLaws = record {
      answers = c.reading_answers.ensures;
      points = c.terms_and_forms_agree.ensures.points;
      meaning = c.reading_keeps_meaning.ensures.points;
    } in
    keeps_blasting (record { texts = record { reading = reading; printed = c.printing_reads_back.ensures }; blasted = c.scripts_are_blasted.ensures })
