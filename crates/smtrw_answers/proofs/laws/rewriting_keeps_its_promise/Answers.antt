use Rattle.smtrw_answers.proofs.Promise.{keeps_promise}
use Rattle.smtrw_answers.proofs.ReadPoints.{ReadingLaws}
use Rattle.smtrw_answers.proofs.laws.rewriting_keeps_its_promise.Goals as goal

pub returns : goal.returns
returns c =
    let reading : ReadingLaws = record {
      answers = c.reading_answers.ensures;
      points = c.terms_and_forms_agree.ensures.points;
      meaning = c.reading_keeps_meaning.ensures.points;
    } in
    keeps_promise (record { reading = reading; printed = c.printing_reads_back.ensures })
