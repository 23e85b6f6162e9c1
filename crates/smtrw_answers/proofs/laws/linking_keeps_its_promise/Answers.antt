use Rattle.smtrw_answers.proofs.LinkedPromise.{keeps_linking}
use Rattle.smtrw_answers.proofs.ReadPoints.{ReadingLaws}
use Rattle.smtrw_answers.proofs.laws.linking_keeps_its_promise.Goals as goal

pub returns : goal.returns
returns c =
    let reading : ReadingLaws = record {
      answers = c.reading_answers.ensures;
      points = c.terms_and_forms_agree.ensures.points;
      meaning = c.reading_keeps_meaning.ensures.points;
    } in
    keeps_linking (record { reading = reading; linked = c.checks_are_linked.ensures })
