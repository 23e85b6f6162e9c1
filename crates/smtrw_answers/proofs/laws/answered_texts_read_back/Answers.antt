use Rattle.smtrw_answers.proofs.AnsweredTexts.{answered_back}
use Rattle.smtrw_answers.proofs.CarriedModels.{CarryingLaws}
use Rattle.smtrw_answers.proofs.CarriedTexts.{TextLaws}
use Rattle.smtrw_answers.proofs.laws.answered_texts_read_back.Goals as goal

pub returns : goal.returns
returns c =
    let carrying : CarryingLaws = record {
      keep = c.passes_keep_commands.ensures.pass;
      leave = c.passes_leave_models.ensures;
      groups = c.groups_carry_models.ensures;
      removals = c.removals_carry_models.ensures;
    } in
    let texts : TextLaws = record {
      answers = c.reading_answers.ensures;
      reads_printable = c.reading_gives_a_printable_script.ensures;
      names = c.names_left_are_new.ensures;
      carrying = carrying;
      proper = c.printable_signatures_are_proper.ensures;
      writable = c.printable_signatures_are_writable.ensures;
      back = c.printed_models_read_back.ensures;
    } in
    answered_back (record { texts = texts; linked = c.checks_are_linked.ensures })
