use Rattle.std.proofs.Common.{◌≡◌, Some, sym, ap, subst, ◌∙◌}
use Rattle.script_terms.specs.Parts.{place_of}
use Rattle.script_terms.specs.Places.{form_from}
use Rattle.models.specs.LiveNumbers.{signature_of}
use Rattle.model_texts.specs.Entries.{entry_in, entry_given}
use Rattle.model_texts.specs.GivenEntries.{tables_given, IsEntryAt}
use Rattle.model_texts.specs.Replies.{Replies}
use Rattle.model_texts.specs.declared.entries.Entry.TheVariants.{Function as FunctionHeld}
use Rattle.model_texts.proofs.ReadSteps.{Known}
use Rattle.model_texts.proofs.entries.read_entry.Goals as goal

pub returns-in-Some-Function-clause-entry : goal.returns-in-Some-Function-clause-entry
returns-in-Some-Function-clause-entry c live es names known =
    let t = c.args.table.now in
    let ts = c.args.forest.now.tokens in
    let f = form_from ts c.args.at in
    let is : IsEntryAt ts (entry_in f) (Some (FunctionHeld c.in-Some-Function.function)) = subst (IsEntryAt ts (entry_in f)) (c.in-Some-Function.is ∙ ap Some c.in-Some-Function.field-0-is) c.in_ok-entry_at.ensures in
    subst (λ e. Replies (λ _ gs. gs ≡ tables_given c.read_function.new.given.entries) (Known t c.read_function.new.elements) (entry_given (signature_of t live) (tables_given c.args.given.now.entries) (place_of f) e es) c.read_function.result)
    (sym is.0) (c.read_function.ensures.function live es names known)
