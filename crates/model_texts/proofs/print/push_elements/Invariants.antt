use Rattle.std.proofs.Common.{◌≡◌, ◌++◌}
use Rattle.smt_lex.specs.FormText.{form_text}
use Rattle.model_texts.proofs.PrintedEntries.{elements_left, elements_form}
use Rattle.model_texts.proofs.print.push_elements.Given as goal

-- what is printed, and then the elements that are left
abbrev pub invariant-loop-number : goal.invariant-loop-number
invariant-loop-number l = l.out.items ++ elements_left l.name l.number l.number-end ≡ l.fn.out.items ++ form_text (elements_form l.name l.number-end)
