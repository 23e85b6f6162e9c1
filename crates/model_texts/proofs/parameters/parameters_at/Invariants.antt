use Rattle.std.proofs.Common.{◌≡◌, ◌≤◌, ◌-◌, length, All}
use Rattle.std.specs.List.{IsDistinct}
use Rattle.std.specs.Map.{keys_of}
use Rattle.std.specs.Prelude.{option_and_then}
use Rattle.script_read.specs.Outlines.{list_in}
use Rattle.script_terms.specs.Places.{IsForm, form_from, forms_from}
use Rattle.model_texts.specs.Entries.{parameters_in}
use Rattle.model_texts.proofs.NamedEntries.{same_key}
use Rattle.model_texts.proofs.ParametersAt.{joined, seen}
use Rattle.model_texts.proofs.parameters.parameters_at.Given as goal

-- the parameters so far, in front of those that are left
abbrev pub invariant-loop-sorts : goal.invariant-loop-sorts
invariant-loop-sorts l = record {
  place : l.next ≤ length l.forest.tokens;
  apart : IsDistinct same_key (keys_of l.sorts.entries);
  forms : All (λ e. IsForm l.forest.tokens e.1) l.sorts.entries;
  rest : option_and_then parameters_in (list_in (form_from l.forest.tokens l.at)) ≡ joined (seen l.forest.tokens l.sorts.entries) (parameters_in (forms_from l.forest.tokens l.next));
}

abbrev pub decreases-loop-sorts : goal.decreases-loop-sorts
decreases-loop-sorts l = length l.forest.tokens - l.next
