use Rattle.std.proofs.Common.{◌≡◌, List}
use Rattle.smt_terms.specs.Sorts.{Sort, array}
use Rattle.script_terms.specs.Places.{IsForm, form_from}
use Rattle.model_texts.specs.Chains.{with_stored, all_stored, AreStored}
use Rattle.model_texts.specs.Reading.{Element, ◌>>=◌}
use Rattle.model_texts.specs.ValueForms.{value_in}
use Rattle.model_texts.proofs.ValueShapes.{chain_length}
use Rattle.model_texts.proofs.values.chain_at.Given as goal

-- the form is the innermost one so far, and what is stored in it
abbrev pub invariant-loop-array : goal.invariant-loop-array
invariant-loop-array l =
    IsForm l.forest.tokens l.innermost × AreStored l.forest.tokens l.stores.items
    × ((i e : Sort) (es : List Element) → value_in (form_from l.forest.tokens l.at) (array i e) es ≡ (value_in (form_from l.forest.tokens l.innermost) (array i e) >>= with_stored i e (all_stored l.forest.tokens l.stores.items)) es)

abbrev pub decreases-loop-array : goal.decreases-loop-array
decreases-loop-array l = chain_length (form_from l.forest.tokens l.innermost)
