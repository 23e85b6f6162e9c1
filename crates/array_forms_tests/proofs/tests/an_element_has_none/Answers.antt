use Rattle.std.proofs.Common.{refl, sym, subst}
use Rattle.smt_values.specs.declared.value.Value.TheVariants.{Element}
use Rattle.smt_values.specs.Valid.{IsValue}
use Rattle.array_forms_tests.proofs.tests.an_element_has_none.Goals as goal

pub array_value-requires-clause-value : goal.array_value-requires-clause-value
array_value-requires-clause-value g c =
    (λ name. 1, subst (λ s. IsValue s (λ name. 1) (Element 0)) (sym c.in_ok-sort.ensures.sort) (record { held = tt; valid = refl }))
