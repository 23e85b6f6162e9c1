use Rattle.std.proofs.Common.{◌≡◌, ◌∙◌, ap, subst, sym, Some, None}
use Rattle.std.specs.Int.{w128}
use Rattle.std.specs.Map.{lookup}
use Rattle.std.specs.Ordering.{int_eq}
use Rattle.std.proofs.lemmas.Int.{to_z-of_z, fits_signed_from_abs}
use Rattle.smt_terms.specs.Models.{NumberGraph, number_value}
use Rattle.models.specs.NumberRows.{IsWithin}
use Rattle.models.proofs.RowsOfNumbers.{number_row_found, number_row_absent, found_within}
use Rattle.models.proofs.numbers.NumberGraph.value_at.Goals as goal

pub returns-in-Some-clause-value : goal.returns-in-Some-clause-value
returns-in-Some-clause-value c =
    let found : Some c.in-Some.value.now ≡ lookup (int_eq c.args.n) c.self.inside.rows.entries =
    c.in-Some.ensures.value ∙ ap (λ n. lookup (int_eq n) c.self.inside.rows.entries) (to_z-of_z w128 c.args.n c.ranges.n) in
    let within = found_within c.args.n c.self.inside.rows.entries c.in-Some.value.now found c.self.invariant.0 in
    to_z-of_z w128 c.in-Some.value.now (fits_signed_from_abs w128 c.in-Some.value.now within)
    ∙ number_row_found c.args.n c.self.inside.rows.entries c.self.inside.otherwise c.in-Some.value.now found
    ∙ ap (λ (g : NumberGraph). number_value g c.args.n) c.self.view_is

pub returns-in-Some-clause-within : goal.returns-in-Some-clause-within
returns-in-Some-clause-within c =
    let found : Some c.in-Some.value.now ≡ lookup (int_eq c.args.n) c.self.inside.rows.entries =
    c.in-Some.ensures.value ∙ ap (λ n. lookup (int_eq n) c.self.inside.rows.entries) (to_z-of_z w128 c.args.n c.ranges.n) in
    let within = found_within c.args.n c.self.inside.rows.entries c.in-Some.value.now found c.self.invariant.0 in
    subst IsWithin (sym (to_z-of_z w128 c.in-Some.value.now (fits_signed_from_abs w128 c.in-Some.value.now within))) within

pub returns-in-None-clause-value : goal.returns-in-None-clause-value
returns-in-None-clause-value c =
    let absent : None ≡ lookup (int_eq c.args.n) c.self.inside.rows.entries =
    c.in-None.ensures.value ∙ ap (λ n. lookup (int_eq n) c.self.inside.rows.entries) (to_z-of_z w128 c.args.n c.ranges.n) in
    to_z-of_z w128 c.self.inside.otherwise (fits_signed_from_abs w128 c.self.inside.otherwise c.self.invariant.1)
    ∙ number_row_absent c.args.n c.self.inside.rows.entries c.self.inside.otherwise absent
    ∙ ap (λ (g : NumberGraph). number_value g c.args.n) c.self.view_is
