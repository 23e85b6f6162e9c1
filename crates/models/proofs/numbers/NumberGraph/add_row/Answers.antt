use Rattle.std.proofs.Common.{◌≡◌, ◌∙◌, sym, ap, subst, true, false, List, ℤ, is_some}
use Rattle.std.specs.Int.{w128}
use Rattle.std.specs.Map.{lookup}
use Rattle.std.specs.Ordering.{int_eq}
use Rattle.std.proofs.lemmas.Int.{to_z-of_z}
use Rattle.std.proofs.lemmas.List.Elements.{All-push}
use Rattle.smt_terms.specs.Models.{NumberGraph}
use Rattle.models.specs.NumberRows.{number_rows_of, IsWithin, AreWithin, number_row_added}
use Rattle.models.proofs.RowsOfNumbers.{inserted_last, number_row_last, number_row_there}
use Rattle.models.proofs.numbers.NumberGraph.add_row.Goals as goal

pub invariant_of-self : goal.invariant_of-self
invariant_of-self c =
    let rows = c.self.inside.rows.entries in
    let absent : is_some (lookup (int_eq c.args.key) rows) ≡ false =
    sym (ap (λ k. is_some (lookup (int_eq k) rows)) (to_z-of_z w128 c.args.key c.ranges.key)) ∙ sym c.contains_key.ensures ∙ c.if-not-contains_key.true in
    let entries = inserted_last c.args.key c.args.value _ _ rows c.insert.new.self.entries (to_z-of_z w128 c.args.key c.ranges.key) (to_z-of_z w128 c.args.value c.ranges.value) absent c.in_ok-insert.ensures.entries in
    (subst AreWithin (sym entries) (All-push (λ r. IsWithin r.0 × IsWithin r.1) rows (c.args.key, c.args.value) c.self.invariant.0 (c.requires.key, c.requires.value)), c.self.invariant.1)

pub returns-in_ok-insert-clause-ok : goal.returns-in_ok-insert-clause-ok
returns-in_ok-insert-clause-ok c =
    let rows = c.self.inside.rows.entries in
    let absent : is_some (lookup (int_eq c.args.key) rows) ≡ false =
    sym (ap (λ k. is_some (lookup (int_eq k) rows)) (to_z-of_z w128 c.args.key c.ranges.key)) ∙ sym c.contains_key.ensures ∙ c.if-not-contains_key.true in
    let entries = inserted_last c.args.key c.args.value _ _ rows c.insert.new.self.entries (to_z-of_z w128 c.args.key c.ranges.key) (to_z-of_z w128 c.args.value c.ranges.value) absent c.in_ok-insert.ensures.entries in
    ap {B = NumberGraph} (λ (rs : List (ℤ × ℤ)). record { rows = number_rows_of rs; otherwise = c.self.inside.otherwise }) entries
    ∙ number_row_last c.args.key c.args.value c.self.inside.otherwise rows absent ∙ ap (number_row_added c.args.key c.args.value) c.self.view_is

pub returns-else-not-contains_key-clause-ok : goal.returns-else-not-contains_key-clause-ok
returns-else-not-contains_key-clause-ok c =
    let rows = c.self.inside.rows.entries in
    let present : is_some (lookup (int_eq c.args.key) rows) ≡ true =
    sym (ap (λ k. is_some (lookup (int_eq k) rows)) (to_z-of_z w128 c.args.key c.ranges.key)) ∙ sym c.contains_key.ensures ∙ c.if-not-contains_key.false in
    sym c.self.view_is ∙ number_row_there c.args.key c.args.value c.self.inside.otherwise rows present ∙ ap (number_row_added c.args.key c.args.value) c.self.view_is
