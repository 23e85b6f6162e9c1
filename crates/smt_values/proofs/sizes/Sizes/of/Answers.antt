use Rattle.std.proofs.Common.{ℕ, List, ◌∙◌, sym, ap, subst, ◌<◌}
use Rattle.std.specs.Prelude.{unwrap_or}
use Rattle.smt_terms.specs.declared.ids.SortId.{SortId}
use Rattle.smt_values.specs.SizeTable.{size_at}
use Rattle.smt_values.proofs.SizeTable.{size_at-lookup, size_at-positive}
use Rattle.smt_values.proofs.sizes.Sizes.of.Goals as goal

pub returns-clause-size : goal.returns-clause-size
returns-clause-size c =
    c.unwrap_or.ensures ∙ ap (λ o. unwrap_or o 1) (c.copied.ensures ∙ c.get.ensures.value)
    ∙ sym (size_at-lookup c.self.inside.sizes.entries c.args.sort) ∙ ap (λ (es : List (SortId × ℕ)). size_at es c.args.sort) c.self.view_is

pub returns-clause-positive : goal.returns-clause-positive
returns-clause-positive c =
    let size = c.unwrap_or.ensures ∙ ap (λ o. unwrap_or o 1) (c.copied.ensures ∙ c.get.ensures.value) ∙ sym (size_at-lookup c.self.inside.sizes.entries c.args.sort) in
    subst (λ n. 0 < n) (sym size) (size_at-positive c.self.inside.sizes.entries c.args.sort c.self.invariant)
