use Rattle.std.proofs.Common.{ℕ, List, ◌∙◌, sym, ap, subst, ◌==◌, if◌then◌else◌}
use Rattle.smt_terms.specs.declared.ids.SortId.{SortId}
use Rattle.smt_values.specs.SizeTable.{size_at, ArePositive}
use Rattle.smt_values.proofs.SizeTable.{size_at-insert, ArePositive-insert}
use Rattle.smt_values.proofs.sizes.Sizes.set.Goals as goal

pub invariant_of-self-2 : goal.invariant_of-self-2
invariant_of-self-2 c = subst ArePositive (sym c.in_ok-insert.ensures.entries) (ArePositive-insert c.self.inside.sizes.entries c.args.sort c.args.size c.self.invariant c.requires)

pub returns-clause-set : goal.returns-clause-set
returns-clause-set c = λ s.
    ap (λ (es : List (SortId × ℕ)). size_at es s) c.in_ok-insert.ensures.entries ∙ size_at-insert c.self.inside.sizes.entries c.args.sort s c.args.size
    ∙ ap (λ (es : List (SortId × ℕ)). if s.0 == c.args.sort.0 then c.args.size else size_at es s) c.self.view_is
