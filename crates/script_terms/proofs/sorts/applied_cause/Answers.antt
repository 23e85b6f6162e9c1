use Rattle.std.proofs.Common.{sym, ◌∙◌, subst, ◌<◌, ◌+◌, length}
use Rattle.script_terms.proofs.SortReading.{find-sort}
use Rattle.script_terms.proofs.sorts.applied_cause.Goals as goal

pub name-requires : goal.name-requires
name-requires c = subst (λ ss. c.in-Some.sort.0 < 130 + length ss) (sym c.sorts.ensures) (find-sort c.args.table.now.sorts c.args.scope.now.sorts c.args.name.now c.in-Some.sort c.requires (sym c.find_sort.ensures ∙ c.in-Some.is))
