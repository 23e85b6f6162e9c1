use Rattle.std.proofs.Common.{sym, ◌∙◌}
use Rattle.script_terms.proofs.SortReading.{find-sort}
use Rattle.script_terms.proofs.sorts.named_sort.Goals as goal

pub returns-in-Some-clause-within : goal.returns-in-Some-clause-within
returns-in-Some-clause-within c t all = find-sort t.sorts c.args.scope.now.sorts c.args.name.now c.in-Some.sort all (sym c.find_sort.ensures ∙ c.in-Some.is)
