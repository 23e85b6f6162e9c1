use Rattle.model_texts.proofs.sorts.+is_sort_at.Given as goal

abbrev pub decreases-is_sort_at : goal.decreases-is_sort_at
decreases-is_sort_at l = l.sort.0
