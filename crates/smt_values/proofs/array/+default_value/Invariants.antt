use Rattle.smt_values.proofs.array.+default_value.Given as goal

abbrev pub decreases-default_value : goal.decreases-default_value
decreases-default_value l = l.sort.0
