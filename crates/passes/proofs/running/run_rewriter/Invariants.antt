use Rattle.passes.proofs.running.run_rewriter.Given as goal

abbrev pub ghosts-negate : goal.ghosts-negate
ghosts-negate g a = record { name = a.blank.name; parts = 1 }

abbrev pub ghosts-invert : goal.ghosts-invert
ghosts-invert g a = record { name = a.blank.name; parts = 1 }

abbrev pub ghosts-tell_reads : goal.ghosts-tell_reads
ghosts-tell_reads g a = record { name = a.blank.name; parts = 1 }

abbrev pub ghosts-simplify_each : goal.ghosts-simplify_each
ghosts-simplify_each g a = record { name = a.blank.name; parts = 1 }

abbrev pub ghosts-ask_rules : goal.ghosts-ask_rules
ghosts-ask_rules g a = record { name = a.blank.name; parts = 1 }
