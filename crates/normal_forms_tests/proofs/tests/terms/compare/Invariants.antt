use Rattle.normal_forms_tests.proofs.tests.terms.compare.Given as goal

abbrev pub ghosts-formed : goal.ghosts-formed
ghosts-formed g a = record { name = a.blank.name; parts = a.blank.parts }
