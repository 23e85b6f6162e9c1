use Rattle.rule_book_tests.proofs.tests.ruled.Given as goal

abbrev pub ghosts-rewritten : goal.ghosts-rewritten
ghosts-rewritten g a = record { name = a.blank.name; parts = a.blank.parts }
