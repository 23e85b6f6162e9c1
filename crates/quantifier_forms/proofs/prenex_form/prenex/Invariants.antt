use Rattle.quantifier_forms.proofs.prenex_form.prenex.Given as goal

abbrev pub ghosts-normal : goal.ghosts-normal
ghosts-normal a = record { name = a.blank.name; parts = 1 }
