-- The `ite`s over terms that constants stand for, over the nodes of a table.
use Rattle.std.specs.Prelude.{Bool, false}
use Rattle.smt_terms.specs.Shapes.{is_term_ite}
use Rattle.smt_terms.specs.Term.{Term, apply, quantified}
use Rattle.term_groups.specs.declared.constants.Constants.{Constants}
use Rattle.term_groups.specs.Replacing.{AreConstantsFor}
use Rattle.term_table.specs.Formulas.{Formulas}

-- whether a term is an `ite` that is no connective
abbrev pub is_choice : Term → Bool
is_choice (apply h ts) = is_term_ite h ts
is_choice (quantified q xs body) = false

-- constants of the table, each for its `ite` alone, with its own node
abbrev pub AreConstants : Formulas → Constants → Type 0
AreConstants t c = AreConstantsFor t is_choice c
