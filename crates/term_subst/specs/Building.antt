-- Tables that tests build.
use Rattle.std.specs.Prelude.{ℕ, ◌<◌, length, get_or}
use Rattle.smt_terms.specs.Fresh.{Supply}
use Rattle.term_table.specs.Formulas.{Formulas, no_tree}
use Rattle.term_subst.specs.State.{Spares}

-- no name in the terms of the first n nodes is given
abbrev pub FirstSpared : Supply → Formulas → ℕ → Type 0
FirstSpared s t n = (i : ℕ) → i < n → Spares s (get_or t.trees i no_tree)

-- nor in the terms of all nodes
abbrev pub AreSpared : Supply → Formulas → Type 0
AreSpared s t = FirstSpared s t (length t.trees)
