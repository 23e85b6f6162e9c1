-- The script of a demonstration and what is said of it, as the code makes them.
use Rattle.std.specs.Prelude.{ℕ, List, ◌++◌, codes}
use Rattle.smt_terms.specs.Numeral.{numeral}
use Rattle.smtrw_answers.specs.Outputs.{next_state, step_at}
use Rattle.smtrw_run.specs.declared.demo.Counts.{Counts}

-- the state behind the three numbers that a step draws
abbrev pub state_behind : ℕ → ℕ
state_behind s = next_state (next_state (next_state s))

-- the binding of step k in a state, which is open for what follows
abbrev pub opening : ℕ → ℕ → List ℕ
opening k s = codes "(let ((t" ++ numeral k ++ codes " " ++ step_at s k ++ codes ")) "

-- the line of these numbers
abbrev pub line_of : Counts → List ℕ
line_of n =
    codes "demo seed " ++ numeral n.seed ++ codes " size " ++ numeral n.size ++ codes ": "
    ++ numeral n.bytes_in ++ codes " bytes in, "
    ++ numeral n.assertions ++ codes " assertions out, "
    ++ numeral n.bytes_out ++ codes " bytes out\n"
