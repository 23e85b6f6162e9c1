-- Which way a shift moves.
use Rattle.std.specs.Prelude.{ℕ, List}
use Rattle.bit_blast.specs.declared.shifts.Way.{Way}
use Rattle.bit_blast.specs.declared.shifts.Way.TheVariants.{Up, Down}
use Rattle.bit_blast.specs.Circuits.{up, down}

abbrev pub moved : {A : Type 0} → Way → A → ℕ → List A → List A
moved Up a n us = up a n us
moved Down a n us = down a n us
