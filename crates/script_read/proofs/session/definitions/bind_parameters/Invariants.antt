use Rattle.std.proofs.Common.{◌≡◌, List, [], All, drop}
use Rattle.smt_terms.specs.Fresh.{Supply}
use Rattle.term_table.specs.Formulas.{Formulas}
use Rattle.script_terms.specs.Bound.{ShowsLocals, variables_seen, symbols_seen}
use Rattle.script_terms.specs.Known.{IsConstant}
use Rattle.script_terms.specs.Heads.{parameters_from}
use Rattle.script_terms.specs.Reading.{ReadLocal}
use Rattle.script_read.specs.Script.{parameters_read}
use Rattle.script_read.proofs.session.definitions.bind_parameters.Given as goal

abbrev pub invariant-loop-i : goal.invariant-loop-i
invariant-loop-i l =
    (s t : Formulas) (supply : Supply) → symbols_seen t l.constants ≡ parameters_from 0 (variables_seen s l.forest.tokens l.parameters) → All (IsConstant t supply) l.constants
    → (ls : List ReadLocal) × ShowsLocals t supply l.locals ls
    × (parameters_read (drop l.i (variables_seen s l.forest.tokens l.parameters)) (drop l.i (parameters_from 0 (variables_seen s l.forest.tokens l.parameters))) ls
    ≡ parameters_read (variables_seen s l.forest.tokens l.parameters) (parameters_from 0 (variables_seen s l.forest.tokens l.parameters)) [])
