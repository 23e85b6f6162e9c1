-- An array is nested deeper than each value that it holds.
use Rattle.std.specs.Prelude.{◌≤◌, max, List, [], ◌∷◌}
use Rattle.std.proofs.Common.{arith}
use denote.Param.Weighed.{most}
use Rattle.smt_values.specs.declared.value.Value.{Value}
use Rattle.smt_values.specs.declared.value.Value.TheVariants.{Scalar, Element, Array}
use Rattle.smt_values.specs.declared.value.Pair.{Pair}
use Rattle.smt_values.specs.declared.value.ArrayValue.TheDeep.{deep-Value, deep-Pair}
use Rattle.smt_values.specs.Tables.{value_depth, pairs_depth}
use Rattle.smt_values.specs.Meaning.{meaning, pairs_of}

pub deep_value : (v : Value) → deep-Value v ≤ value_depth (meaning v)
deep_value (Scalar s) = omega arith
deep_value (Element i) = omega arith
deep_value (Array a) = omega arith

pub deep_pairs : (ps : List Pair) → most deep-Pair ps ≤ pairs_depth (pairs_of ps)
deep_pairs [] = omega arith
deep_pairs (p ∷ ps) = omega (arith, deep_value p.key, deep_value p.value, deep_pairs ps)

pub deep_array : (v : Value) (ps : List Pair) → max (deep-Value v) (max (most deep-Pair ps) 0) ≤ max (value_depth (meaning v)) (pairs_depth (pairs_of ps))
deep_array v ps = omega (arith, deep_value v, deep_pairs ps)
