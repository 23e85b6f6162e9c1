-- The bits that are kept of the operands of a node, and how many bits the operands of an operator may have.
use Rattle.std.specs.Prelude.{◌≡◌, ℕ, ◌<◌, ◌≤◌, List, [], ◌∷◌, map, length, get_or, replicate, unwrap_or, All, Ok}
use Rattle.smt_terms.specs.declared.ids.NodeId.{NodeId}
use Rattle.smt_terms.specs.declared.op.Op.{Op}
use Rattle.smt_terms.specs.declared.op.Op.TheVariants.{Truth, Bits, Not, And, Or, Xor, Implies, Equal, Distinct, Ite, Concat, Extract, BvNot, BvNeg, BvAnd, BvOr, BvXor, BvAdd, BvMul, BvSub, BvUdiv, BvUrem, BvSdiv, BvSrem, BvSmod, BvShl, BvLshr, BvAshr, BvComp, BvUlt, BvUle, BvSlt, BvSle, ZeroExt, SignExt, RotL, RotR}
use Rattle.smt_terms.specs.Sorts.{bool}
use Rattle.smt_terms.specs.Term.{op, Term}
use Rattle.smt_terms.specs.Rank.{rank}
use Rattle.term_table.specs.Formulas.{Formulas, trees_at}
use Rattle.normal_forms.specs.Nodes.{IsFormula}
use Rattle.bit_blast.specs.KeptBits.{Lists, list_of}

abbrev pub nodes_of : Lists → NodeId → List NodeId
nodes_of ls k = unwrap_or (list_of ls k) []

-- what is read past a list's end
abbrev pub no_node : NodeId
no_node = record { 0 = 0 }

abbrev pub first_of : Lists → NodeId → NodeId
first_of ls k = get_or (nodes_of ls k) 0 no_node

-- a node that has bits
pub record HasNodes (t : Formulas) (ls : Lists) (k : NodeId) : Type 0 where
  pub some : 0 < length (nodes_of ls k)
  pub formulas : All (IsFormula t) (nodes_of ls k)

-- the bits of each of these nodes
abbrev pub operand_bits : Formulas → Lists → List NodeId → List (List Term)
operand_bits t ls ks = map (λ k. trees_at t (nodes_of ls k)) ks

abbrev pub widths : Lists → List NodeId → List ℕ
widths ls ks = map (λ k. length (nodes_of ls k)) ks

-- ---- the operands of an operator, by their numbers of bits

-- an operator of one bit vector
abbrev pub TakesVector : Op → ℕ → Type 0
TakesVector (Extract high low) w = (low ≤ high) × (high < w)
TakesVector BvNot w = Unit {0}
TakesVector BvNeg w = Unit {0}
TakesVector (ZeroExt i) w = Unit {0}
TakesVector (SignExt i) w = Unit {0}
TakesVector (RotL i) w = i < w
TakesVector (RotR i) w = i < w
TakesVector _ w = ⊥

-- the two numbers are one, and no zero
pub record OfOneWidth (v w : ℕ) : Type 0 where
  pub same : v ≡ w
  pub some : 0 < v

-- an operator that gives one bit of two vectors, or of two truth values
abbrev pub Compares : Op → ℕ → ℕ → Type 0
Compares Equal v w = OfOneWidth v w
Compares BvComp v w = OfOneWidth v w
Compares BvUlt v w = OfOneWidth v w
Compares BvUle v w = OfOneWidth v w
Compares BvSlt v w = OfOneWidth v w
Compares BvSle v w = OfOneWidth v w
Compares _ v w = ⊥

-- an operator of two bit vectors
abbrev pub TakesVectors : Op → ℕ → ℕ → Type 0
TakesVectors Concat v w = Unit {0}
TakesVectors BvAnd v w = OfOneWidth v w
TakesVectors BvOr v w = OfOneWidth v w
TakesVectors BvXor v w = OfOneWidth v w
TakesVectors BvAdd v w = OfOneWidth v w
TakesVectors BvMul v w = OfOneWidth v w
TakesVectors BvSub v w = OfOneWidth v w
TakesVectors BvUdiv v w = OfOneWidth v w
TakesVectors BvUrem v w = OfOneWidth v w
TakesVectors BvSdiv v w = OfOneWidth v w
TakesVectors BvSrem v w = OfOneWidth v w
TakesVectors BvSmod v w = OfOneWidth v w
TakesVectors BvShl v w = OfOneWidth v w
TakesVectors BvLshr v w = OfOneWidth v w
TakesVectors BvAshr v w = OfOneWidth v w
TakesVectors o v w = Compares o v w

-- the same where the operands are a list
abbrev pub TakesOne : Op → List ℕ → Type 0
TakesOne o ws = (w : ℕ) × (ws ≡ w ∷ []) × TakesVector o w

abbrev pub TakesTwo : Op → List ℕ → Type 0
TakesTwo o ws = (v : ℕ) × (w : ℕ) × (ws ≡ v ∷ w ∷ []) × TakesVectors o v w

-- an operator over as many truth values
abbrev pub IsConnective : Op → List ℕ → Type 0
IsConnective o ws = rank (op o) (map (λ _. bool) ws) ≡ Ok bool

-- two or more, of one number of bits
abbrev pub AllOfOneWidth : List ℕ → Type 0
AllOfOneWidth ws = (w : ℕ) × (n : ℕ) × (0 < w) × (ws ≡ w ∷ w ∷ replicate n w)

-- any operator that stands in a formula of bits
abbrev pub TakesBits : Op → List ℕ → Type 0
TakesBits (Bits width n) ws = Unit {0}
TakesBits Distinct ws = AllOfOneWidth ws
TakesBits Ite ws = (w : ℕ) × (ws ≡ 1 ∷ w ∷ w ∷ [])
TakesBits (Truth b) ws = IsConnective (Truth b) ws
TakesBits Not ws = IsConnective Not ws
TakesBits And ws = IsConnective And ws
TakesBits Or ws = IsConnective Or ws
TakesBits Xor ws = IsConnective Xor ws
TakesBits Implies ws = IsConnective Implies ws
TakesBits (Extract high low) ws = TakesOne (Extract high low) ws
TakesBits BvNot ws = TakesOne BvNot ws
TakesBits BvNeg ws = TakesOne BvNeg ws
TakesBits (ZeroExt i) ws = TakesOne (ZeroExt i) ws
TakesBits (SignExt i) ws = TakesOne (SignExt i) ws
TakesBits (RotL i) ws = TakesOne (RotL i) ws
TakesBits (RotR i) ws = TakesOne (RotR i) ws
TakesBits o ws = TakesTwo o ws
