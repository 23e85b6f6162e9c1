-- Worked rows of the simplifier: where each law applies, and where it just doesn't.
use Rattle.std.specs.Prelude.{◌≡◌, ℕ, ◌-◌, ◌^◌, true, false, [], ◌∷◌, map, pos, negsuc, codes, refl}
use Rattle.smt_terms.specs.declared.op.Op.{Op}
use Rattle.smt_terms.specs.declared.op.Op.TheVariants.{Truth, Whole, Bits, Not, And, Or, Xor, Implies, Equal, Distinct, Ite, Neg, Sub, Add, Mul, Div, Mod, Abs, Le, Lt, Concat, Extract, BvNot, BvNeg, BvAnd, BvOr, BvXor, BvAdd, BvMul, BvSub, BvUdiv, BvUrem, BvSdiv, BvSrem, BvSmod, BvShl, BvLshr, BvAshr, BvComp, BvUlt, BvUle, BvSlt, BvSle, ZeroExt, SignExt, RotL, RotR, Select, Store}
use Rattle.smt_terms.specs.Sorts.{Name, Sort, bool, int, bit_vector, array, Variable}
use Rattle.smt_terms.specs.Term.{universal, existential, op, symbol, const_array, Term, apply, quantified, none, ◌⨾◌, variable}
use Rattle.smt_terms.specs.Equal.{op_eq}
use Rattle.smt_terms.specs.Rank.{rank}
use Rattle.smt_terms.specs.Operators.{op_value}
use Rattle.smt_terms.specs.Constants.{literal_value}
use Rattle.simplify.specs.Simplify.{law, simp, is_simple}

abbrev constant_named : Name → Sort → Variable
constant_named name sort = record { name = name; sort = sort }

abbrev P : Variable
P = constant_named (codes "p") bool

abbrev Q : Variable
Q = constant_named (codes "q") bool

abbrev p : Term
p = variable P

abbrev q : Term
q = variable Q

abbrev r : Term
r = variable (constant_named (codes "r") bool)

abbrev x : Term
x = variable (constant_named (codes "x") int)

abbrev y : Term
y = variable (constant_named (codes "y") int)

abbrev z : Term
z = variable (constant_named (codes "z") int)

-- bit vectors of width 4
abbrev u : Term
u = variable (constant_named (codes "u") (bit_vector 4))

abbrev v : Term
v = variable (constant_named (codes "v") (bit_vector 4))

abbrev numbers : Sort
numbers = array int int

abbrev a : Term
a = variable (constant_named (codes "a") numbers)

abbrev yes : Term
yes = apply (op (Truth true)) none

abbrev no : Term
no = apply (op (Truth false)) none

abbrev n : ℕ → Term
n i = apply (op (Whole (pos i))) none

abbrev minus : ℕ → Term
minus i = apply (op (Whole (negsuc (i - 1)))) none

-- the greatest integer constant
abbrev greatest : Term
greatest = n (2 ^ 127 - 1)

abbrev hex : ℕ → Term
hex i = apply (op (Bits 4 i)) none

abbrev byte : ℕ → Term
byte i = apply (op (Bits 8 i)) none

abbrev of : Op → Term → Term
of o s = apply (op o) (s ⨾ none)

abbrev pair : Op → Term → Term → Term
pair o s t = apply (op o) (s ⨾ t ⨾ none)

abbrev triple : Op → Term → Term → Term → Term
triple o s t w = apply (op o) (s ⨾ t ⨾ w ⨾ none)

abbrev four : Op → Term → Term → Term → Term → Term
four o s t w k = apply (op o) (s ⨾ t ⨾ w ⨾ k ⨾ none)

abbrev nt : Term → Term
nt = of Not

abbrev everywhere : Term → Term
everywhere t = apply (const_array numbers) (t ⨾ none)

-- ---- whole formulas

quotient_by_zero : simp (pair Equal (pair BvUdiv (byte 0x05) (byte 0x00)) (variable (constant_named (codes "x") (bit_vector 8)))) ≡ pair Equal (byte 0xff) (variable (constant_named (codes "x") (bit_vector 8)))
unfolding law literal_value op_value op_eq rank
quotient_by_zero = refl

division_by_zero_stays : simp (pair Equal y (pair Div (n 7) (n 0))) ≡ pair Equal y (pair Div (n 7) (n 0))
unfolding law literal_value op_value op_eq rank
division_by_zero_stays = refl

sums_of_constants : simp (pair Lt (triple Add (n 1) x (minus 1)) (pair Mul x (n 0))) ≡ pair Lt x (n 0)
unfolding law literal_value op_value op_eq rank
sums_of_constants = refl

opposites : simp (pair And p (triple Or (nt p) p p)) ≡ p
unfolding law literal_value op_value op_eq rank
opposites = refl

beyond_the_range : simp (pair Lt x (pair Add greatest (n 1))) ≡ pair Lt x (pair Add greatest (n 1))
unfolding law literal_value op_value op_eq rank
beyond_the_range = refl

-- ---- operators over constants

core_constants : map simp (nt yes ∷ pair And yes yes ∷ pair Xor yes yes ∷ pair Implies yes no ∷ triple Distinct (n 1) (n 2) (n 3) ∷ triple Ite no (n 1) (n 2) ∷ []) ≡ no ∷ yes ∷ no ∷ no ∷ yes ∷ n 2 ∷ []
unfolding law literal_value op_value op_eq rank
core_constants = refl

number_constants : map simp (pair Sub (n 5) (n 7) ∷ of Abs (minus 5) ∷ pair Div (minus 7) (n 2) ∷ pair Mod (minus 7) (n 2) ∷ pair Le (n 3) (n 3) ∷ pair Equal (n 1) (n 2) ∷ []) ≡ minus 2 ∷ n 5 ∷ minus 4 ∷ n 1 ∷ yes ∷ no ∷ []
unfolding law literal_value op_value op_eq rank
number_constants = refl

vector_constants : map simp (pair BvAdd (hex 0x9) (hex 0x9) ∷ pair Concat (hex 0xa) (hex 0x5) ∷ of (Extract 2 1) (hex 0xa) ∷ pair BvSdiv (hex 0x9) (hex 0x3) ∷ pair BvUlt (hex 0x7) (hex 0x9) ∷ of (SignExt 4) (hex 0x9) ∷ pair BvComp (hex 0x7) (hex 0x9) ∷ []) ≡ hex 0x2 ∷ byte 0xa5 ∷ apply (op (Bits 2 1)) none ∷ hex 0xe ∷ yes ∷ byte 0xf9 ∷ apply (op (Bits 1 0)) none ∷ []
unfolding law literal_value op_value op_eq rank
vector_constants = refl

-- by zero nothing is folded, and a value outside the range isn't
stays_over_constants : map simp (pair Div (n 7) (n 0) ∷ pair Mod (n 7) (n 0) ∷ pair Sub (minus (2 ^ 127 - 1)) (n 1) ∷ pair Mul greatest (n 2) ∷ []) ≡ pair Div (n 7) (n 0) ∷ pair Mod (n 7) (n 0) ∷ pair Sub (minus (2 ^ 127 - 1)) (n 1) ∷ pair Mul greatest (n 2) ∷ []
unfolding law literal_value op_value op_eq rank
stays_over_constants = refl

at_the_ends : map simp (pair Sub (minus (2 ^ 127 - 2)) (n 1) ∷ pair Add (n (2 ^ 127 - 2)) (n 1) ∷ []) ≡ minus (2 ^ 127 - 1) ∷ greatest ∷ []
unfolding law literal_value op_value op_eq rank
at_the_ends = refl

-- from below, below symbols too
from_below : map simp (pair Lt (pair Add (n 1) (n 2)) (n 4) ∷ apply (symbol (record { name = codes "f"; args = int ∷ []; result = int })) (pair Add (n 1) (n 2) ⨾ none) ∷ everywhere (pair Add (n 1) (n 2)) ∷ []) ≡ yes ∷ apply (symbol (record { name = codes "f"; args = int ∷ []; result = int })) (n 3 ⨾ none) ∷ everywhere (n 3) ∷ []
unfolding law literal_value op_value op_eq rank
from_below = refl

-- ---- Core

negation : map simp (nt (nt p) ∷ nt p ∷ []) ≡ p ∷ nt p ∷ []
unfolding law literal_value op_value op_eq rank
negation = refl

conjunction : map simp (four And p yes q p ∷ pair And p no ∷ triple And p q (nt p) ∷ triple And (nt p) q p ∷ pair And p p ∷ pair And yes p ∷ pair And p q ∷ pair And p (nt q) ∷ []) ≡ pair And p q ∷ no ∷ no ∷ no ∷ p ∷ p ∷ pair And p q ∷ pair And p (nt q) ∷ []
unfolding law literal_value op_value op_eq rank
conjunction = refl

disjunction : map simp (four Or p no q p ∷ pair Or p yes ∷ triple Or p q (nt p) ∷ triple Or (nt p) q p ∷ pair Or p p ∷ pair Or no p ∷ pair Or p q ∷ pair Or p (nt q) ∷ []) ≡ pair Or p q ∷ yes ∷ yes ∷ yes ∷ p ∷ p ∷ pair Or p q ∷ pair Or p (nt q) ∷ []
unfolding law literal_value op_value op_eq rank
disjunction = refl

exclusive : map simp (pair Xor p p ∷ pair Xor yes p ∷ pair Xor (nt p) yes ∷ pair Xor no p ∷ pair Xor p no ∷ pair Xor p q ∷ []) ≡ no ∷ nt p ∷ p ∷ p ∷ p ∷ pair Xor p q ∷ []
unfolding law literal_value op_value op_eq rank
exclusive = refl

implication : map simp (pair Implies no p ∷ pair Implies p yes ∷ pair Implies p p ∷ pair Implies yes p ∷ pair Implies p no ∷ pair Implies (nt p) no ∷ pair Implies p q ∷ []) ≡ yes ∷ yes ∷ yes ∷ p ∷ nt p ∷ p ∷ pair Implies p q ∷ []
unfolding law literal_value op_value op_eq rank
implication = refl

equation : map simp (pair Equal x x ∷ pair Equal yes p ∷ pair Equal p yes ∷ pair Equal no p ∷ pair Equal (nt p) no ∷ pair Equal x y ∷ pair Equal x (n 0) ∷ pair Equal p q ∷ []) ≡ yes ∷ p ∷ p ∷ nt p ∷ p ∷ pair Equal x y ∷ pair Equal x (n 0) ∷ pair Equal p q ∷ []
unfolding law literal_value op_value op_eq rank
equation = refl

distinctness : map simp (pair Distinct x x ∷ triple Distinct x y x ∷ triple Distinct p q r ∷ pair Distinct p q ∷ triple Distinct x y z ∷ []) ≡ no ∷ no ∷ no ∷ pair Distinct p q ∷ triple Distinct x y z ∷ []
unfolding law literal_value op_value op_eq rank
distinctness = refl

choice : map simp (triple Ite yes x y ∷ triple Ite no x y ∷ triple Ite p x x ∷ triple Ite p yes no ∷ triple Ite p no yes ∷ triple Ite (nt p) no yes ∷ triple Ite p x y ∷ triple Ite p yes q ∷ []) ≡ x ∷ y ∷ x ∷ p ∷ nt p ∷ p ∷ triple Ite p x y ∷ triple Ite p yes q ∷ []
unfolding law literal_value op_value op_eq rank
choice = refl

-- ---- Ints

addition : map simp (triple Add (n 1) x (n 2) ∷ triple Add (n 1) x (minus 1) ∷ triple Add x (n 0) y ∷ triple Add (n 2) x y ∷ triple Add x y (n 2) ∷ four Add greatest x (n 1) (minus 1) ∷ triple Add greatest x (n 1) ∷ pair Add x x ∷ []) ≡ pair Add x (n 3) ∷ x ∷ pair Add x y ∷ triple Add x y (n 2) ∷ triple Add x y (n 2) ∷ pair Add x greatest ∷ triple Add greatest x (n 1) ∷ pair Add x x ∷ []
unfolding law literal_value op_value op_eq rank
addition = refl

multiplication : map simp (triple Mul x (n 0) y ∷ triple Mul (n 2) x (n 3) ∷ pair Mul (n 1) x ∷ triple Mul x (n 1) y ∷ triple Mul greatest x (n 2) ∷ four Mul greatest x (n 2) (n 0) ∷ triple Mul (minus 1) x (minus 1) ∷ pair Mul x y ∷ []) ≡ n 0 ∷ pair Mul x (n 6) ∷ x ∷ pair Mul x y ∷ triple Mul greatest x (n 2) ∷ n 0 ∷ x ∷ pair Mul x y ∷ []
unfolding law literal_value op_value op_eq rank
multiplication = refl

subtraction : map simp (pair Sub x (n 0) ∷ pair Sub x x ∷ pair Sub (n 0) x ∷ pair Sub x y ∷ of Neg (of Neg x) ∷ of Neg x ∷ []) ≡ x ∷ n 0 ∷ pair Sub (n 0) x ∷ pair Sub x y ∷ x ∷ of Neg x ∷ []
unfolding law literal_value op_value op_eq rank
subtraction = refl

division : map simp (pair Div x (n 1) ∷ pair Div x (minus 1) ∷ pair Div x (n 2) ∷ pair Div x (n 0) ∷ pair Mod x (n 1) ∷ pair Mod x (minus 1) ∷ pair Mod x (n 2) ∷ pair Mod x (n 0) ∷ []) ≡ x ∷ pair Div x (minus 1) ∷ pair Div x (n 2) ∷ pair Div x (n 0) ∷ n 0 ∷ n 0 ∷ pair Mod x (n 2) ∷ pair Mod x (n 0) ∷ []
unfolding law literal_value op_value op_eq rank
division = refl

order : map simp (pair Le x x ∷ pair Lt x x ∷ pair Le x y ∷ pair Lt x y ∷ []) ≡ yes ∷ no ∷ pair Le x y ∷ pair Lt x y ∷ []
unfolding law literal_value op_value op_eq rank
order = refl

-- ---- bit vectors

bit_and : map simp (pair BvAnd (hex 0x0) u ∷ pair BvAnd u (hex 0x0) ∷ pair BvAnd (hex 0xf) u ∷ pair BvAnd u (hex 0xf) ∷ pair BvAnd u u ∷ pair BvAnd u (hex 0x7) ∷ pair BvAnd u v ∷ []) ≡ hex 0x0 ∷ hex 0x0 ∷ u ∷ u ∷ u ∷ pair BvAnd u (hex 0x7) ∷ pair BvAnd u v ∷ []
unfolding law literal_value op_value op_eq rank
bit_and = refl

bit_or : map simp (pair BvOr (hex 0x0) u ∷ pair BvOr u (hex 0x0) ∷ pair BvOr (hex 0xf) u ∷ pair BvOr u (hex 0xf) ∷ pair BvOr u u ∷ pair BvOr u (hex 0x7) ∷ pair BvOr u v ∷ []) ≡ u ∷ u ∷ hex 0xf ∷ hex 0xf ∷ u ∷ pair BvOr u (hex 0x7) ∷ pair BvOr u v ∷ []
unfolding law literal_value op_value op_eq rank
bit_or = refl

bit_exclusive : map simp (pair BvXor u u ∷ pair BvXor (hex 0x0) u ∷ pair BvXor u (hex 0x0) ∷ pair BvXor u (hex 0xf) ∷ pair BvXor u v ∷ []) ≡ hex 0x0 ∷ u ∷ u ∷ pair BvXor u (hex 0xf) ∷ pair BvXor u v ∷ []
unfolding law literal_value op_value op_eq rank
bit_exclusive = refl

vector_sums : map simp (pair BvAdd u (hex 0x0) ∷ pair BvAdd (hex 0x0) u ∷ pair BvAdd u u ∷ pair BvAdd u (hex 0x1) ∷ pair BvSub u (hex 0x0) ∷ pair BvSub u u ∷ pair BvSub (hex 0x0) u ∷ pair BvSub u v ∷ []) ≡ u ∷ u ∷ pair BvAdd u u ∷ pair BvAdd u (hex 0x1) ∷ u ∷ hex 0x0 ∷ pair BvSub (hex 0x0) u ∷ pair BvSub u v ∷ []
unfolding law literal_value op_value op_eq rank
vector_sums = refl

vector_products : map simp (pair BvMul u (hex 0x0) ∷ pair BvMul (hex 0x0) u ∷ pair BvMul u (hex 0x1) ∷ pair BvMul (hex 0x1) u ∷ pair BvMul u (hex 0x2) ∷ pair BvMul u v ∷ []) ≡ hex 0x0 ∷ hex 0x0 ∷ u ∷ u ∷ pair BvMul u (hex 0x2) ∷ pair BvMul u v ∷ []
unfolding law literal_value op_value op_eq rank
vector_products = refl

vector_quotients : map simp (pair BvUdiv u (hex 0x0) ∷ pair BvUdiv u (hex 0x1) ∷ pair BvUdiv u (hex 0x2) ∷ pair BvUdiv u u ∷ pair BvUdiv (hex 0x0) u ∷ pair BvUrem u (hex 0x0) ∷ pair BvUrem u (hex 0x1) ∷ pair BvUrem u (hex 0x2) ∷ pair BvUrem u u ∷ []) ≡ hex 0xf ∷ u ∷ pair BvUdiv u (hex 0x2) ∷ pair BvUdiv u u ∷ pair BvUdiv (hex 0x0) u ∷ u ∷ hex 0x0 ∷ pair BvUrem u (hex 0x2) ∷ pair BvUrem u u ∷ []
unfolding law literal_value op_value op_eq rank
vector_quotients = refl

-- the signed quotients have no law of their own
signed_quotients : map simp (pair BvSdiv u (hex 0x1) ∷ pair BvSrem u (hex 0x0) ∷ pair BvSmod u (hex 0x0) ∷ []) ≡ pair BvSdiv u (hex 0x1) ∷ pair BvSrem u (hex 0x0) ∷ pair BvSmod u (hex 0x0) ∷ []
unfolding law literal_value op_value op_eq rank
signed_quotients = refl

shifts : map simp (pair BvShl u (hex 0x0) ∷ pair BvLshr u (hex 0x0) ∷ pair BvAshr u (hex 0x0) ∷ pair BvShl u (hex 0x1) ∷ pair BvLshr u (hex 0x4) ∷ pair BvShl (hex 0x0) u ∷ []) ≡ u ∷ u ∷ u ∷ pair BvShl u (hex 0x1) ∷ pair BvLshr u (hex 0x4) ∷ pair BvShl (hex 0x0) u ∷ []
unfolding law literal_value op_value op_eq rank
shifts = refl

twice : map simp (of BvNot (of BvNot u) ∷ of BvNeg (of BvNeg u) ∷ of BvNot (of BvNeg u) ∷ of BvNeg u ∷ []) ≡ u ∷ u ∷ of BvNot (of BvNeg u) ∷ of BvNeg u ∷ []
unfolding law literal_value op_value op_eq rank
twice = refl

comparisons : map simp (pair BvComp u u ∷ pair BvComp u v ∷ pair BvUlt u u ∷ pair BvSlt u u ∷ pair BvUle u u ∷ pair BvSle u u ∷ pair BvUlt u v ∷ []) ≡ apply (op (Bits 1 1)) none ∷ pair BvComp u v ∷ no ∷ no ∷ yes ∷ yes ∷ pair BvUlt u v ∷ []
unfolding law literal_value op_value op_eq rank
comparisons = refl

parts : map simp (of (Extract 3 0) u ∷ of (Extract 3 1) u ∷ of (Extract 2 0) u ∷ of (ZeroExt 0) u ∷ of (SignExt 0) u ∷ of (RotL 0) u ∷ of (RotR 0) u ∷ of (ZeroExt 1) u ∷ of (RotL 1) u ∷ []) ≡ u ∷ of (Extract 3 1) u ∷ of (Extract 2 0) u ∷ u ∷ u ∷ u ∷ u ∷ of (ZeroExt 1) u ∷ of (RotL 1) u ∷ []
unfolding law literal_value op_value op_eq rank
parts = refl

-- ---- arrays

selection : map simp (pair Select (everywhere x) y ∷ pair Select (triple Store a x z) x ∷ pair Select (triple Store a (n 1) z) (n 2) ∷ pair Select (triple Store a (n 1) z) (n 1) ∷ pair Select (triple Store a x z) (n 2) ∷ pair Select a x ∷ []) ≡ x ∷ z ∷ pair Select a (n 2) ∷ z ∷ pair Select (triple Store a x z) (n 2) ∷ pair Select a x ∷ []
unfolding law literal_value op_value op_eq rank
selection = refl

selection_below : map simp (pair Select (triple Store (triple Store a (n 2) y) (n 1) z) (n 2) ∷ pair Select (triple Store (triple Store a x y) (n 1) z) (n 2) ∷ pair Select (triple Store (everywhere y) (n 1) z) (n 2) ∷ []) ≡ y ∷ pair Select (triple Store a x y) (n 2) ∷ y ∷ []
unfolding law literal_value op_value op_eq rank
selection_below = refl

storing : map simp (triple Store (triple Store a x y) x z ∷ triple Store (triple Store a y x) x z ∷ triple Store a x (pair Select a x) ∷ triple Store (triple Store a x y) x (pair Select a x) ∷ triple Store a x (pair Select a y) ∷ triple Store (triple Store (triple Store a x x) x y) x z ∷ []) ≡ triple Store a x z ∷ triple Store (triple Store a y x) x z ∷ a ∷ a ∷ triple Store a x (pair Select a y) ∷ triple Store a x z ∷ []
unfolding law literal_value op_value op_eq rank
storing = refl

-- ---- quantifiers

quantifiers : map simp (quantified universal (P ∷ Q ∷ []) p ∷ quantified existential (Q ∷ []) p ∷ quantified universal (Q ∷ []) (pair And q yes) ∷ quantified existential (Q ∷ []) (pair Or q (nt q)) ∷ quantified existential (P ∷ Q ∷ []) (pair Xor p q) ∷ []) ≡ quantified universal (P ∷ []) p ∷ p ∷ quantified universal (Q ∷ []) q ∷ yes ∷ quantified existential (P ∷ Q ∷ []) (pair Xor p q) ∷ []
unfolding law literal_value op_value op_eq rank
quantifiers = refl

-- the inner quantifier's variable isn't free in its formula, and neither is a variable of another sort with its name
shadowing : map simp (quantified universal (P ∷ []) (quantified existential (P ∷ []) p) ∷ quantified universal (P ∷ []) (pair Lt (variable (constant_named (codes "p") int)) (n 0)) ∷ []) ≡ quantified existential (P ∷ []) p ∷ pair Lt (variable (constant_named (codes "p") int)) (n 0) ∷ []
unfolding law literal_value op_value op_eq rank
shadowing = refl

-- ---- the least and the greatest width

abbrev bit : ℕ → Term
bit i = apply (op (Bits 1 i)) none

abbrev wide : ℕ → Term
wide i = apply (op (Bits 128 i)) none

abbrev b : Term
b = variable (constant_named (codes "b") (bit_vector 1))

abbrev w : Term
w = variable (constant_named (codes "w") (bit_vector 128))

narrow_vectors : map simp (pair BvAnd b (bit 1) ∷ pair BvAnd b (bit 0) ∷ pair BvAdd (bit 1) (bit 1) ∷ pair BvSlt (bit 1) (bit 0) ∷ of (Extract 0 0) b ∷ []) ≡ b ∷ bit 0 ∷ bit 0 ∷ yes ∷ b ∷ []
unfolding law literal_value op_value op_eq rank
narrow_vectors = refl

wide_vectors : map simp (pair BvAnd w (wide (2 ^ 128 - 1)) ∷ pair BvAdd (wide (2 ^ 128 - 1)) (wide 2) ∷ pair BvSlt (wide (2 ^ 127)) (wide 0) ∷ []) ≡ w ∷ wide 1 ∷ yes ∷ []
unfolding law literal_value op_value op_eq rank
wide_vectors = refl

simple : map is_simple (pair And p q ∷ nt (nt p) ∷ pair Or p yes ∷ []) ≡ true ∷ false ∷ false ∷ []
unfolding law literal_value op_value op_eq rank
simple = refl
