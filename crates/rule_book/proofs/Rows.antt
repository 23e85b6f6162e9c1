-- Worked rows of views, templates and the eight rules.
use Rattle.std.specs.Prelude.{◌≡◌, ℕ, zero, suc, true, false, [], ◌∷◌, map, slice_get, pos, negsuc, Option, Some, None, codes, refl}
use Rattle.smt_terms.specs.declared.op.Op.{Op}
use Rattle.smt_terms.specs.declared.op.Op.TheVariants.{Truth, Whole, Bits, Not, And, Or, Xor, Equal, Ite, Neg, Sub, Add, BvAnd, BvAdd, BvMul, BvUdiv, BvUrem, BvSdiv, BvShl, BvLshr}
use Rattle.smt_terms.specs.Sorts.{Name, Sort, bool, int, bit_vector, array, Variable}
use Rattle.smt_terms.specs.Term.{universal, op, symbol, const_array, Term, apply, quantified, none, ◌⨾◌, variable}
use Rattle.smt_terms.specs.BitVectors.{nat2bv}
use Rattle.smt_terms.specs.Constants.{literal_value}
use Rattle.smt_terms.specs.Equal.{op_eq}
use Rattle.smt_terms.specs.Rank.{rank}
use Rattle.smt_terms.specs.Values.{Value, bits}
use Rattle.smt_terms.specs.Operators.{Background, op_value}
use Rattle.rule_book.specs.View.{TermCell, is_theory, view_of, view_holes}
use Rattle.rule_book.specs.Template.{hole, literal, applied, Template, applies_theory, filled, template_sort, template_value}
use Rattle.rule_book.specs.Soundness.{view_value}
use Rattle.rule_book.specs.EightRules.{literal_power, eight_names, eight}
use Rattle.rule_book.specs.Ruled.{ruled}

abbrev named : Name → Sort → Variable
named name sort = record { name = name; sort = sort }

abbrev P : Variable
P = named (codes "p") bool

abbrev p : Term
p = variable P

abbrev q : Term
q = variable (named (codes "q") bool)

abbrev r : Term
r = variable (named (codes "r") bool)

abbrev x : Term
x = variable (named (codes "x") int)

abbrev y : Term
y = variable (named (codes "y") int)

abbrev v : Term
v = variable (named (codes "v") (bit_vector 8))

abbrev w : Term
w = variable (named (codes "w") (bit_vector 8))

abbrev byte : ℕ → Term
byte i = apply (op (Bits 8 i)) none

abbrev n : ℕ → Term
n i = apply (op (Whole (pos i))) none

abbrev of : Op → Term → Term
of o s = apply (op o) (s ⨾ none)

abbrev pair : Op → Term → Term → Term
pair o s t = apply (op o) (s ⨾ t ⨾ none)

abbrev triple : Op → Term → Term → Term → Term
triple o s t u = apply (op o) (s ⨾ t ⨾ u ⨾ none)

abbrev nt : Term → Term
nt = of Not

abbrev four_of : Op → Term
four_of o = apply (op o) (q ⨾ r ⨾ r ⨾ p ⨾ none)

abbrev five_of : Op → Term
five_of o = apply (op o) (q ⨾ r ⨾ q ⨾ r ⨾ p ⨾ none)

-- ---- views

abbrev cell : ℕ → Option Op → Sort → ℕ → TermCell
cell up shown sort i = record { up = up; shown = shown; sort = sort; hole = i }

-- p stands in two cells, with one hole number
view_with_shared_hole : view_of (pair And p (pair Or q p)) ≡ Some (record { root = And; sort = bool; cells = cell 0 None bool 0 ∷ cell 0 (Some Or) bool 1 ∷ cell 2 None bool 2 ∷ cell 2 None bool 0 ∷ [] })
unfolding is_theory literal_value op_eq rank
view_with_shared_hole = refl

its_holes : view_holes (pair And p (pair Or q p)) ≡ p ∷ pair Or q p ∷ q ∷ []
unfolding is_theory literal_value op_eq
its_holes = refl

view_of_product : view_of (pair BvMul v (byte 0x08)) ≡ Some (record { root = BvMul; sort = bit_vector 8; cells = cell 0 None (bit_vector 8) 0 ∷ cell 0 (Some (Bits 8 0x08)) (bit_vector 8) 1 ∷ [] })
unfolding is_theory literal_value op_eq rank
view_of_product = refl

-- two steps below the root constants alone are shown
view_two_steps : view_of (pair Equal (pair Add x (n 1)) (of Neg (of Neg x))) ≡ Some (record { root = Equal; sort = bool; cells = cell 0 (Some Add) int 0 ∷ cell 0 (Some Neg) int 1 ∷ cell 1 None int 2 ∷ cell 1 (Some (Whole (pos 1))) int 3 ∷ cell 2 None int 4 ∷ [] })
unfolding is_theory literal_value op_eq rank
view_two_steps = refl

-- an operand with more than four operands isn't shown, and neither are its own
view_of_wide_operand : view_of (nt (five_of And)) ≡ Some (record { root = Not; sort = bool; cells = cell 0 None bool 0 ∷ [] })
unfolding is_theory literal_value op_eq rank
view_of_wide_operand = refl

view_of_four : view_of (nt (four_of And)) ≡ Some (record { root = Not; sort = bool; cells = cell 0 (Some And) bool 0 ∷ cell 1 None bool 1 ∷ cell 1 None bool 2 ∷ cell 1 None bool 2 ∷ cell 1 None bool 3 ∷ [] })
unfolding is_theory literal_value op_eq rank
view_of_four = refl

without_view : map view_of (p ∷ byte 0x08 ∷ five_of And ∷ quantified universal (P ∷ []) p ∷ apply (const_array (array int int)) (x ⨾ none) ∷ apply (symbol (record { name = codes "f"; args = bool ∷ []; result = bool })) (p ⨾ none) ∷ []) ≡ None ∷ None ∷ None ∷ None ∷ None ∷ None ∷ []
unfolding is_theory literal_value op_eq rank
without_view = refl

-- ---- templates

abbrev in_holes : Template → Option Term
in_holes t = filled (slice_get (x ∷ y ∷ [])) t

filled_in_order : in_holes (hole 1 ∷ hole 0 ∷ hole 1 ∷ applied Add 2 ∷ applied Sub 2 ∷ []) ≡ Some (pair Sub y (pair Add x y))
filled_in_order = refl

-- a minus over a constant is the constant
minus_of_constant : in_holes (literal (Whole (pos 5)) ∷ applied Neg 1 ∷ []) ≡ Some (apply (op (Whole (negsuc 4))) none)
minus_of_constant = refl

not_one_term : map in_holes ([] ∷ (hole 0 ∷ hole 1 ∷ []) ∷ (hole 0 ∷ applied Add 2 ∷ []) ∷ (hole 2 ∷ []) ∷ []) ≡ None ∷ None ∷ None ∷ None ∷ []
not_one_term = refl

abbrev bytes_in_holes : Template → Option Sort
bytes_in_holes t = template_sort (slice_get (bit_vector 8 ∷ bit_vector 8 ∷ bit_vector 4 ∷ [])) t

sorts_of_templates : map bytes_in_holes ((hole 0 ∷ hole 1 ∷ applied BvAdd 2 ∷ []) ∷ (hole 0 ∷ hole 2 ∷ applied BvAdd 2 ∷ []) ∷ (hole 0 ∷ hole 3 ∷ applied BvAdd 2 ∷ []) ∷ (hole 0 ∷ literal (Bits 8 3) ∷ applied BvShl 2 ∷ []) ∷ (hole 0 ∷ literal (Bits 8 256) ∷ applied BvShl 2 ∷ []) ∷ []) ≡ Some (bit_vector 8) ∷ None ∷ None ∷ Some (bit_vector 8) ∷ None ∷ []
unfolding rank
sorts_of_templates = refl

theory_pieces : map applies_theory ((hole 0 ∷ literal (Bits 8 3) ∷ applied BvShl 2 ∷ []) ∷ (literal BvShl ∷ []) ∷ (hole 0 ∷ applied (Truth true) 1 ∷ []) ∷ []) ≡ true ∷ false ∷ false ∷ []
unfolding is_theory literal_value
theory_pieces = refl

-- v is 5: the product and the shift are 40
abbrev any : Background
any = record { sizes = λ _. 1; div_by_zero = λ i. i; mod_by_zero = λ i. i }

abbrev five_and_eight : ℕ → Value
five_and_eight zero = bits (nat2bv 8 5)
five_and_eight (suc _) = bits (nat2bv 8 8)

value_of_view : view_value any five_and_eight (record { root = BvMul; sort = bit_vector 8; cells = cell 0 None (bit_vector 8) 0 ∷ cell 0 (Some (Bits 8 0x08)) (bit_vector 8) 1 ∷ [] }) ≡ bits (nat2bv 8 40)
unfolding op_value
value_of_view = refl

value_of_template : template_value any (λ i. Some (record { sort = bit_vector 8; value = five_and_eight i })) (hole 0 ∷ literal (Bits 8 3) ∷ applied BvShl 2 ∷ []) ≡ Some (record { sort = bit_vector 8; value = bits (nat2bv 8 40) })
unfolding op_value rank
value_of_template = refl

-- ---- the eight rules

abbrev by_all : Term → Term
by_all t = ruled eight_names t

product : map by_all (pair Equal (pair BvMul v (byte 0x08)) w ∷ pair BvMul (byte 0x08) v ∷ pair BvMul v (byte 0x80) ∷ pair BvMul (byte 0x08) (byte 0x02) ∷ pair BvMul (byte 0x08) (byte 0x03) ∷ []) ≡ pair Equal (pair BvShl v (byte 0x03)) w ∷ pair BvShl v (byte 0x03) ∷ pair BvShl v (byte 0x07) ∷ pair BvShl (byte 0x08) (byte 0x01) ∷ pair BvShl (byte 0x03) (byte 0x03) ∷ []
unfolding is_theory literal_value literal_power op_eq
product = refl

no_product : map by_all (pair BvMul v (byte 0x01) ∷ pair BvMul v (byte 0x06) ∷ pair BvMul v (byte 0x00) ∷ pair BvMul v w ∷ pair BvAdd v (byte 0x08) ∷ []) ≡ pair BvMul v (byte 0x01) ∷ pair BvMul v (byte 0x06) ∷ pair BvMul v (byte 0x00) ∷ pair BvMul v w ∷ pair BvAdd v (byte 0x08) ∷ []
unfolding is_theory literal_value literal_power op_eq
no_product = refl

quotient : map by_all (pair BvUdiv v (byte 0x08) ∷ pair Equal (pair BvUdiv v (byte 0x01)) w ∷ pair BvUdiv (byte 0x08) v ∷ pair BvUdiv v (byte 0x00) ∷ pair BvSdiv v (byte 0x08) ∷ []) ≡ pair BvLshr v (byte 0x03) ∷ pair Equal (pair BvUdiv v (byte 0x01)) w ∷ pair BvUdiv (byte 0x08) v ∷ pair BvUdiv v (byte 0x00) ∷ pair BvSdiv v (byte 0x08) ∷ []
unfolding is_theory literal_value literal_power op_eq
quotient = refl

remainder : map by_all (pair Equal (pair BvUrem v (byte 0x08)) w ∷ pair BvUrem v (byte 0x02) ∷ pair BvUrem v (byte 0x01) ∷ pair BvUrem (byte 0x08) v ∷ pair BvUrem v (byte 0x07) ∷ []) ≡ pair Equal (pair BvAnd v (byte 0x07)) w ∷ pair BvAnd v (byte 0x01) ∷ pair BvUrem v (byte 0x01) ∷ pair BvUrem (byte 0x08) v ∷ pair BvUrem v (byte 0x07) ∷ []
unfolding is_theory literal_value literal_power op_eq
remainder = refl

absorption : map by_all (pair And p (pair Or q p) ∷ pair And (pair Or q p) p ∷ pair And p (four_of Or) ∷ pair Or p (pair And q p) ∷ pair Or (pair And p q) p ∷ pair And (pair Or p q) (pair Or (pair Or p q) r) ∷ []) ≡ p ∷ p ∷ p ∷ p ∷ p ∷ pair Or p q ∷ []
unfolding is_theory literal_value literal_power op_eq
absorption = refl

no_absorption : map by_all (pair And p (pair Or q r) ∷ triple And p (pair Or q p) r ∷ pair And p (five_of Or) ∷ pair And p (pair And q p) ∷ pair Or p (pair Or q p) ∷ pair And p (pair Xor q p) ∷ []) ≡ pair And p (pair Or q r) ∷ triple And p (pair Or q p) r ∷ pair And p (five_of Or) ∷ pair And p (pair And q p) ∷ pair Or p (pair Or q p) ∷ pair And p (pair Xor q p) ∷ []
unfolding is_theory literal_value literal_power op_eq
no_absorption = refl

difference : map by_all (pair Sub x (of Neg y) ∷ pair Sub x y ∷ pair Sub (of Neg x) y ∷ pair Add x (of Neg y) ∷ []) ≡ pair Add x y ∷ pair Sub x y ∷ pair Sub (of Neg x) y ∷ pair Add x (of Neg y) ∷ []
unfolding is_theory literal_value literal_power op_eq
difference = refl

branches : map by_all (triple Ite (nt p) x y ∷ triple Ite p x y ∷ triple Ite (pair And p q) x y ∷ triple Ite p (nt q) (nt r) ∷ []) ≡ triple Ite p y x ∷ triple Ite p x y ∷ triple Ite (pair And p q) x y ∷ triple Ite p (nt q) (nt r) ∷ []
unfolding is_theory literal_value literal_power op_eq
branches = refl

exclusive : map by_all (pair Xor (nt p) (nt q) ∷ pair Xor (nt p) q ∷ pair Xor p (nt q) ∷ pair Equal (nt p) (nt q) ∷ []) ≡ pair Xor p q ∷ pair Xor (nt p) q ∷ pair Xor p (nt q) ∷ pair Equal (nt p) (nt q) ∷ []
unfolding is_theory literal_value literal_power op_eq
exclusive = refl

-- from below, once, and below quantifiers and symbols
from_below : map by_all (pair Xor (nt (pair Xor (nt p) (nt q))) (nt q) ∷ pair BvMul (pair BvMul v (byte 0x02)) (byte 0x02) ∷ quantified universal (P ∷ []) (pair And p (pair Or q p)) ∷ apply (symbol (record { name = codes "f"; args = bool ∷ []; result = bool })) (pair And p (pair Or q p) ⨾ none) ∷ []) ≡ pair Xor (pair Xor p q) q ∷ pair BvShl (pair BvShl v (byte 0x01)) (byte 0x01) ∷ quantified universal (P ∷ []) p ∷ apply (symbol (record { name = codes "f"; args = bool ∷ []; result = bool })) (p ⨾ none) ∷ []
unfolding is_theory literal_value literal_power op_eq
from_below = refl

-- only the rules that the book names count, and other names stand for none of the eight
other_books : ruled [] (pair And p (pair Or q p)) ∷ ruled (codes "absorb-or" ∷ []) (pair And p (pair Or q p)) ∷ ruled (codes "absorb-or" ∷ codes "absorb-and" ∷ []) (pair And p (pair Or q p)) ∷ ruled (codes "absorb" ∷ []) (pair And p (pair Or q p)) ∷ [] ≡ pair And p (pair Or q p) ∷ pair And p (pair Or q p) ∷ p ∷ pair And p (pair Or q p) ∷ []
unfolding is_theory literal_value literal_power op_eq
other_books = refl

-- the template of a rule
right_side : eight (codes "ite-not") (record { root = Ite; sort = int; cells = cell 0 (Some Not) bool 0 ∷ cell 0 None int 1 ∷ cell 0 None int 2 ∷ cell 1 None bool 3 ∷ [] }) ≡ Some (hole 3 ∷ hole 2 ∷ hole 1 ∷ applied Ite 3 ∷ [])
unfolding literal_power op_eq
right_side = refl
