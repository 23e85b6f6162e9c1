-- The eight rules: which views show a rule's left side, and the template that is its right side. The operators are those of
-- SMT-LIB 2.6, theories Core, Ints and FixedSizeBitVectors and logic QF_BV.
use Rattle.std.specs.Prelude.{ℕ, zero, suc, ◌-◌, ◌^◌, Bool, false, ◌&&◌, ◌==◌, nat_le, if◌then◌else◌, List, [], ◌∷◌, map, Option, Some, None, codes}
use Rattle.std.specs.List.{list_any, list_all}
use Rattle.smt_terms.specs.declared.op.Op.{Op}
use Rattle.smt_terms.specs.declared.op.Op.TheVariants.{Bits, Not, And, Or, Xor, Ite, Sub, Neg, Add, BvAnd, BvMul, BvUdiv, BvUrem, BvShl, BvLshr}
use Rattle.smt_terms.specs.Sorts.{Name}
use Rattle.smt_terms.specs.Equal.{name_eq, op_eq}
use Rattle.smt_terms.specs.Free.{name_among}
use Rattle.rule_book.specs.View.{TermCell, TermView}
use Rattle.rule_book.specs.Template.{hole, literal, applied, Template}
use Rattle.rule_book.specs.Soundness.{Answers, cells_under}

-- ---- what a view shows

abbrev pub is_op : Op → Option Op → Bool
is_op o None = false
is_op o (Some p) = op_eq o p

-- exactly one, two and three cells
abbrev pub one : (TermCell → Option Template) → List TermCell → Option Template
one rule (c ∷ []) = rule c
one rule _ = None

abbrev pub two : (TermCell → TermCell → Option Template) → List TermCell → Option Template
two rule (c ∷ d ∷ []) = rule c d
two rule _ = None

abbrev pub three : (TermCell → TermCell → TermCell → Option Template) → List TermCell → Option Template
three rule (c ∷ d ∷ e ∷ []) = rule c d e
three rule _ = None

-- the operands of the root, and those of the operand in cell k
abbrev pub operands : TermView → List TermCell
operands v = cells_under 0 v.cells

abbrev pub operands_of_cell : ℕ → TermView → List TermCell
operands_of_cell k v = cells_under (suc k) v.cells

abbrev pub where_root : Op → TermView → Option Template → Option Template
where_root o v answer = if op_eq v.root o then answer else None

abbrev pub or_else : Option Template → Option Template → Option Template
or_else (Some p) _ = Some p
or_else None q = q

-- ---- powers of two

pub record Power : Type 0 where
  pub width : ℕ
  pub exponent : ℕ

-- the k from 1 on, below the bound, for which the number is 2 ^ k
abbrev pub exponent_below : ℕ → ℕ → Option ℕ
exponent_below zero n = None
exponent_below (suc k) n = if nat_le 1 k && (2 ^ k == n) then Some k else exponent_below k n

abbrev pub power_at : ℕ → Option ℕ → Option Power
power_at width None = None
power_at width (Some k) = Some (record { width = width; exponent = k })

unfoldable pub literal_power : Op → Option Power
literal_power (Bits width n) = power_at width (exponent_below width n)
literal_power _ = None

abbrev pub power : Option Op → Option Power
power None = None
power (Some o) = literal_power o

-- the operator over a cell and a constant of the power's width
abbrev pub over_constant : Op → TermCell → (ℕ → ℕ) → Option Power → Option Template
over_constant o x number None = None
over_constant o x number (Some p) = Some (hole x.hole ∷ literal (Bits p.width (number p.exponent)) ∷ applied o 2 ∷ [])

-- ---- x * 2 ^ k is x shifted left by k; the second operand is tried first

abbrev pub mul_pow2 : Answers
mul_pow2 v = where_root BvMul v (two (λ a b. or_else (over_constant BvShl a (λ k. k) (power b.shown)) (over_constant BvShl b (λ k. k) (power a.shown))) (operands v))

-- ---- x divided by 2 ^ k is x shifted right by k

abbrev pub udiv_pow2 : Answers
udiv_pow2 v = where_root BvUdiv v (two (λ x c. over_constant BvLshr x (λ k. k) (power c.shown)) (operands v))

-- ---- what x leaves divided by 2 ^ k is its lowest k bits

abbrev pub urem_pow2 : Answers
urem_pow2 v = where_root BvUrem v (two (λ x c. over_constant BvAnd x (λ k. 2 ^ k - 1) (power c.shown)) (operands v))

-- ---- p and (.. or p or ..) is p, and the other way round; the first operand is tried as p first

abbrev pub has_hole : ℕ → List TermCell → Bool
has_hole i cells = list_any (λ c. c.hole == i) cells

abbrev pub absorbed : Op → TermView → TermCell → TermCell → Option Template
absorbed inner v a b =
    if is_op inner b.shown && has_hole a.hole (operands_of_cell 1 v) then Some (hole a.hole ∷ []) else
    if is_op inner a.shown && has_hole b.hole (operands_of_cell 0 v) then Some (hole b.hole ∷ []) else None

abbrev pub absorb_and : Answers
absorb_and v = where_root And v (two (absorbed Or v) (operands v))

abbrev pub absorb_or : Answers
absorb_or v = where_root Or v (two (absorbed And v) (operands v))

-- ---- a - (- b) is a + b

abbrev pub sub_neg : Answers
sub_neg v = where_root Sub v (two (λ a n. if is_op Neg n.shown then one (λ b. Some (hole a.hole ∷ hole b.hole ∷ applied Add 2 ∷ [])) (operands_of_cell 1 v) else None) (operands v))

-- ---- the branches of a negated condition change places

abbrev pub ite_not : Answers
ite_not v = where_root Ite v (three (λ n a b. if is_op Not n.shown then one (λ c. Some (hole c.hole ∷ hole b.hole ∷ hole a.hole ∷ applied Ite 3 ∷ [])) (operands_of_cell 0 v) else None) (operands v))

-- ---- of two negated operands of xor, neither is

abbrev pub xor_not : Answers
xor_not v = where_root Xor v (two (λ m n. if is_op Not m.shown && is_op Not n.shown then one (λ p. one (λ q. Some (hole p.hole ∷ hole q.hole ∷ applied Xor 2 ∷ [])) (operands_of_cell 1 v)) (operands_of_cell 0 v) else None) (operands v))

-- ---- by name

pub record NamedRule : Type 0 where
  pub name : Name
  pub answers : Answers

abbrev pub the_eight : List NamedRule
the_eight =
    record { name = codes "mul-pow2"; answers = mul_pow2 } ∷ record { name = codes "udiv-pow2"; answers = udiv_pow2 } ∷
    record { name = codes "urem-pow2"; answers = urem_pow2 } ∷ record { name = codes "absorb-and"; answers = absorb_and } ∷
    record { name = codes "absorb-or"; answers = absorb_or } ∷ record { name = codes "sub-neg"; answers = sub_neg } ∷
    record { name = codes "ite-not"; answers = ite_not } ∷ record { name = codes "xor-not"; answers = xor_not } ∷ []

abbrev pub eight_names : List Name
eight_names = map (λ r. r.name) the_eight

-- each of the names is one of the eight
abbrev pub all_eight : List Name → Bool
all_eight ns = list_all (λ n. name_among eight_names n) ns

abbrev pub answer_of : List NamedRule → Name → Answers
answer_of [] n v = None
answer_of (r ∷ rs) n v = if name_eq r.name n then r.answers v else answer_of rs n v

-- what the rule of that name answers; nothing where none of the eight has the name
abbrev pub eight : Name → Answers
eight n v = answer_of the_eight n v
