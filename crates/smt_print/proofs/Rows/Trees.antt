-- Worked rows: terms as trees.
use Rattle.std.specs.Prelude.{◌≡◌, ℕ, ◌-◌, ◌^◌, true, false, List, [], ◌∷◌, map, pos, neg_ℤ, codes, refl}
use Rattle.smt_lex.specs.Names.{is_syntax_word, is_command_word}
use Rattle.smt_terms.specs.declared.op.Op.TheVariants.{Truth, Not, And, Or, Xor, Implies, Equal, Distinct, Ite, Neg, Sub, Add, Mul, Div, Mod, Abs, Le, Lt, Concat, Extract, BvNot, BvNeg, BvAnd, BvOr, BvXor, BvAdd, BvMul, BvSub, BvUdiv, BvUrem, BvSdiv, BvSrem, BvSmod, BvShl, BvLshr, BvAshr, BvComp, BvUlt, BvUle, BvSlt, BvSle, ZeroExt, SignExt, RotL, RotR, Select, Store}
use Rattle.smt_terms.specs.Sorts.{Sort, bool, int, bit_vector, array, free_sort}
use Rattle.smt_terms.specs.Term.{universal, existential, symbol, const_array, quantified, over, variable}
use Rattle.smt_lex.specs.FormText.{form_text}
use Rattle.smt_print.specs.declared.layout.Layout.TheVariants.{Tree}
use Rattle.term_table.specs.WrittenForms.{sort_form}
use Rattle.smt_print.specs.TermForms.{operator_form}
use Rattle.smt_print.proofs.Rows.Given.{Cases, printed, wanted, named, p, q, x, y, n, leaf, whole, bits, of_one, of_two, of_three}

abbrev v : Sort
v = bit_vector 8

-- ---- constants

abbrev constants : Cases
constants =
    (leaf (Truth true), codes "true")
    ∷ (leaf (Truth false), codes "false")
    ∷ (whole (pos 0), codes "0")
    ∷ (whole (pos 10), codes "10")
    ∷ (whole (neg_ℤ (pos 5)), codes "(- 5)")
    ∷ (whole (pos (2 ^ 127 - 1)), codes "170141183460469231731687303715884105727")
    ∷ (whole (neg_ℤ (pos (2 ^ 127 - 1))), codes "(- 170141183460469231731687303715884105727)")
    ∷ (bits 8 3, codes "#x03")
    ∷ (bits 8 255, codes "#xff")
    ∷ (bits 12 2748, codes "#xabc")
    ∷ (bits 3 5, codes "#b101")
    ∷ (bits 1 0, codes "#b0")
    ∷ (bits 6 3, codes "#b000011")
    ∷ (bits 128 1, codes "#x00000000000000000000000000000001")
    ∷ []

of_constants : printed Tree constants ≡ wanted constants
unfolding operator_form is_syntax_word is_command_word
of_constants = refl

-- ---- sorts

abbrev sorts : List (Sort × List ℕ)
sorts =
    (bool, codes "Bool")
    ∷ (int, codes "Int")
    ∷ (bit_vector 8, codes "(_ BitVec 8)")
    ∷ (bit_vector 128, codes "(_ BitVec 128)")
    ∷ (array int (array (bit_vector 1) bool), codes "(Array Int (Array (_ BitVec 1) Bool))")
    ∷ (free_sort (codes "U"), codes "U")
    ∷ (free_sort (codes "my sort"), codes "|my sort|")
    ∷ (free_sort (codes "5"), codes "|5|")
    ∷ []

of_sorts : map (λ s. form_text (sort_form s.0)) sorts ≡ map (λ s. s.1) sorts
unfolding is_syntax_word is_command_word
of_sorts = refl

-- ---- names

abbrev names : Cases
names =
    (variable (named (codes "abc") bool), codes "abc")
    ∷ (variable (named (codes "let") bool), codes "|let|")
    ∷ (variable (named (codes "push") bool), codes "|push|")
    ∷ (variable (named (codes "_") bool), codes "|_|")
    ∷ (variable (named (codes "_x") bool), codes "_x")
    ∷ (variable (named (codes "x!0") bool), codes "x!0")
    ∷ (variable (named (codes "0x") bool), codes "|0x|")
    ∷ (variable (named (codes "a b") bool), codes "|a b|")
    ∷ (variable (named (codes "a:b") bool), codes "|a:b|")
    ∷ (variable (named [] bool), codes "||")
    ∷ []

of_names : printed Tree names ≡ wanted names
unfolding operator_form is_syntax_word is_command_word
of_names = refl

-- ---- operators

abbrev core : Cases
core =
    (of_one Not p, codes "(not p)")
    ∷ (of_three And p q p, codes "(and p q p)")
    ∷ (of_two Or p q, codes "(or p q)")
    ∷ (of_two Xor p q, codes "(xor p q)")
    ∷ (of_two Implies p q, codes "(=> p q)")
    ∷ (of_two Equal p q, codes "(= p q)")
    ∷ (of_three Distinct p q x, codes "(distinct p q x)")
    ∷ (of_three Ite p q x, codes "(ite p q x)")
    ∷ []

of_core : printed Tree core ≡ wanted core
unfolding operator_form is_syntax_word is_command_word
of_core = refl

abbrev numbers : Cases
numbers =
    (of_one Neg n, codes "(- n)")
    ∷ (of_two Sub n (whole (neg_ℤ (pos 1))), codes "(- n (- 1))")
    ∷ (of_three Add n n (whole (pos 1)), codes "(+ n n 1)")
    ∷ (of_two Mul n (whole (pos 2)), codes "(* n 2)")
    ∷ (of_two Div n n, codes "(div n n)")
    ∷ (of_two Mod n n, codes "(mod n n)")
    ∷ (of_one Abs n, codes "(abs n)")
    ∷ (of_two Le n n, codes "(<= n n)")
    ∷ (of_two Lt n n, codes "(< n n)")
    ∷ []

of_numbers : printed Tree numbers ≡ wanted numbers
unfolding operator_form is_syntax_word is_command_word
of_numbers = refl

abbrev vectors : Cases
vectors =
    (of_two Concat x y, codes "(concat x y)")
    ∷ (of_one (Extract 7 0) x, codes "((_ extract 7 0) x)")
    ∷ (of_one BvNot x, codes "(bvnot x)")
    ∷ (of_one BvNeg x, codes "(bvneg x)")
    ∷ (of_two BvAnd x y, codes "(bvand x y)")
    ∷ (of_two BvOr x y, codes "(bvor x y)")
    ∷ (of_two BvXor x y, codes "(bvxor x y)")
    ∷ (of_two BvAdd x y, codes "(bvadd x y)")
    ∷ (of_two BvMul x y, codes "(bvmul x y)")
    ∷ (of_two BvSub x y, codes "(bvsub x y)")
    ∷ (of_two BvUdiv x y, codes "(bvudiv x y)")
    ∷ (of_two BvUrem x y, codes "(bvurem x y)")
    ∷ (of_two BvSdiv x y, codes "(bvsdiv x y)")
    ∷ (of_two BvSrem x y, codes "(bvsrem x y)")
    ∷ (of_two BvSmod x y, codes "(bvsmod x y)")
    ∷ (of_two BvShl x y, codes "(bvshl x y)")
    ∷ (of_two BvLshr x y, codes "(bvlshr x y)")
    ∷ (of_two BvAshr x y, codes "(bvashr x y)")
    ∷ (of_two BvComp x y, codes "(bvcomp x y)")
    ∷ (of_two BvUlt x y, codes "(bvult x y)")
    ∷ (of_two BvUle x y, codes "(bvule x y)")
    ∷ (of_two BvSlt x y, codes "(bvslt x y)")
    ∷ (of_two BvSle x y, codes "(bvsle x y)")
    ∷ (of_one (ZeroExt 3) x, codes "((_ zero_extend 3) x)")
    ∷ (of_one (SignExt 0) x, codes "((_ sign_extend 0) x)")
    ∷ (of_one (RotL 10) x, codes "((_ rotate_left 10) x)")
    ∷ (of_one (RotR 1) x, codes "((_ rotate_right 1) x)")
    ∷ []

of_vectors : printed Tree vectors ≡ wanted vectors
unfolding operator_form is_syntax_word is_command_word
of_vectors = refl

abbrev others : Cases
others =
    (of_two Select x y, codes "(select x y)")
    ∷ (of_three Store x y (bits 1 1), codes "(store x y #b1)")
    ∷ (over (const_array (array int v)) (bits 8 16 ∷ []), codes "((as const (Array Int (_ BitVec 8))) #x10)")
    ∷ (over (symbol (record { name = codes "f"; args = int ∷ bool ∷ []; result = bool })) (n ∷ p ∷ []), codes "(f n p)")
    ∷ (over (symbol (record { name = codes "g h"; args = bool ∷ []; result = bool })) (of_one Not p ∷ []), codes "(|g h| (not p))")
    ∷ (quantified universal (named (codes "x") bool ∷ named (codes "y") v ∷ []) x, codes "(forall ((x Bool) (y (_ BitVec 8))) x)")
    ∷ (quantified existential (named (codes "as") bool ∷ []) (of_one Not x), codes "(exists ((|as| Bool)) (not x))")
    ∷ []

of_others : printed Tree others ≡ wanted others
unfolding operator_form is_syntax_word is_command_word
of_others = refl
