-- Printed terms are forms that can be written, in both layouts.
use Rattle.std.proofs.Common.{◌≡◌, ℕ, ◌<◌, inl, inr, true, not, List, [], ◌∷◌, length, map, refl, ap, arith}
use Rattle.std.specs.Prelude.{codes}
use Rattle.std.specs.Char.{is_ascii_digit}
use Rattle.std.proofs.lemmas.Bool.{ne_eqb}
use Rattle.smt_lex.specs.Lexicon.{is_symbol_byte, is_word}
use Rattle.smt_lex.specs.Forms.{Form, forms_of_list}
use Rattle.smt_lex.specs.Names.{IsName}
use Rattle.smt_terms.specs.declared.op.Op.{Op}
use Rattle.smt_terms.specs.declared.op.Op.TheVariants.{Truth, Whole, Bits, Sym, Forall, Exists, ConstArray, Not, And, Or, Xor, Implies, Equal, Distinct, Ite, Neg, Sub, Add, Mul, Div, Mod, Abs, Le, Lt, Concat, Extract, BvNot, BvNeg, BvAnd, BvOr, BvXor, BvAdd, BvMul, BvSub, BvUdiv, BvUrem, BvSdiv, BvSrem, BvSmod, BvShl, BvLshr, BvAshr, BvComp, BvUlt, BvUle, BvSlt, BvSle, ZeroExt, SignExt, RotL, RotR, Select, Store}
use Rattle.smt_terms.specs.Equal.{term_eq}
use Rattle.smt_terms.specs.Numeral.{numeral}
use Rattle.smt_terms.specs.Sorts.{Variable}
use Rattle.smt_terms.specs.Term.{Quantifier, universal, existential, Head, op, symbol, const_array, Term, apply, quantified, Terms, none, ◌⨾◌}
use Rattle.term_table.specs.WrittenForms.{variable_form}
use Rattle.smt_print.specs.TermForms.{operator_form, head_form, application_form, quantifier_word, quantified_form, tree_form, tree_forms, Definition, definition_name, is_defined, defined_name, reference, references, with_definition, with_application, let_form, below_lets, defined_form, definitions, definitions_in, dag_form}
use Rattle.smt_print.proofs.Digits.{numeral_digits}
use Rattle.smt_print.proofs.FormTexts.{IsWritten, AreWritten}
use Rattle.smt_print.proofs.Writable.{tell, all_weaker, word_written, symbol_written, integer_written, truth_written, vector_written, indexed_written, HasNames, variable_written, constant_array_written}

-- ---- heads

-- a bit vector has bits
abbrev pub HasBits : Op → Type 0
HasBits (Bits width n) = 0 < width
HasBits _ = Unit {0}

operator_written : (o : Op) → HasBits o → IsWritten (operator_form o)
unfolding operator_form
operator_written (Truth b) known = truth_written b
operator_written (Whole n) known = integer_written n
operator_written (Bits width n) known = vector_written width n known
operator_written Not known = word_written (codes "not") refl
operator_written And known = word_written (codes "and") refl
operator_written Or known = word_written (codes "or") refl
operator_written Xor known = word_written (codes "xor") refl
operator_written Implies known = word_written (codes "=>") refl
operator_written Equal known = word_written (codes "=") refl
operator_written Distinct known = word_written (codes "distinct") refl
operator_written Ite known = word_written (codes "ite") refl
operator_written Neg known = word_written (codes "-") refl
operator_written Sub known = word_written (codes "-") refl
operator_written Add known = word_written (codes "+") refl
operator_written Mul known = word_written (codes "*") refl
operator_written Div known = word_written (codes "div") refl
operator_written Mod known = word_written (codes "mod") refl
operator_written Abs known = word_written (codes "abs") refl
operator_written Le known = word_written (codes "<=") refl
operator_written Lt known = word_written (codes "<") refl
operator_written Concat known = word_written (codes "concat") refl
operator_written BvNot known = word_written (codes "bvnot") refl
operator_written BvNeg known = word_written (codes "bvneg") refl
operator_written BvAnd known = word_written (codes "bvand") refl
operator_written BvOr known = word_written (codes "bvor") refl
operator_written BvXor known = word_written (codes "bvxor") refl
operator_written BvAdd known = word_written (codes "bvadd") refl
operator_written BvMul known = word_written (codes "bvmul") refl
operator_written BvSub known = word_written (codes "bvsub") refl
operator_written BvUdiv known = word_written (codes "bvudiv") refl
operator_written BvUrem known = word_written (codes "bvurem") refl
operator_written BvSdiv known = word_written (codes "bvsdiv") refl
operator_written BvSrem known = word_written (codes "bvsrem") refl
operator_written BvSmod known = word_written (codes "bvsmod") refl
operator_written BvShl known = word_written (codes "bvshl") refl
operator_written BvLshr known = word_written (codes "bvlshr") refl
operator_written BvAshr known = word_written (codes "bvashr") refl
operator_written BvComp known = word_written (codes "bvcomp") refl
operator_written BvUlt known = word_written (codes "bvult") refl
operator_written BvUle known = word_written (codes "bvule") refl
operator_written BvSlt known = word_written (codes "bvslt") refl
operator_written BvSle known = word_written (codes "bvsle") refl
operator_written Select known = word_written (codes "select") refl
operator_written Store known = word_written (codes "store") refl
operator_written (Extract high low) known = indexed_written (codes "extract") (high ∷ low ∷ []) refl
operator_written (ZeroExt i) known = indexed_written (codes "zero_extend") (i ∷ []) refl
operator_written (SignExt i) known = indexed_written (codes "sign_extend") (i ∷ []) refl
operator_written (RotL i) known = indexed_written (codes "rotate_left") (i ∷ []) refl
operator_written (RotR i) known = indexed_written (codes "rotate_right") (i ∷ []) refl
operator_written (Sym f) known = tt
operator_written Forall known = tt
operator_written Exists known = tt
operator_written (ConstArray s) known = tt

-- the names in a term can stand between bars, and its bit vectors have bits
abbrev pub IsWritableHead : Head → Type 0
IsWritableHead (op o) = HasBits o
IsWritableHead (symbol f) = IsName f.name
IsWritableHead (const_array s) = HasNames s

abbrev pub AreWritableVariables : List Variable → Type 0
AreWritableVariables [] = Unit {0}
AreWritableVariables (x ∷ xs) = IsName x.name × HasNames x.sort × AreWritableVariables xs

abbrev mutual
  pub IsWritable : Term → Type 0
  IsWritable (apply h ts) = IsWritableHead h × AreWritable ts
  IsWritable (quantified q xs t) = AreWritableVariables xs × IsWritable t

  pub AreWritable : Terms → Type 0
  AreWritable none = Unit {0}
  AreWritable (t ⨾ ts) = IsWritable t × AreWritable ts

head_written : (h : Head) → IsWritableHead h → IsWritten (head_form h)
head_written (op o) is = operator_written o is
head_written (symbol f) is = symbol_written f.name is
head_written (const_array s) is = constant_array_written s is

application_written : (head : Form) (fs : List Form) → IsWritten head → AreWritten (forms_of_list fs) → IsWritten (application_form head fs)
application_written head [] is are = is
application_written head (f ∷ fs) is are = (is, are)

variables_written : (xs : List Variable) → AreWritableVariables xs → AreWritten (forms_of_list (map variable_form xs))
variables_written [] are = tt
variables_written (x ∷ xs) are = (variable_written x are.0 are.1, variables_written xs are.2)

word_of_quantifier : (q : Quantifier) → IsWritten (quantifier_word q)
word_of_quantifier universal = word_written (codes "forall") refl
word_of_quantifier existential = word_written (codes "exists") refl

quantified_written : (q : Quantifier) (xs : List Variable) (f : Form) → AreWritableVariables xs → IsWritten f → IsWritten (quantified_form q xs f)
quantified_written q xs f are is = (word_of_quantifier q, (variables_written xs are, (is, tt)))

-- ---- as a tree

mutual
  pub tree_written : (t : Term) → IsWritable t → IsWritten (tree_form t)
  tree_written (apply h ts) is = application_written (head_form h) (tree_forms ts) (head_written h is.0) (trees_written ts is.1)
  tree_written (quantified q xs t) is = quantified_written q xs (tree_form t) is.0 (tree_written t is.1)

  trees_written : (ts : Terms) → AreWritable ts → AreWritten (forms_of_list (tree_forms ts))
  trees_written none are = tt
  trees_written (t ⨾ ts) are = (tree_written t are.0, trees_written ts are.1)

-- ---- as a graph

digit_in_word : (b : ℕ) → is_ascii_digit b ≡ true → is_symbol_byte b ≡ true
digit_in_word b h = rw h refl

name_is_word : (k : ℕ) → is_word (definition_name k) ≡ true
name_is_word k = rw (all_weaker is_ascii_digit is_symbol_byte digit_in_word (numeral k) (numeral_digits k)) (ap not (ne_eqb (length (definition_name k)) 0 (λ none. omega (arith, none))))

defined_is_word : (ds : List Definition) (t : Term) → is_word (defined_name ds t) ≡ true
defined_is_word [] t = name_is_word 0
defined_is_word (d ∷ ds) t = elim (tell (term_eq d.term t)) [
  | inl here ↦ rw here (name_is_word (length ds))
  | inr later ↦ rw later (defined_is_word ds t)
]

-- the forms of definitions
abbrev AreDefined : List Definition → Type 0
AreDefined [] = Unit {0}
AreDefined (d ∷ ds) = IsWritten d.form × AreDefined ds

reference_written : (ds : List Definition) (t : Term) → IsWritable t → IsWritten (reference ds t)
reference_written ds (apply h none) is = head_written h is.0
reference_written ds (apply h (t ⨾ ts)) is = word_written (defined_name ds (apply h (t ⨾ ts))) (defined_is_word ds (apply h (t ⨾ ts)))
reference_written ds (quantified q xs t) is = word_written (defined_name ds (quantified q xs t)) (defined_is_word ds (quantified q xs t))

references_written : (ds : List Definition) (ts : Terms) → AreWritable ts → AreWritten (forms_of_list (references ds ts))
references_written ds none are = tt
references_written ds (t ⨾ ts) are = (reference_written ds t are.0, references_written ds ts are.1)

definition_written : (t : Term) (f : Form) (ds : List Definition) → IsWritten f → AreDefined ds → AreDefined (with_definition t f ds)
definition_written t f ds is are = elim (tell (is_defined ds t)) [ inl there ↦ rw there are | inr new ↦ rw new (is, are) ]

in_application : (h : Head) (ts : Terms) (ds : List Definition) → IsWritableHead h → AreWritable ts → AreDefined ds → AreDefined (with_application h ts ds)
in_application h none ds is are defined = defined
in_application h (t ⨾ ts) ds is are defined =
    definition_written (apply h (t ⨾ ts)) (application_form (head_form h) (references ds (t ⨾ ts))) ds
    (application_written (head_form h) (references ds (t ⨾ ts)) (head_written h is) (references_written ds (t ⨾ ts) are)) defined

lets_written : (ds : List Definition) (f : Form) → AreDefined ds → IsWritten f → IsWritten (below_lets ds f)
lets_written [] f are is = is
lets_written (d ∷ ds) f are is =
    lets_written ds (let_form (definition_name (length ds)) d.form f) are.1
    (word_written (codes "let") refl, (((word_written (definition_name (length ds)) (name_is_word (length ds)), (are.0, tt)), tt), (is, tt)))

defined_written : (ds : List Definition) (t : Term) → AreDefined ds → IsWritable t → IsWritten (defined_form ds t)
defined_written ds t are is = lets_written ds (reference ds t) are (reference_written ds t is)

mutual
  definitions_written : (t : Term) (ds : List Definition) → IsWritable t → AreDefined ds → AreDefined (definitions t ds)
  definitions_written (apply h ts) ds is are = in_application h ts (definitions_in ts ds) is.0 is.1 (each_defined ts ds is.1 are)
  definitions_written (quantified q xs t) ds is are =
      definition_written (quantified q xs t) (quantified_form q xs (defined_form (definitions t []) t)) ds
      (quantified_written q xs (defined_form (definitions t []) t) is.0 (defined_written (definitions t []) t (definitions_written t [] is.1 tt) is.1)) are

  each_defined : (ts : Terms) (ds : List Definition) → AreWritable ts → AreDefined ds → AreDefined (definitions_in ts ds)
  each_defined none ds are defined = defined
  each_defined (t ⨾ ts) ds are defined = each_defined ts (definitions t ds) are.1 (definitions_written t ds are.0 defined)

pub dag_written : (t : Term) → IsWritable t → IsWritten (dag_form t)
dag_written t is = defined_written (definitions t []) t (definitions_written t [] is tt) is
