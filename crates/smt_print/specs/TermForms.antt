-- Terms as forms, in two layouts: SMT-LIB 2.6, section 3.6. As a tree a term stands as it is; as a graph, each subterm that
-- has operands is bound to a name by a `let` and stands once.
use Rattle.std.specs.Prelude.{ℕ, Bool, false, ◌||◌, if◌then◌else◌, List, [], ◌∷◌, ◌++◌, map, length, codes}
use Rattle.smt_lex.specs.Names.{Name}
use Rattle.smt_lex.specs.Forms.{Form}
use Rattle.smt_terms.specs.declared.op.Op.{Op}
use Rattle.smt_terms.specs.declared.op.Op.TheVariants.{Truth, Whole, Bits, Sym, Forall, Exists, ConstArray, Not, And, Or, Xor, Implies, Equal, Distinct, Ite, Neg, Sub, Add, Mul, Div, Mod, Abs, Le, Lt, Concat, Extract, BvNot, BvNeg, BvAnd, BvOr, BvXor, BvAdd, BvMul, BvSub, BvUdiv, BvUrem, BvSdiv, BvSrem, BvSmod, BvShl, BvLshr, BvAshr, BvComp, BvUlt, BvUle, BvSlt, BvSle, ZeroExt, SignExt, RotL, RotR, Select, Store}
use Rattle.smt_terms.specs.Equal.{term_eq}
use Rattle.smt_terms.specs.Numeral.{numeral}
use Rattle.smt_terms.specs.Sorts.{Variable}
use Rattle.smt_terms.specs.Term.{Quantifier, universal, existential, Head, op, symbol, const_array, Term, apply, quantified, Terms, none, ◌⨾◌}
use Rattle.term_table.specs.WrittenForms.{list_form, word_form, symbol_form, indexed_form, truth_form, integer_form, vector_form, constant_array_form, variable_form}

-- ---- heads

-- an operator as it is written: a constant, or the head of its applications. The last four lines are of operators that no
-- term applies.
unfoldable pub operator_form : Op → Form
operator_form (Truth b) = truth_form b
operator_form (Whole n) = integer_form n
operator_form (Bits width n) = vector_form width n
operator_form Not = word_form (codes "not")
operator_form And = word_form (codes "and")
operator_form Or = word_form (codes "or")
operator_form Xor = word_form (codes "xor")
operator_form Implies = word_form (codes "=>")
operator_form Equal = word_form (codes "=")
operator_form Distinct = word_form (codes "distinct")
operator_form Ite = word_form (codes "ite")
operator_form Neg = word_form (codes "-")
operator_form Sub = word_form (codes "-")
operator_form Add = word_form (codes "+")
operator_form Mul = word_form (codes "*")
operator_form Div = word_form (codes "div")
operator_form Mod = word_form (codes "mod")
operator_form Abs = word_form (codes "abs")
operator_form Le = word_form (codes "<=")
operator_form Lt = word_form (codes "<")
operator_form Concat = word_form (codes "concat")
operator_form (Extract high low) = indexed_form (codes "extract") (high ∷ low ∷ [])
operator_form BvNot = word_form (codes "bvnot")
operator_form BvNeg = word_form (codes "bvneg")
operator_form BvAnd = word_form (codes "bvand")
operator_form BvOr = word_form (codes "bvor")
operator_form BvXor = word_form (codes "bvxor")
operator_form BvAdd = word_form (codes "bvadd")
operator_form BvMul = word_form (codes "bvmul")
operator_form BvSub = word_form (codes "bvsub")
operator_form BvUdiv = word_form (codes "bvudiv")
operator_form BvUrem = word_form (codes "bvurem")
operator_form BvSdiv = word_form (codes "bvsdiv")
operator_form BvSrem = word_form (codes "bvsrem")
operator_form BvSmod = word_form (codes "bvsmod")
operator_form BvShl = word_form (codes "bvshl")
operator_form BvLshr = word_form (codes "bvlshr")
operator_form BvAshr = word_form (codes "bvashr")
operator_form BvComp = word_form (codes "bvcomp")
operator_form BvUlt = word_form (codes "bvult")
operator_form BvUle = word_form (codes "bvule")
operator_form BvSlt = word_form (codes "bvslt")
operator_form BvSle = word_form (codes "bvsle")
operator_form (ZeroExt i) = indexed_form (codes "zero_extend") (i ∷ [])
operator_form (SignExt i) = indexed_form (codes "sign_extend") (i ∷ [])
operator_form (RotL i) = indexed_form (codes "rotate_left") (i ∷ [])
operator_form (RotR i) = indexed_form (codes "rotate_right") (i ∷ [])
operator_form Select = word_form (codes "select")
operator_form Store = word_form (codes "store")
operator_form (Sym f) = list_form []
operator_form Forall = list_form []
operator_form Exists = list_form []
operator_form (ConstArray s) = list_form []

abbrev pub head_form : Head → Form
head_form (op o) = operator_form o
head_form (symbol f) = symbol_form f.name
head_form (const_array s) = constant_array_form s

-- a head over its operands; without operands it stands alone
abbrev pub application_form : Form → List Form → Form
application_form head [] = head
application_form head (f ∷ fs) = list_form (head ∷ f ∷ fs)

abbrev pub quantifier_word : Quantifier → Form
quantifier_word universal = word_form (codes "forall")
quantifier_word existential = word_form (codes "exists")

abbrev pub quantified_form : Quantifier → List Variable → Form → Form
quantified_form q xs body = list_form (quantifier_word q ∷ list_form (map variable_form xs) ∷ body ∷ [])

-- ---- as a tree

abbrev mutual
  pub tree_form : Term → Form
  tree_form (apply h ts) = application_form (head_form h) (tree_forms ts)
  tree_form (quantified q xs t) = quantified_form q xs (tree_form t)

  pub tree_forms : Terms → List Form
  tree_forms none = []
  tree_forms (t ⨾ ts) = tree_form t ∷ tree_forms ts

-- ---- as a graph

-- a subterm that has operands, or a quantified one, and what it is written as over the names of its operands
pub record Definition : Type 0 where
  pub term : Term
  pub form : Form

-- `.def_` and the number of definitions that stand before it
abbrev pub definition_name : ℕ → Name
definition_name k = codes ".def_" ++ numeral k

-- definitions stand with the latest first
abbrev pub is_defined : List Definition → Term → Bool
is_defined [] t = false
is_defined (d ∷ ds) t = term_eq d.term t || is_defined ds t

abbrev pub defined_name : List Definition → Term → Name
defined_name [] t = definition_name 0
defined_name (d ∷ ds) t = if term_eq d.term t then definition_name (length ds) else defined_name ds t

-- a term without operands stands as it is, another by its name
abbrev pub reference : List Definition → Term → Form
reference ds (apply h none) = head_form h
reference ds t = word_form (defined_name ds t)

abbrev pub references : List Definition → Terms → List Form
references ds none = []
references ds (t ⨾ ts) = reference ds t ∷ references ds ts

-- each distinct term is defined once, where it first occurs
abbrev pub with_definition : Term → Form → List Definition → List Definition
with_definition t f ds = if is_defined ds t then ds else record { term = t; form = f } ∷ ds

abbrev pub with_application : Head → Terms → List Definition → List Definition
with_application h none ds = ds
with_application h (t ⨾ ts) ds =
    with_definition (apply h (t ⨾ ts)) (application_form (head_form h) (references ds (t ⨾ ts))) ds

abbrev pub let_form : Name → Form → Form → Form
let_form n f body = list_form (word_form (codes "let") ∷ list_form (list_form (word_form n ∷ f ∷ []) ∷ []) ∷ body ∷ [])

-- the definitions around a form, the first outermost
abbrev pub below_lets : List Definition → Form → Form
below_lets [] f = f
below_lets (d ∷ ds) f = below_lets ds (let_form (definition_name (length ds)) d.form f)

-- a term below the definitions of its subterms
abbrev pub defined_form : List Definition → Term → Form
defined_form ds t = below_lets ds (reference ds t)

-- these definitions, and then those of the term's subterms: operands from left to right, each before the terms that it
-- stands in. The body of a quantifier has definitions of its own.
abbrev mutual
  pub definitions : Term → List Definition → List Definition
  definitions (apply h ts) ds = with_application h ts (definitions_in ts ds)
  definitions (quantified q xs t) ds =
      with_definition (quantified q xs t) (quantified_form q xs (defined_form (definitions t []) t)) ds

  pub definitions_in : Terms → List Definition → List Definition
  definitions_in none ds = ds
  definitions_in (t ⨾ ts) ds = definitions_in ts (definitions t ds)

abbrev pub dag_form : Term → Form
dag_form t = defined_form (definitions t []) t
