-- How nodes are written: the first part of a term, what stands in its list, and what stands at the beginning of that list.
use Rattle.std.specs.Prelude.{◌≡◌, ℕ, Bool, true, false, List, [], ◌∷◌, ◌++◌, map, get_or}
use Rattle.smt_lex.specs.Lexicon.{left_parenthesis, space}
use Rattle.smt_lex.specs.Forms.{Form}
use Rattle.smt_lex.specs.FormText.{form_text}
use Rattle.smt_terms.specs.declared.ids.NodeId.{NodeId}
use Rattle.smt_terms.specs.Sorts.{Sort, Symbol, Variable}
use Rattle.smt_terms.specs.Term.{Quantifier, Term, apply, quantified, list, variable}
use Rattle.smt_values.specs.SortIds.{sort_at}
use Rattle.smt_values.specs.declared.scalar.Scalar.{Scalar}
use Rattle.smt_values.specs.declared.scalar.Scalar.TheVariants.{Truth, Whole, Bits}
use Rattle.smt_terms.specs.declared.op.Op.{Op}
use Rattle.smt_terms.specs.declared.op.Op.TheVariants.{Truth as TruthOp, Whole as WholeOp, Bits as BitsOp}
use Rattle.term_table.specs.Formulas.{Formulas, no_symbol, tree, trees_at, IsNode, AreNodes, Kind, theory, applied, filled, binder, kind}
use Rattle.term_table.specs.WrittenForms.{list_form, symbol_form, constant_array_form, variable_form}
use Rattle.smt_print.specs.TermForms.{operator_form, head_form, quantifier_word}

abbrev pub kind_form : List Symbol → List Sort → Kind → Form
kind_form fs ss (theory p) = operator_form p
kind_form fs ss (applied f) = symbol_form (get_or fs f.0 no_symbol).name
kind_form fs ss (filled s) = constant_array_form (sort_at ss s)
kind_form fs ss (binder q) = quantifier_word q

-- what a node of this operator is written with, before its operands
abbrev pub written : Formulas → Op → Form
written t p = kind_form t.symbols t.sorts (kind p)

-- the constant of the theories that is this scalar
abbrev pub constant_op : Scalar → Op
constant_op (Truth b) = TruthOp b
constant_op (Whole n) = WholeOp n
constant_op (Bits width n) = BitsOp width n

-- what a term is written with, before its operands
abbrev pub first_form : Term → Form
first_form (apply h ts) = head_form h
first_form (quantified q xs t) = quantifier_word q

-- the terms that stand in the list of a term that has operands
abbrev pub parts : Term → List Term
parts (apply h ts) = list ts
parts (quantified q xs t) = t ∷ []

-- the text of that list in front of these terms
abbrev pub opening : Term → List ℕ
opening (apply h ts) = left_parenthesis ∷ form_text (head_form h)
opening (quantified q xs t) = left_parenthesis ∷ (form_text (quantifier_word q) ++ (space ∷ form_text (list_form (map variable_form xs))))

-- a node that is quantified over these variables, with this body
pub record Binds (t : Formulas) (u : Term) (vs : List NodeId) (b : NodeId) : Type 0 where
  pub quantifier : Quantifier
  pub variables : List Variable
  pub term : u ≡ quantified quantifier variables (tree t b)
  pub names : trees_at t vs ≡ map variable variables
  pub nodes : AreNodes t vs
  pub body : IsNode t b
