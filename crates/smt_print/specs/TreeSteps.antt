-- Printing a term as a tree: what a stack of steps still prints.
use Rattle.std.specs.Prelude.{◌≡◌, ℕ, suc, ◌+◌, List, [], ◌∷◌, ◌++◌, map}
use Rattle.smt_lex.specs.Lexicon.{right_parenthesis, space}
use Rattle.smt_lex.specs.FormText.{form_text}
use Rattle.smt_terms.specs.declared.ids.NodeId.{NodeId}
use Rattle.term_table.specs.Formulas.{Formulas, tree, IsNode}
use Rattle.smt_print.specs.declared.tree.Step.{Step}
use Rattle.smt_print.specs.declared.tree.Step.TheVariants.{Operand, Close}
use Rattle.smt_print.specs.TermForms.{tree_form}
use Rattle.smt_print.specs.Sizes.{size}

abbrev pub operand_steps : List NodeId → List Step
operand_steps ks = map Operand ks

-- what is printed of the whole text, and then what these steps print, is the whole
abbrev pub Leads : Formulas → List Step → List ℕ → List ℕ → Type 0
Leads t [] done whole = done ≡ whole
Leads t (Operand k ∷ steps) done whole = IsNode t k × Leads t steps (done ++ (space ∷ form_text (tree_form (tree t k)))) whole
Leads t (Close ∷ steps) done whole = Leads t steps (done ++ right_parenthesis ∷ []) whole

-- how many turns these steps may take
abbrev pub weights : Formulas → List Step → ℕ
weights t [] = 0
weights t (Operand k ∷ steps) = size (tree t k) + (size (tree t k) + weights t steps)
weights t (Close ∷ steps) = suc (weights t steps)
