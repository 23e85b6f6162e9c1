-- The terms and the forms of a script of the demonstration: their texts are those of the script, and they can be written.
use Rattle.std.proofs.Common.{◌≡◌, ℕ, zero, suc, ◌+◌, ◌-◌, ◌%◌, List, [], ◌∷◌, ◌++◌, refl, ap, ◌∙◌, append_assoc, append-nil}
use Rattle.std.specs.Prelude.{codes}
use Rattle.smt_lex.specs.Forms.{Form}
use Rattle.smt_lex.specs.FormText.{form_text}
use Rattle.smt_lex.specs.Lexicon.{right_parenthesis, space}
use Rattle.smt_lex.specs.Names.{Name}
use Rattle.smt_terms.specs.declared.op.Op.{Op}
use Rattle.smt_terms.specs.declared.op.Op.TheVariants.{Not, And, Or, Xor, Equal}
use Rattle.smt_terms.specs.Numeral.{numeral}
use Rattle.smt_terms.specs.Sorts.{bool, Symbol}
use Rattle.smt_terms.specs.Term.{op, Term, apply, none, ◌⨾◌, constant}
use Rattle.smt_print.specs.TermForms.{operator_form, tree_form, let_form}
use Rattle.smt_print.proofs.FormTexts.{IsWritten}
use Rattle.smt_print.proofs.Writable.{word_written}
use Rattle.smt_print.proofs.WritableTerms.{HasBits, IsWritable, tree_written}
use Rattle.smtrw_answers.specs.Outputs.{next_state, drawn, pool_name, step_term, step_at, steps_from}
use Rattle.smtrw_answers.proofs.DemoNames.{step_name, IsPlain, step_word, step_plain, pool_plain}

-- ---- what is drawn for step k in a state: its operator and its names; and the state behind it

abbrev pub operator_drawn : ℕ → ℕ
operator_drawn s = drawn s % 5

abbrev pub first_drawn : ℕ → ℕ → ℕ
first_drawn s k = drawn (next_state s) % (8 + k)

abbrev pub second_drawn : ℕ → ℕ → ℕ
second_drawn s k = drawn (next_state (next_state s)) % (8 + k)

abbrev pub state_behind : ℕ → ℕ
state_behind s = next_state (next_state (next_state s))

-- ---- terms and forms

-- the Boolean constant of a name
abbrev pub truth_symbol : Name → Symbol
truth_symbol n = record { name = n; args = []; result = bool }

abbrev pub truth_constant : Name → Term
truth_constant n = constant (truth_symbol n)

abbrev pub term_over : Op → ℕ → ℕ → Term
term_over o i j = apply (op o) (truth_constant (pool_name i) ⨾ truth_constant (pool_name j) ⨾ none)

abbrev pub term_of_step : ℕ → ℕ → ℕ → Term
term_of_step zero i j = term_over And i j
term_of_step (suc zero) i j = term_over Or i j
term_of_step (suc (suc zero)) i j = apply (op Not) (truth_constant (pool_name i) ⨾ none)
term_of_step (suc (suc (suc zero))) i j = term_over Xor i j
term_of_step (suc (suc (suc (suc n)))) i j = term_over Equal i j

abbrev pub term_at : ℕ → ℕ → Term
term_at s k = term_of_step (operator_drawn s) (first_drawn s k) (second_drawn s k)

-- so many steps from step k on, in a state
abbrev pub form_from : ℕ → ℕ → ℕ → Form
form_from zero k s = tree_form (truth_constant (step_name (k - 1)))
form_from (suc n) k s = let_form (step_name k) (tree_form (term_at s k)) (form_from n (suc k) (state_behind s))

-- ---- texts

constant_text : (n : Name) → IsPlain n → form_text (tree_form (truth_constant n)) ≡ n
constant_text n plain = rw plain.simple refl

pair_text : (m n : List ℕ) → (m ++ (space ∷ (n ++ []))) ++ right_parenthesis ∷ [] ≡ m ++ space ∷ [] ++ n ++ right_parenthesis ∷ []
pair_text m n = simp (append_assoc, append-nil)

over_text : (i j : ℕ) → (form_text (tree_form (truth_constant (pool_name i))) ++ (space ∷ (form_text (tree_form (truth_constant (pool_name j))) ++ []))) ++ right_parenthesis ∷ []
    ≡ pool_name i ++ space ∷ [] ++ pool_name j ++ right_parenthesis ∷ []
over_text i j =
    ap (λ m. (m ++ (space ∷ (form_text (tree_form (truth_constant (pool_name j))) ++ []))) ++ right_parenthesis ∷ []) (constant_text (pool_name i) (pool_plain i))
    ∙ ap (λ n. (pool_name i ++ (space ∷ (n ++ []))) ++ right_parenthesis ∷ []) (constant_text (pool_name j) (pool_plain j))
    ∙ pair_text (pool_name i) (pool_name j)

not_text : (i : ℕ) → (form_text (tree_form (truth_constant (pool_name i))) ++ []) ++ right_parenthesis ∷ [] ≡ pool_name i ++ right_parenthesis ∷ []
not_text i = ap (λ m. (m ++ []) ++ right_parenthesis ∷ []) (constant_text (pool_name i) (pool_plain i)) ∙ ap (λ m. m ++ right_parenthesis ∷ []) (append-nil (pool_name i))

step_text : (o i j : ℕ) → form_text (tree_form (term_of_step o i j)) ≡ step_term o i j
unfolding operator_form
step_text zero i j = ap (λ xs. codes "(and " ++ xs) (over_text i j)
step_text (suc zero) i j = ap (λ xs. codes "(or " ++ xs) (over_text i j)
step_text (suc (suc zero)) i j = ap (λ xs. codes "(not " ++ xs) (not_text i)
step_text (suc (suc (suc zero))) i j = ap (λ xs. codes "(xor " ++ xs) (over_text i j)
step_text (suc (suc (suc (suc n)))) i j = ap (λ xs. codes "(= " ++ xs) (over_text i j)

in_front : (b : ℕ) (xs ys : List ℕ) → (b ∷ xs) ++ ys ≡ b ∷ (xs ++ ys)
in_front b xs ys = refl

let_text : (name step body : List ℕ)
    → (((name ++ (space ∷ (step ++ []))) ++ right_parenthesis ∷ [] ++ []) ++ right_parenthesis ∷ [] ++ (space ∷ (body ++ []))) ++ right_parenthesis ∷ []
    ≡ name ++ codes " " ++ step ++ codes ")) " ++ body ++ codes ")"
let_text name step body = simp (append_assoc, append-nil, in_front)

pub steps_text : (n k s : ℕ) → form_text (form_from n k s) ≡ steps_from n k s
steps_text zero k s = constant_text (step_name (k - 1)) (step_plain (k - 1))
steps_text (suc n) k s =
    let body = form_text (form_from n (suc k) (state_behind s)) in
    ap (λ xs. codes "(let ((" ++ xs) (let_text (step_name k) (form_text (tree_form (term_at s k))) body)
    ∙ ap (λ xs. codes "(let ((t" ++ numeral k ++ codes " " ++ xs ++ codes ")) " ++ body ++ codes ")") (step_text (operator_drawn s) (first_drawn s k) (second_drawn s k))
    ∙ ap (λ xs. codes "(let ((t" ++ numeral k ++ codes " " ++ step_at s k ++ codes ")) " ++ xs ++ codes ")") (steps_text n (suc k) (state_behind s))

-- ---- forms that can be written

over_writable : (o : Op) (i j : ℕ) → HasBits o → IsWritable (term_over o i j)
over_writable o i j has = (has, (((pool_plain i).name, tt), (((pool_plain j).name, tt), tt)))

step_writable : (o i j : ℕ) → IsWritable (term_of_step o i j)
step_writable zero i j = over_writable And i j tt
step_writable (suc zero) i j = over_writable Or i j tt
step_writable (suc (suc zero)) i j = (tt, (((pool_plain i).name, tt), tt))
step_writable (suc (suc (suc zero))) i j = over_writable Xor i j tt
step_writable (suc (suc (suc (suc n)))) i j = over_writable Equal i j tt

pub steps_written : (n k s : ℕ) → IsWritten (form_from n k s)
steps_written zero k s = tree_written (truth_constant (step_name (k - 1))) ((step_plain (k - 1)).name, tt)
steps_written (suc n) k s =
    let step = tree_written (term_at s k) (step_writable (operator_drawn s) (first_drawn s k) (second_drawn s k)) in
    (word_written (codes "let") refl, (((word_written (step_name k) (step_word k), (step, tt)), tt), (steps_written n (suc k) (state_behind s), tt)))
