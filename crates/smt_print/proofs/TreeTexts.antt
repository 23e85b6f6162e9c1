-- The text of a term in layout tree, part by part, and the steps that print it.
use Rattle.std.proofs.Common.{◌≡◌, ℕ, suc, ◌+◌, ◌<◌, Bool, true, false, ◌==◌, List, [], ◌∷◌, ◌++◌, map, length, refl, ap, sym, ◌∙◌, subst, arith, append_assoc, append-nil, All}
use Rattle.std.proofs.lemmas.Bool.{eqb-true}
use Rattle.std.proofs.lemmas.Bool.Decides.{nat_tests}
use Rattle.std.proofs.lemmas.List.{length-map}
use Rattle.std.proofs.lemmas.List.Elements.{All-head, All-tail, All-cons, All-nil}
use Rattle.smt_lex.specs.Lexicon.{left_parenthesis, right_parenthesis, space}
use Rattle.smt_lex.specs.Forms.{forms_of_list}
use Rattle.smt_lex.specs.FormText.{form_text, further_text}
use Rattle.smt_terms.specs.declared.ids.NodeId.{NodeId}
use Rattle.smt_terms.specs.Term.{Term, apply, quantified, Terms, none, ◌⨾◌, list, terms}
use Rattle.term_table.specs.Formulas.{Formulas, tree, trees_at, operands, IsNode, AreNodes}
use Rattle.term_table.specs.WrittenForms.{variable_form, list_form}
use Rattle.smt_print.specs.declared.tree.Step.{Step}
use Rattle.smt_print.specs.declared.tree.Step.TheVariants.{Operand, Close}
use Rattle.smt_print.specs.NodeForms.{first_form, parts, opening, Binds}
use Rattle.term_walk.specs.Binders.{is_quantified}
use Rattle.smt_print.specs.Sizes.{size, sizes}
use Rattle.smt_print.specs.TermForms.{tree_form, tree_forms, head_form, quantifier_word}
use Rattle.smt_print.specs.TreeSteps.{operand_steps, Leads, weights}

-- ---- the text of a term that has operands

-- terms with a space in front of each
abbrev pub spaced_trees : List Term → List ℕ
spaced_trees [] = []
spaced_trees (t ∷ ts) = space ∷ (form_text (tree_form t) ++ spaced_trees ts)

further-trees : (ts : Terms) → further_text (forms_of_list (tree_forms ts)) ≡ spaced_trees (list ts)
further-trees none = refl
further-trees (t ⨾ ts) = ap (λ xs. space ∷ (form_text (tree_form t) ++ xs)) (further-trees ts)

application_text : (head first others : List ℕ)
    → left_parenthesis ∷ ((head ++ (space ∷ (first ++ others))) ++ right_parenthesis ∷ []) ≡ (left_parenthesis ∷ head) ++ ((space ∷ (first ++ others)) ++ right_parenthesis ∷ [])
application_text head first others = ap (λ xs. left_parenthesis ∷ xs) (append_assoc head (space ∷ (first ++ others)) (right_parenthesis ∷ []))

quantified_text : (word names body : List ℕ)
    → left_parenthesis ∷ ((word ++ (space ∷ (names ++ (space ∷ (body ++ []))))) ++ right_parenthesis ∷ [])
    ≡ (left_parenthesis ∷ (word ++ (space ∷ names))) ++ ((space ∷ (body ++ [])) ++ right_parenthesis ∷ [])
quantified_text word names body = simp append_assoc

pub tree-opened : (t : Term) → 0 < length (operands t) → form_text (tree_form t) ≡ opening t ++ (spaced_trees (parts t) ++ right_parenthesis ∷ [])
tree-opened (apply h none) some = absurd (omega arith)
tree-opened (apply h (t ⨾ ts)) some =
    ap (λ xs. left_parenthesis ∷ ((form_text (head_form h) ++ (space ∷ (form_text (tree_form t) ++ xs))) ++ right_parenthesis ∷ [])) (further-trees ts)
    ∙ application_text (form_text (head_form h)) (form_text (tree_form t)) (spaced_trees (list ts))
tree-opened (quantified q xs t) some = quantified_text (form_text (quantifier_word q)) (form_text (list_form (map variable_form xs))) (form_text (tree_form t))

-- ---- the steps

module _ (t : Formulas) where
  pub leads-operands : (ks : List NodeId) (steps : List Step) (done whole : List ℕ) → AreNodes t ks
      → Leads t steps (done ++ spaced_trees (trees_at t ks)) whole → Leads t (operand_steps ks ++ steps) done whole
  leads-operands [] steps done whole nodes leads = subst (λ (xs : List ℕ). Leads t steps xs whole) (append-nil done) leads
  leads-operands (k ∷ ks) steps done whole nodes leads = (
    All-head (λ (j : NodeId). IsNode t j) k ks nodes,
    leads-operands ks steps (done ++ (space ∷ form_text (tree_form (tree t k)))) whole (All-tail (λ (j : NodeId). IsNode t j) k ks nodes)
        (subst (λ (xs : List ℕ). Leads t steps xs whole) (sym (append_assoc done (space ∷ form_text (tree_form (tree t k))) (spaced_trees (trees_at t ks)))) leads),
  )

  -- what was printed is a part of the whole
  pub leads-whole : (steps : List Step) (done whole : List ℕ) → Leads t steps done whole → (rest : List ℕ) × (done ++ rest ≡ whole)
  leads-whole [] done whole leads = ([], append-nil done ∙ leads)
  leads-whole (Operand k ∷ steps) done whole leads =
      let more = leads-whole steps (done ++ (space ∷ form_text (tree_form (tree t k)))) whole leads.1 in
      ((space ∷ form_text (tree_form (tree t k))) ++ more.0, sym (append_assoc done (space ∷ form_text (tree_form (tree t k))) more.0) ∙ more.1)
  leads-whole (Close ∷ steps) done whole leads =
      let more = leads-whole steps (done ++ right_parenthesis ∷ []) whole leads in
      (right_parenthesis ∷ more.0, sym (append_assoc done (right_parenthesis ∷ []) more.0) ∙ more.1)

  -- ---- the turns that are left

  pub weights-operands : (ks : List NodeId) (steps : List Step) → weights t (operand_steps ks ++ steps) ≡ sizes (terms (trees_at t ks)) + (sizes (terms (trees_at t ks)) + weights t steps)
  weights-operands [] steps = omega arith
  weights-operands (k ∷ ks) steps = let rest = weights-operands ks steps in omega (arith, rest)

-- ---- a term is begun

leaf-text : (u : Term) → operands u ≡ [] → form_text (tree_form u) ≡ form_text (first_form u)
leaf-text (apply h none) e = refl
leaf-text (apply h (t ⨾ ts)) e = absurd cc
leaf-text (quantified q [] t) e = absurd cc
leaf-text (quantified q (x ∷ xs) t) e = absurd cc

pub parts-applied : (u : Term) → is_quantified u ≡ false → parts u ≡ operands u
parts-applied (apply h ts) e = refl
parts-applied (quantified q xs t) e = absurd cc

pub leads-leaf : (t : Formulas) (u : Term) (steps : List Step) (before after done whole : List ℕ) → operands u ≡ [] → after ≡ before ++ form_text (first_form u)
    → Leads t steps (done ++ (before ++ form_text (tree_form u))) whole → Leads t steps (done ++ after) whole
leads-leaf t u steps before after done whole leaf is leads =
    subst (λ (xs : List ℕ). Leads t steps xs whole) (ap (λ xs. done ++ (before ++ xs)) (leaf-text u leaf) ∙ ap (λ xs. done ++ xs) (sym is)) leads

pub leads-opened : (t : Formulas) (u : Term) (ks : List NodeId) (steps new : List Step) (before after done whole : List ℕ) → 0 < length (operands u) → after ≡ before ++ opening u
    → trees_at t ks ≡ parts u → AreNodes t ks → new ≡ operand_steps ks ++ (Close ∷ steps)
    → Leads t steps (done ++ (before ++ form_text (tree_form u))) whole → Leads t new (done ++ after) whole
leads-opened t u ks steps new before after done whole some is kids nodes pushed leads =
    let shown : done ++ (before ++ form_text (tree_form u)) ≡ ((done ++ after) ++ spaced_trees (trees_at t ks)) ++ right_parenthesis ∷ [] =
    ap (λ xs. done ++ (before ++ xs)) (tree-opened u some) ∙ pieces done before (opening u) (spaced_trees (parts u))
    ∙ (λ i. ((done ++ sym is i) ++ spaced_trees (sym kids i)) ++ right_parenthesis ∷ [])
    in
    subst (λ (s : List Step). Leads t s (done ++ after) whole) (sym pushed) (leads-operands t ks (Close ∷ steps) (done ++ after) whole nodes (subst (λ (xs : List ℕ). Leads t steps xs whole) shown leads))
  where
    pieces : (done before first others : List ℕ) → done ++ (before ++ (first ++ (others ++ right_parenthesis ∷ []))) ≡ ((done ++ (before ++ first)) ++ others) ++ right_parenthesis ∷ []
    pieces done before first others = simp append_assoc

pub terms-list : (ts : Terms) → terms (list ts) ≡ ts
terms-list none = refl
terms-list (t ⨾ ts) = ap (λ us. t ⨾ us) (terms-list ts)

pub sizes-operands : (u : Term) → is_quantified u ≡ false → size u ≡ suc (sizes (terms (operands u)))
sizes-operands (apply h ts) e = ap (λ us. suc (sizes us)) (sym (terms-list ts))
sizes-operands (quantified q xs t) e = absurd cc

pub nearer-opened : (t : Formulas) (u : Term) (ks : List NodeId) (steps new : List Step) → is_quantified u ≡ false → trees_at t ks ≡ operands u → new ≡ operand_steps ks ++ (Close ∷ steps)
    → weights t new < size u + (size u + weights t steps)
nearer-opened t u ks steps new applied kids pushed =
    let inside = sizes-operands u applied in
    let all = ap (weights t) pushed ∙ weights-operands t ks (Close ∷ steps) in
    let same : sizes (terms (trees_at t ks)) ≡ sizes (terms (operands u)) = ap (λ ts. sizes (terms ts)) kids in
    omega (arith, inside, all, same)

-- the operands of a node are nodes
pub kids-nodes : (t : Formulas) (k : NodeId) (ks : List NodeId) → IsNode t k → All (λ (j : NodeId). j.0 < k.0) ks → AreNodes t ks
kids-nodes t k ks node below i d lt = let less = below i d lt in omega arith

-- a quantified node has one part
pub body-parts : (t : Formulas) (u : Term) (vs : List NodeId) (b : NodeId) → Binds t u vs b → trees_at t (b ∷ []) ≡ parts u
body-parts t u vs b bound = sym (ap parts bound.term)

pub body-node : (t : Formulas) (u : Term) (vs : List NodeId) (b : NodeId) → Binds t u vs b → AreNodes t (b ∷ [])
body-node t u vs b bound = All-cons (λ (j : NodeId). IsNode t j) b [] bound.body (All-nil (λ (j : NodeId). IsNode t j))

-- whether a node has operands
pub none-below : (t : Formulas) (u : Term) (ks : List NodeId) (b : Bool) → b ≡ (length ks == 0) → b ≡ true → trees_at t ks ≡ operands u → operands u ≡ []
none-below t u ks b is true_here kids = empty (operands u) (ap length (sym kids) ∙ length-map ks (tree t) ∙ eqb-true (length ks) 0 (sym is ∙ true_here))
  where
    empty : (us : List Term) → length us ≡ 0 → us ≡ []
    empty [] e = refl
    empty (t ∷ us) e = absurd (omega arith)

pub some-below : (t : Formulas) (u : Term) (ks : List NodeId) (b : Bool) → b ≡ (length ks == 0) → b ≡ false → trees_at t ks ≡ operands u → 0 < length (operands u)
some-below t u ks b is false_here kids =
    let long : length (operands u) ≡ length ks = ap length (sym kids) ∙ length-map ks (tree t) in
    let some : 0 < length ks = not_none (length ks) (sym is ∙ false_here) in
    omega arith
  where
    not_none : (n : ℕ) → (n == 0) ≡ false → 0 < n
    not_none n e = grind (arith, nat_tests)

-- ---- the turns of the loop

-- the next step
pub next-step : (t : Formulas) (steps others : List Step) (step : Step) (done whole : List ℕ) → steps ≡ step ∷ others → Leads t steps done whole → Leads t (step ∷ others) done whole
next-step t steps others step done whole split leads = subst (λ (s : List Step). Leads t s done whole) split leads

-- the root's beginning leads to its text
pub root-begun : (t : Formulas) (u : Term) (steps : List Step) (text : List ℕ) → steps ≡ [] → Leads t steps ([] ++ (text ++ form_text (tree_form u))) (text ++ form_text (tree_form u))
root-begun t u steps text first = subst (λ (s : List Step). Leads t s ([] ++ (text ++ form_text (tree_form u))) (text ++ form_text (tree_form u))) (sym first) refl

-- nothing is left
pub leads-ended : (t : Formulas) (steps : List Step) (done whole : List ℕ) → steps ≡ [] → Leads t steps done whole → done ≡ whole
leads-ended t steps done whole last leads = subst (λ (s : List Step). Leads t s done whole) last leads
