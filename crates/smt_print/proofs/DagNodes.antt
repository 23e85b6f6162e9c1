-- Nodes that have a definition, as terms that have one.
use Rattle.std.proofs.Common.{◌≡◌, ℕ, zero, suc, ◌+◌, ◌<◌, ◌≤◌, Bool, true, false, ◌||◌, List, [], ◌∷◌, ◌++◌, length, get_or, replicate, take, MatchOption, Option, Some, None, refl, ap, sym, ◌∙◌, subst, arith, append_assoc, append-nil}
use Rattle.std.specs.Prelude.{◌==◌, if◌then◌else◌, codes}
use Rattle.std.proofs.lemmas.Bool.{eqb-true, eq-eqb}
use Rattle.std.proofs.lemmas.List.{length-map, get_or-map, map-append, take_more, take_all, replicate-append-replicate}
use Rattle.std.proofs.lemmas.List.Elements.{All-head, All-tail}
use Rattle.smt_lex.specs.Lexicon.{left_parenthesis, right_parenthesis, space}
use Rattle.smt_lex.specs.Forms.{forms_of_list}
use Rattle.smt_lex.specs.FormText.{form_text, further_text}
use Rattle.smt_terms.specs.declared.ids.NodeId.{NodeId}
use Rattle.smt_terms.specs.Equal.{term_eq}
use Rattle.smt_terms.specs.Term.{Term, apply, quantified, Terms, none, ◌⨾◌, list}
use Rattle.smt_terms.proofs.Equal.{Decides-term_eq}
use Rattle.smt_terms.proofs.Tests.{alike_from}
use Rattle.term_table.specs.Formulas.{Formulas, tree, trees_at, operands, IsNode, AreNodes, IsTable}
use Rattle.smt_print.specs.DagSteps.{definition_of, definitions_at, IsKnown, AreKnown, let_opening, let_text, spaced_references}
use Rattle.smt_print.specs.Defined.{has_node, number_of}
use Rattle.smt_print.specs.NodeForms.{first_form, opening}
use Rattle.term_walk.specs.Binders.{is_quantified}
use Rattle.smt_print.specs.TermForms.{Definition, definition_name, is_defined, defined_name, reference, references, head_form}

pub length-definitions : (t : Formulas) (ks : List NodeId) → length (definitions_at t ks) ≡ length ks
length-definitions t [] = refl
length-definitions t (k ∷ ks) = ap suc (length-definitions t ks)

pub definition-term : (u : Term) (ds : List Definition) → (definition_of u ds).term ≡ u
definition-term (apply h ts) ds = refl
definition-term (quantified q xs t) ds = refl

module _ (t : Formulas) (table : IsTable t) where
  -- equal numbers exactly where equal terms
  same : (j k : NodeId) (ds : List Definition) → IsNode t j → IsNode t k → term_eq (definition_of (tree t j) ds).term (tree t k) ≡ (k.0 == j.0)
  same j k ds one other =
      ap (λ u. term_eq u (tree t k)) (definition-term (tree t j) ds)
      ∙ alike_from (term_eq (tree t j) (tree t k)) (k.0 == j.0)
      (λ e. eq-eqb k.0 j.0 (sym (table.one_tree j.0 k.0 one other ((Decides-term_eq (tree t j) (tree t k)).0 e))))
      (λ e. (Decides-term_eq (tree t j) (tree t k)).1 (ap (λ n. tree t (record { 0 = n })) (sym (eqb-true k.0 j.0 e))))

  pub node-defined : (ks : List NodeId) (k : NodeId) → AreNodes t ks → IsNode t k → is_defined (definitions_at t ks) (tree t k) ≡ has_node ks k
  node-defined [] k nodes node = refl
  node-defined (j ∷ ks) k nodes node =
      let first = same j k (definitions_at t ks) (All-head (λ (j : NodeId). IsNode t j) j ks nodes) node in
      let others = node-defined ks k (All-tail (λ (j : NodeId). IsNode t j) j ks nodes) node in
      λ i. first i || others i

  pub node-name : (ks : List NodeId) (k : NodeId) → AreNodes t ks → IsNode t k → has_node ks k ≡ true → defined_name (definitions_at t ks) (tree t k) ≡ definition_name (number_of ks k)
  node-name [] k nodes node has = absurd cc
  node-name (j ∷ ks) k nodes node has =
      let first = same j k (definitions_at t ks) (All-head (λ (j : NodeId). IsNode t j) j ks nodes) node in
      ap (λ b. if b then definition_name (length (definitions_at t ks)) else defined_name (definitions_at t ks) (tree t k)) first
      ∙ by (k.0 == j.0) refl (λ below. node-name ks k (All-tail (λ (j : NodeId). IsNode t j) j ks nodes) node below)
    where
      by : (b : Bool) → (k.0 == j.0) ≡ b → (has_node ks k ≡ true → defined_name (definitions_at t ks) (tree t k) ≡ definition_name (number_of ks k))
          → (if b then definition_name (length (definitions_at t ks)) else defined_name (definitions_at t ks) (tree t k)) ≡ definition_name (if b then length ks else number_of ks k)
      by true e rest = ap definition_name (length-definitions t ks)
      by false e rest = rest (ap (λ b. b || has_node ks k) (sym e) ∙ has)

-- ---- references

pub known-defined : (ds : List Definition) (u : Term) → 0 < length (operands u) → IsKnown ds u → is_defined ds u ≡ true
known-defined ds (apply h none) some known = absurd (omega arith)
known-defined ds (apply h (t ⨾ ts)) some known = known
known-defined ds (quantified q xs t) some known = known

pub leaf-known : (ds : List Definition) (u : Term) → operands u ≡ [] → IsKnown ds u
leaf-known ds (apply h none) e = tt
leaf-known ds (apply h (t ⨾ ts)) e = absurd cc
leaf-known ds (quantified q [] t) e = absurd cc
leaf-known ds (quantified q (x ∷ xs) t) e = absurd cc

pub defined-is-known : (ds : List Definition) (u : Term) → is_defined ds u ≡ true → IsKnown ds u
defined-is-known ds (apply h none) e = tt
defined-is-known ds (apply h (t ⨾ ts)) e = e
defined-is-known ds (quantified q xs t) e = e

pub leaf-reference : (ds : List Definition) (u : Term) → operands u ≡ [] → first_form u ≡ reference ds u
leaf-reference ds (apply h none) e = refl
leaf-reference ds (apply h (t ⨾ ts)) e = absurd cc
leaf-reference ds (quantified q [] t) e = absurd cc
leaf-reference ds (quantified q (x ∷ xs) t) e = absurd cc

named-reference : (ds : List Definition) (u : Term) → 0 < length (operands u) → form_text (reference ds u) ≡ defined_name ds u
named-reference ds (apply h none) some = absurd (omega arith)
named-reference ds (apply h (t ⨾ ts)) some = refl
named-reference ds (quantified q xs t) some = refl

pub reference-text : (t : Formulas) (ks : List NodeId) (k : NodeId) → IsTable t → AreNodes t ks → IsNode t k → 0 < length (operands (tree t k)) → has_node ks k ≡ true
    → definition_name (number_of ks k) ≡ form_text (reference (definitions_at t ks) (tree t k))
reference-text t ks k table nodes node some has =
    sym (named-reference (definitions_at t ks) (tree t k) some ∙ node-name t table ks k nodes node has)

pub known-has : (t : Formulas) (ks : List NodeId) (k : NodeId) → IsTable t → AreNodes t ks → IsNode t k → 0 < length (operands (tree t k)) → IsKnown (definitions_at t ks) (tree t k) → has_node ks k ≡ true
known-has t ks k table nodes node some known = sym (node-defined t table ks k nodes node) ∙ known-defined (definitions_at t ks) (tree t k) some known

pub number-is : (r : Option ℕ) (ks : List NodeId) (k : NodeId) → MatchOption r (has_node ks k ≡ false) (λ n. (has_node ks k ≡ true) × (n ≡ number_of ks k)) → has_node ks k ≡ true → r ≡ Some (number_of ks k)
number-is None ks k h has = absurd cc
number-is (Some n) ks k h has = ap Some h.1

-- ---- the text of a definition

further-references : (ds : List Definition) (ts : Terms) → further_text (forms_of_list (references ds ts)) ≡ spaced_references ds (list ts)
further-references ds none = refl
further-references ds (t ⨾ ts) = ap (λ xs. space ∷ (form_text (reference ds t) ++ xs)) (further-references ds ts)

definition-text : (u : Term) (ds : List Definition) → is_quantified u ≡ false → 0 < length (operands u) → form_text (definition_of u ds).form ≡ opening u ++ (spaced_references ds (operands u) ++ right_parenthesis ∷ [])
definition-text (apply h none) ds applied some = absurd (omega arith)
definition-text (apply h (t ⨾ ts)) ds applied some =
    ap (λ xs. left_parenthesis ∷ ((form_text (head_form h) ++ xs) ++ right_parenthesis ∷ [])) (further-references ds (t ⨾ ts))
    ∙ ap (λ xs. left_parenthesis ∷ xs) (append_assoc (form_text (head_form h)) (spaced_references ds (t ∷ list ts)) (right_parenthesis ∷ []))
definition-text (quantified q xs t) ds applied some = absurd cc

-- an application's `let`, behind its last operand
pub let-ended : (old now new : List ℕ) (n : ℕ) (u : Term) (ds : List Definition) → is_quantified u ≡ false → 0 < length (operands u)
    → now ≡ old ++ ((let_opening n ++ opening u) ++ spaced_references ds (operands u)) → new ≡ now ++ codes "))) " → new ≡ old ++ let_text n (definition_of u ds).form
let-ended old now new n u ds applied some before after =
    after ∙ ap (λ xs. xs ++ codes "))) ") before ∙ pieces old (let_opening n) (opening u) (spaced_references ds (operands u))
    ∙ ap (λ xs. old ++ (let_opening n ++ (xs ++ codes ")) "))) (sym (definition-text u ds applied some))
  where
    pieces : (old first second others : List ℕ) → (old ++ ((first ++ second) ++ others)) ++ codes "))) " ≡ old ++ (first ++ ((second ++ (others ++ right_parenthesis ∷ [])) ++ codes ")) "))
    pieces old first second others = simp append_assoc

pub known-at : (ds : List Definition) (ts : List Term) (i : ℕ) (d : Term) → AreKnown ds ts → i < length ts → IsKnown ds (get_or ts i d)
known-at ds [] i d known lt = absurd (omega arith)
known-at ds (t ∷ ts) zero d known lt = known.0
known-at ds (t ∷ ts) (suc i) d known lt = known-at ds ts i d known.1 (omega arith)

-- the operand at a place
pub kid-known : (t : Formulas) (u : Term) (ks : List NodeId) (ds : List Definition) (i : ℕ) (d : NodeId) → trees_at t ks ≡ operands u → AreKnown ds (operands u) → i < length ks → IsKnown ds (tree t (get_or ks i d))
kid-known t u ks ds i d kids known lt =
    let long : length ks ≡ length (operands u) = sym (length-map ks (tree t)) ∙ ap length kids in
    let at : get_or (operands u) i (tree t d) ≡ tree t (get_or ks i d) = ap (λ ts. get_or ts i (tree t d)) (sym kids) ∙ get_or-map (tree t) ks i d (tree t d) lt in
    subst (IsKnown ds) at (known-at ds (operands u) i (tree t d) known (omega arith))

spaced-push : (ds : List Definition) (ts : List Term) (u : Term) → spaced_references ds (ts ++ u ∷ []) ≡ spaced_references ds ts ++ (space ∷ form_text (reference ds u))
spaced-push ds [] u = ap (λ xs. space ∷ xs) (append-nil (form_text (reference ds u)))
spaced-push ds (t ∷ ts) u =
    ap (λ xs. space ∷ (form_text (reference ds t) ++ xs)) (spaced-push ds ts u)
    ∙ ap (λ xs. space ∷ xs) (sym (append_assoc (form_text (reference ds t)) (spaced_references ds ts) (space ∷ form_text (reference ds u))))

-- one operand more
pub reference-more : (t : Formulas) (ks : List NodeId) (ds : List Definition) (old now between new front : List ℕ) (i : ℕ) (d : NodeId) → i < length ks
    → now ≡ old ++ (front ++ spaced_references ds (trees_at t (take i ks))) → between ≡ now ++ space ∷ [] → new ≡ between ++ form_text (reference ds (tree t (get_or ks i d)))
    → new ≡ old ++ (front ++ spaced_references ds (trees_at t (take (i + 1) ks)))
reference-more t ks ds old now between new front i d lt before middle after =
    let more : spaced_references ds (trees_at t (take (i + 1) ks)) ≡ spaced_references ds (trees_at t (take i ks)) ++ (space ∷ form_text (reference ds (tree t (get_or ks i d)))) =
    ap (λ js. spaced_references ds (trees_at t js)) (take_more ks i d lt) ∙ ap (spaced_references ds) (map-append (tree t) (take i ks) (get_or ks i d ∷ []))
    ∙ spaced-push ds (trees_at t (take i ks)) (tree t (get_or ks i d))
    in
    after ∙ ap (λ xs. xs ++ form_text (reference ds (tree t (get_or ks i d)))) (middle ∙ ap (λ xs. xs ++ space ∷ []) before)
    ∙ pieces old front (spaced_references ds (trees_at t (take i ks))) (form_text (reference ds (tree t (get_or ks i d))))
    ∙ ap (λ xs. old ++ (front ++ xs)) (sym more)
  where
    pieces : (old front others last : List ℕ) → ((old ++ (front ++ others)) ++ space ∷ []) ++ last ≡ old ++ (front ++ (others ++ (space ∷ last)))
    pieces old front others last = simp append_assoc

-- all operands
pub references-all : (t : Formulas) (u : Term) (ks : List NodeId) (ds : List Definition) (now old front : List ℕ) (i : ℕ) → trees_at t ks ≡ operands u → length ks ≤ i
    → now ≡ old ++ (front ++ spaced_references ds (trees_at t (take i ks))) → now ≡ old ++ (front ++ spaced_references ds (operands u))
references-all t u ks ds now old front i kids past is = is ∙ ap (λ ts. old ++ (front ++ spaced_references ds ts)) (ap (trees_at t) (take_all i ks past) ∙ kids)

-- ---- ends

-- one parenthesis more
pub end-more : (old now new : List ℕ) (k : ℕ) → now ≡ old ++ replicate k right_parenthesis → new ≡ now ++ right_parenthesis ∷ [] → new ≡ old ++ replicate (k + 1) right_parenthesis
end-more old now new k before after =
    after ∙ ap (λ xs. xs ++ right_parenthesis ∷ []) before ∙ append_assoc old (replicate k right_parenthesis) (right_parenthesis ∷ [])
    ∙ ap (λ xs. old ++ xs) (replicate-append-replicate k 1 right_parenthesis)
