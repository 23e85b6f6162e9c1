-- The turns of a term's printing in layout dag.
use Rattle.std.proofs.Common.{◌≡◌, ℕ, ◌+◌, ◌<◌, Bool, true, false, inl, inr, List, [], ◌∷◌, ◌++◌, map, length, MatchOption, Option, Some, None, All, refl, ap, sym, ◌∙◌, subst, arith, append_assoc, append-nil}
use Rattle.std.specs.Prelude.{codes, is_some}
use Rattle.std.proofs.lemmas.List.Elements.{All-head, All-tail, All-cons, All-nil}
use Rattle.smt_lex.specs.Lexicon.{right_parenthesis, space}
use Rattle.smt_lex.specs.FormText.{form_text}
use Rattle.smt_terms.specs.declared.ids.NodeId.{NodeId}
use Rattle.smt_terms.specs.Equal.{term_eq}
use Rattle.smt_terms.specs.Term.{Head, Term, apply, quantified, Terms, none, ◌⨾◌, list, terms}
use Rattle.smt_terms.proofs.Equal.{Decides-term_eq}
use Rattle.smt_terms.proofs.Tests.{either_true, right_true}
use Rattle.term_table.specs.Formulas.{Formulas, tree, trees_at, operands, IsNode, AreNodes, IsTable}
use Rattle.smt_print.specs.declared.dag.Step.{Step}
use Rattle.smt_print.specs.declared.dag.Step.TheVariants.{Visit, Define, Close}
use Rattle.smt_print.specs.DagSteps.{definition_of, definitions_at, IsKnown, AreKnown, IsScope, AreScopes, let_opening, let_text, lets, lets_in, end_text, visits, quantified_body, IsDefinable, IsClosable, Leads, LeadsFrom, weights}
use Rattle.smt_print.specs.Defined.{Nodes, has_node}
use Rattle.smt_print.specs.NodeForms.{Binds, opening}
use Rattle.term_walk.specs.Binders.{is_quantified}
use Rattle.smt_print.specs.Sizes.{sizes}
use Rattle.smt_print.specs.TermForms.{Definition, is_defined, definitions, definitions_in, dag_form}
use Rattle.smt_print.proofs.TreeTexts.{sizes-operands}
use Rattle.smt_print.proofs.DagNodes.{length-definitions, definition-term, node-defined, leaf-known, defined-is-known}
use Rattle.smt_print.proofs.DagTexts.{IsClosed, known-adds-nothing, defined-known, opened-application, opened-quantified, dag-text}

-- ---- scopes

still_known : (d : Definition) (ds : List Definition) (u : Term) → IsKnown ds u → IsKnown (d ∷ ds) u
still_known d ds (apply h none) known = tt
still_known d ds (apply h (t ⨾ ts)) known = right_true (term_eq d.term (apply h (t ⨾ ts))) (is_defined ds (apply h (t ⨾ ts))) known
still_known d ds (quantified q xs t) known = right_true (term_eq d.term (quantified q xs t)) (is_defined ds (quantified q xs t)) known

all_still_known : (d : Definition) (ds : List Definition) (us : List Term) → AreKnown ds us → AreKnown (d ∷ ds) us
all_still_known d ds [] known = tt
all_still_known d ds (u ∷ us) known = (still_known d ds u known.0, all_still_known d ds us known.1)

applied-known : (u : Term) (ds : List Definition) → AreKnown ds (operands u) → (h : Head) (ts : Terms) → u ≡ apply h ts → AreKnown ds (list ts)
applied-known u ds known h ts e = subst (AreKnown ds) (ap operands e) known

bound-known : (u : Term) (ds : List Definition) → is_quantified u ≡ true → (h : Head) (ts : Terms) → u ≡ apply h ts → AreKnown ds (list ts)
bound-known u ds bound h ts e = absurd (not_both u (apply h ts) e bound refl)
  where
    not_both : (u v : Term) → u ≡ v → is_quantified u ≡ true → is_quantified v ≡ false → ⊥
    not_both u v e one other = absurd (let same : is_quantified u ≡ is_quantified v = ap is_quantified e in cc)

-- one definition more, over known operands
pub scope-more : (t : Formulas) (ks : List NodeId) (k : NodeId) → IsScope t ks → IsNode t k → ((h : Head) (ts : Terms) → tree t k ≡ apply h ts → AreKnown (definitions_at t ks) (list ts)) → IsScope t (k ∷ ks)
scope-more t ks k scope node over = record {
  nodes = All-cons (λ (j : NodeId). IsNode t j) k ks node scope.nodes;
  closed = λ h ts e. all_still_known (definition_of (tree t k) (definitions_at t ks)) (definitions_at t ks) (list ts)
      (elim (either_true (term_eq (definition_of (tree t k) (definitions_at t ks)).term (apply h ts)) (is_defined (definitions_at t ks) (apply h ts)) e) [
        | inl same ↦ over h ts (sym (definition-term (tree t k) (definitions_at t ks)) ∙ (Decides-term_eq (definition_of (tree t k) (definitions_at t ks)).term (apply h ts)).0 same)
        | inr old ↦ scope.closed h ts old
      ]);
}

pub no-scope : (t : Formulas) → IsScope t []
no-scope t = record { nodes = All-nil (λ (j : NodeId). IsNode t j); closed = λ h ts e. absurd (let no : false ≡ true = e in cc) }

-- ---- a visit

module _ (t : Formulas) (root : NodeId) where
  leads-visits : (ks : List NodeId) (ds : List Definition) (dss : List (List Definition)) (steps : List Step) (done whole : List ℕ) → AreNodes t ks
      → Leads t root (definitions_in (terms (trees_at t ks)) ds) dss steps (done ++ lets_in (terms (trees_at t ks)) ds) whole → Leads t root ds dss (visits ks ++ steps) done whole
  leads-visits [] ds dss steps done whole nodes leads = subst (λ (xs : List ℕ). Leads t root ds dss steps xs whole) (append-nil done) leads
  leads-visits (k ∷ ks) ds dss steps done whole nodes leads = (
    All-head (λ (j : NodeId). IsNode t j) k ks nodes,
    leads-visits ks (definitions (tree t k) ds) dss steps (done ++ lets (tree t k) ds) whole (All-tail (λ (j : NodeId). IsNode t j) k ks nodes)
        (subst (λ (xs : List ℕ). Leads t root (definitions_in (terms (trees_at t ks)) (definitions (tree t k) ds)) dss steps xs whole)
        (sym (append_assoc done (lets (tree t k) ds) (lets_in (terms (trees_at t ks)) (definitions (tree t k) ds)))) leads),
  )

  -- what is known needs no definition
  pub visit-known : (ds : List Definition) (dss : List (List Definition)) (k : NodeId) (steps : List Step) (done whole : List ℕ) → IsClosed ds → IsKnown ds (tree t k)
      → Leads t root ds dss (Visit k ∷ steps) done whole → Leads t root ds dss steps done whole
  visit-known ds dss k steps done whole closed known leads =
      let nothing = known-adds-nothing (tree t k) ds closed known in
      subst (λ (xs : List ℕ). Leads t root ds dss steps xs whole) (append-nil done)
      (subst (λ (xs : List ℕ). Leads t root ds dss steps (done ++ xs) whole) nothing.text
      (subst (λ (es : List Definition). Leads t root es dss steps (done ++ lets (tree t k) ds) whole) nothing.definitions leads.1))

  -- the operands of an application come first
  pub visit-application : (ds : List Definition) (dss : List (List Definition)) (k : NodeId) (ks : List NodeId) (steps : List Step) (done whole : List ℕ)
      → is_quantified (tree t k) ≡ false → 0 < length (operands (tree t k)) → is_defined ds (tree t k) ≡ false → trees_at t ks ≡ operands (tree t k) → AreNodes t ks
      → Leads t root ds dss (Visit k ∷ steps) done whole → Leads t root ds dss (visits ks ++ (Define k ∷ steps)) done whole
  visit-application ds dss k ks steps done whole applied some new kids nodes (node, leads) =
      let us = terms (operands (tree t k)) in
      let found = opened-application (tree t k) ds applied some new in
      let d = definition_of (tree t k) (definitions_in us ds) in
      let behind : Leads t root (d ∷ definitions_in us ds) dss steps ((done ++ lets_in us ds) ++ let_text (length (definitions_in us ds)) d.form) whole =
      subst (λ (xs : List ℕ). Leads t root (d ∷ definitions_in us ds) dss steps xs whole) (ap (λ xs. done ++ xs) found.text ∙ sym (append_assoc done (lets_in us ds) (let_text (length (definitions_in us ds)) d.form)))
      (subst (λ (es : List Definition). Leads t root es dss steps (done ++ lets (tree t k) ds) whole) found.defined leads)
      in
      leads-visits ks ds dss (Define k ∷ steps) done whole nodes
      (subst (λ (vs : Terms). Leads t root (definitions_in vs ds) dss (Define k ∷ steps) (done ++ lets_in vs ds) whole) (ap terms (sym kids))
      (record { node = node; applied = applied; some = some; new = found.new; known = found.known }, behind))

  -- a quantified term is begun, and its body comes next
  pub visit-quantified : (ds : List Definition) (dss : List (List Definition)) (k b : NodeId) (vs : List NodeId) (steps : List Step) (done whole : List ℕ)
      → Binds t (tree t k) vs b → is_defined ds (tree t k) ≡ false → Leads t root ds dss (Visit k ∷ steps) done whole
      → Leads t root [] (ds ∷ dss) (Visit b ∷ (Close k ∷ steps)) (done ++ (let_opening (length ds) ++ (opening (tree t k) ++ space ∷ []))) whole
  visit-quantified ds dss k b vs steps done whole bound new (node, leads) =
      let u = tree t k in
      let found = opened-quantified u (tree t b) bound.quantifier bound.variables ds bound.term new in
      let inner : quantified_body u ≡ tree t b = ap quantified_body bound.term in
      let front = done ++ (let_opening (length ds) ++ (opening u ++ space ∷ [])) in
      let behind : Leads t root (definition_of u ds ∷ ds) dss steps ((front ++ lets (tree t b) []) ++ (end_text (definitions (tree t b) []) (quantified_body u) ++ codes "))) ")) whole =
      subst (λ (xs : List ℕ). Leads t root (definition_of u ds ∷ ds) dss steps xs whole)
      (ap (λ xs. done ++ xs) found.text ∙ pieces done (let_opening (length ds)) (opening u) (lets (tree t b) []) (end_text (definitions (tree t b) []) (tree t b))
      ∙ ap (λ v. (front ++ lets (tree t b) []) ++ (end_text (definitions (tree t b) []) v ++ codes "))) ")) (sym inner))
      (subst (λ (es : List Definition). Leads t root es dss steps (done ++ lets u ds) whole) found.defined leads)
      in (
        bound.body,
        (record { node = node; bound = ap is_quantified bound.term; new = new; known = subst (IsKnown (definitions (tree t b) [])) (sym inner) (defined-known (tree t b) []) }, behind),
      )
    where
      pieces : (done first second inner ends : List ℕ) → done ++ (first ++ ((second ++ (space ∷ ((inner ++ ends) ++ right_parenthesis ∷ []))) ++ codes ")) "))
          ≡ ((done ++ (first ++ (second ++ space ∷ []))) ++ inner) ++ (ends ++ codes "))) ")
      pieces done first second inner ends = simp append_assoc

-- ---- a definition

pub define-leads : (t : Formulas) (root : NodeId) (ss new : Nodes) (k : NodeId) (steps : List Step) (before after done whole : List ℕ)
    → after ≡ before ++ let_text (length ss.current) (definition_of (tree t k) (definitions_at t ss.current)).form → new.current ≡ k ∷ ss.current → new.outer ≡ ss.outer
    → LeadsFrom t root ss (Define k ∷ steps) (done ++ before) whole → LeadsFrom t root new steps (done ++ after) whole
define-leads t root ss new k steps before after done whole is current outer leads =
    let ks = ss.current in
    subst (λ (js : List NodeId). Leads t root (definitions_at t js) (map (definitions_at t) new.outer) steps (done ++ after) whole) (sym current)
    (subst (λ (kss : List (List NodeId)). Leads t root (definitions_at t (k ∷ ks)) (map (definitions_at t) kss) steps (done ++ after) whole) (sym outer)
    (subst (λ (xs : List ℕ). Leads t root (definitions_at t (k ∷ ks)) (map (definitions_at t) ss.outer) steps xs whole)
    (ap (λ n. (done ++ before) ++ let_text n (definition_of (tree t k) (definitions_at t ks)).form) (length-definitions t ks)
    ∙ append_assoc done before (let_text (length ks) (definition_of (tree t k) (definitions_at t ks)).form) ∙ ap (λ xs. done ++ xs) (sym is))
    leads.1))

pub define-scopes : (t : Formulas) (ss new : Nodes) (k : NodeId) → AreScopes t ss → IsDefinable t (definitions_at t ss.current) k → new.current ≡ k ∷ ss.current → new.outer ≡ ss.outer → AreScopes t new
define-scopes t ss new k scopes is current outer = record {
  current = subst (IsScope t) (sym current) (scope-more t ss.current k scopes.current is.node (applied-known (tree t k) (definitions_at t ss.current) is.known));
  outer = subst (All (IsScope t)) (sym outer) scopes.outer;
}

-- ---- the end of a quantified term

module _ (t : Formulas) (root : NodeId) (ss : Nodes) (k : NodeId) (steps : List Step) (done whole : List ℕ) (inner : List NodeId) (outer : List (List NodeId)) (split : ss.outer ≡ inner ∷ outer)
    (leads : LeadsFrom t root ss (Close k ∷ steps) done whole) where
  pub closable : IsClosable t (definitions_at t ss.current) (definitions_at t inner) k
  closable = (subst (λ (kss : List (List NodeId)). Leads t root (definitions_at t ss.current) (map (definitions_at t) kss) (Close k ∷ steps) done whole) split leads).0

  pub around : AreScopes t ss → IsScope t inner
  around scopes = All-head (IsScope t) inner outer (subst (All (IsScope t)) split scopes.outer)

  pub close-scopes : (new : Nodes) → AreScopes t ss → new.current ≡ k ∷ inner → new.outer ≡ outer → AreScopes t new
  close-scopes new scopes current rest = record {
    current = subst (IsScope t) (sym current) (scope-more t inner k (around scopes) closable.node (bound-known (tree t k) (definitions_at t inner) closable.bound));
    outer = subst (All (IsScope t)) (sym rest) (All-tail (IsScope t) inner outer (subst (All (IsScope t)) split scopes.outer));
  }

-- ---- a visit, by cases

pub visit-leaf : (t : Formulas) (root : NodeId) (ss : Nodes) (k : NodeId) (steps : List Step) (done whole : List ℕ) → AreScopes t ss → operands (tree t k) ≡ []
    → LeadsFrom t root ss (Visit k ∷ steps) done whole → LeadsFrom t root ss steps done whole
visit-leaf t root ss k steps done whole scopes leaf =
    visit-known t root (definitions_at t ss.current) (map (definitions_at t) ss.outer) k steps done whole scopes.current.closed (leaf-known (definitions_at t ss.current) (tree t k) leaf)

pub visit-defined : (t : Formulas) (root : NodeId) (ss : Nodes) (k : NodeId) (steps : List Step) (done whole : List ℕ) → IsTable t → IsNode t k → AreScopes t ss → has_node ss.current k ≡ true
    → LeadsFrom t root ss (Visit k ∷ steps) done whole → LeadsFrom t root ss steps done whole
visit-defined t root ss k steps done whole table node scopes has =
    visit-known t root (definitions_at t ss.current) (map (definitions_at t) ss.outer) k steps done whole scopes.current.closed
    (defined-is-known (definitions_at t ss.current) (tree t k) (node-defined t table ss.current k scopes.current.nodes node ∙ has))

pub has-number : (r : Option ℕ) (b : Bool) (P : ℕ → Type 0) → MatchOption r (b ≡ false) (λ n. (b ≡ true) × P n) → is_some r ≡ true → b ≡ true
has-number None b P h some = absurd cc
has-number (Some n) b P h some = h.0

pub no-number : (r : Option ℕ) (b : Bool) (P : ℕ → Type 0) → MatchOption r (b ≡ false) (λ n. (b ≡ true) × P n) → is_some r ≡ false → b ≡ false
no-number None b P h empty = h
no-number (Some n) b P h empty = absurd cc

-- ---- turns that are left

weights-visits : (t : Formulas) (ks : List NodeId) (steps : List Step) → weights t (visits ks ++ steps) ≡ sizes (terms (trees_at t ks)) + (sizes (terms (trees_at t ks)) + weights t steps)
weights-visits t [] steps = omega arith
weights-visits t (k ∷ ks) steps = let rest = weights-visits t ks steps in omega (arith, rest)

pub nearer-application : (t : Formulas) (k : NodeId) (ks : List NodeId) (steps new : List Step) → is_quantified (tree t k) ≡ false → trees_at t ks ≡ operands (tree t k) → new ≡ visits ks ++ (Define k ∷ steps)
    → weights t new < weights t (Visit k ∷ steps)
nearer-application t k ks steps new applied kids pushed =
    let inside = sizes-operands (tree t k) applied in
    let all = ap (weights t) pushed ∙ weights-visits t ks (Define k ∷ steps) in
    let same : sizes (terms (trees_at t ks)) ≡ sizes (terms (operands (tree t k))) = ap (λ ts. sizes (terms ts)) kids in
    omega (arith, inside, all, same)

pub enter-leads : (t : Formulas) (root : NodeId) (ss new : Nodes) (k b : NodeId) (vs : List NodeId) (steps more : List Step) (before after done whole : List ℕ) → Binds t (tree t k) vs b
    → IsTable t → IsNode t k → AreScopes t ss → has_node ss.current k ≡ false
    → new.current ≡ [] → new.outer ≡ ss.current ∷ ss.outer → more ≡ Visit b ∷ (Close k ∷ steps) → after ≡ before ++ (let_opening (length ss.current) ++ (opening (tree t k) ++ space ∷ []))
    → LeadsFrom t root ss (Visit k ∷ steps) (done ++ before) whole → LeadsFrom t root new more (done ++ after) whole
enter-leads t root ss new k b vs steps more before after done whole bound table node scopes fresh current outer pushed text leads =
    let ds = definitions_at t ss.current in
    let undefined : is_defined ds (tree t k) ≡ false = node-defined t table ss.current k scopes.current.nodes node ∙ fresh in
    let begun = visit-quantified t root ds (map (definitions_at t) ss.outer) k b vs steps (done ++ before) whole bound undefined leads in
    let shown : (done ++ before) ++ (let_opening (length ds) ++ (opening (tree t k) ++ space ∷ [])) ≡ done ++ after =
    append_assoc done before (let_opening (length ds) ++ (opening (tree t k) ++ space ∷ []))
    ∙ ap (λ n. done ++ (before ++ (let_opening n ++ (opening (tree t k) ++ space ∷ [])))) (length-definitions t ss.current) ∙ ap (λ xs. done ++ xs) (sym text)
    in
    subst (λ (ks : List NodeId). Leads t root (definitions_at t ks) (map (definitions_at t) new.outer) more (done ++ after) whole) (sym current)
    (subst (λ (kss : List (List NodeId)). Leads t root [] (map (definitions_at t) kss) more (done ++ after) whole) (sym outer)
    (subst (λ (s : List Step). Leads t root [] (map (definitions_at t) (ss.current ∷ ss.outer)) s (done ++ after) whole) (sym pushed)
    (subst (λ (xs : List ℕ). Leads t root [] (map (definitions_at t) (ss.current ∷ ss.outer)) (Visit b ∷ (Close k ∷ steps)) xs whole) shown begun)))

pub enter-scopes : (t : Formulas) (ss new : Nodes) → AreScopes t ss → new.current ≡ [] → new.outer ≡ ss.current ∷ ss.outer → AreScopes t new
enter-scopes t ss new scopes current outer = record {
  current = subst (IsScope t) (sym current) (no-scope t);
  outer = subst (All (IsScope t)) (sym outer) (All-cons (IsScope t) ss.current ss.outer scopes.current scopes.outer);
}

pub application-leads : (t : Formulas) (root : NodeId) (ss : Nodes) (k : NodeId) (ks : List NodeId) (steps more : List Step) (done whole : List ℕ)
    → IsTable t → IsNode t k → AreScopes t ss → has_node ss.current k ≡ false → is_quantified (tree t k) ≡ false → 0 < length (operands (tree t k)) → trees_at t ks ≡ operands (tree t k) → AreNodes t ks
    → more ≡ visits ks ++ (Define k ∷ steps) → LeadsFrom t root ss (Visit k ∷ steps) done whole → LeadsFrom t root ss more done whole
application-leads t root ss k ks steps more done whole table node scopes fresh applied some kids nodes pushed leads =
    subst (λ (s : List Step). LeadsFrom t root ss s done whole) (sym pushed)
    (visit-application t root (definitions_at t ss.current) (map (definitions_at t) ss.outer) k ks steps done whole applied some (node-defined t table ss.current k scopes.current.nodes node ∙ fresh) kids nodes leads)

-- ---- the turns of the loop

pub step-is : (t : Formulas) (root : NodeId) (ss : Nodes) (step other : Step) (steps : List Step) (done whole : List ℕ) → step ≡ other → LeadsFrom t root ss (step ∷ steps) done whole → LeadsFrom t root ss (other ∷ steps) done whole
step-is t root ss step other steps done whole e leads = subst (λ (s : Step). LeadsFrom t root ss (s ∷ steps) done whole) e leads

-- the next step
pub next-step : (t : Formulas) (root : NodeId) (ss : Nodes) (steps others : List Step) (done whole : List ℕ) → steps ≡ others → LeadsFrom t root ss steps done whole → LeadsFrom t root ss others done whole
next-step t root ss steps others done whole split leads = subst (λ (s : List Step). LeadsFrom t root ss s done whole) split leads

pub root-begun : (t : Formulas) (root : NodeId) (ss : Nodes) (steps : List Step) (before : List ℕ) → IsNode t root → ss.current ≡ [] → ss.outer ≡ [] → steps ≡ Visit root ∷ []
    → LeadsFrom t root ss steps before (before ++ form_text (dag_form (tree t root)))
root-begun t root ss steps before node current outer pushed =
    let whole = before ++ form_text (dag_form (tree t root)) in
    let u = tree t root in
    let ends : (before ++ lets u []) ++ end_text (definitions u []) u ≡ whole = append_assoc before (lets u []) (end_text (definitions u []) u) ∙ ap (λ xs. before ++ xs) (sym (dag-text u)) in
    subst (λ (ks : List NodeId). Leads t root (definitions_at t ks) (map (definitions_at t) ss.outer) steps before whole) (sym current)
    (subst (λ (kss : List (List NodeId)). Leads t root [] (map (definitions_at t) kss) steps before whole) (sym outer)
    (subst (λ (s : List Step). Leads t root [] [] s before whole) (sym pushed) (node, (refl, (defined-known u [], ends)))))

pub scopes-begun : (t : Formulas) (ss : Nodes) → ss.current ≡ [] → ss.outer ≡ [] → AreScopes t ss
scopes-begun t ss current outer = record { current = subst (IsScope t) (sym current) (no-scope t); outer = subst (All (IsScope t)) (sym outer) (All-nil (IsScope t)) }

-- only the root's end is left
pub root-left : (t : Formulas) (root : NodeId) (ss : Nodes) (steps : List Step) (done whole : List ℕ) → steps ≡ [] → LeadsFrom t root ss steps done whole
    → IsKnown (definitions_at t ss.current) (tree t root) × (done ++ end_text (definitions_at t ss.current) (tree t root) ≡ whole)
root-left t root ss steps done whole e leads = let last = subst (λ (s : List Step). LeadsFrom t root ss s done whole) e leads in (last.1.0, last.1.1)

-- what was printed is a part of the whole
pub leads-whole : (t : Formulas) (root : NodeId) (ds : List Definition) (dss : List (List Definition)) (steps : List Step) (done whole : List ℕ) → Leads t root ds dss steps done whole → (rest : List ℕ) × (done ++ rest ≡ whole)
leads-whole t root ds dss [] done whole leads = (end_text ds (tree t root), leads.1.1)
leads-whole t root ds dss (Visit k ∷ steps) done whole leads =
    let (rest, is) = leads-whole t root (definitions (tree t k) ds) dss steps (done ++ lets (tree t k) ds) whole leads.1 in
    (lets (tree t k) ds ++ rest, sym (append_assoc done (lets (tree t k) ds) rest) ∙ is)
leads-whole t root ds dss (Define k ∷ steps) done whole leads =
    let more = let_text (length ds) (definition_of (tree t k) ds).form in
    let (rest, is) = leads-whole t root (definition_of (tree t k) ds ∷ ds) dss steps (done ++ more) whole leads.1 in
    (more ++ rest, sym (append_assoc done more rest) ∙ is)
leads-whole t root ds [] (Close k ∷ steps) done whole leads = absurd leads
leads-whole t root ds (es ∷ dss) (Close k ∷ steps) done whole leads =
    let more = end_text ds (quantified_body (tree t k)) ++ codes "))) " in
    let (rest, is) = leads-whole t root (definition_of (tree t k) es ∷ es) dss steps (done ++ more) whole leads.1 in
    (more ++ rest, sym (append_assoc done more rest) ∙ is)

pub leads-whole-from : (t : Formulas) (root : NodeId) (ss : Nodes) (steps : List Step) (done whole : List ℕ) → LeadsFrom t root ss steps done whole → (rest : List ℕ) × (done ++ rest ≡ whole)
leads-whole-from t root ss steps done whole leads = leads-whole t root (definitions_at t ss.current) (map (definitions_at t) ss.outer) steps done whole leads
