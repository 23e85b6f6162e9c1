-- Printing a term below the definitions of its subterms: what a stack of steps still prints.
use Rattle.std.specs.Prelude.{◌≡◌, ℕ, suc, ◌+◌, ◌<◌, true, false, if◌then◌else◌, List, [], ◌∷◌, ◌++◌, All, map, length, replicate, codes}
use Rattle.smt_lex.specs.Lexicon.{right_parenthesis, space}
use Rattle.smt_lex.specs.Forms.{Form}
use Rattle.smt_lex.specs.FormText.{form_text}
use Rattle.smt_terms.specs.declared.ids.NodeId.{NodeId}
use Rattle.smt_terms.specs.Term.{Head, Term, apply, quantified, Terms, none, ◌⨾◌, list}
use Rattle.term_table.specs.Formulas.{Formulas, no_tree, tree, operands, IsNode, AreNodes}
use Rattle.smt_print.specs.declared.dag.Step.{Step}
use Rattle.smt_print.specs.declared.dag.Step.TheVariants.{Visit, Define, Close}
use Rattle.smt_print.specs.Defined.{Nodes}
use Rattle.term_walk.specs.Binders.{is_quantified}
use Rattle.smt_print.specs.Sizes.{size}
use Rattle.smt_print.specs.TermForms.{head_form, application_form, quantified_form, Definition, definition_name, is_defined, reference, references, definitions, definitions_in, dag_form}

-- ---- definitions

-- what is defined for a term, over the definitions of its operands
abbrev pub definition_of : Term → List Definition → Definition
definition_of (apply h ts) ds = record { term = apply h ts; form = application_form (head_form h) (references ds ts) }
definition_of (quantified q xs t) ds = record { term = quantified q xs t; form = quantified_form q xs (dag_form t) }

-- the definitions of these nodes, the latest first
abbrev pub definitions_at : Formulas → List NodeId → List Definition
definitions_at t [] = []
definitions_at t (k ∷ ks) = definition_of (tree t k) (definitions_at t ks) ∷ definitions_at t ks

-- a term that has a name, or that has no operands
abbrev pub IsKnown : List Definition → Term → Type 0
IsKnown ds (apply h none) = Unit {0}
IsKnown ds (apply h (t ⨾ ts)) = is_defined ds (apply h (t ⨾ ts)) ≡ true
IsKnown ds (quantified q xs t) = is_defined ds (quantified q xs t) ≡ true

abbrev pub AreKnown : List Definition → List Term → Type 0
AreKnown ds [] = Unit {0}
AreKnown ds (t ∷ ts) = IsKnown ds t × AreKnown ds ts

-- definitions of nodes of the table, each over known operands
pub record IsScope (t : Formulas) (ks : List NodeId) : Type 0 where
  pub nodes : AreNodes t ks
  pub closed : (h : Head) (ts : Terms) → is_defined (definitions_at t ks) (apply h ts) ≡ true → AreKnown (definitions_at t ks) (list ts)

pub record AreScopes (t : Formulas) (ss : Nodes) : Type 0 where
  pub current : IsScope t ss.current
  pub outer : All (IsScope t) ss.outer

-- ---- texts

-- the beginning of a `let` that gives the name of this number
unfoldable pub let_opening : ℕ → List ℕ
let_opening k = codes "(let ((" ++ (definition_name k ++ space ∷ [])

abbrev pub let_text : ℕ → Form → List ℕ
let_text k f = let_opening k ++ (form_text f ++ codes ")) ")

-- the `let` of a term that isn't defined
abbrev pub own_let : Term → List Definition → List ℕ
own_let t ds = if is_defined ds t then [] else let_text (length ds) (definition_of t ds).form

abbrev pub application_let : Head → Terms → List Definition → List ℕ
application_let h none ds = []
application_let h (t ⨾ ts) ds = own_let (apply h (t ⨾ ts)) ds

-- the beginnings of the `let`s of a term and its subterms, behind those of these definitions
abbrev mutual
  pub lets : Term → List Definition → List ℕ
  lets (apply h ts) ds = lets_in ts ds ++ application_let h ts (definitions_in ts ds)
  lets (quantified q xs t) ds = own_let (quantified q xs t) ds

  pub lets_in : Terms → List Definition → List ℕ
  lets_in none ds = []
  lets_in (t ⨾ ts) ds = lets t ds ++ lets_in ts (definitions t ds)

-- a term behind its definitions, and the ends of these
abbrev pub end_text : List Definition → Term → List ℕ
end_text ds t = form_text (reference ds t) ++ replicate (length ds) right_parenthesis

-- terms over these definitions, with a space in front of each
abbrev pub spaced_references : List Definition → List Term → List ℕ
spaced_references ds [] = []
spaced_references ds (t ∷ ts) = space ∷ (form_text (reference ds t) ++ spaced_references ds ts)

-- ---- steps

abbrev pub visits : List NodeId → List Step
visits ks = map Visit ks

abbrev pub quantified_body : Term → Term
quantified_body (apply h ts) = no_tree
quantified_body (quantified q xs t) = t

-- an application that isn't defined, over known operands
pub record IsDefinable (t : Formulas) (ds : List Definition) (k : NodeId) : Type 0 where
  pub node : IsNode t k
  pub applied : is_quantified (tree t k) ≡ false
  pub some : 0 < length (operands (tree t k))
  pub new : is_defined ds (tree t k) ≡ false
  pub known : AreKnown ds (operands (tree t k))

-- a quantified term that isn't defined, with a body that is known in a scope of its own
pub record IsClosable (t : Formulas) (ds es : List Definition) (k : NodeId) : Type 0 where
  pub node : IsNode t k
  pub bound : is_quantified (tree t k) ≡ true
  pub new : is_defined es (tree t k) ≡ false
  pub known : IsKnown ds (quantified_body (tree t k))

-- what is printed of the whole text, and then what these steps print, and then the root with the ends of the `let`s around
-- it, is the whole. The definitions are those of the current scope, and those of each scope around it
abbrev pub Leads : Formulas → NodeId → List Definition → List (List Definition) → List Step → List ℕ → List ℕ → Type 0
Leads t root ds dss [] done whole = (dss ≡ []) × (IsKnown ds (tree t root) × (done ++ end_text ds (tree t root) ≡ whole))
Leads t root ds dss (Visit k ∷ steps) done whole = IsNode t k × Leads t root (definitions (tree t k) ds) dss steps (done ++ lets (tree t k) ds) whole
Leads t root ds dss (Define k ∷ steps) done whole =
    IsDefinable t ds k × Leads t root (definition_of (tree t k) ds ∷ ds) dss steps (done ++ let_text (length ds) (definition_of (tree t k) ds).form) whole
Leads t root ds [] (Close k ∷ steps) done whole = ⊥
Leads t root ds (es ∷ dss) (Close k ∷ steps) done whole =
    IsClosable t ds es k × Leads t root (definition_of (tree t k) es ∷ es) dss steps (done ++ (end_text ds (quantified_body (tree t k)) ++ codes "))) ")) whole

-- the same, with the scopes as they stand
abbrev pub LeadsFrom : Formulas → NodeId → Nodes → List Step → List ℕ → List ℕ → Type 0
LeadsFrom t root ss steps done whole = Leads t root (definitions_at t ss.current) (map (definitions_at t) ss.outer) steps done whole

-- how many turns these steps may take
abbrev pub weights : Formulas → List Step → ℕ
weights t [] = 0
weights t (Visit k ∷ steps) = size (tree t k) + (size (tree t k) + weights t steps)
weights t (Define k ∷ steps) = suc (weights t steps)
weights t (Close k ∷ steps) = suc (weights t steps)
