-- The text of a term in layout dag, and what is defined along the way.
use Rattle.std.proofs.Common.{◌≡◌, ℕ, suc, ◌<◌, ◌≤◌, Bool, true, false, ◌⊎◌, inl, inr, List, [], ◌∷◌, ◌++◌, map, length, replicate, refl, ap, sym, ◌∙◌, subst, arith, append_assoc, append-nil}
use Rattle.std.specs.Prelude.{codes, if◌then◌else◌}
use Rattle.smt_lex.specs.Lexicon.{left_parenthesis, right_parenthesis, space}
use Rattle.smt_lex.specs.Forms.{Form}
use Rattle.smt_lex.specs.FormText.{form_text}
use Rattle.smt_terms.specs.Equal.{term_eq}
use Rattle.smt_terms.specs.Term.{Quantifier, Head, Term, apply, quantified, Terms, none, ◌⨾◌, list, terms}
use Rattle.smt_terms.specs.Sorts.{Variable}
use Rattle.smt_terms.proofs.Equal.{Decides-term_eq}
use Rattle.smt_terms.proofs.Tests.{true_or_false, left_true, right_true, either_true}
use Rattle.term_table.specs.Formulas.{operands}
use Rattle.term_table.specs.WrittenForms.{list_form, variable_form}
use Rattle.smt_print.specs.NodeForms.{opening}
use Rattle.term_walk.specs.Binders.{is_quantified}
use Rattle.smt_print.proofs.TreeTexts.{terms-list}
use Rattle.smt_print.specs.DagSteps.{definition_of, IsKnown, AreKnown, let_opening, let_text, own_let, lets, lets_in, end_text}
use Rattle.smt_print.specs.Sizes.{size, sizes}
use Rattle.smt_print.specs.TermForms.{head_form, quantifier_word, application_form, quantified_form, Definition, definition_name, is_defined, reference, references, with_definition, with_application, let_form, below_lets, definitions, definitions_in, dag_form}

-- ---- one definition more, or none

made : (t : Term) (ds : List Definition) → is_defined ds t ≡ false → with_definition t (definition_of t ds).form ds ≡ record { term = t; form = (definition_of t ds).form } ∷ ds
made t ds new = ap (λ b. if b then ds else record { term = t; form = (definition_of t ds).form } ∷ ds) new

kept : (t : Term) (f : Form) (ds : List Definition) → is_defined ds t ≡ true → with_definition t f ds ≡ ds
kept t f ds old = ap (λ b. if b then ds else record { term = t; form = f } ∷ ds) old

same_term : (t : Term) → term_eq t t ≡ true
same_term t = (Decides-term_eq t t).1 refl

-- ---- what is defined stays defined

with-defined : (t u : Term) (f : Form) (ds : List Definition) → is_defined ds u ≡ true → is_defined (with_definition t f ds) u ≡ true
with-defined t u f ds h = by (is_defined ds t)
  where
    by : (b : Bool) → is_defined (if b then ds else record { term = t; form = f } ∷ ds) u ≡ true
    by true = h
    by false = right_true (term_eq t u) (is_defined ds u) h

mutual
  pub still_defined : (t u : Term) (ds : List Definition) → is_defined ds u ≡ true → is_defined (definitions t ds) u ≡ true
  still_defined (apply h none) u ds e = e
  still_defined (apply h (t ⨾ ts)) u ds e =
      with-defined (apply h (t ⨾ ts)) u (application_form (head_form h) (references (definitions_in (t ⨾ ts) ds) (t ⨾ ts))) (definitions_in (t ⨾ ts) ds) (still_defined_in (t ⨾ ts) u ds e)
  still_defined (quantified q xs t) u ds e = with-defined (quantified q xs t) u (quantified_form q xs (dag_form t)) ds e

  still_defined_in : (ts : Terms) (u : Term) (ds : List Definition) → is_defined ds u ≡ true → is_defined (definitions_in ts ds) u ≡ true
  still_defined_in none u ds e = e
  still_defined_in (t ⨾ ts) u ds e = still_defined_in ts u (definitions t ds) (still_defined t u ds e)

still_known_in : (ts : Terms) (u : Term) (ds : List Definition) → IsKnown ds u → IsKnown (definitions_in ts ds) u
still_known_in ts (apply h none) ds k = tt
still_known_in ts (apply h (u ⨾ us)) ds k = still_defined_in ts (apply h (u ⨾ us)) ds k
still_known_in ts (quantified q xs u) ds k = still_defined_in ts (quantified q xs u) ds k

-- ---- a term is known behind its definitions

with-itself : (t : Term) (f : Form) (ds : List Definition) → is_defined (with_definition t f ds) t ≡ true
with-itself t f ds = by (is_defined ds t) refl
  where
    by : (b : Bool) → is_defined ds t ≡ b → is_defined (if b then ds else record { term = t; form = f } ∷ ds) t ≡ true
    by true e = e
    by false e = left_true (term_eq t t) (is_defined ds t) (same_term t)

pub defined-known : (t : Term) (ds : List Definition) → IsKnown (definitions t ds) t
defined-known (apply h none) ds = tt
defined-known (apply h (t ⨾ ts)) ds = with-itself (apply h (t ⨾ ts)) (application_form (head_form h) (references (definitions_in (t ⨾ ts) ds) (t ⨾ ts))) (definitions_in (t ⨾ ts) ds)
defined-known (quantified q xs t) ds = with-itself (quantified q xs t) (quantified_form q xs (dag_form t)) ds

pub defined-known-in : (ts : Terms) (ds : List Definition) → AreKnown (definitions_in ts ds) (list ts)
defined-known-in none ds = tt
defined-known-in (t ⨾ ts) ds = (still_known_in ts t (definitions t ds) (defined-known t ds), defined-known-in ts (definitions t ds))

-- ---- what is known adds nothing

-- the operands of what is defined are known
abbrev pub IsClosed : List Definition → Type 0
IsClosed ds = (h : Head) (ts : Terms) → is_defined ds (apply h ts) ≡ true → AreKnown ds (list ts)

pub record AddsNothing (t : Term) (ds : List Definition) : Type 0 where
  pub definitions : definitions t ds ≡ ds
  pub text : lets t ds ≡ []

record AddNothing (ts : Terms) (ds : List Definition) : Type 0 where
  definitions : definitions_in ts ds ≡ ds
  text : lets_in ts ds ≡ []

no_let : (t : Term) (ds : List Definition) → is_defined ds t ≡ true → own_let t ds ≡ []
no_let t ds old = ap (λ b. if b then [] else let_text (length ds) (definition_of t ds).form) old

mutual
  pub known-adds-nothing : (t : Term) (ds : List Definition) → IsClosed ds → IsKnown ds t → AddsNothing t ds
  known-adds-nothing (apply h none) ds closed known = record { definitions = refl; text = refl }
  known-adds-nothing (apply h (t ⨾ ts)) ds closed known =
      let none_in = known-add-nothing (t ⨾ ts) ds closed (closed h (t ⨾ ts) known) in
      record {
        definitions = ap (with_application h (t ⨾ ts)) none_in.definitions ∙ kept (apply h (t ⨾ ts)) (application_form (head_form h) (references ds (t ⨾ ts))) ds known;
        text = (λ i. none_in.text i ++ own_let (apply h (t ⨾ ts)) (none_in.definitions i)) ∙ no_let (apply h (t ⨾ ts)) ds known;
      }
  known-adds-nothing (quantified q xs t) ds closed known = record {
    definitions = kept (quantified q xs t) (quantified_form q xs (dag_form t)) ds known;
    text = no_let (quantified q xs t) ds known;
  }

  known-add-nothing : (ts : Terms) (ds : List Definition) → IsClosed ds → AreKnown ds (list ts) → AddNothing ts ds
  known-add-nothing none ds closed known = record { definitions = refl; text = refl }
  known-add-nothing (t ⨾ ts) ds closed known =
      let first = known-adds-nothing t ds closed known.0 in
      let others = known-add-nothing ts ds closed known.1 in
      record {
        definitions = ap (definitions_in ts) first.definitions ∙ others.definitions;
        text = (λ i. first.text i ++ lets_in ts (first.definitions i)) ∙ others.text;
      }

-- ---- what is new is new behind the definitions of smaller terms

with-new : (t u : Term) (f : Form) (ds : List Definition) → is_defined (with_definition t f ds) u ≡ true → (is_defined ds u ≡ true) ⊎ (u ≡ t)
with-new t u f ds = by (is_defined ds t)
  where
    by : (b : Bool) → is_defined (if b then ds else record { term = t; form = f } ∷ ds) u ≡ true → (is_defined ds u ≡ true) ⊎ (u ≡ t)
    by true h = inl h
    by false h = elim (either_true (term_eq t u) (is_defined ds u) h) [ inl same ↦ inr (sym ((Decides-term_eq t u).0 same)) | inr old ↦ inl old ]

at_most : (t u : Term) → u ≡ t → size u ≤ size t
at_most t u e = subst (λ n. n ≤ size t) (ap size (sym e)) (omega arith)

mutual
  smaller : (t u : Term) (ds : List Definition) → is_defined (definitions t ds) u ≡ true → (is_defined ds u ≡ true) ⊎ (size u ≤ size t)
  smaller (apply h none) u ds e = inl e
  smaller (apply h (t ⨾ ts)) u ds e =
      elim (with-new (apply h (t ⨾ ts)) u (application_form (head_form h) (references (definitions_in (t ⨾ ts) ds) (t ⨾ ts))) (definitions_in (t ⨾ ts) ds) e) [
        | inl below ↦ elim (smaller_in (t ⨾ ts) u ds below) [ inl old ↦ inl old | inr less ↦ inr (omega arith) ]
        | inr same ↦ inr (at_most (apply h (t ⨾ ts)) u same)
      ]
  smaller (quantified q xs t) u ds e =
      elim (with-new (quantified q xs t) u (quantified_form q xs (dag_form t)) ds e) [ inl old ↦ inl old | inr same ↦ inr (at_most (quantified q xs t) u same) ]

  smaller_in : (ts : Terms) (u : Term) (ds : List Definition) → is_defined (definitions_in ts ds) u ≡ true → (is_defined ds u ≡ true) ⊎ (size u ≤ sizes ts)
  smaller_in none u ds e = inl e
  smaller_in (t ⨾ ts) u ds e =
      elim (smaller_in ts u (definitions t ds) e) [
        | inl below ↦ elim (smaller t u ds below) [ inl old ↦ inl old | inr less ↦ inr (omega arith) ]
        | inr less ↦ inr (omega arith)
      ]

pub application-new : (h : Head) (ts : Terms) (ds : List Definition) → is_defined ds (apply h ts) ≡ false → is_defined (definitions_in ts ds) (apply h ts) ≡ false
application-new h ts ds new =
    elim (true_or_false (is_defined (definitions_in ts ds) (apply h ts))) [
      | inl old ↦ elim (smaller_in ts (apply h ts) ds old) [ inl before ↦ absurd cc | inr less ↦ absurd (omega arith) ]
      | inr still ↦ still
    ]

-- ---- the text of definitions

-- the beginnings of the `let`s of all these definitions
abbrev pub opened : List Definition → List ℕ
opened [] = []
opened (d ∷ ds) = opened ds ++ let_text (length ds) d.form

let_pieces : (opens name blank inner ends body : List ℕ) → opens ++ (((((name ++ (blank ++ inner)) ++ ends) ++ ends) ++ (blank ++ body)) ++ ends) ≡ ((opens ++ (name ++ blank)) ++ (inner ++ (ends ++ (ends ++ blank)))) ++ (body ++ ends)
let_pieces opens name blank inner ends body = simp append_assoc

let_form_text : (k : ℕ) (f body : Form) → form_text (let_form (definition_name k) f body) ≡ let_text k f ++ (form_text body ++ right_parenthesis ∷ [])
unfolding let_opening
let_form_text k f body =
    (λ i. left_parenthesis
    ∷ ((codes "let"
    ++ (space ∷ ((left_parenthesis ∷ (append-nil (left_parenthesis ∷ ((definition_name k ++ (space ∷ append-nil (form_text f) i)) ++ right_parenthesis ∷ [])) i ++ right_parenthesis ∷ []))
    ++ (space ∷ append-nil (form_text body) i))))
    ++ right_parenthesis ∷ []))
    ∙ let_pieces (codes "(let ((") (definition_name k) (space ∷ []) (form_text f) (right_parenthesis ∷ []) (form_text body)

lets_around : (opens middle inner : List ℕ) (n : ℕ) → opens ++ ((middle ++ (inner ++ right_parenthesis ∷ [])) ++ replicate n right_parenthesis) ≡ (opens ++ middle) ++ (inner ++ replicate (suc n) right_parenthesis)
lets_around opens middle inner n = simp append_assoc

below_lets-text : (ds : List Definition) (f : Form) → form_text (below_lets ds f) ≡ opened ds ++ (form_text f ++ replicate (length ds) right_parenthesis)
below_lets-text [] f = sym (append-nil (form_text f))
below_lets-text (d ∷ ds) f =
    below_lets-text ds (let_form (definition_name (length ds)) d.form f)
    ∙ ap (λ xs. opened ds ++ (xs ++ replicate (length ds) right_parenthesis)) (let_form_text (length ds) d.form f)
    ∙ lets_around (opened ds) (let_text (length ds) d.form) (form_text f) (length ds)

own-opened : (t : Term) (f : Form) (ds : List Definition) → (definition_of t ds).form ≡ f → opened (with_definition t f ds) ≡ opened ds ++ own_let t ds
own-opened t f ds same = by (is_defined ds t)
  where
    by : (b : Bool) → opened (if b then ds else record { term = t; form = f } ∷ ds) ≡ opened ds ++ (if b then [] else let_text (length ds) (definition_of t ds).form)
    by true = sym (append-nil (opened ds))
    by false = ap (λ f. opened ds ++ let_text (length ds) f) (sym same)

mutual
  definitions-opened : (t : Term) (ds : List Definition) → opened (definitions t ds) ≡ opened ds ++ lets t ds
  definitions-opened (apply h none) ds = sym (append-nil (opened ds))
  definitions-opened (apply h (t ⨾ ts)) ds =
      own-opened (apply h (t ⨾ ts)) (application_form (head_form h) (references (definitions_in (t ⨾ ts) ds) (t ⨾ ts))) (definitions_in (t ⨾ ts) ds) refl
      ∙ ap (λ xs. xs ++ own_let (apply h (t ⨾ ts)) (definitions_in (t ⨾ ts) ds)) (definitions-opened-in (t ⨾ ts) ds)
      ∙ append_assoc (opened ds) (lets_in (t ⨾ ts) ds) (own_let (apply h (t ⨾ ts)) (definitions_in (t ⨾ ts) ds))
  definitions-opened (quantified q xs t) ds = own-opened (quantified q xs t) (quantified_form q xs (dag_form t)) ds refl

  definitions-opened-in : (ts : Terms) (ds : List Definition) → opened (definitions_in ts ds) ≡ opened ds ++ lets_in ts ds
  definitions-opened-in none ds = sym (append-nil (opened ds))
  definitions-opened-in (t ⨾ ts) ds =
      definitions-opened-in ts (definitions t ds) ∙ ap (λ xs. xs ++ lets_in ts (definitions t ds)) (definitions-opened t ds)
      ∙ append_assoc (opened ds) (lets t ds) (lets_in ts (definitions t ds))

pub dag-text : (t : Term) → form_text (dag_form t) ≡ lets t [] ++ end_text (definitions t []) t
dag-text t = below_lets-text (definitions t []) (reference (definitions t []) t) ∙ ap (λ xs. xs ++ end_text (definitions t []) t) (definitions-opened t [])

-- ---- a term that isn't defined

-- an application adds the definitions of its operands and its own
pub record OpensOver (u : Term) (ds : List Definition) (us : Terms) : Type 0 where
  pub defined : definitions u ds ≡ definition_of u (definitions_in us ds) ∷ definitions_in us ds
  pub text : lets u ds ≡ lets_in us ds ++ let_text (length (definitions_in us ds)) (definition_of u (definitions_in us ds)).form
  pub new : is_defined (definitions_in us ds) u ≡ false
  pub known : AreKnown (definitions_in us ds) (operands u)

new_let : (t : Term) (ds : List Definition) → is_defined ds t ≡ false → own_let t ds ≡ let_text (length ds) (definition_of t ds).form
new_let t ds new = ap (λ b. if b then [] else let_text (length ds) (definition_of t ds).form) new

pub opened-application : (u : Term) (ds : List Definition) → is_quantified u ≡ false → 0 < length (operands u) → is_defined ds u ≡ false → OpensOver u ds (terms (operands u))
opened-application (apply h none) ds applied some new = absurd (omega arith)
opened-application (apply h (t ⨾ ts)) ds applied some new =
    let still = application-new h (t ⨾ ts) ds new in
    subst (OpensOver (apply h (t ⨾ ts)) ds) (sym (terms-list (t ⨾ ts))) (record {
      defined = made (apply h (t ⨾ ts)) (definitions_in (t ⨾ ts) ds) still;
      text = ap (λ xs. lets_in (t ⨾ ts) ds ++ xs) (new_let (apply h (t ⨾ ts)) (definitions_in (t ⨾ ts) ds) still);
      new = still;
      known = defined-known-in (t ⨾ ts) ds;
    })
opened-application (quantified q xs t) ds applied some new = absurd cc

-- a quantified term adds its own, with those of its body inside
pub record Opens (u b : Term) (ds : List Definition) : Type 0 where
  pub defined : definitions u ds ≡ definition_of u ds ∷ ds
  pub text : lets u ds ≡ let_opening (length ds) ++ ((opening u ++ (space ∷ ((lets b [] ++ end_text (definitions b []) b) ++ right_parenthesis ∷ []))) ++ codes ")) ")

pub opened-quantified : (u b : Term) (q : Quantifier) (xs : List Variable) (ds : List Definition) → u ≡ quantified q xs b → is_defined ds u ≡ false → Opens u b ds
opened-quantified u b q xs ds is new =
    subst (λ (v : Term). Opens v b ds) (sym is) (of_quantified (subst (λ (v : Term). is_defined ds v ≡ false) is new))
  where
    pieces : (word names body : List ℕ) → left_parenthesis ∷ ((word ++ (space ∷ (names ++ (space ∷ (body ++ []))))) ++ right_parenthesis ∷ [])
        ≡ (left_parenthesis ∷ (word ++ (space ∷ names))) ++ (space ∷ (body ++ right_parenthesis ∷ []))
    pieces word names body = simp (append_assoc, append-nil)

    of_quantified : is_defined ds (quantified q xs b) ≡ false → Opens (quantified q xs b) b ds
    of_quantified fresh = record {
      defined = made (quantified q xs b) ds fresh;
      text = new_let (quantified q xs b) ds fresh
          ∙ ap (λ ys. let_opening (length ds) ++ (ys ++ codes ")) "))
          (pieces (form_text (quantifier_word q)) (form_text (list_form (map variable_form xs))) (form_text (dag_form b))
          ∙ ap (λ ys. opening (quantified q xs b) ++ (space ∷ (ys ++ right_parenthesis ∷ []))) (dag-text b));
    }
