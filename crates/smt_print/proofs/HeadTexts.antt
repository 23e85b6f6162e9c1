-- The head of a node is written by its operator, and constants of the theories are in range.
use Rattle.std.proofs.Common.{◌≡◌, ℕ, ◌<◌, ◌≤◌, ◌^◌, true, ◌⊎◌, inl, inr, List, [], ◌∷◌, ◌++◌, map, get_or, length, length-append, Option, Some, None, Ok, Err, All, FitsSigned, to_z, of_z, refl, ap, sym, ◌∙◌, subst, arith, append_assoc, append-nil}
use Rattle.std.specs.Prelude.{Result, is_some, ℤ, unsigned_abs}
use Rattle.std.specs.Int.{w128}
use Rattle.std.proofs.lemmas.Int.{to_z-of_z, ints}
use Rattle.std.proofs.lemmas.List.{map-append, length-map, get_or-map, get_or_append_left}
use Rattle.std.proofs.Math.Seq.{get_or-append_seam}
use Rattle.smt_terms.specs.declared.ids.NodeId.{NodeId}
use Rattle.smt_terms.specs.declared.op.Op.{Op}
use Rattle.smt_terms.specs.declared.op.Op.TheVariants.{Whole as WholeOp, Bits as BitsOp, Forall, Exists}
use Rattle.smt_terms.specs.Rank.{Fault, shape, shape_of, rank, width, most_bits, sort_over, sort_of, sorts_of, is_regular}
use Rattle.smt_terms.specs.Sorts.{Sort, Symbol, Variable}
use Rattle.smt_terms.specs.Takes.{Takes}
use Rattle.smt_terms.specs.Term.{Quantifier, universal, existential, Head, op, symbol, Term, apply, quantified, terms, variable, constant_of}
use Rattle.smt_terms.proofs.Ranked.{rank-takes, rank-narrow}
use Rattle.smt_terms.proofs.Tests.{both_true}
use Rattle.smt_lex.specs.Lexicon.{left_parenthesis, right_parenthesis, space}
use Rattle.smt_lex.specs.FormText.{form_text}
use Rattle.smt_values.specs.Meaning.{IsScalar}
use Rattle.smt_values.specs.declared.scalar.Scalar.{Scalar}
use Rattle.smt_values.specs.declared.scalar.Scalar.TheVariants.{Truth, Whole, Bits}
use Rattle.term_table.specs.Formulas.{Formulas, tree, trees_at, operands, binders, body, IsNode, IsTable, Kind, theory, applied, filled, binder, kind, kind_term, term_over}
use Rattle.term_table.specs.WrittenForms.{symbol_form, sort_form, variable_form}
use Rattle.smt_print.specs.NodeForms.{kind_form, constant_op, first_form, Binds}

pub first-kind : (fs : List Symbol) (ss : List Sort) (d : Kind) (ts : List Term) → first_form (kind_term fs ss d ts) ≡ kind_form fs ss d
first-kind fs ss (theory p) ts = refl
first-kind fs ss (applied f) ts = refl
first-kind fs ss (filled s) ts = refl
first-kind fs ss (binder q) ts = refl

-- ---- constants

ranked : (h : Head) (sorts : Option (List Sort)) → is_some (sort_over h sorts) ≡ true → (ss : List Sort) × (s : Sort) × (rank h ss ≡ Ok s)
ranked h None some = absurd cc
ranked h (Some ss) some = by (rank h ss) refl some
  where
    by : (r : Result Sort Fault) → rank h ss ≡ r → is_some (elim r as (λ _. Option Sort) [ Ok s ↦ Some s | Err _ ↦ None ]) ≡ true → (us : List Sort) × (s : Sort) × (rank h us ≡ Ok s)
    by (Ok s) e told = (ss, s, e)
    by (Err fault) e told = absurd cc

whole_in_range : (n : ℤ) (ss : List Sort) (s : Sort) → rank (op (WholeOp n)) ss ≡ Ok s → unsigned_abs n < 2 ^ 127
unfolding shape
whole_in_range n ss s ok = let t : Takes (shape (WholeOp n)) ss s = rank-takes (op (WholeOp n)) ss s ok in t.1

bits_in_range : (w n : ℕ) (ss : List Sort) (s : Sort) → rank (op (BitsOp w n)) ss ≡ Ok s → (1 ≤ w) × (w ≤ 128) × (n < 2 ^ w)
unfolding shape
bits_in_range w n ss s ok =
    let t : Takes (shape (BitsOp w n)) ss s = rank-takes (op (BitsOp w n)) ss s ok in
    let narrow : width s ≤ most_bits = rank-narrow (op (BitsOp w n)) ss s ok in
    let small : w ≤ most_bits = subst (λ (s : Sort). width s ≤ most_bits) t.3 narrow in
    (omega (arith, t.1), small, t.2)

constant-ranked : (s : Scalar) (ss : List Sort) (r : Sort) → rank (op (constant_op s)) ss ≡ Ok r → IsScalar s
constant-ranked (Truth b) ss r ok = tt
constant-ranked (Whole n) ss r ok = whole_in_range n ss r ok
constant-ranked (Bits w n) ss r ok = bits_in_range w n ss r ok

constant-kind : (s : Scalar) → kind (constant_op s) ≡ theory (constant_op s)
unfolding kind
constant-kind (Truth b) = refl
constant-kind (Whole n) = refl
constant-kind (Bits w n) = refl

-- the constants of a table are scalars
pub constant-scalar : (t : Formulas) (k : NodeId) (p : Op) (s : Scalar) → IsTable t → IsNode t k → tree t k ≡ term_over t p (operands (tree t k)) → constant_op s ≡ p → IsScalar s
constant-scalar t k p s table node is same =
    let ts = operands (tree t k) in
    let term : tree t k ≡ apply (op (constant_op s)) (terms ts) =
    is ∙ ap (λ d. kind_term t.symbols t.sorts d ts) (ap kind (sym same) ∙ constant-kind s) in
    let sorted : is_some (sort_of (tree t k)) ≡ true = (both_true (is_some (sort_of (tree t k))) (is_regular (tree t k)) (table.sorted k.0 node)).0 in
    let known : is_some (sort_over (op (constant_op s)) (sorts_of (terms ts))) ≡ true = subst (λ (u : Term). is_some (sort_of u) ≡ true) term sorted in
    let rank = ranked (op (constant_op s)) (sorts_of (terms ts)) known in
    constant-ranked s rank.0 rank.1 rank.2

-- a whole number as it stands in code
pub whole-scalar : (n : ℤ) → unsigned_abs n < 2 ^ 127 → unsigned_abs (to_z w128 (of_z w128 n)) < 2 ^ 127
whole-scalar n small = subst (λ m. unsigned_abs m < 2 ^ 127) (sym (to_z-of_z w128 n (fits n small))) small
  where
    fits : (n : ℤ) → unsigned_abs n < 2 ^ 127 → FitsSigned w128 n
    fits n small = grind (arith, ints)

-- ---- quantifiers

same_ends : {A : Type 0} (xs ys : List A) (x y : A) → xs ++ x ∷ [] ≡ ys ++ y ∷ [] → (xs ≡ ys) × (x ≡ y)
same_ends [] [] x y e = (refl, cc)
same_ends [] (v ∷ []) x y e = absurd cc
same_ends [] (v ∷ w ∷ ys) x y e = absurd cc
same_ends (u ∷ []) [] x y e = absurd cc
same_ends (u ∷ w ∷ xs) [] x y e = absurd cc
same_ends (u ∷ xs) (v ∷ ys) x y e =
    let first : u ≡ v = cc in
    let others : xs ++ x ∷ [] ≡ ys ++ y ∷ [] = cc in
    let both = same_ends xs ys x y others in
    (λ i. first i ∷ both.0 i, both.1)

-- the last operand of a quantified node is its body, and those before it its variables
pub binds : (t : Formulas) (p : Op) (k : NodeId) (ks vs : List NodeId) (b : NodeId) → IsNode t k → (p ≡ Forall) ⊎ (p ≡ Exists) → tree t k ≡ term_over t p (operands (tree t k))
    → trees_at t ks ≡ operands (tree t k) → All (λ (j : NodeId). j.0 < k.0) ks → ks ≡ vs ++ b ∷ [] → Binds t (tree t k) vs b
unfolding kind
binds t p k ks vs b node which is kids below split = elim which [
  | inl all ↦ by universal (is ∙ ap (λ p. term_over t p (operands (tree t k))) all)
  | inr some ↦ by existential (is ∙ ap (λ p. term_over t p (operands (tree t k))) some)
]
  where
    front_node : (i : ℕ) (d : NodeId) → i < length vs → IsNode t (get_or vs i d)
    front_node i d lt =
        let less : (get_or vs i d).0 < k.0 = subst (λ (j : NodeId). j.0 < k.0) (ap (λ js. get_or js i d) split ∙ get_or_append_left vs (b ∷ []) d i lt) (below i d (let e = ap length split ∙ length-append vs (b ∷ []) in omega (arith, e))) in
        omega arith

    last_node : IsNode t b
    last_node =
        let less : b.0 < k.0 = subst (λ (j : NodeId). j.0 < k.0) (ap (λ js. get_or js (length vs) b) split ∙ get_or-append_seam vs b [] b) (below (length vs) b (let e = ap length split ∙ length-append vs (b ∷ []) in omega (arith, e))) in
        omega arith

    parts_of : (q : Quantifier) (u : Term) → u ≡ quantified q (binders (operands u)) (body (operands u)) → (trees_at t vs ++ tree t b ∷ [] ≡ operands u) → (xs : List Variable) × (u ≡ quantified q xs (tree t b)) × (trees_at t vs ≡ map variable xs)
    parts_of q u e last =
        let xs = binders (operands u) in
        let both = same_ends (trees_at t vs) (map variable xs) (tree t b) (body (operands u)) (last ∙ ap operands e) in
        (xs, e ∙ ap (quantified q xs) (sym both.1), both.0)

    by : (q : Quantifier) → tree t k ≡ quantified q (binders (operands (tree t k))) (body (operands (tree t k))) → Binds t (tree t k) vs b
    by q e =
        let found = parts_of q (tree t k) e (sym (map-append (tree t) vs (b ∷ [])) ∙ ap (trees_at t) (sym split) ∙ kids) in
        record { quantifier = q; variables = found.0; term = found.1; names = found.2; nodes = front_node; body = last_node }

-- ---- variables

-- the sort of a variable is that of its constant
pub variable-sort : (x : Variable) (s : Sort) → sort_of (variable x) ≡ Some s → s ≡ x.sort
variable-sort x s known = by (rank (symbol (constant_of x)) []) refl known
  where
    by : (r : Result Sort Fault) → rank (symbol (constant_of x)) [] ≡ r → elim r as (λ _. Option Sort) [ Ok s ↦ Some s | Err _ ↦ None ] ≡ Some s → s ≡ x.sort
    by (Ok u) e told =
        let t : Takes (shape_of (symbol (constant_of x))) [] u = rank-takes (symbol (constant_of x)) [] u e in
        let same : s ≡ u = cc in
        same ∙ t.1
    by (Err fault) e told = absurd cc

pub variable-text : (old a b c d e : List ℕ) (u : Term) (s : Sort) (x : Variable) → u ≡ variable x → sort_of u ≡ Some s → a ≡ old ++ left_parenthesis ∷ [] → b ≡ a ++ form_text (first_form u)
    → c ≡ b ++ space ∷ [] → d ≡ c ++ form_text (sort_form s) → e ≡ d ++ right_parenthesis ∷ [] → e ≡ old ++ form_text (variable_form x)
variable-text old a b c d e u s x is known first second third fourth fifth =
    let sort : s ≡ x.sort = variable-sort x s (ap sort_of (sym is) ∙ known) in
    let name : b ≡ a ++ form_text (symbol_form x.name) = second ∙ ap (λ v. a ++ form_text (first_form v)) is in
    fifth ∙ ap (λ ys. ys ++ right_parenthesis ∷ []) (fourth ∙ ap (λ r. c ++ form_text (sort_form r)) sort ∙ ap (λ ys. ys ++ form_text (sort_form x.sort)) (third ∙ ap (λ ys. ys ++ space ∷ []) (name ∙ ap (λ ys. ys ++ form_text (symbol_form x.name)) first)))
    ∙ pieces old (form_text (symbol_form x.name)) (form_text (sort_form x.sort))
  where
    pieces : (old name sort : List ℕ) → ((((old ++ left_parenthesis ∷ []) ++ name) ++ space ∷ []) ++ sort) ++ right_parenthesis ∷ [] ≡ old ++ (left_parenthesis ∷ ((name ++ (space ∷ (sort ++ []))) ++ right_parenthesis ∷ []))
    pieces old name sort = simp (append_assoc, append-nil)

-- the variable at a place
pub variable-at : (t : Formulas) (ks : List NodeId) (xs : List Variable) (i : ℕ) (k : NodeId) (x : Variable) → trees_at t ks ≡ map variable xs → i < length ks
    → (i < length xs) × (tree t (get_or ks i k) ≡ variable (get_or xs i x))
variable-at t ks xs i k x same lt =
    let long : length ks ≡ length xs = sym (length-map ks (tree t)) ∙ ap length same ∙ length-map xs variable in
    let less : i < length xs = omega arith in
    (less, sym (get_or-map (tree t) ks i k (variable x) lt) ∙ ap (λ ts. get_or ts i (variable x)) same ∙ get_or-map variable xs i x (variable x) less)
