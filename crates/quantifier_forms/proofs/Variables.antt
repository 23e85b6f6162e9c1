-- Variables as nodes, and quantifiers over them.
use Rattle.std.proofs.Common.{◌≡◌, ℕ, suc, ◌+◌, ◌<◌, Bool, true, false, not, cond, List, [], ◌∷◌, ◌++◌, length, map, get_or, take, Some, refl, ap, sym, ◌∙◌, subst, arith}
use Rattle.std.proofs.lemmas.List.{map-append, length-map, get_or-map, take_more, append-nil}
use Rattle.std.proofs.lemmas.List.Elements.{All-append, All-cons, All-head, All-tail, filter-append}
use Rattle.smt_terms.specs.declared.ids.NodeId.{NodeId}
use Rattle.smt_terms.specs.declared.op.Op.TheVariants.{Forall, Exists}
use Rattle.smt_terms.specs.Sorts.{Sort, bool, int, bit_vector, array, free_sort, Variable}
use Rattle.smt_terms.specs.Term.{Quantifier, universal, symbol, quantified, none, constant_of, variable}
use Rattle.smt_terms.specs.Connectives.{truth_term}
use Rattle.smt_terms.specs.Rank.{rank, are_bindable, sort_of}
use Rattle.smt_terms.specs.Shapes.{is_bool}
use Rattle.smt_terms.proofs.Sorted.{applied, sort_of-quantified}
use Rattle.smt_terms.proofs.Ranked.{rank-takes}
use Rattle.term_table.specs.Formulas.{Formulas, tree, tree_in, trees_at, binders, body, IsNode, AreNodes, Makes}
use Rattle.term_walk.specs.Walking.{GrowsTo}
use Rattle.normal_forms.specs.Nodes.{IsFormula}
use Rattle.normal_forms.specs.Quantifiers.{not_bool}
use Rattle.normal_forms.proofs.Bound.{makes-forall, makes-exists, bound-term}
use Rattle.quantifier_forms.specs.Variables.{AreVariables}
use Rattle.quantifier_forms.proofs.Sweeps.{tree-stays, node-stays}

-- ---- the node of a quantifier

truth-sort : sort_of (truth_term true) ≡ Some bool
unfolding rank
truth-sort = refl

module _ (t : Formulas) (ks kids : List NodeId) (b : NodeId) (xs : List Variable) (are : AreVariables t ks xs) (formula : IsFormula t b) (all : kids ≡ ks ++ b ∷ []) where
  kid-nodes : AreNodes t kids
  kid-nodes = subst (AreNodes t) (sym all) (All-append (IsNode t) ks (b ∷ []) are.nodes (All-cons (IsNode t) b [] formula.node (λ i d lt. absurd (omega arith))))

  pub kid-terms : trees_at t kids ≡ map variable xs ++ tree t b ∷ []
  kid-terms = ap (trees_at t) all ∙ map-append (tree_in t.trees) ks (b ∷ []) ∙ ap (λ us. us ++ tree t b ∷ []) are.terms

  module _ (bindable : are_bindable xs ≡ true) where
    whole : sort_of (quantified universal xs (truth_term true)) ≡ Some bool
    whole = sort_of-quantified universal xs (truth_term true) bindable truth-sort

    pub quantify-forall : Makes t Forall kids
    quantify-forall = makes-forall t (quantified universal xs (truth_term true)) refl whole kids (tree t b) formula.sort kid-nodes kid-terms

    pub quantify-exists : Makes t Exists kids
    quantify-exists = makes-exists t (quantified universal xs (truth_term true)) refl whole kids (tree t b) formula.sort kid-nodes kid-terms

    pub quantify-term : (q : Quantifier) → quantified q (binders (trees_at t kids)) (body (trees_at t kids)) ≡ quantified q xs (tree t b)
    quantify-term q = bound-term t (quantified universal xs (truth_term true)) refl whole kids (tree t b) formula.sort kid-nodes kid-terms q

    pub quantify-sort : (q : Quantifier) → sort_of (quantified q xs (tree t b)) ≡ Some bool
    quantify-sort q = sort_of-quantified q xs (tree t b) bindable formula.sort

-- two lists of variables of the same nodes
variable-one : (x y : Variable) → variable x ≡ variable y → x ≡ y
variable-one x y e =
    let same : constant_of x ≡ constant_of y = cc in
    λ i. record { name = (same i).name; sort = (same i).result }

pub variables-one : (t : Formulas) (ks : List NodeId) (xs ys : List Variable) → AreVariables t ks xs → AreVariables t ks ys → xs ≡ ys
variables-one t ks xs ys a b = same xs ys (sym a.terms ∙ b.terms)
  where
    same : (us vs : List Variable) → map variable us ≡ map variable vs → us ≡ vs
    same [] [] e = refl
    same [] (v ∷ vs) e = absurd cc
    same (u ∷ us) [] e = absurd cc
    same (u ∷ us) (v ∷ vs) e =
        let first : variable u ≡ variable v = cc in
        let rest : map variable us ≡ map variable vs = cc in
        let one = variable-one u v first in
        let more = same us vs rest in
        λ i. one i ∷ more i

-- ---- the variables that aren't Bool

bool-sort : (s : Sort) → is_bool s ≡ true → s ≡ bool
bool-sort bool e = refl
bool-sort int e = absurd cc
bool-sort (bit_vector w) e = absurd cc
bool-sort (array i j) e = absurd cc
bool-sort (free_sort n) e = absurd cc

named-sort : (x : Variable) (s : Sort) → sort_of (variable x) ≡ Some s → s ≡ x.sort
named-sort x s e =
    let a = applied (symbol (constant_of x)) none s e in
    (rank-takes (symbol (constant_of x)) a.sorts s a.rank).1

pub bool-named : (x : Variable) → sort_of (variable x) ≡ Some bool → x.sort ≡ bool
bool-named x e = sym (named-sort x bool e)

pub named-bool : (x : Variable) → x.sort ≡ bool → sort_of (variable x) ≡ Some bool
unfolding rank
named-bool x e = ap (λ s. sort_of (variable (record { name = x.name; sort = s }))) e

pub truth-told : (x : Variable) (b : Bool) → (b ≡ true → sort_of (variable x) ≡ Some bool) → (sort_of (variable x) ≡ Some bool → b ≡ true) → b ≡ is_bool x.sort
truth-told x true told back = sym (ap is_bool (bool-named x (told refl)))
truth-told x false told back = by (is_bool x.sort) refl
  where
    by : (c : Bool) → is_bool x.sort ≡ c → false ≡ c
    by false e = refl
    by true e = back (named-bool x (bool-sort x.sort e))

not_bool-append : (xs ys : List Variable) → not_bool (xs ++ ys) ≡ not_bool xs ++ not_bool ys
not_bool-append xs ys = filter-append (λ x. not (is_bool x.sort)) xs ys

take-one : (xs : List Variable) (i : ℕ) (d : Variable) → i < length xs → take (i + 1) xs ≡ take i xs ++ get_or xs i d ∷ []
take-one xs i d lt = take_more xs i d lt

-- one variable more, which is listed where it isn't Bool
module _ (t : Formulas) (ks left : List NodeId) (xs : List Variable) (are : AreVariables t ks xs) (i : ℕ) (lt : i < length ks) (kept : AreVariables t left (not_bool (take i xs))) where
  abbrev pub first_node : NodeId
  first_node = record { 0 = 0 }

  abbrev some_variable : Variable
  some_variable = record { name = []; sort = bool }

  variables-count : length ks ≡ length xs
  variables-count = sym (length-map ks (tree_in t.trees)) ∙ ap length are.terms ∙ length-map xs variable

  abbrev pub here : Variable
  here = get_or xs i some_variable

  pub here-term : tree t (get_or ks i first_node) ≡ variable here
  here-term =
      let n = variables-count in
      let m = length-map ks (tree_in t.trees) in
      sym (get_or-map (tree_in t.trees) ks i first_node (variable some_variable) lt) ∙ ap (λ us. get_or us i (variable some_variable)) are.terms ∙ get_or-map variable xs i some_variable (variable some_variable) (omega (arith, n))

  more : not_bool (take (i + 1) xs) ≡ not_bool (take i xs) ++ not_bool (here ∷ [])
  more = let n = variables-count in ap not_bool (take-one xs i some_variable (omega (arith, n))) ∙ not_bool-append (take i xs) (here ∷ [])

  pub truth-skipped : sort_of (tree t (get_or ks i first_node)) ≡ Some bool → AreVariables t left (not_bool (take (i + 1) xs))
  truth-skipped e =
      let bool_here : is_bool here.sort ≡ true = ap is_bool (bool-named here (ap sort_of (sym here-term) ∙ e)) in
      let same : not_bool (take (i + 1) xs) ≡ not_bool (take i xs) = more ∙ ap (λ b. not_bool (take i xs) ++ cond (not b) (here ∷ []) []) bool_here ∙ append-nil (not_bool (take i xs)) in
      subst (AreVariables t left) (sym same) kept

  pub other-kept : (new : List NodeId) → new ≡ left ++ get_or ks i first_node ∷ [] → (sort_of (tree t (get_or ks i first_node)) ≡ Some bool → ⊥) → AreVariables t new (not_bool (take (i + 1) xs))
  other-kept new is other =
      let bool_not : is_bool here.sort ≡ false = no-truth (is_bool here.sort) refl in
      let same : not_bool (take (i + 1) xs) ≡ not_bool (take i xs) ++ here ∷ [] = more ∙ ap (λ b. not_bool (take i xs) ++ cond (not b) (here ∷ []) []) bool_not in
      record {
        nodes = subst (AreNodes t) (sym is) (All-append (IsNode t) left (get_or ks i first_node ∷ []) kept.nodes (All-cons (IsNode t) (get_or ks i first_node) [] (are.nodes i first_node lt) (λ j d l. absurd (omega arith))));
        terms = ap (trees_at t) is ∙ map-append (tree_in t.trees) left (get_or ks i first_node ∷ []) ∙ (λ j. kept.terms j ++ here-term j ∷ []) ∙ sym (map-append variable (not_bool (take i xs)) (here ∷ [])) ∙ ap (map variable) (sym same);
      }
    where
      no-truth : (b : Bool) → is_bool here.sort ≡ b → b ≡ false
      no-truth false e = refl
      no-truth true e = absurd (other (ap sort_of here-term ∙ named-bool here (bool-sort here.sort e)))

-- ---- lists that are empty, and others

pub none-named : (t : Formulas) (ks : List NodeId) (xs : List Variable) → AreVariables t ks xs → length ks ≡ 0 → xs ≡ []
none-named t ks [] are e = refl
none-named t ks (x ∷ xs) are e =
    let n : length ks ≡ suc (length xs) = sym (length-map ks (tree_in t.trees)) ∙ ap length are.terms ∙ ap suc (length-map xs variable) in
    absurd (omega (arith, n))

pub some-named : (t : Formulas) (ks : List NodeId) (xs : List Variable) → AreVariables t ks xs → (length ks ≡ 0 → ⊥) → xs ≡ [] → ⊥
some-named t ks [] are some e = some (sym (length-map ks (tree_in t.trees)) ∙ ap length are.terms)
some-named t ks (x ∷ xs) are some e = absurd cc

-- ---- variables under another table

pub variables-stay : (old new : Formulas) (ks : List NodeId) (xs : List Variable) → GrowsTo old new → AreVariables old ks xs → AreVariables new ks xs
variables-stay old new ks xs grows are = record {
  nodes = λ i d lt. node-stays old new (get_or ks i d) grows (are.nodes i d lt);
  terms = same ks are.nodes ∙ are.terms;
}
  where
    same : (js : List NodeId) → AreNodes old js → trees_at new js ≡ trees_at old js
    same [] nodes = refl
    same (j ∷ js) nodes =
        let first = tree-stays old new j grows (All-head (IsNode old) j js nodes) in
        let rest = same js (All-tail (IsNode old) j js nodes) in
        λ i. first i ∷ rest i

module _ (t : Formulas) (ks : List NodeId) (xs : List Variable) (are : AreVariables t ks xs) where
  pub variables-number : length ks ≡ length xs
  variables-number = sym (length-map ks (tree_in t.trees)) ∙ ap length are.terms ∙ length-map xs variable

  pub variable-at : (i : ℕ) (d : NodeId) (x : Variable) → i < length ks → tree t (get_or ks i d) ≡ variable (get_or xs i x)
  variable-at i d x lt =
      let n = variables-number in
      sym (get_or-map (tree_in t.trees) ks i d (variable x) lt) ∙ ap (λ us. get_or us i (variable x)) are.terms ∙ get_or-map variable xs i x (variable x) (omega (arith, n))
