-- What makes the node of a quantifier over constants.
use Rattle.std.proofs.Common.{◌≡◌, ◌++◌, ◌∷◌, [], true, List, map, All, Option, Some, None, true≢false, refl, ap, sym, ◌∙◌, subst}
use Rattle.std.proofs.lemmas.List.{map-append}
use Rattle.std.proofs.lemmas.List.Elements.{All-nil, All-cons, All-head, All-tail, All-push}
use Rattle.smt_terms.specs.declared.ids.NodeId.{NodeId}
use Rattle.smt_terms.specs.declared.op.Op.TheVariants.{Forall, Exists}
use Rattle.smt_terms.specs.Fresh.{Supply}
use Rattle.smt_terms.specs.Rank.{sort_of, are_bindable}
use Rattle.smt_terms.specs.Sorts.{Sort, bool, Symbol}
use Rattle.smt_terms.specs.SubstLaws.{names_within, GivesNone}
use Rattle.smt_terms.specs.Term.{Term, quantified, variable, constant}
use Rattle.smt_terms.proofs.Equal.{Decides-sort_eq}
use Rattle.term_table.specs.Formulas.{Formulas, no_tree, tree, tree_in, trees_at, symbol_at, kind, term_over, IsNode, AreNodes, Makes}
use Rattle.term_subst.proofs.NodesMade.{makes-binder, made-binder}
use Rattle.script_terms.specs.declared.locals.Constant.{Constant}
use Rattle.script_terms.specs.declared.terms.frames.Quantifier.{Quantifier as QuantifierWord}
use Rattle.script_terms.specs.declared.terms.frames.Quantifier.TheVariants.{Universal, Existential}
use Rattle.script_terms.specs.Bound.{variable_for, variables_of}
use Rattle.script_terms.specs.Known.{IsSpared, IsConstant}
use Rattle.script_terms.specs.Quantifiers.{quantifier_of, operator_of}
use Rattle.script_terms.specs.Read.{has_sort, is_of_sort}
use Rattle.script_terms.proofs.NameFacts.{spared_first, spared_none, spared_both}

-- the constant of a symbol without arguments is that of its variable
variable_is : (f : Symbol) → f.args ≡ [] → constant f ≡ variable (variable_for f)
variable_is f none = λ i. constant (record { name = f.name; args = none i; result = f.result })

module _ (t : Formulas) (supply : Supply) where
  constant_terms : (cs : List Constant) → All (IsConstant t supply) cs → trees_at t (map (λ c. c.node) cs) ≡ map variable (variables_of t cs)
  constant_terms [] are = refl
  constant_terms (c ∷ cs) are =
      let is = All-head (IsConstant t supply) c cs are in
      λ i. (is.term ∙ variable_is (symbol_at t c.symbol) is.args) i ∷ constant_terms cs (All-tail (IsConstant t supply) c cs are) i

  constant_nodes : (cs : List Constant) → All (IsConstant t supply) cs → AreNodes t (map (λ c. c.node) cs)
  constant_nodes [] are = All-nil (λ k. IsNode t k)
  constant_nodes (c ∷ cs) are =
      All-cons (λ k. IsNode t k) c.node (map (λ d. d.node) cs) (All-head (IsConstant t supply) c cs are).node (constant_nodes cs (All-tail (IsConstant t supply) c cs are))

  names_spared : (cs : List Constant) → All (IsConstant t supply) cs → GivesNone supply (map (λ x. x.name) (variables_of t cs))
  names_spared [] are = spared_none supply
  names_spared (c ∷ cs) are =
      spared_first supply (symbol_at t c.symbol).name (map (λ x. x.name) (variables_of t cs)) (All-head (IsConstant t supply) c cs are).spared (names_spared cs (All-tail (IsConstant t supply) c cs are))

-- a quantifier over these constants and this body
module _ (t : Formulas) (supply : Supply) (q : QuantifierWord) (cs : List Constant) (are : All (IsConstant t supply) cs) (b : NodeId) (body : IsSpared t supply b)
    (ks : List NodeId) (operands : ks ≡ map (λ c. c.node) cs ++ b ∷ []) where
  nodes : AreNodes t ks
  nodes = subst (AreNodes t) (sym operands) (All-push (λ k. IsNode t k) (map (λ c. c.node) cs) b (constant_nodes t supply cs are) body.node)

  terms : trees_at t ks ≡ map variable (variables_of t cs) ++ tree t b ∷ []
  terms = ap (trees_at t) operands ∙ map-append (tree_in t.trees) (map (λ c. c.node) cs) (b ∷ []) ∙ ap (λ us. us ++ tree t b ∷ []) (constant_terms t supply cs are)

  module _ (bindable : are_bindable (variables_of t cs) ≡ true) (truth : sort_of (tree t b) ≡ Some bool) where
    makes_by : (r : QuantifierWord) → Makes t (operator_of r) ks
    unfolding kind
    makes_by Universal = makes-binder t Forall (quantified (quantifier_of Universal) [] no_tree) refl refl ks nodes (variables_of t cs) (tree t b) terms bindable truth
    makes_by Existential = makes-binder t Exists (quantified (quantifier_of Existential) [] no_tree) refl refl ks nodes (variables_of t cs) (tree t b) terms bindable truth

    pub quantifier_makes : Makes t (operator_of q) ks
    quantifier_makes = makes_by q

  made_by : (r : QuantifierWord) → term_over t (operator_of r) (trees_at t ks) ≡ quantified (quantifier_of r) (variables_of t cs) (tree t b)
  unfolding kind
  made_by Universal = made-binder t Forall (quantified (quantifier_of Universal) [] no_tree) refl refl ks nodes (variables_of t cs) (tree t b) terms
  made_by Existential = made-binder t Exists (quantified (quantifier_of Existential) [] no_tree) refl refl ks nodes (variables_of t cs) (tree t b) terms

  pub quantifier_term : term_over t (operator_of q) (trees_at t ks) ≡ quantified (quantifier_of q) (variables_of t cs) (tree t b)
  quantifier_term = made_by q

  pub quantifier_spared : (u : Formulas) (k : NodeId) → IsNode u k → tree u k ≡ quantified (quantifier_of q) (variables_of t cs) (tree t b) → IsSpared u supply k
  quantifier_spared u k node term = record {
    node = node;
    spared = subst (λ w. GivesNone supply (names_within w)) (sym term) (spared_both supply (map (λ x. x.name) (variables_of t cs)) (names_within (tree t b)) (names_spared t supply cs are) body.spared);
  }

some_sort : (o : Term) (s : Sort) → has_sort s o ≡ true → sort_of o ≡ Some s
some_sort o s has = by (sort_of o) refl has
  where
    by : (x : Option Sort) → sort_of o ≡ x → is_of_sort s x ≡ true → sort_of o ≡ Some s
    by None is has = absurd (true≢false (sym has))
    by (Some r) is has = is ∙ ap Some ((Decides-sort_eq r s).0 has)

pub body_truth : (o : Term) → has_sort bool o ≡ true → sort_of o ≡ Some bool
body_truth o has = some_sort o bool has
