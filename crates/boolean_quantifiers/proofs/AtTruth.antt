-- Truth values and other formulas in the places of Bool variables.
use Rattle.std.proofs.Common.{◌≡◌, Bool, true, false, cond, ◌&&◌, ◌||◌, List, [], ◌∷◌, map, Some, None, refl, ap, sym, ◌∙◌, arith}
use Rattle.std.proofs.lemmas.List.Elements.{All-cons}
use Rattle.smt_terms.specs.declared.ids.NodeId.{NodeId}
use Rattle.smt_terms.specs.Connectives.{truth_term}
use Rattle.smt_terms.specs.Equal.{symbol_eq}
use Rattle.smt_terms.specs.Free.{is_among}
use Rattle.smt_terms.specs.Rank.{sort_of}
use Rattle.smt_terms.specs.Sorts.{Symbol, Variable}
use Rattle.smt_terms.specs.Term.{op, symbol, const_array, Term, apply, quantified, Terms, none, ◌⨾◌, constant_of, constant, variable}
use Rattle.smt_terms.proofs.Equal.{Decides-symbol_eq}
use Rattle.term_table.specs.Formulas.{Formulas, tree, variable_of, IsNode}
use Rattle.term_walk.specs.Walking.{GrowsTo}
use Rattle.normal_forms.specs.Nodes.{IsFormula}
use Rattle.normal_forms.specs.Quantifiers.{unless_bound, at_truth, at_truth_each}
use Rattle.quantifier_forms.proofs.Rebuilt.{formula-number}
use Rattle.quantifier_forms.proofs.Sweeps.{tree-stays, node-stays}
use Rattle.quantifier_forms.proofs.Variables.{named-bool}
use Rattle.boolean_quantifiers.specs.declared.work.Case.{Case}
use Rattle.boolean_quantifiers.specs.Replacing.{or_else, binds_image, put, put_each, IsImage, AreImages, IsPut}
use Rattle.boolean_quantifiers.specs.Working.{IsTruthVariable, single}

-- ---- a truth value is an image

symbols-turned : (f g : Symbol) → symbol_eq f g ≡ symbol_eq g f
symbols-turned f g = by (symbol_eq f g) (symbol_eq g f) refl refl
  where
    by : (a b : Bool) → symbol_eq f g ≡ a → symbol_eq g f ≡ b → a ≡ b
    by true true e h = refl
    by false false e h = refl
    by true false e h = let yes : symbol_eq g f ≡ true = (Decides-symbol_eq g f).1 (sym ((Decides-symbol_eq f g).0 e)) in absurd cc
    by false true e h = let yes : symbol_eq f g ≡ true = (Decides-symbol_eq f g).1 (sym ((Decides-symbol_eq g f).0 h)) in absurd cc

and-true : (b : Bool) → (b && true) ≡ b
and-true true = refl
and-true false = refl

and-false : (b : Bool) → (b && false) ≡ false
and-false true = refl
and-false false = refl

or-false : (b : Bool) → (b || false) ≡ b
or-false true = refl
or-false false = refl

-- what stands for a constant
constant-image : (b : Bool) (w u : Term) → or_else (cond b (Some w) None) u ≡ cond b w u
constant-image true w u = refl
constant-image false w u = refl

bound-same : (x : Variable) (w : Term) (xs : List Variable) → is_among (map constant_of xs) (constant_of x) ≡ binds_image ((variable x, w) ∷ []) xs
bound-same x w [] = refl
bound-same x w (y ∷ ys) = λ i. (symbols-turned (constant_of y) (constant_of x) ∙ sym (or-false (symbol_eq (constant_of x) (constant_of y))) ∙ ap (λ b. b || false) (sym (and-true (symbol_eq (constant_of x) (constant_of y))))) i || bound-same x w ys i

unless-same : (a b : Bool) (t u v : Term) → a ≡ b → u ≡ v → unless_bound a t u ≡ cond b t v
unless-same true true t u v e f = refl
unless-same false false t u v e f = f
unless-same true false t u v e f = absurd cc
unless-same false true t u v e f = absurd cc

mutual
  pub truth-put : (v : Bool) (x : Variable) (t : Term) → at_truth v x t ≡ put ((variable x, truth_term v) ∷ []) t
  truth-put v x (apply (symbol f) none) =
      sym (ap (λ b. cond b (truth_term v) (constant f)) (and-true (symbol_eq (constant_of x) f))) ∙ sym (constant-image (symbol_eq (constant_of x) f && true) (truth_term v) (constant f))
  truth-put v x (apply (symbol f) (t ⨾ ts)) =
      ap (apply (symbol f)) (truths-put v x (t ⨾ ts)) ∙ sym (ap (λ b. or_else (cond b (Some (truth_term v)) None) (apply (symbol f) (put_each ((variable x, truth_term v) ∷ []) (t ⨾ ts)))) (and-false (symbol_eq (constant_of x) f)))
  truth-put v x (apply (op o) ts) = ap (apply (op o)) (truths-put v x ts)
  truth-put v x (apply (const_array s) ts) = ap (apply (const_array s)) (truths-put v x ts)
  truth-put v x (quantified q xs body) =
      unless-same (is_among (map constant_of xs) (constant_of x)) (binds_image ((variable x, truth_term v) ∷ []) xs) (quantified q xs body) (quantified q xs (at_truth v x body)) (quantified q xs (put ((variable x, truth_term v) ∷ []) body))
      (bound-same x (truth_term v) xs) (ap (quantified q xs) (truth-put v x body))

  truths-put : (v : Bool) (x : Variable) (ts : Terms) → at_truth_each v x ts ≡ put_each ((variable x, truth_term v) ∷ []) ts
  truths-put v x none = refl
  truths-put v x (t ⨾ ts) = λ i. truth-put v x t i ⨾ truths-put v x ts i

-- ---- a formula for a Bool variable

pub truth-stays : (old new : Formulas) (k : NodeId) → GrowsTo old new → IsTruthVariable old k → IsTruthVariable new k
truth-stays old new k grows h = record { node = node-stays old new k grows h.node; named = h.named; is = tree-stays old new k grows h.node ∙ h.is; sort = h.sort }

pub truth-formula : (t : Formulas) (k : NodeId) → IsTruthVariable t k → IsFormula t k
truth-formula t k h = record { node = h.node; sort = ap sort_of h.is ∙ named-bool h.named h.sort }

pub variable-images : (t : Formulas) (c : Case) → IsTruthVariable t c.variable → IsFormula t c.image → AreImages t (single c)
variable-images t c v w = All-cons (IsImage t) (c.variable, c.image) [] one (λ i d lt. absurd (omega arith))
  where
    one : IsImage t (c.variable, c.image)
    one = record {
      from = v.node;
      symbol = constant_of v.named;
      constant_is = v.is;
      image = w.node;
      like = record { sort = w.sort ∙ sym (truth-formula t c.variable v).sort; number = formula-number (tree t c.image) w.sort ∙ sym (formula-number (tree t c.variable) (truth-formula t c.variable v).sort) };
    }

pub put-formula : (t : Formulas) (c : Case) (k r : NodeId) → IsFormula t k → IsPut t (single c) k r → IsFormula t r
put-formula t c k r f p = record { node = p.result; sort = p.like.sort ∙ f.sort }

-- the variable of a Bool variable's node
pub its-variable : (t : Formulas) (k : NodeId) (h : IsTruthVariable t k) → variable_of (tree t k) ≡ h.named
its-variable t k h = ap variable_of h.is

pub put-truth : (t new : Formulas) (v : Bool) (c : Case) (k r : NodeId) → GrowsTo t new → IsTruthVariable t c.variable → IsNode t k → tree new c.image ≡ truth_term v → IsPut new (single c) k r → tree new r ≡ at_truth v (variable_of (tree t c.variable)) (tree t k)
put-truth t new v c k r grows h node image p =
    p.term
    ∙ (λ i. put (((tree-stays t new c.variable grows h.node ∙ h.is) i, image i) ∷ []) (tree-stays t new k grows node i))
    ∙ sym (truth-put v h.named (tree t k))
    ∙ ap (λ x. at_truth v x (tree t k)) (sym (its-variable t c.variable h))
