-- Formulas stay formulas as the table gains, and more of them are put behind others.
use Rattle.std.proofs.Common.{◌≡◌, ℕ, ◌+◌, ◌<◌, List, [], ◌∷◌, ◌++◌, map, length, get_or, take, All, refl, ap, sym, ◌∙◌, subst, append_assoc, append-nil}
use Rattle.std.proofs.lemmas.List.{map-append, take_more}
use Rattle.std.proofs.lemmas.List.Elements.{All-nil, All-cons, All-append, All-weaker}
use Rattle.smt_terms.specs.declared.ids.NodeId.{NodeId}
use Rattle.smt_terms.specs.Connectives.{either}
use Rattle.smt_terms.specs.Term.{Term}
use Rattle.term_table.specs.Formulas.{Formulas, no_tree, tree_in, tree, trees_at}
use Rattle.term_walk.specs.Walking.{GrowsTo}
use Rattle.term_subst.proofs.Growing.{trees-grow}
use Rattle.normal_forms.specs.Nodes.{IsFormula, formula_stays}
use Rattle.cnf_polarity.specs.Cnf.{complement, triple}
use Rattle.cnf_polarity.specs.Putting.{Puts}

module _ (old new : Formulas) (grows : GrowsTo old new) where
  pub formula-tree : (k : NodeId) → IsFormula old k → tree new k ≡ tree old k
  formula-tree k f = grows.trees.same k.0 no_tree f.node

  pub formulas-stay : (ks : List NodeId) → All (IsFormula old) ks → All (IsFormula new) ks
  formulas-stay ks all = All-weaker (IsFormula old) (IsFormula new) (λ k f. formula_stays old new k grows f) ks all

  pub formula-trees : (ks : List NodeId) → All (IsFormula old) ks → trees_at new ks ≡ trees_at old ks
  formula-trees ks all = trees-grow old new grows ks (λ i d lt. (all i d lt).node)

  pub puts-none : (ks : List NodeId) → All (IsFormula old) ks → Puts old new ks ks []
  puts-none ks all = record {
    formulas = formulas-stay ks all;
    terms = formula-trees ks all ∙ sym (append-nil (trees_at old ks));
  }

  pub puts-one : (before after : List NodeId) (k : NodeId) (u : Term) → All (IsFormula old) before → IsFormula new k → tree new k ≡ u → after ≡ before ++ k ∷ [] → Puts old new before after (u ∷ [])
  puts-one before after k u all f is same = record {
    formulas = subst (λ (ks : List NodeId). All (IsFormula new) ks) (sym same) (All-append (IsFormula new) before (k ∷ []) (formulas-stay before all) (All-cons (IsFormula new) k [] f (All-nil (IsFormula new))));
    terms = ap (trees_at new) same ∙ map-append (tree_in new.trees) before (k ∷ []) ∙ (let stay = formula-trees before all in λ i. stay i ++ is i ∷ []);
  }

pub puts-then : (t0 t1 t2 : Formulas) (a b c : List NodeId) (us vs : List Term) → Puts t0 t1 a b us → Puts t1 t2 b c vs → Puts t0 t2 a c (us ++ vs)
puts-then t0 t1 t2 a b c us vs p q = record {
  formulas = q.formulas;
  terms = q.terms ∙ ap (λ ws. ws ++ vs) p.terms ∙ append_assoc (trees_at t0 a) us vs;
}

-- the table gained before
pub puts-after : (t0 t1 t2 : Formulas) (a b : List NodeId) (us : List Term) → GrowsTo t0 t1 → All (IsFormula t0) a → Puts t1 t2 a b us → Puts t0 t2 a b us
puts-after t0 t1 t2 a b us grows all p = puts-then t0 t1 t2 a a b [] us (puts-none t0 t1 grows a all) p

-- one more of a row, each of which has its place behind the others
pub puts-next : (t0 t1 t2 : Formulas) (a b c ks : List NodeId) (f : Term → Term) (n : ℕ) (d : NodeId) → n < length ks → Puts t0 t1 a b (map f (trees_at t0 (take n ks))) → Puts t1 t2 b c (f (tree t0 (get_or ks n d)) ∷ []) → Puts t0 t2 a c (map f (trees_at t0 (take (n + 1) ks)))
puts-next t0 t1 t2 a b c ks f n d lt p q =
    let k : NodeId = get_or ks n d in
    let seen : map f (trees_at t0 (take (n + 1) ks)) ≡ map f (trees_at t0 (take n ks)) ++ f (tree t0 k) ∷ [] =
    ap (λ (js : List NodeId). map f (trees_at t0 js)) (take_more ks n d lt) ∙ ap (map f) (map-append (tree_in t0.trees) (take n ks) (k ∷ [])) ∙ map-append f (trees_at t0 (take n ks)) (tree t0 k ∷ []) in
    subst (λ (us : List Term). Puts t0 t2 a c us) (sym seen) (puts-then t0 t1 t2 a b c (map f (trees_at t0 (take n ks))) (f (tree t0 k) ∷ []) p q)

-- two after one another, with gains between them
pub puts-two : (t0 t1 t2 t3 : Formulas) (a b c : List NodeId) (u v : Term) → GrowsTo t1 t2 → Puts t0 t1 a b (u ∷ []) → Puts t2 t3 b c (v ∷ []) → Puts t0 t3 a c (u ∷ v ∷ [])
puts-two t0 t1 t2 t3 a b c u v grows p q = puts-then t0 t1 t3 a b c (u ∷ []) (v ∷ []) p (puts-after t1 t2 t3 b c (v ∷ []) grows p.formulas q)

-- ---- clauses of nodes whose terms are known

-- the node of this formula
pub record IsFormulaOf (t : Formulas) (k : NodeId) (u : Term) : Type 0 where
  pub formula : IsFormula t k
  pub term : tree t k ≡ u

pub formula-itself : (t : Formulas) (k : NodeId) → IsFormula t k → IsFormulaOf t k (tree t k)
formula-itself t k f = record { formula = f; term = refl }

pub formula-later : (old new : Formulas) (k : NodeId) (u : Term) → GrowsTo old new → IsFormulaOf old k u → IsFormulaOf new k u
formula-later old new k u grows f = record {
  formula = formula_stays old new k grows f.formula;
  term = formula-tree old new grows k f.formula ∙ f.term;
}

pub complement-of : (old new : Formulas) (k r : NodeId) (u : Term) → IsFormulaOf old k u → IsFormula new r → tree new r ≡ complement (tree old k) → IsFormulaOf new r (complement u)
complement-of old new k r u f formula term = record { formula = formula; term = term ∙ ap complement f.term }

pub puts-triple : (old new : Formulas) (a b : List NodeId) (k l m : NodeId) (u v w : Term) → IsFormulaOf old k u → IsFormulaOf old l v → IsFormulaOf old m w → Puts old new a b (triple (tree old k) (tree old l) (tree old m) ∷ []) → Puts old new a b (triple u v w ∷ [])
puts-triple old new a b k l m u v w f g h p =
    let first = f.term in
    let second = g.term in
    let third = h.term in
    subst (λ (us : List Term). Puts old new a b us) (λ i. triple (first i) (second i) (third i) ∷ []) p

pub puts-pair : (old new : Formulas) (a b : List NodeId) (k l : NodeId) (u v : Term) → IsFormulaOf old k u → IsFormulaOf old l v → Puts old new a b (either (tree old k) (tree old l) ∷ []) → Puts old new a b (either u v ∷ [])
puts-pair old new a b k l u v f g p =
    let first = f.term in
    let second = g.term in
    subst (λ (us : List Term). Puts old new a b us) (λ i. either (first i) (second i) ∷ []) p
