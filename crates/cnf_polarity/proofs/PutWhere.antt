-- Formulas that are put last where a test says so.
use Rattle.std.proofs.Common.{◌≡◌, Bool, true, false, List, [], ◌++◌, All, sym, ◌∙◌, subst}
use Rattle.smt_terms.specs.declared.ids.NodeId.{NodeId}
use Rattle.smt_terms.specs.Connectives.{Kind}
use Rattle.smt_terms.specs.Groups.{where_so}
use Rattle.smt_terms.specs.Term.{Term}
use Rattle.term_table.specs.Formulas.{Formulas, tree, trees_at}
use Rattle.term_walk.specs.Walking.{GrowsTo}
use Rattle.normal_forms.specs.Nodes.{IsFormula}
use Rattle.cnf_polarity.specs.Cnf.{positive_clauses, negative_clauses}
use Rattle.cnf_polarity.specs.Putting.{Puts}
use Rattle.cnf_polarity.proofs.KeptLiterals.{table-itself}
use Rattle.cnf_polarity.proofs.PutFormulas.{formula-tree, formula-trees, puts-none, puts-then}

pub record PutsWhere (b : Bool) (old new : Formulas) (before after : List NodeId) (us : List Term) : Type 0 where
  pub grows : GrowsTo old new
  pub puts : Puts old new before after (where_so b us)

pub put-where : (b : Bool) (t0 t u : Formulas) (a b' c : List NodeId) (us : List Term) → b ≡ true → u ≡ t → c ≡ b' → GrowsTo t0 t → Puts t0 t a b' us → PutsWhere b t0 u a c us
put-where b t0 t u a b' c us holds same_table same grows puts = record {
  grows = subst (λ x. GrowsTo t0 x) (sym same_table) grows;
  puts =
      subst (λ x. Puts t0 u a c (where_so x us)) (sym holds)
      (subst (λ x. Puts t0 x a c us) (sym same_table) (subst (λ ks. Puts t0 t a ks us) (sym same) puts));
}

pub put-nothing : (b : Bool) (t u : Formulas) (a c : List NodeId) (us : List Term) → b ≡ false → u ≡ t → c ≡ a → All (IsFormula t) a → PutsWhere b t u a c us
put-nothing b t u a c us fails same_table same all = record {
  grows = subst (λ x. GrowsTo t x) (sym same_table) (table-itself t);
  puts =
      subst (λ x. Puts t u a c (where_so x us)) (sym fails)
      (subst (λ x. Puts t x a c []) (sym same_table) (subst (λ ks. Puts t t a ks []) (sym same) (puts-none t t (table-itself t) a all)));
}

-- the clauses where a name is positive, and then those where it is negative
pub put-both : (t0 t1 t2 : Formulas) (a b c : List NodeId) (k : Kind) (name : NodeId) (ls : List NodeId) (p q x y : Bool) (n : Term) (us : List Term) → IsFormula t0 name → All (IsFormula t0) ls
    → tree t0 name ≡ n → trees_at t0 ls ≡ us → p ≡ x → q ≡ y
    → PutsWhere p t0 t1 a b (positive_clauses k (tree t0 name) (trees_at t0 ls)) → PutsWhere q t1 t2 b c (negative_clauses k (tree t1 name) (trees_at t1 ls))
    → Puts t0 t2 a c (where_so x (positive_clauses k n us) ++ where_so y (negative_clauses k n us))
put-both t0 t1 t2 a b c k name ls p q x y n us named formulas name_is terms_are first second one two =
    let name_stays : tree t1 name ≡ n = formula-tree t0 t1 one.grows name named ∙ name_is in
    let terms_stay : trees_at t1 ls ≡ us = formula-trees t0 t1 one.grows ls formulas ∙ terms_are in
    puts-then t0 t1 t2 a b c (where_so x (positive_clauses k n us)) (where_so y (negative_clauses k n us))
    (subst (λ (vs : List Term). Puts t0 t1 a b vs) (λ i. where_so (first i) (positive_clauses k (name_is i) (terms_are i))) one.puts)
    (subst (λ (vs : List Term). Puts t1 t2 b c vs) (λ i. where_so (second i) (negative_clauses k (name_stays i) (terms_stay i))) two.puts)
