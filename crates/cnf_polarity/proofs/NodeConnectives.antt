-- Connectives by what is seen of their nodes: they are formulas, and so are their operands.
use Rattle.std.proofs.Common.{◌≡◌, ℕ, ◌<◌, Bool, true, false, ◌&&◌, List, [], ◌∷◌, length, All, Option, Some, None, refl, ap, sym, ◌∙◌, subst, arith}
use Rattle.std.specs.Prelude.{is_some, IsTrue, ◌↔◌}
use Rattle.std.specs.List.{list_all}
use Rattle.std.proofs.lemmas.List.Elements.{All-nil, All-cons}
use Rattle.smt_terms.specs.declared.ids.NodeId.{NodeId}
use Rattle.smt_terms.specs.Connectives.{Kind, negation, disjunction, is_connective, kind_of, nth}
use Rattle.smt_terms.specs.Rank.{sort_of, is_regular, IsWellSorted}
use Rattle.smt_terms.specs.Shapes.{is_atom, is_literal, are_literals, is_clause, literal_node, clause_node}
use Rattle.smt_terms.specs.Sorts.{Sort, bool}
use Rattle.smt_terms.specs.Term.{Term, apply, quantified, Terms, none, ◌⨾◌, list, terms}
use Rattle.smt_terms.proofs.BoolOperands.{Each, IfBool, each-bool, operand-number}
use Rattle.smt_terms.proofs.Connected.{Count, Connected, connected}
use Rattle.smt_terms.proofs.Tests.{both_true}
use Rattle.term_table.specs.Formulas.{Formulas, no_tree, tree, trees_at, operands, IsNode, AreNodes}
use Rattle.normal_forms.specs.declared.connective.Connective.{Connective}
use Rattle.normal_forms.specs.declared.connective.Connective.TheVariants.{Not, And, Or, Xor, Implies, Equal, Distinct, Ite}
use Rattle.normal_forms.specs.Nodes.{IsFormula}
use Rattle.normal_forms.specs.Shape.{IsOfKind, Takes, kind_seen}
use Rattle.normal_forms.proofs.KeptResults.{kids-count, kid-term}
use Rattle.cnf_polarity.specs.Shapes.{has_connective}
use Rattle.cnf_polarity.proofs.ConnectiveParts.{connective-logical}

pub seen-is_connective : (c : Connective) → is_connective (kind_seen c) ≡ true
seen-is_connective Not = refl
seen-is_connective And = refl
seen-is_connective Or = refl
seen-is_connective Xor = refl
seen-is_connective Implies = refl
seen-is_connective Equal = refl
seen-is_connective Distinct = refl
seen-is_connective Ite = refl

pub by-kind : (t : Term) (k : Kind) → IsOfKind t k → has_connective t ≡ is_connective k
by-kind (quantified q xs body) k is = let h = is.0 in absurd cc
by-kind (apply h ts) k is = ap is_connective is.1

pub seen-connective : (t : Term) (c : Connective) → IsOfKind t (kind_seen c) → has_connective t ≡ true
seen-connective t c is = by-kind t (kind_seen c) is ∙ seen-is_connective c

pub kind-is : (t : Term) (b c : Connective) → b ≡ c → IsOfKind t (kind_seen b) → IsOfKind t (kind_seen c)
kind-is t b c e is = subst (λ d. IsOfKind t (kind_seen d)) e is

-- a connective has sort Bool
pub connective-sort : (t : Term) (s : Sort) → sort_of t ≡ Some s → has_connective t ≡ true → sort_of t ≡ Some bool
connective-sort (quantified q xs body) s has c = absurd cc
connective-sort (apply h ts) s has c = has ∙ ap Some (connected h ts s has (connective-logical (kind_of h ts) c)).sort

-- its operands are formulas, as many as it may have
each-so : (P : Term → Type 0) (ts : Terms) → Each P ts → All P (list ts)
each-so P none e = All-nil P
each-so P (t ⨾ ts) e = All-cons P t (list ts) e.0 (each-so P ts e.1)

if_bool : (ts : Terms) → IfBool (λ u. sort_of u ≡ Some bool) ts
if_bool none = tt
if_bool (t ⨾ ts) = (λ e. e, if_bool ts)

pub operands-bool : (t : Term) → sort_of t ≡ Some bool → has_connective t ≡ true → All (λ u. sort_of u ≡ Some bool) (operands t)
operands-bool (quantified q xs body) has c = absurd cc
operands-bool (apply h ts) has c =
    let r : Connected h ts bool = connected h ts bool has (connective-logical (kind_of h ts) c) in
    each-so (λ u. sort_of u ≡ Some bool) ts (each-bool (λ u. sort_of u ≡ Some bool) ts r.number r.sorts (if_bool ts))

count-takes : (c : Connective) (n : ℕ) → Count (kind_seen c) n → Takes c n
count-takes Not n h = h
count-takes And n h = h
count-takes Or n h = h
count-takes Xor n h = h
count-takes Implies n h = h
count-takes Equal n h = h
count-takes Distinct n h = h
count-takes Ite n h = h

pub operands-number : (t : Term) (c : Connective) → sort_of t ≡ Some bool → IsOfKind t (kind_seen c) → Takes c (length (operands t))
operands-number (quantified q xs body) c has is = let h = is.0 in absurd cc
operands-number (apply h ts) c has is =
    let logical = connective-logical (kind_of h ts) (seen-connective (apply h ts) c is) in
    let r : Connected h ts bool = connected h ts bool has logical in
    subst (Takes c) (sym (operand-number h ts bool r)) (count-takes c r.number (subst (λ k. Count k r.number) is.1 r.count))

-- ---- the operands as nodes

pub nodes-below : (t : Formulas) (k : NodeId) (ks : List NodeId) → IsNode t k → All (λ j. j.0 < k.0) ks → AreNodes t ks
nodes-below t k ks node below i d lt = let less = below i d lt in omega (arith, less, node)

module _ (t : Formulas) (u : Term) (kids : List NodeId) (terms_are : trees_at t kids ≡ operands u) where
  pub kids-formulas : sort_of u ≡ Some bool → has_connective u ≡ true → AreNodes t kids → All (IsFormula t) kids
  kids-formulas has c nodes i d lt =
      let count = kids-count t u kids terms_are in
      record { node = nodes i d lt; sort = ap sort_of (kid-term t u kids terms_are i d lt) ∙ operands-bool u has c i no_tree (omega (arith, count)) }

  pub kids-number : (c : Connective) → sort_of u ≡ Some bool → IsOfKind u (kind_seen c) → Takes c (length kids)
  kids-number c has is = subst (Takes c) (sym (kids-count t u kids terms_are)) (operands-number u c has is)

-- what is no formula is no connective
pub no-connective : (t : Term) → IsWellSorted t → (sort_of t ≡ Some bool → ⊥) → has_connective t ≡ false
no-connective t fine other = go (has_connective t) refl (sort_of t) refl (both_true (is_some (sort_of t)) (is_regular t) fine).0
  where
    go : (b : Bool) → has_connective t ≡ b → (s : Option Sort) → sort_of t ≡ s → is_some s ≡ true → b ≡ false
    go false c s has some = refl
    go true c (Some s) has some = absurd (other (connective-sort t s has c))
    go true c None has some = absurd cc

-- what a test that isn't passed tells
pub told-not : {X : Type 0} (b : Bool) → b ≡ false → (IsTrue b ↔ X) → X → ⊥
told-not true n iff x = absurd cc
told-not false n iff x = let h : false ≡ true = iff.1 x in absurd cc

-- ---- literals

pub literal-of-not : (t : Term) → IsOfKind t negation → is_literal t ≡ is_atom (nth (operands t) 0)
literal-of-not (quantified q xs body) is = let h = is.0 in absurd cc
literal-of-not (apply h ts) is = ap (λ k. literal_node k (list ts)) is.1

pub literals-of-nodes : (t : Formulas) (ks : List NodeId) → are_literals (terms (trees_at t ks)) ≡ list_all (λ k. is_literal (tree t k)) ks
literals-of-nodes t [] = refl
literals-of-nodes t (k ∷ ks) = ap (λ b. is_literal (tree t k) && b) (literals-of-nodes t ks)

terms-list : (ts : Terms) → terms (list ts) ≡ ts
terms-list none = refl
terms-list (t ⨾ ts) = ap (λ us. t ⨾ us) (terms-list ts)

pub clause-of-or : (t : Term) → IsOfKind t disjunction → is_clause t ≡ are_literals (terms (operands t))
clause-of-or (quantified q xs body) is = let h = is.0 in absurd cc
clause-of-or (apply h ts) is = ap (λ k. clause_node k ts (is_literal (apply h ts))) is.1 ∙ ap are_literals (sym (terms-list ts))
