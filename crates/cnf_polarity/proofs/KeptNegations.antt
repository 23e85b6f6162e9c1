-- The literal of a `not`, from that of its operand.
use Rattle.std.proofs.Common.{◌≡◌, ◌<◌, true, false, List, length, get_or, refl, ap, sym, ◌∙◌, subst, arith}
use Rattle.std.specs.Prelude.{unwrap_or}
use Rattle.std.proofs.lemmas.List.{get_or-map}
use Rattle.smt_terms.specs.declared.ids.NodeId.{NodeId}
use Rattle.smt_terms.specs.Connectives.{Kind, negation, is_connective, truth_term, nth}
use Rattle.smt_terms.specs.Groups.{Named, constant_for, has_term}
use Rattle.smt_terms.specs.Shapes.{is_negation, is_negation_kind}
use Rattle.smt_terms.specs.Term.{Term, apply, quantified, list}
use Rattle.term_table.specs.Formulas.{Formulas, no_tree, tree, trees_at, operands, IsNode}
use Rattle.term_walk.specs.Walking.{GrowsTo}
use Rattle.term_walk.proofs.Members.{has-at}
use Rattle.normal_forms.specs.Nodes.{IsFormula}
use Rattle.normal_forms.specs.Shape.{IsOfKind}
use Rattle.normal_forms.proofs.KeptResults.{kids-count, kid-term}
use Rattle.quantifier_forms.specs.Memos.{Results, known_in, Sets}
use Rattle.cnf_polarity.specs.Cnf.{complement, literal_at, literal, literals}
use Rattle.cnf_polarity.specs.Literals.{HasLiteral, IsReady}
use Rattle.cnf_polarity.specs.Shapes.{has_connective}
use Rattle.cnf_polarity.proofs.OperandLiterals.{each-literal}

-- ---- which nodes are a `not`

pub kind-negation : (u : Term) (k : Kind) → IsOfKind u k → is_negation u ≡ is_negation_kind k
kind-negation (quantified q xs body) k is = let h = is.0 in absurd cc
kind-negation (apply h ts) k is = ap is_negation_kind is.1

pub no-connective-negation : (u : Term) → has_connective u ≡ false → is_negation u ≡ false
no-connective-negation (quantified q xs body) e = refl
no-connective-negation (apply h ts) e = by _ e
  where
    by : (k : Kind) → is_connective k ≡ false → is_negation_kind k ≡ false
    by negation e = absurd cc
    by _ e = refl

-- ---- the literal of a `not`

pub literal-of-negation : (ns : Named) (u : Term) → IsOfKind u negation → 0 < length (operands u) → literal ns u ≡ complement (literal ns (get_or (operands u) 0 no_tree))
literal-of-negation ns (quantified q xs body) is some = let h = is.0 in absurd cc
literal-of-negation ns (apply h ts) is some =
    ap (λ k. literal_at k (constant_for ns (apply h ts)) (apply h ts) (literals ns ts)) is.1
    ∙ ap (λ ls. complement (nth ls 0)) (each-literal ns ts)
    ∙ ap complement (get_or-map (literal ns) (list ts) 0 no_tree (truth_term false) some)

module _ (t : Formulas) (ns : Named) (ps : Results) (k : NodeId) (kids : List NodeId) (d : NodeId) (terms_are : trees_at t kids ≡ operands (tree t k)) (some : 0 < length kids) (below : (get_or kids 0 d).0 < k.0) (negative : is_negation (tree t k) ≡ true) (ready : IsReady t ns ps k) where
  pub operand-literal : HasLiteral t ns ps (get_or kids 0 d)
  operand-literal =
      let count = kids-count t (tree t k) kids terms_are in
      let first = kid-term t (tree t k) kids terms_are 0 d some in
      ready.below negative (get_or kids 0 d) below (ap (has_term (operands (tree t k))) first ∙ has-at (operands (tree t k)) 0 no_tree (omega (arith, count, some)))

  -- what is kept for the node is the complement of what was kept for its operand
  pub negation-literal : (new : Formulas) (qs : Results) (r : NodeId) → GrowsTo t new → IsNode t k → IsOfKind (tree t k) negation → IsFormula new r → tree new r ≡ complement (tree t (known_in ps 0 (get_or kids 0 d))) → Sets ps qs 0 k r → HasLiteral new ns qs k
  negation-literal new qs r grows node kind formula term sets =
      let count = kids-count t (tree t k) kids terms_are in
      let first = kid-term t (tree t k) kids terms_are 0 d some in
      let found : known_in qs 0 k ≡ r = ap (λ o. unwrap_or o k) (sets.here k refl) in
      let stays : tree new k ≡ tree t k = grows.trees.same k.0 no_tree node in
      record {
        formula = subst (λ (j : NodeId). IsFormula new j) (sym found) formula;
        term =
            ap (tree new) found ∙ term ∙ ap complement (operand-literal.term ∙ ap (literal ns) first)
            ∙ sym (literal-of-negation ns (tree t k) kind (omega (arith, count, some))) ∙ ap (literal ns) (sym stays);
      }
