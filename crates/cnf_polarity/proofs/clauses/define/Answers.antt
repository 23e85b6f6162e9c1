use Rattle.std.proofs.Common.{true, false, List, map, length, All, ap, sym, ◌∙◌, subst}
use Rattle.std.proofs.lemmas.List.{length-map}
use Rattle.smt_terms.specs.declared.ids.NodeId.{NodeId}
use Rattle.smt_terms.specs.Connectives.{Kind}
use Rattle.smt_terms.specs.Term.{Term, constant}
use Rattle.term_table.specs.Formulas.{tree, trees_at, operands}
use Rattle.quantifier_forms.specs.Memos.{known_in}
use Rattle.normal_forms.specs.Nodes.{IsFormula}
use Rattle.normal_forms.specs.Shape.{Takes, kind_seen}
use Rattle.cnf_polarity.specs.Cnf.{occurs, literal, positive_clauses, negative_clauses}
use Rattle.cnf_polarity.specs.Putting.{Puts}
use Rattle.cnf_polarity.proofs.NodeConnectives.{seen-connective, kids-number}
use Rattle.cnf_polarity.proofs.OperandLiterals.{known-formulas, known-terms, clauses-by}
use Rattle.cnf_polarity.proofs.PutFormulas.{formulas-stay}
use Rattle.cnf_polarity.proofs.PutWhere.{PutsWhere, put-where, put-nothing, put-both}
use Rattle.cnf_polarity.proofs.clauses.define.Goals.{then-polarities+in_ok-positive_clauses, else-polarities, then-polarities-2+in_ok-negative_clauses, else-polarities-2}
use Rattle.cnf_polarity.proofs.clauses.define.Goals as goal

pub positive_clauses-requires-clause-ls : goal.positive_clauses-requires-clause-ls
positive_clauses-requires-clause-ls c =
    let t = c.args.table.now in
    let u = tree t c.args.id in
    subst (λ (ks : List NodeId). All (IsFormula t) ks) (sym (c.deref.ensures.value ∙ c.in_ok-operands.ensures))
    (known-formulas t c.args.literals.now c.args.id c.kids.result.now c.kids.ensures.terms c.kids.ensures.below
    (c.requires.literals (seen-connective u c.in-Some.connective c.in-Some.ensures.connective)))

pub positive_clauses-requires-clause-number : goal.positive_clauses-requires-clause-number
positive_clauses-requires-clause-number c =
    let t = c.args.table.now in
    subst (Takes c.in-Some.connective) (sym (ap length (c.deref.ensures.value ∙ c.in_ok-operands.ensures) ∙ length-map c.kids.result.now (known_in c.args.literals.now 0)))
    (kids-number t (tree t c.args.id) c.kids.result.now c.kids.ensures.terms c.in-Some.connective c.in-Some.ensures.formula.sort c.in-Some.ensures.connective)

pub negative_clauses-requires-clause-ls : goal.negative_clauses-requires-clause-ls
negative_clauses-requires-clause-ls c =
    let t = c.args.table.now in
    let u = tree t c.args.id in
    let ls : List NodeId = map (known_in c.args.literals.now 0) c.kids.result.now in
    let formulas : All (IsFormula t) ls =
    known-formulas t c.args.literals.now c.args.id c.kids.result.now c.kids.ensures.terms c.kids.ensures.below
    (c.requires.literals (seen-connective u c.in-Some.connective c.in-Some.ensures.connective)) in
    subst (λ (ks : List NodeId). All (IsFormula c.if-polarities.table) ks) (sym (c.deref-then-polarities-2.ensures.value ∙ c.in_ok-operands.ensures))
    (elim c.if-polarities.branch [
      | then-polarities+in_ok-positive_clauses w ↦ subst (λ x. All (IsFormula x) ls) (sym w.table-is) (formulas-stay t w.positive_clauses.new.table w.in_ok-positive_clauses.ensures.grows ls formulas)
      | else-polarities w ↦ subst (λ x. All (IsFormula x) ls) (sym w.table-is) formulas
    ])

pub negative_clauses-requires-clause-number : goal.negative_clauses-requires-clause-number
negative_clauses-requires-clause-number c =
    let t = c.args.table.now in
    subst (Takes c.in-Some.connective) (sym (ap length (c.deref-then-polarities-2.ensures.value ∙ c.in_ok-operands.ensures) ∙ length-map c.kids.result.now (known_in c.args.literals.now 0)))
    (kids-number t (tree t c.args.id) c.kids.result.now c.kids.ensures.terms c.in-Some.connective c.in-Some.ensures.formula.sort c.in-Some.ensures.connective)

pub returns-clause-formulas : goal.returns-clause-formulas
returns-clause-formulas c =
    let first : All (IsFormula c.if-polarities.table) c.if-polarities.asserts =
    elim c.if-polarities.branch [
      | then-polarities+in_ok-positive_clauses w ↦ subst (λ x. All (IsFormula x) c.if-polarities.asserts) (sym w.table-is) (subst (λ (ks : List NodeId). All (IsFormula w.positive_clauses.new.table) ks) (sym w.asserts-is) w.in_ok-positive_clauses.ensures.puts.formulas)
      | else-polarities w ↦ subst (λ x. All (IsFormula x) c.if-polarities.asserts) (sym w.table-is) (subst (λ (ks : List NodeId). All (IsFormula c.args.table.now) ks) (sym w.asserts-is) c.requires.asserts)
    ] in
    elim c.if-polarities-2.branch [
      | then-polarities-2+in_ok-negative_clauses w ↦ subst (λ x. All (IsFormula x) c.if-polarities-2.asserts) (sym w.table-is) (subst (λ (ks : List NodeId). All (IsFormula w.negative_clauses.new.table) ks) (sym w.asserts-is) w.in_ok-negative_clauses.ensures.puts.formulas)
      | else-polarities-2 w ↦ subst (λ x. All (IsFormula x) c.if-polarities-2.asserts) (sym w.table-is) (subst (λ (ks : List NodeId). All (IsFormula c.if-polarities.table) ks) (sym w.asserts-is) first)
    ]

pub returns-clause-puts : goal.returns-clause-puts
returns-clause-puts c ns os f name_is have marks =
    let t = c.args.table.now in
    let u = tree t c.args.id in
    let t1 = c.if-polarities.table in
    let t2 = c.if-polarities-2.table in
    let k : Kind = kind_seen c.in-Some.connective in
    let name = c.args.name in
    let ls : List NodeId = map (known_in c.args.literals.now 0) c.kids.result.now in
    let connective = seen-connective u c.in-Some.connective c.in-Some.ensures.connective in
    let one : PutsWhere c.of-polarities.result.positive t t1 c.args.asserts.now c.if-polarities.asserts (positive_clauses k (tree t name) (trees_at t ls)) =
    elim c.if-polarities.branch [
      | then-polarities+in_ok-positive_clauses w ↦
          put-where c.of-polarities.result.positive t w.positive_clauses.new.table t1 c.args.asserts.now w.positive_clauses.new.asserts c.if-polarities.asserts (positive_clauses k (tree t name) (trees_at t ls))
          w.if-polarities.true w.table-is w.asserts-is w.in_ok-positive_clauses.ensures.grows
          (subst (λ (ks : List NodeId). Puts t w.positive_clauses.new.table c.args.asserts.now w.positive_clauses.new.asserts (positive_clauses k (tree t name) (trees_at t ks))) (w.deref.ensures.value ∙ c.in_ok-operands.ensures) w.in_ok-positive_clauses.ensures.puts)
      | else-polarities w ↦
          put-nothing c.of-polarities.result.positive t t1 c.args.asserts.now c.if-polarities.asserts (positive_clauses k (tree t name) (trees_at t ls))
          w.if-polarities.false w.table-is w.asserts-is c.requires.asserts
    ] in
    let two : PutsWhere c.of-polarities.result.negative t1 t2 c.if-polarities.asserts c.if-polarities-2.asserts (negative_clauses k (tree t1 name) (trees_at t1 ls)) =
    elim c.if-polarities-2.branch [
      | then-polarities-2+in_ok-negative_clauses w ↦
          put-where c.of-polarities.result.negative t1 w.negative_clauses.new.table t2 c.if-polarities.asserts w.negative_clauses.new.asserts c.if-polarities-2.asserts (negative_clauses k (tree t1 name) (trees_at t1 ls))
          w.if-polarities-2.true w.table-is w.asserts-is w.in_ok-negative_clauses.ensures.grows
          (subst (λ (ks : List NodeId). Puts t1 w.negative_clauses.new.table c.if-polarities.asserts w.negative_clauses.new.asserts (negative_clauses k (tree t1 name) (trees_at t1 ks))) (w.deref-then-polarities-2.ensures.value ∙ c.in_ok-operands.ensures) w.in_ok-negative_clauses.ensures.puts)
      | else-polarities-2 w ↦
          put-nothing c.of-polarities.result.negative t1 t2 c.if-polarities.asserts c.if-polarities-2.asserts (negative_clauses k (tree t1 name) (trees_at t1 ls))
          w.if-polarities-2.false w.table-is w.asserts-is one.puts.formulas
    ] in
    subst (λ (vs : List Term). Puts t t2 c.args.asserts.now c.if-polarities-2.asserts vs) (sym (clauses-by ns os f u k c.in-Some.ensures.connective))
    (put-both t t1 t2 c.args.asserts.now c.if-polarities.asserts c.if-polarities-2.asserts k name ls c.of-polarities.result.positive c.of-polarities.result.negative (occurs true u os) (occurs false u os)
    (constant f) (map (literal ns) (operands u)) c.requires.name (known-formulas t c.args.literals.now c.args.id c.kids.result.now c.kids.ensures.terms c.kids.ensures.below (c.requires.literals connective))
    name_is (known-terms t c.args.literals.now c.args.id c.kids.result.now c.kids.ensures.terms c.kids.ensures.below ns (have connective))
    (ap (λ p. p.positive) c.of-polarities.ensures ∙ marks true) (ap (λ p. p.negative) c.of-polarities.ensures ∙ marks false) one two)
