use Rattle.std.proofs.Common.{◌≡◌, refl, ap, sym, ◌∙◌, subst}
use Rattle.smt_terms.specs.Connectives.{all_of}
use Rattle.smt_terms.specs.Rank.{sort_of}
use Rattle.smt_terms.specs.Term.{Term}
use Rattle.term_table.specs.Formulas.{tree, trees_at}
use Rattle.term_groups.specs.Parts.{AreParts}
use Rattle.bit_blast.specs.Subterms.{is_open}
use Rattle.bit_blast.proofs.SubtermNodes.{FindsParts, front-subterms}
use Rattle.bit_blast.proofs.subterms.below_several.Goals as goal

pub returns-clause-order : goal.returns-clause-order
returns-clause-order c =
    let t = c.conjunction.new.table in
    let roots = trees_at c.args.table.now c.args.roots.now in
    let ks = c.in_ok-order.order.items in
    let is : tree t c.in_ok-whole.whole ≡ all_of roots = c.in_ok-whole.ensures.term in
    let sort = ap sort_of (sym is) ∙ c.in_ok-whole.ensures.formula.sort in
    let parts = subst (λ (u : Term). AreParts is_open u (trees_at t ks)) is (c.in_ok-order.ensures.parts is_open (λ k node. refl) (λ q xs v. refl)) in
    let met = subst (FindsParts t ks) is (λ wanted. c.in_ok-order.ensures.collected is_open wanted (λ k node. refl) (λ q xs v. refl)) in
    front-subterms t ks c.pop.new.self.items roots c.in_ok-order.order.len c.in_ok-order.ensures.nodes c.in_ok-order.order.ok.0 c.pop.ensures.rest parts sort met
