use Rattle.std.proofs.Common.{◌<◌, length, refl, ◌∙◌, subst, arith}
use Rattle.smt_terms.specs.declared.op.Op.TheVariants.{Neg}
use Rattle.smt_terms.specs.Term.{Term}
use Rattle.term_table.specs.Formulas.{Adds}
use Rattle.sort_check.proofs.Nodes.{negated, minus_made}
use Rattle.sort_check.proofs.making.negated.Goals as goal

pub bounds-kids-0 : goal.bounds-kids-0
bounds-kids-0 c =
    let one = negated c.args.table.now Neg c.args.kids.now _ refl c.in_ok-rank.ensures.rank in
    let within : 0 < length c.args.kids.now = one.0 in
    omega arith

pub minus-requires-clause-node : goal.minus-requires-clause-node
minus-requires-clause-node c =
    let one = negated c.args.table.now Neg c.args.kids.now _ refl c.in_ok-rank.ensures.rank in
    c.requires.kids 0 _ one.0

pub minus-requires-clause-whole : goal.minus-requires-clause-whole
minus-requires-clause-whole c =
    let one = negated c.args.table.now Neg c.args.kids.now _ refl c.in_ok-rank.ensures.rank in
    one.1 _

pub returns-clause-term : goal.returns-clause-term
returns-clause-term c =
    let one = negated c.args.table.now Neg c.args.kids.now _ refl c.in_ok-rank.ensures.rank in
    c.in_ok-minus.ensures.term ∙ minus_made c.args.table.now Neg c.args.kids.now refl one _

pub returns-clause-added : goal.returns-clause-added
returns-clause-added c =
    let one = negated c.args.table.now Neg c.args.kids.now _ refl c.in_ok-rank.ensures.rank in
    subst (λ (u : Term). Adds c.args.table.now.trees c.minus.new.self.trees u) (minus_made c.args.table.now Neg c.args.kids.now refl one _) c.in_ok-minus.ensures.added
