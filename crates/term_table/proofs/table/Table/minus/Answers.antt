use Rattle.std.proofs.Common.{◌≡◌, IfOk, subst}
use Rattle.smt_terms.specs.Term.{Term}
use Rattle.term_table.specs.Formulas.{tree, Adds}
use Rattle.term_table.proofs.Minus.{constant_node, opposite_fits, opposite, makes_opposite, makes_minus, opposite_term}
use Rattle.term_table.proofs.table.Table.minus.Goals as goal

pub overflow_sub-n : goal.overflow_sub-n
overflow_sub-n c = opposite_fits c.in-Whole.n (constant_node c.args.self.now c.args.kid c.in-Whole.n c.in-Whole.ensures.term c.requires.whole).1

pub intern-requires : goal.intern-requires
intern-requires c =
    let known = constant_node c.args.self.now c.args.kid c.in-Whole.n c.in-Whole.ensures.term c.requires.whole in
    makes_opposite c.args.self.now c.in-Whole.n _ known.1 (opposite c.in-Whole.n known.1)

pub intern-requires-in_default : goal.intern-requires-in_default
intern-requires-in_default c = makes_minus c.args.self.now c.args.kid c.op.result c.requires.node c.requires.whole c.op.ensures.term c.in_default.not-Whole

pub returns-in-Whole-clause-term : goal.returns-in-Whole-clause-term
returns-in-Whole-clause-term c =
    let known = constant_node c.args.self.now c.args.kid c.in-Whole.n c.in-Whole.ensures.term c.requires.whole in
    let made = opposite_term c.args.self.now c.args.kid c.in-Whole.n _ known.0 (opposite c.in-Whole.n known.1) in
    subst (λ (u : Term). IfOk c.intern.result (λ k. tree c.intern.new.self k ≡ u)) made c.intern.ensures.term

pub returns-in-Whole-clause-added : goal.returns-in-Whole-clause-added
returns-in-Whole-clause-added c =
    let known = constant_node c.args.self.now c.args.kid c.in-Whole.n c.in-Whole.ensures.term c.requires.whole in
    let made = opposite_term c.args.self.now c.args.kid c.in-Whole.n _ known.0 (opposite c.in-Whole.n known.1) in
    subst (λ (u : Term). Adds c.args.self.now.trees c.intern.new.self.trees u) made c.intern.ensures.added
