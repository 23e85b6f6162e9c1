use Rattle.std.proofs.Common.{◌≡◌, ap, ◌∙◌}
use Rattle.smt_terms.specs.declared.op.Op.TheVariants.{Store}
use Rattle.smt_terms.specs.ArrayTerms.{stored}
use Rattle.smt_terms.specs.Term.{op, over}
use Rattle.term_table.specs.Formulas.{tree, term_over, kind}
use Rattle.term_table.proofs.Operators.{kind-theory}
use Rattle.simplify.specs.ArrayNodes.{is_opaque}
use Rattle.simplify.proofs.ArraySteps.{opaque-three, is_earlier}
use Rattle.simplify.proofs.arrays.over_three.Goals as goal

pub returns-in-Store : goal.returns-in-Store
unfolding kind
returns-in-Store c =
    let t = c.args.table.now in
    let term : tree t c.args.id ≡ stored (tree t c.args.array) (tree t c.args.index) (tree t c.args.value) = c.in-Store.ensures.term ∙ ap (over (op Store)) c.requires.kids in
    record {
      earlier = is_earlier t c.args.id c.args.array (tree t c.args.index) (tree t c.args.value) c.op.ensures.table c.requires.node c.requires.array c.requires.below term;
      index = c.requires.index;
      value = c.requires.value;
      term = term;
    }

pub returns-in_default : goal.returns-in_default
returns-in_default c =
    let t = c.args.table.now in
    ap is_opaque (c.op.ensures.term ∙ ap (term_over t c.op.result) c.requires.kids)
    ∙ opaque-three t.symbols t.sorts (kind c.op.result) (tree t c.args.array) (tree t c.args.index) (tree t c.args.value) (λ q e store. c.in_default.not-Store (kind-theory c.op.result q e ∙ store))
