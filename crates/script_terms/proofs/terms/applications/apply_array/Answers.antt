use Rattle.std.proofs.Common.{ap, sym, ◌∙◌}
use Rattle.smt_lex.specs.Forest.{token_at}
use Rattle.smt_terms.specs.declared.op.Op.TheVariants.{ConstArray}
use Rattle.smt_terms.specs.Rank.{rank}
use Rattle.smt_terms.specs.Term.{const_array, over}
use Rattle.smt_values.specs.SortIds.{sort_at}
use Rattle.term_table.specs.Formulas.{trees_at, rank_over, kind}
use Rattle.sort_check.specs.Making.{made_over}
use Rattle.script_terms.specs.Heads.{operand_sorts}
use Rattle.script_terms.proofs.AppliedNodes.{nodes_of, same_sorts, array_spared, array_rank, array_made, made_as, made_ranked}
use Rattle.script_terms.proofs.terms.applications.apply_array.Goals as goal

pub make-made-requires-clause-numbers : goal.make-made-requires-clause-numbers
unfolding kind
make-made-requires-clause-numbers c = c.requires.sort

pub returns-clause-term : goal.returns-clause-term
returns-clause-term c supply live spared =
    let t = c.args.table.now in
    let u = c.make-made.new.table in
    let ks = c.args.kids.now in
    let h = const_array (sort_at t.sorts c.args.sort) in
    made_ranked u (token_at c.args.forest.now.tokens c.args.list).start supply live t.sorts (rank h (operand_sorts (trees_at t ks))) (rank_over t (ConstArray c.args.sort) (trees_at t ks)) (over h (trees_at t ks)) c.make-made.result c.answered.result
    (ap (rank h) (same_sorts t c.requires.table ks (nodes_of t supply ks spared)) ∙ sym (array_rank t c.args.sort (trees_at t ks)))
    c.answered.ensures c.make-made.ensures.rank c.make-made.ensures.node
    (made_as t u c.make-made.result (made_over t (ConstArray c.args.sort) (trees_at t ks)) (over h (trees_at t ks)) (array_made t c.args.sort (trees_at t ks)) c.make-made.ensures.term)
    (array_spared t supply (sort_at t.sorts c.args.sort) ks spared)
