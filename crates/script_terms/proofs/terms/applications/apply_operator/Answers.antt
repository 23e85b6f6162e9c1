use Rattle.std.proofs.Common.{ap}
use Rattle.smt_lex.specs.Forest.{token_at}
use Rattle.smt_terms.specs.Written.{written_rank, build}
use Rattle.sort_check.specs.Forms.{written_seen}
use Rattle.term_table.specs.Formulas.{trees_at}
use Rattle.term_table.specs.ShapeRank.{kid_sorts}
use Rattle.script_terms.specs.Heads.{operand_sorts, term_algebra}
use Rattle.script_terms.proofs.AppliedNodes.{nodes_of, same_sorts, operator_spared, made_ranked}
use Rattle.script_terms.proofs.terms.applications.apply_operator.Goals as goal

pub returns-clause-term : goal.returns-clause-term
returns-clause-term c supply live spared =
    let t = c.args.table.now in
    let ks = c.args.kids.now in
    let w = written_seen c.args.operator in
    made_ranked c.make_form-made.new.table (token_at c.args.forest.now.tokens c.args.list).start supply live t.sorts (written_rank w (operand_sorts (trees_at t ks))) (written_rank w (kid_sorts t ks)) (build term_algebra w (trees_at t ks)) c.make_form-made.result c.answered.result
    (ap (written_rank w) (same_sorts t c.requires.table ks (nodes_of t supply ks spared)))
    c.answered.ensures c.make_form-made.ensures.rank c.make_form-made.ensures.node c.make_form-made.ensures.term
    (operator_spared t supply w ks spared)
