use Rattle.std.proofs.Common.{ap, sym, ◌∙◌}
use Rattle.smt_lex.specs.Forest.{token_at}
use Rattle.smt_terms.specs.declared.op.Op.TheVariants.{Sym}
use Rattle.smt_terms.specs.Rank.{rank}
use Rattle.smt_terms.specs.Term.{symbol, over}
use Rattle.term_table.specs.Formulas.{trees_at, symbol_at, rank_over, kind}
use Rattle.sort_check.specs.Making.{made_over}
use Rattle.script_terms.specs.Heads.{operand_sorts}
use Rattle.script_terms.proofs.AppliedNodes.{nodes_of, same_sorts, symbol_spared, symbol_rank, symbol_made, made_as, made_ranked}
use Rattle.script_terms.proofs.terms.applications.apply_symbol.Goals as goal

pub make-made-requires-clause-numbers : goal.make-made-requires-clause-numbers
unfolding kind
make-made-requires-clause-numbers c = c.requires.symbol

pub returns-clause-term : goal.returns-clause-term
returns-clause-term c supply live never spared =
    let t = c.args.table.now in
    let u = c.make-made.new.table in
    let ks = c.args.kids.now in
    let h = symbol (symbol_at t c.args.symbol) in
    made_ranked u (token_at c.args.forest.now.tokens c.args.list).start supply live t.sorts (rank h (operand_sorts (trees_at t ks))) (rank_over t (Sym c.args.symbol) (trees_at t ks)) (over h (trees_at t ks)) c.make-made.result c.answered.result
    (ap (rank h) (same_sorts t c.requires.table ks (nodes_of t supply ks spared)) ∙ sym (symbol_rank t c.args.symbol (trees_at t ks)))
    c.answered.ensures c.make-made.ensures.rank c.make-made.ensures.node
    (made_as t u c.make-made.result (made_over t (Sym c.args.symbol) (trees_at t ks)) (over h (trees_at t ks)) (symbol_made t c.args.symbol (trees_at t ks)) c.make-made.ensures.term)
    (symbol_spared t supply (symbol_at t c.args.symbol) ks never spared)
