use Rattle.rule_book.proofs.RuledTerms.{results-nodes, results-rewrite, results-sorts}
use Rattle.rule_book.proofs.applying.RuleStep.operand_results.Goals as goal

pub returns-clause-nodes : goal.returns-clause-nodes
returns-clause-nodes g c = results-nodes c.args.table.now c.args.id c.args.kept.now c.kids.result.now c.in_ok-found.found.items c.requires.related c.in_ok-found.ensures

pub returns-clause-terms : goal.returns-clause-terms
returns-clause-terms g c = results-rewrite c.args.table.now c.args.id c.args.kept.now c.kids.result.now c.in_ok-found.found.items c.requires.related c.in_ok-found.ensures c.kids.ensures.terms

pub returns-clause-sorts : goal.returns-clause-sorts
returns-clause-sorts g c =
    results-sorts c.args.table.now c.args.id c.args.kept.now c.kids.result.now c.in_ok-found.found.items c.requires.related c.in_ok-found.ensures
    c.rewriting_keeps_values.ensures c.kids.ensures.table c.requires.node c.kids.ensures.below c.kids.ensures.terms
