use Rattle.term_table.specs.Formulas.{tree}
use Rattle.array_forms.specs.ReadNodes.{HasReads}
use Rattle.array_forms.specs.Reads.{reads}
use Rattle.normal_forms.proofs.KeptResults.{each-related, nodes-of-results, terms-of-results}
use Rattle.array_forms.proofs.over_write.operand_results.Goals as goal

pub returns-clause-nodes : goal.returns-clause-nodes
returns-clause-nodes c =
    nodes-of-results HasReads c.args.table.now c.args.kept.now c.kids.result.now c.in_ok-found.found.items c.requires.related c.in_ok-found.ensures (λ u k has. has.node)

pub returns-clause-terms : goal.returns-clause-terms
returns-clause-terms c =
    let t = c.args.table.now in
    let kids = c.kids.result.now in
    let found = c.in_ok-found.found.items in
    terms-of-results t (tree t c.args.id) kids found c.kids.ensures.terms c.in_ok-found.ensures.number reads
    (λ i d lt. (each-related HasReads t c.args.kept.now kids found c.requires.related c.in_ok-found.ensures i d lt).term)
