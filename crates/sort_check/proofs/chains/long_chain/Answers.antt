use Rattle.std.proofs.Common.{◌<◌, ◌≤◌, List, length, Result, Err, sym, ap, ◌∙◌, subst, arith}
use Rattle.std.proofs.lemmas.Result.{err_from_is_err_and}
use Rattle.smt_terms.specs.declared.ids.NodeId.{NodeId}
use Rattle.smt_terms.specs.declared.op.Op.TheVariants.{And}
use Rattle.smt_terms.specs.Rank.{shape}
use Rattle.smt_terms.specs.Term.{Term}
use Rattle.smt_terms.specs.Written.{itself_or_join}
use Rattle.term_table.specs.Formulas.{trees_at}
use Rattle.sort_check.specs.declared.fault.MakeFault.{MakeFault}
use Rattle.sort_check.specs.Making.{term_algebra, Builds}
use Rattle.sort_check.specs.Operands.{chained}
use Rattle.sort_check.proofs.Answering.{refused_builds, memory_builds, made_builds}
use Rattle.sort_check.proofs.Growing.{extends-trans}
use Rattle.sort_check.proofs.Linking.{link_pair, chain_refused, chain_ranked, chain_built, more_links, more_rest, two_or_more}
use Rattle.sort_check.proofs.chains.long_chain.Goals as goal

pub alike-requires-clause-pair : goal.alike-requires-clause-pair
alike-requires-clause-pair c = link_pair (shape c.args.op) c.requires.apt

pub returns-in_err-alike : goal.returns-in_err-alike
returns-in_err-alike c =
    let p = err_from_is_err_and c.from_residual.result c.from_residual.ensures.1 in
    let t = c.args.table.now in
    subst (λ (r : Result NodeId MakeFault). Builds t t (chained c.args.exchanged c.args.op) c.args.kids.now r) (sym (p.1 ∙ ap Err p.2))
    (refused_builds t (chained c.args.exchanged c.args.op) c.args.kids.now _ (chain_refused c.args.op c.args.exchanged _ _ c.in_err-alike.ensures.fault) c.in_err-alike.ensures.sorts)

pub returns-in_err-links : goal.returns-in_err-links
returns-in_err-links c =
    let p = err_from_is_err_and c.from_residual-in_err-links.result c.from_residual-in_err-links.ensures.1 in
    let t = c.args.table.now in
    subst (λ (r : Result NodeId MakeFault). Builds t c.links.new.table (chained c.args.exchanged c.args.op) c.args.kids.now r) (sym (p.1 ∙ ap Err p.2))
    (memory_builds t c.links.new.table (chained c.args.exchanged c.args.op) c.args.kids.now (chain_ranked c.args.op c.args.exchanged _ c.in_ok-alike.ensures.fault) c.links.ensures.extends)

pub conjunction-requires-clause-several : goal.conjunction-requires-clause-several
conjunction-requires-clause-several c =
    let t = c.args.table.now in
    let two = two_or_more t c.args.op c.args.kids.now c.in_ok-alike.ensures.fault in
    let three : 3 ≤ length c.args.kids.now = let other = c.requires.other in omega arith in
    subst (λ (l : List NodeId). 1 < length l) (sym c.deref.ensures.value)
    (more_links t c.links.new.table c.args.op c.args.exchanged _ _ c.in_ok-links.links.items (more_rest c.args.kids.now three) c.in_ok-links.ensures.terms)

pub returns-in_err-node : goal.returns-in_err-node
returns-in_err-node c =
    let p = err_from_is_err_and c.from_residual-in_err-node.result c.from_residual-in_err-node.ensures.1 in
    let t = c.args.table.now in
    subst (λ (r : Result NodeId MakeFault). Builds t c.conjunction.new.table (chained c.args.exchanged c.args.op) c.args.kids.now r) (sym (p.1 ∙ ap Err p.2))
    (memory_builds t c.conjunction.new.table (chained c.args.exchanged c.args.op) c.args.kids.now (chain_ranked c.args.op c.args.exchanged _ c.in_ok-alike.ensures.fault)
    (extends-trans t c.links.new.table c.conjunction.new.table c.links.ensures.extends c.conjunction.ensures.extends))

pub returns : goal.returns
returns c =
    let t = c.args.table.now in
    made_builds t c.conjunction.new.table (chained c.args.exchanged c.args.op) c.args.kids.now c.in_ok-node.node (chain_ranked c.args.op c.args.exchanged _ c.in_ok-alike.ensures.fault) c.in_ok-node.ensures.node
    (c.in_ok-node.ensures.term ∙ ap (λ (ts : List Term). itself_or_join term_algebra And ts) (ap (trees_at c.links.new.table) c.deref.ensures.value ∙ c.in_ok-links.ensures.terms)
    ∙ chain_built t c.args.op c.args.exchanged c.args.kids.now _ (two_or_more t c.args.op c.args.kids.now c.in_ok-alike.ensures.fault))
    (extends-trans t c.links.new.table c.conjunction.new.table c.links.ensures.extends c.conjunction.ensures.extends)
