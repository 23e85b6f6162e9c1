use Rattle.term_groups.specs.Seen.{named_at}
use Rattle.term_groups.proofs.ReplacedNodes.{as-many}
use Rattle.ite_free.proofs.DrawnConstants.{ites-started}
use Rattle.ite_free.proofs.removal.replace_ites.Goals as goal

pub keep_constants-requires : goal.keep_constants-requires
keep_constants-requires c = as-many c.args.table.now c.args.constants.now c.requires.constants.terms

pub replace_all-requires-clause-started : goal.replace_all-requires-clause-started
replace_all-requires-clause-started c =
    let t = c.args.table.now in
    (named_at t c.args.constants.now.symbols, ites-started t c.know_table.ensures c.args.constants.now c.requires.constants c.in_ok-memo.memo c.args.order.now c.requires.nodes (c.in_ok-memo.ensures.replaced t) c.in_ok-memo.ensures.kept)

pub returns-clause-done : goal.returns-clause-done
returns-clause-done c =
    let t = c.args.table.now in
    c.in_ok-replace_all.ensures.done (named_at t c.args.constants.now.symbols)
    (ites-started t c.know_table.ensures c.args.constants.now c.requires.constants c.in_ok-memo.memo c.args.order.now c.requires.nodes (c.in_ok-memo.ensures.replaced t) c.in_ok-memo.ensures.kept)
