use Rattle.term_groups.proofs.ReplacedNodes.{as-many}
use Rattle.ackermann.specs.Replacing.{all_named}
use Rattle.ackermann.proofs.KeptConstants.{uses-started}
use Rattle.ackermann.proofs.replacing.replace_uses.Goals as goal

pub keep_constants-requires : goal.keep_constants-requires
keep_constants-requires c = as-many c.args.table.now c.args.constants.now c.requires.constants.terms

pub replace_all-requires-clause-started : goal.replace_all-requires-clause-started
replace_all-requires-clause-started c =
    let t = c.args.table.now in
    let us = c.args.uses.now in (
      all_named t us c.args.constants.now,
      uses-started t c.know_table.ensures us c.requires.uses c.args.constants.now c.requires.constants c.in_ok-memo.memo c.keep_all_live.new.memo c.args.order.now c.requires.nodes
          (c.in_ok-memo.ensures.replaced t) c.in_ok-memo.ensures.kept (c.in_ok-keep_all_live.ensures.replaced t) c.in_ok-keep_all_live.ensures.live c.in_ok-keep_all_live.ensures.stay,
    )

pub returns-clause-done : goal.returns-clause-done
returns-clause-done c =
    let t = c.args.table.now in
    let us = c.args.uses.now in
    c.in_ok-replace_all.ensures.done (all_named t us c.args.constants.now)
    (uses-started t c.know_table.ensures us c.requires.uses c.args.constants.now c.requires.constants c.in_ok-memo.memo c.keep_all_live.new.memo c.args.order.now c.requires.nodes
    (c.in_ok-memo.ensures.replaced t) c.in_ok-memo.ensures.kept (c.in_ok-keep_all_live.ensures.replaced t) c.in_ok-keep_all_live.ensures.live c.in_ok-keep_all_live.ensures.stay)
