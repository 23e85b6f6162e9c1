use Rattle.std.proofs.Common.{◌≡◌, false, sym, ◌∙◌, reverse, arith}
use Rattle.std.proofs.lemmas.List.{length-reverse}
use Rattle.smt_terms.proofs.Tests.{not_true}
use Rattle.term_walk.specs.FreeLists.{has_node, IsReached}
use Rattle.term_walk.proofs.FreeScan.{opened, opened-nearer, skipped, not_false}
use Rattle.term_walk.proofs.free.take_off.Goals as goal

pub returns-then-branch-clause-leads : goal.returns-then-branch-clause-leads
returns-then-branch-clause-leads c ms n fs have lists =
    let unmet : has_node c.args.met.now.keys c.args.id ≡ false = not_true (has_node c.args.met.now.keys c.args.id) (sym c.in_ok-meet.ensures.first ∙ c.if-branch.true) in
    opened c.args.table.now c.args.lists.now ms n fs c.args.id (reverse c.args.waiting.now.items) (reverse c.open.new.waiting.items) c.args.met.now.keys c.meet.new.met.keys c.args.listed.now.keys c.open.new.listed.keys c.know_table.ensures have lists unmet c.in_ok-meet.ensures.keys c.in_ok-open.ensures

pub returns-then-branch-clause-nearer : goal.returns-then-branch-clause-nearer
returns-then-branch-clause-nearer c n lt =
    let unmet : has_node c.args.met.now.keys c.args.id ≡ false = not_true (has_node c.args.met.now.keys c.args.id) (sym c.in_ok-meet.ensures.first ∙ c.if-branch.true) in
    let near = opened-nearer c.args.table.now c.args.id (reverse c.args.waiting.now.items) (reverse c.open.new.waiting.items) c.args.met.now.keys c.meet.new.met.keys c.args.listed.now.keys c.open.new.listed.keys n lt unmet c.in_ok-meet.ensures.keys c.in_ok-open.ensures in
    omega (arith, near, length-reverse c.args.waiting.now.items, length-reverse c.open.new.waiting.items)

pub returns-clause-leads : goal.returns-clause-leads
returns-clause-leads c ms n fs have lists =
    skipped c.args.table.now (IsReached ms n) fs c.args.id (reverse c.args.waiting.now.items) c.args.met.now.keys c.meet.new.met.keys c.args.listed.now.keys lists
    (not_false (has_node c.args.met.now.keys c.args.id) (sym c.in_ok-meet.ensures.first ∙ c.if-branch.false)) c.in_ok-meet.ensures.keys
