use Rattle.std.proofs.Common.{ap, sym, ◌∙◌, subst, All, List, reverse}
use Rattle.smt_terms.specs.declared.ids.SymId.{SymId}
use Rattle.smt_terms.specs.Free.{with_more}
use Rattle.term_table.specs.Formulas.{IsSymbol, tree}
use Rattle.term_walk.specs.FreeLists.{named, EachOnce}
use Rattle.term_walk.proofs.FreeScan.{free-once, opens-listed, opens-applied}
use Rattle.term_walk.proofs.free.open.Goals as goal

pub list_all-requires-clause-symbols : goal.list_all-requires-clause-symbols
list_all-requires-clause-symbols c =
    let own = c.requires.lists c.in-Some.list.now (sym c.in-Some.ensures) in
    subst (All (IsSymbol c.args.table.now)) (sym c.as_slice.ensures.value) own.symbols

pub list_all-requires-clause-once : goal.list_all-requires-clause-once
list_all-requires-clause-once c =
    let own = c.requires.lists c.in-Some.list.now (sym c.in-Some.ensures) in
    subst (λ (fs : List SymId). EachOnce (named c.args.table.now fs)) (sym c.as_slice.ensures.value) (free-once c.args.table.now (tree c.args.table.now c.args.id) c.in-Some.list.now.items own)

pub returns-in_ok-list_all-in-Some : goal.returns-in_ok-list_all-in-Some
returns-in_ok-list_all-in-Some c =
    let own = c.requires.lists c.in-Some.list.now (sym c.in-Some.ensures) in
    opens-listed c.args.table.now c.args.id (reverse c.args.waiting.now.items) c.args.listed.now.keys c.list_all.new.listed.keys c.in-Some.list.now.items own
    (c.in_ok-list_all-in-Some.ensures.names ∙ ap (λ fs. with_more (named c.args.table.now c.args.listed.now.keys) (named c.args.table.now fs)) c.as_slice.ensures.value)
    c.in_ok-list_all-in-Some.ensures.symbols

pub returns-in_ok-wait_for-in-None : goal.returns-in_ok-wait_for-in-None
returns-in_ok-wait_for-in-None c =
    opens-applied c.args.table.now c.args.id (reverse c.args.waiting.now.items) (reverse c.wait_for.new.waiting.items) c.args.listed.now.keys c.list_own.new.listed.keys c.kids.result.now c.requires.node (c.requires.applied (sym c.in-None.ensures)) c.in_ok-wait_for-in-None.ensures.order c.in_ok-list_own-in-None.ensures.names c.in_ok-list_own-in-None.ensures.symbols c.kids.ensures.terms c.kids.ensures.below
