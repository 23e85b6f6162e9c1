use Rattle.std.proofs.Common.{true, refl}
use Rattle.smt_values.specs.SortIds.{sort_at}
use Rattle.term_table.specs.Formulas.{tree, variable_of}
use Rattle.term_subst.proofs.Gaining.{gains-both, gains-draw, gains-nodes, gains-unchanged}
use Rattle.term_subst.proofs.Renamed.{binds-fresh, drawn-makes}
use Rattle.quantifier_forms.proofs.pulling.draw.Goals as goal

pub intern-requires : goal.intern-requires
intern-requires c =
    let old = c.args.table.now in
    drawn-makes old c.next.new.table c.args.given (sort_at old.sorts c.sort_of-sort.result) (variable_of (tree old c.args.given)) c.symbol_of-symbol.result c.in_ok-drawn.drawn c.args.fresh.now c.requires.variable c.sort_of-sort.ensures.sort c.symbol_of-symbol.ensures.symbol
    c.in_ok-drawn.ensures.symbol c.in_ok-drawn.ensures.within

pub returns-in_err-renamed-clause-gains : goal.returns-in_err-renamed-clause-gains
returns-in_err-renamed-clause-gains c =
    let old = c.args.table.now in
    gains-both old c.next.new.table c.intern.new.self c.args.fresh.now c.next.new.self c.next.new.self
    (gains-draw old c.next.new.table c.args.fresh.now c.next.new.self (sort_at old.sorts c.sort_of-sort.result) c.in_ok-drawn.ensures.added c.in_ok-drawn.ensures.trees c.in_ok-drawn.ensures.sorts c.in_ok-drawn.ensures.left)
    (gains-unchanged c.next.new.table c.intern.new.self c.next.new.self c.in_err-renamed.ensures.err)

pub returns-in_err-set-clause-gains : goal.returns-in_err-set-clause-gains
returns-in_err-set-clause-gains c =
    let old = c.args.table.now in
    gains-both old c.next.new.table c.intern.new.self c.args.fresh.now c.next.new.self c.next.new.self
    (gains-draw old c.next.new.table c.args.fresh.now c.next.new.self (sort_at old.sorts c.sort_of-sort.result) c.in_ok-drawn.ensures.added c.in_ok-drawn.ensures.trees c.in_ok-drawn.ensures.sorts c.in_ok-drawn.ensures.left)
    (gains-nodes c.next.new.table c.intern.new.self c.next.new.self c.in_ok-renamed.ensures.grows.grows c.in_ok-renamed.ensures.symbols c.in_ok-renamed.ensures.sorts)

pub returns-clause-gains : goal.returns-clause-gains
returns-clause-gains c =
    let old = c.args.table.now in
    gains-both old c.next.new.table c.intern.new.self c.args.fresh.now c.next.new.self c.next.new.self
    (gains-draw old c.next.new.table c.args.fresh.now c.next.new.self (sort_at old.sorts c.sort_of-sort.result) c.in_ok-drawn.ensures.added c.in_ok-drawn.ensures.trees c.in_ok-drawn.ensures.sorts c.in_ok-drawn.ensures.left)
    (gains-nodes c.next.new.table c.intern.new.self c.next.new.self c.in_ok-renamed.ensures.grows.grows c.in_ok-renamed.ensures.symbols c.in_ok-renamed.ensures.sorts)

pub returns-clause-bound : goal.returns-clause-bound
returns-clause-bound c =
    let old = c.args.table.now in
    let gains =
    gains-both old c.next.new.table c.intern.new.self c.args.fresh.now c.next.new.self c.next.new.self
    (gains-draw old c.next.new.table c.args.fresh.now c.next.new.self (sort_at old.sorts c.sort_of-sort.result) c.in_ok-drawn.ensures.added c.in_ok-drawn.ensures.trees c.in_ok-drawn.ensures.sorts c.in_ok-drawn.ensures.left)
    (gains-nodes c.next.new.table c.intern.new.self c.next.new.self c.in_ok-renamed.ensures.grows.grows c.in_ok-renamed.ensures.symbols c.in_ok-renamed.ensures.sorts) in
    binds-fresh old c.next.new.table c.args.given (sort_at old.sorts c.sort_of-sort.result) (variable_of (tree old c.args.given)) c.symbol_of-symbol.result c.in_ok-drawn.drawn c.args.fresh.now c.requires.variable c.sort_of-sort.ensures.sort c.symbol_of-symbol.ensures.symbol
    c.in_ok-drawn.ensures.symbol c.in_ok-drawn.ensures.within
    c.intern.new.self gains.grows c.know_table.ensures c.in_ok-renamed.renamed c.in_ok-renamed.ensures.node c.in_ok-renamed.ensures.term c.symbol_of-symbol.ensures.within c.args.map.now c.set.new.self c.requires.map c.in_ok-set.ensures.set c.next.new.self c.in_ok-drawn.ensures.left
    true refl
