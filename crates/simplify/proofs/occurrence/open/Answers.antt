use Rattle.std.proofs.Common.{refl, sym, ◌∙◌}
use Rattle.simplify.proofs.Occurrences.{opens-applied, opens-binder, opens-body}
use Rattle.simplify.proofs.occurrence.open.Goals as goal

pub returns-then-not-is_binder : goal.returns-then-not-is_binder
returns-then-not-is_binder c =
    opens-applied c.args.table.now c.know_table.ensures c.args.variable c.requires.variable c.requires.constant c.args.id c.requires.node c.args.waiting.now.items c.extend_from_slice.new.self.items
    c.requires.other (sym c.is_binder.ensures ∙ c.if-not-is_binder.true) c.kids.result.now c.kids.ensures.terms c.kids.ensures.below c.in_ok-extend_from_slice.ensures.items

pub returns-then-binds : goal.returns-then-binds
returns-then-binds c =
    opens-binder c.args.table.now c.know_table.ensures c.args.variable c.requires.variable c.requires.constant c.args.id c.requires.node c.args.waiting.now.items c.args.waiting.now.items
    (sym c.is_binder.ensures ∙ c.if-not-is_binder.false) (sym c.binds.ensures ∙ c.if-binds.true) refl

pub returns : goal.returns
returns c =
    opens-body c.args.table.now c.know_table.ensures c.args.variable c.requires.variable c.requires.constant c.args.id c.requires.node c.args.waiting.now.items c.push.new.self.items
    (sym c.is_binder.ensures ∙ c.if-not-is_binder.false) (sym c.binds.ensures ∙ c.if-binds.false)
    c.body_below.result c.body_below.ensures.below c.body_below.ensures.term c.in_ok-push.ensures.items
