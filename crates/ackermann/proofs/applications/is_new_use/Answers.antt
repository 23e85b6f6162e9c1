use Rattle.std.proofs.Common.{◌&&◌, ap, sym, ◌∙◌, is_none}
use Rattle.smt_terms.specs.Groups.{constant_for}
use Rattle.term_table.specs.Formulas.{tree}
use Rattle.ackermann.specs.LiveUses.{named_uses}
use Rattle.ackermann.proofs.FoundUses.{told-none, none-alike}
use Rattle.ackermann.proofs.applications.is_new_use.Goals as goal

pub returns-then-is_some : goal.returns-then-is_some
returns-then-is_some c =
    let t = c.args.table.now in
    told-none c.constant_of.result c.is_none.result c.is_none.ensures ∙ ap is_none c.constant_of.ensures
    ∙ none-alike t c.know_table.ensures c.args.uses.now c.requires.uses c.args.id c.requires.node
    ∙ ap (λ b. b && is_none (constant_for (named_uses t c.args.uses.now) (tree t c.args.id))) (sym c.if-is_some.true ∙ c.is_some.ensures ∙ c.function_of.ensures.some)
