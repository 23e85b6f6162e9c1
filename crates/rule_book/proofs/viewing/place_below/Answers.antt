use Rattle.std.proofs.Common.{◌≡◌, true, length, ap, sym, ◌∙◌, rules, arith}
use Rattle.std.specs.Prelude.{is_some}
use Rattle.std.proofs.lemmas.List.{length-map}
use Rattle.term_table.specs.Formulas.{tree, tree_in, operands}
use Rattle.rule_book.specs.View.{shown_operand}
use Rattle.rule_book.proofs.ShownOperators.{shown-short}
use Rattle.rule_book.proofs.viewing.place_below.Goals as goal

pub place_all-requires-clause-room : goal.place_all-requires-clause-room
place_all-requires-clause-room c =
    let t = c.args.table.now in
    let u = tree t c.args.id in
    let kids = c.kids.result.now in
    let shown : is_some (shown_operand u) ≡ true = search rules in
    let number : length (operands u) ≡ length kids = ap length (sym c.kids.ensures.terms) ∙ length-map kids (tree_in t.trees) in
    let short = shown-short u (c.kids.ensures.table.sorted c.args.id.0 c.requires.node) shown in
    let room = c.requires.room in
    omega arith

pub returns-then-is_some-clause-number : goal.returns-then-is_some-clause-number
returns-then-is_some-clause-number c =
    let t = c.args.table.now in
    let u = tree t c.args.id in
    let kids = c.kids.result.now in
    let shown : is_some (shown_operand u) ≡ true = search rules in
    let number : length (operands u) ≡ length kids = ap length (sym c.kids.ensures.terms) ∙ length-map kids (tree_in t.trees) in
    let short = shown-short u (c.kids.ensures.table.sorted c.args.id.0 c.requires.node) shown in
    let more = c.place_all.ensures.number in
    omega arith
