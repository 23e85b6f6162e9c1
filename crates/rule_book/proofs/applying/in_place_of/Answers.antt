use Rattle.std.proofs.Common.{slice_get, ap, sym, ◌∙◌}
use Rattle.term_table.specs.Formulas.{tree, trees_at}
use Rattle.rule_book.specs.Seen.{view_seen, template_seen}
use Rattle.rule_book.specs.Template.{filled}
use Rattle.rule_book.proofs.RuledTerms.{replaces-filled, sorted-template}
use Rattle.rule_book.proofs.applying.in_place_of.Goals as goal

pub fill-requires-clause-sort : goal.fill-requires-clause-sort
fill-requires-clause-sort g c =
    let t = c.args.table.now in
    let answer = c.in-Some-first_answer.ensures t.sorts (tree t c.args.id) (record { sorted = c.know_table.ensures.sorted c.args.id.0 c.requires; view = c.in-Some.ensures.view }) in
    sorted-template (tree t c.args.id) (view_seen t.sorts c.in-Some.viewed.view) (template_seen c.in-Some-first_answer.template) (trees_at t c.as_slice.result.now) c.in-Some.ensures.view answer.sound
    (ap (trees_at t) c.as_slice.ensures.value ∙ c.in-Some.ensures.holes)

pub returns-clause-replaces : goal.returns-clause-replaces
returns-clause-replaces g c =
    let t = c.args.table.now in
    let p = template_seen c.in-Some-first_answer.template in
    replaces-filled (tree t c.args.id) (view_seen t.sorts c.in-Some.viewed.view) p (tree c.fill.new.table c.in_ok-filled.filled) c.in-Some.ensures.view
    (c.in-Some-first_answer.ensures t.sorts (tree t c.args.id) (record { sorted = c.know_table.ensures.sorted c.args.id.0 c.requires; view = c.in-Some.ensures.view }))
    (ap (λ us. filled (slice_get us) p) (sym (ap (trees_at t) c.as_slice.ensures.value ∙ c.in-Some.ensures.holes)) ∙ c.in_ok-filled.ensures.term)
