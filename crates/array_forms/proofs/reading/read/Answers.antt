use Rattle.std.proofs.Common.{Option, All, ap, sym, ◌∙◌, subst}
use Rattle.std.proofs.lemmas.List.Elements.{All-weaker}
use Rattle.smt_terms.specs.ArrayTerms.{selected}
use Rattle.smt_terms.specs.Rank.{sort_of}
use Rattle.smt_terms.specs.Sorts.{Sort}
use Rattle.term_table.specs.Formulas.{tree}
use Rattle.array_forms.specs.Writes.{over_writes, Suits}
use Rattle.array_forms.proofs.OverWrites.{suits-still, over-still}
use Rattle.array_forms.proofs.ReadsKeep.{read_keeps}
use Rattle.array_forms.proofs.reading.read.Goals as goal

pub go_back-requires-clause-suit : goal.go_back-requires-clause-suit
go_back-requires-clause-suit c =
    let t = c.args.table.now in
    let new = c.read_at_end.new.table in
    let j = tree t c.args.index in
    let s : Option Sort = sort_of (selected (tree t c.args.array) j) in
    let grows = c.read_at_end.ensures.grows in
    let there = (read_keeps (tree t c.in_ok-end.end) j c.in_ok-end.ensures.sorted).sort in
    subst (λ o. All (Suits new (tree new c.args.index) o) c.go_down.new.passed.items) (sym (ap sort_of c.in_ok-element.ensures.term ∙ there ∙ c.in_ok-end.ensures.sort))
    (All-weaker (Suits t j s) (Suits new (tree new c.args.index) s) (λ w h. suits-still t new c.args.index s w grows c.requires.index h) c.go_down.new.passed.items c.in_ok-end.ensures.suit)

pub returns-clause-term : goal.returns-clause-term
returns-clause-term c =
    let t = c.args.table.now in
    let new = c.read_at_end.new.table in
    let j = tree t c.args.index in
    let s : Option Sort = sort_of (selected (tree t c.args.array) j) in
    c.in_ok-id.ensures.term
    ∙ over-still t new c.args.index s c.go_down.new.passed.items (tree new c.in_ok-element.element) c.read_at_end.ensures.grows c.requires.index c.in_ok-end.ensures.suit
    ∙ ap (over_writes t j c.go_down.new.passed.items) c.in_ok-element.ensures.term
    ∙ sym c.in_ok-end.ensures.term
