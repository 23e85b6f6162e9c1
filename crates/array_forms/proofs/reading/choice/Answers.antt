use Rattle.std.proofs.Common.{ap, ◌∙◌, arith}
use Rattle.smt_terms.specs.Connectives.{equal}
use Rattle.smt_terms.specs.Rank.{sort_of}
use Rattle.smt_terms.proofs.StoredTerms.{fine_term}
use Rattle.term_table.specs.Formulas.{tree, kind}
use Rattle.array_forms.specs.Reads.{where_equal}
use Rattle.array_forms.proofs.OverWrites.{three-nodes, chosen-sort, makes-choice, made-choice}
use Rattle.array_forms.proofs.reading.choice.Goals as goal

pub intern-requires : goal.intern-requires
intern-requires c =
    let t = c.args.table.now in
    let new = c.equation.new.table in
    let w = c.args.write in
    let i = tree t w.index in
    let j = tree t c.args.index in
    let grows = c.equation.ensures.grows in
    let longer = grows.trees.longer in
    let value = c.requires.suits.value in
    let other = c.requires.other in
    let f = fine_term (tree t c.args.other) (c.know_table.ensures.sorted c.args.other.0 c.requires.other) in
    makes-choice new c.in_ok-same.same w.value c.args.other (where_equal i j (tree t w.value) (tree t c.args.other)) f.sort
    (three-nodes new c.in_ok-same.same w.value c.args.other c.in_ok-same.ensures.node (omega arith) (omega arith))
    (made-choice t new c.in_ok-same.same w.value c.args.other (equal i j) grows c.in_ok-same.ensures.term c.requires.suits.value c.requires.other)
    (chosen-sort t c.args.index c.args.other w c.know_table.ensures c.requires.index c.requires.other c.requires.suits ∙ f.has)

pub returns-clause-sort : goal.returns-clause-sort
unfolding kind
returns-clause-sort c =
    let t = c.args.table.now in
    let w = c.args.write in
    ap sort_of (c.in_ok-id.ensures.term
    ∙ made-choice t c.equation.new.table c.in_ok-same.same w.value c.args.other (equal (tree t w.index) (tree t c.args.index)) c.equation.ensures.grows c.in_ok-same.ensures.term c.requires.suits.value c.requires.other)
    ∙ chosen-sort t c.args.index c.args.other w c.know_table.ensures c.requires.index c.requires.other c.requires.suits
