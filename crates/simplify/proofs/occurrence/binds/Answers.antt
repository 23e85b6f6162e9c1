use Rattle.std.proofs.Common.{◌-◌, take, length, ◌∙◌}
use Rattle.term_table.specs.Formulas.{tree}
use Rattle.normal_forms.specs.Shape.{variables_of}
use Rattle.quantifier_forms.proofs.Bodies.{bound-variables, kid-nodes}
use Rattle.simplify.proofs.Occurrences.{bound-told}
use Rattle.simplify.proofs.occurrence.binds.Goals as goal

pub returns : goal.returns
returns c =
    let t = c.args.table.now in
    let kids = c.kids-kids.result.now in
    c.is_listed.ensures
    ∙ bound-told t c.know_table.ensures c.args.variable c.requires.variable c.requires.constant (take (length kids - 1) kids) (variables_of (tree t c.args.id))
    (kid-nodes t c.args.id kids c.requires.node c.kids-kids.ensures.below)
    (bound-variables t (tree t c.args.id) c.requires.quantified kids c.kids-kids.ensures.terms)
