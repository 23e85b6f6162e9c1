use Rattle.std.proofs.Common.{rules, sym, ◌∙◌}
use Rattle.std.proofs.lemmas.Iterator.{YieldsList-from_slice}
use Rattle.std.proofs.lemmas.Iterator.Search.{all_from_yields_List}
use Rattle.smt_terms.specs.Shapes.{is_literal}
use Rattle.term_table.specs.Formulas.{tree}
use Rattle.cnf_polarity.proofs.NodeConnectives.{literals-of-nodes}
use Rattle.cnf_polarity.proofs.shapes.are_literals.Goals as goal

pub returns : goal.returns
returns c =
    all_from_yields_List (λ k. is_literal (tree c.args.table.now k)) _ _ _ c.all.ensures.ran (YieldsList-from_slice c.args.ids.now c.iter.ensures.rest) (λ x b q k. search rules)
    ∙ sym (literals-of-nodes c.args.table.now c.args.ids.now)
