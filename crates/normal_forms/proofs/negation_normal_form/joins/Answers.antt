use Rattle.std.proofs.Common.{ap}
use Rattle.term_table.specs.Formulas.{tree}
use Rattle.normal_forms.specs.Shape.{kind_seen}
use Rattle.normal_forms.proofs.Joined.{is_join, joined-again}
use Rattle.normal_forms.proofs.negation_normal_form.joins.Goals as goal

pub returns-in-And : goal.returns-in-And
returns-in-And c same ns =
    joined-again c.args.table.now (tree c.args.table.now c.args.id) (kind_seen c.args.connective) c.kids.result.now c.args.kids.now c.eq.result c.requires.shape (ap (λ k. is_join (kind_seen k)) c.in-And.is) c.kids.ensures.terms c.eq.ensures same ns

pub returns-in-Or : goal.returns-in-Or
returns-in-Or c same ns =
    joined-again c.args.table.now (tree c.args.table.now c.args.id) (kind_seen c.args.connective) c.kids-in-Or.result.now c.args.kids.now c.eq-in-Or.result c.requires.shape (ap (λ k. is_join (kind_seen k)) c.in-Or.is) c.kids-in-Or.ensures.terms c.eq-in-Or.ensures same ns
