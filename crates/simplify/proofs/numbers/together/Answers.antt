use Rattle.std.proofs.Common.{◌≡◌, ◌∷◌, ◌∙◌, ap, map, subst}
use Rattle.std.proofs.lemmas.Int.{to_z-of_z}
use Rattle.smt_terms.specs.Values.{whole}
use Rattle.smt_values.specs.Applied.{IsWithin}
use Rattle.smt_values.specs.Meaning.{scalar_value}
use Rattle.term_table.specs.Formulas.{trees_at}
use Rattle.simplify.specs.Gathering.{combined_values, values_in}
use Rattle.simplify.proofs.Gathered.{gathering, whole_value}
use Rattle.simplify.proofs.GatheredNodes.{int_terms}
use Rattle.simplify.proofs.numbers.together.Goals as goal
use mir.Syntax.{w128}

pub returns : goal.returns
returns c =
    let g = gathering c.args.op c.args.neutral c.requires.gathers in
    let ss = c.in_ok-constants.constants.items in
    let ts = trees_at c.args.table.now c.args.ids.now in
    let values = subst (λ z. map scalar_value ss ≡ whole z ∷ whole z ∷ values_in ts) (to_z-of_z w128 c.args.neutral c.ranges.neutral) c.in_ok-constants.ensures.values in
    subst (IsWithin c.combined-number.result)
    (ap (λ rs. combined_values c.args.op (map scalar_value rs)) c.deref.ensures.value ∙ whole_value c.args.op c.args.neutral g ss ts (int_terms c.args.table.now c.args.ids.now c.requires.ids) values)
    c.combined-number.ensures
