use Rattle.std.proofs.Common.{◌∷◌, [], ap, sym, ◌∙◌, subst}
use Rattle.smt_values.specs.SortIds.{IsPlain, sort_at}
use Rattle.script_terms.proofs.DrawnConstants.{parameter-plain, decimal-numeral}
use Rattle.script_terms.proofs.binders.parameter_symbol.Goals as goal

pub symbol-requires-clause-name : goal.symbol-requires-clause-name
symbol-requires-clause-name c =
    subst IsPlain (sym (c.as_bytes.ensures.value ∙ c.in_ok-name.ensures.ok ∙ ap (λ ds. 64 ∷ 112 ∷ ds) (decimal-numeral c.args.number c.ranges.number.fits))) (parameter-plain c.args.number)

pub returns-clause-symbol : goal.returns-clause-symbol
returns-clause-symbol c =
    c.in_ok-symbol.ensures.symbol
    ∙ (λ i. record {
      name = (c.as_bytes.ensures.value ∙ c.in_ok-name.ensures.ok ∙ ap (λ ds. 64 ∷ 112 ∷ ds) (decimal-numeral c.args.number c.ranges.number.fits)) i;
      args = [];
      result = sort_at c.args.table.now.sorts c.args.sort;
    })
