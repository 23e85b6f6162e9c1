-- The two parts of what division by zero gives.
use Rattle.smt_terms.specs.Models.{NumberGraph}
use Rattle.models.specs.declared.model.Division.{Division}
use Rattle.models.specs.declared.model.Division.TheVariants.{Quotient, Remainder}
use Rattle.models.specs.ModelView.{ModelLists}

abbrev pub numbers_of : Division → ModelLists → NumberGraph
numbers_of Quotient m = m.div_by_zero
numbers_of Remainder m = m.mod_by_zero

abbrev pub with_numbers : Division → NumberGraph → ModelLists → ModelLists
with_numbers Quotient g m = record m { div_by_zero = g }
with_numbers Remainder g m = record m { mod_by_zero = g }
