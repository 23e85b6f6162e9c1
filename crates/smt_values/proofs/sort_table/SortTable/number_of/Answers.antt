use Rattle.std.proofs.Common.{◌∙◌, subst, ap, arith, List}
use Rattle.smt_terms.specs.Sorts.{Sort}
use Rattle.smt_values.specs.Compounds.{sorts_of, compound_sort}
use Rattle.smt_values.specs.SortIds.{AddsSort}
use Rattle.smt_values.proofs.SortIds.{sort_placed}
use Rattle.smt_values.proofs.Compounds.{gained}
use Rattle.smt_values.proofs.sort_table.SortTable.number_of.Goals as goal

pub invariant_of-self-2 : goal.invariant_of-self-2
invariant_of-self-2 c = (gained c.self.inside.compounds.keys c.args.compound c.in_ok-place.place c.self.invariant c.insert_full.new.self.keys (rw c.self.view_is c.requires) c.in_ok-place.ensures.keys c.in_ok-place.ensures.stored).are

pub returns-clause-within : goal.returns-clause-within
returns-clause-within c = let g = (gained c.self.inside.compounds.keys c.args.compound c.in_ok-place.place c.self.invariant c.insert_full.new.self.keys (rw c.self.view_is c.requires) c.in_ok-place.ensures.keys c.in_ok-place.ensures.stored).within in omega (arith, g)

pub returns-clause-sort : goal.returns-clause-sort
returns-clause-sort c =
    sort_placed (sorts_of c.insert_full.new.self.keys) c.in_ok-place.place
    ∙ (gained c.self.inside.compounds.keys c.args.compound c.in_ok-place.place c.self.invariant c.insert_full.new.self.keys (rw c.self.view_is c.requires) c.in_ok-place.ensures.keys c.in_ok-place.ensures.stored).sort
    ∙ ap (λ (ss : List Sort). compound_sort ss c.args.compound) c.self.view_is

pub returns-clause-grows : goal.returns-clause-grows
returns-clause-grows c =
    let P : List Sort → Type 0 = λ ss. AddsSort ss (sorts_of c.insert_full.new.self.keys) (compound_sort ss c.args.compound) in
    subst P c.self.view_is (gained c.self.inside.compounds.keys c.args.compound c.in_ok-place.place c.self.invariant c.insert_full.new.self.keys (rw c.self.view_is c.requires) c.in_ok-place.ensures.keys c.in_ok-place.ensures.stored).grows

pub returns-clause-table : goal.returns-clause-table
returns-clause-table c = (gained c.self.inside.compounds.keys c.args.compound c.in_ok-place.place c.self.invariant c.insert_full.new.self.keys (rw c.self.view_is c.requires) c.in_ok-place.ensures.keys c.in_ok-place.ensures.stored).are.table
