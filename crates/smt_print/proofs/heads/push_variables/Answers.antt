use Rattle.std.proofs.Common.{[], get_or}
use Rattle.smt_terms.specs.Sorts.{Variable, bool}
use Rattle.term_table.specs.WrittenForms.{variable_form}
use Rattle.smt_print.proofs.ListTexts.{part-more}
use Rattle.smt_print.proofs.HeadTexts.{variable-at}
use Rattle.smt_print.proofs.heads.push_variables.Goals as goal

pub loop-place-preserved : goal.loop-place-preserved
loop-place-preserved c xs same =
    let i = c.loop-place.place in
    let d : Variable = record { name = []; sort = bool } in
    let at = variable-at c.args.table.now c.args.ids.now xs i (record { 0 = 0 }) d same c.loop-place-test.true in
    part-more variable_form xs c.args.out.now c.loop-place.out c.push_separator.new.out c.push_variable.new.out i d at.0 (c.loop-place.invariant xs same)
    c.in_ok-push_separator.ensures (c.in_ok-push_variable.ensures (get_or xs i d) at.1)
