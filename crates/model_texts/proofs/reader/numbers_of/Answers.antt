use Rattle.std.proofs.Common.{◌≡◌, ◌<◌, ◌≤◌, ◌∷◌, [], ◌∙◌, sym, ap, subst, List, length, get_or, vec_len, rules, FitsSigned, arith}
use Rattle.std.specs.Int.{w128}
use Rattle.std.proofs.lemmas.Int.{to_z-of_z}
use Rattle.std.proofs.lemmas.List.{take_all}
use Rattle.smt_terms.specs.Sorts.{int}
use Rattle.smt_terms.specs.Values.{number, is_value}
use Rattle.smt_values.specs.Meaning.{meaning, IsHeld}
use Rattle.models.specs.NumberRows.{number_row_added}
use Rattle.model_texts.specs.GivenTables.{rows_given}
use Rattle.model_texts.specs.ModelText.{number_graph, with_first_rows}
use Rattle.model_texts.specs.declared.tables.GivenRow.{GivenRow}
use Rattle.model_texts.proofs.TablesTaken.{key_there, key_held, key_is_number, result_is_number, number_taken}
use Rattle.model_texts.proofs.reader.numbers_of.Goals as goal

pub index-requires : goal.index-requires
index-requires c =
    let rows = c.deref-row-items.ensures.value in
    let row = c.row-item.is ∙ ap (λ (rs : List GivenRow). get_or rs c.loop-row.row-index c.row-item.result) rows in
    let len : vec_len c.row-item.result.keys ≡ length c.row-item.result.keys.items = search rules in
    let some : 0 < length c.row-item.result.keys.items =
    subst (λ (r : GivenRow). 0 < length r.keys.items) (sym row)
    (key_there c.args.given c.requires.held c.requires.fits c.loop-row.row-index c.row-item.result (subst (λ (rs : List GivenRow). c.loop-row.row-index < length rs) rows c.loop-row-test.true)) in
    omega (arith, len, some)

pub whole-requires-in-loop-row-clause-held : goal.whole-requires-in-loop-row-clause-held
whole-requires-in-loop-row-clause-held c =
    let rows = c.deref-row-items.ensures.value in
    let row = c.row-item.is ∙ ap (λ (rs : List GivenRow). get_or rs c.loop-row.row-index c.row-item.result) rows in
    let e = c.index.result.now in
    subst IsHeld (sym (c.index.ensures ∙ ap (λ (r : GivenRow). get_or r.keys.items 0 e) row))
    (key_held c.args.given c.requires.held c.requires.fits c.loop-row.row-index c.row-item.result (subst (λ (rs : List GivenRow). c.loop-row.row-index < length rs) rows c.loop-row-test.true) e)

pub whole-requires-in-loop-row-clause-whole : goal.whole-requires-in-loop-row-clause-whole
whole-requires-in-loop-row-clause-whole c =
    let rows = c.deref-row-items.ensures.value in
    let row = c.row-item.is ∙ ap (λ (rs : List GivenRow). get_or rs c.loop-row.row-index c.row-item.result) rows in
    let e = c.index.result.now in
    ap (λ v. is_value int (λ _. 1) (meaning v)) (c.index.ensures ∙ ap (λ (r : GivenRow). get_or r.keys.items 0 e) row)
    ∙ key_is_number c.args.given c.requires.held c.requires.fits c.loop-row.row-index c.row-item.result (subst (λ (rs : List GivenRow). c.loop-row.row-index < length rs) rows c.loop-row-test.true) e

pub whole-requires-in-loop-row-2-clause-whole : goal.whole-requires-in-loop-row-2-clause-whole
whole-requires-in-loop-row-2-clause-whole c =
    let rows = c.deref-row-items.ensures.value in
    let row = c.row-item.is ∙ ap (λ (rs : List GivenRow). get_or rs c.loop-row.row-index c.row-item.result) rows in
    ap (λ (r : GivenRow). is_value int (λ _. 1) (meaning r.value)) row
    ∙ result_is_number c.args.given c.requires.held c.requires.fits c.loop-row.row-index c.row-item.result (subst (λ (rs : List GivenRow). c.loop-row.row-index < length rs) rows c.loop-row-test.true)

pub loop-row-preserved : goal.loop-row-preserved
loop-row-preserved c counts =
    let rows = c.deref-row-items.ensures.value in
    let i = c.loop-row.row-index in
    let d = c.row-item.result in
    let row = c.row-item.is ∙ ap (λ (rs : List GivenRow). get_or rs i d) rows in
    let e = c.index.result.now in
    let at : GivenRow = get_or c.args.given.rows.items i d in
    let key : c.whole-in-loop-row.result ≡ number (meaning (get_or at.keys.items 0 e)) =
    c.whole-in-loop-row.ensures.number ∙ ap (λ v. number (meaning v)) (c.index.ensures ∙ ap (λ (r : GivenRow). get_or r.keys.items 0 e) row) in
    let value : c.whole-in-loop-row-2.result ≡ number (meaning at.value) = c.whole-in-loop-row-2.ensures.number ∙ ap (λ (r : GivenRow). number (meaning r.value)) row in
    let key_fits : FitsSigned w128 c.whole-in-loop-row.result = search rules in
    let value_fits : FitsSigned w128 c.whole-in-loop-row-2.result = search rules in
    c.in_ok-add_row.ensures.ok
    ∙ (λ j. number_row_added (to_z-of_z w128 c.whole-in-loop-row.result key_fits j) (to_z-of_z w128 c.whole-in-loop-row-2.result value_fits j) c.loop-row.numbers)
    ∙ (λ j. number_row_added (key j) (value j) (c.loop-row.invariant counts j))
    ∙ number_taken c.args.given c.requires.held c.requires.fits i d (subst (λ (rs : List GivenRow). i < length rs) rows c.loop-row-test.true) counts e

pub returns : goal.returns
returns c counts =
    let last = c.loop-row-test.false in
    let rows = c.deref-row-items.ensures.value in
    c.loop-row.invariant counts
    ∙ ap (λ (rs : List GivenRow). number_graph (with_first_rows (int ∷ []) counts record { rows = rows_given rs; otherwise = meaning c.args.given.otherwise }))
    (take_all c.loop-row.row-index c.args.given.rows.items (subst (λ (rs : List GivenRow). length rs ≤ c.loop-row.row-index) rows last))
