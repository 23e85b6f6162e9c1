use Rattle.std.proofs.Common.{◌≡◌, ◌∙◌, sym, ap, subst, true, get_or, take, Some, List, Bool, arith}
use Rattle.std.proofs.lemmas.List.{take_all}
use Rattle.smt_terms.specs.declared.ids.SymId.{SymId}
use Rattle.smt_terms.specs.Models.{Model, IsModelOver}
use Rattle.smt_terms.specs.Sorts.{Symbol}
use Rattle.smt_terms.specs.Values.{truth}
use Rattle.smt_values.specs.SizeTable.{sizes_by}
use Rattle.term_table.specs.Formulas.{symbol_at}
use Rattle.models.specs.GraphRows.{constant_graph}
use Rattle.models.specs.LiveNumbers.{signature_of}
use Rattle.models.specs.ModelView.{default_model, with_graph}
use Rattle.models.specs.LiveRoots.{is_flag}
use Rattle.dimacs_link.specs.AnswerModels.{answered}
use Rattle.dimacs_link.specs.Constants.{constants_at}
use Rattle.dimacs_link.proofs.AnsweredModels.{flag_value, answered_over, value_more, constant_at}
use Rattle.dimacs_link.proofs.answer_models.answer_model.Goals as goal

pub define-requires-clause-value : goal.define-requires-clause-value
define-requires-clause-value c =
    let t = c.args.table.now in
    let fs = c.args.constants.now in
    let i = c.loop-place.place in
    let d : SymId = record { 0 = 0 } in
    let f = symbol_at t (get_or fs i d) in
    record {
      held = tt;
      valid =
          flag_value f (sizes_by t.sorts c.loop-place.model.sizes) c.get.result
          (constant_at t fs c.requires.constants c.args.values.now c.requires.lengths i d c.loop-place-test.true (λ (g : Symbol). is_flag g ≡ true) c.requires.flags.flags);
    }

pub loop-place-preserved : goal.loop-place-preserved
loop-place-preserved c =
    let t = c.args.table.now in
    let fs = c.args.constants.now in
    let i = c.loop-place.place in
    let d : SymId = record { 0 = 0 } in
    let f = symbol_at t (get_or fs i d) in
    let was = c.loop-place.invariant in
    record {
      model =
          c.in_ok-define.ensures.model
          ∙ ap (λ (m : Model). with_graph f (Some (constant_graph (truth c.get.result))) m) was.model
          ∙ value_more t fs c.requires.constants c.args.values.now c.requires.lengths i d c.loop-place-test.true c.get.result (default_model (signature_of t c.args.signature.now)) c.get.ensures;
      numbers = c.in_ok-define.ensures.numbers was.numbers;
    }

pub returns-clause-over : goal.returns-clause-over
returns-clause-over c =
    let t = c.args.table.now in
    let fs = c.args.constants.now in
    let vs = c.args.values.now in
    let i = c.loop-place.place in
    let sig = signature_of t c.args.signature.now in
    let past = c.loop-place-test.false in
    let size = c.requires.lengths in
    let model =
    c.loop-place.invariant.model
    ∙ ap (λ (gs : List SymId). answered sig (constants_at t gs) (take i vs)) (take_all i fs past)
    ∙ ap (λ (ws : List Bool). answered sig (constants_at t fs) ws) (take_all i vs (omega arith)) in
    subst (IsModelOver sig.sorts sig.symbols) (sym model) (answered_over sig (constants_at t fs) vs c.requires.flags)
