use Rattle.std.proofs.Common.{◌∙◌, sym, ap, Some, map, take, get_or, List}
use Rattle.std.proofs.lemmas.List.{map_more}
use Rattle.smt_terms.specs.declared.ids.SymId.{SymId}
use Rattle.smt_terms.specs.Models.{Model}
use Rattle.smt_terms.specs.Sorts.{Symbol}
use Rattle.smt_terms.specs.Values.{truth}
use Rattle.term_table.specs.Formulas.{symbol_at}
use Rattle.models.specs.GraphRows.{constant_graph}
use Rattle.models.specs.ModelView.{model_at, with_graph}
use Rattle.bit_scripts.specs.Lifting.{with_flags}
use Rattle.bit_scripts.proofs.LiftedFlags.{flag_more, other_more}
use Rattle.bit_scripts.proofs.lifting.lift_flags.Goals as goal
use Rattle.bit_scripts.proofs.lifting.lift_flags.Goals.{then-is_flag+in_ok-define, else-is_flag}

pub loop-symbol-preserved : goal.loop-symbol-preserved
loop-symbol-preserved c =
    let t = c.args.table.now in
    let fs = c.args.symbols.now in
    let i = c.loop-symbol.symbol-index in
    let d : SymId = record { 0 = 0 } in
    let f = symbol_at t (get_or fs i d) in
    let m = model_at t c.args.model.now in
    let n = model_at t c.args.made.now in
    let before = map (symbol_at t) (take i fs) in
    let was = c.loop-symbol.invariant in
    let all = ap (λ (gs : List Symbol). with_flags gs m n) (sym (map_more (symbol_at t) fs i d c.loop-symbol-test.true)) in
    record {
      model = elim c.if-is_flag.branch [
        | then-is_flag+in_ok-define w ↦
            ap (model_at t) w.made-is
            ∙ w.in_ok-define.ensures.model
            ∙ ap (λ (k : Model). with_graph f (Some (constant_graph (truth w.is_true_in-value.result))) k) was.model
            ∙ ap (λ b. with_graph f (Some (constant_graph (truth b))) (with_flags before m n)) w.is_true_in-value.ensures
            ∙ flag_more before f m n c.requires.valid (sym c.is_flag.ensures ∙ w.if-is_flag.true)
            ∙ all
        | else-is_flag w ↦ ap (model_at t) w.made-is ∙ was.model ∙ other_more before f m n (sym c.is_flag.ensures ∙ w.if-is_flag.false) ∙ all
      ];
      numbers = elim c.if-is_flag.branch [
        | then-is_flag+in_ok-define w ↦ λ of. rw w.made-is (w.in_ok-define.ensures.numbers (was.numbers of))
        | else-is_flag w ↦ λ of. rw w.made-is (was.numbers of)
      ];
    }
