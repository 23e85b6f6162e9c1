use Rattle.std.proofs.Common.{◌≡◌, ◌∷◌, ◌++◌, [], length, sym, ap, subst, ◌∙◌, append_assoc, arith}
use Rattle.std.specs.Prelude.{is_some}
use Rattle.std.specs.Vec.Iter.{into_iter_items}
use Rattle.smt_values.specs.Meaning.{meaning}
use Rattle.smt_values.specs.SizeTable.{sizes_by}
use Rattle.smt_values.specs.Valid.{IsValue}
use Rattle.term_table.specs.Formulas.{symbol_at}
use Rattle.models.specs.GraphRows.{meanings, AreValues}
use Rattle.models.specs.ModelView.{model_at, with_row_for}
use Rattle.model_texts.proofs.TablesTaken.{graph_of_symbol, row_keys, row_value, row_has_arguments, row_taken, has_rows}
use Rattle.model_texts.proofs.reader.give.Goals as goal

pub add_row-requires-clause-there : goal.add_row-requires-clause-there
add_row-requires-clause-there c =
    let t = c.args.table.now in
    ap is_some (sym (graph_of_symbol t c.loop-row.invariant.table c.args.symbol c.requires.symbol c.loop-row.model.graphs))
    ∙ has_rows (symbol_at t c.args.symbol) (model_at t c.args.model.now) (meaning c.args.given.otherwise) (model_at t c.loop-row.model) c.loop-row.yielded c.loop-row.invariant.model

pub add_row-requires-clause-arguments : goal.add_row-requires-clause-arguments
add_row-requires-clause-arguments c =
    let t = c.args.table.now in
    row_has_arguments (symbol_at t c.args.symbol) (sizes_by t.sorts c.args.model.now.sizes) c.args.given c.requires.held c.requires.fits c.loop-row.yielded (into_iter_items c.next.new.self) c.in-Some.row
    (ap (λ rs. c.loop-row.yielded ++ rs) (sym c.in-Some.ensures.steps.0) ∙ c.loop-row.invariant.items)

pub add_row-requires-clause-keys : goal.add_row-requires-clause-keys
add_row-requires-clause-keys c =
    let t = c.args.table.now in
    let f = symbol_at t c.args.symbol in
    subst (λ ns. AreValues f.args (sizes_by t.sorts ns) c.in-Some.row.keys.items) (sym c.loop-row.invariant.sizes)
    (row_keys f (sizes_by t.sorts c.args.model.now.sizes) c.args.given c.requires.held c.requires.fits c.loop-row.yielded (into_iter_items c.next.new.self) c.in-Some.row
    (ap (λ rs. c.loop-row.yielded ++ rs) (sym c.in-Some.ensures.steps.0) ∙ c.loop-row.invariant.items))

pub add_row-requires-clause-value : goal.add_row-requires-clause-value
add_row-requires-clause-value c =
    let t = c.args.table.now in
    let f = symbol_at t c.args.symbol in
    subst (λ ns. IsValue f.result (sizes_by t.sorts ns) c.in-Some.row.value) (sym c.loop-row.invariant.sizes)
    (row_value f (sizes_by t.sorts c.args.model.now.sizes) c.args.given c.requires.held c.requires.fits c.loop-row.yielded (into_iter_items c.next.new.self) c.in-Some.row
    (ap (λ rs. c.loop-row.yielded ++ rs) (sym c.in-Some.ensures.steps.0) ∙ c.loop-row.invariant.items))

pub loop-row-preserved : goal.loop-row-preserved
loop-row-preserved c =
    let t = c.args.table.now in
    let f = symbol_at t c.args.symbol in
    let steps : into_iter_items c.loop-row.row-iterator ≡ c.in-Some.row ∷ into_iter_items c.next.new.self = c.in-Some.ensures.steps.0 in
    record {
      items = append_assoc c.loop-row.yielded (c.in-Some.row ∷ []) _ ∙ ap (λ rs. c.loop-row.yielded ++ rs) (sym steps) ∙ c.loop-row.invariant.items;
      count =
          let was = c.loop-row.invariant.count in
          let gone = c.in-Some.ensures.steps.1 in
          let short = ap length steps in
          omega arith;
      table = c.loop-row.invariant.table;
      model =
          c.in_ok-add_row.ensures.model ∙ ap (with_row_for f (meanings c.in-Some.row.keys.items) (meaning c.in-Some.row.value)) c.loop-row.invariant.model
          ∙ row_taken f (model_at t c.args.model.now) (meaning c.args.given.otherwise) c.loop-row.yielded c.in-Some.row;
      valid = c.in_ok-add_row.ensures.valid;
      sizes = c.add_row.ensures.sizes ∙ c.loop-row.invariant.sizes;
      numbers = λ is. c.in_ok-add_row.ensures.numbers (c.loop-row.invariant.numbers is);
    }
