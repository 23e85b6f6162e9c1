use Rattle.std.proofs.Common.{◌≡◌, ◌∙◌, sym, ap, subst, refl, Some}
use Rattle.smt_values.specs.SizeTable.{sizes_by}
use Rattle.term_table.specs.Formulas.{symbol_at}
use Rattle.models.specs.LiveNumbers.{signature_of}
use Rattle.models.specs.ModelView.{ModelLists, model_at, AreSizesOf, default_model_of, with_graph}
use Rattle.model_texts.specs.GivenEntries.{tables_given}
use Rattle.model_texts.specs.GivenFits.{table_fits}
use Rattle.model_texts.specs.GivenTables.{graph_given}
use Rattle.model_texts.specs.ModelText.{with_first_rows}
use Rattle.model_texts.proofs.ModelTaken.{sizes_of_signature, sizes_of_text, fits_sizes, taking_begins, taking_ends, this_is_held, symbol_there, symbol_fits, symbol_taken, numbers_fit, numbers_taken, numbers_set, numbers_keep_sizes, over_signature, model_of_text}
use Rattle.model_texts.proofs.reader.model_over.Goals as goal

pub with_sizes-requires-clause-sizes : goal.with_sizes-requires-clause-sizes
with_sizes-requires-clause-sizes c =
    sizes_of_signature c.args.table.now c.len.ensures.table.sorts c.args.signature.now.sorts c.requires.signature.0 c.args.elements.now c.in_ok-sizes.sizes c.in_ok-sizes.ensures

pub loop-given-init : goal.loop-given-init
loop-given-init c =
    let t = c.args.table.now in
    let l = c.args.signature.now in
    let sig = signature_of t l in
    let same : c.in_ok-model.model.sizes ≡ c.in_ok-sizes.sizes = c.in_ok-model.ensures.sizes in
    record {
      taking =
          taking_begins sig c.args.given.entries c.into_iter-given-iterator.result (sizes_by t.sorts c.in_ok-model.model.sizes) (model_at t c.in_ok-model.model)
          (c.into_iter-given-iterator.ensures.into_iter_gives ∙ c.into_values-given-items.ensures.rest)
          (c.in_ok-model.ensures.model ∙ ap (λ ns. default_model_of (sizes_by t.sorts ns) sig) (sym same));
      same = refl;
      positive = subst (AreSizesOf t l.sorts) (sym same) (sizes_of_signature t c.len.ensures.table.sorts l.sorts c.requires.signature.0 c.args.elements.now c.in_ok-sizes.sizes c.in_ok-sizes.ensures);
      alike = λ es text n.
          ap (λ ns. sizes_by t.sorts ns n) same
          ∙ sizes_of_text t c.len.ensures.table.sorts l.sorts c.requires.signature.0 c.args.elements.now c.in_ok-sizes.sizes c.in_ok-sizes.ensures es text.known text.fit.elements n;
      valid = c.in_ok-model.ensures.over.valid;
      numbers = c.in_ok-model.ensures.numbers;
    }

pub give-requires-clause-symbol : goal.give-requires-clause-symbol
give-requires-clause-symbol c =
    let t = c.args.table.now in
    let sig = signature_of t c.args.signature.now in
    let counts = sizes_by t.sorts c.in_ok-model.model.sizes in
    let es = c.requires.text.0 in
    let text = c.requires.text.1 in
    let fit = fits_sizes t c.args.signature.now c.args.given.entries c.args.elements.now es text counts (c.loop-given.invariant.alike es text) in
    symbol_there t sig c.requires.proper c.args.given.entries c.requires.tables counts fit text.fit.apart (model_at t c.loop-given.model) c.loop-given.given-iterator c.next.new.self c.in-Some.given c.in-Some.ensures.steps c.loop-given.invariant.taking c.in-Symbol.symbol c.in-Symbol.is

pub give-requires-clause-held : goal.give-requires-clause-held
give-requires-clause-held c =
    let t = c.args.table.now in
    let sig = signature_of t c.args.signature.now in
    let counts = sizes_by t.sorts c.in_ok-model.model.sizes in
    let es = c.requires.text.0 in
    let text = c.requires.text.1 in
    let fit = fits_sizes t c.args.signature.now c.args.given.entries c.args.elements.now es text counts (c.loop-given.invariant.alike es text) in
    this_is_held t sig c.requires.proper c.args.given.entries c.requires.tables counts fit text.fit.apart (model_at t c.loop-given.model) c.loop-given.given-iterator c.next.new.self c.in-Some.given c.in-Some.ensures.steps c.loop-given.invariant.taking

pub give-requires-clause-fits : goal.give-requires-clause-fits
give-requires-clause-fits c =
    let t = c.args.table.now in
    let sig = signature_of t c.args.signature.now in
    let counts = sizes_by t.sorts c.in_ok-model.model.sizes in
    let es = c.requires.text.0 in
    let text = c.requires.text.1 in
    let fit = fits_sizes t c.args.signature.now c.args.given.entries c.args.elements.now es text counts (c.loop-given.invariant.alike es text) in
    ap (λ ns. table_fits (symbol_at t c.in-Symbol.symbol) (sizes_by t.sorts ns) (graph_given c.in-Some.given.table)) c.loop-given.invariant.same
    ∙ symbol_fits t sig c.requires.proper c.args.given.entries c.requires.tables counts fit text.fit.apart (model_at t c.loop-given.model) c.loop-given.given-iterator c.next.new.self c.in-Some.given c.in-Some.ensures.steps c.loop-given.invariant.taking c.in-Symbol.symbol c.in-Symbol.is

pub loop-given-preserved-in_ok-give-in-Symbol : goal.loop-given-preserved-in_ok-give-in-Symbol
loop-given-preserved-in_ok-give-in-Symbol c =
    let t = c.args.table.now in
    let sig = signature_of t c.args.signature.now in
    let counts = sizes_by t.sorts c.in_ok-model.model.sizes in
    let es = c.requires.text.0 in
    let text = c.requires.text.1 in
    let fit = fits_sizes t c.args.signature.now c.args.given.entries c.args.elements.now es text counts (c.loop-given.invariant.alike es text) in
    let f = symbol_at t c.in-Symbol.symbol in
    let before = c.loop-given.invariant in
    record {
      taking =
          symbol_taken t sig c.requires.proper c.args.given.entries c.requires.tables counts fit text.fit.apart (model_at t c.loop-given.model) c.loop-given.given-iterator c.next.new.self c.in-Some.given c.in-Some.ensures.steps c.loop-given.invariant.taking c.in-Symbol.symbol c.in-Symbol.is
          (model_at t c.give.new.model)
          (c.in_ok-give-in-Symbol.ensures.model
          ∙ ap (λ ns. with_graph f (Some (with_first_rows f.args (sizes_by t.sorts ns) (graph_given c.in-Some.given.table))) (model_at t c.loop-given.model)) before.same);
      same = c.give.ensures.sizes ∙ before.same;
      positive = before.positive;
      alike = before.alike;
      valid = c.in_ok-give-in-Symbol.ensures.valid;
      numbers = c.in_ok-give-in-Symbol.ensures.numbers before.numbers;
    }

pub numbers_of-requires-clause-held : goal.numbers_of-requires-clause-held
numbers_of-requires-clause-held c =
    let t = c.args.table.now in
    let sig = signature_of t c.args.signature.now in
    let counts = sizes_by t.sorts c.in_ok-model.model.sizes in
    let es = c.requires.text.0 in
    let text = c.requires.text.1 in
    let fit = fits_sizes t c.args.signature.now c.args.given.entries c.args.elements.now es text counts (c.loop-given.invariant.alike es text) in
    this_is_held t sig c.requires.proper c.args.given.entries c.requires.tables counts fit text.fit.apart (model_at t c.loop-given.model) c.loop-given.given-iterator c.next.new.self c.in-Some.given c.in-Some.ensures.steps c.loop-given.invariant.taking

pub numbers_of-requires-clause-fits : goal.numbers_of-requires-clause-fits
numbers_of-requires-clause-fits c =
    let t = c.args.table.now in
    let sig = signature_of t c.args.signature.now in
    let counts = sizes_by t.sorts c.in_ok-model.model.sizes in
    let es = c.requires.text.0 in
    let text = c.requires.text.1 in
    let fit = fits_sizes t c.args.signature.now c.args.given.entries c.args.elements.now es text counts (c.loop-given.invariant.alike es text) in
    numbers_fit t sig c.requires.proper c.args.given.entries c.requires.tables counts fit text.fit.apart (model_at t c.loop-given.model) c.loop-given.given-iterator c.next.new.self c.in-Some.given c.in-Some.ensures.steps c.loop-given.invariant.taking c.in-Numbers.part c.in-Numbers.is

pub loop-given-preserved : goal.loop-given-preserved
loop-given-preserved c =
    let t = c.args.table.now in
    let sig = signature_of t c.args.signature.now in
    let counts = sizes_by t.sorts c.in_ok-model.model.sizes in
    let es = c.requires.text.0 in
    let text = c.requires.text.1 in
    let fit = fits_sizes t c.args.signature.now c.args.given.entries c.args.elements.now es text counts (c.loop-given.invariant.alike es text) in
    let part = c.in-Numbers.part in
    let numbers = c.in_ok-numbers_of-in-Numbers.field-0 in
    let before = c.loop-given.invariant in
    record {
      taking =
          numbers_taken t sig c.requires.proper c.args.given.entries c.requires.tables counts fit text.fit.apart (model_at t c.loop-given.model) c.loop-given.given-iterator c.next.new.self c.in-Some.given c.in-Some.ensures.steps c.loop-given.invariant.taking part c.in-Numbers.is
          numbers (model_at t c.set_by_zero.new.self) (c.in_ok-numbers_of-in-Numbers.ensures counts) (ap (model_at t) c.set_by_zero.ensures.numbers ∙ numbers_set t part numbers c.loop-given.model);
      same = ap (λ (m : ModelLists). m.sizes) c.set_by_zero.ensures.numbers ∙ numbers_keep_sizes part numbers c.loop-given.model ∙ before.same;
      positive = before.positive;
      alike = before.alike;
      valid = c.set_by_zero.ensures.valid t before.valid;
      numbers = c.set_by_zero.ensures.of t before.numbers;
    }

pub returns-clause-model : goal.returns-clause-model
returns-clause-model c es text =
    let t = c.args.table.now in
    let sig = signature_of t c.args.signature.now in
    let counts = sizes_by t.sorts c.in_ok-model.model.sizes in
    model_of_text sig (tables_given c.args.given.entries) es counts (model_at t c.loop-given.model) (c.loop-given.invariant.alike es text)
    (taking_ends sig c.args.given.entries c.loop-given.given-iterator counts (model_at t c.loop-given.model) c.in-None.ensures.steps.0 c.loop-given.invariant.taking)

pub returns-clause-over : goal.returns-clause-over
returns-clause-over c =
    let t = c.args.table.now in
    let sig = signature_of t c.args.signature.now in
    over_signature t c.args.signature.now (tables_given c.args.given.entries) c.in_ok-model.model.sizes c.loop-given.invariant.positive (model_at t c.loop-given.model)
    (taking_ends sig c.args.given.entries c.loop-given.given-iterator (sizes_by t.sorts c.in_ok-model.model.sizes) (model_at t c.loop-given.model) c.in-None.ensures.steps.0 c.loop-given.invariant.taking)
    c.loop-given.invariant.valid
