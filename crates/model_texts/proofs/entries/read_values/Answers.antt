use Rattle.std.proofs.lemmas.Result.{err_from_is_err_and}
use Rattle.smt_values.specs.SortIds.{sort_at}
use Rattle.script_terms.specs.Places.{forms_from}
use Rattle.model_texts.specs.Entries.{elements_met}
use Rattle.model_texts.proofs.EntryReading.{element_refused, element_read, elements_end}
use Rattle.model_texts.proofs.ReadSteps.{nothing_read}
use Rattle.model_texts.proofs.entries.read_values.Goals as goal

pub loop-alloc-init : goal.loop-alloc-init
loop-alloc-init c = record {
  within = c.requires.first;
  left = λ gs. nothing_read c.args.table.now c.args.elements.now (elements_met (sort_at c.args.table.now.sorts c.args.sort) (forms_from c.args.forest.now.tokens c.args.first) gs);
}

pub returns-in_err-read_value : goal.returns-in_err-read_value
returns-in_err-read_value c gs es known =
    let p = err_from_is_err_and c.from_residual.result c.from_residual.ensures.1 in
    rw (p.1, p.2)
    (element_refused c.args.table.now c.args.forest.now.tokens (sort_at c.args.table.now.sorts c.args.sort) c.args.elements.now c.args.first c.loop-alloc.next c.loop-alloc.elements c.loop-alloc.invariant.left
    (c.begins.ensures.yes c.loop-alloc-test.true) _ c.read_value.new.elements c.in_err-read_value.field-0.0 c.in_err-read_value.ensures.value gs es known)

pub loop-alloc-preserved : goal.loop-alloc-preserved
loop-alloc-preserved c = record {
  within = c.after-next.ensures.within.1;
  left = element_read c.args.table.now c.args.forest.now.tokens (sort_at c.args.table.now.sorts c.args.sort) c.args.elements.now c.args.first c.loop-alloc.next c.loop-alloc.elements c.loop-alloc.invariant.left
      (c.begins.ensures.yes c.loop-alloc-test.true) c.read_value.new.elements c.in_ok-read_value.field-0 c.after-next.result c.after-next.ensures.behind c.in_ok-read_value.ensures.value;
}

pub returns : goal.returns
returns c gs es known =
    elements_end c.args.table.now c.args.forest.now.tokens (sort_at c.args.table.now.sorts c.args.sort) c.args.elements.now c.args.first c.loop-alloc.next c.loop-alloc.elements c.loop-alloc.invariant.left tt
    (c.begins.ensures.no c.loop-alloc-test.false) gs es known
