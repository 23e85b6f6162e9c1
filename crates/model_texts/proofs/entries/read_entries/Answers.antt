use Rattle.std.proofs.lemmas.Result.{err_from_is_err_and}
use Rattle.script_terms.specs.Places.{forms_from}
use Rattle.models.specs.LiveNumbers.{signature_of}
use Rattle.model_texts.specs.Entries.{entries_given}
use Rattle.model_texts.specs.GivenEntries.{tables_given}
use Rattle.model_texts.proofs.EntryReading.{entry_refused, entry_read, entries_end}
use Rattle.model_texts.proofs.ReadSteps.{nothing_read}
use Rattle.model_texts.proofs.entries.read_entries.Goals as goal

pub loop-alloc-init : goal.loop-alloc-init
loop-alloc-init c = record {
  within = c.requires.first;
  given = c.requires.given;
  left = λ live names. nothing_read c.args.table.now c.args.elements.now (entries_given (signature_of c.args.table.now live) (tables_given c.args.given.now.entries) (forms_from c.args.forest.now.tokens c.args.first));
}

pub returns-in_err-read_entry-clause-entries : goal.returns-in_err-read_entry-clause-entries
returns-in_err-read_entry-clause-entries c live es names known =
    let t = c.args.table.now in
    let ts = c.args.forest.now.tokens in
    let p = err_from_is_err_and c.from_residual.result c.from_residual.ensures.1 in
    rw (p.1, p.2)
    (entry_refused t ts (signature_of t live) c.args.elements.now (entries_given (signature_of t live) (tables_given c.args.given.now.entries) (forms_from ts c.args.first)) (tables_given c.loop-alloc.given.entries) c.loop-alloc.next c.loop-alloc.elements
    (c.loop-alloc.invariant.left live names) (c.begins.ensures.yes c.loop-alloc-test.true) _ _ c.read_entry.new.elements c.in_err-read_entry.field-0.0 (λ ds met. c.in_err-read_entry.ensures.entry live ds names met) es known)

pub loop-alloc-preserved : goal.loop-alloc-preserved
loop-alloc-preserved c =
    let t = c.args.table.now in
    let ts = c.args.forest.now.tokens in
    record {
      within = c.after-next.ensures.within.1;
      given = c.in_ok-read_entry.ensures.given;
      left = λ live names.
          entry_read t ts (signature_of t live) c.args.elements.now (entries_given (signature_of t live) (tables_given c.args.given.now.entries) (forms_from ts c.args.first)) (tables_given c.loop-alloc.given.entries) c.loop-alloc.next c.loop-alloc.elements
          (c.loop-alloc.invariant.left live names) (c.begins.ensures.yes c.loop-alloc-test.true) tt c.read_entry.new.elements (tables_given c.read_entry.new.given.entries) c.after-next.result c.after-next.ensures.behind
          (λ ds met. c.in_ok-read_entry.ensures.entry live ds names met);
    }

pub returns-clause-entries : goal.returns-clause-entries
returns-clause-entries c live es names known =
    let t = c.args.table.now in
    let ts = c.args.forest.now.tokens in
    entries_end t ts (signature_of t live) c.args.elements.now (entries_given (signature_of t live) (tables_given c.args.given.now.entries) (forms_from ts c.args.first)) (tables_given c.loop-alloc.given.entries) c.loop-alloc.next c.loop-alloc.elements
    (c.loop-alloc.invariant.left live names) tt (c.begins.ensures.no c.loop-alloc-test.false) es known
