use Rattle.std.proofs.Common.{Err, length, sym, subst}
use Rattle.std.proofs.lemmas.Result.{err_from_is_err_and}
use Rattle.script_terms.specs.Places.{forms_from}
use Rattle.models.specs.LiveNumbers.{signature_of}
use Rattle.models.specs.ModelView.{model_at}
use Rattle.model_texts.specs.GivenEntries.{tables_given}
use Rattle.model_texts.specs.ReadModel.{ReadsModel}
use Rattle.model_texts.proofs.TextModels.{names_within, named_tables, tables_read, text_made, text_refused}
use Rattle.model_texts.proofs.reader.read_model.Goals as goal

pub new-requires : goal.new-requires
new-requires c = c.requires.signature

pub returns-in_err-names : goal.returns-in_err-names
returns-in_err-names c =
    let p = err_from_is_err_and c.from_residual.result c.from_residual.ensures.1 in
    rw (p.1, p.2) tt

pub read_text-requires-clause-whole : goal.read_text-requires-clause-whole
read_text-requires-clause-whole c = c.requires.whole

pub read_text-requires-clause-names : goal.read_text-requires-clause-names
read_text-requires-clause-names c = names_within c.args.table.now c.args.signature.now c.in_ok-names.names c.in_ok-names.ensures

pub read_text-requires-clause-given : goal.read_text-requires-clause-given
read_text-requires-clause-given c = c.with_hasher-given.ensures.empty

pub read_text-requires-clause-elements : goal.read_text-requires-clause-elements
read_text-requires-clause-elements c = c.new-elements.ensures

pub model_over-requires-clause-signature : goal.model_over-requires-clause-signature
model_over-requires-clause-signature c = c.requires.signature

pub model_over-requires-clause-proper : goal.model_over-requires-clause-proper
model_over-requires-clause-proper c = c.requires.proper

pub model_over-requires-clause-tables : goal.model_over-requires-clause-tables
model_over-requires-clause-tables c =
    named_tables c.args.table.now c.args.signature.now c.in_ok-names.names c.read_text.new.given.entries c.in_ok-names.ensures c.in-Ok.ensures.given

pub model_over-requires-clause-text : goal.model_over-requires-clause-text
model_over-requires-clause-text c =
    let l = c.args.signature.now in
    let read = tables_read c.args.table.now l c.len.ensures.table c.requires.signature c.requires.proper (length c.args.forest.now.bytes) (forms_from c.args.forest.now.tokens 0)
    c.read_text.new.given.entries c.read_text.new.elements tt (c.in-Ok.ensures.text l c.in_ok-names.ensures) in
    (read.elements, read.text)

pub returns-in_err-model_over-in-Ok : goal.returns-in_err-model_over-in-Ok
returns-in_err-model_over-in-Ok c =
    let p = err_from_is_err_and c.from_residual-in_err-model_over-in-Ok.result c.from_residual-in_err-model_over-in-Ok.ensures.1 in
    rw (p.1, p.2) tt

pub returns-in-Ok : goal.returns-in-Ok
returns-in-Ok c =
    let t = c.args.table.now in
    let l = c.args.signature.now in
    let read = tables_read t l c.len.ensures.table c.requires.signature c.requires.proper (length c.args.forest.now.bytes) (forms_from c.args.forest.now.tokens 0)
    c.read_text.new.given.entries c.read_text.new.elements tt (c.in-Ok.ensures.text l c.in_ok-names.ensures) in (
      text_made t c.args.forest.now c.requires.whole (signature_of t l) (tables_given c.read_text.new.given.entries) read.elements (model_at t c.in_ok-model_over-in-Ok.field-0) read.is
          (c.in_ok-model_over-in-Ok.ensures.model read.elements read.text),
      c.in_ok-model_over-in-Ok.ensures.over,
      c.in_ok-model_over-in-Ok.ensures.numbers,
    )

pub returns : goal.returns
returns c =
    let t = c.args.table.now in
    let l = c.args.signature.now in
    subst (λ x. ReadsModel t c.args.forest.now.bytes (signature_of t l) (Err x)) (sym c.with_line.ensures)
    (text_refused t c.args.forest.now c.requires.whole (signature_of t l) _ _ c.in-Err.fault (c.in-Err.ensures.text l c.in_ok-names.ensures))
