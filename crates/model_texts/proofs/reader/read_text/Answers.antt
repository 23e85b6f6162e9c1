use Rattle.std.proofs.Common.{length, codes, sym, ap, subst, ◌∙◌, arith}
use Rattle.std.proofs.lemmas.List.Elements.{All-nil}
use Rattle.std.proofs.lemmas.Result.{err_from_is_err_and}
use Rattle.smt_lex.specs.Forest.{token_at, after_at}
use Rattle.script_terms.specs.Places.{form_from, forms_from}
use Rattle.models.specs.LiveNumbers.{signature_of}
use Rattle.model_texts.specs.GivenEntries.{IsNamedBy, AreNamedBy}
use Rattle.model_texts.specs.ModelText.{without_word}
use Rattle.model_texts.specs.declared.faults.Cause.TheVariants.{ModelForm}
use Rattle.model_texts.specs.declared.faults.TextFault.TheVariants.{Refused}
use Rattle.model_texts.proofs.TextRead.{from_nothing, text_over, no_list, entry_refused, more_behind, text_read}
use Rattle.model_texts.proofs.reader.read_text.Goals as goal

pub behind_word-list-requires : goal.behind_word-list-requires
behind_word-list-requires c = omega arith

pub begins-requires : goal.begins-requires
begins-requires c = c.behind_word-list.ensures.within

pub returns-then-not-begins-clause-text : goal.returns-then-not-begins-clause-text
returns-then-not-begins-clause-text c live names =
    text_over _ _ (signature_of c.args.table.now live) (length c.args.forest.now.bytes) (without_word (codes "sat") (forms_from c.args.forest.now.tokens 0))
    _ (ap (Refused ModelForm) (ap length c.bytes.ensures)) (sym c.behind_word-list.ensures.forms ∙ c.begins.ensures.no c.if-not-begins.true)

pub inside-requires : goal.inside-requires
inside-requires c = (c.begins.ensures.yes c.if-not-begins.false).form

pub refused-requires : goal.refused-requires
refused-requires c = (c.begins.ensures.yes c.if-not-begins.false).form

pub returns-in_default-clause-text : goal.returns-in_default-clause-text
returns-in_default-clause-text c live names =
    let ts = c.args.forest.now.tokens in
    no_list _ _ (signature_of c.args.table.now live) (length c.args.forest.now.bytes) (without_word (codes "sat") (forms_from ts 0))
    (form_from ts c.behind_word-list.result) (forms_from ts (after_at ts c.behind_word-list.result)) (sym c.behind_word-list.ensures.forms ∙ (c.begins.ensures.yes c.if-not-begins.false).forms)
    (token_at ts c.behind_word-list.result) c.refused.result c.in_default.ensures c.refused.ensures

pub behind_word-entries-requires : goal.behind_word-entries-requires
behind_word-entries-requires c = c.in-Some.ensures.2

pub read_entries-requires-clause-whole : goal.read_entries-requires-clause-whole
read_entries-requires-clause-whole c = c.requires.whole

pub read_entries-requires-clause-first : goal.read_entries-requires-clause-first
read_entries-requires-clause-first c = c.behind_word-entries.ensures.within

pub read_entries-requires-clause-names : goal.read_entries-requires-clause-names
read_entries-requires-clause-names c = c.requires.names

pub read_entries-requires-clause-given : goal.read_entries-requires-clause-given
read_entries-requires-clause-given c = subst (AreNamedBy c.args.names.now) (sym c.requires.given) (All-nil (IsNamedBy c.args.names.now))

pub returns-in_err-read_entries-clause-text : goal.returns-in_err-read_entries-clause-text
returns-in_err-read_entries-clause-text c live names =
    let t = c.args.table.now in
    let ts = c.args.forest.now.tokens in
    let sig = signature_of t live in
    let p = err_from_is_err_and c.from_residual.result c.from_residual.ensures.1 in
    rw (p.1, p.2)
    (entry_refused _ _ sig (length c.args.forest.now.bytes) (without_word (codes "sat") (forms_from ts 0))
    (form_from ts c.behind_word-list.result) (forms_from ts (after_at ts c.behind_word-list.result)) (sym c.behind_word-list.ensures.forms ∙ (c.begins.ensures.yes c.if-not-begins.false).forms)
    (token_at ts c.behind_word-list.result).start (forms_from ts c.in-Some.first) (forms_from ts c.behind_word-entries.result) c.in-Some.ensures.0 c.behind_word-entries.ensures.forms _ _ c.in_err-read_entries.field-0.0
    (from_nothing _ _ t sig (forms_from ts c.behind_word-entries.result) c.args.given.now.entries c.args.elements.now _ c.requires.given c.requires.elements (λ es known. c.in_err-read_entries.ensures.entries live es names known)))

pub returns-in_err-read_entries-clause-given : goal.returns-in_err-read_entries-clause-given
returns-in_err-read_entries-clause-given c =
    let p = err_from_is_err_and c.from_residual.result c.from_residual.ensures.1 in
    rw p.1 tt

pub after-behind-requires : goal.after-behind-requires
after-behind-requires c = (c.begins.ensures.yes c.if-not-begins.false).within

pub begins-requires-2 : goal.begins-requires-2
begins-requires-2 c = c.after-behind.ensures.within.1

pub refused-requires-then-begins : goal.refused-requires-then-begins
refused-requires-then-begins c = (c.begins-2.ensures.yes c.if-begins.true).form

pub returns-then-begins-clause-text : goal.returns-then-begins-clause-text
returns-then-begins-clause-text c live names =
    let t = c.args.table.now in
    let ts = c.args.forest.now.tokens in
    let sig = signature_of t live in
    let more = (c.begins-2.ensures.yes c.if-begins.true).forms in
    more_behind _ _ sig (length c.args.forest.now.bytes) (without_word (codes "sat") (forms_from ts 0))
    (form_from ts c.behind_word-list.result) (forms_from ts (after_at ts c.behind_word-list.result)) (sym c.behind_word-list.ensures.forms ∙ (c.begins.ensures.yes c.if-not-begins.false).forms)
    (token_at ts c.behind_word-list.result).start (forms_from ts c.in-Some.first) (forms_from ts c.behind_word-entries.result) c.in-Some.ensures.0 c.behind_word-entries.ensures.forms _ _ tt c.refused-then-begins.result
    (form_from ts c.after-behind.result) (forms_from ts (after_at ts c.after-behind.result))
    (from_nothing _ _ t sig (forms_from ts c.behind_word-entries.result) c.args.given.now.entries c.args.elements.now _ c.requires.given c.requires.elements (λ es known. c.in_ok-read_entries.ensures.entries live es names known))
    (ap (forms_from ts) (sym c.after-behind.ensures.behind) ∙ more) c.refused-then-begins.ensures

pub returns-clause-text : goal.returns-clause-text
returns-clause-text c live names =
    let t = c.args.table.now in
    let ts = c.args.forest.now.tokens in
    let sig = signature_of t live in
    text_read _ _ sig (length c.args.forest.now.bytes) (without_word (codes "sat") (forms_from ts 0))
    (form_from ts c.behind_word-list.result) (forms_from ts (after_at ts c.behind_word-list.result)) (sym c.behind_word-list.ensures.forms ∙ (c.begins.ensures.yes c.if-not-begins.false).forms)
    (token_at ts c.behind_word-list.result).start (forms_from ts c.in-Some.first) (forms_from ts c.behind_word-entries.result) c.in-Some.ensures.0 c.behind_word-entries.ensures.forms tt
    (from_nothing _ _ t sig (forms_from ts c.behind_word-entries.result) c.args.given.now.entries c.args.elements.now _ c.requires.given c.requires.elements (λ es known. c.in_ok-read_entries.ensures.entries live es names known))
    (ap (forms_from ts) (sym c.after-behind.ensures.behind) ∙ c.begins-2.ensures.no c.if-begins.false)

pub returns-clause-given : goal.returns-clause-given
returns-clause-given c = c.in_ok-read_entries.ensures.given
