use Rattle.std.proofs.Common.{◌≡◌, ap, sym, subst, ◌∙◌}
use Rattle.smt_lex.specs.Forest.{token_at}
use Rattle.script_terms.specs.Places.{form_from, forms_from}
use Rattle.models.specs.LiveNumbers.{signature_of}
use Rattle.model_texts.specs.Replies.{Replies}
use Rattle.model_texts.specs.SignatureNames.{sort_of_name}
use Rattle.model_texts.proofs.EntryReading.{list_at, token_alone, list_unread, other_unread, sort_reads}
use Rattle.model_texts.proofs.ReadSteps.{Known}
use Rattle.model_texts.proofs.entries.read_elements.Goals as goal

pub returns-then-is_some : goal.returns-then-is_some
returns-then-is_some c live gs es names known =
    let ts = c.args.forest.now.tokens in
    let list = list_at ts c.args.sort c.inside.result c.inside.ensures (sym c.is_some.ensures ∙ c.if-is_some.true) in
    list_unread c.args.table.now c.args.elements.now (signature_of c.args.table.now live).sorts gs es known tt (form_from ts c.args.sort) (token_at ts c.args.sort).start list.0 (forms_from ts c.args.first) list.1

pub returns-in_default : goal.returns-in_default
returns-in_default c live gs es names known =
    let ts = c.args.forest.now.tokens in
    other_unread c.args.table.now live c.args.names.now names (form_from ts c.args.sort) (token_at ts c.args.sort)
    (token_alone ts c.args.sort c.inside.result c.inside.ensures (sym c.is_some.ensures ∙ c.if-is_some.false)) (forms_from ts c.args.first) gs tt c.args.elements.now es known
    (ap (sort_of_name c.args.names.now) (sym c.name.ensures) ∙ sym c.in_default.ensures)

pub returns : goal.returns
returns c live gs es names known =
    let ts = c.args.forest.now.tokens in
    subst (λ r. Replies (λ _ hs. hs ≡ gs) (Known c.args.table.now c.read_values.new.elements) (r es) c.read_values.result)
    (sym (sort_reads c.args.table.now live c.args.names.now names (form_from ts c.args.sort) (token_at ts c.args.sort)
    (token_alone ts c.args.sort c.inside.result c.inside.ensures (sym c.is_some.ensures ∙ c.if-is_some.false)) (forms_from ts c.args.first) gs c.in-Some.sort
    (ap (sort_of_name c.args.names.now) (sym c.name.ensures) ∙ sym c.in-Some.ensures)))
    (c.read_values.ensures gs es known)
