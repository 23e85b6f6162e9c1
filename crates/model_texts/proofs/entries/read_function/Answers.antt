use Rattle.std.proofs.Common.{◌≡◌, [], ◌∷◌, ◌++◌, map, sym, ap, subst, ◌∙◌}
use Rattle.std.proofs.lemmas.List.Elements.{All-push}
use Rattle.std.proofs.lemmas.Result.{err_from_is_err_and}
use Rattle.indexmap.proofs.CallerLemmas.{insert_entry-new}
use Rattle.smt_values.specs.SortIds.{sort_at}
use Rattle.std.specs.Prelude.{option_map}
use Rattle.script_terms.specs.Parts.{place_of}
use Rattle.script_terms.specs.Places.{form_from}
use Rattle.models.specs.LiveNumbers.{signature_of}
use Rattle.model_texts.specs.GivenEntries.{tables_given, IsNamedBy, AreNamedBy}
use Rattle.model_texts.specs.GivenParameters.{parameters_of}
use Rattle.model_texts.specs.SignatureNames.{owned}
use Rattle.model_texts.specs.declared.entries.Given.{Given}
use Rattle.model_texts.proofs.EntryForms.{listed, none_listed, one_table_more}
use Rattle.model_texts.proofs.EntryReading.{twice_refused, rank_refused, body_refused, body_read}
use Rattle.model_texts.proofs.entries.read_function.Goals as goal

pub returns-then-contains_key-clause-function : goal.returns-then-contains_key-clause-function
returns-then-contains_key-clause-function c live es names known =
    let t = c.args.table.now in
    let ts = c.args.forest.now.tokens in
    let n = c.args.function.name.now in
    twice_refused (signature_of t live) n (place_of (form_from ts c.args.at)) (tables_given c.args.given.now.entries) (parameters_of ts c.args.function.parameters) (form_from ts c.args.function.to) (form_from ts c.args.function.body)
    (owned t c.in-Some.owner) (sym (names.owners n) ∙ ap (option_map (owned t)) (sym c.in-Some.ensures)) _ _ c.refused.result es
    (sym (listed c.args.given.now.entries c.args.function.name) ∙ sym c.contains_key.ensures ∙ c.if-contains_key.true) c.refused.ensures

pub returns-then-not-has_rank-clause-function : goal.returns-then-not-has_rank-clause-function
returns-then-not-has_rank-clause-function c live es names known =
    let t = c.args.table.now in
    let ts = c.args.forest.now.tokens in
    let n = c.args.function.name.now in
    rank_refused (signature_of t live) n (place_of (form_from ts c.args.at)) (tables_given c.args.given.now.entries) (parameters_of ts c.args.function.parameters) (form_from ts c.args.function.to) (form_from ts c.args.function.body)
    (owned t c.in-Some.owner) (sym (names.owners n) ∙ ap (option_map (owned t)) (sym c.in-Some.ensures)) t c.args.elements.now (map (sort_at t.sorts) c.rank_of.result.0.now) (sort_at t.sorts c.rank_of.result.1) c.rank_of.ensures.sorts c.rank_of.ensures.to
    (sym (listed c.args.given.now.entries c.args.function.name) ∙ sym c.contains_key.ensures ∙ c.if-contains_key.false) _ _ c.refused-then-not-has_rank.result es (sym c.has_rank.ensures.rank ∙ c.if-not-has_rank.true) c.refused-then-not-has_rank.ensures

pub returns-in_err-table-clause-function : goal.returns-in_err-table-clause-function
returns-in_err-table-clause-function c live es names known =
    let t = c.args.table.now in
    let ts = c.args.forest.now.tokens in
    let n = c.args.function.name.now in
    let p = err_from_is_err_and c.from_residual.result c.from_residual.ensures.1 in
    rw (p.1, p.2)
    (body_refused (signature_of t live) n (place_of (form_from ts c.args.at)) (tables_given c.args.given.now.entries) (parameters_of ts c.args.function.parameters) (form_from ts c.args.function.to) (form_from ts c.args.function.body)
    (owned t c.in-Some.owner) (sym (names.owners n) ∙ ap (option_map (owned t)) (sym c.in-Some.ensures)) t c.args.elements.now (map (sort_at t.sorts) c.rank_of.result.0.now) (sort_at t.sorts c.rank_of.result.1) c.rank_of.ensures.sorts c.rank_of.ensures.to
    (sym (listed c.args.given.now.entries c.args.function.name) ∙ sym c.contains_key.ensures ∙ c.if-contains_key.false) _ c.read_body.new.elements c.in_err-table.field-0.0 (sym c.has_rank.ensures.rank ∙ c.if-not-has_rank.false) c.in_err-table.ensures.table es known)

pub returns-clause-function : goal.returns-clause-function
returns-clause-function c live es names known =
    let t = c.args.table.now in
    let ts = c.args.forest.now.tokens in
    let n = c.args.function.name.now in
    let g : Given = record { owner = c.in-Some.owner; table = c.in_ok-table.table } in
    let more : c.insert.new.self.entries ≡ c.args.given.now.entries ++ (c.args.function.name, g) ∷ [] =
    c.in_ok-insert.ensures.entries ∙ insert_entry-new _ c.args.given.now c.args.function.name g (none_listed _ (sym c.contains_key.ensures ∙ c.if-contains_key.false)) in
    body_read (signature_of t live) n (place_of (form_from ts c.args.at)) (tables_given c.args.given.now.entries) (parameters_of ts c.args.function.parameters) (form_from ts c.args.function.to) (form_from ts c.args.function.body)
    (owned t c.in-Some.owner) (sym (names.owners n) ∙ ap (option_map (owned t)) (sym c.in-Some.ensures)) t c.args.elements.now (map (sort_at t.sorts) c.rank_of.result.0.now) (sort_at t.sorts c.rank_of.result.1) c.rank_of.ensures.sorts c.rank_of.ensures.to
    (sym (listed c.args.given.now.entries c.args.function.name) ∙ sym c.contains_key.ensures ∙ c.if-contains_key.false) tt c.read_body.new.elements c.in_ok-table.table (tables_given c.insert.new.self.entries)
    (sym c.has_rank.ensures.rank ∙ c.if-not-has_rank.false) (ap tables_given more ∙ one_table_more c.args.given.now.entries (c.args.function.name, g)) c.in_ok-table.ensures.table es known

pub returns-clause-given : goal.returns-clause-given
returns-clause-given c =
    let g : Given = record { owner = c.in-Some.owner; table = c.in_ok-table.table } in
    let more : c.insert.new.self.entries ≡ c.args.given.now.entries ++ (c.args.function.name, g) ∷ [] =
    c.in_ok-insert.ensures.entries ∙ insert_entry-new _ c.args.given.now c.args.function.name g (none_listed _ (sym c.contains_key.ensures ∙ c.if-contains_key.false)) in
    let all : AreNamedBy c.args.names.now c.insert.new.self.entries =
    subst (AreNamedBy c.args.names.now) (sym more)
    (All-push (IsNamedBy c.args.names.now) c.args.given.now.entries (c.args.function.name, g) c.requires.given (record { owner = sym c.in-Some.ensures; held = c.in_ok-table.ensures.held })) in
    all
