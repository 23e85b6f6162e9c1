use Rattle.std.proofs.Common.{◌≡◌, ℕ, List, ◌∷◌, ◌++◌, [], Bor, is_some, ap, sym, ◌∙◌}
use Rattle.std.proofs.lemmas.List.Elements.{All-same, All-push, All-map}
use Rattle.indexmap.proofs.CallerLemmas.{insert_entry-new}
use Rattle.smt_lex.specs.Forms.{◌⨾◌}
use Rattle.smt_lex.specs.Names.{is_among}
use Rattle.script_terms.specs.Places.{IsForm, form_from, forms_from}
use Rattle.model_texts.specs.Entries.{parameters_in}
use Rattle.model_texts.specs.Proper.{are_distinct}
use Rattle.model_texts.specs.SignatureNames.{by_name}
use Rattle.model_texts.proofs.NamedEntries.{same_key, among_by_name, distinct_by_name, none_from}
use Rattle.model_texts.proofs.ParametersAt.{joined, joined_last, joined_none, joined_all, joined_again, names_at, seen, seen_last}
use Rattle.model_texts.proofs.parameters.parameters_at.Goals as goal

pub returns-in_default-parameter_at : goal.returns-in_default-parameter_at
returns-in_default-parameter_at c =
    let inv = c.loop-sorts.invariant in
    let ts = c.args.forest.now.tokens in
    let forms = (c.begins.ensures.yes c.loop-sorts-test.true).forms in
    inv.rest ∙ ap (joined (seen ts c.loop-sorts.sorts.entries)) (ap parameters_in forms ∙ c.in_default-parameter_at.ensures _) ∙ joined_none (seen ts c.loop-sorts.sorts.entries)

pub returns-then-is_some : goal.returns-then-is_some
returns-then-is_some c =
    let inv = c.loop-sorts.invariant in
    let ts = c.args.forest.now.tokens in
    let es = c.loop-sorts.sorts.entries in
    let n = c.in-Some-parameter_at.name.now in
    let forms = (c.begins.ensures.yes c.loop-sorts-test.true).forms in
    inv.rest
    ∙ ap (joined (seen ts es)) (ap parameters_in forms ∙ c.in-Some-parameter_at.ensures.1 _)
    ∙ joined_again (form_from ts c.in-Some-parameter_at.sort) n _ (seen ts es)
    (ap (λ ns. is_among ns n) (names_at ts (by_name es)) ∙ among_by_name es n ∙ ap is_some (sym c.in_ok-insert.ensures.old) ∙ sym c.is_some.ensures ∙ c.if-is_some.true)

pub loop-sorts-preserved : goal.loop-sorts-preserved
loop-sorts-preserved c =
    let inv = c.loop-sorts.invariant in
    let ts = c.args.forest.now.tokens in
    let es = c.loop-sorts.sorts.entries in
    let e : Bor (List ℕ) × ℕ = (c.in-Some-parameter_at.name, c.in-Some-parameter_at.sort) in
    let forms : forms_from ts c.loop-sorts.next ≡ form_from ts c.loop-sorts.next ⨾ forms_from ts c.after-next.result =
    (c.begins.ensures.yes c.loop-sorts-test.true).forms ∙ ap (λ n. form_from ts c.loop-sorts.next ⨾ forms_from ts n) (sym c.after-next.ensures.behind) in
    let new : c.insert.new.self.entries ≡ es ++ e ∷ [] =
    c.in_ok-insert.ensures.entries ∙ insert_entry-new same_key c.loop-sorts.sorts e.0 e.1 (none_from (sym c.in_ok-insert.ensures.old) (sym c.is_some.ensures ∙ c.if-is_some.false)) in
    record {
      place = c.after-next.ensures.within.1;
      apart = c.in_ok-insert.ensures.unique;
      forms = All-same (λ d. IsForm ts d.1) c.insert.new.self.entries (es ++ e ∷ []) new (All-push (λ d. IsForm ts d.1) es e inv.forms c.in-Some-parameter_at.ensures.0);
      rest = inv.rest
          ∙ ap (joined (seen ts es)) (ap parameters_in forms ∙ c.in-Some-parameter_at.ensures.1 _)
          ∙ sym (joined_last (seen ts es) (record { name = e.0.now; sort = form_from ts e.1 }) (parameters_in (forms_from ts c.after-next.result)))
          ∙ ap (λ ps. joined ps (parameters_in (forms_from ts c.after-next.result))) (sym (ap (seen ts) new ∙ seen_last ts es e));
    }

pub returns : goal.returns
returns c =
    let inv = c.loop-sorts.invariant in
    let ts = c.args.forest.now.tokens in
    let es = c.loop-sorts.sorts.entries in (
      inv.rest
          ∙ ap (λ fs. joined (seen ts es) (parameters_in fs)) (c.begins.ensures.no c.loop-sorts-test.false)
          ∙ joined_all (seen ts es) (ap are_distinct (names_at ts (by_name es)) ∙ distinct_by_name es inv.apart),
      All-map (λ p. IsForm ts p.1) (λ e. (e.0.now, e.1)) es inv.forms,
    )
