use Rattle.std.proofs.Common.{◌≡◌, true, Some, IfSome, length, map, subst, ap, sym, ◌∙◌}
use Rattle.std.specs.Prelude.{option_map}
use Rattle.script_terms.specs.Parts.{place_of}
use Rattle.script_terms.specs.Places.{form_from}
use Rattle.model_texts.specs.Conditions.{equations_at, AreSortsOf, NamesEachOnce, GivesEquations}
use Rattle.model_texts.specs.GivenParameters.{variables_at}
use Rattle.model_texts.specs.Met.{names_kept}
use Rattle.model_texts.specs.Proper.{are_distinct}
use Rattle.model_texts.specs.Replies.{AreElementsOf, Replies}
use Rattle.model_texts.specs.Tables.{equations, condition_values, keys_in_order}
use Rattle.model_texts.proofs.KeysRead.{AreThese}
use Rattle.model_texts.proofs.OnceNamed.{are_variables}
use Rattle.model_texts.proofs.conditions.read_condition.Goals as goal

pub read_keys-requires-clause-once : goal.read_keys-requires-clause-once
read_keys-requires-clause-once c =
    let n = length c.args.sorts.now in
    subst (NamesEachOnce n) (sym c.as_slice.ensures.value) (subst (λ o. IfSome o (λ v. NamesEachOnce n v.items)) c.in-Some.is c.in_ok-equations.ensures.once)

pub returns-clause-values : goal.returns-clause-values
returns-clause-values c es known =
    let t = c.args.table.now in
    let ts = c.args.forest.now.tokens in
    let args = c.args.sorts.now in
    let ps = c.args.parameters.now in
    let f = form_from ts c.args.at in
    let xs = variables_at t ts args ps in
    let sorts : AreSortsOf t args = record { table = c.know_table.ensures.sorts; within = c.requires.sorts } in
    let distinct : are_distinct (map (λ p. p.0) ps) ≡ true = subst (λ o. IfSome o (λ _. are_distinct (map (λ p. p.0) ps) ≡ true)) c.in-Some.is c.in_ok-equations.ensures.distinct in
    let gives : GivesEquations ts args ps (λ ys. equations ys f) (Some c.in-Some.equations.items) =
    subst (λ o. GivesEquations ts args ps (λ ys. equations ys f) (option_map (λ v. v.items) o)) c.in-Some.is c.in_ok-equations.ensures.equations in
    subst (λ q. Replies AreThese (AreElementsOf t (names_kept c.read_keys.new.elements)) q c.read_keys.result)
    (sym (ap (λ o. condition_values (place_of f) xs o es) (gives.equations t sorts) ∙ ap (λ ds. keys_in_order xs (equations_at ts xs ds) es) (sym c.as_slice.ensures.value)))
    (c.read_keys.ensures.values xs (are_variables ts args ps c.requires.count distinct t) es known)
