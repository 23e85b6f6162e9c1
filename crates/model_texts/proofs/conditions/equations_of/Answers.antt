use Rattle.std.proofs.Common.{◌≡◌, ◌↔◌, ℕ, List, Option, Some, length, subst, sym, ◌∙◌}
use Rattle.std.specs.Prelude.{option_map, IsTrue}
use Rattle.smt_lex.specs.Lex.{Token}
use Rattle.smt_terms.specs.Sorts.{Variable}
use Rattle.script_terms.specs.Places.{form_from}
use Rattle.model_texts.specs.Conditions.{NamesEachOnce, GivesEquations}
use Rattle.model_texts.specs.Tables as plain
use Rattle.model_texts.specs.Tables.{all_equations, conjuncts}
use Rattle.model_texts.proofs.OnceNamed.{named_once, not_named_once}
use Rattle.model_texts.proofs.conditions.equations_of.Goals as goal

abbrev read : List Token → ℕ → List Variable → Option (List plain.Equation)
read ts i xs = all_equations xs (conjuncts (form_from ts i))

pub returns-then-not-branch-clause-equations : goal.returns-then-not-branch-clause-equations
returns-then-not-branch-clause-equations c =
    let ts = c.args.forest.now.tokens in
    let args = c.args.sorts.now in
    let ps = c.args.parameters.now in
    let es = c.in-Some.equations.items in
    let size : c.len.result ≡ length args = c.len.ensures.len ∙ sym c.requires.count in
    let gives : GivesEquations ts args ps (read ts c.args.at) (Some es) = subst (λ o. GivesEquations ts args ps (read ts c.args.at) (option_map (λ v. v.items) o)) c.in-Some.is c.in_ok-equations.ensures in
    let says : IsTrue c.in_ok-name_each_once.field-0 ↔ NamesEachOnce c.len.result es = subst (λ es. IsTrue c.in_ok-name_each_once.field-0 ↔ NamesEachOnce c.len.result es) c.as_slice.ensures.value c.in_ok-name_each_once.ensures in
    not_named_once ts args ps c.requires.count c.len.ensures.distinct (read ts c.args.at) es gives c.len.result size c.in_ok-name_each_once.field-0 says c.if-not-branch.true

pub returns-clause-equations : goal.returns-clause-equations
returns-clause-equations c =
    let ts = c.args.forest.now.tokens in
    let args = c.args.sorts.now in
    let ps = c.args.parameters.now in
    let es = c.in-Some.equations.items in
    let size : c.len.result ≡ length args = c.len.ensures.len ∙ sym c.requires.count in
    let gives : GivesEquations ts args ps (read ts c.args.at) (Some es) = subst (λ o. GivesEquations ts args ps (read ts c.args.at) (option_map (λ v. v.items) o)) c.in-Some.is c.in_ok-equations.ensures in
    let says : IsTrue c.in_ok-name_each_once.field-0 ↔ NamesEachOnce c.len.result es = subst (λ es. IsTrue c.in_ok-name_each_once.field-0 ↔ NamesEachOnce c.len.result es) c.as_slice.ensures.value c.in_ok-name_each_once.ensures in
    named_once ts args ps c.requires.count c.len.ensures.distinct (read ts c.args.at) es gives c.len.result size c.in_ok-name_each_once.field-0 says c.if-not-branch.false

pub returns-clause-once : goal.returns-clause-once
returns-clause-once c =
    let size : c.len.result ≡ length c.args.sorts.now = c.len.ensures.len ∙ sym c.requires.count in
    let says : IsTrue c.in_ok-name_each_once.field-0 ↔ NamesEachOnce c.len.result c.in-Some.equations.items = subst (λ es. IsTrue c.in_ok-name_each_once.field-0 ↔ NamesEachOnce c.len.result es) c.as_slice.ensures.value c.in_ok-name_each_once.ensures in
    subst (λ n. NamesEachOnce n c.in-Some.equations.items) size (says.0 c.if-not-branch.false)
