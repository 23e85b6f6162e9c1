use Rattle.std.proofs.Common.{[], refl}
use Rattle.smt_lex.specs.Forms.{none, ◌⨾◌}
use Rattle.script_terms.specs.Places.{form_from}
use Rattle.model_texts.proofs.EquationsFound.{collects_none, collects_more, collects_nothing, all_collected}
use Rattle.model_texts.proofs.conditions.one_equation.Goals as goal

pub returns-in_default : goal.returns-in_default
returns-in_default c =
    let ts = c.args.forest.now.tokens in
    let f = form_from ts c.args.at in
    collects_nothing ts c.args.sorts.now c.args.parameters.now (f ⨾ none) [] f (f ⨾ none) none
    (collects_none ts c.args.sorts.now c.args.parameters.now (f ⨾ none) (f ⨾ none) [] refl refl) refl c.in_default.ensures

pub returns : goal.returns
returns c =
    let ts = c.args.forest.now.tokens in
    let f = form_from ts c.args.at in
    all_collected ts c.args.sorts.now c.args.parameters.now (f ⨾ none) c.push.new.self.items none
    (collects_more ts c.args.sorts.now c.args.parameters.now (f ⨾ none) c.new-equations.result.items f (f ⨾ none) none
    (collects_none ts c.args.sorts.now c.args.parameters.now (f ⨾ none) (f ⨾ none) c.new-equations.result.items c.new-equations.ensures.items refl) refl
    c.in-Some.equation c.push.new.self.items c.in-Some.ensures c.in_ok-push.ensures.items) refl
