use Rattle.std.proofs.Common.{◌≡◌, refl, ap, sym, ◌∙◌}
use Rattle.smt_lex.specs.Forms.{◌⨾◌}
use Rattle.script_terms.specs.Places.{form_from, forms_from}
use Rattle.model_texts.proofs.EquationsFound.{collects_none, collects_more, collects_nothing, all_collected}
use Rattle.model_texts.proofs.conditions.equations_from.Goals as goal

pub loop-equation-init : goal.loop-equation-init
loop-equation-init c =
    let ts = c.args.forest.now.tokens in
    (c.requires.within, collects_none ts c.args.sorts.now c.args.parameters.now (forms_from ts c.args.first) (forms_from ts c.args.first) c.new-equations.result.items c.new-equations.ensures.items refl)

pub returns-in_default : goal.returns-in_default
returns-in_default c =
    let ts = c.args.forest.now.tokens in
    let i = c.loop-equation.next in
    collects_nothing ts c.args.sorts.now c.args.parameters.now (forms_from ts c.args.first) c.loop-equation.equations.items (form_from ts i) (forms_from ts i) _ c.loop-equation.invariant.1
    (c.begins.ensures.yes c.loop-equation-test.true).forms c.in_default.ensures

pub loop-equation-preserved : goal.loop-equation-preserved
loop-equation-preserved c =
    let ts = c.args.forest.now.tokens in
    let i = c.loop-equation.next in
    let forms : forms_from ts i ≡ form_from ts i ⨾ forms_from ts c.after-next.result =
    (c.begins.ensures.yes c.loop-equation-test.true).forms ∙ ap (λ n. form_from ts i ⨾ forms_from ts n) (sym c.after-next.ensures.behind) in (
      c.after-next.ensures.within.1,
      collects_more ts c.args.sorts.now c.args.parameters.now (forms_from ts c.args.first) c.loop-equation.equations.items (form_from ts i) (forms_from ts i) (forms_from ts c.after-next.result) c.loop-equation.invariant.1
          forms c.in-Some.equation c.push.new.self.items c.in-Some.ensures c.in_ok-push.ensures.items,
    )

pub returns : goal.returns
returns c =
    let ts = c.args.forest.now.tokens in
    all_collected ts c.args.sorts.now c.args.parameters.now (forms_from ts c.args.first) c.loop-equation.equations.items (forms_from ts c.loop-equation.next) c.loop-equation.invariant.1 (c.begins.ensures.no c.loop-equation-test.false)
