use Rattle.std.proofs.Common.{List, ap, sym, ◌∙◌, subst, arith}
use Rattle.smt_terms.specs.declared.ids.NodeId.{NodeId}
use Rattle.smt_terms.specs.Fresh.{Supply}
use Rattle.smt_terms.specs.Rank.{sort_of}
use Rattle.smt_terms.specs.Term.{Term}
use Rattle.term_table.specs.Formulas.{tree, IsNode}
use Rattle.term_subst.proofs.Gaining.{gains-none, gains-both}
use Rattle.normal_forms.specs.Shape.{variables_of}
use Rattle.quantifier_forms.specs.Variables.{AreVariables}
use Rattle.quantifier_forms.proofs.Pulled.{body-spared, body-fresh, fronts-pushed, front-pushed, substituted-gains}
use Rattle.quantifier_forms.proofs.Bodies.{body-bool}
use Rattle.quantifier_forms.proofs.Sweeps.{tree-stays, node-stays}
use Rattle.quantifier_forms.proofs.pulling.pull.Goals as goal

pub draw_all-requires-clause-variables : goal.draw_all-requires-clause-variables
draw_all-requires-clause-variables c =
    let t = c.args.table.now in
    let xs = variables_of (tree t c.args.id) in
    (xs, subst (λ (ks : List NodeId). AreVariables t ks xs) (sym c.deref.ensures.value) c.in_ok-variables.ensures)

pub substitute-requires-clause-root : goal.substitute-requires-clause-root
substitute-requires-clause-root c =
    let node : IsNode c.args.table.now c.body_below-body.result = let below = c.body_below-body.ensures.below in let here = c.requires.binder.formula.node in omega arith in
    node-stays c.args.table.now c.draw_all.new.table c.body_below-body.result c.in_ok-drawn.ensures.gains.grows node

pub substitute-requires-clause-map : goal.substitute-requires-clause-map
substitute-requires-clause-map c =
    let t = c.args.table.now in
    let xs = variables_of (tree t c.args.id) in
    (c.in_ok-drawn.ensures.fresh xs (subst (λ (ks : List NodeId). AreVariables t ks xs) (sym c.deref.ensures.value) c.in_ok-variables.ensures)).map

pub substitute-requires-clause-names : goal.substitute-requires-clause-names
substitute-requires-clause-names c =
    let node : IsNode c.args.table.now c.body_below-body.result = let below = c.body_below-body.ensures.below in let here = c.requires.binder.formula.node in omega arith in
    body-spared c.args.table.now c.draw_all.new.table c.args.id c.body_below-body.result c.args.fresh.now c.draw_all.new.fresh c.in_ok-drawn.ensures.gains.grows node c.requires.binder.quantified c.body_below-body.ensures.term
    c.in_ok-drawn.ensures.gains.later c.requires.names

pub returns-in_err-variables-clause-gains : goal.returns-in_err-variables-clause-gains
returns-in_err-variables-clause-gains c = gains-none c.args.table.now c.args.fresh.now

pub returns-in_err-image-clause-gains : goal.returns-in_err-image-clause-gains
returns-in_err-image-clause-gains c =
    let e = c.in_err-image.ensures in
    gains-both c.args.table.now c.draw_all.new.table c.substitute.new.table c.args.fresh.now c.draw_all.new.fresh c.substitute.new.fresh c.in_ok-drawn.ensures.gains
    (substituted-gains c.draw_all.new.table c.substitute.new.table c.draw_all.new.fresh c.substitute.new.fresh e.grows e.sorts e.later e.drawn)

pub returns-in_err-push-clause-gains : goal.returns-in_err-push-clause-gains
returns-in_err-push-clause-gains c =
    let e = c.in_ok-image.ensures in
    gains-both c.args.table.now c.draw_all.new.table c.substitute.new.table c.args.fresh.now c.draw_all.new.fresh c.substitute.new.fresh c.in_ok-drawn.ensures.gains
    (substituted-gains c.draw_all.new.table c.substitute.new.table c.draw_all.new.fresh c.substitute.new.fresh e.grows e.sorts e.later e.drawn)

pub returns-clause-gains : goal.returns-clause-gains
returns-clause-gains c =
    let e = c.in_ok-image.ensures in
    gains-both c.args.table.now c.draw_all.new.table c.substitute.new.table c.args.fresh.now c.draw_all.new.fresh c.substitute.new.fresh c.in_ok-drawn.ensures.gains
    (substituted-gains c.draw_all.new.table c.substitute.new.table c.draw_all.new.fresh c.substitute.new.fresh e.grows e.sorts e.later e.drawn)

pub returns-clause-formula : goal.returns-clause-formula
returns-clause-formula c =
    let t = c.args.table.now in
    let node : IsNode t c.body_below-body.result = let below = c.body_below-body.ensures.below in let here = c.requires.binder.formula.node in omega arith in
    let sort = body-bool (tree t c.args.id) c.requires.binder.quantified c.requires.binder.formula.sort in
    record {
      node = c.in_ok-image.ensures.node;
      sort = c.in_ok-image.ensures.sort ∙ ap sort_of (tree-stays t c.draw_all.new.table c.body_below-body.result c.in_ok-drawn.ensures.gains.grows node ∙ c.body_below-body.ensures.term) ∙ sort;
    }

pub returns-clause-term : goal.returns-clause-term
returns-clause-term c =
    let t = c.args.table.now in
    let xs = variables_of (tree t c.args.id) in
    let node : IsNode t c.body_below-body.result = let below = c.body_below-body.ensures.below in let here = c.requires.binder.formula.node in omega arith in
    let fresh = c.in_ok-drawn.ensures.fresh xs (subst (λ (ks : List NodeId). AreVariables t ks xs) (sym c.deref.ensures.value) c.in_ok-variables.ensures) in
    c.in_ok-image.ensures.term
    ∙ ap (λ (r : Term × Supply). r.0) (body-fresh t c.draw_all.new.table c.args.id c.body_below-body.result c.in_ok-drawn.drawn.items c.draw_all.new.map c.args.fresh.now c.draw_all.new.fresh c.in_ok-drawn.ensures.gains.grows node c.body_below-body.ensures.term fresh)

pub returns-clause-left : goal.returns-clause-left
returns-clause-left c =
    let t = c.args.table.now in
    let xs = variables_of (tree t c.args.id) in
    let node : IsNode t c.body_below-body.result = let below = c.body_below-body.ensures.below in let here = c.requires.binder.formula.node in omega arith in
    let fresh = c.in_ok-drawn.ensures.fresh xs (subst (λ (ks : List NodeId). AreVariables t ks xs) (sym c.deref.ensures.value) c.in_ok-variables.ensures) in
    c.in_ok-image.ensures.left
    ∙ ap (λ (r : Term × Supply). r.1) (body-fresh t c.draw_all.new.table c.args.id c.body_below-body.result c.in_ok-drawn.drawn.items c.draw_all.new.map c.args.fresh.now c.draw_all.new.fresh c.in_ok-drawn.ensures.gains.grows node c.body_below-body.ensures.term fresh)

pub returns-clause-prefix : goal.returns-clause-prefix
returns-clause-prefix c =
    let t = c.args.table.now in
    let mid = c.draw_all.new.table in
    let e = c.in_ok-image.ensures in
    let xs = variables_of (tree t c.args.id) in
    let fresh = c.in_ok-drawn.ensures.fresh xs (subst (λ (ks : List NodeId). AreVariables t ks xs) (sym c.deref.ensures.value) c.in_ok-variables.ensures) in
    let all = gains-both t mid c.substitute.new.table c.args.fresh.now c.draw_all.new.fresh c.substitute.new.fresh c.in_ok-drawn.ensures.gains
    (substituted-gains mid c.substitute.new.table c.draw_all.new.fresh c.substitute.new.fresh e.grows e.sorts e.later e.drawn) in
    fronts-pushed t mid c.substitute.new.table c.args.id c.args.prefix.now.items c.push.new.self.items (record { universal = c.is_universal-universal.result; variables = c.in_ok-drawn.drawn }) c.draw_all.new.map c.args.fresh.now c.draw_all.new.fresh
    c.requires.binder c.requires.names c.in_ok-drawn.ensures.gains.grows e.grows all.grows c.is_universal-universal.ensures fresh c.requires.prefix c.in_ok-push.ensures.items

pub returns-clause-front : goal.returns-clause-front
returns-clause-front c =
    let t = c.args.table.now in
    let mid = c.draw_all.new.table in
    let e = c.in_ok-image.ensures in
    let xs = variables_of (tree t c.args.id) in
    let fresh = c.in_ok-drawn.ensures.fresh xs (subst (λ (ks : List NodeId). AreVariables t ks xs) (sym c.deref.ensures.value) c.in_ok-variables.ensures) in
    let all = gains-both t mid c.substitute.new.table c.args.fresh.now c.draw_all.new.fresh c.substitute.new.fresh c.in_ok-drawn.ensures.gains
    (substituted-gains mid c.substitute.new.table c.draw_all.new.fresh c.substitute.new.fresh e.grows e.sorts e.later e.drawn) in
    front-pushed t mid c.substitute.new.table c.args.id c.args.prefix.now.items c.push.new.self.items (record { universal = c.is_universal-universal.result; variables = c.in_ok-drawn.drawn }) c.draw_all.new.map c.args.fresh.now c.draw_all.new.fresh
    c.requires.binder c.requires.names c.in_ok-drawn.ensures.gains.grows e.grows all.grows c.is_universal-universal.ensures fresh c.requires.prefix c.in_ok-push.ensures.items
