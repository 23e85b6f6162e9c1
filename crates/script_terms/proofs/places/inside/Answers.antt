use Rattle.std.proofs.Common.{◌≡◌, suc, ◌+◌, arith, ap, sym, ◌∙◌}
use Rattle.smt_lex.specs.Forms.{is_left, node}
use Rattle.smt_lex.specs.Forest.{token_at}
use Rattle.script_terms.specs.Places.{forms_from}
use Rattle.script_terms.proofs.Placing.{list_form, token_form, form_within, form_side, not_left}
use Rattle.script_terms.proofs.places.inside.Goals as goal

pub overflow_add-result : goal.overflow_add-result
overflow_add-result c =
    let within = form_within c.args.forest.now.tokens c.args.i c.requires in
    omega (arith, within, c.len.ensures.count, c.len.type_inv)

pub returns-in-Left : goal.returns-in-Left
returns-in-Left c =
    let within = form_within c.args.forest.now.tokens c.args.i c.requires in
    let next : suc c.args.i ≡ c.args.i + 1 = omega arith in (
      list_form c.args.forest.now.tokens c.args.i within (sym c.item.ensures ∙ c.in-Left.is) ∙ ap (λ n. node (token_at c.args.forest.now.tokens c.args.i).start (forms_from c.args.forest.now.tokens n)) next,
      omega arith,
      omega (arith, within),
    )

pub returns-in_default : goal.returns-in_default
returns-in_default c =
    token_form c.args.forest.now.tokens c.args.i (form_within c.args.forest.now.tokens c.args.i c.requires)
    (sym (ap is_left c.item.ensures) ∙ not_left c.item.result c.in_default.not-Left)
    (form_side c.args.forest.now.tokens c.args.i c.requires)
