use Rattle.std.proofs.Common.{◌<◌, length, arith, ap, sym, ◌∙◌}
use Rattle.smt_lex.specs.Forms.{is_right}
use Rattle.script_terms.proofs.Placing.{forms_begin, form_begins, no_forms, no_forms_left, not_right, after_within}
use Rattle.script_terms.proofs.places.begins.Goals as goal

pub returns-in_default-clause-yes : goal.returns-in_default-clause-yes
returns-in_default-clause-yes c holds =
    let within : c.args.i < length c.args.forest.now.tokens = omega (arith, c.if-i-len.false, c.len.ensures.count) in
    let other = sym (ap is_right c.item.ensures) ∙ not_right c.item.result c.in_default.not-Right in
    record {
      form = form_begins c.args.forest.now.tokens c.args.i within other;
      within = within;
      forms = forms_begin c.args.forest.now.tokens c.args.i within other;
      behind = after_within c.args.forest.now.tokens c.args.i within;
    }

pub returns-then-i-len-clause-no : goal.returns-then-i-len-clause-no
returns-then-i-len-clause-no c holds = no_forms_left c.args.forest.now.tokens c.args.i (omega (arith, c.if-i-len.true, c.len.ensures.count))

pub returns-in-Right-clause-no : goal.returns-in-Right-clause-no
returns-in-Right-clause-no c holds =
    let within : c.args.i < length c.args.forest.now.tokens = omega (arith, c.if-i-len.false, c.len.ensures.count) in
    no_forms c.args.forest.now.tokens c.args.i within (sym c.item.ensures ∙ c.in-Right.is)
