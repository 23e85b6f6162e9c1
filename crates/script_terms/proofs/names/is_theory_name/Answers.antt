use Rattle.std.proofs.Common.{is_some, ap, sym, ◌∙◌}
use Rattle.script_terms.proofs.TheoryNames.{operator_theory, word_theory, real_theory, digits_decide, found_some}
use Rattle.script_terms.proofs.names.is_theory_name.Goals as goal

pub returns-then-is_some : goal.returns-then-is_some
returns-then-is_some c =
    sym (operator_theory c.args.name.now (ap is_some (sym c.form_named.ensures.named) ∙ found_some c.form_named.result ∙ sym c.is_some.ensures ∙ c.if-is_some.true))

pub returns-then-takes_no_index : goal.returns-then-takes_no_index
returns-then-takes_no_index c = sym (word_theory c.args.name.now (sym c.takes_no_index.ensures ∙ c.if-takes_no_index.true))

pub returns-then-is_real_name : goal.returns-then-is_real_name
returns-then-is_real_name c = c.if-is_real_name.true ∙ sym (real_theory c.args.name.now (sym c.is_real_name.ensures ∙ c.if-is_real_name.true))

pub returns-else-is_real_name : goal.returns-else-is_real_name
returns-else-is_real_name c =
    c.is_bit_vector_constant.ensures
    ∙ digits_decide c.args.name.now (ap is_some (sym c.form_named.ensures.named) ∙ found_some c.form_named.result ∙ sym c.is_some.ensures ∙ c.if-is_some.false)
    (sym c.takes_no_index.ensures ∙ c.if-takes_no_index.false) (sym c.is_real_name.ensures ∙ c.if-is_real_name.false)
