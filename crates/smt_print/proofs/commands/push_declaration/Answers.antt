use Rattle.std.proofs.Common.{◌++◌, map, ap, ◌∙◌}
use Rattle.smt_lex.specs.FormText.{form_text}
use Rattle.term_table.specs.Formulas.{symbol_at}
use Rattle.term_table.specs.WrittenForms.{list_form, sort_form}
use Rattle.smt_print.proofs.CommandLines.{function-declared}
use Rattle.smt_print.proofs.commands.push_declaration.Goals as goal

pub returns : goal.returns
returns c =
    function-declared c.args.out.now c.push_short.new.self c.push_symbol.new.out c.push.new.self c.push_sorts.new.out c.push-2.new.self c.push_sort.new.out c.push-3.new.self
    (symbol_at c.args.table.now c.args.symbol) c.in_ok-push_short.ensures
    c.in_ok-push_symbol.ensures c.in_ok-push.ensures
    (c.in_ok-push_sorts.ensures ∙ ap (λ ss. c.push.new.self ++ form_text (list_form (map sort_form ss))) c.symbol_rank.ensures.args) c.in_ok-push-2.ensures
    (c.in_ok-push_sort.ensures ∙ ap (λ s. c.push-2.new.self ++ form_text (sort_form s)) c.symbol_rank.ensures.to) c.in_ok-push-3.ensures
