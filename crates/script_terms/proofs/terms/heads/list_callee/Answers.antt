use Rattle.std.proofs.Common.{◌≡◌, ap, sym, ◌∙◌}
use Rattle.smt_lex.specs.Forest.{token_at}
use Rattle.smt_lex.specs.Forms.{node, ◌⨾◌}
use Rattle.script_terms.specs.Heads.{callee_of, filling_head}
use Rattle.script_terms.specs.HeadClauses.{world_of, indexed_list}
use Rattle.script_terms.specs.Places.{form_from, forms_from}
use Rattle.script_terms.proofs.HeadsCalled.{callee_moved, indexed_is, filling_is}
use Rattle.script_terms.proofs.terms.heads.list_callee.Goals as goal

pub returns-then-is_word-clause-callee : goal.returns-then-is_word-clause-callee
returns-then-is_word-clause-callee c supply live bound shows locals =
    let ts = c.args.forest.now.tokens in
    let place = (token_at ts c.args.i).start in
    let f = form_from ts c.args.first in
    let fs = forms_from ts c.args.first in
    let gs = forms_from ts c.after-behind.result in
    let forms : fs ≡ f ⨾ gs = (c.begins.ensures.yes c.if-begins.true).forms ∙ ap (λ n. f ⨾ forms_from ts n) (sym c.after-behind.ensures.behind) in
    callee_moved ts (world_of c.args.table.now supply c.args.scope.now) (callee_of bound (node place fs) live) (indexed_list bound live place gs) c.indexed_callee.result
    (indexed_is bound live place fs gs f forms (sym c.is_word.ensures ∙ c.if-is_word.true))
    (c.indexed_callee.ensures c.args.table.now supply live bound shows locals)

pub returns-then-is_word-2-clause-callee : goal.returns-then-is_word-2-clause-callee
returns-then-is_word-2-clause-callee c supply live bound shows locals =
    let ts = c.args.forest.now.tokens in
    let place = (token_at ts c.args.i).start in
    let f = form_from ts c.args.first in
    let fs = forms_from ts c.args.first in
    let gs = forms_from ts c.after-behind.result in
    let forms : fs ≡ f ⨾ gs = (c.begins.ensures.yes c.if-begins.true).forms ∙ ap (λ n. f ⨾ forms_from ts n) (sym c.after-behind.ensures.behind) in
    callee_moved ts (world_of c.filling_callee.new.table supply c.args.scope.now) (callee_of bound (node place fs) live) (filling_head live place gs) c.filling_callee.result
    (filling_is bound live place fs gs f forms (sym c.is_word.ensures ∙ c.if-is_word.false) (sym c.is_word-then-begins.ensures ∙ c.if-is_word-2.true))
    (c.filling_callee.ensures.callee supply live shows)
