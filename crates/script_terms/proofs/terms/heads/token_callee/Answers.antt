use Rattle.std.proofs.Common.{◌≡◌, [], Some, ap, sym, ◌∙◌}
use Rattle.smt_lex.specs.Forest.{token_at}
use Rattle.smt_lex.specs.Forms.{none}
use Rattle.smt_terms.specs.Written.{operator_named, at_indices}
use Rattle.sort_check.specs.Forms.{form_seen}
use Rattle.script_terms.specs.Bound.{name_at}
use Rattle.script_terms.specs.Heads.{callee_of, named_head, written_at}
use Rattle.script_terms.specs.HeadClauses.{world_of}
use Rattle.script_terms.specs.Places.{form_from}
use Rattle.script_terms.proofs.HeadsCalled.{callee_moved, operator_head, symbol_is}
use Rattle.script_terms.proofs.NameFacts.{operator_free}
use Rattle.script_terms.proofs.terms.heads.token_callee.Goals as goal

pub returns-in-Some : goal.returns-in-Some
returns-in-Some c t supply live bound shows locals =
    let ts = c.args.forest.now.tokens in
    let i = c.args.i in
    let n = name_at ts i in
    let place = (token_at ts i).start in
    let o = form_seen c.in-Some.form in
    let named : operator_named n ≡ Some o = sym (c.in-Some.ensures.named ∙ ap operator_named c.name-name.ensures) in
    callee_moved ts (world_of t supply c.args.scope.now) (callee_of bound (form_from ts i) live) (written_at c.place_of-place.result none (at_indices o [])) c.plain_callee.result
    (symbol_is bound live (token_at ts i) (form_from ts i) c.requires.token n (c.is_name.ensures.yes c.if-not-is_name.false (operator_free n o named))
    ∙ operator_head ts t supply c.args.scope.now live shows c.args.locals.now bound locals place n none [] o named
    ∙ ap (λ p. written_at p none (at_indices o [])) (sym c.place_of-place.ensures.start))
    (c.plain_callee.ensures ts (world_of t supply c.args.scope.now))

pub returns : goal.returns
returns c t supply live bound shows locals =
    let ts = c.args.forest.now.tokens in
    let i = c.args.i in
    callee_moved ts (world_of t supply c.args.scope.now) (callee_of bound (form_from ts i) live) (named_head bound live c.place_of-place.result c.name-name.result.now none []) c.other_callee.result
    (symbol_is bound live (token_at ts i) (form_from ts i) c.requires.token (name_at ts i) (c.is_symbol.ensures.yes c.if-not-is_symbol.false)
    ∙ (λ j. named_head bound live (sym c.place_of-place.ensures.start j) (sym c.name-name.ensures j) none []))
    (c.other_callee.ensures ts t supply live bound none [] shows locals c.none.ensures)
