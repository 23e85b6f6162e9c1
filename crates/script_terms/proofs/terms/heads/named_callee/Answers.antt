use Rattle.std.proofs.Common.{◌≡◌, Some, ap, sym, ◌∙◌}
use Rattle.smt_lex.specs.Forest.{token_at}
use Rattle.smt_terms.specs.Written.{operator_named, at_indices}
use Rattle.sort_check.specs.Forms.{form_seen}
use Rattle.script_terms.specs.Bound.{name_at}
use Rattle.script_terms.specs.Heads.{named_head, written_at}
use Rattle.script_terms.specs.HeadClauses.{world_of}
use Rattle.script_terms.proofs.HeadsCalled.{callee_moved, operator_head}
use Rattle.script_terms.proofs.terms.heads.named_callee.Goals as goal

pub returns-in-Some : goal.returns-in-Some
returns-in-Some c t supply live bound fs ns shows locals are =
    let ts = c.args.forest.now.tokens in
    let n = name_at ts c.args.name in
    let place = (token_at ts c.args.i).start in
    let named : operator_named n ≡ Some (form_seen c.in-Some.form) = sym (c.in-Some.ensures.named ∙ ap operator_named c.name-text.ensures) in
    callee_moved ts (world_of t supply c.args.scope.now) (named_head bound live place n fs ns) (written_at c.place_of-place.result fs (at_indices (form_seen c.in-Some.form) ns)) c.written_callee.result
    (operator_head ts t supply c.args.scope.now live shows c.args.locals.now bound locals place n fs ns (form_seen c.in-Some.form) named
    ∙ ap (λ p. written_at p fs (at_indices (form_seen c.in-Some.form) ns)) (sym c.place_of-place.ensures.start))
    (c.written_callee.ensures ts t supply c.args.scope.now fs ns are)

pub returns : goal.returns
returns c t supply live bound fs ns shows locals are =
    let ts = c.args.forest.now.tokens in
    callee_moved ts (world_of t supply c.args.scope.now) (named_head bound live (token_at ts c.args.i).start (name_at ts c.args.name) fs ns)
    (named_head bound live c.place_of-place.result c.name-text.result.now fs ns) c.other_callee.result
    (λ j. named_head bound live (sym c.place_of-place.ensures.start j) (sym c.name-text.ensures j) fs ns)
    (c.other_callee.ensures ts t supply live bound fs ns shows locals are)
