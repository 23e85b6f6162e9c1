use Rattle.std.proofs.Common.{◌≡◌, ◌∷◌, Some, ap, sym, subst, ◌∙◌}
use Rattle.smt_lex.specs.Forest.{token_at}
use Rattle.smt_lex.specs.Forms.{◌⨾◌}
use Rattle.script_terms.specs.Bound.{name_at}
use Rattle.script_terms.specs.Heads.{named_head}
use Rattle.script_terms.specs.HeadClauses.{ReadsIndices, world_of, indexed_list}
use Rattle.script_terms.specs.Places.{form_from, forms_from}
use Rattle.script_terms.proofs.HeadsCalled.{callee_moved, name_with_numerals}
use Rattle.script_terms.proofs.terms.heads.indexed_callee.Goals as goal

pub returns-in-Some : goal.returns-in-Some
returns-in-Some c t supply live bound shows locals =
    let ts = c.args.forest.now.tokens in
    let place = (token_at ts c.args.i).start in
    let n = name_at ts c.args.name in
    let f = form_from ts c.args.name in
    let fs = forms_from ts c.args.name in
    let gs = forms_from ts c.after.result in
    let forms : fs ≡ f ⨾ gs = (c.begins.ensures.yes c.if-not-begins.false).forms ∙ ap (λ i. f ⨾ forms_from ts i) (sym c.after.ensures.behind) in
    let told : ReadsIndices gs (Some c.in-Some.indices) = subst (ReadsIndices gs) c.in-Some.is c.in_ok-indices.ensures in
    callee_moved ts (world_of t supply c.args.scope.now) (indexed_list bound live place fs) (named_head bound live place n gs (told.0 ∷ told.1)) c.named_callee.result
    (name_with_numerals bound live place fs gs f forms n told.0 told.1 (c.is_symbol.ensures.yes c.if-not-is_symbol.false) told.2.numerals)
    (c.named_callee.ensures t supply live bound gs (told.0 ∷ told.1) shows locals told.2)
