use Rattle.std.proofs.Common.{Some, ap, sym, ◌∙◌}
use Rattle.smt_lex.specs.Forest.{token_at}
use Rattle.script_terms.proofs.Placing.{keyword_here}
use Rattle.script_terms.proofs.Keywords.{keyword_is, no_keyword}
use Rattle.script_terms.proofs.places.keyword_at.Goals as goal

pub returns-in-Keyword : goal.returns-in-Keyword
returns-in-Keyword c =
    let ts = c.args.forest.now.tokens in
    ap Some c.text.ensures.text ∙ sym (keyword_here ts c.args.i c.requires ∙ keyword_is (token_at ts c.args.i) (sym c.item.ensures ∙ c.in-Keyword.is))

pub returns-in_default : goal.returns-in_default
returns-in_default c =
    let ts = c.args.forest.now.tokens in
    sym (keyword_here ts c.args.i c.requires ∙ no_keyword (token_at ts c.args.i) (λ is. c.in_default.not-Keyword (c.item.ensures ∙ is)))
