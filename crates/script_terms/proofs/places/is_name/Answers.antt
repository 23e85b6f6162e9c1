use Rattle.std.proofs.Common.{inl, inr, sym, ◌∙◌, true≢false}
use Rattle.smt_lex.specs.Forest.{token_at}
use Rattle.script_terms.proofs.Placing.{symbol_here, symbol_quoted, word_free, no_symbol_of}
use Rattle.script_terms.proofs.places.is_name.Goals as goal

pub returns-in-Word-clause-yes : goal.returns-in-Word-clause-yes
returns-in-Word-clause-yes c holds free =
    let t = token_at c.args.forest.now.tokens c.args.i in
    symbol_here c.args.forest.now.tokens c.args.i c.requires
    ∙ elim c.in-Word.is [
      | inl word ↦ word_free t (sym c.item.ensures ∙ word) free
      | inr quoted ↦ symbol_quoted t (sym c.item.ensures ∙ quoted)
    ]

pub returns-in_default : goal.returns-in_default
returns-in_default c = record {
  yes = λ holds. absurd (true≢false (sym holds));
  no = λ fails. symbol_here c.args.forest.now.tokens c.args.i c.requires
      ∙ no_symbol_of (token_at c.args.forest.now.tokens c.args.i) (λ is. c.in_default.not-Word (c.item.ensures ∙ is)) (λ is. c.in_default.not-Quoted (c.item.ensures ∙ is));
}
