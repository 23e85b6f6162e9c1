use Rattle.std.proofs.Common.{◌≡◌, Bool, true, false, not, None, if◌then◌else◌, refl, sym, ap, ◌∙◌, true≢false}
use Rattle.smt_lex.specs.Names.{is_reserved}
use Rattle.smt_lex.specs.Forest.{token_at}
use Rattle.script_terms.proofs.Placing.{symbol_here, symbol_word, symbol_quoted, no_symbol_of}
use Rattle.script_terms.proofs.places.is_symbol.Goals as goal

chosen : {A : Type 0} (r b : Bool) (x y : A) → r ≡ b → not r ≡ true → (if b then x else y) ≡ y
chosen false false x y e holds = refl
chosen true b x y e holds = absurd (true≢false (sym holds))
chosen false true x y e holds = absurd (true≢false (sym e))

refused : {A : Type 0} (r b : Bool) (x y : A) → r ≡ b → not r ≡ false → (if b then x else y) ≡ x
refused true true x y e fails = refl
refused false b x y e fails = absurd (true≢false fails)
refused true false x y e fails = absurd (true≢false e)

pub returns-in-Word-clause-yes : goal.returns-in-Word-clause-yes
returns-in-Word-clause-yes c holds =
    symbol_here c.args.forest.now.tokens c.args.i c.requires
    ∙ symbol_word (token_at c.args.forest.now.tokens c.args.i) (sym c.item.ensures ∙ c.in-Word.is)
    ∙ chosen c.is_reserved_word.result _ None _ (c.is_reserved_word.ensures ∙ ap is_reserved c.text.ensures.text) holds

pub returns-in-Word-clause-no : goal.returns-in-Word-clause-no
returns-in-Word-clause-no c fails =
    symbol_here c.args.forest.now.tokens c.args.i c.requires
    ∙ symbol_word (token_at c.args.forest.now.tokens c.args.i) (sym c.item.ensures ∙ c.in-Word.is)
    ∙ refused c.is_reserved_word.result _ None _ (c.is_reserved_word.ensures ∙ ap is_reserved c.text.ensures.text) fails

pub returns-in-Quoted-clause-yes : goal.returns-in-Quoted-clause-yes
returns-in-Quoted-clause-yes c holds =
    symbol_here c.args.forest.now.tokens c.args.i c.requires
    ∙ symbol_quoted (token_at c.args.forest.now.tokens c.args.i) (sym c.item.ensures ∙ c.in-Quoted.is)

pub returns-in_default-clause-no : goal.returns-in_default-clause-no
returns-in_default-clause-no c fails =
    symbol_here c.args.forest.now.tokens c.args.i c.requires
    ∙ no_symbol_of (token_at c.args.forest.now.tokens c.args.i) (λ is. c.in_default.not-Word (c.item.ensures ∙ is)) (λ is. c.in_default.not-Quoted (c.item.ensures ∙ is))
