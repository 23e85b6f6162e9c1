use Rattle.std.proofs.Common.{◌≡◌, ◌++◌, ◌-◌, take, drop}
use Rattle.smt_lex.specs.FormText.{form_text}
use Rattle.script_terms.specs.Places.{form_from}
use Rattle.script_read.proofs.TokenTexts.{token_texts}
use Rattle.script_read.proofs.form_texts.form_text.Given as goal

abbrev pub invariant-loop-token : goal.invariant-loop-token
invariant-loop-token l =
    l.text ++ token_texts l.behind (take (l.token-end - l.token) (drop l.token l.forest.tokens)) ≡ form_text (form_from l.forest.tokens l.i)
