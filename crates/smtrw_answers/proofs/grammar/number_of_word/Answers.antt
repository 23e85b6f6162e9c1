use Rattle.std.proofs.Common.{◌≡◌, ◌≤◌, ◌∙◌, ap, sym, true, length, arith}
use Rattle.smt_lex.specs.Lexicon.{is_numeral}
use Rattle.smtrw_answers.proofs.GrammarNumbers.{number_read}
use Rattle.smtrw_answers.proofs.grammar.number_of_word.Goals as goal

pub returns : goal.returns
returns c =
    let word = c.args.word.now in
    let numeral : is_numeral word ≡ true = ap is_numeral (sym c.as_bytes.ensures.value) ∙ sym c.if-not-is_numeral.ensures in
    let few : length word ≤ 18 = omega (arith, c.if-word-gt-MOST_DIGITS.false) in
    c.ok.ensures.value ∙ number_read word c.parse.result numeral few c.parse.ensures.value.0
