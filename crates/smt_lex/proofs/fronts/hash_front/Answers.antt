use Rattle.std.proofs.Common.{sym, ◌∙◌, ap, arith, ◌≡◌, ◌+◌, drop}
use Rattle.std.specs.Char.{is_ascii_hexdigit}
use Rattle.std.proofs.lemmas.List.{take_rest}
use Rattle.smt_lex.specs.Lexicon.{is_binary_digit, length_while}
use Rattle.smt_lex.proofs.Numbers.{hexadecimal_run, binary_run}
use Rattle.smt_lex.proofs.fronts.hash_front.Goals as goal

pub returns-then-ends_run-clause-value : goal.returns-then-ends_run-clause-value
returns-then-ends_run-clause-value c =
    let rest = ap (length_while is_ascii_hexdigit) (take_rest c.args.text.now 2) in
    let long : 2 + c.hexadecimal_length-length.result ≡ 2 + length_while is_ascii_hexdigit (drop 2 c.args.text.now) = omega (arith, c.hexadecimal_length-length.ensures.longest, rest) in
    sym (hexadecimal_run c.args.text.now (2 + c.hexadecimal_length-length.result) (sym c.starts_with.ensures.value ∙ c.if-starts_with.true) long c.if-length-gt2.true
    (c.ends_run.ensures.ends c.if-ends_run.true))

pub returns-then-ends_run-2-clause-value : goal.returns-then-ends_run-2-clause-value
returns-then-ends_run-2-clause-value c =
    let rest = ap (length_while is_binary_digit) (take_rest c.args.text.now 2) in
    let long : 2 + c.binary_length-length.result ≡ 2 + length_while is_binary_digit (drop 2 c.args.text.now) = omega (arith, c.binary_length-length.ensures.longest, rest) in
    sym (binary_run c.args.text.now (2 + c.binary_length-length.result) (sym c.starts_with-else-starts_with.ensures.value ∙ c.if-starts_with-2.true) long c.if-length-gt2-2.true
    (c.ends_run-then-length-gt2-2.ensures.ends c.if-ends_run-2.true))
