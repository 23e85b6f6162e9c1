use Rattle.std.proofs.Common.{◌≡◌, ◌∙◌, sym, length, ◌-◌, suc, arith}
use Rattle.script_terms.proofs.ReservedWords.{digit_free}
use Rattle.script_terms.proofs.places.is_reserved_word.Goals as goal

pub returns-in-len1-up : goal.returns-in-len1-up
returns-in-len1-up c =
    let w = c.args.word.now in
    let behind : suc (length w - 1) ≡ length w = omega (arith, c.in-len1-up.len_at_least) in
    sym (digit_free w (length w - 1) behind (sym c.is_ascii_digit.ensures.value ∙ c.if-is_ascii_digit.true))
