use Rattle.std.proofs.Common.{◌≡◌, ◌∙◌, sym, ap, suc, ◌+◌, ◌==◌, ◌∷◌, get_or, take, drop, arith}
use Rattle.std.proofs.lemmas.List.{take_rest}
use Rattle.dimacs_link.proofs.Parts.{split_at, split_found, split_none, false_from}
use Rattle.dimacs_link.proofs.pieces.cut.Goals as goal

pub returns-in-Some-clause-parts : goal.returns-in-Some-clause-parts
returns-in-Some-clause-parts c =
    let text = c.args.text.now in
    let at = c.args.at in
    let end = c.in-Some.end in
    let found = c.in-Some.ensures in
    let on : suc end ≡ end + 1 = omega arith in
    split_found at text end found.0.high (λ j below. false_from (get_or text j 0 == at) (found.0.before j (omega arith) below)) found.1
    ∙ ap (λ n. take end text ∷ split_at at (drop n text)) on
    ∙ ap (λ rest. take end text ∷ split_at at rest) (sym (take_rest text (end + 1)))

pub returns-in-None-clause-parts : goal.returns-in-None-clause-parts
returns-in-None-clause-parts c = split_none c.args.at c.args.text.now (λ j below. false_from (get_or c.args.text.now j 0 == c.args.at) (c.in-None.ensures j (omega arith) below))
