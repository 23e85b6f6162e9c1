use Rattle.std.proofs.Common.{reverse, slice_get, IsSome, ap, sym, ◌∙◌, subst}
use Rattle.term_table.specs.Formulas.{trees_at, sorts_in}
use Rattle.rule_book.specs.declared.templates.Piece.{Piece}
use Rattle.rule_book.specs.Filling.{piece_over, left_by}
use Rattle.rule_book.specs.Seen.{piece_seen}
use Rattle.rule_book.specs.Template.{sort_made}
use Rattle.rule_book.proofs.Fillings.{last-left}
use Rattle.rule_book.proofs.filling.result_of.Goals as goal

pub returns-in_ok-id-in-Apply-clause-left : goal.returns-in_ok-id-in-Apply-clause-left
returns-in_ok-id-in-Apply-clause-left c =
    let t = c.args.table.now in
    let rs = c.args.results.now.items in
    let sort = subst (λ (q : Piece). IsSome (piece_over (slice_get (sorts_in (trees_at t c.args.holes.now))) sort_made (piece_seen q) (sorts_in (reverse (trees_at t rs))))) c.in-Apply.is c.requires.sort in
    ap (λ ks. reverse (trees_at t ks)) c.in_ok-id-in-Apply.ensures.left
    ∙ last-left t c.in-Apply.n rs c.in-Apply.op sort
    ∙ ap (λ (q : Piece). left_by (piece_seen q) (reverse (trees_at t rs))) (sym c.in-Apply.is)
