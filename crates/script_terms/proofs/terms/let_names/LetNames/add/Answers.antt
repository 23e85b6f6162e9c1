use Rattle.std.proofs.Common.{◌++◌, ◌∷◌, [], map, ap, ◌∙◌}
use Rattle.smt_lex.specs.Names.{is_among}
use Rattle.script_terms.specs.Laid.{borrowed}
use Rattle.script_terms.proofs.NamesOfLets.{added_later}
use Rattle.script_terms.proofs.terms.let_names.LetNames.add.Goals as goal

pub returns-in_ok-insert : goal.returns-in_ok-insert
returns-in_ok-insert c new =
    ap (λ es. borrowed (c.self.inside.first.items ++ es)) c.in_ok-insert.ensures.entries
    ∙ added_later c.self.inside.first.items c.self.inside.later.entries c.args.name c.args.term (ap (λ ps. is_among (map (λ p. p.0) ps) c.args.name.now) c.self.view_is ∙ new)
    ∙ ap (λ ps. ps ++ (c.args.name.now, c.args.term) ∷ []) c.self.view_is
