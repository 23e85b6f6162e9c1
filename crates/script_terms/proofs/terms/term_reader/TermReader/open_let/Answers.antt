use Rattle.std.proofs.Common.{refl, ◌∙◌}
use Rattle.std.proofs.lemmas.Result.{err_from_is_err_and}
use Rattle.script_terms.proofs.StepsOfLets.{let_refused, let_begins}
use Rattle.script_terms.proofs.terms.term_reader.TermReader.open_let.Goals as goal

pub returns-in_err-part-clause-steps : goal.returns-in_err-part-clause-steps
returns-in_err-part-clause-steps c t s r going =
    let p = err_from_is_err_and c.from_residual.result c.from_residual.ensures.1 in
    rw (p.1, p.2)
    (let_refused c.args.forest.now.tokens t s c.args.self.now c.args.list r going c.args.first c.requires.opens _ c.in_err-part.ensures)

pub returns-clause-steps : goal.returns-clause-steps
returns-clause-steps c t s r going =
    c.open_binding.ensures.steps t s r
    (let_begins c.args.forest.now.tokens t s c.args.self.now c.args.list r going c.args.first c.requires.opens c.in_ok-part.part c.in_ok-part.body c.in_ok-part.ensures
    (record { list = c.args.list; part = c.in_ok-part.part; body = c.in_ok-part.body; names = c.in_ok-names.names }) refl refl refl (c.in_ok-names.ensures.ok ∙ c.new.ensures))
