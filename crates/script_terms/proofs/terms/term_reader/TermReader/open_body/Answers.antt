use Rattle.std.proofs.Common.{◌++◌, length, map, ap, ◌∙◌}
use Rattle.script_terms.specs.Bound.{let_local}
use Rattle.script_terms.proofs.StepsOfLets.{body_begins}
use Rattle.script_terms.proofs.terms.term_reader.TermReader.open_body.Goals as goal

pub returns-clause-steps : goal.returns-clause-steps
returns-clause-steps c ts t s r empty next =
    body_begins ts t s c.args.self.now c.args.lets r next empty
    c.enter.new.locals (c.in_ok-enter.ensures ∙ ap (λ ns. map let_local ns ++ c.args.self.now.locals) c.deref.ensures) c.len.result (c.len.ensures ∙ ap length c.deref-2.ensures) c.push.new.self c.in_ok-push.ensures.items
