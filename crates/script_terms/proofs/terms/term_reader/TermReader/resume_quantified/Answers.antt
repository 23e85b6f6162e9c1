use Rattle.std.proofs.Common.{rules, drop, ap, ◌∙◌}
use Rattle.script_terms.proofs.StepsOfQuantifiers.{quantifier_made}
use Rattle.script_terms.proofs.terms.term_reader.TermReader.resume_quantified.Goals as goal

pub returns-clause-steps : goal.returns-clause-steps
returns-clause-steps c s at r come =
    quantifier_made c.args.forest.now.tokens c.args.table.now s c.args.self.now c.args.frame.now c.args.node at r come
    c.quantified.new.table c.in_ok-node.ensures.grows c.in_ok-node.node (c.in_ok-node.ensures.term s.fresh come.waiting.2.known come.spared)
    c.leave.new.self (c.leave.ensures ∙ ap (λ n. drop n c.args.self.now.locals) (search rules)) c.after.result c.after.ensures.behind
