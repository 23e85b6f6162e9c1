use Rattle.std.proofs.lemmas.Result.{err_from_is_err_and}
use Rattle.script_terms.proofs.StepsOfAnnotations.{annotation_refused, annotated_begins, annotation_less}
use Rattle.script_terms.proofs.terms.term_reader.TermReader.open_annotation.Goals as goal

pub returns-in_err-term-clause-steps : goal.returns-in_err-term-clause-steps
returns-in_err-term-clause-steps c t s r going =
    let p = err_from_is_err_and c.from_residual.result c.from_residual.ensures.1 in
    rw (p.1, p.2)
    (annotation_refused c.args.forest.now.tokens t s c.args.self.now c.args.list r going c.args.first c.requires.opens _ c.in_err-term.ensures)

pub returns-clause-steps : goal.returns-clause-steps
returns-clause-steps c t s r going =
    annotated_begins c.args.forest.now.tokens t s c.args.self.now c.args.list r going c.args.first c.requires.opens c.in_ok-term.term c.in_ok-term.attributes c.in_ok-term.ensures c.push.new.self c.in_ok-push.ensures.items

pub returns-clause-less : goal.returns-clause-less
returns-clause-less c =
    annotation_less c.args.forest.now.tokens c.args.self.now c.args.list c.args.first c.in_ok-term.term c.in_ok-term.attributes c.requires.opens c.in_ok-term.ensures c.push.new.self c.in_ok-push.ensures.items
