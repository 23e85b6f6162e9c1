use Rattle.std.proofs.Common.{◌<◌, IfOk, sym, subst}
use Rattle.script_terms.specs.Waiting.{GoingBack, left_of, left_behind}
use Rattle.script_terms.proofs.terms.term_reader.TermReader.resume.Goals as goal

pub returns-in-Binding-clause-steps : goal.returns-in-Binding-clause-steps
returns-in-Binding-clause-steps c r come =
    c.resume_binding.ensures.steps c.args.table.now c.args.sofar.now c.args.behind r
    (subst (λ f. GoingBack c.args.forest.now.tokens c.args.table.now c.args.sofar.now c.args.self.now f c.args.node c.args.behind r) c.in-Binding.is come)

pub returns-in-Binding-clause-less : goal.returns-in-Binding-clause-less
returns-in-Binding-clause-less c =
    subst (λ f. IfOk c.resume_binding.result (λ next. left_of c.args.forest.now.tokens c.resume_binding.new.self next < left_behind c.args.forest.now.tokens c.args.self.now f c.args.behind))
    (sym c.in-Binding.is) (c.resume_binding.ensures.less c.args.behind)

pub returns-in-Body-clause-steps : goal.returns-in-Body-clause-steps
returns-in-Body-clause-steps c r come =
    c.resume_body.ensures.steps c.args.table.now c.args.sofar.now c.args.behind r
    (subst (λ f. GoingBack c.args.forest.now.tokens c.args.table.now c.args.sofar.now c.args.self.now f c.args.node c.args.behind r) c.in-Body.is come)

pub returns-in-Body-clause-less : goal.returns-in-Body-clause-less
returns-in-Body-clause-less c =
    subst (λ f. left_of c.args.forest.now.tokens c.resume_body.new.self c.resume_body.result < left_behind c.args.forest.now.tokens c.args.self.now f c.args.behind)
    (sym c.in-Body.is) (c.resume_body.ensures.less c.args.behind)

pub returns-in-Quantified-clause-steps : goal.returns-in-Quantified-clause-steps
returns-in-Quantified-clause-steps c r come =
    c.resume_quantified.ensures.steps c.args.sofar.now c.args.behind r
    (subst (λ f. GoingBack c.args.forest.now.tokens c.args.table.now c.args.sofar.now c.args.self.now f c.args.node c.args.behind r) c.in-Quantified.is come)

pub returns-in-Quantified-clause-less : goal.returns-in-Quantified-clause-less
returns-in-Quantified-clause-less c =
    subst (λ f. IfOk c.resume_quantified.result (λ next. left_of c.args.forest.now.tokens c.resume_quantified.new.self next < left_behind c.args.forest.now.tokens c.args.self.now f c.args.behind))
    (sym c.in-Quantified.is) (c.resume_quantified.ensures.less c.args.behind)
