use Rattle.std.proofs.Common.{refl}
use Rattle.std.proofs.lemmas.Result.{err_from_is_err_and}
use Rattle.script_terms.proofs.Grown.{grown_self, later_self}
use Rattle.script_terms.proofs.StepsOfAnnotations.{names_refused, names_given}
use Rattle.script_terms.proofs.terms.term_reader.TermReader.resume_annotated.Goals as goal

pub give_names-requires-clause-list : goal.give_names-requires-clause-list
give_names-requires-clause-list c = c.requires.going.going.waiting.1

pub give_names-requires-clause-attributes : goal.give_names-requires-clause-attributes
give_names-requires-clause-attributes c = c.requires.going.going.waiting.2.place

pub give_names-requires-clause-known : goal.give_names-requires-clause-known
give_names-requires-clause-known c =
    let come = c.requires.going.going in
    (c.args.sofar.now.fresh, come.waiting.2.context.locals, come.waiting.2.stands.shown, come.spared)

pub returns-clause-steps : goal.returns-clause-steps
returns-clause-steps c r come =
    names_given c.args.forest.now.tokens c.args.table.now c.args.sofar.now c.args.self.now c.args.frame c.args.node c.args.behind r come
    c.give_names.new.scope c.give_names.ensures.definitions
    (c.in_ok-give_names.ensures.names c.args.sofar.now.fresh come.live come.waiting.2.context come.waiting.2.form come.known come.waiting.2.stands.shown come.waiting.2.stands.named come.spared)
    c.after.result c.after.ensures.behind

pub returns-in_err-give_names-clause-steps : goal.returns-in_err-give_names-clause-steps
returns-in_err-give_names-clause-steps c r come =
    let p = err_from_is_err_and c.from_residual.result c.from_residual.ensures.1 in
    rw (p.1, p.2)
    (names_refused c.args.forest.now.tokens c.args.table.now c.args.sofar.now c.args.self.now c.args.frame c.args.node c.args.behind r come
    c.args.sofar.now c.args.self.now c.in_err-give_names.field-0.0
    (c.in_err-give_names.ensures.names c.args.sofar.now.fresh come.live come.waiting.2.context come.waiting.2.form come.known come.waiting.2.stands.shown come.waiting.2.stands.named come.spared))

pub returns-clause-keeps : goal.returns-clause-keeps
returns-clause-keeps c = record {
  gains = record { table = grown_self c.args.table.now; supply = later_self c.args.sofar.now.fresh; definitions = c.give_names.ensures.definitions };
  defines = refl;
}

pub returns-in_err-give_names-clause-keeps : goal.returns-in_err-give_names-clause-keeps
returns-in_err-give_names-clause-keeps c = record {
  gains = record { table = grown_self c.args.table.now; supply = later_self c.args.sofar.now.fresh; definitions = c.give_names.ensures.definitions };
  defines = refl;
}
