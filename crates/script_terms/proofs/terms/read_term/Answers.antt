use Rattle.std.proofs.Common.{◌<◌, length, IfSome, sym, subst}
use Rattle.script_terms.specs.Places.{form_from}
use Rattle.script_terms.specs.Read.{read}
use Rattle.script_terms.proofs.Running.{begins_below}
use Rattle.script_terms.proofs.terms.read_term.Goals as goal

pub run-requires-clause-defined : goal.run-requires-clause-defined
run-requires-clause-defined c = subst (λ d. IfSome d (λ j. j < length c.args.forest.now.tokens)) (sym c.begin.ensures.defines) c.requires.defined

pub run-requires-clause-going : goal.run-requires-clause-going
run-requires-clause-going c = record {
  reading = read (form_from c.args.forest.now.tokens c.args.i) c.requires.locals.0 (record { live = c.requires.known.0; supply = c.args.sofar.now.fresh });
  going = begins_below c.args.forest.now.tokens c.args.table.now c.args.sofar.now c.begin.new.self c.begin.ensures.frames c.args.locals c.args.defines c.begin.ensures.locals c.begin.ensures.defines
      c.args.i c.requires.locals.0 c.requires.known.0 c.requires.form c.requires.known.1 c.requires.locals.1 c.requires.locals.2;
}

pub returns-clause-term : goal.returns-clause-term
returns-clause-term c context live shows locals named =
    c.run.ensures.term _
    (begins_below c.args.forest.now.tokens c.args.table.now c.args.sofar.now c.begin.new.self c.begin.ensures.frames c.args.locals c.args.defines c.begin.ensures.locals c.begin.ensures.defines
    c.args.i context live c.requires.form shows locals named)
