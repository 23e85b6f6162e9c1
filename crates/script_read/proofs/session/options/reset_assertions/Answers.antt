use Rattle.std.proofs.Common.{sym, subst}
use Rattle.script_terms.specs.Known.{Scoping, Shows}
use Rattle.script_terms.specs.Reading.{is_level_known}
use Rattle.script_terms.specs.Scope.{emptied}
use Rattle.script_terms.proofs.Showing.{shows_emptied}
use Rattle.script_read.proofs.session.options.reset_assertions.Goals as goal

pub returns-clause-stands : goal.returns-clause-stands
returns-clause-stands c = λ t s stands. record {
  shows =
      subst (λ b. Shows t c.args.session.now.sofar.fresh c.empty.new.self (emptied is_level_known b s.sofar.live)) (sym stands.global)
      (subst (λ (sc : Scoping). Shows t c.args.session.now.sofar.fresh sc (emptied is_level_known c.args.session.now.global s.sofar.live)) (sym c.empty.ensures)
      (shows_emptied t c.args.session.now.sofar.fresh c.args.session.now.sofar.scope s.sofar.live stands.shows c.args.session.now.global));
  supply = stands.supply;
  global = stands.global;
  begun = stands.begun;
  asserted = stands.asserted;
}
