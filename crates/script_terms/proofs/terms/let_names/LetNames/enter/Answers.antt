use Rattle.std.proofs.Common.{◌≡◌, ◌++◌, map, drop, ap, ◌∙◌, arith}
use Rattle.script_terms.specs.Bound.{let_local}
use Rattle.script_terms.proofs.NamesOfLets.{entered_last, entered_next}
use Rattle.script_terms.proofs.terms.let_names.LetNames.enter.Goals as goal

pub loop-place-init : goal.loop-place-init
loop-place-init c = (entered_last c.args.self.now c.len-place.result c.args.locals.now c.len-place.ensures, omega (arith, c.len-place.ensures))

pub loop-place-preserved : goal.loop-place-preserved
loop-place-preserved c = (
  entered_next c.args.self.now c.loop-place.place c.args.locals.now c.loop-place.locals c.enter_one.new.locals c.loop-place-test.true c.loop-place.invariant.1 c.loop-place.invariant.0 c.in_ok-enter_one.ensures,
  omega (arith, c.loop-place.invariant.1),
)

pub returns : goal.returns
returns c =
    let none : c.loop-place.place ≡ 0 = omega (arith, c.loop-place-test.false) in
    c.loop-place.invariant.0 ∙ ap (λ n. map let_local (drop n c.args.self.now) ++ c.args.locals.now) none
