use Rattle.std.proofs.Common.{◌≡◌, true, false, is_some, refl, ap, sym, ◌∙◌}
use Rattle.quantifier_forms.proofs.Memos.{sets-each}
use Rattle.term_groups.specs.Replacing.{IsReplaced}
use Rattle.term_groups.proofs.ReplacedNodes.{sets-stay}
use Rattle.ackermann.proofs.replacing.keep_live.Goals as goal

pub returns-in_ok-set-clause-replaced : goal.returns-in_ok-set-clause-replaced
returns-in_ok-set-clause-replaced c t ns are one =
    sets-each c.args.memo.now c.set.new.self 0 c.args.id c.in-Some.constant (IsReplaced t ns) c.in_ok-set.ensures.ok are (one c.in-Some.constant (sym c.constant_of.ensures ∙ c.in-Some.is))

pub returns-in_ok-set-clause-live : goal.returns-in_ok-set-clause-live
returns-in_ok-set-clause-live c missing = let no : true ≡ false = ap is_some (sym (c.in_ok-set.ensures.ok.here c.args.id refl) ∙ missing) in absurd cc

pub returns-in_ok-set-clause-stay : goal.returns-in_ok-set-clause-stay
returns-in_ok-set-clause-stay c = sets-stay c.args.memo.now c.set.new.self c.args.id c.in-Some.constant c.in_ok-set.ensures.ok
