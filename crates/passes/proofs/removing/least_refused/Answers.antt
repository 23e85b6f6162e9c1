use Rattle.std.proofs.Common.{◌∙◌, ◌∷◌, ◌+◌, ap, sym, ℕ, option_to_list, arith}
use Rattle.pass_laws.specs.Passed.{least}
use Rattle.passes.proofs.RefusedCommands.{refused_from, command_left, commands_left, least_same, least_then, least_last}
use Rattle.passes.proofs.removing.least_refused.Goals as goal
use Rattle.passes.proofs.removing.least_refused.Goals.{in-Some, in_default}

pub quantified_use-requires : goal.quantified_use-requires
quantified_use-requires c = command_left c.args.table.now c.args.commands.now c.loop-i.i c.get.result.now c.get.ensures c.loop-i.invariant.numbers

pub loop-i-preserved : goal.loop-i-preserved
loop-i-preserved c =
    let t = c.args.table.now in
    let ks = c.args.commands.now in
    let l = c.loop-i in
    record {
      numbers = commands_left t ks l.i c.get.result.now c.get.ensures l.invariant.numbers;
      least =
          elim c.match-branch-2.branch [
            | in-Some w ↦
                ap (λ (n : ℕ). least (n ∷ refused_from t ks (l.i + 1))) (w.least-is ∙ w.min-least.ensures)
                ∙ least_then t ks l.i c.get.result.now c.get.ensures l.least w.in-Some.number (c.in_ok-number.ensures ∙ ap option_to_list w.in-Some.is) ∙ l.invariant.least
            | in_default w ↦
                ap (λ (n : ℕ). least (n ∷ refused_from t ks (l.i + 1))) w.least-is
                ∙ least_same t ks l.i c.get.result.now c.get.ensures l.least (c.in_ok-number.ensures ∙ ap option_to_list w.in_default.is) ∙ l.invariant.least
          ];
    }

pub returns : goal.returns
returns c =
    let l = c.loop-i in
    sym l.invariant.least ∙ least_last c.args.table.now c.args.commands.now l.i l.least (let past = c.loop-i-test.false in omega (arith, c.len-i-end.ensures))
