use Rattle.std.proofs.Common.{◌≡◌, ◌∙◌, sym, ap, refl, ℕ, ◌≤◌, List, map, length, drop, reverse, arith}
use Rattle.std.proofs.lemmas.List.{at_drop_all, reverse-reverse}
use Rattle.std.proofs.lemmas.Result.{IfOk-weaker}
use Rattle.smt_terms.specs.declared.ids.NodeId.{NodeId}
use Rattle.script_read.specs.declared.scripts.Command.{Command}
use Rattle.models.specs.LiveAssertions.{Placed, Open, first_open, open_behind_all, live_behind}
use Rattle.models.proofs.live_terms.live_behind.Goals as goal

-- nothing is left behind the last command
all_met : (o : Open) (cs : List Command) (i : ℕ) (ps : List Placed) → open_behind_all o (drop i cs) ≡ open_behind_all first_open cs → length cs ≤ i → o.placed ≡ reverse ps
    → map {B = NodeId × ℕ} (λ p. (p.0, p.1)) ps ≡ live_behind cs
all_met o cs i ps met past is =
    let last : o ≡ open_behind_all first_open cs = sym (at_drop_all (open_behind_all o) cs i past) ∙ met in
    ap (map (λ p. (p.0, p.1))) (sym (reverse-reverse ps) ∙ ap reverse (sym is ∙ ap (λ (x : Open). x.placed) last))

pub returns : goal.returns
returns c =
    IfOk-weaker c.without_levels.result (λ v. v.items ≡ map (λ p. (p.0, p.1)) c.as_slice.result.now) (λ v. v.items ≡ live_behind c.args.commands.now)
    (λ v is. is ∙ ap (map (λ p. (p.0, p.1))) c.as_slice.ensures.value ∙ all_met _ c.args.commands.now c.loop-command.command-index c.loop-command.placed.items c.loop-command.invariant.rest (omega arith) refl)
    c.without_levels.ensures
