use Rattle.std.proofs.Common.{◌≡◌, ◌∙◌, ap, ◌++◌, map, length, get_or, arith}
use Rattle.models.specs.GoingBack.{before_check}
use Rattle.models.specs.LiveAssertions.{live_behind, assumed_by}
use Rattle.models.proofs.LiveFound.{check_within, terms_found, nodes_found}
use Rattle.models.proofs.live_terms.live.Goals as goal
use Rattle.models.proofs.live_terms.live.Goals.{In_ok-add_literals}

pub bounds-commands-before : goal.bounds-commands-before
bounds-commands-before c =
    omega (
      arith,
      check_within c.args.table.now c.args.script.now.commands c.args.check c.requires.first c.requires.last,
      ap length (c.before_check-before.ensures ∙ ap (before_check c.args.check) c.as_slice-commands.ensures),
      ap length c.as_slice-commands.ensures,
    )

-- the commands before the check
before : (c : In_ok-add_literals) → c.before_check-before.result.now ≡ before_check c.args.check c.args.script.now.commands
before c = c.before_check-before.ensures ∙ ap (before_check c.args.check) c.as_slice-commands.ensures

-- the command behind them
check : (c : In_ok-add_literals)
    → c.index-commands-before.result ≡ get_or c.args.script.now.commands (length (before_check c.args.check c.args.script.now.commands)) c.index-commands-before.result
check c = c.index-commands-before.is ∙ (λ i. get_or (c.as_slice-commands.ensures i) (length (before c i)) c.index-commands-before.result)

-- what is found there
found : (c : In_ok-add_literals)
    → c.add_literals.new.found.items ≡ live_behind (before_check c.args.check c.args.script.now.commands) ++ map (λ l. (l, 0)) (assumed_by c.index-commands-before.result)
found c =
    c.in_ok-add_literals.ensures ∙ ap (λ xs. xs ++ map (λ l. (l, 0)) (assumed_by c.index-commands-before.result)) (c.in_ok-found.ensures ∙ ap live_behind (before c))

pub returns-clause-terms : goal.returns-clause-terms
returns-clause-terms c =
    terms_found c.args.table.now c.args.script.now.commands c.args.check c.requires.first c.requires.last c.index-commands-before.result c.add_literals.new.found.items (check c) (found c)

pub returns-clause-nodes : goal.returns-clause-nodes
returns-clause-nodes c =
    nodes_found c.args.table.now c.args.script.now.commands c.args.check c.requires.first c.requires.last c.index-commands-before.result c.add_literals.new.found.items (check c) (found c)
    c.requires.numbers
