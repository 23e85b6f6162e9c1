-- A script behind passes without stored rules: it has the one list of commands that the definitions give, which carries models.
use Rattle.std.proofs.Common.{◌≡◌, subst, ℕ, ◌≤◌, false, List, [], ◌∷◌, arith}
use Rattle.std.specs.Prelude.{count_by}
use Rattle.std.specs.List.{list_any}
use Rattle.smt_terms.specs.Fresh.{Supply}
use Rattle.smt_terms.specs.Sorts.{Name}
use Rattle.smt_terms.specs.Term.{Term}
use Rattle.script_read.specs.CommandLists.{commands_of, is_check as is_node_check}
use Rattle.script_read.specs.Commands.{Command, checks}
use Rattle.pass_laws.specs.declared.names.Pass.{Pass}
use Rattle.pass_laws.specs.declared.names.Pass.TheVariants.{Rules}
use Rattle.pass_laws.specs.Laws.{CarriesModels, IsReady}
use Rattle.pass_laws.specs.Led.{LeadsTo}
use Rattle.pass_laws.specs.Passed.{apply_pass, passed}
use Rattle.smtrw_answers.specs.Blasting.{names_behind}
use Rattle.smtrw_answers.specs.Carrying.{translated, extended}
use Rattle.smtrw_answers.specs.Outputs.{commands, names_left, rewritten_commands}
use Rattle.smtrw_answers.specs.Words.{is_rules}
use Rattle.smtrw_run.specs.declared.carrying.Passage.{Passage}
use Rattle.smtrw_run.specs.Carrying.{IsPassage}
use Rattle.smtrw_run.proofs.Commanded.{checks_are}
use Rattle.smtrw_run.proofs.Ways.{same_checks}

-- ---- passes without stored rules lead to one list

led_alone : (ps : List Pass) (cs : List (Command Term)) (s : Supply) (rules : List Name) (ds : List (Command Term)) (r : Supply) → list_any is_rules ps ≡ false → LeadsTo ps cs s rules ds r → (ds ≡ (passed ps cs s).0) × (r ≡ (passed ps cs s).1)
led_alone [] cs s rules ds r unruled led = led
led_alone (Rules ∷ ps) cs s rules ds r unruled led = absurd cc
led_alone (p ∷ ps) cs s rules ds r unruled led = led_alone ps (apply_pass p cs s).0 (apply_pass p cs s).1 rules ds r unruled led

-- ---- what the passes led to

module _ (b : List ℕ) (ps : List Pass) (k : ℕ) (rules : List Name) (p : Passage) (is : IsPassage b ps k rules p) (unruled : list_any is_rules ps ≡ false) where
  abbrev led : List (Command Term)
  led = commands_of p.way.table p.script.commands

  alone : (commands_of p.way.table p.script.commands ≡ rewritten_commands b ps) × (p.fresh ≡ names_behind b ps)
  alone = led_alone ps (commands b) (names_left b) rules (commands_of p.way.table p.script.commands) p.fresh unruled is.leads

  pub of_passed : (P : List (Command Term) → Supply → Type 0) → P (commands_of p.way.table p.script.commands) p.fresh → P (rewritten_commands b ps) (names_behind b ps)
  of_passed P holds = subst (λ (cs : List (Command Term)). P cs (names_behind b ps)) alone.0 (subst (λ (s : Supply). P led s) alone.1 holds)

  pub ready : IsReady (rewritten_commands b ps) (names_behind b ps)
  ready = of_passed IsReady is.carried.ready

  pub models : CarriesModels (commands b) (rewritten_commands b ps) (translated b ps) (extended b ps)
  models = of_passed (λ cs s. CarriesModels (commands b) cs (translated b ps) (extended b ps)) is.carried.models

  pub last : k ≤ checks (rewritten_commands b ps)
  last =
      let same = same_checks (commands b) (rewritten_commands b ps) models.kinds in
      let most = is.way.leads.within.1 in
      omega (arith, same, most)

  pub script_last : k ≤ count_by is_node_check p.script.commands
  script_last =
      let same = same_checks (commands b) led is.carried.models.kinds in
      let count = checks_are p.way.table p.script.commands in
      let most = is.way.leads.within.1 in
      omega (arith, same, count, most)
