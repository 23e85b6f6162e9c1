-- What may be written of an accepted text, by the commands that were read of it and those that passes made of these.
use Rattle.std.proofs.Common.{◌≡◌, sym, ap, subst, ℕ, List, Result, Ok}
use Rattle.smt_terms.specs.Fresh.{Supply}
use Rattle.smt_terms.specs.Sorts.{Name}
use Rattle.smt_terms.specs.Term.{Term}
use Rattle.script_terms.specs.Refusals.{Unaccepted}
use Rattle.script_read.specs.Commands.{Command}
use Rattle.script_read.specs.Script.{fault_of, script}
use Rattle.smt_print.specs.declared.layout.Layout.{Layout}
use Rattle.smt_print.specs.Text.{lines}
use Rattle.pass_laws.specs.declared.names.Pass.{Pass}
use Rattle.pass_laws.specs.Laws.{AreCarried}
use Rattle.pass_laws.specs.Led.{Leads, LeadsTo}
use Rattle.smtrw_answers.specs.Headline.{IsRewriting}
use Rattle.smtrw_answers.specs.Laws.{RewritingKeepsItsPromise}
use Rattle.smtrw_answers.specs.Outputs.{commands, names_left, read_or_none}

pub leads : (b : List ℕ) (read : List (Command Term) × Supply) → script b ≡ Ok read → (ps : List Pass) (rules : List Name) (ds : List (Command Term)) (left : Supply) → LeadsTo ps read.0 read.1 rules ds left → Leads ps (commands b) (names_left b) rules ds
leads b read is ps rules ds left led =
    let Led : Result (List (Command Term) × Supply) Unaccepted → Type 0 = λ r. LeadsTo ps (read_or_none r).0 (read_or_none r).1 rules ds left in
    (left, subst Led (sym is) led)

pub promised : RewritingKeepsItsPromise → (b : List ℕ) (read : List (Command Term) × Supply) → script b ≡ Ok read → (ps : List Pass) (layout : Layout) (ds : List (Command Term)) (left : Supply) → AreCarried ps read.0 ds read.1 left → (w : List ℕ) → w ≡ lines layout ds → IsRewriting b ps w
promised law b read is ps layout ds left carried w written =
    let Carried : Result (List (Command Term) × Supply) Unaccepted → Type 0 = λ r. AreCarried ps (read_or_none r).0 ds (read_or_none r).1 left in
    let there : AreCarried ps (read_or_none (script b)).0 ds (read_or_none (script b)).1 left = subst Carried (sym is) carried in
    subst (IsRewriting b ps) (sym written) (law b ps layout ds left (ap fault_of is) there.ready there.equivalent there.models)
