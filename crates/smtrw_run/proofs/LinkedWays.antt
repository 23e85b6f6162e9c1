-- A check behind passes that is taken for clauses, with the way back from answers to it.
use Rattle.std.proofs.Common.{◌≡◌, ap, subst, sym, ℕ, false, List, Option, Some, None, Result, Ok, Err}
use Rattle.std.specs.Prelude.{IsErrAnd, option_map}
use Rattle.std.specs.List.{list_any}
use Rattle.smt_terms.specs.declared.ids.SymId.{SymId}
use Rattle.smt_terms.specs.Sorts.{Name, Symbol}
use Rattle.smt_terms.specs.Term.{Term}
use Rattle.script_read.specs.CommandLists.{commands_of}
use Rattle.script_read.specs.Commands.{Command, signature}
use Rattle.pass_laws.specs.declared.names.Pass.{Pass}
use Rattle.dimacs_link.specs.declared.checks.LinkCheckFault.{LinkCheckFault}
use Rattle.dimacs_link.specs.declared.checks.LinkCheckFault.TheVariants.{NotClauses, Memory}
use Rattle.dimacs_link.specs.AnswerModels.{AreFlags}
use Rattle.dimacs_link.specs.CheckFaults.{IsLinkCheckFault}
use Rattle.models.specs.LiveRoots.{flags}
use Rattle.dimacs_link.specs.Checks.{linked_text as linked_check, unlinked_root, ChecksAreLinked}
use Rattle.dimacs_link.specs.Constants.{constants_at, AreConstants}
use Rattle.smtrw_answers.specs.declared.status.Status.{Status}
use Rattle.smtrw_answers.specs.declared.status.Status.TheVariants.{Done, Refused, Usage, ReadFailed, WriteFailed, OutOfMemory, ModelRefused, Beyond128, PassRefused}
use Rattle.smtrw_answers.specs.Accepted.{accepted_text}
use Rattle.smtrw_answers.specs.Carrying.{signature_behind}
use Rattle.smtrw_answers.specs.Endings.{or_later, passes_end, clauses_end, linking_end}
use Rattle.smtrw_answers.specs.Faults.{status_of_linking}
use Rattle.smtrw_answers.specs.Laws.{LinkingKeepsItsPromise}
use Rattle.smtrw_answers.specs.Linking.{linked_constants, linked_text, IsLinking}
use Rattle.smtrw_answers.specs.Outputs.{rewritten_commands}
use Rattle.smtrw_answers.specs.Words.{is_rules}
use Rattle.smtrw_run.specs.declared.carrying.Passage.{Passage}
use Rattle.smtrw_run.specs.declared.carrying.Way.{Way}
use Rattle.smtrw_run.specs.Carrying.{EndsOnTheWay, IsPassage}
use Rattle.smtrw_run.specs.Linking.{IsLinkedWay, IsPassageOfSome, LinksText}
use Rattle.smtrw_run.proofs.Passages.{last, models, of_passed, ready}

module _ (b : List ℕ) (ps : List Pass) (k : ℕ) (rules : List Name) (p : Passage) (is : IsPassage b ps k rules p) (unruled : list_any is_rules ps ≡ false) where
  abbrev led : List (Command Term)
  led = commands_of p.way.table p.script.commands

  -- ---- clauses

  module _ (linked : unlinked_root (commands_of p.way.table p.script.commands) k ≡ None) where
    linked_passed : unlinked_root (rewritten_commands b ps) k ≡ None
    linked_passed = of_passed b ps k rules p is unruled (λ cs s. unlinked_root cs k ≡ None) linked

    pub linking_fine : linking_end b ps k ≡ None
    linking_fine = λ i. or_later (is.way.passes i) (option_map (λ (a : ℕ). PassRefused 96 a) (linked_passed i))

    promise : LinkingKeepsItsPromise → IsLinking b ps k (linked_text b ps k)
    promise promised =
        promised b ps k (accepted_text b is.way.script) is.way.leads.within.0 (last b ps k rules p is unruled) linked_passed (ready b ps k rules p is unruled) (models b ps k rules p is unruled)

    pub linking_promised : LinkingKeepsItsPromise → (w : List ℕ) → w ≡ linked_check (commands_of p.way.table p.script.commands) k → IsLinking b ps k w
    linking_promised promised w is_text =
        let same : w ≡ linked_text b ps k = of_passed b ps k rules p is unruled (λ cs s. w ≡ linked_check cs k) is_text in
        subst (λ (x : List ℕ). IsLinking b ps k x) (sym same) (promise promised)

    pub linked_way_is : ChecksAreLinked → (constants : List SymId) → AreConstants p.way.table constants → constants_at p.way.table constants ≡ flags (commands_of p.way.table p.script.commands) k
        → AreFlags (signature (commands_of p.way.table p.script.commands) k).symbols (constants_at p.way.table constants) → IsLinkedWay b ps k p.way constants
    linked_way_is checks constants symbols are fit =
        let same : constants_at p.way.table constants ≡ linked_constants b ps k = of_passed b ps k rules p is unruled (λ cs s. constants_at p.way.table constants ≡ flags cs k) are in
        let there : AreFlags (signature_behind b ps k).symbols (constants_at p.way.table constants) = of_passed b ps k rules p is unruled (λ cs s. AreFlags (signature cs k).symbols (constants_at p.way.table constants)) fit in
        record {
          way = is.way;
          fine = linking_fine;
          linked = checks (rewritten_commands b ps) k (ready b ps k rules p is unruled).printable is.way.leads.within.0 (last b ps k rules p is unruled) linked_passed;
          are = same;
          symbols = symbols;
          flags = subst (λ (fs : List Symbol). AreFlags (signature_behind b ps k).symbols fs) same there;
        }

  -- ---- what is no clause

  refused_clauses : (a : ℕ) → unlinked_root led k ≡ Some a → clauses_end b ps k ≡ Some (PassRefused 96 a)
  refused_clauses a refused = ap (λ (o : Option ℕ). option_map (λ (n : ℕ). PassRefused 96 n) o) (of_passed b ps k rules p is unruled (λ cs s. unlinked_root cs k ≡ Some a) refused)

  pub clauses_refused : (f : LinkCheckFault) → IsLinkCheckFault (commands_of p.way.table p.script.commands) k f → EndsOnTheWay b k (linking_end b ps k) (status_of_linking f)
  clauses_refused (NotClauses a) refused = (is.way.script, is.way.check, λ i. or_later (is.way.passes i) (refused_clauses a refused i))
  clauses_refused Memory refused = tt

  pub links_refused : (f : LinkCheckFault) (r : Result (List ℕ) Status) → IsLinkCheckFault (commands_of p.way.table p.script.commands) k f → IsErrAnd r (λ s. s ≡ status_of_linking f) → LinksText b ps k r
  links_refused f (Err status) refused same = subst (λ (s : Status). EndsOnTheWay b k (linking_end b ps k) s) (sym same) (clauses_refused f refused)
  links_refused f (Ok w) refused same = absurd same

  pub links_written : LinkingKeepsItsPromise → unlinked_root (commands_of p.way.table p.script.commands) k ≡ None → (w : List ℕ) → w ≡ linked_check (commands_of p.way.table p.script.commands) k → LinksText b ps k (Ok w)
  links_written promised linked w is_text = (linking_fine linked, linking_promised linked promised w is_text)

-- ---- passages and constants

pub over_slice : (b : List ℕ) (ps : List Pass) (k : ℕ) (way : Way) (constants slice : List SymId) → slice ≡ constants → IsLinkedWay b ps k way constants → IsLinkedWay b ps k way slice
over_slice b ps k way constants slice same is = subst (λ (fs : List SymId). IsLinkedWay b ps k way fs) (sym same) is

pub moved : (b : List ℕ) (ps : List Pass) (k : ℕ) (rules : List Name) (p q : Passage) → q ≡ p → IsPassage b ps k rules p → IsPassage b ps k rules q
moved b ps k rules p q same is = subst (λ (x : Passage). IsPassage b ps k rules x) (sym same) is

pub of_some : (b : List ℕ) (ps : List Pass) (k : ℕ) (rules : List Name) (p q : Passage) → q ≡ p → IsPassage b ps k rules p → list_any is_rules ps ≡ false → IsPassageOfSome k q
of_some b ps k rules p q same is unruled = record { text = b; passes = ps; rules = rules; is = moved b ps k rules p q same is; unruled = unruled }

-- what ends the run at the passes ends it before the clauses
pub passing_on_the_way : (b : List ℕ) (ps : List Pass) (k : ℕ) (status : Status) → EndsOnTheWay b k (passes_end b ps) status → EndsOnTheWay b k (linking_end b ps k) status
passing_on_the_way b ps k Done ends = ends
passing_on_the_way b ps k (Refused r) ends = ends
passing_on_the_way b ps k (Usage u) ends = ends
passing_on_the_way b ps k (ReadFailed word) ends = ends
passing_on_the_way b ps k WriteFailed ends = ends
passing_on_the_way b ps k OutOfMemory ends = ends
passing_on_the_way b ps k (ModelRefused code line byte) ends = ends
passing_on_the_way b ps k (Beyond128 assertion) ends = ends
passing_on_the_way b ps k (PassRefused code assertion) ends = (ends.0, ends.1, ap (λ (o : Option Status). or_later o (clauses_end b ps k)) ends.2)
