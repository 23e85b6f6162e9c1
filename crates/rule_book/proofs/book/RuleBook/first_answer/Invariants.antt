use Rattle.std.proofs.Common.{List, drop, map}
use Rattle.smt_terms.specs.Sorts.{Sort}
use Rattle.smt_terms.specs.Term.{Term}
use Rattle.rule_book.specs.Seen.{Shows, view_seen}
use Rattle.rule_book.proofs.AskedRules.{IsAskedOf}
use Rattle.rule_book.proofs.book.RuleBook.first_answer.Given as goal

abbrev pub invariant-loop-rule : goal.invariant-loop-rule
invariant-loop-rule g l =
    (ss : List Sort) (t : Term) → Shows ss t l.view → IsAskedOf (map (λ r. r.name.now) l.self.rules.items) (map (λ r. r.name.now) (drop l.rule-index l.self.rules.items)) (view_seen ss l.view)
