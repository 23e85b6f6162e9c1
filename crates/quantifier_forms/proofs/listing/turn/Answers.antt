use Rattle.std.proofs.Common.{◌∷◌, List, sym, subst}
use Rattle.smt_terms.specs.declared.ids.NodeId.{NodeId}
use Rattle.quantifier_forms.specs.declared.tasks.Task.{Task}
use Rattle.quantifier_forms.specs.Tasks.{Stands}
use Rattle.quantifier_forms.proofs.Stands.{stands-left}
use Rattle.quantifier_forms.proofs.listing.turn.Goals as goal

pub returns-in_ok-enter-in-Enter-clause-stands : goal.returns-in_ok-enter-in-Enter-clause-stands
returns-in_ok-enter-in-Enter-clause-stands g c =
    c.in_ok-enter-in-Enter.ensures.stands c.args.done.now.items (subst (λ (i : Task). Stands c.args.table.now (i ∷ c.args.tasks.now) c.args.met.now.keys c.args.done.now.items) c.in-Enter.is c.requires)

pub returns-in_ok-push-in-Leave-clause-stands : goal.returns-in_ok-push-in-Leave-clause-stands
returns-in_ok-push-in-Leave-clause-stands g c =
    subst (λ (ls : List NodeId). Stands c.args.table.now c.args.tasks.now c.args.met.now.keys ls) (sym c.in_ok-push-in-Leave.ensures.items)
    (stands-left c.args.table.now c.in-Leave.id c.args.tasks.now c.args.met.now.keys c.args.done.now.items (subst (λ (i : Task). Stands c.args.table.now (i ∷ c.args.tasks.now) c.args.met.now.keys c.args.done.now.items) c.in-Leave.is c.requires))
