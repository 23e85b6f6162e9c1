use Rattle.std.proofs.Common.{◌≡◌, ◌∷◌, ◌++◌, [], List, true, false, map, ap, sym, ◌∙◌, subst, arith}
use Rattle.term_table.specs.Formulas.{tree, AreNodes}
use Rattle.quantifier_forms.specs.Tasks.{after_tasks, Stands}
use Rattle.quantifier_forms.specs.declared.tasks.Task.{Task}
use Rattle.quantifier_forms.specs.declared.tasks.Task.TheVariants.{Enter, Leave}
use Rattle.quantifier_forms.proofs.Stands.{stands-opened, rest-opened, rest-closed}
use Rattle.quantifier_forms.proofs.listing.open.Goals as goal

pub returns-then-opens-clause-stands : goal.returns-then-opens-clause-stands
returns-then-opens-clause-stands g c met ls unmet stands =
    let tasks : c.enter_all.new.tasks ≡ map (λ j. Enter j) c.kids.result.now ++ Leave c.args.id ∷ c.args.tasks.now = c.in_ok-enter_all.ensures ∙ ap (λ is. map (λ j. Enter j) c.kids.result.now ++ is) c.in_ok-push.ensures.ok in
    let nodes : AreNodes c.args.table.now c.kids.result.now = λ i d lt. let below = c.kids.ensures.below i d lt in let here = c.requires in omega arith in
    subst (λ (is : List Task). Stands c.args.table.now is (met ++ c.args.id ∷ []) ls) (sym tasks)
    (stands-opened c.args.table.now c.args.id c.args.tasks.now met ls stands c.kids.result.now nodes c.kids.ensures.below)

pub returns-then-opens-clause-rest : goal.returns-then-opens-clause-rest
returns-then-opens-clause-rest g c skips opens ts tell e f =
    let tasks : c.enter_all.new.tasks ≡ map (λ j. Enter j) c.kids.result.now ++ Leave c.args.id ∷ c.args.tasks.now = c.in_ok-enter_all.ensures ∙ ap (λ is. map (λ j. Enter j) c.kids.result.now ++ is) c.in_ok-push.ensures.ok in
    let opened : opens (tree c.args.table.now c.args.id) ≡ true = sym (tell c.args.id c.requires) ∙ sym c.opens.ensures ∙ c.if-opens.true in
    ap (λ is. after_tasks skips opens c.args.table.now is ts) tasks
    ∙ rest-opened skips opens c.args.table.now c.args.id c.kids.result.now c.args.tasks.now ts e f opened c.kids.ensures.terms

pub returns-clause-stands : goal.returns-clause-stands
returns-clause-stands g c met ls unmet stands =
    subst (λ (is : List Task). Stands c.args.table.now is (met ++ c.args.id ∷ []) ls) (sym c.in_ok-push.ensures.ok)
    (stands-opened c.args.table.now c.args.id c.args.tasks.now met ls stands [] (λ i d lt. absurd (omega arith)) (λ i d lt. absurd (omega arith)))

pub returns-clause-rest : goal.returns-clause-rest
returns-clause-rest g c skips opens ts tell e f =
    let closed : opens (tree c.args.table.now c.args.id) ≡ false = sym (tell c.args.id c.requires) ∙ sym c.opens.ensures ∙ c.if-opens.false in
    ap (λ is. after_tasks skips opens c.args.table.now is ts) c.in_ok-push.ensures.ok
    ∙ rest-closed skips opens c.args.table.now c.args.id c.args.tasks.now ts e f closed
