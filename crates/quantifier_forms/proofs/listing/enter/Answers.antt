use Rattle.std.proofs.Common.{◌≡◌, List, true, false, ap, sym, ◌∙◌, subst, arith}
use Rattle.smt_terms.specs.declared.ids.NodeId.{NodeId}
use Rattle.smt_terms.proofs.Tests.{not_true}
use Rattle.term_table.specs.Formulas.{tree, trees_at}
use Rattle.term_walk.specs.FreeLists.{has_node}
use Rattle.quantifier_forms.specs.Tasks.{Stands, work_left}
use Rattle.quantifier_forms.proofs.Stands.{not_false, stands-on, rest-met, rest-skipped, unlisted, met-same, met-more, left_more}
use Rattle.quantifier_forms.proofs.listing.enter.Goals as goal

pub returns-then-skips-clause-stands : goal.returns-then-skips-clause-stands
returns-then-skips-clause-stands g c ls stands = stands-on c.args.table.now c.args.id c.args.tasks.now c.args.met.now.keys ls stands

pub returns-then-skips-clause-rest : goal.returns-then-skips-clause-rest
returns-then-skips-clause-rest g c skips opens ls tell_skips tell_opens stands =
    rest-skipped skips opens c.args.table.now c.args.id c.args.tasks.now (trees_at c.args.table.now ls) (sym (tell_skips c.args.id c.requires) ∙ sym c.skips.ensures ∙ c.if-skips.true)

pub returns-then-branch-clause-stands : goal.returns-then-branch-clause-stands
returns-then-branch-clause-stands g c ls stands =
    let unmet : has_node c.args.met.now.keys c.args.id ≡ false = not_true (has_node c.args.met.now.keys c.args.id) (sym c.in_ok-meet.ensures.first ∙ c.if-branch.true) in
    subst (λ (ks : List NodeId). Stands c.args.table.now c.open.new.tasks ks ls) (sym (met-more c.args.met.now.keys c.meet.new.met.keys c.args.id unmet c.in_ok-meet.ensures.keys))
    (c.in_ok-open.ensures.stands c.args.met.now.keys ls unmet stands)

pub returns-then-branch-clause-rest : goal.returns-then-branch-clause-rest
returns-then-branch-clause-rest g c skips opens ls tell_skips tell_opens stands =
    let unmet : has_node c.args.met.now.keys c.args.id ≡ false = not_true (has_node c.args.met.now.keys c.args.id) (sym c.in_ok-meet.ensures.first ∙ c.if-branch.true) in
    let taken : skips (tree c.args.table.now c.args.id) ≡ false = sym (tell_skips c.args.id c.requires) ∙ sym c.skips.ensures ∙ c.if-skips.false in
    c.in_ok-open.ensures.rest skips opens (trees_at c.args.table.now ls) tell_opens taken (unlisted c.args.table.now c.args.id c.args.tasks.now c.args.met.now.keys ls stands c.know_table.ensures c.requires unmet)

pub returns-then-branch-clause-nearer : goal.returns-then-branch-clause-nearer
returns-then-branch-clause-nearer g c n lt =
    let unmet : has_node c.args.met.now.keys c.args.id ≡ false = not_true (has_node c.args.met.now.keys c.args.id) (sym c.in_ok-meet.ensures.first ∙ c.if-branch.true) in
    let more = left_more c.args.table.now c.args.met.now.keys c.args.id n lt unmet in
    let same = ap (λ ks. work_left c.args.table.now ks n) (met-more c.args.met.now.keys c.meet.new.met.keys c.args.id unmet c.in_ok-meet.ensures.keys) in
    let few = c.in_ok-open.ensures.few in
    omega (arith, more, same, few)

pub returns-clause-stands : goal.returns-clause-stands
returns-clause-stands g c ls stands =
    let met : has_node c.args.met.now.keys c.args.id ≡ true = not_false (has_node c.args.met.now.keys c.args.id) (sym c.in_ok-meet.ensures.first ∙ c.if-branch.false) in
    subst (λ (ks : List NodeId). Stands c.args.table.now c.args.tasks.now ks ls) (sym (met-same c.args.met.now.keys c.meet.new.met.keys c.args.id met c.in_ok-meet.ensures.keys))
    (stands-on c.args.table.now c.args.id c.args.tasks.now c.args.met.now.keys ls stands)

pub returns-clause-rest : goal.returns-clause-rest
returns-clause-rest g c skips opens ls tell_skips tell_opens stands =
    let met : has_node c.args.met.now.keys c.args.id ≡ true = not_false (has_node c.args.met.now.keys c.args.id) (sym c.in_ok-meet.ensures.first ∙ c.if-branch.false) in
    rest-met c.args.table.now c.args.id c.args.tasks.now c.args.met.now.keys ls stands skips opens c.know_table.ensures c.requires met
