use Rattle.std.proofs.Common.{◌≡◌, Option, None, IfOk, ap, sym, ◌∙◌, subst}
use Rattle.smt_terms.specs.declared.ids.NodeId.{NodeId}
use Rattle.smt_terms.specs.Term.{op, Term, apply, terms}
use Rattle.term_table.specs.Formulas.{sorts_in, tree, trees_at}
use Rattle.simplify.specs.Folding.{folded}
use Rattle.simplify.specs.Reduced.{Answers}
use Rattle.simplify.specs.Simplify.{law, folded_or_law}
use Rattle.simplify.proofs.Answered.{answered, unanswered}
use Rattle.simplify.proofs.Reductions.{makes-over, makes-grown, trees-grown, trees-sorted, reduced-folded, reduced-unfolded}
use Rattle.simplify.proofs.reduction.reduce.Goals as goal

pub unfolded-requires-clause-makes : goal.unfolded-requires-clause-makes
unfolded-requires-clause-makes c =
    let old = c.args.table.now in
    let mid = c.fold.new.table in
    let p = c.args.op in
    let us = trees_at old c.args.ids.now in
    let none_found : folded p (sorts_in us) us ≡ None = unanswered mid (folded p (sorts_in us) us) (subst (λ (r : Option NodeId). Answers mid (folded p (sorts_in us) us) r) c.in-None.is c.in_ok-id.ensures.found) in
    makes-grown old mid c.fold.ensures.grows c.fold.ensures.symbols c.fold.ensures.sorts p c.args.ids.now (makes-over old p c.args.ids.now c.know_table.ensures c.requires.over none_found)

pub returns-in-Some-clause-term : goal.returns-in-Some-clause-term
returns-in-Some-clause-term c =
    let old = c.args.table.now in
    let mid = c.fold.new.table in
    let p = c.args.op in
    let us = trees_at old c.args.ids.now in
    let found = answered mid (folded p (sorts_in us) us) c.in-Some.id (subst (λ (r : Option NodeId). Answers mid (folded p (sorts_in us) us) r) c.in-Some.is c.in_ok-id.ensures.found) in
    reduced-folded p us (trees-sorted old c.args.ids.now c.know_table.ensures c.requires.over.kids) (tree mid c.in-Some.id) found.1

pub returns-in-None-clause-term : goal.returns-in-None-clause-term
returns-in-None-clause-term c =
    let old = c.args.table.now in
    let mid = c.fold.new.table in
    let p = c.args.op in
    let us = trees_at old c.args.ids.now in
    let none_found : folded p (sorts_in us) us ≡ None = unanswered mid (folded p (sorts_in us) us) (subst (λ (r : Option NodeId). Answers mid (folded p (sorts_in us) us) r) c.in-None.is c.in_ok-id.ensures.found) in
    subst (λ (v : Term). IfOk c.unfolded.result (λ k. tree c.unfolded.new.table k ≡ v))
    (ap (λ vs. folded_or_law None (law p vs) (apply (op p) (terms vs))) (trees-grown old mid c.fold.ensures.grows c.args.ids.now c.requires.over.kids) ∙ sym (reduced-unfolded p us (trees-sorted old c.args.ids.now c.know_table.ensures c.requires.over.kids) none_found))
    c.unfolded.ensures.term
