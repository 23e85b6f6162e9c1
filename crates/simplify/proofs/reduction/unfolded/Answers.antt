use Rattle.std.proofs.Common.{◌≡◌, Option, None, ap, sym, ◌∙◌, subst}
use Rattle.smt_terms.specs.declared.ids.NodeId.{NodeId}
use Rattle.smt_terms.specs.Term.{op, apply, terms}
use Rattle.term_table.specs.Formulas.{trees_at}
use Rattle.simplify.specs.Reduced.{Answers}
use Rattle.simplify.specs.Simplify.{law, folded_or_law}
use Rattle.simplify.proofs.Answered.{unanswered}
use Rattle.simplify.proofs.Reductions.{makes-grown, term-grown, theory-term}
use Rattle.simplify.proofs.reduction.unfolded.Goals as goal

pub intern-requires : goal.intern-requires
intern-requires c = makes-grown c.args.table.now c.law.new.table c.law.ensures.grows c.law.ensures.symbols c.law.ensures.sorts c.args.op c.args.ids.now c.requires.makes

pub returns-in_ok-id-in-None-clause-term : goal.returns-in_ok-id-in-None-clause-term
returns-in_ok-id-in-None-clause-term c =
    let old = c.args.table.now in
    let mid = c.law.new.table in
    let p = c.args.op in
    let us = trees_at old c.args.ids.now in
    let unruled : law p us ≡ None = unanswered mid (law p us) (subst (λ (r : Option NodeId). Answers mid (law p us) r) c.in-None.is c.in_ok-id.ensures.found) in
    c.in_ok-id-in-None.ensures.term
    ∙ term-grown old mid c.law.ensures.grows c.law.ensures.symbols c.law.ensures.sorts p c.args.ids.now c.requires.makes.kids
    ∙ theory-term old p us c.requires.theory
    ∙ sym (ap (λ o. folded_or_law None o (apply (op p) (terms us))) unruled)
