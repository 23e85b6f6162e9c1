use Rattle.std.proofs.Common.{◌≡◌, true, length, get_or, inl, inr, ap, sym, ◌∙◌, subst, arith}
use Rattle.std.proofs.lemmas.Bool.Decides.{eqb_tells}
use Rattle.std.proofs.lemmas.List.{get_or_default}
use Rattle.smt_terms.specs.declared.ids.NodeId.{NodeId}
use Rattle.term_table.specs.Formulas.{trees_at}
use Rattle.term_walk.specs.Places.{is_closed_at}
use Rattle.term_walk.specs.Subterms.{all_subterms}
use Rattle.term_walk.specs.Walking.{Fits}
use Rattle.term_walk.proofs.Counting.{costs-bounded}
use Rattle.term_walk.proofs.Roots.{counted-roots, gained-more, closed-results}
use Rattle.term_walk.proofs.Visits.{table-grows}
use Rattle.term_walk.proofs.walks.walk_all.Goals as goal

pub loop-root-preserved : goal.loop-root-preserved
loop-root-preserved g c =
    let inv = c.loop-root.invariant in
    let t = c.args.table.now in
    let now = c.loop-root.table in
    let roots = c.args.roots.now in
    let i = c.loop-root.root-index in
    let lt = c.loop-root-test.true in
    let k = get_or roots i (record { 0 = 0 }) in
    let is : get_or roots i k ≡ k = get_or_default roots i k (record { 0 = 0 }) lt in
    record {
      fits = subst (λ (m : g.S.NodeStep.Meaning). Fits (g.S.NodeStep.related m) c.visit.new.table c.visit.new.kept) (sym c.visit.ensures.meaning) c.visit.ensures.fits;
      meaning = c.visit.ensures.meaning ∙ inv.meaning;
      grows = table-grows t now c.visit.new.table inv.grows c.visit.ensures.grows;
      symbols = c.visit.ensures.symbols ∙ inv.symbols;
      sorts = c.visit.ensures.sorts ∙ inv.sorts;
      stay = λ j r e. c.visit.ensures.stay j r (inv.stay j r e);
      gained = gained-more t roots c.requires.roots i k lt is now inv.grows c.args.kept.now c.loop-root.kept c.visit.new.kept inv.gained c.visit.ensures.gained;
      closed = λ j d below. elim (eqb_tells j i) [
        | inl same ↦
            let one : get_or roots j d ≡ k = get_or_default roots j d (record { 0 = 0 }) (let number = same.1 in omega arith) ∙ ap (λ n. get_or roots n (record { 0 = 0 })) same.1 in
            subst (λ (q : NodeId). is_closed_at c.visit.new.kept q.0 ≡ true) (sym one) c.in_ok-visit.ensures.ok
        | inr apart ↦ c.visit.ensures.closed (get_or roots j d) (inv.closed j d (let other = apart.1 in omega arith))
      ];
      most = omega (arith, inv.most, c.in_ok-visit.ensures.nearer (all_subterms (trees_at t roots)) t.trees (counted-roots t roots c.requires.roots i k lt is now inv.grows));
      least = omega (arith, c.visit.ensures.least, inv.least);
    }

pub returns-in_err-visit-clause-gained : goal.returns-in_err-visit-clause-gained
returns-in_err-visit-clause-gained g c =
    let roots = c.args.roots.now in
    let i = c.loop-root.root-index in
    let lt = c.loop-root-test.true in
    let k = get_or roots i (record { 0 = 0 }) in
    gained-more c.args.table.now roots c.requires.roots i k lt (get_or_default roots i k (record { 0 = 0 }) lt) c.loop-root.table c.loop-root.invariant.grows c.args.kept.now c.loop-root.kept c.visit.new.kept c.loop-root.invariant.gained c.visit.ensures.gained

pub returns-in_err-visit-clause-most : goal.returns-in_err-visit-clause-most
returns-in_err-visit-clause-most g c =
    let t = c.args.table.now in
    let roots = c.args.roots.now in
    let us = all_subterms (trees_at t roots) in
    let i = c.loop-root.root-index in
    let lt = c.loop-root-test.true in
    let k = get_or roots i (record { 0 = 0 }) in
    let counted = counted-roots t roots c.requires.roots i k lt (get_or_default roots i k (record { 0 = 0 }) lt) c.loop-root.table c.loop-root.invariant.grows in
    let all = costs-bounded t.trees c.args.kept.now us (length t.trees) c.know_table.ensures.one_tree in
    omega (arith, c.loop-root.invariant.most, c.visit.ensures.most us t.trees counted, all)

pub returns-clause-all : goal.returns-clause-all
returns-clause-all g c =
    let none_left = c.loop-root-test.false in
    closed-results (g.S.NodeStep.related (g.S.NodeStep.meaning c.loop-root.step)) c.args.table.now c.loop-root.table c.args.roots.now c.loop-root.kept c.requires.roots c.loop-root.invariant.grows c.loop-root.invariant.fits (λ i d lt. c.loop-root.invariant.closed i d (omega arith))

pub returns-clause-most : goal.returns-clause-most
returns-clause-most g c =
    let t = c.args.table.now in
    let us = all_subterms (trees_at t c.args.roots.now) in
    let all = costs-bounded t.trees c.args.kept.now us (length t.trees) c.know_table.ensures.one_tree in
    omega (arith, c.loop-root.invariant.most, all)
