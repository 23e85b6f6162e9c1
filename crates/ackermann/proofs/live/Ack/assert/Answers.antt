use Rattle.std.proofs.Common.{◌≡◌, ◌∷◌, [], List, length, take, ap, sym, ◌∙◌, subst}
use Rattle.std.proofs.lemmas.List.{length-map}
use Rattle.smt_terms.specs.Groups.{Named, draw_each}
use Rattle.smt_terms.specs.Sorts.{Symbol}
use Rattle.smt_terms.specs.Term.{Term}
use Rattle.term_groups.specs.Seen.{IsGroup}
use Rattle.term_table.specs.Formulas.{tree, symbol_at}
use Rattle.ackermann.specs.Ackermann.{applications, without_constant, live, joined, ack}
use Rattle.ackermann.specs.LevelsAt.{Live, cut, levels_at, starts_of, AreStarts}
use Rattle.ackermann.specs.LiveUses.{named_uses, AreUsesIn}
use Rattle.ackermann.specs.declared.uses.LiveUse.{LiveUse}
use Rattle.ackermann.proofs.CutLevels.{live-cut, joined-cut, starts-kept}
use Rattle.ackermann.proofs.GrownUses.{uses-grow}
use Rattle.ackermann.proofs.live.Ack.assert.Goals as goal

pub invariant_of-self : goal.invariant_of-self
invariant_of-self c =
    (c.self.invariant.0, starts-kept c.self.inside.uses c.remove_applications-removed.new.uses (starts_of c.self.inside.opened.items) c.in-Ok.ensures.kept c.self.invariant.1)

pub returns-in-Ok-clause-group : goal.returns-in-Ok-clause-group
returns-in-Ok-clause-group c =
    let t0 = c.args.table.now in
    let us = c.self.inside.uses in
    let ss = starts_of c.self.inside.opened.items in
    let all : live (levels_at t0 c.args.self.now) ≡ named_uses t0 us = ap (λ (a : Live). live (levels_at t0 a)) (sym c.self.view_is) ∙ live-cut (named_uses t0 us) ss in
    subst (λ (ns : Named). IsGroup c.remove_applications-removed.new.table c.in-Ok.group (ack (tree t0 c.args.id) (ns ∷ []) c.args.fresh.now).group) (sym all) c.in-Ok.ensures.group

pub returns-in-Ok-clause-levels : goal.returns-in-Ok-clause-levels
returns-in-Ok-clause-levels c =
    let t0 = c.args.table.now in
    let us = c.self.inside.uses in
    let ss = starts_of c.self.inside.opened.items in
    let all : live (levels_at t0 c.args.self.now) ≡ named_uses t0 us = ap (λ (a : Live). live (levels_at t0 a)) (sym c.self.view_is) ∙ live-cut (named_uses t0 us) ss in
    let new = (draw_each (without_constant (named_uses t0 us) (applications (tree t0 c.args.id))) c.args.fresh.now).symbols in
    let starts : AreStarts (length (named_uses t0 us)) ss = subst (λ n. AreStarts n ss) (sym (length-map us (λ (u : LiveUse). let p : Symbol × Term = (symbol_at t0 u.symbol, tree t0 u.node) in p))) c.self.invariant.1 in
    ap (λ (ns : Named). cut ns ss) c.in-Ok.ensures.named
    ∙ joined-cut (named_uses t0 us) new ss starts
    ∙ (λ i. joined (draw_each (without_constant (sym all i) (applications (tree t0 c.args.id))) c.args.fresh.now).symbols (levels_at t0 (c.self.view_is i)))

pub returns-in-Ok-clause-left : goal.returns-in-Ok-clause-left
returns-in-Ok-clause-left c =
    let t0 = c.args.table.now in
    let us = c.self.inside.uses in
    let ss = starts_of c.self.inside.opened.items in
    let all : live (levels_at t0 c.args.self.now) ≡ named_uses t0 us = ap (λ (a : Live). live (levels_at t0 a)) (sym c.self.view_is) ∙ live-cut (named_uses t0 us) ss in
    c.in-Ok.ensures.left ∙ ap (λ (ns : Named). (draw_each (without_constant ns (applications (tree t0 c.args.id))) c.args.fresh.now).names) (sym all)

pub returns-in-Err-clause-live : goal.returns-in-Err-clause-live
returns-in-Err-clause-live c =
    let t0 = c.args.table.now in
    let t1 = c.remove_applications-removed.new.table in
    let us = c.self.inside.uses in
    let are = subst (λ (a : Live). AreUsesIn t0 a.uses) (sym c.self.view_is) c.requires.live in
    subst (λ (vs : List LiveUse). AreUsesIn t1 vs)
    (sym (c.truncate.ensures ∙ ap (λ n. take n c.remove_applications-removed.new.uses) c.len-before.ensures ∙ c.in-Err.ensures.kept))
    (uses-grow t0 t1 c.in-Err.ensures.grows us are)
