use Rattle.std.proofs.Common.{◌≡◌, ◌∙◌, ◌+◌, ◌-◌, ◌++◌, List, ap, sym, subst, map, slice_get, append-nil, arith, rules}
use Rattle.std.proofs.lemmas.List.{take_all}
use Rattle.smt_terms.specs.declared.ids.NodeId.{NodeId}
use Rattle.smt_terms.specs.declared.ids.SymId.{SymId}
use Rattle.smt_terms.specs.Groups.{Named}
use Rattle.term_table.specs.Formulas.{symbol_at, tree, trees_at, AreNodes}
use Rattle.ackermann.specs.Ackermann.{live}
use Rattle.ackermann.specs.LevelsAt.{levels_at, IsApplicationOf}
use Rattle.passes.specs.declared.plan.Use.{Use}
use Rattle.passes.specs.Removing.{keys_of}
use Rattle.passes.proofs.KeptUses.{earlier-count, live-count, keeps-all, keeps-none, named-there, next-keeps, next-keys}
use Rattle.passes.proofs.removing.keep_uses.Goals as goal

pub loop-i-init : goal.loop-i-init
loop-i-init c = record {
  keys = sym (append-nil (keys_of c.args.uses.now.entries));
  keeps = λ t earlier are is. keeps-none t (live (levels_at t c.args.ack.now)) c.args.uses.now.entries;
}

pub overflow_sub-before : goal.overflow_sub-before
overflow_sub-before c =
    let all = live-count c.args.ack.now c.len.result c.len.ensures in
    let few = c.requires.places in
    omega (arith, all, few, c.len-2.ensures)

pub application-requires : goal.application-requires
application-requires c =
    let all = live-count c.args.ack.now c.len.result c.len.ensures in
    let few = c.requires.places in
    omega (arith, all, few, c.len-2.ensures, c.len-i-end.ensures, c.loop-i-test.true)

pub loop-i-preserved : goal.loop-i-preserved
loop-i-preserved c =
    let l = c.loop-i in
    let a = c.application in
    let ps = c.args.group.now.symbols in
    let old = c.args.uses.now.entries in
    let new = c.insert.new.self.entries in
    let p : SymId × NodeId = c.get.result in
    let kept : Use = record { function = a.result.0; operands = c.in_ok-operands.operands } in
    let items : c.in_ok-operands.operands.items ≡ a.result.1.now = c.in_ok-operands.ensures.items_if_clones_equal (λ x y h. search rules) in
    record {
      keys = next-keys ps old l.uses.entries new l.i p kept c.get.ensures c.requires.apart l.invariant.keys c.in_ok-insert.ensures.entries;
      keeps = λ t earlier are is.
          let ns : Named = live (levels_at t c.args.ack.now) in
          next-keeps ps old l.uses.entries new l.i p kept c.get.ensures c.requires.apart l.invariant.keys c.in_ok-insert.ensures.entries t ns
          (l.invariant.keeps t earlier are is) (a.ensures.function t are)
          (subst (λ (ks : List NodeId). AreNodes t ks) (sym items) (a.ensures.operands t are))
          (subst (λ (ks : List NodeId). IsApplicationOf ns (symbol_at t a.result.0) (trees_at t ks) (tree t p.1)) (sym items)
          (a.ensures.application t (symbol_at t p.0, tree t p.1) are
          (ap (λ ms. slice_get ms ((c.len.result - c.len-2.result) + l.i)) is
          ∙ named-there t earlier ps (c.len.result - c.len-2.result) l.i p (let all = earlier-count t c.args.ack.now c.len.result earlier ps c.len.ensures is in omega (arith, all, c.len-2.ensures)) c.get.ensures)));
    }

pub returns : goal.returns
returns c =
    let l = c.loop-i in
    let ps = c.args.group.now.symbols in
    let old = c.args.uses.now.entries in
    record {
      keys = l.invariant.keys ∙ ap (λ qs. keys_of old ++ map (λ p. p.0) qs) (take_all l.i ps (let past = c.loop-i-test.false in omega (arith, c.len-i-end.ensures)));
      keeps = λ t earlier are is.
          keeps-all t (live (levels_at t c.args.ack.now)) ps l.i old l.uses.entries (let past = c.loop-i-test.false in omega (arith, c.len-i-end.ensures)) (l.invariant.keeps t earlier are is);
    }
