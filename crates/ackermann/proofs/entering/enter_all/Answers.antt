use Rattle.std.proofs.Common.{◌<◌, List, ◌∷◌, ◌++◌, [], length, map, take, All, append-nil, refl, ap, sym, ◌∙◌, subst, arith}
use Rattle.std.proofs.lemmas.List.{take_all}
use Rattle.smt_terms.specs.declared.ids.NodeId.{NodeId}
use Rattle.term_groups.specs.Seen.{named_at}
use Rattle.term_table.specs.Formulas.{trees_at, AreNodes}
use Rattle.term_walk.proofs.Visits.{grows-self, table-grows}
use Rattle.ackermann.specs.declared.uses.LiveUse.{LiveUse}
use Rattle.ackermann.specs.LiveUses.{constant_in, named_uses, uses_of, said, IsUseIn, IsSettled}
use Rattle.ackermann.specs.Replacing.{all_named}
use Rattle.ackermann.proofs.EnteredUses.{next-applied, next-constant, next-term, next-like, next-replaced, next-fit, next-absent, next-each, next-settled, next-named, next-pairs, next-kept, settled-all, new-applied}
use Rattle.ackermann.proofs.entering.enter_all.Goals as goal

pub loop-i-init : goal.loop-i-init
loop-i-init c =
    let t0 = c.args.table.now in
    let us0 = c.args.uses.now in
    let ps = named_at t0 c.args.constants.now.symbols in
    record {
      grows = record { trees = grows-self t0.trees; symbols = grows-self t0.symbols; sorts = grows-self t0.sorts };
      symbols = refl;
      kept = take_all (length us0) us0 (omega arith);
      named = sym (append-nil (named_uses t0 us0));
      each = c.requires.uses.each;
      settled = settled-all t0 us0 ps c.requires.uses (new-applied t0 us0 c.args.constants.now c.requires.constants);
      nodes = subst (λ (ks : List NodeId). AreNodes t0 ks) (sym c.new-asserts.ensures) (λ i d lt. absurd (omega arith));
      terms = ap (trees_at t0) c.new-asserts.ensures;
    }

pub live_use-requires-clause-applied : goal.live_use-requires-clause-applied
live_use-requires-clause-applied c =
    let t0 = c.args.table.now in
    let ps = c.args.constants.now.symbols in
    let lt : c.loop-i.i < length ps = omega arith in
    next-applied t0 c.loop-i.table c.loop-i.invariant.grows c.args.uses.now c.args.constants.now c.requires.constants c.loop-i.i c.get.result c.get-in-loop-i.result lt c.get.ensures c.get-in-loop-i.ensures

pub live_use-requires-clause-fit : goal.live_use-requires-clause-fit
live_use-requires-clause-fit c =
    let t0 = c.args.table.now in
    let ps = c.args.constants.now.symbols in
    let lt : c.loop-i.i < length ps = omega arith in
    next-fit t0 c.loop-i.table c.loop-i.invariant.grows c.args.uses.now c.args.constants.now c.requires.constants c.loop-i.i c.get.result c.get-in-loop-i.result lt c.get.ensures c.get-in-loop-i.ensures c.args.memo.now c.requires.done

pub live_use-requires-clause-constant : goal.live_use-requires-clause-constant
live_use-requires-clause-constant c =
    let t0 = c.args.table.now in
    let ps = c.args.constants.now.symbols in
    let lt : c.loop-i.i < length ps = omega arith in
    next-constant t0 c.loop-i.table c.loop-i.invariant.grows c.args.uses.now c.args.constants.now c.requires.constants c.loop-i.i c.get.result c.get-in-loop-i.result lt c.get.ensures c.get-in-loop-i.ensures

pub live_use-requires-clause-term : goal.live_use-requires-clause-term
live_use-requires-clause-term c =
    let t0 = c.args.table.now in
    let ps = c.args.constants.now.symbols in
    let lt : c.loop-i.i < length ps = omega arith in
    next-term t0 c.loop-i.table c.loop-i.invariant.grows c.args.uses.now c.args.constants.now c.requires.constants c.loop-i.i c.get.result c.get-in-loop-i.result lt c.get.ensures c.get-in-loop-i.ensures

pub live_use-requires-clause-like : goal.live_use-requires-clause-like
live_use-requires-clause-like c =
    let t0 = c.args.table.now in
    let ps = c.args.constants.now.symbols in
    let lt : c.loop-i.i < length ps = omega arith in
    next-like t0 c.loop-i.table c.loop-i.invariant.grows c.args.uses.now c.args.constants.now c.requires.constants c.loop-i.i c.get.result c.get-in-loop-i.result lt c.get.ensures c.get-in-loop-i.ensures

pub enter-requires-clause-absent : goal.enter-requires-clause-absent
enter-requires-clause-absent c =
    let t0 = c.args.table.now in
    let us = c.loop-i.uses in
    let ps = c.args.constants.now.symbols in
    let lt : c.loop-i.i < length ps = omega arith in
    ap (constant_in us) c.in_ok-new.ensures.node
    ∙ next-absent t0 c.loop-i.table c.loop-i.invariant.grows c.args.uses.now c.args.constants.now c.requires.constants c.loop-i.i c.get.result c.get-in-loop-i.result lt c.get.ensures c.get-in-loop-i.ensures
    us c.loop-i.invariant.named c.loop-i.invariant.each c.know_table.ensures

pub loop-i-preserved : goal.loop-i-preserved
loop-i-preserved c =
    let t0 = c.args.table.now in
    let t = c.loop-i.table in
    let t1 = c.enter.new.table in
    let us0 = c.args.uses.now in
    let us = c.loop-i.uses in
    let consts = c.args.constants.now in
    let all = all_named t0 us0 consts in
    let i = c.loop-i.i in
    let p = c.get.result in
    let r = c.get-in-loop-i.result in
    let u = c.in_ok-new.new in
    let grows = c.loop-i.invariant.grows in
    let are = c.requires.constants in
    let lt : i < length consts.symbols = omega arith in
    let named = c.loop-i.invariant.named in
    let each = c.loop-i.invariant.each in
    let more = c.in_ok-enter.ensures.grows in
    let settled = c.in_ok-new.ensures.settled all (next-replaced t0 t grows us0 consts are i p r lt c.get.ensures c.get-in-loop-i.ensures c.args.memo.now c.requires.done) in
    let next_each : All (IsUseIn t1) (us ++ u ∷ []) =
    next-each t0 t grows us0 consts are i p r lt c.get.ensures c.get-in-loop-i.ensures us named each t1 more u c.in_ok-new.ensures.live c.in_ok-new.ensures.node c.in_ok-new.ensures.symbol in
    let next_settled : All (IsSettled t1 all) (us ++ u ∷ []) =
    next-settled t0 t grows us0 consts are i p r lt c.get.ensures c.get-in-loop-i.ensures us named each t1 more u c.in_ok-new.ensures.live c.in_ok-new.ensures.node c.in_ok-new.ensures.symbol c.loop-i.invariant.settled settled in
    record {
      grows = table-grows t0 t t1 grows more;
      symbols = c.in_ok-enter.ensures.symbols ∙ c.loop-i.invariant.symbols;
      kept = ap (λ (vs : List LiveUse). take (length us0) vs) c.in_ok-enter.ensures.ok ∙ next-kept us0 us u c.loop-i.invariant.kept;
      named =
          ap (λ (vs : List LiveUse). named_uses t1 vs) c.in_ok-enter.ensures.ok
          ∙ next-named t0 t grows us0 consts are i p r lt c.get.ensures c.get-in-loop-i.ensures us named each t1 more u c.in_ok-new.ensures.live c.in_ok-new.ensures.node c.in_ok-new.ensures.symbol;
      each = subst (λ (vs : List LiveUse). All (IsUseIn t1) vs) (sym c.in_ok-enter.ensures.ok) next_each;
      settled = subst (λ (vs : List LiveUse). All (IsSettled t1 all) vs) (sym c.in_ok-enter.ensures.ok) next_settled;
      nodes = c.in_ok-enter.ensures.nodes;
      terms =
          c.in_ok-enter.ensures.terms
          ∙ ap (λ ts. ts ++ map (λ w. said t w u) (uses_of u.function us)) c.loop-i.invariant.terms
          ∙ next-pairs t0 t grows us0 consts are i p r lt c.get.ensures c.get-in-loop-i.ensures us named each t1 more u c.in_ok-new.ensures.live c.in_ok-new.ensures.node c.in_ok-new.ensures.symbol
          c.know_table.ensures all c.loop-i.invariant.settled settled;
    }
