use Rattle.std.proofs.Common.{List, rules, refl, sym, ◌∙◌, ap, subst}
use Rattle.std.proofs.lemmas.List.Elements.{All-nil}
use Rattle.smt_terms.specs.declared.ids.NodeId.{NodeId}
use Rattle.term_table.specs.Formulas.{tree, trees_at}
use Rattle.term_walk.proofs.Visits.{grows-self, table-grows}
use Rattle.term_subst.specs.Substituting.{NeverGivesGained}
use Rattle.term_subst.proofs.Gaining.{later-same, later-both, none-gained, gained-both}
use Rattle.quantifier_forms.specs.declared.pulling.Bound.{Bound}
use Rattle.quantifier_forms.specs.Pulling.{IsFront, AreFronts, fronts_at}
use Rattle.quantifier_forms.specs.Reaching.{first_quantified, AreReached}
use Rattle.quantifier_forms.proofs.Exchanged.{bare-stay}
use Rattle.quantifier_forms.proofs.Pulled.{are_fronts-stay}
use Rattle.quantifier_forms.proofs.Reached.{reached-stay}
use Rattle.quantifier_forms.proofs.Sweeps.{node-stays}
use Rattle.quantifier_forms.proofs.Turned.{leads-first, leads-last}
use Rattle.quantifier_forms.proofs.TurnNodes.{leftmost-found, found-names, is-exchange, next-formula, next-names, next-smaller, next-leads}
use Rattle.quantifier_forms.proofs.prenex_form.pull_all.Goals as goal

pub loop-from-init : goal.loop-from-init
loop-from-init c = record {
  formula = c.requires.root;
  bare = search rules;
  order = c.in_ok-order.ensures;
  names = c.requires.names;
  prefix = subst (λ (bs : List Bound). AreFronts c.args.table.now bs) (sym c.requires.prefix) (All-nil (IsFront c.args.table.now));
  leads = leads-first (tree c.args.table.now c.args.root) c.args.fresh.now (fronts_at c.args.table.now c.args.prefix.now.items) (ap (fronts_at c.args.table.now) c.requires.prefix);
  later = later-same c.args.fresh.now;
  drawn = none-gained c.args.fresh.now c.args.table.now.symbols c.args.table.now.symbols refl;
  grows = record { trees = grows-self _; symbols = grows-self _; sorts = grows-self _ };
}

pub pull-requires-clause-names : goal.pull-requires-clause-names
pull-requires-clause-names c =
    let l = c.loop-from in
    found-names l.table l.bare.keys l.order.items c.deref.result.now l.matrix c.in-Some.from l.fresh c.in-Some.ensures.binder l.invariant.order c.deref.ensures.value c.in-Some.ensures.first l.invariant.names

pub exchange_all-requires-clause-root : goal.exchange_all-requires-clause-root
exchange_all-requires-clause-root c = node-stays c.loop-from.table c.pull.new.table c.loop-from.matrix c.in_ok-to.ensures.gains.grows c.loop-from.invariant.formula.node

pub exchange_all-requires-clause-exchange : goal.exchange_all-requires-clause-exchange
exchange_all-requires-clause-exchange c = is-exchange c.loop-from.table c.pull.new.table c.in-Some.from c.in_ok-to.to c.in-Some.ensures.binder c.in_ok-to.ensures.gains.grows c.in_ok-to.ensures.formula

pub exchange_all-requires-clause-bare : goal.exchange_all-requires-clause-bare
exchange_all-requires-clause-bare c = bare-stay c.loop-from.table c.pull.new.table c.loop-from.bare.keys c.in_ok-to.ensures.gains.grows c.loop-from.invariant.bare

pub exchange_all-requires-clause-order : goal.exchange_all-requires-clause-order
exchange_all-requires-clause-order c =
    let l = c.loop-from in
    subst (λ (ks : List NodeId). AreReached c.pull.new.table l.bare.keys l.matrix ks) (sym c.deref-in-Some.ensures.value)
    (reached-stay l.table c.pull.new.table l.bare.keys l.matrix l.order.items c.in_ok-to.ensures.gains.grows l.invariant.formula.node l.invariant.order)

pub loop-from-preserved : goal.loop-from-preserved
loop-from-preserved c =
    let l = c.loop-from in
    let e = c.in_ok-to.ensures in
    let t1 = c.pull.new.table in
    let t2 = c.exchange_all.new.table in
    let is = c.in-Some.ensures.binder in
    let found = leftmost-found l.table l.bare.keys l.order.items c.deref.result.now l.matrix c.in-Some.from l.fresh is l.invariant.order c.deref.ensures.value c.in-Some.ensures.first in
    record {
      formula = next-formula l.table t1 t2 l.matrix c.in-Some.from c.in_ok-to.to _ l.fresh c.pull.new.fresh is l.invariant.formula found e.gains.grows c.in_ok-matrix.ensures.grows e.formula e.term e.left c.in_ok-matrix.ensures.exchanged;
      bare = c.in_ok-matrix.ensures.bare;
      order = c.in_ok-order-2.ensures;
      names = next-names l.table t1 t2 l.matrix c.in-Some.from c.in_ok-to.to _ l.fresh c.pull.new.fresh is l.invariant.formula found e.gains.grows c.in_ok-matrix.ensures.grows e.formula e.term e.left c.in_ok-matrix.ensures.exchanged l.invariant.names;
      prefix = are_fronts-stay t1 t2 c.pull.new.prefix.items c.in_ok-matrix.ensures.grows e.prefix;
      leads =
          next-leads l.table t1 t2 l.matrix c.in-Some.from c.in_ok-to.to _ l.fresh c.pull.new.fresh is l.invariant.formula found e.gains.grows c.in_ok-matrix.ensures.grows e.formula e.term e.left c.in_ok-matrix.ensures.exchanged
          (tree c.args.table.now c.args.root) c.args.fresh.now l.prefix.items c.pull.new.prefix.items l.invariant.leads e.prefix e.front;
      later = later-both c.args.fresh.now l.fresh c.pull.new.fresh l.invariant.later e.gains.later;
      drawn =
          subst (NeverGivesGained c.pull.new.fresh c.args.table.now.symbols) (sym c.in_ok-matrix.ensures.symbols)
          (gained-both l.fresh c.pull.new.fresh c.args.table.now.symbols l.table.symbols c.pull.new.table.symbols e.gains.later e.gains.grows.symbols l.invariant.drawn e.gains.drawn);
      grows = table-grows c.args.table.now t1 t2 (table-grows c.args.table.now l.table t1 l.invariant.grows e.gains.grows) c.in_ok-matrix.ensures.grows;
    }

pub loop-from-smaller : goal.loop-from-smaller
loop-from-smaller c =
    let l = c.loop-from in
    let e = c.in_ok-to.ensures in
    let is = c.in-Some.ensures.binder in
    let found = leftmost-found l.table l.bare.keys l.order.items c.deref.result.now l.matrix c.in-Some.from l.fresh is l.invariant.order c.deref.ensures.value c.in-Some.ensures.first in
    next-smaller l.table c.pull.new.table c.exchange_all.new.table l.matrix c.in-Some.from c.in_ok-to.to _ l.fresh c.pull.new.fresh is l.invariant.formula found e.gains.grows c.in_ok-matrix.ensures.grows e.formula e.term e.left c.in_ok-matrix.ensures.exchanged

pub returns-clause-term : goal.returns-clause-term
returns-clause-term c =
    let l = c.loop-from in
    leads-last (tree c.args.table.now c.args.root) (tree l.table l.matrix) c.args.fresh.now l.fresh (fronts_at l.table l.prefix.items)
    (sym l.invariant.order.first ∙ ap (λ is. first_quantified (trees_at l.table is)) (sym c.deref.ensures.value) ∙ c.in_default.ensures.first) l.invariant.leads

pub returns-in_err-to-clause-later : goal.returns-in_err-to-clause-later
returns-in_err-to-clause-later c = later-both c.args.fresh.now c.loop-from.fresh c.pull.new.fresh c.loop-from.invariant.later c.in_err-to.ensures.gains.later

pub returns-in_err-matrix-clause-later : goal.returns-in_err-matrix-clause-later
returns-in_err-matrix-clause-later c = later-both c.args.fresh.now c.loop-from.fresh c.pull.new.fresh c.loop-from.invariant.later c.in_ok-to.ensures.gains.later

pub returns-in_err-matrix-clause-grows : goal.returns-in_err-matrix-clause-grows
returns-in_err-matrix-clause-grows c =
    table-grows c.args.table.now c.pull.new.table c.exchange_all.new.table (table-grows c.args.table.now c.loop-from.table c.pull.new.table c.loop-from.invariant.grows c.in_ok-to.ensures.gains.grows) c.in_err-matrix.ensures.grows

pub returns-in_err-order-2-clause-grows : goal.returns-in_err-order-2-clause-grows
returns-in_err-order-2-clause-grows c =
    table-grows c.args.table.now c.pull.new.table c.exchange_all.new.table (table-grows c.args.table.now c.loop-from.table c.pull.new.table c.loop-from.invariant.grows c.in_ok-to.ensures.gains.grows) c.in_ok-matrix.ensures.grows

pub returns-in_err-order-clause-drawn : goal.returns-in_err-order-clause-drawn
returns-in_err-order-clause-drawn c = none-gained c.args.fresh.now c.args.table.now.symbols c.args.table.now.symbols refl

pub returns-in_err-to-clause-drawn : goal.returns-in_err-to-clause-drawn
returns-in_err-to-clause-drawn c =
    let l = c.loop-from in
    let e = c.in_err-to.ensures in
    gained-both l.fresh c.pull.new.fresh c.args.table.now.symbols l.table.symbols c.pull.new.table.symbols e.gains.later e.gains.grows.symbols l.invariant.drawn e.gains.drawn

pub returns-in_err-matrix-clause-drawn : goal.returns-in_err-matrix-clause-drawn
returns-in_err-matrix-clause-drawn c =
    let l = c.loop-from in
    let e = c.in_ok-to.ensures in
    subst (NeverGivesGained c.pull.new.fresh c.args.table.now.symbols) (sym c.in_err-matrix.ensures.symbols)
    (gained-both l.fresh c.pull.new.fresh c.args.table.now.symbols l.table.symbols c.pull.new.table.symbols e.gains.later e.gains.grows.symbols l.invariant.drawn e.gains.drawn)

pub returns-in_err-order-2-clause-drawn : goal.returns-in_err-order-2-clause-drawn
returns-in_err-order-2-clause-drawn c =
    let l = c.loop-from in
    let e = c.in_ok-to.ensures in
    subst (NeverGivesGained c.pull.new.fresh c.args.table.now.symbols) (sym c.in_ok-matrix.ensures.symbols)
    (gained-both l.fresh c.pull.new.fresh c.args.table.now.symbols l.table.symbols c.pull.new.table.symbols e.gains.later e.gains.grows.symbols l.invariant.drawn e.gains.drawn)
