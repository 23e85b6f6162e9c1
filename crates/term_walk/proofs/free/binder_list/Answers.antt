use Rattle.std.proofs.Common.{◌<◌, All, filter, not, ◌∙◌, ap, subst, arith}
use Rattle.smt_terms.specs.declared.ids.NodeId.{NodeId}
use Rattle.smt_terms.specs.Free.{is_among}
use Rattle.term_table.specs.Formulas.{tree}
use Rattle.term_walk.specs.FreeLists.{named}
use Rattle.term_walk.proofs.FreeScan.{all-front, body-reached, quantified-free}
use Rattle.term_walk.proofs.free.binder_list.Goals as goal

pub scope-requires-clause-lists : goal.scope-requires-clause-lists
scope-requires-clause-lists c = (
  c.requires.lists.0,
  c.args.id.0,
  c.requires.lists.1,
  body-reached c.args.table.now c.args.lists.now c.requires.lists.0 c.args.id c.kids.result.now c.in-Some.variables.now c.in-Some.body.now c.kids.ensures.table c.requires.node c.requires.lists.1 c.requires.lists.2 c.kids.ensures.terms c.kids.ensures.below c.in-Some.ensures.cases.0,
)

pub own_symbols-requires : goal.own_symbols-requires
own_symbols-requires c =
    let below = all-front c.args.id.0 c.in-Some.variables.now c.in-Some.body.now (subst (All (λ (j : NodeId). j.0 < c.args.id.0)) c.in-Some.ensures.cases.0 c.kids.ensures.below) in
    λ k d lt. (let b = below k d lt in let node = c.requires.node in omega arith)

pub returns : goal.returns
returns c =
    quantified-free c.args.table.now (tree c.args.table.now c.args.id) c.kids.result.now c.in-Some.variables.now c.in-Some.body.now c.in_ok-symbols.symbols.keys c.in_ok-bound.bound.keys c.in_ok-free.free.items c.requires.binder c.kids.ensures.terms c.in-Some.ensures.cases.0 c.in_ok-symbols.ensures c.in_ok-bound.ensures.names
    (c.in_ok-free.ensures.names ∙ ap (λ fs. filter (λ f. not (is_among (named c.args.table.now c.in_ok-bound.bound.keys) f)) (named c.args.table.now fs)) c.as_slice.ensures.keys)
    c.in_ok-free.ensures.symbols
