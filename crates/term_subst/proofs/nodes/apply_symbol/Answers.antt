use Rattle.std.proofs.Common.{sym, ap, ◌∙◌}
use Rattle.std.specs.Prelude.{option_map}
use Rattle.smt_terms.specs.declared.op.Op.TheVariants.{Sym}
use Rattle.term_table.specs.Formulas.{tree, trees_at, symbol_at, kind}
use Rattle.term_walk.specs.Binders.{is_quantified}
use Rattle.term_subst.specs.Maps.{map_at}
use Rattle.term_subst.proofs.MapsAt.{image-at, pair-found}
use Rattle.term_subst.proofs.NodesMade.{makes-head, built-head, built-image, built-itself, symbol-other, node-sort, no-terms, some-terms}
use Rattle.term_subst.proofs.nodes.apply_symbol.Goals as goal

pub intern-requires : goal.intern-requires
unfolding kind
intern-requires c =
    let t = c.args.table.now in
    let u = tree t c.args.node in
    let has = node-sort t c.requires.table c.args.node c.requires.node in
    makes-head t (Sym c.args.f) u c.requires.term (ap is_quantified c.requires.term) has.0 has.1 c.args.kids.now c.requires.sorts c.requires.kids c.requires.within (symbol-other c.args.f)

pub returns-then-not-is_empty-clause-term : goal.returns-then-not-is_empty-clause-term
unfolding kind
returns-then-not-is_empty-clause-term c =
    let t = c.args.table.now in
    c.in_ok-result.ensures.term
    ∙ built-head t (Sym c.args.f) (tree t c.args.node) c.requires.term (ap is_quantified c.requires.term) (map_at t c.args.map.now) (trees_at t c.args.kids.now) (symbol-other c.args.f) (λ f e. some-terms t c.args.kids.now c.is_empty.result c.is_empty.ensures c.if-not-is_empty.true)

pub returns-in-Some-clause-node : goal.returns-in-Some-clause-node
returns-in-Some-clause-node c = (pair-found c.args.table.now c.args.map.now c.requires.map c.args.f c.in-Some.image (sym c.in-Some.ensures)).image

pub returns-in-Some-clause-term : goal.returns-in-Some-clause-term
returns-in-Some-clause-term c =
    let t = c.args.table.now in
    built-image t (map_at t c.args.map.now) (symbol_at t c.args.f) (tree t c.args.node) c.requires.term (trees_at t c.args.kids.now) (no-terms t c.args.kids.now c.is_empty.result c.is_empty.ensures c.if-not-is_empty.false) (tree t c.in-Some.image)
    (image-at t c.requires.table c.args.map.now c.requires.map c.args.f c.requires.within ∙ ap (option_map (tree t)) (sym c.in-Some.ensures))

pub returns-in-None-clause-term : goal.returns-in-None-clause-term
returns-in-None-clause-term c =
    let t = c.args.table.now in
    built-itself t (map_at t c.args.map.now) (symbol_at t c.args.f) (tree t c.args.node) c.requires.term (trees_at t c.args.kids.now) (no-terms t c.args.kids.now c.is_empty.result c.is_empty.ensures c.if-not-is_empty.false)
    (image-at t c.requires.table c.args.map.now c.requires.map c.args.f c.requires.within ∙ ap (option_map (tree t)) (sym c.in-None.ensures)) c.requires.sorts
