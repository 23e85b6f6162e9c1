use Rattle.std.proofs.Common.{List, ap, sym, ◌∙◌, subst}
use Rattle.smt_terms.specs.declared.ids.NodeId.{NodeId}
use Rattle.term_table.specs.Formulas.{tree, trees_at, operands, AreNodes}
use Rattle.quantifier_forms.specs.Rebuilding.{with_operands, AreLike}
use Rattle.quantifier_forms.proofs.Exchanged.{noted-bare, bare-exchanged, from-exchanged, other-exchanged, operand-nodes, operands-like, junction-exchanged, bare-stay}
use Rattle.quantifier_forms.proofs.Stands.{number-same}
use Rattle.quantifier_forms.proofs.exchanging.exchanged.Goals as goal

pub returns-then-meant-clause-exchanged : goal.returns-then-meant-clause-exchanged
returns-then-meant-clause-exchanged c =
    from-exchanged c.args.table.now c.args.exchange c.know_table.ensures c.requires.exchange c.args.id c.if-meant.true

pub returns-then-is_binder-clause-exchanged : goal.returns-then-is_binder-clause-exchanged
returns-then-is_binder-clause-exchanged c =
    other-exchanged c.args.table.now c.args.exchange c.know_table.ensures c.requires.exchange c.args.id c.requires.node (sym c.is_binder.ensures ∙ c.if-is_binder.true)
    (λ same. let yes = number-same c.args.id.0 c.args.exchange.from.0 same in let no = c.if-meant.false in absurd cc)

pub returns-then-is_bare-clause-exchanged : goal.returns-then-is_bare-clause-exchanged
returns-then-is_bare-clause-exchanged c = bare-exchanged c.args.table.now c.args.exchange c.args.id (record { node = c.requires.node; none_reached = c.is_bare.ensures.yes c.if-is_bare.true })

pub returns-then-is_bare-clause-bare : goal.returns-then-is_bare-clause-bare
returns-then-is_bare-clause-bare c =
    noted-bare c.args.table.now c.args.bare.now.keys c.note.new.bare.keys c.args.id c.requires.bare (record { node = c.requires.node; none_reached = c.is_bare.ensures.yes c.if-is_bare.true }) c.in_ok-note.ensures

pub rebuilt-requires-clause-kids : goal.rebuilt-requires-clause-kids
rebuilt-requires-clause-kids c =
    subst (λ (ks : List NodeId). AreNodes c.args.table.now ks) (sym (c.deref.ensures.value ∙ c.in_ok-kids.ensures))
    (operand-nodes c.args.table.now c.args.exchange c.know_table.ensures c.requires.exchange c.args.memo.now c.args.id c.kids.result.now (c.is_bare.ensures.no c.if-is_bare.false) c.requires.ready c.kids.ensures.terms c.kids.ensures.below)

pub rebuilt-requires-clause-like : goal.rebuilt-requires-clause-like
rebuilt-requires-clause-like c =
    subst (λ (ks : List NodeId). AreLike (operands (tree c.args.table.now c.args.id)) (trees_at c.args.table.now ks)) (sym (c.deref.ensures.value ∙ c.in_ok-kids.ensures))
    (operands-like c.args.table.now c.args.exchange c.know_table.ensures c.requires.exchange c.args.memo.now c.args.id c.kids.result.now (c.is_bare.ensures.no c.if-is_bare.false) c.requires.ready c.kids.ensures.terms c.kids.ensures.below)

pub returns-clause-exchanged : goal.returns-clause-exchanged
returns-clause-exchanged c =
    junction-exchanged c.args.table.now c.args.exchange c.know_table.ensures c.requires.exchange c.args.memo.now c.args.id c.kids.result.now (c.is_bare.ensures.no c.if-is_bare.false) c.requires.ready c.kids.ensures.terms c.kids.ensures.below
    c.rebuilt.new.table c.in_ok-result.result c.in_ok-result.ensures.grows c.requires.node c.in_ok-result.ensures.node
    (c.in_ok-result.ensures.term ∙ ap (λ ks. with_operands (tree c.args.table.now c.args.id) (trees_at c.args.table.now ks)) (c.deref.ensures.value ∙ c.in_ok-kids.ensures))

pub returns-clause-bare : goal.returns-clause-bare
returns-clause-bare c = bare-stay c.args.table.now c.rebuilt.new.table c.args.bare.now.keys c.in_ok-result.ensures.grows c.requires.bare
