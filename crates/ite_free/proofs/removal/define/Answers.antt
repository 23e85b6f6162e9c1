use Rattle.std.proofs.Common.{◌++◌, ap, sym, ◌∙◌, arith}
use Rattle.smt_terms.specs.Rank.{sort_of}
use Rattle.term_table.specs.Formulas.{trees_at}
use Rattle.term_subst.proofs.Growing.{tree-grows, node-grows}
use Rattle.term_walk.proofs.Visits.{table-grows}
use Rattle.normal_forms.specs.Nodes.{formula_stays}
use Rattle.ite_free.proofs.DefinedNodes.{three-kids, AreBranchesFit, branches-fit, assertions-define, both-assertions}
use Rattle.ite_free.proofs.removal.define.Goals as goal

pub bounds-kids-0 : goal.bounds-kids-0
bounds-kids-0 c =
    let n = three-kids c.args.table.now c.kids-kids.ensures.table c.args.ite c.kids-kids.result.now c.requires.node c.requires.choice c.kids-kids.ensures.terms in
    omega arith

pub bounds-kids-1 : goal.bounds-kids-1
bounds-kids-1 c =
    let n = three-kids c.args.table.now c.kids-kids.ensures.table c.args.ite c.kids-kids.result.now c.requires.node c.requires.choice c.kids-kids.ensures.terms in
    omega arith

pub bounds-kids-2 : goal.bounds-kids-2
bounds-kids-2 c =
    let n = three-kids c.args.table.now c.kids-kids.ensures.table c.args.ite c.kids-kids.result.now c.requires.node c.requires.choice c.kids-kids.ensures.terms in
    omega arith

pub define_where-requires-clause-condition : goal.define_where-requires-clause-condition
define_where-requires-clause-condition c =
    (branches-fit c.args.table.now c.kids-kids.ensures.table c.args.ite c.kids-kids.result.now c.requires.node c.requires.choice c.kids-kids.ensures.terms c.args.memo.now
    c.known-constant.result c.known-condition.result c.known-first.result c.known-second.result c.kids-kids.ensures.below
    c.known-constant.ensures c.known-condition.ensures c.known-first.ensures c.known-second.ensures c.requires.constant c.requires.operands).condition

pub define_where-requires-clause-term : goal.define_where-requires-clause-term
define_where-requires-clause-term c =
    (branches-fit c.args.table.now c.kids-kids.ensures.table c.args.ite c.kids-kids.result.now c.requires.node c.requires.choice c.kids-kids.ensures.terms c.args.memo.now
    c.known-constant.result c.known-condition.result c.known-first.result c.known-second.result c.kids-kids.ensures.below
    c.known-constant.ensures c.known-condition.ensures c.known-first.ensures c.known-second.ensures c.requires.constant c.requires.operands).first

pub define_where-requires-clause-sort : goal.define_where-requires-clause-sort
define_where-requires-clause-sort c =
    (branches-fit c.args.table.now c.kids-kids.ensures.table c.args.ite c.kids-kids.result.now c.requires.node c.requires.choice c.kids-kids.ensures.terms c.args.memo.now
    c.known-constant.result c.known-condition.result c.known-first.result c.known-second.result c.kids-kids.ensures.below
    c.known-constant.ensures c.known-condition.ensures c.known-first.ensures c.known-second.ensures c.requires.constant c.requires.operands).first_sort

pub negation-requires : goal.negation-requires
negation-requires c =
    formula_stays c.args.table.now c.define_where.new.table c.known-condition.result c.in_ok-define_where.ensures.grows
    (branches-fit c.args.table.now c.kids-kids.ensures.table c.args.ite c.kids-kids.result.now c.requires.node c.requires.choice c.kids-kids.ensures.terms c.args.memo.now
    c.known-constant.result c.known-condition.result c.known-first.result c.known-second.result c.kids-kids.ensures.below
    c.known-constant.ensures c.known-condition.ensures c.known-first.ensures c.known-second.ensures c.requires.constant c.requires.operands).condition

pub define_where-requires-2-clause-term : goal.define_where-requires-2-clause-term
define_where-requires-2-clause-term c =
    let b : AreBranchesFit c.args.table.now c.known-constant.result c.known-condition.result c.known-first.result c.known-second.result =
    branches-fit c.args.table.now c.kids-kids.ensures.table c.args.ite c.kids-kids.result.now c.requires.node c.requires.choice c.kids-kids.ensures.terms c.args.memo.now
    c.known-constant.result c.known-condition.result c.known-first.result c.known-second.result c.kids-kids.ensures.below
    c.known-constant.ensures c.known-condition.ensures c.known-first.ensures c.known-second.ensures c.requires.constant c.requires.operands in
    node-grows c.args.table.now c.negation.new.table
    (table-grows c.args.table.now c.define_where.new.table c.negation.new.table c.in_ok-define_where.ensures.grows c.in_ok-otherwise.ensures.grows) c.known-second.result b.second

pub define_where-requires-2-clause-sort : goal.define_where-requires-2-clause-sort
define_where-requires-2-clause-sort c =
    let b : AreBranchesFit c.args.table.now c.known-constant.result c.known-condition.result c.known-first.result c.known-second.result =
    branches-fit c.args.table.now c.kids-kids.ensures.table c.args.ite c.kids-kids.result.now c.requires.node c.requires.choice c.kids-kids.ensures.terms c.args.memo.now
    c.known-constant.result c.known-condition.result c.known-first.result c.known-second.result c.kids-kids.ensures.below
    c.known-constant.ensures c.known-condition.ensures c.known-first.ensures c.known-second.ensures c.requires.constant c.requires.operands in
    let grows = table-grows c.args.table.now c.define_where.new.table c.negation.new.table c.in_ok-define_where.ensures.grows c.in_ok-otherwise.ensures.grows in
    ap sort_of (tree-grows c.args.table.now c.negation.new.table grows c.known-constant.result b.constant)
    ∙ b.second_sort
    ∙ ap sort_of (sym (tree-grows c.args.table.now c.negation.new.table grows c.known-second.result b.second))

pub returns-clause-terms : goal.returns-clause-terms
returns-clause-terms c ns v is are =
    let t = c.args.table.now in
    let b : AreBranchesFit t c.known-constant.result c.known-condition.result c.known-first.result c.known-second.result =
    branches-fit t c.kids-kids.ensures.table c.args.ite c.kids-kids.result.now c.requires.node c.requires.choice c.kids-kids.ensures.terms c.args.memo.now
    c.known-constant.result c.known-condition.result c.known-first.result c.known-second.result c.kids-kids.ensures.below
    c.known-constant.ensures c.known-condition.ensures c.known-first.ensures c.known-second.ensures c.requires.constant c.requires.operands in
    both-assertions t c.define_where.new.table c.negation.new.table c.define_where-2.new.table c.in_ok-define_where.ensures.grows c.in_ok-otherwise.ensures.grows
    c.known-condition.result c.known-constant.result c.known-first.result c.known-second.result c.in_ok-otherwise.otherwise b.condition.node b.constant b.second
    c.args.asserts.now c.define_where.new.asserts c.define_where-2.new.asserts
    c.in_ok-define_where.ensures.nodes c.in_ok-define_where.ensures.terms c.in_ok-otherwise.ensures.term c.in_ok-define_where-2.ensures.terms
    ∙ ap (λ us. trees_at t c.args.asserts.now ++ us)
    (assertions-define t c.kids-kids.ensures.table c.args.ite c.kids-kids.result.now c.requires.node c.requires.choice c.kids-kids.ensures.terms c.args.memo.now
    c.known-constant.result c.known-condition.result c.known-first.result c.known-second.result c.kids-kids.ensures.below
    c.known-constant.ensures c.known-condition.ensures c.known-first.ensures c.known-second.ensures ns v is are)
