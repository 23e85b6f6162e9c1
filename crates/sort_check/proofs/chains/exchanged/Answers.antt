use Rattle.std.proofs.Common.{◌<◌, length, Result, Err, sym, ap, ◌∙◌, subst, arith}
use Rattle.std.proofs.lemmas.Result.{err_from_is_err_and}
use Rattle.smt_terms.specs.declared.ids.NodeId.{NodeId}
use Rattle.smt_terms.specs.Written.{exchanged}
use Rattle.sort_check.specs.declared.fault.MakeFault.{MakeFault}
use Rattle.sort_check.specs.Making.{Builds}
use Rattle.sort_check.proofs.Answering.{refused_builds, memory_builds, made_builds, is_ok}
use Rattle.sort_check.proofs.Linking.{exchanged_numbers, exchanged_rank, two_kids}
use Rattle.sort_check.proofs.chains.exchanged.Goals as goal

pub rank-requires-clause-numbers : goal.rank-requires-clause-numbers
rank-requires-clause-numbers c = exchanged_numbers c.args.table.now c.args.op c.args.kids.now c.requires.apt

pub returns-in_err-sort : goal.returns-in_err-sort
returns-in_err-sort c =
    let p = err_from_is_err_and c.from_residual.result c.from_residual.ensures.1 in
    let t = c.args.table.now in
    subst (λ (r : Result NodeId MakeFault). Builds t t (exchanged c.args.op) c.args.kids.now r) (sym (p.1 ∙ ap Err p.2))
    (refused_builds t (exchanged c.args.op) c.args.kids.now _ (sym (exchanged_rank t c.args.op c.args.kids.now c.requires.apt) ∙ sym c.in_err-sort.ensures.rank) c.in_err-sort.ensures.sorts)

pub bounds-kids-1 : goal.bounds-kids-1
bounds-kids-1 c =
    let two = two_kids c.args.table.now c.args.op c.args.kids.now (record { 0 = 0 }) _ c.requires.apt c.in_ok-sort.ensures.rank in
    let within : 1 < length c.args.kids.now = let count = two.number in omega arith in
    omega arith

pub bounds-kids-0 : goal.bounds-kids-0
bounds-kids-0 c =
    let two = two_kids c.args.table.now c.args.op c.args.kids.now (record { 0 = 0 }) _ c.requires.apt c.in_ok-sort.ensures.rank in
    let within : 0 < length c.args.kids.now = let count = two.number in omega arith in
    omega arith

pub pair_of_sort-requires-clause-left : goal.pair_of_sort-requires-clause-left
pair_of_sort-requires-clause-left c =
    let two = two_kids c.args.table.now c.args.op c.args.kids.now (record { 0 = 0 }) _ c.requires.apt c.in_ok-sort.ensures.rank in
    c.requires.kids 1 _ (let count = two.number in omega arith)

pub pair_of_sort-requires-clause-right : goal.pair_of_sort-requires-clause-right
pair_of_sort-requires-clause-right c =
    let two = two_kids c.args.table.now c.args.op c.args.kids.now (record { 0 = 0 }) _ c.requires.apt c.in_ok-sort.ensures.rank in
    c.requires.kids 0 _ (let count = two.number in omega arith)

pub pair_of_sort-requires-clause-ranked : goal.pair_of_sort-requires-clause-ranked
pair_of_sort-requires-clause-ranked c = (two_kids c.args.table.now c.args.op c.args.kids.now _ _ c.requires.apt c.in_ok-sort.ensures.rank).ranked

pub returns-in_err-node : goal.returns-in_err-node
returns-in_err-node c =
    let p = err_from_is_err_and c.from_residual-in_err-node.result c.from_residual-in_err-node.ensures.1 in
    let t = c.args.table.now in
    subst (λ (r : Result NodeId MakeFault). Builds t c.pair_of_sort.new.table (exchanged c.args.op) c.args.kids.now r) (sym (p.1 ∙ ap Err p.2))
    (memory_builds t c.pair_of_sort.new.table (exchanged c.args.op) c.args.kids.now (is_ok (sym (exchanged_rank t c.args.op c.args.kids.now c.requires.apt) ∙ sym c.in_ok-sort.ensures.rank)) c.pair_of_sort.ensures.extends)

pub returns : goal.returns
returns c =
    let t = c.args.table.now in
    made_builds t c.pair_of_sort.new.table (exchanged c.args.op) c.args.kids.now c.in_ok-node.node (is_ok (sym (exchanged_rank t c.args.op c.args.kids.now c.requires.apt) ∙ sym c.in_ok-sort.ensures.rank)) c.in_ok-node.ensures.node
    (c.in_ok-node.ensures.term ∙ (two_kids t c.args.op c.args.kids.now _ _ c.requires.apt c.in_ok-sort.ensures.rank).built) c.in_ok-node.ensures.extends
