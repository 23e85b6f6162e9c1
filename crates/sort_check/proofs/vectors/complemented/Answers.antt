use Rattle.std.proofs.Common.{Result, Err, IsOk, sym, ap, ◌∙◌, subst}
use Rattle.std.proofs.lemmas.Result.{err_from_is_err_and}
use Rattle.smt_terms.specs.declared.ids.NodeId.{NodeId}
use Rattle.smt_terms.specs.Rank.{shape}
use Rattle.smt_terms.specs.Written.{complemented}
use Rattle.sort_check.specs.declared.fault.MakeFault.{MakeFault}
use Rattle.sort_check.specs.Making.{Extends, Builds}
use Rattle.sort_check.proofs.Answering.{memory_builds, made_builds}
use Rattle.sort_check.proofs.Growing.{extends-trans}
use Rattle.sort_check.proofs.Passing.{failed_builds}
use Rattle.sort_check.proofs.Repeating.{bitwise_theory, complemented_rank, complemented_makes, complemented_term}
use Rattle.sort_check.proofs.Theory.{theory_numbers}
use Rattle.sort_check.proofs.vectors.complemented.Goals as goal

pub make-requires-clause-numbers : goal.make-requires-clause-numbers
make-requires-clause-numbers c = theory_numbers c.args.table.now c.args.op (bitwise_theory (shape c.args.op) c.requires.apt)

pub returns-in_err-inner : goal.returns-in_err-inner
returns-in_err-inner c =
    let p = err_from_is_err_and c.from_residual.result c.from_residual.ensures.1 in
    let t = c.args.table.now in
    subst (λ (r : Result NodeId MakeFault). Builds t c.make.new.table (complemented c.args.op) c.args.kids.now r) (sym (p.1 ∙ ap Err p.2))
    (failed_builds t c.make.new.table (complemented c.args.op) c.args.kids.now _ _ (complemented_rank t c.args.op c.args.kids.now c.requires.apt) c.in_err-inner.ensures.rank
    c.make.ensures.grows c.make.ensures.symbols c.make.ensures.sorts c.in_err-inner.ensures.err)

pub intern-requires : goal.intern-requires
intern-requires c =
    complemented_makes c.args.table.now c.args.op c.args.kids.now c.requires.apt c.in_ok-inner.ensures.rank c.make.new.table c.in_ok-inner.inner c.in_ok-inner.ensures.node c.in_ok-inner.ensures.term

pub returns-in_err-node : goal.returns-in_err-node
returns-in_err-node c =
    let p = err_from_is_err_and c.from_residual-in_err-node.result c.from_residual-in_err-node.ensures.1 in
    let t = c.args.table.now in
    let first : Extends t c.make.new.table = record { trees = c.make.ensures.grows.grows; symbols = c.make.ensures.symbols; sorts = c.make.ensures.sorts } in
    let second : Extends c.make.new.table c.intern.new.self = record { trees = c.intern.ensures.grows.grows; symbols = c.intern.ensures.symbols; sorts = c.intern.ensures.sorts } in
    subst (λ (r : Result NodeId MakeFault). Builds t c.intern.new.self (complemented c.args.op) c.args.kids.now r) (sym (p.1 ∙ ap Err p.2))
    (memory_builds t c.intern.new.self (complemented c.args.op) c.args.kids.now (subst IsOk (complemented_rank t c.args.op c.args.kids.now c.requires.apt) c.in_ok-inner.ensures.rank)
    (extends-trans t c.make.new.table c.intern.new.self first second))

pub returns : goal.returns
returns c =
    let t = c.args.table.now in
    let first : Extends t c.make.new.table = record { trees = c.make.ensures.grows.grows; symbols = c.make.ensures.symbols; sorts = c.make.ensures.sorts } in
    let second : Extends c.make.new.table c.intern.new.self = record { trees = c.intern.ensures.grows.grows; symbols = c.intern.ensures.symbols; sorts = c.intern.ensures.sorts } in
    made_builds t c.intern.new.self (complemented c.args.op) c.args.kids.now c.in_ok-node.node (subst IsOk (complemented_rank t c.args.op c.args.kids.now c.requires.apt) c.in_ok-inner.ensures.rank) c.in_ok-node.ensures.node
    (c.in_ok-node.ensures.term ∙ complemented_term t c.args.op c.args.kids.now c.requires.apt c.make.new.table c.in_ok-inner.inner c.in_ok-inner.ensures.term)
    (extends-trans t c.make.new.table c.intern.new.self first second)
