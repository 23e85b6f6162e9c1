use Rattle.std.proofs.Common.{◌≡◌, ◌-◌, ◌<◌, suc, length, Result, Err, sym, ap, ◌∙◌, subst, arith}
use Rattle.std.proofs.lemmas.Result.{err_from_is_err_and}
use Rattle.smt_terms.specs.declared.ids.NodeId.{NodeId}
use Rattle.smt_terms.specs.Written.{repetition, build}
use Rattle.term_table.specs.Formulas.{trees_at}
use Rattle.term_table.specs.declared.fault.RankFault.TheVariants.{BadIndex, WidthLimit}
use Rattle.sort_check.specs.declared.fault.MakeFault.{MakeFault}
use Rattle.sort_check.specs.Making.{term_algebra, Builds}
use Rattle.sort_check.proofs.Answering.{refused_builds, memory_builds, made_builds}
use Rattle.sort_check.proofs.Repeating.{repetition_refused, repeated_kids, repeated_zero, repeated_wide, repeated_fits, repeated_ok}
use Rattle.sort_check.proofs.vectors.repetition.Goals as goal

pub returns-in_err-rank : goal.returns-in_err-rank
returns-in_err-rank c =
    let p = err_from_is_err_and c.from_residual.result c.from_residual.ensures.1 in
    let t = c.args.table.now in
    subst (λ (r : Result NodeId MakeFault). Builds t t (repetition c.args.count) c.args.kids.now r) (sym (p.1 ∙ ap Err p.2))
    (refused_builds t (repetition c.args.count) c.args.kids.now _ (repetition_refused t c.args.count c.args.kids.now _ c.operand_width-width.ensures.sort c.in_err-rank.ensures.rank) c.in_err-rank.ensures.sorts)

pub returns-then-count-eq0 : goal.returns-then-count-eq0
returns-then-count-eq0 c =
    let t = c.args.table.now in
    let x = repeated_kids t c.args.kids.now c.operand_width-width.result (record { 0 = 0 }) _ c.operand_width-width.ensures.width c.operand_width-width.ensures.sort c.in_ok-rank.ensures.rank in
    refused_builds t (repetition c.args.count) c.args.kids.now BadIndex (repeated_zero t c.args.kids.now c.operand_width-width.result (record { 0 = 0 }) x c.args.count c.if-count-eq0.true) tt

pub nonzero_div-width : goal.nonzero_div-width
nonzero_div-width c =
    let t = c.args.table.now in
    let x = repeated_kids t c.args.kids.now c.operand_width-width.result (record { 0 = 0 }) _ c.operand_width-width.ensures.width c.operand_width-width.ensures.sort c.in_ok-rank.ensures.rank in
    let positive : 0 < c.operand_width-width.result = x.positive in
    omega arith

pub returns-then-count-width : goal.returns-then-count-width
returns-then-count-width c =
    let t = c.args.table.now in
    let x = repeated_kids t c.args.kids.now c.operand_width-width.result (record { 0 = 0 }) _ c.operand_width-width.ensures.width c.operand_width-width.ensures.sort c.in_ok-rank.ensures.rank in
    refused_builds t (repetition c.args.count) c.args.kids.now WidthLimit (repeated_wide t c.args.kids.now c.operand_width-width.result (record { 0 = 0 }) x c.args.count c.if-count-width.true) tt

pub bounds-kids-0 : goal.bounds-kids-0
bounds-kids-0 c =
    let t = c.args.table.now in
    let x = repeated_kids t c.args.kids.now c.operand_width-width.result (record { 0 = 0 }) _ c.operand_width-width.ensures.width c.operand_width-width.ensures.sort c.in_ok-rank.ensures.rank in
    let within : 0 < length c.args.kids.now = x.some in
    omega arith

pub copies-requires : goal.copies-requires
copies-requires c =
    let t = c.args.table.now in
    let x = repeated_kids t c.args.kids.now c.operand_width-width.result (record { 0 = 0 }) _ c.operand_width-width.ensures.width c.operand_width-width.ensures.sort c.in_ok-rank.ensures.rank in
    record {
      width = c.operand_width-width.result;
      vector = x.vector (c.requires 0 _ x.some);
      narrow = repeated_fits t c.args.kids.now c.operand_width-width.result (record { 0 = 0 }) x c.args.count (c.args.count - 1) (omega arith) c.if-count-width.false;
    }

pub returns-in_err-node : goal.returns-in_err-node
returns-in_err-node c =
    let p = err_from_is_err_and c.from_residual-in_err-node.result c.from_residual-in_err-node.ensures.1 in
    let t = c.args.table.now in
    let x = repeated_kids t c.args.kids.now c.operand_width-width.result (record { 0 = 0 }) _ c.operand_width-width.ensures.width c.operand_width-width.ensures.sort c.in_ok-rank.ensures.rank in
    subst (λ (r : Result NodeId MakeFault). Builds t c.copies.new.table (repetition c.args.count) c.args.kids.now r) (sym (p.1 ∙ ap Err p.2))
    (memory_builds t c.copies.new.table (repetition c.args.count) c.args.kids.now (repeated_ok t c.args.kids.now c.operand_width-width.result (record { 0 = 0 }) x c.args.count (omega arith) c.if-count-width.false) c.copies.ensures.extends)

pub returns : goal.returns
returns c =
    let t = c.args.table.now in
    let x = repeated_kids t c.args.kids.now c.operand_width-width.result (record { 0 = 0 }) _ c.operand_width-width.ensures.width c.operand_width-width.ensures.sort c.in_ok-rank.ensures.rank in
    let same : suc (c.args.count - 1) ≡ c.args.count = omega arith in
    made_builds t c.copies.new.table (repetition c.args.count) c.args.kids.now c.in_ok-node.node (repeated_ok t c.args.kids.now c.operand_width-width.result (record { 0 = 0 }) x c.args.count (omega arith) c.if-count-width.false) c.in_ok-node.ensures.node
    (c.in_ok-node.ensures.term ∙ x.built (c.args.count - 1) ∙ ap (λ n. build term_algebra (repetition n) (trees_at t c.args.kids.now)) same) c.in_ok-node.ensures.extends
