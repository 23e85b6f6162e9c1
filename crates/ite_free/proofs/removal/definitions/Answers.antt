use Rattle.std.proofs.Common.{◌<◌, length, ◌∙◌, arith}
use Rattle.std.proofs.lemmas.Option.{get_or_from_slice_get}
use Rattle.term_groups.specs.Seen.{named_at}
use Rattle.term_table.specs.Formulas.{symbol_at}
use Rattle.term_walk.proofs.Visits.{table-grows}
use Rattle.ite_free.proofs.DefinedNodes.{choice-now, fit-now, operands-fit_now, operands-replaced_now, constant-now, definitions-more}
use Rattle.ite_free.proofs.removal.definitions.Goals as goal

pub define-requires-clause-choice : goal.define-requires-clause-choice
define-requires-clause-choice c =
    let ps = c.args.constants.now.symbols in
    let within : c.loop-i.i < length ps = omega arith in
    choice-now c.args.table.now c.loop-i.table c.loop-i.invariant.grows c.args.memo.now c.args.constants.now c.requires.constants c.requires.done c.loop-i.i c.get.result within (get_or_from_slice_get ps c.loop-i.i c.get.result c.get.result c.get.ensures)

pub define-requires-clause-constant : goal.define-requires-clause-constant
define-requires-clause-constant c =
    let ps = c.args.constants.now.symbols in
    let within : c.loop-i.i < length ps = omega arith in
    fit-now c.args.table.now c.loop-i.table c.loop-i.invariant.grows c.args.memo.now c.args.constants.now c.requires.constants c.requires.done c.loop-i.i c.get.result within (get_or_from_slice_get ps c.loop-i.i c.get.result c.get.result c.get.ensures)

pub define-requires-clause-operands : goal.define-requires-clause-operands
define-requires-clause-operands c =
    let ps = c.args.constants.now.symbols in
    let within : c.loop-i.i < length ps = omega arith in
    operands-fit_now c.args.table.now c.loop-i.table c.loop-i.invariant.grows c.args.memo.now c.args.constants.now c.requires.constants c.requires.done c.loop-i.i c.get.result within (get_or_from_slice_get ps c.loop-i.i c.get.result c.get.result c.get.ensures)

pub loop-i-preserved : goal.loop-i-preserved
loop-i-preserved c =
    let t = c.args.table.now in
    let ps = c.args.constants.now.symbols in
    let p = c.get.result in
    let within : c.loop-i.i < length ps = omega arith in
    let at = get_or_from_slice_get ps c.loop-i.i p p c.get.ensures in
    record {
      grows = table-grows t c.loop-i.table c.define.new.table c.loop-i.invariant.grows c.in_ok-define.ensures.grows;
      symbols = c.in_ok-define.ensures.symbols ∙ c.loop-i.invariant.symbols;
      nodes = c.in_ok-define.ensures.nodes;
      terms =
          definitions-more t c.loop-i.table c.loop-i.invariant.grows c.args.memo.now c.args.constants.now c.requires.constants c.requires.done c.loop-i.i p within at c.define.new.table c.loop-i.asserts c.define.new.asserts c.loop-i.invariant.terms
          (c.in_ok-define.ensures.terms (named_at t ps) (symbol_at t p.0)
          (constant-now t c.loop-i.table c.loop-i.invariant.grows c.args.memo.now c.args.constants.now c.requires.constants c.requires.done c.loop-i.i p within at)
          (operands-replaced_now t c.loop-i.table c.loop-i.invariant.grows c.args.memo.now c.args.constants.now c.requires.constants c.requires.done c.loop-i.i p within at));
    }
