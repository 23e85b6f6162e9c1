use Rattle.std.proofs.Common.{◌≡◌, ◌<◌, true, List, length, All, is_some, subst, arith}
use Rattle.std.proofs.lemmas.List.{take_all}
use Rattle.std.proofs.lemmas.Option.{get_or_from_slice_get}
use Rattle.smt_terms.specs.declared.ids.NodeId.{NodeId}
use Rattle.smt_terms.specs.declared.ids.SymId.{SymId}
use Rattle.quantifier_forms.specs.Memos.{result_in}
use Rattle.quantifier_forms.proofs.Memos.{sets-each}
use Rattle.term_groups.specs.Replacing.{IsReplaced}
use Rattle.term_groups.proofs.ReplacedNodes.{constant-replaced, kept-more}
use Rattle.term_groups.proofs.replacing.keep_constants.Goals as goal

pub loop-i-preserved : goal.loop-i-preserved
loop-i-preserved c =
    let ps = c.args.constants.now.symbols in
    let within : c.loop-i.i < length ps = omega arith in
    let at = get_or_from_slice_get ps c.loop-i.i c.get.result c.get.result c.get.ensures in
    record {
      replaced = λ t wanted ns are own.
          sets-each c.loop-i.memo c.set.new.self 0 c.get.result.1 c.get-in-loop-i.result (IsReplaced t ns) c.in_ok-set.ensures.ok (c.loop-i.invariant.replaced t wanted ns are own)
          (constant-replaced t wanted c.args.constants.now are ns own c.loop-i.i c.get.result c.get-in-loop-i.result within (omega arith) at
          (get_or_from_slice_get c.args.constants.now.nodes c.loop-i.i c.get-in-loop-i.result c.get-in-loop-i.result c.get-in-loop-i.ensures));
      kept = kept-more c.loop-i.memo c.set.new.self ps c.loop-i.i c.get.result c.get-in-loop-i.result within at c.in_ok-set.ensures.ok c.loop-i.invariant.kept;
    }

pub returns-clause-kept : goal.returns-clause-kept
returns-clause-kept c =
    subst (λ (ps : List (SymId × NodeId)). All (λ (p : SymId × NodeId). is_some (result_in c.loop-i.memo 0 p.1) ≡ true) ps)
    (take_all c.loop-i.i c.args.constants.now.symbols (let past = c.loop-i-test.false in omega arith)) c.loop-i.invariant.kept
