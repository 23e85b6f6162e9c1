use Rattle.smt_terms.specs.Term.{Term}
use Rattle.smt_terms.specs.Val.{no_variables}
use Rattle.smt_values.specs.declared.value.Value.{Value}
use Rattle.term_table.specs.Formulas.{Formulas}
use Rattle.evaluation.specs.Evaluated.{IsValueOf}
use Rattle.evaluation.proofs.KeptResults.{fits-put}
use Rattle.evaluation.proofs.TakenValues.{taken-here, taken-before, taken-known, kept-stays, found-value}
use Rattle.evaluation.proofs.evaluating.keep_all.Goals as goal

pub loop-id-init : goal.loop-id-init
loop-id-init c = record {
  keeps = λ t m keeps found. keeps;
  left = λ t m found k v told. found-value t m no_variables c.args.kept.now c.args.found.entries found k v told;
  stay = λ k known. known;
  all = λ k known. known;
}

pub loop-id-preserved : goal.loop-id-preserved
loop-id-preserved c =
    let old = c.loop-id.found.entries in
    let new = c.pop.new.self.entries in
    let here = taken-here old new c.in-Some.id c.in-Some.value c.in-Some.ensures.entries c.in-Some.ensures.updates.0 in
    let before = taken-before old new c.in-Some.id c.in-Some.value c.in-Some.ensures.entries c.in-Some.ensures.updates.0 in
    record {
      keeps = λ t m keeps found.
          let own = c.loop-id.invariant.left t m found c.in-Some.id c.in-Some.value here in
          let R : Formulas → Term → Value → Type 0 = λ _ u v. IsValueOf m no_variables u v in
          fits-put R t c.loop-id.kept c.put.new.self c.in-Some.id c.in-Some.value c.in_ok-put.ensures.ok own.0 own.1 (c.loop-id.invariant.keeps t m keeps found);
      left = λ t m found k v told. c.loop-id.invariant.left t m found k v (before k v told);
      stay = λ k known. kept-stays old new c.in-Some.id c.in-Some.value c.in-Some.ensures.entries c.in-Some.ensures.updates.0 c.loop-id.kept c.put.new.self c.in_ok-put.ensures.ok k (c.loop-id.invariant.stay k known);
      all = λ k known. taken-known old new c.in-Some.id c.in-Some.value c.in-Some.ensures.entries c.in-Some.ensures.updates.0 c.loop-id.kept c.put.new.self c.in_ok-put.ensures.ok k (c.loop-id.invariant.all k known);
    }
