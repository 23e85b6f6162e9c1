use Rattle.std.proofs.Common.{◌≡◌, ◌+◌, [], ◌∷◌, ◌++◌, length, get_or, Some, option_copied, ap, sym, ◌∙◌, arith, length-append}
use Rattle.smt_terms.specs.declared.ids.NodeId.{NodeId}
use Rattle.term_walk.specs.Places.{result_at}
use Rattle.normal_forms.specs.declared.node_forms.Forms.{Forms}
use Rattle.normal_forms.specs.FormNodes.{positive_of, negative_of}
use Rattle.normal_forms.proofs.Taken.{taken-push}
use Rattle.normal_forms.proofs.negation_normal_form.sides.Goals as goal

pub loop-kid-preserved : goal.loop-kid-preserved
loop-kid-preserved c =
    let inv = c.loop-kid.invariant in
    let none_yet : NodeId = record { 0 = 0 } in
    let f : Forms = c.unwrap-forms.result.now in
    let found : result_at c.args.kept.now (get_or c.args.kids.now c.loop-kid.kid-index none_yet).0 ≡ Some f = sym c.get.ensures ∙ ap option_copied c.unwrap-forms.ensures in
    record {
      positives = ap length c.in_ok-push.ensures.ok ∙ length-append c.loop-kid.positives.items (c.positive.result ∷ []) ∙ ap (λ n. n + 1) inv.positives;
      negatives = ap length c.in_ok-push-2.ensures.ok ∙ length-append c.loop-kid.negatives.items (c.negative.result ∷ []) ∙ ap (λ n. n + 1) inv.negatives;
      yes = taken-push positive_of c.args.kept.now c.args.kids.now c.loop-kid.positives.items c.push.new.self.items c.loop-kid.kid-index none_yet f inv.positives c.loop-kid-test.true inv.yes found (c.in_ok-push.ensures.ok ∙ ap (λ k. c.loop-kid.positives.items ++ k ∷ []) c.positive.ensures);
      no = taken-push negative_of c.args.kept.now c.args.kids.now c.loop-kid.negatives.items c.push-in-loop-kid.new.self.items c.loop-kid.kid-index none_yet f inv.negatives c.loop-kid-test.true inv.no found (c.in_ok-push-2.ensures.ok ∙ ap (λ k. c.loop-kid.negatives.items ++ k ∷ []) c.negative.ensures);
    }

pub returns-clause-positive : goal.returns-clause-positive
returns-clause-positive c =
    let none_left = c.loop-kid-test.false in
    let most = c.loop-kid.auto.kid-index-end in
    let inv = c.loop-kid.invariant in
    record { number = omega (arith, inv.positives); each = λ i d lt. inv.yes i d (omega arith) }

pub returns-clause-negative : goal.returns-clause-negative
returns-clause-negative c =
    let none_left = c.loop-kid-test.false in
    let most = c.loop-kid.auto.kid-index-end in
    let inv = c.loop-kid.invariant in
    record { number = omega (arith, inv.negatives); each = λ i d lt. inv.no i d (omega arith) }
