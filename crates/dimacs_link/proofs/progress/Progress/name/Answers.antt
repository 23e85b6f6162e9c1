use Rattle.std.proofs.Common.{◌≡◌, ◌∙◌, sym, ap, subst, ◌+◌, ◌-◌, true, false, not, ◌||◌, Some, arith}
use Rattle.std.specs.List.{list_any, slice_get}
use Rattle.std.proofs.Math.ListN.{set}
use Rattle.dimacs_link.specs.AnswerTexts.{is_literal}
use Rattle.dimacs_link.proofs.Naming.{names, others, told}
use Rattle.dimacs_link.proofs.progress.Progress.name.Goals as goal

pub returns-then-not-self : goal.returns-then-not-self
returns-then-not-self c count before h =
    let l = c.args.literal in
    let k = l.constant - 1 in
    let low = c.requires.0 in
    let on : l.constant ≡ 1 + k = omega arith in
    let size = h.constants in
    let other = told before false 1 count k c.get.result (subst (λ vs. slice_get vs k ≡ Some c.get.result) h.negative c.get.ensures) in (
      sym (ap not (ap (λ t. t || list_any (is_literal (not l.positive) l.constant) before) (sym h.ended ∙ c.if-not-self.true)
          ∙ ap (λ b. list_any (is_literal (not b) l.constant) before) c.if-literal.true
          ∙ ap (λ n. list_any (is_literal false n) before) on ∙ other)),
      λ _. record {
        constants = h.constants;
        ending = h.ending;
        values = h.values;
        ended = h.ended;
        positive = c.set.ensures ∙ ap (λ vs. set vs k true) h.positive ∙ names before l true 1 count k c.if-literal.true on (omega arith);
        negative = h.negative ∙ others before l true 1 count c.if-literal.true;
      },
    )

pub returns-then-not-self-2 : goal.returns-then-not-self-2
returns-then-not-self-2 c count before h =
    let l = c.args.literal in
    let k = l.constant - 1 in
    let low = c.requires.0 in
    let on : l.constant ≡ 1 + k = omega arith in
    let size = h.constants in
    let other = told before true 1 count k c.get-then-not-self-2.result (subst (λ vs. slice_get vs k ≡ Some c.get-then-not-self-2.result) h.positive c.get-then-not-self-2.ensures) in (
      sym (ap not (ap (λ t. t || list_any (is_literal (not l.positive) l.constant) before) (sym h.ended ∙ c.if-not-self-2.true)
          ∙ ap (λ b. list_any (is_literal (not b) l.constant) before) c.if-literal.false
          ∙ ap (λ n. list_any (is_literal true n) before) on ∙ other)),
      λ _. record {
        constants = h.constants;
        ending = h.ending;
        values = h.values;
        ended = h.ended;
        positive = h.positive ∙ others before l false 1 count c.if-literal.false;
        negative = c.set-else-literal.ensures ∙ ap (λ vs. set vs k true) h.negative ∙ names before l false 1 count k c.if-literal.false on (omega arith);
      },
    )
