use Rattle.std.proofs.Common.{suc, sym, ap, ◌∙◌}
use Rattle.smt_terms.specs.Fresh.{next_number}
use Rattle.smt_values.specs.SortIds.{is_plain}
use Rattle.term_subst.specs.Counters.{AreDigits, digits_of, value}
use Rattle.term_subst.proofs.Digits.{digits_of-AreDigits, value-digits_of}
use Rattle.term_subst.proofs.Numbered.{numbered-plain, counted}
use Rattle.term_subst.proofs.fresh.Fresh.next.Goals as goal

pub symbol-requires-clause-name : goal.symbol-requires-clause-name
symbol-requires-clause-name c =
    let name = c.deref-2.ensures.value ∙ c.in_ok-name.ensures (next_number c.args.self.now) (c.deref.ensures.value ∙ c.in_ok-digits.ensures) in
    ap is_plain name ∙ numbered-plain (next_number c.args.self.now)

pub invariant_of-self : goal.invariant_of-self
invariant_of-self c =
    let n = next_number c.args.self.now in
    let ds = c.in_ok-digits.digits.items in
    let digits : AreDigits ds = c.in_ok-digits.ensures ∙ digits_of-AreDigits n ∙ ap (λ l. digits_of (value l)) (sym c.in_ok-digits.ensures) in
    ((counted ds c.count.new.digits.items digits c.in_ok-count.ensures).1, c.self.invariant.1)

pub returns-clause-left : goal.returns-clause-left
returns-clause-left c =
    let n = next_number c.args.self.now in
    let ds = c.in_ok-digits.digits.items in
    let digits : AreDigits ds = c.in_ok-digits.ensures ∙ digits_of-AreDigits n ∙ ap (λ l. digits_of (value l)) (sym c.in_ok-digits.ensures) in
    let number = (counted ds c.count.new.digits.items digits c.in_ok-count.ensures).2 ∙ ap (λ l. suc (value l)) c.in_ok-digits.ensures ∙ ap suc (value-digits_of n) in
    λ i. record { taken = (c.self.view_is i).taken; number = number i }
