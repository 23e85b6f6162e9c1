use Rattle.std.proofs.Common.{◌≡◌, ℕ, List, sym, ap, subst, ◌∙◌, arith}
use Rattle.smt_terms.specs.Free.{name_among}
use Rattle.smt_terms.specs.Fresh.{Supply, numbered_name}
use Rattle.smt_terms.proofs.Fresh.{next-later}
use Rattle.term_subst.specs.Counters.{value, AreDigits, digits_of}
use Rattle.term_subst.specs.Names.{AgreeOnNumbered}
use Rattle.term_subst.proofs.Numbered.{number-found, number-skipped, counted}
use Rattle.term_subst.proofs.fresh.Fresh.untaken.Goals as goal

pub loop-self-init : goal.loop-self-init
loop-self-init c =
    let s : Supply = c.args.self.now in
    let ds : List ℕ = c.in_ok-digits.digits.items in
    let same : ds ≡ c.self.inside.digits.items = c.in_ok-digits.ensures.items ∙ c.deref.ensures.value in
    let digits : AreDigits ds = subst AreDigits (sym same) c.self.invariant.0 in
    let number : value ds ≡ s.number = ap value same ∙ ap (λ (x : Supply). x.number) c.self.view_is in
    let later = next-later s in
    (digits, omega arith, omega arith, c.in_ok-name.ensures (value ds) (c.deref-2.ensures.value ∙ digits))

pub loop-self-smaller : goal.loop-self-smaller
loop-self-smaller c =
    let s : Supply = c.args.self.now in
    let ds : List ℕ = c.loop-self.digits.items in
    let agree : AgreeOnNumbered c.self.inside.taken s.taken = λ i. c.self.invariant.1 i ∙ ap (λ (x : Supply). name_among x.taken (numbered_name i)) c.self.view_is in
    let taken = ap (name_among c.self.inside.taken) (sym (c.deref-in-loop-self.ensures.value ∙ c.loop-self.invariant.3)) ∙ sym c.has.ensures ∙ c.loop-self-test.true in
    let skipped = number-skipped s c.self.inside.taken (value ds) agree c.loop-self.invariant.2 taken in
    let next = (counted ds c.count.new.digits.items c.loop-self.invariant.0 c.in_ok-count.ensures).2 in
    omega arith

pub loop-self-preserved : goal.loop-self-preserved
loop-self-preserved c =
    let s : Supply = c.args.self.now in
    let ds : List ℕ = c.loop-self.digits.items in
    let es : List ℕ = c.count.new.digits.items in
    let agree : AgreeOnNumbered c.self.inside.taken s.taken = λ i. c.self.invariant.1 i ∙ ap (λ (x : Supply). name_among x.taken (numbered_name i)) c.self.view_is in
    let taken = ap (name_among c.self.inside.taken) (sym (c.deref-in-loop-self.ensures.value ∙ c.loop-self.invariant.3)) ∙ sym c.has.ensures ∙ c.loop-self-test.true in
    let skipped = number-skipped s c.self.inside.taken (value ds) agree c.loop-self.invariant.2 taken in
    let (is, digits, next) = counted ds es c.loop-self.invariant.0 c.in_ok-count.ensures in
    let from = c.loop-self.invariant.1 in
    (digits, omega arith, omega arith, c.in_ok-name-2.ensures (value es) (c.deref-in-loop-self-2.ensures.value ∙ digits))

pub returns : goal.returns
returns c =
    let s : Supply = c.args.self.now in
    let ds : List ℕ = c.loop-self.digits.items in
    let agree : AgreeOnNumbered c.self.inside.taken s.taken = λ i. c.self.invariant.1 i ∙ ap (λ (x : Supply). name_among x.taken (numbered_name i)) c.self.view_is in
    let free = ap (name_among c.self.inside.taken) (sym (c.deref-in-loop-self.ensures.value ∙ c.loop-self.invariant.3)) ∙ sym c.has.ensures ∙ c.loop-self-test.false in
    c.loop-self.invariant.0 ∙ ap digits_of (number-found s c.self.inside.taken (value ds) agree c.loop-self.invariant.2 c.loop-self.invariant.1 free)
