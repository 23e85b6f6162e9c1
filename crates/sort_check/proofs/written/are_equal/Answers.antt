use Rattle.std.proofs.Common.{◌≡◌, List, true, ℕ, arith, sym, subst}
use Rattle.std.proofs.lemmas.List.{ext_get_or}
use Rattle.smt_terms.specs.Equal.{name_eq}
use Rattle.smt_terms.proofs.Equal.{name_itself}
use Rattle.sort_check.proofs.written.are_equal.Goals as goal

pub returns : goal.returns
returns c =
    let same : c.args.a.now ≡ c.args.b.now = ext_get_or 0 c.args.a.now c.args.b.now c.if-a-b.false (λ j lt. c.loop-k.invariant j (omega arith)) in
    sym (subst (λ (n : List ℕ). name_eq c.args.a.now n ≡ true) same (name_itself c.args.a.now))
