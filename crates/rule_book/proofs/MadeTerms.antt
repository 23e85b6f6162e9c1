-- Terms that an operator makes of regular ones are regular.
use Rattle.std.proofs.Common.{◌≡◌, true, false, not, refl, ap}
use Rattle.smt_terms.specs.declared.op.Op.{Op}
use Rattle.smt_terms.specs.declared.op.Op.TheVariants.{Whole, Neg}
use Rattle.smt_terms.specs.Term.{op, Term, apply, quantified, Terms, none, ◌⨾◌}
use Rattle.smt_terms.specs.Made.{minus, made}
use Rattle.smt_terms.specs.Rank.{is_minus, is_whole, is_minus_of, is_regular, are_regular}
use Rattle.smt_terms.proofs.Keeping.{two_or_more, not_minus}
use Rattle.smt_terms.proofs.SortsOfTerms.{regular_over}

over-regular : (o : Op) (ts : Terms) → is_minus_of (op o) ts ≡ false → are_regular ts ≡ true → is_regular (apply (op o) ts) ≡ true
over-regular o ts other fine = regular_over (op o) ts (record { head = refl; no_minus = ap not other; operands = fine })

minus-regular : (t : Term) → are_regular (t ⨾ none) ≡ true → is_regular (minus t) ≡ true
unfolding is_minus_of is_minus is_whole
minus-regular (quantified q xs t) fine = over-regular Neg (quantified q xs t ⨾ none) refl fine
minus-regular (apply (op (Whole n)) none) fine = refl
minus-regular (apply (op c) none) fine = over-regular Neg (apply (op c) none ⨾ none) refl fine
minus-regular (apply (op c) (t ⨾ ts)) fine = over-regular Neg (apply (op c) (t ⨾ ts) ⨾ none) refl fine
minus-regular (apply h ts) fine = over-regular Neg (apply h ts ⨾ none) refl fine

pub made-regular : (o : Op) (ts : Terms) → are_regular ts ≡ true → is_regular (made (op o) ts) ≡ true
unfolding is_minus_of is_minus
made-regular Neg none fine = refl
made-regular Neg (t ⨾ none) fine = minus-regular t fine
made-regular Neg (t ⨾ (u ⨾ us)) fine = over-regular Neg (t ⨾ (u ⨾ us)) (two_or_more Neg t u us) fine
made-regular o ts fine = over-regular o ts (not_minus o ts refl) fine
