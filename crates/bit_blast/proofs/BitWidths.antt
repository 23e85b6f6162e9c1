-- How many bits a term has.
use Rattle.std.specs.Prelude.{◌≡◌, ℕ, zero, suc, ◌<◌, ◌≤◌, true, nat_le, length, List, [], ◌∷◌, Some, is_some, unwrap_or}
use Rattle.std.proofs.Common.{refl, ap, sym, ◌∙◌, subst, arith}
use Rattle.std.proofs.lemmas.Bool.{leb-true}
use Rattle.std.proofs.lemmas.List.{length-map}
use Rattle.smt_terms.specs.Sorts.{Sort, bool, int, bit_vector, array, free_sort, Symbol}
use Rattle.smt_terms.specs.Term.{op, symbol, const_array, Term, apply, quantified, Terms, none, ◌⨾◌}
use Rattle.smt_terms.specs.Groups.{Named}
use Rattle.smt_terms.specs.Rank.{sort_of, sorts_of, most_bits, is_sort, is_regular, are_regular, IsWellSorted}
use Rattle.smt_terms.proofs.Ranked.{rank-takes}
use Rattle.smt_terms.proofs.Sorted.{applied, sorted}
use Rattle.smt_terms.proofs.SortsOfTerms.{regular, sort_is_sort}
use Rattle.smt_terms.proofs.Tests.{both_true}
use Rattle.bit_blast.specs.Blasted.{is_bits, are_bits, is_bits_sort, bits_from, bit_constant, term_gates, symbol_bits, bits, bits_each}
use Rattle.bit_blast.specs.Circuits.{circuit}
use Rattle.bit_blast.proofs.BitTerms.{of-bits, no-array}
use Rattle.bit_blast.proofs.CircuitStatements.{bits_in, Fit, fit_none, fit_more}
use Rattle.bit_blast.proofs.CircuitWidths.{circuits_have_widths}

length-bits_from : (f : Symbol) (i n : ℕ) → length (bits_from f i n) ≡ n
length-bits_from f i zero = refl
length-bits_from f i (suc n) = ap suc (length-bits_from f (suc i) n)

length-symbol_bits : (ns : Named) (f : Symbol) (s : Sort) → is_bits_sort (Some s) ≡ true → length (symbol_bits ns f s) ≡ bits_in s
length-symbol_bits ns f bool fine = refl
length-symbol_bits ns f int fine = absurd cc
length-symbol_bits ns f (bit_vector w) fine = length-map (bits_from f 0 w) (bit_constant ns) ∙ length-bits_from f 0 w
length-symbol_bits ns f (array i e) fine = absurd cc
length-symbol_bits ns f (free_sort n) fine = absurd cc

some-bits : (s : Sort) → is_sort s ≡ true → is_bits_sort (Some s) ≡ true → 0 < bits_in s
some-bits bool wide fine = omega arith
some-bits int wide fine = absurd cc
some-bits (bit_vector w) wide fine = let one : 1 ≤ w = leb-true 1 w (both_true (nat_le 1 w) (nat_le w most_bits) wide).0 in omega arith
some-bits (array i e) wide fine = absurd cc
some-bits (free_sort n) wide fine = absurd cc

mutual
  term_width : (ns : Named) (t : Term) (s : Sort) → is_regular t ≡ true → sort_of t ≡ Some s → is_bits t ≡ true → (is_bits_sort (Some s) ≡ true) × (length (bits ns t) ≡ bits_in s)
  term_width ns (apply (op o) ts) s fine has vectors =
      let of = of-bits (op o) ts vectors in
      let a = applied (op o) ts s has in
      let same : of.sort ≡ s = let e : Some of.sort ≡ Some s = sym of.has ∙ has in cc in
      let good : is_bits_sort (Some s) ≡ true = subst (λ r. is_bits_sort (Some r) ≡ true) same of.fine in
      let fit = terms_fit ns ts a.sorts (regular (op o) ts fine).operands a.operands of.operands in
      let wide = circuits_have_widths Term term_gates o a.sorts s (bits_each ns ts) (record { ranked = a.rank; result = good }) fit in
      (good, ap (λ ss. length (circuit term_gates o (unwrap_or ss []) (bits_each ns ts))) a.operands ∙ wide.0)
  term_width ns (apply (symbol f) ts) s fine has vectors =
      let of = of-bits (symbol f) ts vectors in
      let a = applied (symbol f) ts s has in
      let takes = rank-takes (symbol f) a.sorts s a.rank in
      let same : of.sort ≡ s = let e : Some of.sort ≡ Some s = sym of.has ∙ has in cc in
      let good : is_bits_sort (Some s) ≡ true = subst (λ r. is_bits_sort (Some r) ≡ true) same of.fine in
      (good, ap (λ r. length (symbol_bits ns f r)) (sym takes.1) ∙ length-symbol_bits ns f s good)
  term_width ns (apply (const_array r) ts) s fine has vectors = absurd (no-array r ts vectors)
  term_width ns (quantified q xs body) s fine has vectors = absurd cc

  terms_fit : (ns : Named) (ts : Terms) (ss : List Sort) → are_regular ts ≡ true → sorts_of ts ≡ Some ss → are_bits ts ≡ true → Fit ss (bits_each ns ts)
  terms_fit ns none ss fine has vectors =
      let empty : ss ≡ [] = cc in
      subst (λ (rs : List Sort). Fit {A = Term} rs []) (sym empty) fit_none
  terms_fit ns (t ⨾ ts) ss fine has vectors =
      let parts = sorted t ts ss has in
      let rules = both_true (is_regular t) (are_regular ts) fine in
      let each = both_true (is_bits t) (are_bits ts) vectors in
      let first = term_width ns t parts.sort rules.0 parts.first each.0 in
      let some : 0 < length (bits ns t) = let wide = some-bits parts.sort (sort_is_sort t parts.sort rules.0 parts.first) first.0 in let count = first.1 in omega (arith, wide, count) in
      let rest = terms_fit ns ts parts.sorts rules.1 parts.others each.1 in
      subst (λ (rs : List Sort). Fit rs (bits ns t ∷ bits_each ns ts)) (sym parts.all) (fit_more first.0 some first.1 rest)

-- as many as its sort, and one at least
pub bits_fit : (ns : Named) (t : Term) (s : Sort) → IsWellSorted t → sort_of t ≡ Some s → is_bits t ≡ true → (is_bits_sort (Some s) ≡ true) × (length (bits ns t) ≡ bits_in s) × (0 < length (bits ns t))
bits_fit ns t s well has vectors =
    let fine = (both_true (is_some (sort_of t)) (is_regular t) well).1 in
    let wide = term_width ns t s fine has vectors in
    let some = some-bits s (sort_is_sort t s fine has) wide.0 in
    let count = wide.1 in
    (wide.0, wide.1, omega (arith, some, count))
