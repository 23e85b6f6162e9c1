-- Formulas of bits, from their heads on.
use Rattle.std.proofs.Common.{◌≡◌, ◌&&◌, true, Option, Some, None, refl, ◌∙◌, subst}
use Rattle.smt_terms.specs.Rank.{sort_of}
use Rattle.smt_terms.specs.Sorts.{Sort, array}
use Rattle.smt_terms.specs.Term.{Head, const_array, apply, Terms}
use Rattle.smt_terms.proofs.Ranked.{rank-takes}
use Rattle.smt_terms.proofs.Sorted.{applied}
use Rattle.smt_terms.proofs.Tests.{both_true}
use Rattle.bit_blast.specs.Blasted.{is_bits_sort, is_bits_head, is_bits, are_bits}

some-sort : (o : Option Sort) → is_bits_sort o ≡ true → (s : Sort) × (o ≡ Some s) × (is_bits_sort (Some s) ≡ true)
some-sort None h = absurd cc
some-sort (Some s) h = (s, refl, h)

-- what it says that an applied head is a formula of bits
pub record OfBits (h : Head) (ts : Terms) : Type 0 where
  pub head : is_bits_head h ≡ true
  pub sort : Sort
  pub has : sort_of (apply h ts) ≡ Some sort
  pub fine : is_bits_sort (Some sort) ≡ true
  pub operands : are_bits ts ≡ true

pub of-bits : (h : Head) (ts : Terms) → is_bits (apply h ts) ≡ true → OfBits h ts
of-bits h ts e =
    let outer = both_true (is_bits_head h && is_bits_sort (sort_of (apply h ts))) (are_bits ts) e in
    let inner = both_true (is_bits_head h) (is_bits_sort (sort_of (apply h ts))) outer.0 in
    let found = some-sort (sort_of (apply h ts)) inner.1 in
    record { head = inner.0; sort = found.0; has = found.1; fine = found.2; operands = outer.1 }

-- constant arrays have other sorts
pub no-array : (s : Sort) (ts : Terms) → is_bits (apply (const_array s) ts) ≡ true → ⊥
no-array s ts e =
    let of = of-bits (const_array s) ts e in
    let a = applied (const_array s) ts of.sort of.has in
    let takes = rank-takes (const_array s) a.sorts of.sort a.rank in
    let wrong : is_bits_sort (Some (array takes.0 takes.1)) ≡ true = subst (λ r. is_bits_sort (Some r) ≡ true) (takes.4 ∙ takes.2) of.fine in
    absurd cc
