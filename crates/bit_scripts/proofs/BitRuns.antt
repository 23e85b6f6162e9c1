-- The bits of constants of bit vectors, those of one after those of another: what begins at each place.
use Rattle.std.proofs.Common.{◌≡◌, ◌∙◌, sym, refl, subst, ℕ, zero, suc, ◌+◌, ◌<◌, true, List, [], ◌∷◌, ◌++◌, drop, length, All, Some, arith}
use Rattle.std.specs.Prelude.{flat_map}
use Rattle.std.proofs.lemmas.List.Elements.{All-nil, All-cons, All-head, All-tail}
use Rattle.smt_terms.specs.declared.op.Op.TheVariants.{Equal, Extract}
use Rattle.smt_terms.specs.Constants.{bits_term}
use Rattle.smt_terms.specs.Rank.{sort_of, IsWellSorted}
use Rattle.smt_terms.specs.Sorts.{Sort, bool, int, bit_vector, array, free_sort, Symbol}
use Rattle.smt_terms.specs.Term.{op, symbol, Term, apply, none, ◌⨾◌, constant}
use Rattle.smt_terms.proofs.Keeping.{the_sort}
use Rattle.smt_terms.proofs.Ranked.{rank-takes}
use Rattle.smt_terms.proofs.Sorted.{applied, sorted}
use Rattle.smt_terms.proofs.Tests.{both_true}
use Rattle.bit_blast.specs.Blasted.{bit_of, bits_from, width_of, bits_of_constant, is_vector}

-- ---- one bit

pub record IsSameBit (f g : Symbol) (i j : ℕ) : Type 0 where
  pub constant : f ≡ g
  pub place : i ≡ j

pub same_bit : (f g : Symbol) (i j : ℕ) → bit_of f i ≡ bit_of g j → IsSameBit f g i j
same_bit f g i j e = record { constant = cc; place = cc }

-- a constant with a well-sorted bit has no arguments
part_sorted : (f : Symbol) (i : ℕ) (s : Sort) → sort_of (bit_of f i) ≡ Some s → (r : Sort) × (sort_of (constant f) ≡ Some r)
part_sorted f i s e =
    let sides = applied (op Equal) (apply (op (Extract i i)) (constant f ⨾ none) ⨾ bits_term 1 1 ⨾ none) s e in
    let part = sorted (apply (op (Extract i i)) (constant f ⨾ none)) (bits_term 1 1 ⨾ none) sides.sorts sides.operands in
    let inside = applied (op (Extract i i)) (constant f ⨾ none) part.sort part.first in
    let one = sorted (constant f) none inside.sorts inside.operands in
    (one.sort, one.first)

constant_sorted : (f : Symbol) (r : Sort) → sort_of (constant f) ≡ Some r → f.args ≡ []
constant_sorted f r e =
    let parts = applied (symbol f) none r e in
    let empty : parts.sorts ≡ [] = let same : Some [] ≡ Some parts.sorts = parts.operands in cc in
    sym (rank-takes (symbol f) parts.sorts r parts.rank).0 ∙ empty

pub no_arguments : (f : Symbol) (i : ℕ) → IsWellSorted (bit_of f i) → f.args ≡ []
no_arguments f i well =
    let s = the_sort (sort_of (bit_of f i)) (both_true _ _ well).0 in
    let part = part_sorted f i s.0 s.1 in
    constant_sorted f part.0 part.1

pub vector_sort : (f : Symbol) → is_vector f ≡ true → f.result ≡ bit_vector (width_of f.result)
vector_sort f e = go f.result e
  where
    go : (s : Sort) → is_vector (record { name = f.name; args = f.args; result = s }) ≡ true → s ≡ bit_vector (width_of s)
    go bool e = absurd cc
    go int e = absurd cc
    go (bit_vector w) e = refl
    go (free_sort n) e = absurd cc
    go (array i s) e = absurd cc

-- ---- constants that have bits among well-sorted terms

-- a constant that has bits has no arguments
abbrev pub HasNoArguments : Symbol → Type 0
HasNoArguments f = (w : ℕ) → width_of f.result ≡ suc w → f.args ≡ []

past_bits : (f : Symbol) (i n : ℕ) (ts : List Term) → All IsWellSorted (bits_from f i n ++ ts) → All IsWellSorted ts
past_bits f i zero ts all = all
past_bits f i (suc n) ts all = past_bits f (suc i) n ts (All-tail IsWellSorted (bit_of f i) (bits_from f (suc i) n ++ ts) all)

pub without_arguments : (fs : List Symbol) → All IsWellSorted (flat_map bits_of_constant fs) → All HasNoArguments fs
without_arguments [] all = All-nil HasNoArguments
without_arguments (f ∷ fs) all =
    All-cons HasNoArguments f fs
    (λ w e. no_arguments f 0 (All-head IsWellSorted (bit_of f 0) (bits_from f 1 w ++ flat_map bits_of_constant fs) (subst (λ n. All IsWellSorted (bits_from f 0 n ++ flat_map bits_of_constant fs)) e all)))
    (without_arguments fs (past_bits f 0 (width_of f.result) (flat_map bits_of_constant fs) all))

-- ---- what begins at a place

-- the bits of a constant from one on, and then all of other constants
pub record IsBitBehind (P : Symbol → Type 0) (ts : List Term) : Type 0 where
  pub constant : Symbol
  pub place : ℕ
  pub more : ℕ
  pub others : List Symbol
  pub width : place + suc more ≡ width_of constant.result
  pub is : ts ≡ bits_from constant place (suc more) ++ flat_map bits_of_constant others
  pub known : P constant
  pub known_others : All P others

module _ (P : Symbol → Type 0) where
  within_bits : (f : Symbol) (i n k : ℕ) (fs : List Symbol) → P f → All P fs → i + n ≡ width_of f.result → k < length (bits_from f i n ++ flat_map bits_of_constant fs)
      → ((j : ℕ) → j < length (flat_map bits_of_constant fs) → IsBitBehind P (drop j (flat_map bits_of_constant fs))) → IsBitBehind P (drop k (bits_from f i n ++ flat_map bits_of_constant fs))
  within_bits f i zero k fs known others width less behind = behind k less
  within_bits f i (suc n) zero fs known others width less behind = record { constant = f; place = i; more = n; others = fs; width = width; is = refl; known = known; known_others = others }
  within_bits f i (suc n) (suc k) fs known others width less behind = within_bits f (suc i) n k fs known others (omega (arith, width)) (omega (arith, less)) behind

  pub bits_behind : (fs : List Symbol) (k : ℕ) → All P fs → k < length (flat_map bits_of_constant fs) → IsBitBehind P (drop k (flat_map bits_of_constant fs))
  bits_behind [] k known less = absurd (omega arith)
  bits_behind (f ∷ fs) k known less =
      within_bits f 0 (width_of f.result) k fs (All-head P f fs known) (All-tail P f fs known) (omega arith) less
      (λ j lt. bits_behind fs j (All-tail P f fs known) lt)
