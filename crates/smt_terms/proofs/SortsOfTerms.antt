-- The sort of a well-sorted term is a sort: its widths are from 1 to 128, and no index sort in it is an array sort.
use Rattle.std.proofs.Common.{◌≡◌, ℕ, ◌+◌, ◌-◌, ◌<◌, ◌≤◌, Bool, true, not, ◌&&◌, nat_le, List, [], ◌∷◌, Some, refl, sym, subst, arith}
use Rattle.std.specs.List.{list_all}
use Rattle.std.proofs.lemmas.Bool.{leb-true}
use Rattle.smt_terms.specs.declared.op.Op.{Op}
use Rattle.smt_terms.specs.declared.op.Op.TheVariants.{Truth}
use Rattle.smt_terms.specs.Sorts.{Sort, bool, int, bit_vector, array}
use Rattle.smt_terms.specs.Term.{Head, op, symbol, const_array, Term, apply, quantified, Terms, none, ◌⨾◌}
use Rattle.smt_terms.specs.Rank.{Shape, fixed, several, equation, distinctness, choice, whole_number, bit_constant, concatenation, extraction, extension, rotation, bitwise, bitwise_pair, bits_comparison, selection, storing, filling, no_head, shape, shape_of, most_bits, width, sort_of, sorts_of, is_sort, has_sorts, is_minus_of, is_regular, are_regular}
use Rattle.smt_terms.specs.Takes.{Takes}
use Rattle.smt_terms.proofs.Tests.{both_true, and_true}
use Rattle.smt_terms.proofs.Ranked.{le_true, rank-takes, rank-narrow}
use Rattle.smt_terms.proofs.Same.{array_sorts}
use Rattle.smt_terms.proofs.Sorted.{applied, sorted, quantified_sort}

-- the sorts that a shape names itself
abbrev names_sorts : Shape → Bool
names_sorts (fixed args r) = is_sort r
names_sorts (several s) = is_sort s
names_sorts (bits_comparison r) = is_sort r
names_sorts (filling r) = is_sort r
names_sorts _ = true

op_names_sorts : (o : Op) → names_sorts (shape o) ≡ true
unfolding shape
op_names_sorts (Truth b) = refl
op_names_sorts _ = refl

head_names_sorts : (h : Head) → has_sorts h ≡ true → names_sorts (shape_of h) ≡ true
head_names_sorts (op o) fine = op_names_sorts o
head_names_sorts (symbol f) fine = (both_true (list_all is_sort f.args) (is_sort f.result) fine).1
head_names_sorts (const_array s) fine = fine

vector_sort : (w : ℕ) → 1 ≤ w → w ≤ most_bits → is_sort (bit_vector w) ≡ true
vector_sort w low high = and_true (nat_le 1 w) (nat_le w most_bits) (le_true 1 w low) (le_true w most_bits high)

some_bits : (w : ℕ) → is_sort (bit_vector w) ≡ true → 1 ≤ w
some_bits w fine = leb-true 1 w (both_true (nat_le 1 w) (nat_le w most_bits) fine).0

first_sort_of : (s : Sort) (ss : List Sort) → list_all is_sort (s ∷ ss) ≡ true → is_sort s ≡ true
first_sort_of s ss fine = (both_true (is_sort s) (list_all is_sort ss) fine).0

second_sort_of : (r s : Sort) (ss : List Sort) → list_all is_sort (r ∷ s ∷ ss) ≡ true → is_sort s ≡ true
second_sort_of r s ss fine = first_sort_of s ss (both_true (is_sort r) (list_all is_sort (s ∷ ss)) fine).1

at_sorts : (ss us : List Sort) → ss ≡ us → list_all is_sort ss ≡ true → list_all is_sort us ≡ true
at_sorts ss us e fine = subst (λ rs. list_all is_sort rs ≡ true) e fine

that_sort : (s r : Sort) → s ≡ r → is_sort r ≡ true → is_sort s ≡ true
that_sort s r e fine = subst (λ u. is_sort u ≡ true) (sym e) fine

width_below : (s : Sort) (w : ℕ) → s ≡ bit_vector w → width s ≤ most_bits → w ≤ most_bits
width_below s w e narrow = subst (λ u. width u ≤ most_bits) e narrow

result_sort : (sh : Shape) (ss : List Sort) (s : Sort) → names_sorts sh ≡ true → list_all is_sort ss ≡ true → width s ≤ most_bits → Takes sh ss s → is_sort s ≡ true
result_sort (fixed args r) ss s named fine narrow t = that_sort s r t.1 named
result_sort (several r) ss s named fine narrow t = that_sort s r t.2 named
result_sort equation ss s named fine narrow t = that_sort s bool t.2 refl
result_sort distinctness ss s named fine narrow t = that_sort s bool t.3 refl
result_sort choice ss s named fine narrow t = that_sort s t.0 t.2 (second_sort_of bool t.0 (t.0 ∷ []) (at_sorts ss (bool ∷ t.0 ∷ t.0 ∷ []) t.1 fine))
result_sort (whole_number n) ss s named fine narrow t = that_sort s int t.2 refl
result_sort (bit_constant w b) ss s named fine narrow t =
    let low : 0 < w = t.1 in
    that_sort s (bit_vector w) t.3 (vector_sort w (omega arith) (width_below s w t.3 narrow))
result_sort concatenation ss s named fine narrow t =
    let low : 1 ≤ t.0 = some_bits t.0 (first_sort_of (bit_vector t.0) (bit_vector t.1 ∷ []) (at_sorts ss (bit_vector t.0 ∷ bit_vector t.1 ∷ []) t.2 fine)) in
    that_sort s (bit_vector (t.0 + t.1)) t.3 (vector_sort (t.0 + t.1) (omega arith) (width_below s (t.0 + t.1) t.3 narrow))
result_sort (extraction high low) ss s named fine narrow t =
    that_sort s (bit_vector (high - low + 1)) t.4 (vector_sort (high - low + 1) (omega arith) (width_below s (high - low + 1) t.4 narrow))
result_sort (extension i) ss s named fine narrow t =
    let low : 1 ≤ t.0 = some_bits t.0 (first_sort_of (bit_vector t.0) [] (at_sorts ss (bit_vector t.0 ∷ []) t.1 fine)) in
    that_sort s (bit_vector (t.0 + i)) t.2 (vector_sort (t.0 + i) (omega arith) (width_below s (t.0 + i) t.2 narrow))
result_sort (rotation i) ss s named fine narrow t = that_sort s (bit_vector t.0) t.3 (first_sort_of (bit_vector t.0) [] (at_sorts ss (bit_vector t.0 ∷ []) t.1 fine))
result_sort bitwise ss s named fine narrow t = that_sort s (bit_vector t.0) t.2 (first_sort_of (bit_vector t.0) [] (at_sorts ss (bit_vector t.0 ∷ []) t.1 fine))
result_sort bitwise_pair ss s named fine narrow t = that_sort s (bit_vector t.0) t.2 (first_sort_of (bit_vector t.0) (bit_vector t.0 ∷ []) (at_sorts ss (bit_vector t.0 ∷ bit_vector t.0 ∷ []) t.1 fine))
result_sort (bits_comparison r) ss s named fine narrow t = that_sort s r t.2 named
result_sort selection ss s named fine narrow t = (array_sorts t.0 s (first_sort_of (array t.0 s) (t.0 ∷ []) (at_sorts ss (array t.0 s ∷ t.0 ∷ []) t.1 fine))).2
result_sort storing ss s named fine narrow t = that_sort s (array t.0 t.1) t.3 (first_sort_of (array t.0 t.1) (t.0 ∷ t.1 ∷ []) (at_sorts ss (array t.0 t.1 ∷ t.0 ∷ t.1 ∷ []) t.2 fine))
result_sort (filling r) ss s named fine narrow t = that_sort s r t.4 named
result_sort no_head ss s named fine narrow t = absurd t

-- what it says that an applied head is regular
pub record IsRegular (h : Head) (ts : Terms) : Type 0 where
  pub head : has_sorts h ≡ true
  pub no_minus : not (is_minus_of h ts) ≡ true
  pub operands : are_regular ts ≡ true

pub regular : (h : Head) (ts : Terms) → is_regular (apply h ts) ≡ true → IsRegular h ts
regular h ts fine =
    let parts = both_true (has_sorts h) (not (is_minus_of h ts) && are_regular ts) fine in
    let rest = both_true (not (is_minus_of h ts)) (are_regular ts) parts.1 in
    record { head = parts.0; no_minus = rest.0; operands = rest.1 }

pub regular_over : (h : Head) (ts : Terms) → IsRegular h ts → is_regular (apply h ts) ≡ true
regular_over h ts r = and_true (has_sorts h) (not (is_minus_of h ts) && are_regular ts) r.head (and_true (not (is_minus_of h ts)) (are_regular ts) r.no_minus r.operands)

mutual
  pub sort_is_sort : (t : Term) (s : Sort) → is_regular t ≡ true → sort_of t ≡ Some s → is_sort s ≡ true
  sort_is_sort (apply h ts) s fine has =
      let parts = applied h ts s has in
      let rules = regular h ts fine in
      result_sort (shape_of h) parts.sorts s (head_names_sorts h rules.head) (sorts_are_sorts ts parts.sorts rules.operands parts.operands) (rank-narrow h parts.sorts s parts.rank) (rank-takes h parts.sorts s parts.rank)
  sort_is_sort (quantified q xs t) s fine has = that_sort s bool (quantified_sort q xs t s has).sort refl

  pub sorts_are_sorts : (ts : Terms) (ss : List Sort) → are_regular ts ≡ true → sorts_of ts ≡ Some ss → list_all is_sort ss ≡ true
  sorts_are_sorts none ss fine has = let empty : [] ≡ ss = cc in subst (λ us. list_all is_sort us ≡ true) empty refl
  sorts_are_sorts (t ⨾ ts) ss fine has =
      let parts = sorted t ts ss has in
      let rules = both_true (is_regular t) (are_regular ts) fine in
      subst (λ us. list_all is_sort us ≡ true) (sym parts.all)
      (and_true (is_sort parts.sort) (list_all is_sort parts.sorts) (sort_is_sort t parts.sort rules.0 parts.first) (sorts_are_sorts ts parts.sorts rules.1 parts.others))
