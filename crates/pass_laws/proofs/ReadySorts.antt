-- The sort of a term is live where all sorts of its heads and of its variables are.
use Rattle.std.proofs.Common.{◌≡◌, ◌∙◌, sym, ap, refl, subst, Bool, true, ◌&&◌, List, [], ◌∷◌, ◌+◌, ◌-◌, Some}
use Rattle.std.specs.List.{list_all}
use Rattle.smt_terms.specs.declared.op.Op.{Op}
use Rattle.smt_terms.specs.declared.op.Op.TheVariants.{Truth}
use Rattle.smt_terms.specs.Rank.{Shape, fixed, several, equation, distinctness, choice, whole_number, bit_constant, concatenation, extraction, extension, rotation, bitwise, bitwise_pair, bits_comparison, selection, storing, filling, no_head, shape, shape_of, sort_of, sorts_of}
use Rattle.smt_terms.specs.Sorts.{Name, Sort, bool, int, bit_vector, array, Variable}
use Rattle.smt_terms.specs.Takes.{Takes}
use Rattle.smt_terms.specs.Term.{Head, op, symbol, const_array, Term, apply, quantified, Terms, none, ◌⨾◌}
use Rattle.smt_terms.proofs.Ranked.{rank-takes}
use Rattle.smt_terms.proofs.Sorted.{applied, sorted, quantified_sort}
use Rattle.smt_terms.proofs.Tests.{both_true, and_true}
use Rattle.term_groups.specs.Every.{every, every_of}
use Rattle.script_read.specs.Printable.{sort_is_live, head_sorts, all_within, all_within_each}

-- ---- the tests of all sorts and names, as tests of heads and variables

abbrev pub heads_within : (Sort → Bool) → Head → Bool
heads_within sorts h = list_all sorts (head_sorts h)

abbrev pub binders_within : (Sort → Bool) → (Name → Bool) → List Variable → Bool
binders_within sorts names xs = list_all (λ x. sorts x.sort && names x.name) xs

module _ (sorts : Sort → Bool) (names : Name → Bool) where
  mutual
    pub every_within : (t : Term) → every (heads_within sorts) (binders_within sorts names) t ≡ all_within sorts names t
    every_within (apply h ts) = ap (λ b. heads_within sorts h && b) (every_of_within ts)
    every_within (quantified q xs t) = ap (λ b. binders_within sorts names xs && b) (every_within t)

    every_of_within : (ts : Terms) → every_of (heads_within sorts) (binders_within sorts names) ts ≡ all_within_each sorts names ts
    every_of_within none = refl
    every_of_within (t ⨾ ts) = λ i. every_within t i && every_of_within ts i

-- ---- live sorts

module _ (ds : List Name) where
  abbrev live : Sort → Bool
  live s = sort_is_live ds s

  -- the sorts that a shape names itself
  abbrev names_live : Shape → Bool
  names_live (fixed args r) = live r
  names_live (several s) = live s
  names_live (bits_comparison r) = live r
  names_live (filling r) = live r
  names_live _ = true

  op_names_live : (o : Op) → names_live (shape o) ≡ true
  unfolding shape
  op_names_live (Truth b) = refl
  op_names_live _ = refl

  head_names_live : (h : Head) → list_all live (head_sorts h) ≡ true → names_live (shape_of h) ≡ true
  head_names_live (op o) all = op_names_live o
  head_names_live (symbol f) all = (both_true (live f.result) (list_all live f.args) all).0
  head_names_live (const_array s) all = (both_true (live s) true all).0

  that_live : (s r : Sort) → s ≡ r → live r ≡ true → live s ≡ true
  that_live s r e all = ap live e ∙ all

  at_live : (ss us : List Sort) → ss ≡ us → list_all live ss ≡ true → list_all live us ≡ true
  at_live ss us e all = ap (list_all live) (sym e) ∙ all

  first_live : (s : Sort) (ss : List Sort) → list_all live (s ∷ ss) ≡ true → live s ≡ true
  first_live s ss all = (both_true (live s) (list_all live ss) all).0

  second_live : (r s : Sort) (ss : List Sort) → list_all live (r ∷ s ∷ ss) ≡ true → live s ≡ true
  second_live r s ss all = first_live s ss (both_true (live r) (list_all live (s ∷ ss)) all).1

  result_live : (sh : Shape) (ss : List Sort) (s : Sort) → names_live sh ≡ true → list_all live ss ≡ true → Takes sh ss s → live s ≡ true
  result_live (fixed args r) ss s named all t = that_live s r t.1 named
  result_live (several r) ss s named all t = that_live s r t.2 named
  result_live equation ss s named all t = that_live s bool t.2 refl
  result_live distinctness ss s named all t = that_live s bool t.3 refl
  result_live choice ss s named all t = that_live s t.0 t.2 (second_live bool t.0 (t.0 ∷ []) (at_live ss (bool ∷ t.0 ∷ t.0 ∷ []) t.1 all))
  result_live (whole_number n) ss s named all t = that_live s int t.2 refl
  result_live (bit_constant w b) ss s named all t = that_live s (bit_vector w) t.3 refl
  result_live concatenation ss s named all t = that_live s (bit_vector (t.0 + t.1)) t.3 refl
  result_live (extraction high low) ss s named all t = that_live s (bit_vector (high - low + 1)) t.4 refl
  result_live (extension i) ss s named all t = that_live s (bit_vector (t.0 + i)) t.2 refl
  result_live (rotation i) ss s named all t = that_live s (bit_vector t.0) t.3 refl
  result_live bitwise ss s named all t = that_live s (bit_vector t.0) t.2 refl
  result_live bitwise_pair ss s named all t = that_live s (bit_vector t.0) t.2 refl
  result_live (bits_comparison r) ss s named all t = that_live s r t.2 named
  result_live selection ss s named all t = (both_true (live t.0) (live s) (first_live (array t.0 s) (t.0 ∷ []) (at_live ss (array t.0 s ∷ t.0 ∷ []) t.1 all))).1
  result_live storing ss s named all t = that_live s (array t.0 t.1) t.3 (first_live (array t.0 t.1) (t.0 ∷ t.1 ∷ []) (at_live ss (array t.0 t.1 ∷ t.0 ∷ t.1 ∷ []) t.2 all))
  result_live (filling r) ss s named all t = that_live s r t.4 named
  result_live no_head ss s named all t = absurd t

  module _ (names : Name → Bool) where
    mutual
      pub sort_of_live : (t : Term) (s : Sort) → all_within live names t ≡ true → sort_of t ≡ Some s → live s ≡ true
      sort_of_live (apply h ts) s all has =
          let parts = applied h ts s has in
          let both = both_true (list_all live (head_sorts h)) (all_within_each live names ts) all in
          result_live (shape_of h) parts.sorts s (head_names_live h both.0) (sorts_of_live ts parts.sorts both.1 parts.operands) (rank-takes h parts.sorts s parts.rank)
      sort_of_live (quantified q xs t) s all has = that_live s bool (quantified_sort q xs t s has).sort refl

      sorts_of_live : (ts : Terms) (ss : List Sort) → all_within_each live names ts ≡ true → sorts_of ts ≡ Some ss → list_all live ss ≡ true
      sorts_of_live none ss all has = let empty : [] ≡ ss = cc in subst (λ us. list_all live us ≡ true) empty refl
      sorts_of_live (t ⨾ ts) ss all has =
          let parts = sorted t ts ss has in
          let both = both_true (all_within live names t) (all_within_each live names ts) all in
          ap (list_all live) parts.all ∙ and_true (live parts.sort) (list_all live parts.sorts) (sort_of_live t parts.sort both.0 parts.first) (sorts_of_live ts parts.sorts both.1 parts.others)
