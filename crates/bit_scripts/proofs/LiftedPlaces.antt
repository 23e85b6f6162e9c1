-- What holds at each place of the new constants while bit vectors are lifted: whose bit stands there, and how great the number of
-- the bits behind it is.
use Rattle.std.proofs.Common.{◌≡◌, ◌∙◌, sym, ap, refl, subst, ℕ, zero, suc, ◌+◌, ◌*◌, ◌<◌, ◌≤◌, ◌^◌, Bool, true, false, inl, inr, List, [], ◌∷◌, ◌++◌, map, take, drop, length, get_or, slice_get, All, Some, option_map, arith}
use Rattle.std.specs.Prelude.{flat_map}
use Rattle.std.specs.Int.{from_bool}
use Rattle.std.specs.List.{list_any}
use Rattle.std.proofs.Math.Nat.{pow-suc, pow-le-pow_right}
use Rattle.std.proofs.lemmas.Bool.{leb-true}
use Rattle.std.proofs.lemmas.List.{length-map, length-take, drop-map}
use Rattle.std.proofs.lemmas.List.Elements.{All-nil, All-cons, All-head, All-tail}
use Rattle.std.proofs.lemmas.Option.{slice_get-map, slice_get_within}
use Rattle.smt_terms.specs.declared.ids.NodeId.{NodeId}
use Rattle.smt_terms.specs.declared.ids.SymId.{SymId}
use Rattle.smt_terms.specs.BitVectors.{bit_number, bv2nat}
use Rattle.smt_terms.specs.Equal.{symbol_eq}
use Rattle.smt_terms.specs.Free.{is_among}
use Rattle.smt_terms.specs.Groups.{Named}
use Rattle.smt_terms.specs.Models.{Model, symbol_value}
use Rattle.smt_terms.specs.Rank.{is_sort, most_bits, IsWellSorted}
use Rattle.smt_terms.specs.Sorts.{Sort, bool, int, bit_vector, array, free_sort, Symbol}
use Rattle.smt_terms.specs.Term.{Term}
use Rattle.smt_terms.specs.Values.{is_true}
use Rattle.smt_terms.proofs.BitLaws.{bv2nat-small}
use Rattle.smt_terms.proofs.Equal.{Decides-symbol_eq}
use Rattle.smt_terms.proofs.Tests.{both_true, either_true, left_true, right_true}
use Rattle.smt_values.specs.SortIds.{sort_at}
use Rattle.smt_values.proofs.SortIds.{sort_is}
use Rattle.term_table.specs.Formulas.{Formulas, tree, symbol_at, IsNode, IsSymbol, IsTable}
use Rattle.term_groups.specs.Grouping.{terms_of}
use Rattle.term_groups.specs.Seen.{named_at, ArePairs}
use Rattle.bit_blast.specs.Blasted.{bit_of, bits_from, width_of, bits_of_constant, is_vector}
use Rattle.bit_blast.specs.Carried.{lifted}
use Rattle.bit_scripts.specs.Bits.{AreBitsOf}
use Rattle.bit_scripts.specs.Lifting.{with_vector, HasBit, IsBitAt}
use Rattle.bit_scripts.specs.declared.lifting.Bit.{Bit}
use Rattle.bit_scripts.proofs.BitRuns.{same_bit, vector_sort, without_arguments, IsBitBehind, bits_behind}
use Rattle.bit_scripts.proofs.LiftedBits.{with_bit, lifting, IsOwn, IsLifted, one_more, run_lifted, all_lifted, bit_in}

-- ---- lists

drop_found : {A : Type 0} (xs : List A) (k : ℕ) (x : A) → slice_get xs k ≡ Some x → drop k xs ≡ x ∷ drop (suc k) xs
drop_found [] k x e = absurd cc
drop_found (y ∷ xs) zero x e = let same : y ≡ x = cc in ap (λ z. z ∷ xs) same
drop_found (y ∷ xs) (suc k) x e = drop_found xs k x e

among_any : (fs : List Symbol) (f : Symbol) → is_among fs f ≡ true → list_any (symbol_eq f) fs ≡ true
among_any [] f among = absurd cc
among_any (g ∷ fs) f among =
    elim (either_true (symbol_eq g f) (is_among fs f) among) [
      | inl here ↦ left_true (symbol_eq f g) (list_any (symbol_eq f) fs) ((Decides-symbol_eq f g).1 (sym ((Decides-symbol_eq g f).0 here)))
      | inr there ↦ right_true (symbol_eq f g) (list_any (symbol_eq f) fs) (among_any fs f there)
    ]

-- ---- numbers

pub told_bit : (b : Bool) → from_bool b ≡ bit_number b
told_bit true = refl
told_bit false = refl

bit_below : (b : Bool) → bit_number b < 2
bit_below true = omega arith
bit_below false = omega arith

below_more : (n q : ℕ) (b : Bool) → n < 2 ^ q → bit_number b + 2 * n < 2 ^ suc q
below_more n q b less =
    let power : 2 ^ suc q ≡ 2 ^ q * 2 = pow-suc 2 q in
    let bit : bit_number b < 2 = bit_below b in
    let all : bit_number b + 2 * n < 2 ^ q * 2 = omega arith in
    subst (λ k. bit_number b + 2 * n < k) (sym power) all

below_greater : (n i j : ℕ) → i ≤ j → n < 2 ^ i → n < 2 ^ j
below_greater n i j le less = let more : 2 ^ i ≤ 2 ^ j = pow-le-pow_right (omega arith) le in omega arith

narrow_width : (s : Sort) → is_sort s ≡ true → width_of s ≤ 128
narrow_width bool e = omega arith
narrow_width int e = omega arith
narrow_width (bit_vector w) e = leb-true w most_bits (both_true _ _ e).1
narrow_width (free_sort n) e = omega arith
narrow_width (array i s) e = omega arith

pub narrow : (t : Formulas) → IsTable t → (f : SymId) → IsSymbol t f → width_of (symbol_at t f).result ≤ 128
narrow t table f within =
    let over = (table.symbols f.0 within).result in
    subst (λ s. width_of s ≤ 128) (sym over.2) (narrow_width (sort_at t.sorts over.0) (sort_is t.sorts table.sorts over.0.0 over.1))

-- ---- the new constants

named_sorted : (t : Formulas) → IsTable t → (ps : List (SymId × NodeId)) → ArePairs t ps → All IsWellSorted (terms_of (named_at t ps))
named_sorted t table [] pairs = All-nil IsWellSorted
named_sorted t table (p ∷ ps) pairs =
    All-cons IsWellSorted (tree t p.1) (terms_of (named_at t ps)) (table.sorted p.1.0 (All-head (λ q. IsSymbol t q.0 × IsNode t q.1) p ps pairs).1)
    (named_sorted t table ps (All-tail (λ q. IsSymbol t q.0 × IsNode t q.1) p ps pairs))

module _ (t : Formulas) (table : IsTable t) (symbols : List Symbol) (ps : List (SymId × NodeId)) (pairs : ArePairs t ps) (bits : AreBitsOf symbols (named_at t ps)) (m : Model) where
  abbrev ns : Named
  ns = named_at t ps

  vectors_own : All (IsOwn symbols m) bits.vectors
  vectors_own k d lt = record {
    vector = vector_sort (get_or bits.vectors k d) (bits.bit_vectors k d lt);
    args = without_arguments bits.vectors (subst (All IsWellSorted) bits.terms (named_sorted t table ps pairs)) k d lt;
    among = among_any symbols (get_or bits.vectors k d) (bits.among k d lt);
  }

  pub lifted_at_last : (lifting symbols m ns).model ≡ lifted symbols ns m
  lifted_at_last = (all_lifted symbols m bits.vectors vectors_own ns bits.terms).model

  -- the bit at a place, of a declared constant of a bit vector
  module _ (k : ℕ) (p : SymId × NodeId) (found : slice_get ps k ≡ Some p) where
    abbrev behind : Named
    behind = drop (suc k) ns

    here : drop k ns ≡ (symbol_at t p.0, tree t p.1) ∷ behind
    here = drop_found ns k (symbol_at t p.0, tree t p.1) (slice_get-map (λ q. (symbol_at t q.0, tree t q.1)) ps k ∙ ap (option_map (λ q. (symbol_at t q.0, tree t q.1))) found)

    less : k < length (flat_map bits_of_constant bits.vectors)
    less =
        let inside = slice_get_within ps k p found in
        let count = sym (ap length bits.terms) ∙ length-map (named_at t ps) (λ n. n.1) ∙ length-map ps (λ q. (symbol_at t q.0, tree t q.1)) in
        omega (arith, inside, count)

    at_place : IsBitBehind (IsOwn symbols m) (drop k (flat_map bits_of_constant bits.vectors))
    at_place = bits_behind (IsOwn symbols m) bits.vectors k vectors_own less

    all : tree t p.1 ∷ terms_of behind ≡ bit_of at_place.constant at_place.place ∷ bits_from at_place.constant (suc at_place.place) at_place.more ++ flat_map bits_of_constant at_place.others
    all = sym (ap terms_of here) ∙ sym (drop-map (λ (n : Symbol × Term). n.1) k ns) ∙ ap (drop k) bits.terms ∙ at_place.is

    bit_is : tree t p.1 ≡ bit_of at_place.constant at_place.place
    bit_is = cc (all)

    pub the_bit : HasBit (tree t p.1)
    the_bit = record { constant = at_place.constant; place = at_place.place; is = bit_is }

    rest_lifted : IsLifted symbols m at_place.more behind
    rest_lifted =
        run_lifted symbols m at_place.constant at_place.place at_place.more at_place.others (all_lifted symbols m at_place.others at_place.known_others) behind (cc (all))

    abbrev number_behind : ℕ
    number_behind = (lifting symbols m behind).number

    small : number_behind < 2 ^ at_place.more
    small =
        let bs = map (bit_in symbols m) (take at_place.more behind) in
        let long : length bs ≤ at_place.more = omega (arith, length-map (take at_place.more behind) (bit_in symbols m), length-take at_place.more behind) in
        subst (λ n. n < 2 ^ at_place.more) (sym rest_lifted.number) (below_greater (bv2nat bs) (length bs) at_place.more long (bv2nat-small bs))

    module _ (b : Bit) (is : IsBitAt t p.1 b) (number : ℕ) (same : number ≡ number_behind) where
      abbrev constant : Symbol
      constant = symbol_at t b.constant

      abbrev bit : Bool
      bit = is_true (symbol_value m (symbol_at t p.0) [])

      constant_is : constant ≡ at_place.constant
      constant_is = (same_bit constant at_place.constant b.place at_place.place (sym is.term ∙ bit_is)).constant

      place_is : b.place ≡ at_place.place
      place_is = (same_bit constant at_place.constant b.place at_place.place (sym is.term ∙ bit_is)).place

      below : bit_number bit + 2 * number < 2 ^ suc at_place.more
      below = below_more number at_place.more bit (subst (λ n. n < 2 ^ at_place.more) (sym same) small)

      -- with this bit, the number fits
      pub fits : bit_number bit + 2 * number < 2 ^ 128
      fits =
          let wide = at_place.width in
          let few : width_of at_place.constant.result ≤ 128 = subst (λ (f : Symbol). width_of f.result ≤ 128) constant_is (narrow t table b.constant is.symbol) in
          below_greater (bit_number bit + 2 * number) (suc at_place.more) 128 (omega (arith, wide, few)) below

      pub vector_is : is_vector constant ≡ true
      vector_is = ap is_vector constant_is ∙ told at_place.constant.result at_place.known.vector
        where
          told : (s : Sort) → s ≡ bit_vector (width_of s) → is_vector (record { name = at_place.constant.name; args = at_place.constant.args; result = s }) ≡ true
          told bool e = absurd cc
          told int e = absurd cc
          told (bit_vector w) e = refl
          told (free_sort n) e = absurd cc
          told (array i s) e = absurd cc

      -- of a lowest bit, in the constant's width
      pub fits_width : b.place ≡ 0 → bit_number bit + 2 * number < 2 ^ width_of constant.result
      fits_width lowest =
          let wide = at_place.width in
          let first = place_is in
          let exact : suc at_place.more ≡ width_of at_place.constant.result = omega (arith, wide, first, lowest) in
          subst (λ (f : Symbol). bit_number bit + 2 * number < 2 ^ width_of f.result) (sym constant_is) (subst (λ w. bit_number bit + 2 * number < 2 ^ w) exact below)

      stepped : lifting symbols m (drop k ns) ≡ with_bit b.place constant (bit_number bit + 2 * number) (lifting symbols m behind).model
      stepped =
          ap (lifting symbols m) here ∙ one_more symbols m (symbol_at t p.0, tree t p.1) behind constant b.place is.term
          ∙ ap (λ n. with_bit b.place constant (bit_number bit + 2 * n) (lifting symbols m behind).model) (sym same)

      module _ (n : Model) (model : n ≡ (lifting symbols m behind).model) where
        pub complete : b.place ≡ 0 → lifting symbols m (drop k ns) ≡ record { model = with_vector constant (bit_number bit + 2 * number) n; number = 0 }
        complete lowest = stepped ∙ (λ i. with_bit (lowest i) constant (bit_number bit + 2 * number) (sym model i))

        pub continued : (b.place ≡ 0 → ⊥) → lifting symbols m (drop k ns) ≡ record { model = n; number = bit_number bit + 2 * number }
        continued later = stepped ∙ go b.place later ∙ (λ i. record { model = sym model i; number = bit_number bit + 2 * number })
          where
            go : (i : ℕ) → (i ≡ 0 → ⊥) → with_bit i constant (bit_number bit + 2 * number) (lifting symbols m behind).model ≡ record { model = (lifting symbols m behind).model; number = bit_number bit + 2 * number }
            go zero none = absurd (none refl)
            go (suc i) none = refl
