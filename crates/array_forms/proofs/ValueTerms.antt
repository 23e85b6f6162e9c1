-- The term of a value denotes it.
use Rattle.std.proofs.Common.{◌≡◌, ◌^◌, ◌<◌, ◌≤◌, Bool, true, false, cond, not, ◌&&◌, ◌||◌, inl, inr, nat_abs, ℤ, ℕ, List, [], ◌∷◌, length, Option, Some, None, refl, ap, sym, ◌∙◌, subst, arith}
use Rattle.std.specs.Prelude.{IfSome, is_some, nat_le}
use Rattle.std.proofs.lemmas.Bool.{ltb-true, leb-true}
use Rattle.std.proofs.lemmas.Bool.Decides.{Decides-eqb}
use Rattle.smt_terms.specs.declared.op.Op.TheVariants.{Truth, Whole, Bits, Store}
use Rattle.smt_terms.specs.Sorts.{Sort, bool, int, bit_vector, array, free_sort}
use Rattle.smt_terms.specs.Term.{op, const_array, Term, apply, none, ◌⨾◌}
use Rattle.smt_terms.specs.ArrayTerms as terms
use Rattle.smt_terms.specs.BitVectors.{bv2nat}
use Rattle.smt_terms.specs.Connectives.{truth_term}
use Rattle.smt_terms.specs.Constants.{whole_term, bits_term, constant_term}
use Rattle.smt_terms.specs.Free.{free, with_more}
use Rattle.smt_terms.specs.Models.{Model}
use Rattle.smt_terms.specs.Operators.{op_value}
use Rattle.smt_terms.specs.Rank.{shape, width, most_bits, sort_of, is_sort, is_array, is_minus_of, is_regular}
use Rattle.smt_terms.specs.Val.{Env, val, within_range}
use Rattle.smt_terms.specs.Values.{Value, truth, whole, bits, element, table, Pairs, no_pairs, pair, Sizes, put, is_key, distinct_keys, every_pair, same, is_value, default_of, pairs_of}
use Rattle.smt_terms.proofs.BitLaws.{nat2bv-bv2nat, bv2nat-small}
use Rattle.smt_terms.proofs.Operands.{more_sorts, narrow_sort, sort_over_more, regular_over_more, well_sorted, store_value}
use Rattle.smt_terms.proofs.Ranked.{takes-rank}
use Rattle.smt_terms.proofs.Same.{same_scalar, array_sorts, array_value}
use Rattle.smt_terms.proofs.Sorted.{sort_of-apply}
use Rattle.smt_terms.proofs.SortsOfTerms.{regular_over}
use Rattle.smt_terms.proofs.Tests.{both_true, and_true, both_false, or_false, not_true, true_or_false}
use Rattle.smt_values.specs.Tables.{with_pair}
use Rattle.array_forms.specs.ValueTerm.{stored, filled, stores, value_term}
use Rattle.array_forms.specs.ValueLaws.{holds_no_constant, pairs_hold_no_constant, Denotes, TermsDenoteValues}

-- a term that denotes a value, by its rules
pub record Stands (s : Sort) (v : Value) (t : Term) : Type 0 where
  pub has : sort_of t ≡ Some s
  pub rules : is_regular t ≡ true
  pub closed : free t ≡ []
  pub value : (m : Model) (e : Env) → val m t e ≡ v

-- ---- constants

truth_stands : (b : Bool) → Stands bool (truth b) (truth_term b)
unfolding shape is_minus_of op_value
truth_stands b =
    let narrow : width bool ≤ most_bits = omega arith in
    record {
      has = sort_of-apply (op (Truth b)) none [] bool refl (takes-rank (op (Truth b)) [] bool (refl, refl) narrow);
      rules = refl;
      closed = refl;
      value = λ m e. refl;
    }

whole_stands : (n : ℤ) → nat_abs n < 2 ^ 127 → Stands int (whole n) (whole_term n)
unfolding shape is_minus_of op_value
whole_stands n small =
    let narrow : width int ≤ most_bits = omega arith in
    record {
      has = sort_of-apply (op (Whole n)) none [] int refl (takes-rank (op (Whole n)) [] int (refl, small, refl) narrow);
      rules = refl;
      closed = refl;
      value = λ m e. refl;
    }

bits_stand : (bs : List Bool) → is_sort (bit_vector (length bs)) ≡ true → Stands (bit_vector (length bs)) (bits bs) (bits_term (length bs) (bv2nat bs))
unfolding shape is_minus_of op_value
bits_stand bs fine =
    let parts = both_true (nat_le 1 (length bs)) (nat_le (length bs) most_bits) fine in
    let some : 1 ≤ length bs = leb-true 1 (length bs) parts.0 in
    let narrow : width (bit_vector (length bs)) ≤ most_bits = leb-true (length bs) most_bits parts.1 in
    let more : 0 < length bs = omega arith in
    record {
      has = sort_of-apply (op (Bits (length bs) (bv2nat bs))) none [] (bit_vector (length bs)) refl (takes-rank (op (Bits (length bs) (bv2nat bs))) [] (bit_vector (length bs)) (refl, more, bv2nat-small bs, refl) narrow);
      rules = refl;
      closed = refl;
      value = λ m e. ap bits (nat2bv-bv2nat bs);
    }

-- the term that may be found, and when there is one
record Given (s : Sort) (v : Value) (o : Option Term) : Type 0 where
  stands : IfSome o (Stands s v)
  some : is_some o ≡ not (holds_no_constant v)

number_given : (n : ℤ) (b : Bool) → within_range n ≡ b → Given int (whole n) (cond b (Some (whole_term n)) None)
number_given n true small = record { stands = whole_stands n (ltb-true (nat_abs n) (2 ^ 127) small); some = sym (ap (λ b. not (not b)) small) }
number_given n false large = record { stands = tt; some = sym (ap (λ b. not (not b)) large) }

vector_given : (w : ℕ) (bs : List Bool) → length bs ≡ w → is_sort (bit_vector w) ≡ true → Given (bit_vector w) (bits bs) (constant_term (bits bs))
vector_given w bs e fine = record {
  stands = subst (λ u. Stands (bit_vector u) (bits bs) (bits_term (length bs) (bv2nat bs))) e (bits_stand bs (subst (λ u. is_sort (bit_vector u) ≡ true) (sym e) fine));
  some = refl;
}

-- ---- arrays

module _ (i e : Sort) (fine : is_sort (array i e) ≡ true) where
  parts : (is_array i ≡ false) × (is_sort i ≡ true) × (is_sort e ≡ true)
  parts = array_sorts i e fine

  filled_stands : (d : Value) (t : Term) → Stands e d t → Stands (array i e) (table d no_pairs) (apply (const_array (array i e)) (t ⨾ none))
  unfolding is_minus_of
  filled_stands d t g = record {
    has = sort_of-apply (const_array (array i e)) (t ⨾ none) (e ∷ []) (array i e) (more_sorts t none e [] g.has refl)
        (takes-rank (const_array (array i e)) (e ∷ []) (array i e) (i, e, refl, refl, refl) (narrow_sort (array i e) fine));
    rules = regular_over (const_array (array i e)) (t ⨾ none) (record { head = fine; no_minus = refl; operands = and_true (is_regular t) true g.rules refl });
    closed = ap (λ fs. with_more [] (with_more fs [])) g.closed;
    value = λ m v. ap (λ d. table d no_pairs) (g.value m v);
  }

  -- a new key goes last, whatever the sizes
  same_sizes : (j : Sort) → is_array j ≡ false → (b c : Sizes) (v w : Value) → same j b v w ≡ same j c v w
  same_sizes bool h b c v w = refl
  same_sizes int h b c v w = refl
  same_sizes (bit_vector u) h b c v w = refl
  same_sizes (free_sort n) h b c v w = refl
  same_sizes (array k f) h b c v w = absurd cc

  put_last : (alike : Value → Value → Bool) (k v : Value) (qs : Pairs) → is_key alike k qs ≡ false → put alike k v qs ≡ with_pair qs k v
  put_last alike k v no_pairs new = refl
  put_last alike k v (pair j u qs) new =
      let apart = both_false (alike j k) (is_key alike k qs) new in
      ap (λ b. cond b (pair j v qs) (pair j u (put alike k v qs))) apart.0 ∙ ap (pair j u) (put_last alike k v qs apart.1)

  module _ (sizes : Sizes) (d : Value) where
    abbrev alike : Value → Value → Bool
    alike = same i sizes

    put_somewhere : (m : Model) (k v : Value) (qs : Pairs) → is_key alike k qs ≡ false → put (same i m.sizes) k v qs ≡ with_pair qs k v
    put_somewhere m k v qs new = (λ x. put (λ a b. same_sizes i parts.0 m.sizes sizes a b x) k v qs) ∙ put_last alike k v qs new

    stored_stands : (qs : Pairs) (k v : Value) (a x y : Term) → is_key alike k qs ≡ false → Stands (array i e) (table d qs) a → Stands i k x → Stands e v y → Stands (array i e) (table d (with_pair qs k v)) (terms.stored a x y)
    unfolding shape
    stored_stands qs k v a x y new f g h = record {
      has = sort_over_more Store a x (y ⨾ none) (array i e ∷ i ∷ e ∷ []) (array i e)
          (more_sorts a (x ⨾ y ⨾ none) (array i e) (i ∷ e ∷ []) f.has (more_sorts x (y ⨾ none) i (e ∷ []) g.has (more_sorts y none e [] h.has refl)))
          (i, e, refl, refl) (narrow_sort (array i e) fine);
      rules = regular_over_more Store a x (y ⨾ none) (and_true (is_regular a) (is_regular x && (is_regular y && true)) f.rules (and_true (is_regular x) (is_regular y && true) g.rules (and_true (is_regular y) true h.rules refl)));
      closed = λ z. with_more [] (with_more (f.closed z) (with_more (g.closed z) (with_more (h.closed z) [])));
      value = λ m env.
          store_value m env a x y i e f.has g.has h.has
          ∙ (λ z. table (default_of (f.value m env z)) (put (same i m.sizes) (g.value m env z) (h.value m env z) (pairs_of (f.value m env z))))
          ∙ ap (table d) (put_somewhere m k v qs new);
    }

    stored_given : (qs : Pairs) (k v : Value) (a x y : Option Term) → is_key alike k qs ≡ false → IfSome a (Stands (array i e) (table d qs)) → IfSome x (Stands i k) → IfSome y (Stands e v) → IfSome (stored a x y) (Stands (array i e) (table d (with_pair qs k v)))
    stored_given qs k v (Some a) (Some x) (Some y) new f g h = stored_stands qs k v a x y new f g h
    stored_given qs k v (Some a) (Some x) None new f g h = tt
    stored_given qs k v (Some a) None y new f g h = tt
    stored_given qs k v None x y new f g h = tt

    -- the first pairs, and then the others
    abbrev joined : Pairs → Pairs → Pairs
    joined no_pairs ps = ps
    joined (pair k v qs) ps = pair k v (joined qs ps)

    joined_last : (qs : Pairs) (k v : Value) (ps : Pairs) → joined (with_pair qs k v) ps ≡ joined qs (pair k v ps)
    joined_last no_pairs k v ps = refl
    joined_last (pair j u qs) k v ps = ap (pair j u) (joined_last qs k v ps)

    -- no key of the others is one of the first
    abbrev are_new : Pairs → Pairs → Bool
    are_new qs ps = every_pair (λ j _. not (is_key alike j qs)) ps

    key_last : (qs : Pairs) (k v j : Value) → is_key alike j qs ≡ false → alike k j ≡ false → is_key alike j (with_pair qs k v) ≡ false
    key_last no_pairs k v j new apart = or_false (alike k j) false apart refl
    key_last (pair l u qs) k v j new apart =
        let here = both_false (alike l j) (is_key alike j qs) new in
        or_false (alike l j) (is_key alike j (with_pair qs k v)) here.0 (key_last qs k v j here.1 apart)

    turned : (k j : Value) → alike j k ≡ false → alike k j ≡ false
    turned k j apart = elim (true_or_false (alike k j)) [
      | inl here ↦ let back : alike j k ≡ true = (same_scalar i sizes parts.0).back k j here in absurd cc
      | inr other ↦ other
    ]

    still_new : (qs : Pairs) (k v : Value) (ps : Pairs) → are_new qs ps ≡ true → is_key alike k ps ≡ false → are_new (with_pair qs k v) ps ≡ true
    still_new qs k v no_pairs new apart = refl
    still_new qs k v (pair j u ps) new apart =
        let here = both_true (not (is_key alike j qs)) (are_new qs ps) new in
        let other = both_false (alike j k) (is_key alike k ps) apart in
        and_true (not (is_key alike j (with_pair qs k v))) (are_new (with_pair qs k v) ps)
        (ap not (key_last qs k v j (not_true (is_key alike j qs) here.0) (turned k j other.0)))
        (still_new qs k v ps here.1 other.1)

    module _ (key_term result_term : Value → Option Term) (keys : (k : Value) → is_value i sizes k ≡ true → Given i k (key_term k)) (results : (v : Value) → is_value e sizes v ≡ true → Given e v (result_term v)) where
      abbrev are_valid : Pairs → Bool
      are_valid ps = every_pair (λ k v. is_value i sizes k && is_value e sizes v) ps

      stores_stand : (ps qs : Pairs) (a : Option Term) → are_valid ps ≡ true → distinct_keys alike ps ≡ true → are_new qs ps ≡ true → IfSome a (Stands (array i e) (table d qs)) → IfSome (stores key_term result_term a ps) (Stands (array i e) (table d (joined qs ps)))
      stores_stand no_pairs qs a valid distinct new f = subst (λ rs. IfSome a (Stands (array i e) (table d rs))) (none_joined qs) f
        where
          none_joined : (qs : Pairs) → qs ≡ joined qs no_pairs
          none_joined no_pairs = refl
          none_joined (pair k v qs) = ap (pair k v) (none_joined qs)
      stores_stand (pair k v ps) qs a valid distinct new f =
          let all = both_true (is_value i sizes k && is_value e sizes v) (are_valid ps) valid in
          let both = both_true (is_value i sizes k) (is_value e sizes v) all.0 in
          let apart = both_true (not (is_key alike k ps)) (distinct_keys alike ps) distinct in
          let first = both_true (not (is_key alike k qs)) (are_new qs ps) new in
          let step : IfSome (stored a (key_term k) (result_term v)) (Stands (array i e) (table d (with_pair qs k v))) =
          stored_given qs k v a (key_term k) (result_term v) (not_true (is_key alike k qs) first.0) f (keys k both.0).stands (results v both.1).stands in
          subst (λ rs. IfSome (stores key_term result_term (stored a (key_term k) (result_term v)) ps) (Stands (array i e) (table d rs))) (joined_last qs k v ps)
          (stores_stand ps (with_pair qs k v) (stored a (key_term k) (result_term v)) all.1 apart.1 (still_new qs k v ps first.1 (not_true (is_key alike k ps) apart.0)) step)

      all_new : (ps : Pairs) → are_new no_pairs ps ≡ true
      all_new no_pairs = refl
      all_new (pair k v ps) = all_new ps

      some_stored : (a x y : Option Term) (b c : Bool) → is_some x ≡ not b → is_some y ≡ not c → is_some (stored a x y) ≡ is_some a && not (b || c)
      some_stored (Some a) (Some x) (Some y) false false f g = refl
      some_stored (Some a) (Some x) (Some y) true c f g = absurd cc
      some_stored (Some a) (Some x) (Some y) false true f g = absurd cc
      some_stored (Some a) (Some x) None false true f g = refl
      some_stored (Some a) (Some x) None true c f g = absurd cc
      some_stored (Some a) (Some x) None false false f g = absurd cc
      some_stored (Some a) None y true c f g = refl
      some_stored (Some a) None y false c f g = absurd cc
      some_stored None x y b c f g = refl

      and_none : (b c d : Bool) → (b && not c) && not d ≡ b && not (c || d)
      and_none true true d = refl
      and_none true false d = refl
      and_none false c d = refl

      some_stores : (ps : Pairs) (a : Option Term) → are_valid ps ≡ true → is_some (stores key_term result_term a ps) ≡ is_some a && not (pairs_hold_no_constant ps)
      some_stores no_pairs a valid = with_true (is_some a)
        where
          with_true : (b : Bool) → b ≡ b && true
          with_true true = refl
          with_true false = refl
      some_stores (pair k v ps) a valid =
          let all = both_true (is_value i sizes k && is_value e sizes v) (are_valid ps) valid in
          let both = both_true (is_value i sizes k) (is_value e sizes v) all.0 in
          some_stores ps (stored a (key_term k) (result_term v)) all.1
          ∙ ap (λ b. b && not (pairs_hold_no_constant ps)) (some_stored a (key_term k) (result_term v) (holds_no_constant k) (holds_no_constant v) (keys k both.0).some (results v both.1).some)
          ∙ and_none (is_some a) (holds_no_constant k || holds_no_constant v) (pairs_hold_no_constant ps)

      filled_given : (x : Option Term) → IfSome x (Stands e d) → IfSome (filled (array i e) x) (Stands (array i e) (table d no_pairs))
      filled_given (Some t) g = filled_stands d t g
      filled_given None g = tt

      some_filled : (x : Option Term) → is_some (filled (array i e) x) ≡ is_some x
      some_filled (Some t) = refl
      some_filled None = refl

      not_either : (b c : Bool) → not b && not c ≡ not (b || c)
      not_either true c = refl
      not_either false c = refl

      table_given : (ps : Pairs) → is_value (array i e) sizes (table d ps) ≡ true → Given (array i e) (table d ps) (stores key_term result_term (filled (array i e) (result_term d)) ps)
      table_given ps valid =
          let is = array_value i e sizes (table d ps) valid in
          let default = results d is.default in
          record {
            stands = stores_stand ps no_pairs (filled (array i e) (result_term d)) is.entries is.distinct (all_new ps) (filled_given (result_term d) default.stands);
            some =
                some_stores ps (filled (array i e) (result_term d)) is.entries
                ∙ ap (λ b. b && not (pairs_hold_no_constant ps)) (some_filled (result_term d) ∙ default.some)
                ∙ not_either (holds_no_constant d) (pairs_hold_no_constant ps);
          }

-- ---- any value

given : (s : Sort) (sizes : Sizes) (v : Value) → is_sort s ≡ true → is_value s sizes v ≡ true → Given s v (value_term s v)
given bool sizes (truth b) fine valid = record { stands = truth_stands b; some = refl }
given int sizes (whole n) fine valid = number_given n (within_range n) refl
given (bit_vector w) sizes (bits bs) fine valid = vector_given w bs ((Decides-eqb (length bs) w).0 valid) fine
given (free_sort n) sizes (element k) fine valid = record { stands = tt; some = refl }
given (array i e) sizes (table d ps) fine valid =
    table_given i e fine sizes d (value_term i) (value_term e) (λ k. given i sizes k (array_sorts i e fine).1) (λ v. given e sizes v (array_sorts i e fine).2) ps valid
given _ sizes _ fine valid = absurd cc

pub term_stands : (s : Sort) (sizes : Sizes) (v : Value) → is_sort s ≡ true → is_value s sizes v ≡ true → IfSome (value_term s v) (Stands s v)
term_stands s sizes v fine valid = (given s sizes v fine valid).stands

denotes : (s : Sort) (v : Value) (o : Option Term) → IfSome o (Stands s v) → IfSome o (Denotes s v)
denotes s v None g = tt
denotes s v (Some t) g = record { sorted = well_sorted t s g.has g.rules; sort = g.has; closed = g.closed; value = g.value }

pub terms_denote : TermsDenoteValues
terms_denote s sizes v fine valid =
    let found = given s sizes v fine valid in
    (denotes s v (value_term s v) found.stands, found.some)
