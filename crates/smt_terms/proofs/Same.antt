-- `same` is an equivalence on the values of a sort, and the same arrays have the same values at each key.
use Rattle.std.proofs.Common.{◌≡◌, Bool, true, false, not, ◌&&◌, ◌||◌, ◌==◌, ◌⊎◌, inl, inr, [], ◌∷◌, refl, ap, sym, ◌∙◌, subst}
use Rattle.std.specs.Bool.{Decides, beq}
use Rattle.std.specs.Cmp.{booleans_Decides}
use Rattle.std.specs.Ordering.{int_eq}
use Rattle.std.proofs.lemmas.Bool.Decides.{Decides-eqb, Decides-int_eq}
use Rattle.smt_terms.specs.Sorts.{Sort, bool, int, bit_vector, array, free_sort}
use Rattle.smt_terms.specs.Term.{universal}
use Rattle.smt_terms.specs.BitVectors.{BitVector, bits_eq}
use Rattle.smt_terms.specs.Rank.{is_array, is_sort}
use Rattle.smt_terms.specs.Values.{Value, Pairs, Sizes, is_true, number, bits_of, element_of, pairs_of, default_of, table, is_key, value_at, every_pair, distinct_keys, cover, agree, same, select, is_value, over_values}
use Rattle.smt_terms.proofs.Tests.{IsEquivalent, by_reading, both_true, and_true, either_true, left_true, right_true, both_false, not_true, true_or_false}
use Rattle.smt_terms.proofs.OverValues.{over_all, over_some, over_finite, is_finite}
use Rattle.smt_terms.proofs.Lookups.{value_at-like, every_key, value_at-absent, every_pair-from, every_pair-always, value_at-passes}

bits_same : (s t : BitVector) → bits_eq s t ≡ true → s ≡ t
bits_same [] [] h = refl
bits_same [] (b ∷ t) h = absurd cc
bits_same (a ∷ s) [] h = absurd cc
bits_same (a ∷ s) (b ∷ t) h =
    let parts = both_true (beq a b) (bits_eq s t) h in
    let first : a ≡ b = (booleans_Decides a b).0 parts.0 in
    let rest : s ≡ t = bits_same s t parts.1 in
    cc

bits_itself : (s : BitVector) → bits_eq s s ≡ true
bits_itself [] = refl
bits_itself (a ∷ s) = and_true (beq a a) (bits_eq s s) ((booleans_Decides a a).1 refl) (bits_itself s)

pub Decides-bits_eq : (s t : BitVector) → Decides (bits_eq s t) (s ≡ t)
Decides-bits_eq s t = (bits_same s t, λ e. subst (λ u. bits_eq s u ≡ true) e (bits_itself s))

-- at a sort other than an array's, `same` is equality of what the values read as
pub same_scalar : (s : Sort) (sizes : Sizes) → is_array s ≡ false → IsEquivalent (same s sizes)
same_scalar bool sizes h = by_reading is_true beq booleans_Decides
same_scalar int sizes h = by_reading number int_eq Decides-int_eq
same_scalar (bit_vector w) sizes h = by_reading bits_of bits_eq Decides-bits_eq
same_scalar (free_sort s) sizes h = by_reading element_of ◌==◌ Decides-eqb
same_scalar (array i e) sizes h = absurd cc

-- ---- arrays: agreement at the keys of some pairs

agree-itself : (alike equal : Value → Value → Bool) → ((v : Value) → equal v v ≡ true) → (ps : Pairs) (a : Value) → agree alike equal ps a a ≡ true
agree-itself alike equal itself ps a =
    every_pair-always (λ k _. equal (value_at alike k (pairs_of a) (default_of a)) (value_at alike k (pairs_of a) (default_of a))) ps
    (λ k v. itself (value_at alike k (pairs_of a) (default_of a)))

agree-back : (alike equal : Value → Value → Bool) → ((v w : Value) → equal v w ≡ true → equal w v ≡ true) → (ps : Pairs) (a b : Value) → agree alike equal ps a b ≡ true → agree alike equal ps b a ≡ true
agree-back alike equal back ps a b h =
    every_pair-from
    (λ k _. equal (value_at alike k (pairs_of a) (default_of a)) (value_at alike k (pairs_of b) (default_of b)))
    (λ k _. equal (value_at alike k (pairs_of b) (default_of b)) (value_at alike k (pairs_of a) (default_of a)))
    ps (λ k v. back (value_at alike k (pairs_of a) (default_of a)) (value_at alike k (pairs_of b) (default_of b))) h

or_turned : (a b : Bool) → (a || b) ≡ (b || a)
or_turned true true = refl
or_turned true false = refl
or_turned false true = refl
or_turned false false = refl

cover-back : (i : Sort) (sizes : Sizes) (alike : Value → Value → Bool) (ps qs : Pairs) → cover i sizes alike ps qs ≡ cover i sizes alike qs ps
cover-back i sizes alike ps qs =
    ap (over_values universal i sizes) (λ j k. or_turned (is_key alike k ps) (is_key alike k qs) j)

pub array_sorts : (i e : Sort) → is_sort (array i e) ≡ true → (is_array i ≡ false) × (is_sort i ≡ true) × (is_sort e ≡ true)
array_sorts i e h =
    let all = both_true (not (is_array i)) (is_sort i && is_sort e) h in
    let rest = both_true (is_sort i) (is_sort e) all.1 in
    (not_true (is_array i) all.0, rest.0, rest.1)

-- what `same` says of two arrays, and what it takes
pub record Agrees (i e : Sort) (sizes : Sizes) (a b : Value) : Type 0 where
  pub first : agree (same i sizes) (same e sizes) (pairs_of a) a b ≡ true
  pub second : agree (same i sizes) (same e sizes) (pairs_of b) a b ≡ true
  pub elsewhere : (cover i sizes (same i sizes) (pairs_of a) (pairs_of b) ≡ true) ⊎ (same e sizes (default_of a) (default_of b) ≡ true)

pub agrees : (i e : Sort) (sizes : Sizes) (a b : Value) → same (array i e) sizes a b ≡ true → Agrees i e sizes a b
agrees i e sizes a b h =
    let all = both_true (agree (same i sizes) (same e sizes) (pairs_of a) a b && agree (same i sizes) (same e sizes) (pairs_of b) a b)
    (cover i sizes (same i sizes) (pairs_of a) (pairs_of b) || same e sizes (default_of a) (default_of b)) h in
    let keys = both_true (agree (same i sizes) (same e sizes) (pairs_of a) a b) (agree (same i sizes) (same e sizes) (pairs_of b) a b) all.0 in
    record {
      first = keys.0;
      second = keys.1;
      elsewhere = either_true (cover i sizes (same i sizes) (pairs_of a) (pairs_of b)) (same e sizes (default_of a) (default_of b)) all.1;
    }

pub agreed : (i e : Sort) (sizes : Sizes) (a b : Value) → Agrees i e sizes a b → same (array i e) sizes a b ≡ true
agreed i e sizes a b h =
    and_true (agree (same i sizes) (same e sizes) (pairs_of a) a b && agree (same i sizes) (same e sizes) (pairs_of b) a b)
    (cover i sizes (same i sizes) (pairs_of a) (pairs_of b) || same e sizes (default_of a) (default_of b))
    (and_true (agree (same i sizes) (same e sizes) (pairs_of a) a b) (agree (same i sizes) (same e sizes) (pairs_of b) a b) h.first h.second)
    (elim h.elsewhere [
      | inl covered ↦ left_true (cover i sizes (same i sizes) (pairs_of a) (pairs_of b)) (same e sizes (default_of a) (default_of b)) covered
      | inr default ↦ right_true (cover i sizes (same i sizes) (pairs_of a) (pairs_of b)) (same e sizes (default_of a) (default_of b)) default
    ])

-- ---- the laws

pub same-itself : (s : Sort) (sizes : Sizes) (a : Value) → same s sizes a a ≡ true
same-itself bool sizes a = (same_scalar bool sizes refl).itself a
same-itself int sizes a = (same_scalar int sizes refl).itself a
same-itself (bit_vector w) sizes a = (same_scalar (bit_vector w) sizes refl).itself a
same-itself (free_sort s) sizes a = (same_scalar (free_sort s) sizes refl).itself a
same-itself (array i e) sizes a = agreed i e sizes a a (record {
  first = agree-itself (same i sizes) (same e sizes) (same-itself e sizes) (pairs_of a) a;
  second = agree-itself (same i sizes) (same e sizes) (same-itself e sizes) (pairs_of a) a;
  elsewhere = inr (same-itself e sizes (default_of a));
})

pub same-back : (s : Sort) (sizes : Sizes) (a b : Value) → same s sizes a b ≡ true → same s sizes b a ≡ true
same-back bool sizes a b h = (same_scalar bool sizes refl).back a b h
same-back int sizes a b h = (same_scalar int sizes refl).back a b h
same-back (bit_vector w) sizes a b h = (same_scalar (bit_vector w) sizes refl).back a b h
same-back (free_sort s) sizes a b h = (same_scalar (free_sort s) sizes refl).back a b h
same-back (array i e) sizes a b h =
    let given = agrees i e sizes a b h in
    agreed i e sizes b a (record {
      first = agree-back (same i sizes) (same e sizes) (same-back e sizes) (pairs_of b) a b given.second;
      second = agree-back (same i sizes) (same e sizes) (same-back e sizes) (pairs_of a) a b given.first;
      elsewhere = elim given.elsewhere [
        | inl covered ↦ inl (sym (cover-back i sizes (same i sizes) (pairs_of a) (pairs_of b)) ∙ covered)
        | inr default ↦ inr (same-back e sizes (default_of a) (default_of b) default)
      ];
    })

-- the values of an array
pub record IsArrayValue (i e : Sort) (sizes : Sizes) (a : Value) : Type 0 where
  pub default : is_value e sizes (default_of a) ≡ true
  pub entries : every_pair (λ k v. is_value i sizes k && is_value e sizes v) (pairs_of a) ≡ true
  pub distinct : distinct_keys (same i sizes) (pairs_of a) ≡ true

pub array_value : (i e : Sort) (sizes : Sizes) (a : Value) → is_value (array i e) sizes a ≡ true → IsArrayValue i e sizes a
array_value i e sizes (table d ps) h =
    let all = both_true (is_value e sizes d) (every_pair (λ k v. is_value i sizes k && is_value e sizes v) ps && distinct_keys (same i sizes) ps) h in
    let rest = both_true (every_pair (λ k v. is_value i sizes k && is_value e sizes v) ps) (distinct_keys (same i sizes) ps) all.1 in
    record { default = all.0; entries = rest.0; distinct = rest.1 }
array_value i e sizes _ h = absurd cc

-- what an array has at a key is a value of the element sort
pub is_value-select : (i e : Sort) (sizes : Sizes) (a k : Value) → is_value (array i e) sizes a ≡ true → is_value e sizes (select i sizes a k) ≡ true
is_value-select i e sizes a k h =
    let parts = array_value i e sizes a h in
    value_at-passes (same i sizes) (λ k v. is_value i sizes k && is_value e sizes v) (is_value e sizes) k (pairs_of a) (default_of a)
    (λ j v t. (both_true (is_value i sizes j) (is_value e sizes v) t).1) parts.entries parts.default

-- the same keys have the same value
pub select-like : (i : Sort) (sizes : Sizes) (a j k : Value) → is_array i ≡ false → same i sizes j k ≡ true → select i sizes a j ≡ select i sizes a k
select-like i sizes a j k scalar h = value_at-like (same i sizes) (same_scalar i sizes scalar) j k (pairs_of a) (default_of a) h

uncovered : (i : Sort) (sizes : Sizes) (alike : Value → Value → Bool) (ps qs : Pairs) (k : Value) → is_value i sizes k ≡ true → is_key alike k ps ≡ false → is_key alike k qs ≡ false → cover i sizes alike ps qs ≡ true → ⊥
uncovered i sizes alike ps qs k valid absent nowhere covered =
    let there : (is_key alike k ps || is_key alike k qs) ≡ true = over_all i sizes (λ k. is_key alike k ps || is_key alike k qs) k covered valid in
    cc

-- at a key that neither has, the arrays have their defaults
same_absent : (i e : Sort) (sizes : Sizes) (a b k : Value) → is_key (same i sizes) k (pairs_of a) ≡ false → is_key (same i sizes) k (pairs_of b) ≡ false → same e sizes (default_of a) (default_of b) ≡ true → same e sizes (select i sizes a k) (select i sizes b k) ≡ true
same_absent i e sizes a b k absent nowhere default =
    let left : select i sizes a k ≡ default_of a = value_at-absent (same i sizes) k (pairs_of a) (default_of a) absent in
    let right : select i sizes b k ≡ default_of b = value_at-absent (same i sizes) k (pairs_of b) (default_of b) nowhere in
    (λ x. same e sizes (left x) (right x)) ∙ default

-- and if they are the same there, so are the defaults
default_absent : (i e : Sort) (sizes : Sizes) (a b k : Value) → is_key (same i sizes) k (pairs_of a) ≡ false → is_key (same i sizes) k (pairs_of b) ≡ false → same e sizes (select i sizes a k) (select i sizes b k) ≡ true → same e sizes (default_of a) (default_of b) ≡ true
default_absent i e sizes a b k absent nowhere h =
    let left : select i sizes a k ≡ default_of a = value_at-absent (same i sizes) k (pairs_of a) (default_of a) absent in
    let right : select i sizes b k ≡ default_of b = value_at-absent (same i sizes) k (pairs_of b) (default_of b) nowhere in
    sym (λ x. same e sizes (left x) (right x)) ∙ h

-- the same arrays have the same value at each key
pub same-select : (i e : Sort) (sizes : Sizes) (a b k : Value) → is_array i ≡ false → is_value i sizes k ≡ true → same (array i e) sizes a b ≡ true → same e sizes (select i sizes a k) (select i sizes b k) ≡ true
same-select i e sizes a b k scalar valid h =
    let given = agrees i e sizes a b h in
    let test = λ (j : Value). same e sizes (select i sizes a j) (select i sizes b j) in
    let respects = λ (j : Value) (like : same i sizes j k ≡ true). agree_like j like in
    elim (true_or_false (is_key (same i sizes) k (pairs_of a))) [
      | inl here ↦ every_key (same i sizes) law test k (pairs_of a) respects given.first here
      | inr absent ↦ elim (true_or_false (is_key (same i sizes) k (pairs_of b))) [
        | inl there ↦ every_key (same i sizes) law test k (pairs_of b) respects given.second there
        | inr nowhere ↦ elim given.elsewhere [
          | inl covered ↦ absurd (uncovered i sizes (same i sizes) (pairs_of a) (pairs_of b) k valid absent nowhere covered)
          | inr default ↦ same_absent i e sizes a b k absent nowhere default
        ]
      ]
    ]
  where
    law : IsEquivalent (same i sizes)
    law = same_scalar i sizes scalar

    agree_like : (j : Value) → same i sizes j k ≡ true → same e sizes (select i sizes a j) (select i sizes b j) ≡ same e sizes (select i sizes a k) (select i sizes b k)
    agree_like j like = λ x. same e sizes (select-like i sizes a j k scalar like x) (select-like i sizes b j k scalar like x)

-- ---- three arrays

-- the arrays agree at each key of the index sort
abbrev pub AgreeAt : Sort → Sort → Sizes → Value → Value → Type 0
AgreeAt i e sizes a c = (k : Value) → is_value i sizes k ≡ true → same e sizes (select i sizes a k) (select i sizes c k) ≡ true

agree_at : (i e : Sort) (sizes : Sizes) (a b c : Value) → IsArrayValue i e sizes b → AgreeAt i e sizes a c → agree (same i sizes) (same e sizes) (pairs_of b) a c ≡ true
agree_at i e sizes a b c valid at =
    every_pair-from (λ k v. is_value i sizes k && is_value e sizes v) (λ k _. same e sizes (select i sizes a k) (select i sizes c k)) (pairs_of b)
    (λ k v t. at k (both_true (is_value i sizes k) (is_value e sizes v) t).0) valid.entries

-- over a finite index sort, arrays that agree at each key are the same
pub same_finite : (i e : Sort) (sizes : Sizes) (a c : Value) → IsArrayValue i e sizes a → IsArrayValue i e sizes c → AgreeAt i e sizes a c → is_finite i ≡ true → same (array i e) sizes a c ≡ true
same_finite i e sizes a c va vc at finite = agreed i e sizes a c (record {
  first = agree_at i e sizes a a c va at;
  second = agree_at i e sizes a c c vc at;
  elsewhere = elim (true_or_false (cover i sizes (same i sizes) (pairs_of a) (pairs_of c))) [
    | inl covered ↦ inl covered
    | inr open_key ↦
        let found = over_some i sizes (λ k. is_key (same i sizes) k (pairs_of a) || is_key (same i sizes) k (pairs_of c)) finite open_key in
        let absent = both_false (is_key (same i sizes) found.0 (pairs_of a)) (is_key (same i sizes) found.0 (pairs_of c)) found.2 in
        inr (default_absent i e sizes a c found.0 absent.0 absent.1 (at found.0 found.1))
  ];
})

-- over any, if their defaults are the same
pub same_default : (i e : Sort) (sizes : Sizes) (a c : Value) → IsArrayValue i e sizes a → IsArrayValue i e sizes c → AgreeAt i e sizes a c → same e sizes (default_of a) (default_of c) ≡ true → same (array i e) sizes a c ≡ true
same_default i e sizes a c va vc at default = agreed i e sizes a c (record {
  first = agree_at i e sizes a a c va at;
  second = agree_at i e sizes a c c vc at;
  elsewhere = inr default;
})

pub same-through : (s : Sort) (sizes : Sizes) (a b c : Value) → is_sort s ≡ true → is_value s sizes a ≡ true → is_value s sizes b ≡ true → is_value s sizes c ≡ true → same s sizes a b ≡ true → same s sizes b c ≡ true → same s sizes a c ≡ true
same-through bool sizes a b c fine va vb vc h k = (same_scalar bool sizes refl).through a b c h k
same-through int sizes a b c fine va vb vc h k = (same_scalar int sizes refl).through a b c h k
same-through (bit_vector w) sizes a b c fine va vb vc h k = (same_scalar (bit_vector w) sizes refl).through a b c h k
same-through (free_sort s) sizes a b c fine va vb vc h k = (same_scalar (free_sort s) sizes refl).through a b c h k
same-through (array i e) sizes a b c fine va vb vc h k =
    let sorts = array_sorts i e fine in
    let at = λ (key : Value) (valid : is_value i sizes key ≡ true). same-through e sizes (select i sizes a key) (select i sizes b key) (select i sizes c key) sorts.2
    (is_value-select i e sizes a key va) (is_value-select i e sizes b key vb) (is_value-select i e sizes c key vc)
    (same-select i e sizes a b key sorts.0 valid h) (same-select i e sizes b c key sorts.0 valid k) in
    let first = array_value i e sizes a va in
    let middle = array_value i e sizes b vb in
    let last = array_value i e sizes c vc in
    elim ((agrees i e sizes a b h).elsewhere) [
      | inl covered ↦ same_finite i e sizes a c first last at (over_finite i sizes _ covered)
      | inr left ↦ elim ((agrees i e sizes b c k).elsewhere) [
        | inl covered ↦ same_finite i e sizes a c first last at (over_finite i sizes _ covered)
        | inr right ↦ same_default i e sizes a c first last at (same-through e sizes (default_of a) (default_of b) (default_of c) sorts.2 first.default middle.default last.default left right)
      ]
    ]
