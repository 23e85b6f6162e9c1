-- Values that are equal as a program's are the same.
use Rattle.std.proofs.Common.{◌≡◌, ℕ, ◌^◌, ◌<◌, Bool, true, false, not, ◌==◌, ◌&&◌, ◌||◌, List, [], ◌∷◌, map, take, drop, length, get_or, ◌-◌, arith, refl, ap, sym, ◌∙◌, subst, nat_eq, true≢false}
use Rattle.std.proofs.lemmas.Bool.Decides.{Decides-eqb}
use Rattle.smt_terms.specs.Sorts.{Name, Sort, bool, int, bit_vector, array, free_sort}
use Rattle.smt_terms.specs.BitVectors.{nat2bv, bits_eq}
use Rattle.smt_terms.specs.Values as plain
use Rattle.smt_terms.specs.Values.{is_value}
use Rattle.smt_terms.proofs.BitLengths.{length-nat2bv}
use Rattle.std.specs.Prelude.{All}
use Rattle.std.specs.List.{list_any}
use Rattle.std.proofs.lemmas.List.Elements.{All-head, All-tail, All-drop}
use Rattle.std.proofs.lemmas.List.{take_all}
use Rattle.std.proofs.Common.{length-drop}
use Rattle.smt_terms.specs.Operators.{first_value, second_value, all_distinct}
use Rattle.smt_terms.proofs.Same.{Decides-bits_eq, same-back}
use Rattle.smt_terms.proofs.Tests.{alike_from, and_true, both_true}
use Rattle.smt_values.specs.Tables.{Table, as_value}
use Rattle.smt_values.specs.Meaning.{scalar_value, scalar_sort, IsScalar, meaning, IsHeld}
use Rattle.smt_values.specs.declared.scalar.Scalar.{Scalar}
use Rattle.smt_values.specs.declared.scalar.Scalar.TheVariants.{Truth, Whole, Bits}
use Rattle.smt_values.specs.declared.value.Value.{Value}
use Rattle.smt_values.specs.declared.value.Value.TheVariants.{Scalar as OfScalar, Element, Array}
use Rattle.smt_values.specs.contracts.scalar.ScalarPartialEq.TheImpl.{ghosts}
use Rattle.smt_values.proofs.Bits.{nat2bv_one}

abbrev pub scalar_eq : Scalar → Scalar → Bool
scalar_eq = ghosts.eq

bits_alike : (w v u m n : ℕ) → v ≡ w → u ≡ w → m < 2 ^ v → n < 2 ^ u → ((v == u) && (m == n)) ≡ bits_eq (nat2bv v m) (nat2bv u n)
bits_alike w v u m n e f a b =
    let same : v ≡ u = e ∙ sym f in
    alike_from ((v == u) && (m == n)) (bits_eq (nat2bv v m) (nat2bv u n))
    (λ h. (Decides-bits_eq (nat2bv v m) (nat2bv u n)).1 (λ i. nat2bv (same i) ((Decides-eqb m n).0 (both_true (v == u) (m == n) h).1 i)))
    (λ h. and_true (v == u) (m == n) ((Decides-eqb v u).1 same)
    ((Decides-eqb m n).1 (nat2bv_one v m n a (subst (λ k. n < 2 ^ k) (sym same) b) ((Decides-bits_eq (nat2bv v m) (nat2bv u n)).0 h ∙ ap (λ k. nat2bv k n) (sym same)))))

width_is : (w v n : ℕ) → (length (nat2bv v n) == w) ≡ true → v ≡ w
width_is w v n h = sym (length-nat2bv v n) ∙ (Decides-eqb (length (nat2bv v n)) w).0 h

-- a scalar is a value of its sort
pub scalar_valid : (a : Scalar) (s : Sort) (sizes : plain.Sizes) → scalar_sort a ≡ s → is_value s sizes (scalar_value a) ≡ true
scalar_valid a s sizes e = ap (λ t. is_value t sizes (scalar_value a)) (sym e) ∙ by a
  where
    by : (a : Scalar) → is_value (scalar_sort a) sizes (scalar_value a) ≡ true
    by (Truth b) = refl
    by (Whole n) = refl
    by (Bits w n) = (Decides-eqb (length (nat2bv w n)) w).1 (length-nat2bv w n)

no_scalar_array : (i e : Sort) (sizes : plain.Sizes) (x : Scalar) → is_value (array i e) sizes (scalar_value x) ≡ true → ⊥
no_scalar_array i e sizes (Truth _) h = absurd (true≢false (sym h))
no_scalar_array i e sizes (Whole _) h = absurd (true≢false (sym h))
no_scalar_array i e sizes (Bits _ _) h = absurd (true≢false (sym h))

no_scalar_element : (n : Name) (sizes : plain.Sizes) (x : Scalar) → is_value (free_sort n) sizes (scalar_value x) ≡ true → ⊥
no_scalar_element n sizes (Truth _) h = absurd (true≢false (sym h))
no_scalar_element n sizes (Whole _) h = absurd (true≢false (sym h))
no_scalar_element n sizes (Bits _ _) h = absurd (true≢false (sym h))

-- scalars of one sort
pub scalars_alike : (s : Sort) (sizes : plain.Sizes) (x y : Scalar) → IsScalar x → IsScalar y → is_value s sizes (scalar_value x) ≡ true → is_value s sizes (scalar_value y) ≡ true
    → scalar_eq x y ≡ plain.same s sizes (scalar_value x) (scalar_value y)
scalars_alike bool sizes (Truth a) (Truth b) p q h k = refl
scalars_alike int sizes (Whole a) (Whole b) p q h k = refl
scalars_alike (bit_vector w) sizes (Bits v m) (Bits u n) p q h k = bits_alike w v u m n (width_is w v m h) (width_is w u n k) p.2 q.2
scalars_alike (array i e) sizes x y p q h k = absurd (no_scalar_array i e sizes x h)
scalars_alike (free_sort n) sizes x y p q h k = absurd (no_scalar_element n sizes x h)
scalars_alike bool sizes (Whole _) y p q h k = absurd (true≢false (sym h))
scalars_alike bool sizes (Bits _ _) y p q h k = absurd (true≢false (sym h))
scalars_alike bool sizes (Truth _) (Whole _) p q h k = absurd (true≢false (sym k))
scalars_alike bool sizes (Truth _) (Bits _ _) p q h k = absurd (true≢false (sym k))
scalars_alike int sizes (Truth _) y p q h k = absurd (true≢false (sym h))
scalars_alike int sizes (Bits _ _) y p q h k = absurd (true≢false (sym h))
scalars_alike int sizes (Whole _) (Truth _) p q h k = absurd (true≢false (sym k))
scalars_alike int sizes (Whole _) (Bits _ _) p q h k = absurd (true≢false (sym k))
scalars_alike (bit_vector w) sizes (Truth _) y p q h k = absurd (true≢false (sym h))
scalars_alike (bit_vector w) sizes (Whole _) y p q h k = absurd (true≢false (sym h))
scalars_alike (bit_vector w) sizes (Bits _ _) (Truth _) p q h k = absurd (true≢false (sym k))
scalars_alike (bit_vector w) sizes (Bits _ _) (Whole _) p q h k = absurd (true≢false (sym k))

pub elements_alike : (s : Sort) (sizes : plain.Sizes) (i j : ℕ) → is_value s sizes (plain.element i) ≡ true → nat_eq i j ≡ plain.same s sizes (plain.element i) (plain.element j)
elements_alike (free_sort n) sizes i j h = refl
elements_alike bool sizes i j h = absurd (true≢false (sym h))
elements_alike int sizes i j h = absurd (true≢false (sym h))
elements_alike (bit_vector w) sizes i j h = absurd (true≢false (sym h))
elements_alike (array i' e) sizes i j h = absurd (true≢false (sym h))

-- ---- values of one sort are of one kind

pub data Kind : Type 0 where
  scalar_kind : Kind
  element_kind : Kind
  array_kind : Kind

abbrev pub kind_of : Value → Kind
kind_of (OfScalar _) = scalar_kind
kind_of (Element _) = element_kind
kind_of (Array _) = array_kind

abbrev pub sort_kind : Sort → Kind
sort_kind (array _ _) = array_kind
sort_kind (free_sort _) = element_kind
sort_kind _ = scalar_kind

pub kind_is : (s : Sort) (sizes : plain.Sizes) (v : Value) → is_value s sizes (meaning v) ≡ true → kind_of v ≡ sort_kind s
kind_is (array i e) sizes (OfScalar x) h = absurd (no_scalar_array i e sizes x h)
kind_is (array i e) sizes (Element n) h = absurd (true≢false (sym h))
kind_is (array i e) sizes (Array a) h = refl
kind_is (free_sort n) sizes (OfScalar x) h = absurd (no_scalar_element n sizes x h)
kind_is (free_sort n) sizes (Element i) h = refl
kind_is (free_sort n) sizes (Array a) h = absurd (true≢false (sym h))
kind_is bool sizes (OfScalar x) h = refl
kind_is bool sizes (Element n) h = absurd (true≢false (sym h))
kind_is bool sizes (Array a) h = absurd (true≢false (sym h))
kind_is int sizes (OfScalar x) h = refl
kind_is int sizes (Element n) h = absurd (true≢false (sym h))
kind_is int sizes (Array a) h = absurd (true≢false (sym h))
kind_is (bit_vector w) sizes (OfScalar x) h = refl
kind_is (bit_vector w) sizes (Element n) h = absurd (true≢false (sym h))
kind_is (bit_vector w) sizes (Array a) h = absurd (true≢false (sym h))

pub kinds_are : (s : Sort) (sizes : plain.Sizes) (a b : Value) → is_value s sizes (meaning a) ≡ true → is_value s sizes (meaning b) ≡ true → kind_of a ≡ kind_of b
kinds_are s sizes a b h k = kind_is s sizes a h ∙ sym (kind_is s sizes b k)

-- a value that is an array is of an array sort
pub array_sort_is : (s : Sort) (sizes : plain.Sizes) (t : Table) → is_value s sizes (as_value t) ≡ true → (i : Sort) × (e : Sort) × (s ≡ array i e)
array_sort_is (array i e) sizes t h = (i, e, refl)
array_sort_is bool sizes t h = absurd (true≢false (sym h))
array_sort_is int sizes t h = absurd (true≢false (sym h))
array_sort_is (bit_vector w) sizes t h = absurd (true≢false (sym h))
array_sort_is (free_sort n) sizes t h = absurd (true≢false (sym h))

-- ---- the same of values

pub scalar_values : (s : Sort) (sizes : plain.Sizes) (a b : Value) (x y : Scalar) → a ≡ OfScalar x → b ≡ OfScalar y → IsHeld a → IsHeld b → is_value s sizes (meaning a) ≡ true → is_value s sizes (meaning b) ≡ true
    → scalar_eq x y ≡ plain.same s sizes (meaning a) (meaning b)
scalar_values s sizes a b x y e f p q h k =
    scalars_alike s sizes x y (subst IsHeld e p) (subst IsHeld f q) (sym (ap (λ v. is_value s sizes (meaning v)) e) ∙ h) (sym (ap (λ v. is_value s sizes (meaning v)) f) ∙ k)
    ∙ sym (λ i. plain.same s sizes (meaning (e i)) (meaning (f i)))

pub element_values : (s : Sort) (sizes : plain.Sizes) (a b : Value) (i j : ℕ) → a ≡ Element i → b ≡ Element j → is_value s sizes (meaning a) ≡ true → nat_eq i j ≡ plain.same s sizes (meaning a) (meaning b)
element_values s sizes a b i j e f h =
    elements_alike s sizes i j (sym (ap (λ v. is_value s sizes (meaning v)) e) ∙ h) ∙ sym (λ k. plain.same s sizes (meaning (e k)) (meaning (f k)))

-- a value of another kind isn't of the sort
not_scalar : (b : Value) → ((y : Scalar) → b ≡ OfScalar y → ⊥) → kind_of b ≡ scalar_kind → ⊥
not_scalar (OfScalar y) f e = f y refl
not_scalar (Element i) f e = cc
not_scalar (Array a) f e = cc

not_element : (b : Value) → ((i : ℕ) → b ≡ Element i → ⊥) → kind_of b ≡ element_kind → ⊥
not_element (OfScalar y) f e = cc
not_element (Element i) f e = f i refl
not_element (Array a) f e = cc

not_array : (b : Value) → ((a : _) → b ≡ Array a → ⊥) → kind_of b ≡ array_kind → ⊥
not_array (OfScalar y) f e = cc
not_array (Element i) f e = cc
not_array (Array a) f e = f a refl

pub no_other_scalar : (s : Sort) (sizes : plain.Sizes) (a b : Value) (x : Scalar) → a ≡ OfScalar x → ((y : Scalar) → b ≡ OfScalar y → ⊥) → is_value s sizes (meaning a) ≡ true → is_value s sizes (meaning b) ≡ true → ⊥
no_other_scalar s sizes a b x e f h k = not_scalar b f (sym (kinds_are s sizes a b h k) ∙ ap kind_of e)

pub no_other_element : (s : Sort) (sizes : plain.Sizes) (a b : Value) (i : ℕ) → a ≡ Element i → ((j : ℕ) → b ≡ Element j → ⊥) → is_value s sizes (meaning a) ≡ true → is_value s sizes (meaning b) ≡ true → ⊥
no_other_element s sizes a b i e f h k = not_element b f (sym (kinds_are s sizes a b h k) ∙ ap kind_of e)

pub no_other_array : (s : Sort) (sizes : plain.Sizes) (a b : Value) (x : _) → a ≡ Array x → ((y : _) → b ≡ Array y → ⊥) → is_value s sizes (meaning a) ≡ true → is_value s sizes (meaning b) ≡ true → ⊥
no_other_array s sizes a b x e f h k = not_array b f (sym (kinds_are s sizes a b h k) ∙ ap kind_of e)

-- ---- distinct scalars of one sort

alike_back : (s : Sort) (sizes : plain.Sizes) (x y : Scalar) → IsScalar x → IsScalar y → scalar_sort x ≡ s → scalar_sort y ≡ s → scalar_eq y x ≡ plain.same s sizes (scalar_value x) (scalar_value y)
alike_back s sizes x y p q e f =
    scalars_alike s sizes y x q p (scalar_valid y s sizes f) (scalar_valid x s sizes e)
    ∙ alike_from (plain.same s sizes (scalar_value y) (scalar_value x)) (plain.same s sizes (scalar_value x) (scalar_value y)) (same-back s sizes (scalar_value y) (scalar_value x)) (same-back s sizes (scalar_value x) (scalar_value y))

any_alike : (s : Sort) (sizes : plain.Sizes) (x : Scalar) (rest : List Scalar) → IsScalar x → scalar_sort x ≡ s → All IsScalar rest → All (λ a. scalar_sort a ≡ s) rest
    → list_any (λ y. scalar_eq y x) rest ≡ list_any (plain.same s sizes (scalar_value x)) (map scalar_value rest)
any_alike s sizes x [] p e all sorts = refl
any_alike s sizes x (y ∷ ys) p e all sorts =
    λ i. alike_back s sizes x y p (All-head IsScalar y ys all) e (All-head (λ a. scalar_sort a ≡ s) y ys sorts) i
    || any_alike s sizes x ys p e (All-tail IsScalar y ys all) (All-tail (λ a. scalar_sort a ≡ s) y ys sorts) i

-- the operands from a place on, where the one there is x
distinct_from : (s : Sort) (sizes : plain.Sizes) (x : Scalar) (rest : List Scalar) → All IsScalar (x ∷ rest) → All (λ a. scalar_sort a ≡ s) (x ∷ rest) → (c : Bool) → c ≡ list_any (λ y. scalar_eq y x) rest
    → all_distinct (plain.same s sizes) (map scalar_value (x ∷ rest)) ≡ (not c && all_distinct (plain.same s sizes) (map scalar_value rest))
distinct_from s sizes x rest all sorts c e =
    sym (ap (λ b. not b && all_distinct (plain.same s sizes) (map scalar_value rest)) (e ∙ any_alike s sizes x rest (All-head IsScalar x rest all) (All-head (λ a. scalar_sort a ≡ s) x rest sorts) (All-tail IsScalar x rest all) (All-tail (λ a. scalar_sort a ≡ s) x rest sorts)))

pub distinct_at : (s : Sort) (sizes : plain.Sizes) (args : List Scalar) (i : ℕ) (x : Scalar) (rest : List Scalar) → drop i args ≡ x ∷ rest → All IsScalar args → All (λ a. scalar_sort a ≡ s) args → (c : Bool) → c ≡ list_any (λ y. scalar_eq y x) rest
    → all_distinct (plain.same s sizes) (map scalar_value (drop i args)) ≡ (not c && all_distinct (plain.same s sizes) (map scalar_value rest))
distinct_at s sizes args i x rest at all sorts c e =
    ap (λ xs. all_distinct (plain.same s sizes) (map scalar_value xs)) at
    ∙ distinct_from s sizes x rest (subst (All IsScalar) at (All-drop IsScalar i args all)) (subst (All (λ a. scalar_sort a ≡ s)) at (All-drop (λ a. scalar_sort a ≡ s) i args sorts)) c e

pub equal_first : (s : Sort) (sizes : plain.Sizes) (args : List Scalar) → All IsScalar args → All (λ a. scalar_sort a ≡ s) args → 1 < length args → (c : Bool) → c ≡ scalar_eq (get_or args 0 (Truth false)) (get_or args 1 (Truth false))
    → c ≡ plain.same s sizes (first_value (map scalar_value args)) (second_value (map scalar_value args))
equal_first s sizes [] all sorts two c e = absurd (omega arith)
equal_first s sizes (a ∷ []) all sorts two c e = absurd (omega arith)
equal_first s sizes (a ∷ b ∷ bs) all sorts two c e =
    let rest = All-tail IsScalar a (b ∷ bs) all in
    let kinds = All-tail (λ a. scalar_sort a ≡ s) a (b ∷ bs) sorts in
    e ∙ scalars_alike s sizes a b (All-head IsScalar a (b ∷ bs) all) (All-head IsScalar b bs rest)
    (scalar_valid a s sizes (All-head (λ a. scalar_sort a ≡ s) a (b ∷ bs) sorts)) (scalar_valid b s sizes (All-head (λ a. scalar_sort a ≡ s) b bs kinds))

-- the operands from a place on, as a slice has them
pub later_whole : (args : List Scalar) (i : ℕ) → take (length args - i) (drop i args) ≡ drop i args
later_whole args i = take_all (length args - i) (drop i args) (omega (arith, length-drop i args))
