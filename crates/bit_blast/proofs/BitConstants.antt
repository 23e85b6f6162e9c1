-- The constants that stand for the bits of vectors: each bit of a constant among the roots' has one, which is a truth value.
use Rattle.std.proofs.Common.{◌≡◌, ℕ, zero, suc, ◌+◌, ◌-◌, ◌<◌, ◌≤◌, Bool, true, false, cond, ◌||◌, ◌⊎◌, inl, inr, List, [], ◌∷◌, ◌++◌, get_or, take, drop, length, All, Option, Some, None, refl, ap, sym, ◌∙◌, subst, arith}
use Rattle.std.specs.Prelude.{unwrap_or}
use Rattle.std.specs.List.{flat_map}
use Rattle.std.proofs.lemmas.List.{drop_more}
use Rattle.std.proofs.lemmas.List.Elements.{All-nil, All-cons, All-head, All-tail, All-append}
use Rattle.smt_terms.specs.declared.op.Op.TheVariants.{Bits, Extract, Equal}
use Rattle.smt_terms.specs.Sorts.{Sort, bool, bit_vector, Symbol}
use Rattle.smt_terms.specs.Term.{op, symbol, Term, apply, none, ◌⨾◌, terms, constant}
use Rattle.smt_terms.specs.BitVectors.{BitVector, bits_eq}
use Rattle.smt_terms.specs.Connectives.{equal}
use Rattle.smt_terms.specs.Constants.{bits_term}
use Rattle.smt_terms.specs.Equal.{symbol_eq, term_eq}
use Rattle.smt_terms.specs.Free.{is_among, free_of}
use Rattle.smt_terms.specs.Fresh.{Supply, after_draw, fresh_constant}
use Rattle.smt_terms.specs.Groups.{Named, has_term, constant_for, constant_or, draw_each}
use Rattle.smt_terms.specs.Models.{Model, symbol_value}
use Rattle.smt_terms.specs.Operators.{op_value}
use Rattle.smt_terms.specs.Rank.{shape, width, most_bits, sort_of}
use Rattle.smt_terms.specs.Val.{no_variables}
use Rattle.smt_terms.specs.Values.{is_true, bits_of}
use Rattle.smt_terms.proofs.Among.{is_among-filter}
use Rattle.smt_terms.proofs.Equal.{Decides-symbol_eq, Decides-term_eq}
use Rattle.smt_terms.proofs.Operands.{more_sorts, equal_value}
use Rattle.smt_terms.proofs.Ranked.{rank-takes, takes-rank}
use Rattle.smt_terms.proofs.Sorted.{applied, sort_of-apply}
use Rattle.smt_terms.proofs.Tests.{and_true, either_true, left_true, right_true}
use Rattle.bit_blast.specs.Blasted.{bit_of, bits_from, width_of, bits_of_constant, is_vector, bit_constant, vector_constants, drawn_bits}
use Rattle.bit_blast.specs.Laws.{holds}

-- ---- a symbol without arguments that is a constant of this sort

pub record IsConstantOf (f : Symbol) (s : Sort) : Type 0 where
  pub args : f.args ≡ []
  pub result : f.result ≡ s
  pub narrow : width s ≤ most_bits

pub constant_sort : (f : Symbol) (s : Sort) → IsConstantOf f s → sort_of (constant f) ≡ Some s
constant_sort f s c = sort_of-apply (symbol f) none [] s refl (takes-rank (symbol f) [] s (sym c.args, sym c.result) c.narrow)

-- ---- the value of a bit

-- bit i of a constant, as a vector of one bit
abbrev part : Symbol → ℕ → Term
part f i = apply (op (Extract i i)) (constant f ⨾ none)

part_sort : (f : Symbol) (w i : ℕ) → IsConstantOf f (bit_vector w) → i < w → sort_of (part f i) ≡ Some (bit_vector 1)
unfolding shape
part_sort f w i c less =
    let one : 1 ≡ i - i + 1 = omega arith in
    let narrow : 1 ≤ most_bits = omega arith in
    let itself : i ≤ i = omega arith in
    sort_of-apply (op (Extract i i)) (constant f ⨾ none) (bit_vector w ∷ []) (bit_vector 1)
    (more_sorts (constant f) none (bit_vector w) [] (constant_sort f (bit_vector w) c) refl)
    (takes-rank (op (Extract i i)) (bit_vector w ∷ []) (bit_vector 1) (w, refl, itself, less, ap bit_vector one) narrow)

one_sort : sort_of (bits_term 1 1) ≡ Some (bit_vector 1)
unfolding shape
one_sort =
    let some : 0 < 1 = omega arith in
    let fits : 1 < 2 = omega arith in
    let narrow : 1 ≤ most_bits = omega arith in
    sort_of-apply (op (Bits 1 1)) none [] (bit_vector 1) refl (takes-rank (op (Bits 1 1)) [] (bit_vector 1) (refl, some, fits, refl) narrow)

one_bit : (bs : BitVector) (i : ℕ) → i < length bs → take (i + 1 - i) (drop i bs) ≡ get_or bs i false ∷ []
one_bit bs i less =
    let one : i + 1 - i ≡ 1 = omega arith in
    (λ j. take (one j) (drop i bs)) ∙ ap (take 1) (drop_more bs i false less)

same_as_one : (b : Bool) → bits_eq (b ∷ []) (true ∷ []) ≡ b
same_as_one true = refl
same_as_one false = refl

-- the formula for bit i of a constant says what this bit of its value is
pub holds_bit : (n : Model) (f : Symbol) (w i : ℕ) → IsConstantOf f (bit_vector w) → i < w → length (bits_of (symbol_value n f [])) ≡ w → holds n (bit_of f i) ≡ get_or (bits_of (symbol_value n f [])) i false
unfolding op_value
holds_bit n f w i c less len =
    let below : i < length (bits_of (symbol_value n f [])) = omega arith in
    ap is_true (equal_value n no_variables (part f i) (bits_term 1 1) (bit_vector 1) (part_sort f w i c less) one_sort)
    ∙ ap (λ bs. bits_eq bs (true ∷ [])) (one_bit (bits_of (symbol_value n f [])) i below)
    ∙ same_as_one (get_or (bits_of (symbol_value n f [])) i false)

-- ---- drawn constants are truth values

pub record IsFlag (f : Symbol) : Type 0 where
  pub args : f.args ≡ []
  pub result : f.result ≡ bool

pub flag_constant : (f : Symbol) → IsFlag f → IsConstantOf f bool
flag_constant f flag = record { args = flag.args; result = flag.result; narrow = omega arith }

equation_sort : (t u : Term) (s : Sort) → sort_of (equal t u) ≡ Some s → s ≡ bool
unfolding shape
equation_sort t u s has =
    let parts = applied (op Equal) (t ⨾ u ⨾ none) s has in
    (rank-takes (op Equal) parts.sorts s parts.rank).2

sort_or_bool : (o : Option Sort) → ((s : Sort) → o ≡ Some s → s ≡ bool) → unwrap_or o bool ≡ bool
sort_or_bool None only = refl
sort_or_bool (Some s) only = only s refl

-- a term of sort Bool, or of none
abbrev IsBool : Term → Type 0
IsBool t = unwrap_or (sort_of t) bool ≡ bool

abbrev NamesFlag : Symbol × Term → Type 0
NamesFlag p = IsFlag p.0

drawn_flags : (ts : List Term) (s : Supply) → All IsBool ts → All NamesFlag (draw_each ts s).symbols
drawn_flags [] s all = All-nil NamesFlag
drawn_flags (t ∷ ts) s all =
    All-cons NamesFlag (fresh_constant (unwrap_or (sort_of t) bool) s, t) (draw_each ts (after_draw s)).symbols
    (record { args = refl; result = All-head IsBool t ts all }) (drawn_flags ts (after_draw s) (All-tail IsBool t ts all))

bits_bool : (f : Symbol) (i n : ℕ) → All IsBool (bits_from f i n)
bits_bool f i zero = All-nil IsBool
bits_bool f i (suc n) =
    All-cons IsBool (bit_of f i) (bits_from f (suc i) n)
    (sort_or_bool (sort_of (bit_of f i)) (equation_sort (part f i) (bits_term 1 1))) (bits_bool f (suc i) n)

all_bool : (fs : List Symbol) → All IsBool (flat_map bits_of_constant fs)
all_bool [] = All-nil IsBool
all_bool (f ∷ fs) = All-append IsBool (bits_of_constant f) (flat_map bits_of_constant fs) (bits_bool f 0 (width_of f.result)) (all_bool fs)

pub drawn_are_flags : (roots : List Term) (s : Supply) → All (λ p. IsFlag p.0) (drawn_bits roots s).symbols
drawn_are_flags roots s = drawn_flags (flat_map bits_of_constant (vector_constants roots)) s (all_bool (vector_constants roots))

-- ---- each bit has a constant

has_term-append : (ts us : List Term) (t : Term) → has_term (ts ++ us) t ≡ (has_term ts t || has_term us t)
has_term-append [] us t = refl
has_term-append (u ∷ ts) us t = ap (λ b. term_eq u t || b) (has_term-append ts us t) ∙ grouped (term_eq u t) (has_term ts t) (has_term us t)
  where
    grouped : (a b c : Bool) → (a || (b || c)) ≡ ((a || b) || c)
    grouped true b c = refl
    grouped false b c = refl

has_bit : (f : Symbol) (i n k : ℕ) → k < n → has_term (bits_from f i n) (bit_of f (i + k)) ≡ true
has_bit f i zero k less = absurd (omega arith)
has_bit f i (suc n) zero less =
    let same : i ≡ i + 0 = omega arith in
    left_true (term_eq (bit_of f i) (bit_of f (i + 0))) (has_term (bits_from f (suc i) n) (bit_of f (i + 0)))
    ((Decides-term_eq (bit_of f i) (bit_of f (i + 0))).1 (ap (bit_of f) same))
has_bit f i (suc n) (suc k) less =
    let same : suc i + k ≡ i + suc k = omega arith in
    let below : k < n = omega arith in
    right_true (term_eq (bit_of f i) (bit_of f (i + suc k))) (has_term (bits_from f (suc i) n) (bit_of f (i + suc k)))
    (subst (λ j. has_term (bits_from f (suc i) n) (bit_of f j) ≡ true) same (has_bit f (suc i) n k below))

has_bit_of : (fs : List Symbol) (f : Symbol) (i : ℕ) → is_among fs f ≡ true → i < width_of f.result → has_term (flat_map bits_of_constant fs) (bit_of f i) ≡ true
has_bit_of [] f i among less = absurd cc
has_bit_of (g ∷ fs) f i among less =
    has_term-append (bits_of_constant g) (flat_map bits_of_constant fs) (bit_of f i) ∙ go (either_true (symbol_eq g f) (is_among fs f) among) (has_bit_of fs f i)
  where
    own : has_term (bits_of_constant f) (bit_of f i) ≡ true
    own =
        let same : 0 + i ≡ i = omega arith in
        subst (λ j. has_term (bits_of_constant f) (bit_of f j) ≡ true) same (has_bit f 0 (width_of f.result) i less)

    go : (symbol_eq g f ≡ true) ⊎ (is_among fs f ≡ true) → (is_among fs f ≡ true → i < width_of f.result → has_term (flat_map bits_of_constant fs) (bit_of f i) ≡ true) → (has_term (bits_of_constant g) (bit_of f i) || has_term (flat_map bits_of_constant fs) (bit_of f i)) ≡ true
    go (inl here) behind =
        left_true (has_term (bits_of_constant g) (bit_of f i)) (has_term (flat_map bits_of_constant fs) (bit_of f i))
        (subst (λ h. has_term (bits_of_constant h) (bit_of f i) ≡ true) (sym ((Decides-symbol_eq g f).0 here)) own)
    go (inr there) behind =
        right_true (has_term (bits_of_constant g) (bit_of f i)) (has_term (flat_map bits_of_constant fs) (bit_of f i)) (behind there less)

-- the constant of a term, of which all is known that holds of each pair
pub record HasConstant (P : Symbol × Term → Type 0) (ns : Named) (t : Term) : Type 0 where
  pub symbol : Symbol
  pub found : constant_for ns t ≡ Some symbol
  pub holds : P (symbol, t)

-- what holds of a constant for each pair of it and the term holds of what stands for the term
pub at_constant : (P : Symbol × Term → Type 0) (Q : Term → Type 0) (ns : Named) (t : Term) → ((f : Symbol) → P (f, t) → Q (constant f)) → HasConstant P ns t → Q (bit_constant ns t)
at_constant P Q ns t leads has = subst Q (sym (ap (λ o. constant_or o t) has.found)) (leads has.symbol has.holds)

drawn_constant : (P : Symbol × Term → Type 0) (ts : List Term) (s : Supply) (t : Term) → has_term ts t ≡ true → All P (draw_each ts s).symbols → HasConstant P (draw_each ts s).symbols t
drawn_constant P [] s t has all = absurd cc
drawn_constant P (u ∷ ts) s t has all =
    go (term_eq u t) refl has (λ behind. drawn_constant P ts (after_draw s) t behind (All-tail P (g, u) ns all))
  where
    g : Symbol
    g = fresh_constant (unwrap_or (sort_of u) bool) s

    ns : Named
    ns = (draw_each ts (after_draw s)).symbols

    go : (b : Bool) → term_eq u t ≡ b → (b || has_term ts t) ≡ true → (has_term ts t ≡ true → HasConstant P ns t) → HasConstant P ((g, u) ∷ ns) t
    go true same among behind = record {
      symbol = g;
      found = ap (λ c. cond c (Some g) (constant_for ns t)) same;
      holds = subst (λ v. P (g, v)) ((Decides-term_eq u t).0 same) (All-head P (g, u) ns all);
    }
    go false other among behind =
        let found = behind among in
        record { symbol = found.symbol; found = ap (λ c. cond c (Some g) (constant_for ns t)) other ∙ found.found; holds = found.holds }

vector_among : (roots : List Term) (f : Symbol) (w : ℕ) → is_among (free_of (terms roots)) f ≡ true → f.result ≡ bit_vector w → is_among (vector_constants roots) f ≡ true
vector_among roots f w among result =
    is_among-filter is_vector (free_of (terms roots)) f ∙ and_true (is_among (free_of (terms roots)) f) (is_vector f) among
    (λ i. is_vector (record { name = f.name; args = f.args; result = result i }))

pub bit_constants : (P : Symbol × Term → Type 0) (roots : List Term) (s : Supply) (f : Symbol) (w i : ℕ) → is_among (free_of (terms roots)) f ≡ true → f.result ≡ bit_vector w → i < w → All P (drawn_bits roots s).symbols → HasConstant P (drawn_bits roots s).symbols (bit_of f i)
bit_constants P roots s f w i among result less all =
    drawn_constant P (flat_map bits_of_constant (vector_constants roots)) s (bit_of f i)
    (has_bit_of (vector_constants roots) f i (vector_among roots f w among result) (subst (λ r. i < width_of r) (sym result) less)) all
