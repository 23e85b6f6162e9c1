-- The bits of the roots' constants: they are different formulas, and the value of each is a bit of its constant's value.
use Rattle.std.proofs.Common.{◌≡◌, ◌≢◌, ◌⊎◌, inl, inr, ℕ, zero, suc, ◌+◌, ◌-◌, ◌<◌, ◌≤◌, Bool, true, false, cond, not, ◌&&◌, List, [], ◌∷◌, ◌++◌, map, filter, flat_map, length, get_or, take, drop, All, Option, Some, unwrap_or, refl, ap, sym, ◌∙◌, subst as carry, arith, drop-cons}
use Rattle.std.specs.Prelude.{⊤, is_some, nat_le}
use Rattle.std.specs.List.{list_any, list_all}
use Rattle.std.proofs.lemmas.Bool.{leb-true}
use Rattle.std.proofs.lemmas.List.Elements.{All-nil, All-cons, All-head, All-tail, All-append}
use Rattle.smt_terms.specs.declared.op.Op.TheVariants.{Equal, Extract, Bits}
use Rattle.smt_terms.specs.Sorts.{Sort, bool, bit_vector, Symbol}
use Rattle.smt_terms.specs.Term.{Head, op, symbol, const_array, Term, apply, quantified, Terms, none, ◌⨾◌, terms, constant, constant_of}
use Rattle.smt_terms.specs.BitVectors.{BitVector, extract}
use Rattle.smt_terms.specs.Constants.{bits_term}
use Rattle.smt_terms.specs.Equal.{symbol_eq}
use Rattle.smt_terms.specs.Free.{is_among, with_more, head_symbols, free, free_of}
use Rattle.smt_terms.specs.Fresh.{Supply, NeverGives}
use Rattle.smt_terms.specs.Models.{Model, symbol_value, background}
use Rattle.smt_terms.specs.Operators.{op_value}
use Rattle.smt_terms.specs.Rank.{shape, most_bits, sort_of, sorts_of, is_sort, has_sorts, is_regular, are_regular, IsWellSorted}
use Rattle.smt_terms.specs.SubstLaws.{names_within, GivesNone}
use Rattle.smt_terms.specs.Val.{no_variables, vals}
use Rattle.smt_terms.specs.Values.{bits, is_true, bits_of, same}
use Rattle.smt_terms.proofs.Among.{is_among-append, is_among-filter, is_among-with_more}
use Rattle.smt_terms.proofs.Equal.{symbol_itself, Decides-symbol_eq}
use Rattle.smt_terms.proofs.Operands.{more_sorts}
use Rattle.smt_terms.proofs.Ranked.{takes-rank}
use Rattle.smt_terms.proofs.Sorted.{sort_of-apply}
use Rattle.smt_terms.proofs.SortsOfTerms.{regular}
use Rattle.smt_terms.proofs.Substitution.{symbols-spared}
use Rattle.smt_terms.proofs.Tests.{both_true, either_true, left_true, right_true, or_false, contrary}
use Rattle.bit_blast.specs.Blasted.{is_bits_head, is_bits_sort, is_bits, are_bits, bit_of, bits_from, width_of, bits_of_constant, is_vector, vector_constants}
use Rattle.bit_blast.specs.Laws.{holds, AreBlastable, are_among}
use Rattle.bit_blast.proofs.DrawnBits.{IsOther, AreDifferent, different-append}

-- ---- the roots' symbols

-- a constant of a sort
pub record IsConstant (f : Symbol) : Type 0 where
  pub args : f.args ≡ []
  pub sort : is_sort f.result ≡ true

either-among : (fs gs : List Symbol) (f : Symbol) → is_among (with_more fs gs) f ≡ true → (is_among fs f ≡ true) ⊎ (is_among gs f ≡ true)
either-among fs gs f among = either_true (is_among fs f) (is_among gs f) (sym (is_among-with_more fs gs f) ∙ among)

no_arguments : (f : Symbol) → is_bits_head (symbol f) ≡ true → f.args ≡ []
no_arguments f h = go f.args h
  where
    go : (ss : List Sort) → is_bits_head (symbol (record { name = f.name; args = ss; result = f.result })) ≡ true → ss ≡ []
    go [] h = refl
    go (s ∷ ss) h = absurd cc

head-constant : (h : Head) → is_bits_head h ≡ true → has_sorts h ≡ true → (f : Symbol) → is_among (head_symbols h) f ≡ true → IsConstant f
head-constant (op o) plain fine f among = absurd cc
head-constant (const_array s) plain fine f among = absurd cc
head-constant (symbol g) plain fine f among = go (either_true (symbol_eq g f) false among)
  where
    go : (symbol_eq g f ≡ true) ⊎ (false ≡ true) → IsConstant f
    go (inl e) = carry IsConstant ((Decides-symbol_eq g f).0 e) (record { args = no_arguments g plain; sort = (both_true (list_all is_sort g.args) (is_sort g.result) fine).1 })
    go (inr e) = absurd cc

either-constant : (fs gs : List Symbol) (f : Symbol) → (is_among fs f ≡ true) ⊎ (is_among gs f ≡ true) → (is_among fs f ≡ true → IsConstant f) → (is_among gs f ≡ true → IsConstant f) → IsConstant f
either-constant fs gs f (inl e) first second = first e
either-constant fs gs f (inr e) first second = second e

mutual
  free-constant : (t : Term) → is_bits t ≡ true → is_regular t ≡ true → (f : Symbol) → is_among (free t) f ≡ true → IsConstant f
  free-constant (apply h ts) plain fine f among =
      let parts = both_true (is_bits_head h && is_bits_sort (sort_of (apply h ts))) (are_bits ts) plain in
      let head : is_bits_head h ≡ true = (both_true (is_bits_head h) (is_bits_sort (sort_of (apply h ts))) parts.0).0 in
      let rules = regular h ts fine in
      either-constant (head_symbols h) (free_of ts) f (either-among (head_symbols h) (free_of ts) f among) (head-constant h head rules.head f) (free-constant-each ts parts.1 rules.operands f)
  free-constant (quantified q xs t) plain fine f among = absurd cc

  free-constant-each : (ts : Terms) → are_bits ts ≡ true → are_regular ts ≡ true → (f : Symbol) → is_among (free_of ts) f ≡ true → IsConstant f
  free-constant-each none plain fine f among = absurd cc
  free-constant-each (t ⨾ ts) plain fine f among =
      let parts = both_true (is_bits t) (are_bits ts) plain in
      let rules = both_true (is_regular t) (are_regular ts) fine in
      either-constant (free t) (free_of ts) f (either-among (free t) (free_of ts) f among) (free-constant t parts.0 rules.0 f) (free-constant-each ts parts.1 rules.1 f)

-- the roots' symbols are constants of sorts, and the supply gives none of their names
pub record IsPlain (s : Supply) (f : Symbol) : Type 0 where
  pub constant : IsConstant f
  pub never : NeverGives s f.name

roots-plain : (roots : List Term) (s : Supply) → All IsWellSorted roots → All (λ t. is_bits t ≡ true) roots → All (λ t. GivesNone s (names_within t)) roots → (f : Symbol) → is_among (free_of (terms roots)) f ≡ true → IsPlain s f
roots-plain [] s fine plain spared f among = absurd cc
roots-plain (t ∷ ts) s fine plain spared f among =
    go (either-among (free t) (free_of (terms ts)) f among)
    (roots-plain ts s (All-tail IsWellSorted t ts fine) (All-tail (λ u. is_bits u ≡ true) t ts plain) (All-tail (λ u. GivesNone s (names_within u)) t ts spared) f)
  where
    regular_root : is_regular t ≡ true
    regular_root = (both_true (is_some (sort_of t)) (is_regular t) (All-head IsWellSorted t ts fine)).1

    go : (is_among (free t) f ≡ true) ⊎ (is_among (free_of (terms ts)) f ≡ true) → (is_among (free_of (terms ts)) f ≡ true → IsPlain s f) → IsPlain s f
    go (inl here) behind = record {
      constant = free-constant t (All-head (λ u. is_bits u ≡ true) t ts plain) regular_root f here;
      never = symbols-spared s t (All-head (λ u. GivesNone s (names_within u)) t ts spared) f here;
    }
    go (inr there) behind = behind there

pub symbols-plain : (roots : List Term) (s : Supply) → AreBlastable roots s → (f : Symbol) → is_among (free_of (terms roots)) f ≡ true → IsPlain s f
symbols-plain roots s blastable = roots-plain roots s blastable.sorted blastable.bits blastable.names

-- ---- symbols among others

among-within : (symbols fs : List Symbol) (f : Symbol) → are_among symbols fs ≡ true → is_among fs f ≡ true → is_among symbols f ≡ true
among-within symbols [] f all among = absurd cc
among-within symbols (g ∷ fs) f all among =
    let parts = both_true (is_among symbols g) (are_among symbols fs) all in
    elim (either_true (symbol_eq g f) (is_among fs f) among) [
      | inl here ↦ carry (λ h. is_among symbols h ≡ true) ((Decides-symbol_eq g f).0 here) parts.0
      | inr there ↦ among-within symbols fs f parts.1 there
    ]

among-any : (fs : List Symbol) (f : Symbol) → is_among fs f ≡ true → list_any (symbol_eq f) fs ≡ true
among-any [] f among = absurd cc
among-any (g ∷ fs) f among =
    elim (either_true (symbol_eq g f) (is_among fs f) among) [
      | inl here ↦ left_true (symbol_eq f g) (list_any (symbol_eq f) fs) ((Decides-symbol_eq f g).1 (sym ((Decides-symbol_eq g f).0 here)))
      | inr there ↦ right_true (symbol_eq f g) (list_any (symbol_eq f) fs) (among-any fs f there)
    ]

pub listed : (symbols fs : List Symbol) (f : Symbol) → are_among symbols fs ≡ true → is_among fs f ≡ true → list_any (symbol_eq f) symbols ≡ true
listed symbols fs f all among = among-any symbols f (among-within symbols fs f all among)

-- ---- no constant stands twice

abbrev AreOnce : List Symbol → Type 0
AreOnce [] = ⊤
AreOnce (f ∷ fs) = (is_among fs f ≡ false) × AreOnce fs

once-filter : (p : Symbol → Bool) (fs : List Symbol) → AreOnce fs → AreOnce (filter p fs)
once-filter p [] once = tt
once-filter p (f ∷ fs) once = go (p f) (once-filter p fs once.1)
  where
    go : (b : Bool) → AreOnce (filter p fs) → AreOnce (cond b (f ∷ filter p fs) (filter p fs))
    go true rest = (is_among-filter p fs f ∙ ap (λ b. b && p f) once.0, rest)
    go false rest = rest

once-append : (fs gs : List Symbol) → AreOnce fs → AreOnce gs → ((f : Symbol) → is_among fs f ≡ true → is_among gs f ≡ false) → AreOnce (fs ++ gs)
once-append [] gs first second apart = second
once-append (f ∷ fs) gs first second apart = (
  is_among-append fs gs f ∙ or_false (is_among fs f) (is_among gs f) first.0 (apart f (left_true (symbol_eq f f) (is_among fs f) (symbol_itself f))),
  once-append fs gs first.1 second (λ g e. apart g (right_true (symbol_eq f g) (is_among fs g) e)),
)

once-with_more : (fs gs : List Symbol) → AreOnce fs → AreOnce gs → AreOnce (with_more fs gs)
once-with_more fs gs first second = once-append fs (filter (λ g. not (is_among fs g)) gs) first (once-filter (λ g. not (is_among fs g)) gs second) apart
  where
    neither : (b : Bool) → (b && false) ≡ false
    neither true = refl
    neither false = refl

    apart : (f : Symbol) → is_among fs f ≡ true → is_among (filter (λ g. not (is_among fs g)) gs) f ≡ false
    apart f e = is_among-filter (λ g. not (is_among fs g)) gs f ∙ ap (λ b. is_among gs f && not b) e ∙ neither (is_among gs f)

once-head : (h : Head) → AreOnce (head_symbols h)
once-head (op o) = tt
once-head (symbol f) = (refl, tt)
once-head (const_array s) = tt

mutual
  once-free : (t : Term) → AreOnce (free t)
  once-free (apply h ts) = once-with_more (head_symbols h) (free_of ts) (once-head h) (once-free_of ts)
  once-free (quantified q xs body) = once-filter (λ f. not (is_among (map constant_of xs) f)) (free body) (once-free body)

  once-free_of : (ts : Terms) → AreOnce (free_of ts)
  once-free_of none = tt
  once-free_of (t ⨾ ts) = once-with_more (free t) (free_of ts) (once-free t) (once-free_of ts)

-- ---- what holds of each bit

bits-each : (P : Term → Type 0) (f : Symbol) (i n : ℕ) → ((j : ℕ) → i ≤ j → j < i + n → P (bit_of f j)) → All P (bits_from f i n)
bits-each P f i zero holds = All-nil P
bits-each P f i (suc n) holds =
    All-cons P (bit_of f i) (bits_from f (suc i) n)
    (holds i (omega arith) (omega arith))
    (bits-each P f (suc i) n (λ j low high. holds j (omega arith) (omega arith)))

bits-of-each : (P : Term → Type 0) (fs : List Symbol) → ((f : Symbol) → is_among fs f ≡ true → (j : ℕ) → j < width_of f.result → P (bit_of f j)) → All P (flat_map bits_of_constant fs)
bits-of-each P [] holds = All-nil P
bits-of-each P (f ∷ fs) holds =
    All-append P (bits_of_constant f) (flat_map bits_of_constant fs)
    (bits-each P f 0 (width_of f.result) (λ j low high. holds f (left_true (symbol_eq f f) (is_among fs f) (symbol_itself f)) j (omega arith)))
    (bits-of-each P fs (λ g e. holds g (right_true (symbol_eq f g) (is_among fs g) e)))

-- ---- all bits are different

other-place : (f : Symbol) (i j : ℕ) → i < j → IsOther (bit_of f i) (bit_of f j)
other-place f i j less same = absurd (omega (arith, places))
  where
    places : i ≡ j
    places = cc

other-constant : (f g : Symbol) (i j : ℕ) → f ≢ g → IsOther (bit_of f i) (bit_of g j)
other-constant f g i j apart same = apart cc

different-from : (f : Symbol) (i n : ℕ) → AreDifferent (bits_from f i n)
different-from f i zero = tt
different-from f i (suc n) = (bits-each (IsOther (bit_of f i)) f (suc i) n (λ j low high. other-place f i j (omega arith)), different-from f (suc i) n)

different-bits : (fs : List Symbol) → AreOnce fs → AreDifferent (flat_map bits_of_constant fs)
different-bits [] once = tt
different-bits (f ∷ fs) once =
    different-append (bits_of_constant f) (flat_map bits_of_constant fs) (different-from f 0 (width_of f.result)) (different-bits fs once.1)
    (bits-each (λ t. All (IsOther t) (flat_map bits_of_constant fs)) f 0 (width_of f.result)
    (λ i low high. bits-of-each (IsOther (bit_of f i)) fs (λ g e j less. other-constant f g i j (λ same. absurd (contrary {A = ⊥} (is_among fs f) (ap (is_among fs) same ∙ e) once.0)))))

pub bits-different : (roots : List Term) → AreDifferent (flat_map bits_of_constant (vector_constants roots))
bits-different roots = different-bits (vector_constants roots) (once-filter is_vector (free_of (terms roots)) (once-free_of (terms roots)))

-- ---- the bits that are drawn for

-- a bit of one of these constants
pub record IsBit (fs : List Symbol) (u : Term) : Type 0 where
  pub constant : Symbol
  pub place : ℕ
  pub width : ℕ
  pub args : constant.args ≡ []
  pub result : constant.result ≡ bit_vector width
  pub narrow : width ≤ most_bits
  pub below : place < width
  pub among : is_among fs constant ≡ true
  pub is : u ≡ bit_of constant place

vector-width : (f : Symbol) → is_vector f ≡ true → f.result ≡ bit_vector (width_of f.result)
vector-width f h = go f.result h
  where
    go : (s : Sort) → is_vector (record { name = f.name; args = f.args; result = s }) ≡ true → s ≡ bit_vector (width_of s)
    go (bit_vector w) h = refl
    go _ h = absurd cc

vector-narrow : (s : Sort) (w : ℕ) → s ≡ bit_vector w → is_sort s ≡ true → w ≤ most_bits
vector-narrow s w is fine = leb-true w most_bits (both_true (nat_le 1 w) (nat_le w most_bits) (ap is_sort (sym is) ∙ fine)).1

pub bits-are : (roots : List Term) (s : Supply) → AreBlastable roots s → All (IsBit (free_of (terms roots))) (flat_map bits_of_constant (vector_constants roots))
bits-are roots s blastable = bits-of-each (IsBit fs) (vector_constants roots) each
  where
    fs : List Symbol
    fs = free_of (terms roots)

    each : (f : Symbol) → is_among (vector_constants roots) f ≡ true → (j : ℕ) → j < width_of f.result → IsBit fs (bit_of f j)
    each f among j less =
        let parts = both_true (is_among fs f) (is_vector f) (sym (is_among-filter is_vector fs f) ∙ among) in
        let plain = symbols-plain roots s blastable f parts.0 in
        let wide = vector-width f parts.1 in
        record {
          constant = f;
          place = j;
          width = width_of f.result;
          args = plain.constant.args;
          result = wide;
          narrow = vector-narrow f.result (width_of f.result) wide plain.constant.sort;
          below = less;
          among = parts.0;
          is = refl;
        }

-- ---- the value of a bit

cut_bit : (i : ℕ) (bs : BitVector) → i < length bs → extract i i bs ≡ get_or bs i false ∷ []
cut_bit i bs less = (λ k. take (one k) (rest k))
  where
    one : i + 1 - i ≡ 1
    one = omega arith

    rest : drop i bs ≡ get_or bs i false ∷ drop (suc i) bs
    rest = drop-cons bs i false less

vector-sorted : (f : Symbol) (w : ℕ) → f.args ≡ [] → f.result ≡ bit_vector w → w ≤ most_bits → sort_of (constant f) ≡ Some (bit_vector w)
vector-sorted f w args result narrow = sort_of-apply (symbol f) none [] (bit_vector w) refl (takes-rank (symbol f) [] (bit_vector w) (sym args, sym result) narrow)

cut-sorted : (f : Symbol) (w i : ℕ) → f.args ≡ [] → f.result ≡ bit_vector w → w ≤ most_bits → i < w → sort_of (apply (op (Extract i i)) (constant f ⨾ none)) ≡ Some (bit_vector 1)
unfolding shape
cut-sorted f w i args result narrow less =
    sort_of-apply (op (Extract i i)) (constant f ⨾ none) (bit_vector w ∷ []) (bit_vector 1)
    (more_sorts (constant f) none (bit_vector w) [] (vector-sorted f w args result narrow) refl)
    (takes-rank (op (Extract i i)) (bit_vector w ∷ []) (bit_vector 1) (w, refl, omega arith, less, ap bit_vector one) (omega arith))
  where
    one : 1 ≡ i - i + 1
    one = omega arith

one-sorted : sort_of (bits_term 1 1) ≡ Some (bit_vector 1)
unfolding shape
one-sorted = sort_of-apply (op (Bits 1 1)) none [] (bit_vector 1) refl (takes-rank (op (Bits 1 1)) [] (bit_vector 1) (refl, omega arith, omega arith, refl) (omega arith))

abbrev sides : Symbol → ℕ → Terms
sides f i = apply (op (Extract i i)) (constant f ⨾ none) ⨾ bits_term 1 1 ⨾ none

sides-sorted : (f : Symbol) (w i : ℕ) → f.args ≡ [] → f.result ≡ bit_vector w → w ≤ most_bits → i < w → sorts_of (sides f i) ≡ Some (bit_vector 1 ∷ bit_vector 1 ∷ [])
sides-sorted f w i args result narrow less =
    more_sorts (apply (op (Extract i i)) (constant f ⨾ none)) (bits_term 1 1 ⨾ none) (bit_vector 1) (bit_vector 1 ∷ []) (cut-sorted f w i args result narrow less)
    (more_sorts (bits_term 1 1) none (bit_vector 1) [] one-sorted refl)

-- a bit is a truth value
pub bit-sorted : (fs : List Symbol) (u : Term) → IsBit fs u → sort_of u ≡ Some bool
unfolding shape
bit-sorted fs u b =
    ap sort_of b.is
    ∙ sort_of-apply (op Equal) (sides b.constant b.place) (bit_vector 1 ∷ bit_vector 1 ∷ []) bool (sides-sorted b.constant b.width b.place b.args b.result b.narrow b.below)
    (takes-rank (op Equal) (bit_vector 1 ∷ bit_vector 1 ∷ []) bool (bit_vector 1, refl, refl) (omega arith))

-- where the constant has these bits, its bit is the one at the place
pub bit-holds : (fs : List Symbol) (m : Model) (u : Term) (b : IsBit fs u) (bs : BitVector) → symbol_value m b.constant [] ≡ bits bs → length bs ≡ b.width → holds m u ≡ get_or bs b.place false
unfolding op_value
bit-holds fs m u b bs value long =
    ap (holds m) b.is
    ∙ ap (λ (o : Option (List Sort)). is_true (op_value (background m) Equal (unwrap_or o []) (vals m (sides b.constant b.place) no_variables))) (sides-sorted b.constant b.width b.place b.args b.result b.narrow b.below)
    ∙ ap (λ v. same (bit_vector 1) m.sizes (bits (extract b.place b.place (bits_of v))) (bits (true ∷ []))) value
    ∙ ap (λ cs. same (bit_vector 1) m.sizes (bits cs) (bits (true ∷ []))) (cut_bit b.place bs (carry (λ n. b.place < n) (sym long) b.below))
    ∙ one_bit (get_or bs b.place false)
  where
    one_bit : (a : Bool) → same (bit_vector 1) m.sizes (bits (a ∷ [])) (bits (true ∷ [])) ≡ a
    one_bit true = refl
    one_bit false = refl
