-- What an operator's rank says of scalars, and its value at them.
use Rattle.std.proofs.Common.{◌≡◌, ℕ, zero, suc, ◌+◌, ◌^◌, ◌<◌, ◌≤◌, Bool, true, false, cond, ◌||◌, List, [], ◌∷◌, map, Result, Ok, Err, Some, refl, ap, sym, ◌∙◌, subst, arith, true≢false, replicate, length, nat_lt, Option, None}
use Rattle.std.specs.Prelude.{slice_get, IsOk, IsErr, IfOk, IfErr, IfSome, IfNone, ℤ, pos, negsuc, neg_ℤ, ◌-ℤ◌, unsigned_abs, All}
use Rattle.std.specs.Int.{w128, cast_signed, cast_unsigned}
use Rattle.std.specs.List.{list_any}
use Rattle.std.proofs.lemmas.Int.{to_z-of_z, fits_signed_from_abs}
use Rattle.std.proofs.lemmas.Bool.Decides.{Decides-ltb, Decides-int_eq}
use Rattle.std.proofs.lemmas.List.Elements.{All-nil, All-cons}
use Rattle.std.proofs.lemmas.List.{length-map}
use Rattle.std.specs.Ordering.{int_eq}
use Rattle.std.proofs.Math.IntN.{+ℤ_idl}
use mir.Val.{SFits}
use Rattle.smt_terms.specs.declared.op.Op.{Op}
use Rattle.smt_terms.specs.declared.op.Op.TheVariants.{Truth, Whole, Bits, Sym, Forall, Exists, ConstArray, Not, And, Or, Xor, Implies, Equal, Distinct, Ite, Neg, Sub, Add, Mul, Div, Mod, Abs, Le, Lt, Concat, Extract, BvNot, BvNeg, BvAnd, BvOr, BvXor, BvAdd, BvMul, BvSub, BvUdiv, BvUrem, BvSdiv, BvSrem, BvSmod, BvShl, BvLshr, BvAshr, BvComp, BvUlt, BvUle, BvSlt, BvSle, ZeroExt, SignExt, RotL, RotR, Select, Store}
use Rattle.smt_terms.specs.Sorts.{Sort, bit_vector, array}
use Rattle.smt_terms.specs.Term.{op}
use Rattle.smt_terms.specs.BitVectors.{BitVector, nat2bv}
use Rattle.smt_terms.specs.Values.{Value, truth, whole, bits, bits_of}
use Rattle.smt_terms.specs.Operators.{first_sort, first_value, second_value, vector, vectors, vector_comparison}
use Rattle.smt_terms.specs.Rank.{Fault, Shape, fixed, several, equation, distinctness, choice, whole_number, bit_constant, concatenation, extraction, extension, rotation, bitwise, bitwise_pair, bits_comparison, selection, storing, filling, no_head, shape, width, most_bits, rank}
use Rattle.smt_terms.specs.Val.{value_in_range}
use Rattle.smt_values.specs.declared.apply.Beyond128.{Beyond128}
use Rattle.smt_terms.specs.Takes.{Takes}
use Rattle.smt_terms.proofs.Ranked.{rank-takes, rank-narrow}
use Rattle.smt_values.specs.Meaning.{scalar_value, scalar_sort}
use Rattle.smt_values.specs.Applied.{TakesOperands, HasValue, IsBeyond, IsWithin}
use Rattle.smt_values.specs.Operands.{IsWordAt, IsPair}
use Rattle.smt_values.specs.WordShapes.{on_words, on_pairs, TakesWords, TakesPair}
use Rattle.smt_values.specs.declared.scalar.Scalar.{Scalar}
use Rattle.smt_values.specs.declared.scalar.Scalar.TheVariants.{Truth as TruthOf, Whole as WholeOf, Bits as BitsOf}

-- the sort that the rank gives
pub record Taken (o : Op) (args : List Scalar) : Type 0 where
  pub sort : Sort
  pub takes : Takes (shape o) (map scalar_sort args) sort
  pub narrow : width sort ≤ most_bits

pub taken : (o : Op) (args : List Scalar) → TakesOperands o args → Taken o args
taken o args h = by (rank (op o) (map scalar_sort args)) refl h
  where
    by : (r : Result Sort Fault) → rank (op o) (map scalar_sort args) ≡ r → IsOk r → Taken o args
    by (Ok s) e k = record { sort = s; takes = rank-takes (op o) (map scalar_sort args) s e; narrow = rank-narrow (op o) (map scalar_sort args) s e }
    by (Err f) e k = absurd (true≢false (sym k))

-- ---- scalars of the sort of bit vectors

sort_is_word : (a : Scalar) (w : ℕ) → scalar_sort a ≡ bit_vector w → (n : ℕ) × (a ≡ BitsOf w n)
sort_is_word (TruthOf b) w e = absurd cc
sort_is_word (WholeOf z) w e = absurd cc
sort_is_word (BitsOf v n) w e = (n, ap (λ k. BitsOf k n) (ap width e))

first_word : (args : List Scalar) (w : ℕ) (rest : List Sort) → map scalar_sort args ≡ bit_vector w ∷ rest → (n : ℕ) × (slice_get args 0 ≡ Some (BitsOf w n))
first_word [] w rest e = absurd cc
first_word (a ∷ bs) w rest e = let told = sort_is_word a w cc in (told.0, ap (λ x. Some x) told.1)

second_word : (args : List Scalar) (s : Sort) (w : ℕ) (rest : List Sort) → map scalar_sort args ≡ s ∷ bit_vector w ∷ rest → (n : ℕ) × (slice_get args 1 ≡ Some (BitsOf w n))
second_word [] s w rest e = absurd cc
second_word (a ∷ []) s w rest e = absurd cc
second_word (a ∷ b ∷ bs) s w rest e = let told = sort_is_word b w cc in (told.0, ap (λ x. Some x) told.1)

width_told : (v w m n : ℕ) → ◌≡◌ {A = _} (Some (BitsOf v m)) (Some (BitsOf w n)) → v ≡ w
width_told v w m n e = cc

-- the words that operators on words take
words_first : (h : Shape) (ss : List Sort) (s : Sort) → on_words h ≡ true → Takes h ss s → (w : ℕ) × (rest : List Sort) × (ss ≡ bit_vector w ∷ rest)
words_first concatenation ss s h t = (t.0, bit_vector t.1 ∷ [], t.2)
words_first (extraction _ _) ss s h t = (t.0, [], t.1)
words_first (extension _) ss s h t = (t.0, [], t.1)
words_first (rotation _) ss s h t = (t.0, [], t.1)
words_first bitwise ss s h t = (t.0, [], t.1)
words_first bitwise_pair ss s h t = (t.0, bit_vector t.0 ∷ [], t.1)
words_first (bits_comparison _) ss s h t = (t.0, bit_vector t.0 ∷ [], t.1)
words_first (fixed _ _) ss s h t = absurd (true≢false (sym h))
words_first (several _) ss s h t = absurd (true≢false (sym h))
words_first equation ss s h t = absurd (true≢false (sym h))
words_first distinctness ss s h t = absurd (true≢false (sym h))
words_first choice ss s h t = absurd (true≢false (sym h))
words_first (whole_number _) ss s h t = absurd (true≢false (sym h))
words_first (bit_constant _ _) ss s h t = absurd (true≢false (sym h))
words_first selection ss s h t = absurd (true≢false (sym h))
words_first storing ss s h t = absurd (true≢false (sym h))
words_first (filling _) ss s h t = absurd (true≢false (sym h))
words_first no_head ss s h t = absurd (true≢false (sym h))

pub takes_word : (o : Op) (args : List Scalar) → TakesWords o → TakesOperands o args → IsWordAt args 0
takes_word o args h k =
    let t = taken o args k in
    let first = words_first (shape o) (map scalar_sort args) t.sort h t.takes in
    let told = first_word args first.0 first.1 first.2 in
    (first.0, told.0, told.1)

pairs_both : (h : Shape) (ss : List Sort) (s : Sort) → on_pairs h ≡ true → Takes h ss s → (w : ℕ) × (ss ≡ bit_vector w ∷ bit_vector w ∷ [])
pairs_both bitwise_pair ss s h t = (t.0, t.1)
pairs_both (bits_comparison _) ss s h t = (t.0, t.1)
pairs_both concatenation ss s h t = absurd (true≢false (sym h))
pairs_both (extraction _ _) ss s h t = absurd (true≢false (sym h))
pairs_both (extension _) ss s h t = absurd (true≢false (sym h))
pairs_both (rotation _) ss s h t = absurd (true≢false (sym h))
pairs_both bitwise ss s h t = absurd (true≢false (sym h))
pairs_both (fixed _ _) ss s h t = absurd (true≢false (sym h))
pairs_both (several _) ss s h t = absurd (true≢false (sym h))
pairs_both equation ss s h t = absurd (true≢false (sym h))
pairs_both distinctness ss s h t = absurd (true≢false (sym h))
pairs_both choice ss s h t = absurd (true≢false (sym h))
pairs_both (whole_number _) ss s h t = absurd (true≢false (sym h))
pairs_both (bit_constant _ _) ss s h t = absurd (true≢false (sym h))
pairs_both selection ss s h t = absurd (true≢false (sym h))
pairs_both storing ss s h t = absurd (true≢false (sym h))
pairs_both (filling _) ss s h t = absurd (true≢false (sym h))
pairs_both no_head ss s h t = absurd (true≢false (sym h))

pub takes_pair : (o : Op) (args : List Scalar) → TakesPair o → TakesOperands o args → IsPair args
takes_pair o args h k =
    let t = taken o args k in
    let both = pairs_both (shape o) (map scalar_sort args) t.sort h t.takes in
    let first = first_word args both.0 (bit_vector both.0 ∷ []) both.1 in
    let second = second_word args (bit_vector both.0) both.0 [] both.1 in
    (both.0, first.0, second.0, first.1, second.1)

-- ---- what the indices of operators are

pub extract_fits : (high low : ℕ) (args : List Scalar) (v m : ℕ) → TakesOperands (Extract high low) args → slice_get args 0 ≡ Some (BitsOf v m) → (low ≤ high) × (high < v)
unfolding shape
extract_fits high low args v m h e =
    let t = (taken (Extract high low) args h).takes in
    let same = width_told t.0 v (first_word args t.0 [] t.1).0 m (sym (first_word args t.0 [] t.1).1 ∙ e) in
    (t.2, subst (λ k. high < k) same t.3)

pub concat_second : (args : List Scalar) → TakesOperands Concat args → IsWordAt args 1
unfolding shape
concat_second args h =
    let t = (taken Concat args h).takes in
    let second = second_word args (bit_vector t.0) t.1 [] t.2 in
    (t.1, second.0, second.1)

pub concat_fits : (args : List Scalar) (v m w n : ℕ) → TakesOperands Concat args → slice_get args 0 ≡ Some (BitsOf v m) → slice_get args 1 ≡ Some (BitsOf w n) → v + w ≤ 128
unfolding shape
concat_fits args v m w n h e f =
    let all = taken Concat args h in
    let t = all.takes in
    let first = first_word args t.0 (bit_vector t.1 ∷ []) t.2 in
    let second = second_word args (bit_vector t.0) t.1 [] t.2 in
    let left = width_told t.0 v first.0 m (sym first.1 ∙ e) in
    let right = width_told t.1 w second.0 n (sym second.1 ∙ f) in
    let sum : width all.sort ≡ t.0 + t.1 = ap width t.3 in
    omega (arith, all.narrow)

pub extension_fits : (o : Op) (i : ℕ) (args : List Scalar) (v m : ℕ) → shape o ≡ extension i → TakesOperands o args → slice_get args 0 ≡ Some (BitsOf v m) → v + i ≤ 128
extension_fits o i args v m g h e =
    let all = taken o args h in
    let t : Takes (extension i) (map scalar_sort args) all.sort = subst (λ k. Takes k (map scalar_sort args) all.sort) g all.takes in
    let first = first_word args t.0 [] t.1 in
    let same = width_told t.0 v first.0 m (sym first.1 ∙ e) in
    let sum : width all.sort ≡ t.0 + i = ap width t.2 in
    omega (arith, all.narrow)

pub rotation_fits : (o : Op) (i : ℕ) (args : List Scalar) (v m : ℕ) → shape o ≡ rotation i → TakesOperands o args → slice_get args 0 ≡ Some (BitsOf v m) → i < v
rotation_fits o i args v m g h e =
    let all = taken o args h in
    let t : Takes (rotation i) (map scalar_sort args) all.sort = subst (λ k. Takes k (map scalar_sort args) all.sort) g all.takes in
    let first = first_word args t.0 [] t.1 in
    let same = width_told t.0 v first.0 m (sym first.1 ∙ e) in
    subst (λ k. i < k) same t.2

-- ---- values

pub first_is : (args : List Scalar) (v m : ℕ) → slice_get args 0 ≡ Some (BitsOf v m) → first_value (map scalar_value args) ≡ bits (nat2bv v m)
first_is [] v m e = absurd cc
first_is (a ∷ bs) v m e = let same : a ≡ BitsOf v m = cc in ap scalar_value same

pub second_is : (args : List Scalar) (v m : ℕ) → slice_get args 1 ≡ Some (BitsOf v m) → second_value (map scalar_value args) ≡ bits (nat2bv v m)
second_is [] v m e = absurd cc
second_is (a ∷ []) v m e = absurd cc
second_is (a ∷ b ∷ bs) v m e = let same : b ≡ BitsOf v m = cc in ap scalar_value same

scalar_is : (x : Scalar) (u k r : ℕ) (bs : BitVector) → x ≡ BitsOf u r → u ≡ k → nat2bv k r ≡ bs → bits bs ≡ scalar_value x
scalar_is x u k r bs e f h = ap bits (sym h) ∙ ap (λ j. bits (nat2bv j r)) (sym f) ∙ ap scalar_value (sym e)

pub vector_value : (f : BitVector → BitVector) (args : List Scalar) (v m u k r : ℕ) (x : Scalar) → slice_get args 0 ≡ Some (BitsOf v m) → x ≡ BitsOf u r → u ≡ k → nat2bv k r ≡ f (nat2bv v m) → vector f (map scalar_value args) ≡ scalar_value x
vector_value f args v m u k r x first e g h = ap (λ a. bits (f (bits_of a))) (first_is args v m first) ∙ scalar_is x u k r (f (nat2bv v m)) e g h

-- of two words of widths of their own, and of one width
pub both_value : (f : BitVector → BitVector → BitVector) (args : List Scalar) (v m w n u k r : ℕ) (x : Scalar) → slice_get args 0 ≡ Some (BitsOf v m) → slice_get args 1 ≡ Some (BitsOf w n) → x ≡ BitsOf u r → u ≡ k → nat2bv k r ≡ f (nat2bv v m) (nat2bv w n) → vectors f (map scalar_value args) ≡ scalar_value x
both_value f args v m w n u k r x first second e g h =
    (λ i. bits (f (bits_of (first_is args v m first i)) (bits_of (second_is args w n second i)))) ∙ scalar_is x u k r (f (nat2bv v m) (nat2bv w n)) e g h

pub pair_value : (f : BitVector → BitVector → BitVector) (args : List Scalar) (v m w n u k r : ℕ) (x : Scalar) → slice_get args 0 ≡ Some (BitsOf v m) → slice_get args 1 ≡ Some (BitsOf w n) → w ≡ v → x ≡ BitsOf u r → u ≡ k → nat2bv k r ≡ f (nat2bv v m) (nat2bv v n) → vectors f (map scalar_value args) ≡ scalar_value x
pair_value f args v m w n u k r x first second same e g h = both_value f args v m w n u k r x first second e g (h ∙ ap (λ j. f (nat2bv v m) (nat2bv j n)) (sym same))

pub pair_truth : (f : BitVector → BitVector → Bool) (args : List Scalar) (v m w n : ℕ) (t : Bool) → slice_get args 0 ≡ Some (BitsOf v m) → slice_get args 1 ≡ Some (BitsOf w n) → w ≡ v → t ≡ f (nat2bv v m) (nat2bv v n) → vector_comparison f (map scalar_value args) ≡ truth t
pair_truth f args v m w n t first second same h =
    (λ i. truth (f (bits_of (first_is args v m first i)) (bits_of ((second_is args w n second ∙ ap (λ j. bits (nat2bv j n)) same) i)))) ∙ ap truth (sym h)

-- ---- which operators are left behind others

pub record NoPair (o : Op) : Type 0 where
  pub concat : o ≡ Concat → ⊥
  pub extract : (high low : ℕ) → o ≡ Extract high low → ⊥
  pub bvnot : o ≡ BvNot → ⊥
  pub bvneg : o ≡ BvNeg → ⊥
  pub zero_ext : (i : ℕ) → o ≡ ZeroExt i → ⊥
  pub sign_ext : (i : ℕ) → o ≡ SignExt i → ⊥
  pub rot_l : (i : ℕ) → o ≡ RotL i → ⊥
  pub rot_r : (i : ℕ) → o ≡ RotR i → ⊥

pub pairs_left : (o : Op) → NoPair o → TakesWords o → TakesPair o
unfolding shape
pairs_left Concat n h = absurd (n.concat refl)
pairs_left (Extract high low) n h = absurd (n.extract high low refl)
pairs_left BvNot n h = absurd (n.bvnot refl)
pairs_left BvNeg n h = absurd (n.bvneg refl)
pairs_left (ZeroExt i) n h = absurd (n.zero_ext i refl)
pairs_left (SignExt i) n h = absurd (n.sign_ext i refl)
pairs_left (RotL i) n h = absurd (n.rot_l i refl)
pairs_left (RotR i) n h = absurd (n.rot_r i refl)
pairs_left _ n h = h

-- one of the operators of two words that are named
pub record OtherPair (o : Op) : Type 0 where
  pub bvand : o ≡ BvAnd → ⊥
  pub bvor : o ≡ BvOr → ⊥
  pub bvxor : o ≡ BvXor → ⊥
  pub bvadd : o ≡ BvAdd → ⊥
  pub bvmul : o ≡ BvMul → ⊥
  pub bvsub : o ≡ BvSub → ⊥
  pub bvudiv : o ≡ BvUdiv → ⊥
  pub bvurem : o ≡ BvUrem → ⊥
  pub bvsdiv : o ≡ BvSdiv → ⊥
  pub bvsrem : o ≡ BvSrem → ⊥
  pub bvsmod : o ≡ BvSmod → ⊥
  pub bvshl : o ≡ BvShl → ⊥
  pub bvlshr : o ≡ BvLshr → ⊥
  pub bvashr : o ≡ BvAshr → ⊥
  pub bvcomp : o ≡ BvComp → ⊥
  pub bvult : o ≡ BvUlt → ⊥
  pub bvule : o ≡ BvUle → ⊥
  pub bvslt : o ≡ BvSlt → ⊥
  pub bvsle : o ≡ BvSle → ⊥

pub no_pair_left : (o : Op) → OtherPair o → TakesPair o → ⊥
unfolding shape
no_pair_left BvAnd n h = n.bvand refl
no_pair_left BvOr n h = n.bvor refl
no_pair_left BvXor n h = n.bvxor refl
no_pair_left BvAdd n h = n.bvadd refl
no_pair_left BvMul n h = n.bvmul refl
no_pair_left BvSub n h = n.bvsub refl
no_pair_left BvUdiv n h = n.bvudiv refl
no_pair_left BvUrem n h = n.bvurem refl
no_pair_left BvSdiv n h = n.bvsdiv refl
no_pair_left BvSrem n h = n.bvsrem refl
no_pair_left BvSmod n h = n.bvsmod refl
no_pair_left BvShl n h = n.bvshl refl
no_pair_left BvLshr n h = n.bvlshr refl
no_pair_left BvAshr n h = n.bvashr refl
no_pair_left BvComp n h = n.bvcomp refl
no_pair_left BvUlt n h = n.bvult refl
no_pair_left BvUle n h = n.bvule refl
no_pair_left BvSlt n h = n.bvslt refl
no_pair_left BvSle n h = n.bvsle refl
no_pair_left _ n h = true≢false (sym h)

-- an operator of bit vectors, or one that takes no scalars
pub record NoEarlier (o : Op) : Type 0 where
  pub is_truth : (b : Bool) → o ≡ Truth b → ⊥
  pub is_whole : (n : ℤ) → o ≡ Whole n → ⊥
  pub is_bits : (w n : ℕ) → o ≡ Bits w n → ⊥
  pub is_not : o ≡ Not → ⊥
  pub is_and : o ≡ And → ⊥
  pub is_or : o ≡ Or → ⊥
  pub is_xor : o ≡ Xor → ⊥
  pub is_implies : o ≡ Implies → ⊥
  pub is_equal : o ≡ Equal → ⊥
  pub is_distinct : o ≡ Distinct → ⊥
  pub is_ite : o ≡ Ite → ⊥
  pub is_neg : o ≡ Neg → ⊥
  pub is_sub : o ≡ Sub → ⊥
  pub is_add : o ≡ Add → ⊥
  pub is_mul : o ≡ Mul → ⊥
  pub is_div : o ≡ Div → ⊥
  pub is_mod : o ≡ Mod → ⊥
  pub is_abs : o ≡ Abs → ⊥
  pub is_le : o ≡ Le → ⊥
  pub is_lt : o ≡ Lt → ⊥

no_array : (args : List Scalar) (i e : Sort) (rest : List Sort) → map scalar_sort args ≡ array i e ∷ rest → ⊥
no_array [] i e rest h = cc
no_array (TruthOf b ∷ bs) i e rest h = cc
no_array (WholeOf z ∷ bs) i e rest h = cc
no_array (BitsOf w n ∷ bs) i e rest h = cc

pub words_left : (o : Op) (args : List Scalar) → NoEarlier o → TakesOperands o args → TakesWords o
unfolding shape
words_left (Truth b) args n h = absurd (n.is_truth b refl)
words_left (Whole z) args n h = absurd (n.is_whole z refl)
words_left (Bits w k) args n h = absurd (n.is_bits w k refl)
words_left Not args n h = absurd (n.is_not refl)
words_left And args n h = absurd (n.is_and refl)
words_left Or args n h = absurd (n.is_or refl)
words_left Xor args n h = absurd (n.is_xor refl)
words_left Implies args n h = absurd (n.is_implies refl)
words_left Equal args n h = absurd (n.is_equal refl)
words_left Distinct args n h = absurd (n.is_distinct refl)
words_left Ite args n h = absurd (n.is_ite refl)
words_left Neg args n h = absurd (n.is_neg refl)
words_left Sub args n h = absurd (n.is_sub refl)
words_left Add args n h = absurd (n.is_add refl)
words_left Mul args n h = absurd (n.is_mul refl)
words_left Div args n h = absurd (n.is_div refl)
words_left Mod args n h = absurd (n.is_mod refl)
words_left Abs args n h = absurd (n.is_abs refl)
words_left Le args n h = absurd (n.is_le refl)
words_left Lt args n h = absurd (n.is_lt refl)
words_left (Sym f) args n h = absurd (taken (Sym f) args h).takes
words_left Forall args n h = absurd (taken Forall args h).takes
words_left Exists args n h = absurd (taken Exists args h).takes
words_left (ConstArray s) args n h = absurd (taken (ConstArray s) args h).takes
words_left Select args n h = let t = taken Select args h in absurd (no_array args t.takes.0 t.sort (t.takes.0 ∷ []) t.takes.1)
words_left Store args n h = let t = (taken Store args h).takes in absurd (no_array args t.0 t.1 (t.0 ∷ t.1 ∷ []) t.2)
words_left _ args n h = refl

-- ---- constants

pub whole_fits : (n : ℤ) (args : List Scalar) → TakesOperands (Whole n) args → unsigned_abs n < 2 ^ 127
unfolding shape
whole_fits n args h = (taken (Whole n) args h).takes.1

pub bits_fit : (w n : ℕ) (args : List Scalar) → TakesOperands (Bits w n) args → (1 ≤ w) × (w ≤ 128) × (n < 2 ^ w)
unfolding shape
bits_fit w n args h =
    let t = taken (Bits w n) args h in
    let same : width t.sort ≡ w = ap width t.takes.3 in
    (omega (arith, t.takes.1), omega (arith, t.narrow), t.takes.2)

-- ---- operands of one sort

sorts_alike : (args : List Scalar) (t : Sort) (n : ℕ) → map scalar_sort args ≡ replicate n t → All (λ a. scalar_sort a ≡ t) args
sorts_alike [] t n e = All-nil (λ a. scalar_sort a ≡ t)
sorts_alike (a ∷ bs) t zero e = absurd cc
sorts_alike (a ∷ bs) t (suc n) e =
    let first : scalar_sort a ≡ t = cc in
    let rest : map scalar_sort bs ≡ replicate n t = cc in
    All-cons (λ a. scalar_sort a ≡ t) a bs first (sorts_alike bs t n rest)

-- two operands or more of one sort
pub record Alike (args : List Scalar) : Type 0 where
  pub sort : Sort
  pub all : All (λ a. scalar_sort a ≡ sort) args
  pub first : first_sort (map scalar_sort args) ≡ sort
  pub two : 1 < length args

pub equal_alike : (args : List Scalar) → TakesOperands Equal args → Alike args
unfolding shape
equal_alike args h =
    let t = (taken Equal args h).takes in
    record { sort = t.0; all = sorts_alike args t.0 2 t.1; first = ap first_sort t.1; two = omega (arith, length-map args scalar_sort, ap length t.1) }

pub distinct_alike : (args : List Scalar) → TakesOperands Distinct args → Alike args
unfolding shape
distinct_alike args h =
    let t = (taken Distinct args h).takes in
    record { sort = t.0; all = sorts_alike args t.0 (suc (suc t.1)) t.2; first = ap first_sort t.2; two = omega (arith, length-map args scalar_sort, ap length t.2) }

pub ite_three : (args : List Scalar) → TakesOperands Ite args → 2 < length args
unfolding shape
ite_three args h = omega (arith, length-map args scalar_sort, ap length (taken Ite args h).takes.1)

-- ---- whole numbers within the range

pub within_value : (o : Op) (args : List Scalar) (n : Option ℤ) (z : ℤ) (r : Result Scalar Beyond128) → IsWithin n z → IfSome n (λ m. r ≡ Ok (WholeOf m)) → IfNone n (IsErr r) → HasValue o args (whole z) → IfOk r (λ x. HasValue o args (scalar_value x))
within_value o args (Some m) z r w some none v = subst (λ r. IfOk r (λ x. HasValue o args (scalar_value x))) (sym some) (λ c. v c ∙ ap whole (sym w.0))
within_value o args None z (Ok x) w some none v = absurd (true≢false (sym none))
within_value o args None z (Err e) w some none v = tt

outside : (z : ℤ) → 2 ^ 127 ≤ unsigned_abs z → value_in_range (whole z) ≡ false
outside z le = by (nat_lt (unsigned_abs z) (2 ^ 127)) refl
  where
    by : (c : Bool) → nat_lt (unsigned_abs z) (2 ^ 127) ≡ c → c ≡ false
    by true e = let lt = (Decides-ltb (unsigned_abs z) (2 ^ 127)).0 e in absurd (omega arith)
    by false e = refl

pub within_beyond : (o : Op) (args : List Scalar) (n : Option ℤ) (z : ℤ) (r : Result Scalar Beyond128) → IsWithin n z → IfSome n (λ m. r ≡ Ok (WholeOf m)) → IfNone n (IsErr r) → HasValue o args (whole z) → IfErr r (λ _. IsBeyond o args)
within_beyond o args (Some m) z r w some none v = subst (λ r. IfErr r (λ _. IsBeyond o args)) (sym some) tt
within_beyond o args None z (Ok x) w some none v = absurd (true≢false (sym none))
within_beyond o args None z (Err e) w some none v = λ c. ap value_in_range (v c) ∙ outside z w

neg_fits : (z : ℤ) → unsigned_abs z < 2 ^ 127 → unsigned_abs (neg_ℤ z) < 2 ^ 127
neg_fits (pos zero) h = h
neg_fits (pos (suc n)) h = h
neg_fits (negsuc n) h = h

pub negated : (z n : ℤ) → SFits w128 z → z ≡ n → unsigned_abs z < 2 ^ 127 → neg_ℤ n ≡ cast_signed w128 (cast_unsigned w128 (pos 0 -ℤ cast_signed w128 (cast_unsigned w128 z)))
negated z n f e h =
    let opposite : pos 0 -ℤ cast_signed w128 (cast_unsigned w128 z) ≡ neg_ℤ z = ap (λ x. pos 0 -ℤ x) (to_z-of_z w128 z f) ∙ +ℤ_idl (neg_ℤ z) in
    ap neg_ℤ (sym e) ∙ sym (ap (λ x. cast_signed w128 (cast_unsigned w128 x)) opposite ∙ to_z-of_z w128 (neg_ℤ z) (fits_signed_from_abs w128 (neg_ℤ z) (neg_fits z h)))

pub other_divisor : (n x y : ℤ) → (n ≡ pos 0 → ⊥) → cond (int_eq n (pos 0)) x y ≡ y
other_divisor n x y h = by (int_eq n (pos 0)) refl
  where
    by : (c : Bool) → int_eq n (pos 0) ≡ c → cond c x y ≡ y
    by true e = absurd (h ((Decides-int_eq n (pos 0)).0 e))
    by false e = refl

pub list_any-map : (p : Value → Bool) (f : Scalar → Value) (args : List Scalar) → list_any p (map f args) ≡ list_any (λ a. p (f a)) args
list_any-map p f [] = refl
list_any-map p f (a ∷ bs) = ap (λ c. p (f a) || c) (list_any-map p f bs)
