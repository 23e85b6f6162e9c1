-- The operators that can stand in a formula of bits, by the operands that they take.
use Rattle.std.proofs.Common.{◌≡◌, ℕ, zero, suc, ◌+◌, ◌-◌, ◌<◌, ◌≤◌, Bool, true, List, [], ◌∷◌, replicate, map, Ok, Some, refl, ap, sym, ◌∙◌, subst}
use Rattle.smt_terms.specs.declared.op.Op.{Op}
use Rattle.smt_terms.specs.declared.op.Op.TheVariants.{Truth, Whole, Bits, Sym, Forall, Exists, ConstArray, Not, And, Or, Xor, Implies, Equal, Distinct, Ite, Neg, Sub, Add, Mul, Div, Mod, Abs, Le, Lt, Concat, Extract, BvNot, BvNeg, BvAnd, BvOr, BvXor, BvAdd, BvMul, BvSub, BvUdiv, BvUrem, BvSdiv, BvSrem, BvSmod, BvShl, BvLshr, BvAshr, BvComp, BvUlt, BvUle, BvSlt, BvSle, ZeroExt, SignExt, RotL, RotR, Select, Store}
use Rattle.smt_terms.specs.Sorts.{Sort, bool, int, bit_vector, array}
use Rattle.smt_terms.specs.Term.{op}
use Rattle.smt_terms.specs.Rank.{shape, rank}
use Rattle.smt_terms.specs.Takes.{Takes}
use Rattle.smt_terms.proofs.Ranked.{rank-takes}
use Rattle.bit_blast.specs.Blasted.{is_bits_sort}
use Rattle.bit_blast.specs.Circuits.{Gates, connective, only_bit, circuit}
use Rattle.bit_blast.proofs.CircuitStatements.{Fit, fit_more, IsOnBits}

-- ---- the operators of a kind

-- those whose circuit they are themselves
pub data Connective : Op → Type 0 where
  is_truth : (b : Bool) → Connective (Truth b)
  is_not : Connective Not
  is_and : Connective And
  is_or : Connective Or
  is_xor : Connective Xor
  is_implies : Connective Implies

-- those of one bit vector that give as many bits
pub data OfVector : Op → Type 0 where
  is_bvnot : OfVector BvNot
  is_bvneg : OfVector BvNeg
  is_rotl : (i : ℕ) → OfVector (RotL i)
  is_rotr : (i : ℕ) → OfVector (RotR i)

-- those that put so many bits above
pub data Extension : Op → ℕ → Type 0 where
  is_zero_ext : (i : ℕ) → Extension (ZeroExt i) i
  is_sign_ext : (i : ℕ) → Extension (SignExt i) i

-- those of two bit vectors of one width that give as many bits
pub data OfVectors : Op → Type 0 where
  is_bvand : OfVectors BvAnd
  is_bvor : OfVectors BvOr
  is_bvxor : OfVectors BvXor
  is_bvadd : OfVectors BvAdd
  is_bvmul : OfVectors BvMul
  is_bvsub : OfVectors BvSub
  is_bvudiv : OfVectors BvUdiv
  is_bvurem : OfVectors BvUrem
  is_bvsdiv : OfVectors BvSdiv
  is_bvsrem : OfVectors BvSrem
  is_bvsmod : OfVectors BvSmod
  is_bvshl : OfVectors BvShl
  is_bvlshr : OfVectors BvLshr
  is_bvashr : OfVectors BvAshr

-- those of two bit vectors of one width that give one bit
pub data Comparison : Op → Sort → Type 0 where
  is_bvcomp : Comparison BvComp (bit_vector 1)
  is_bvult : Comparison BvUlt bool
  is_bvule : Comparison BvUle bool
  is_bvslt : Comparison BvSlt bool
  is_bvsle : Comparison BvSle bool

-- ---- an operator over operands of these sorts, which gives that sort

pub data BitOperator : Op → List Sort → Sort → Type 0 where
  of_none : (width n : ℕ) → 0 < width → BitOperator (Bits width n) [] (bit_vector width)
  of_flags : {o : Op} (n : ℕ) → Connective o → rank (op o) (replicate n bool) ≡ Ok bool → BitOperator o (replicate n bool) bool
  of_equals : (t : Sort) → BitOperator Equal (t ∷ t ∷ []) bool
  of_several : (t : Sort) (n : ℕ) → BitOperator Distinct (t ∷ t ∷ replicate n t) bool
  of_choice : (t : Sort) → BitOperator Ite (bool ∷ t ∷ t ∷ []) t
  of_parts : (v w : ℕ) → BitOperator Concat (bit_vector v ∷ bit_vector w ∷ []) (bit_vector (v + w))
  of_part : (high low w : ℕ) → low ≤ high → high < w → BitOperator (Extract high low) (bit_vector w ∷ []) (bit_vector (high - low + 1))
  of_vector : {o : Op} (w : ℕ) → OfVector o → BitOperator o (bit_vector w ∷ []) (bit_vector w)
  of_extension : {o : Op} {i : ℕ} (w : ℕ) → Extension o i → BitOperator o (bit_vector w ∷ []) (bit_vector (w + i))
  of_vectors : {o : Op} (w : ℕ) → OfVectors o → BitOperator o (bit_vector w ∷ bit_vector w ∷ []) (bit_vector w)
  of_comparison : {o : Op} {s : Sort} (w : ℕ) → Comparison o s → BitOperator o (bit_vector w ∷ bit_vector w ∷ []) s

at : {o : Op} (ss : List Sort) (s : Sort) (us : List Sort) (r : Sort) → ss ≡ us → s ≡ r → BitOperator o us r → BitOperator o ss s
at {o} ss s us r operands result b = subst (λ x. BitOperator o x s) (sym operands) (subst (λ y. BitOperator o us y) (sym result) b)

flags : (o : Op) (ss : List Sort) (s : Sort) (n : ℕ) → Connective o → ss ≡ replicate n bool → s ≡ bool → rank (op o) ss ≡ Ok s → BitOperator o ss s
flags o ss s n c operands result ranked =
    at ss s (replicate n bool) bool operands result (of_flags n c (ap (rank (op o)) (sym operands) ∙ ranked ∙ ap (λ r. Ok r) result))

-- ---- what is ruled out: results and first operands that are whole numbers, and arrays

no_whole : {A : Type 0} (s : Sort) → s ≡ int → is_bits_sort (Some s) ≡ true → A
no_whole s e h = let wrong : is_bits_sort (Some int) ≡ true = subst (λ t. is_bits_sort (Some t) ≡ true) e h in absurd cc

no_array : {A : Type 0} (s i e : Sort) → s ≡ array i e → is_bits_sort (Some s) ≡ true → A
no_array s i e q h = let wrong : is_bits_sort (Some (array i e)) ≡ true = subst (λ t. is_bits_sort (Some t) ≡ true) q h in absurd cc

first_fits : {A : Type 0} (s : Sort) (ss : List Sort) (uss : List (List A)) → Fit (s ∷ ss) uss → is_bits_sort (Some s) ≡ true
first_fits s ss uss (fit_more fine some width fit) = fine

starts_fitting : {A : Type 0} (s : Sort) (rs ss : List Sort) (uss : List (List A)) → ss ≡ s ∷ rs → Fit ss uss → is_bits_sort (Some s) ≡ true
starts_fitting s rs ss uss e fit = first_fits s rs uss (subst (λ us. Fit us uss) e fit)

-- ---- the kind of each

module _ {A : Type 0} (ss : List Sort) (s : Sort) (uss : List (List A)) (fine : is_bits_sort (Some s) ≡ true) (fit : Fit ss uss) where
  operator : (o : Op) → rank (op o) ss ≡ Ok s → Takes (shape o) ss s → BitOperator o ss s
  unfolding shape
  operator (Truth b) r t = flags (Truth b) ss s 0 (is_truth b) t.0 t.1 r
  operator (Whole n) r t = no_whole s t.2 fine
  operator (Bits width n) r t = at ss s [] (bit_vector width) t.0 t.3 (of_none width n t.1)
  operator Not r t = flags Not ss s 1 is_not t.0 t.1 r
  operator And r t = flags And ss s (suc (suc t.0)) is_and t.1 t.2 r
  operator Or r t = flags Or ss s (suc (suc t.0)) is_or t.1 t.2 r
  operator Xor r t = flags Xor ss s 2 is_xor t.0 t.1 r
  operator Implies r t = flags Implies ss s 2 is_implies t.0 t.1 r
  operator Equal r t = at ss s (t.0 ∷ t.0 ∷ []) bool t.1 t.2 (of_equals t.0)
  operator Distinct r t = at ss s (t.0 ∷ t.0 ∷ replicate t.1 t.0) bool t.2 t.3 (of_several t.0 t.1)
  operator Ite r t = at ss s (bool ∷ t.0 ∷ t.0 ∷ []) t.0 t.1 t.2 (of_choice t.0)
  operator Neg r t = no_whole s t.1 fine
  operator Sub r t = no_whole s t.1 fine
  operator Add r t = no_whole s t.2 fine
  operator Mul r t = no_whole s t.2 fine
  operator Div r t = no_whole s t.1 fine
  operator Mod r t = no_whole s t.1 fine
  operator Abs r t = no_whole s t.1 fine
  operator Le r t = no_whole int refl (starts_fitting int (int ∷ []) ss uss t.0 fit)
  operator Lt r t = no_whole int refl (starts_fitting int (int ∷ []) ss uss t.0 fit)
  operator Concat r t = at ss s (bit_vector t.0 ∷ bit_vector t.1 ∷ []) (bit_vector (t.0 + t.1)) t.2 t.3 (of_parts t.0 t.1)
  operator (Extract high low) r t = at ss s (bit_vector t.0 ∷ []) (bit_vector (high - low + 1)) t.1 t.4 (of_part high low t.0 t.2 t.3)
  operator BvNot r t = at ss s (bit_vector t.0 ∷ []) (bit_vector t.0) t.1 t.2 (of_vector t.0 is_bvnot)
  operator BvNeg r t = at ss s (bit_vector t.0 ∷ []) (bit_vector t.0) t.1 t.2 (of_vector t.0 is_bvneg)
  operator BvAnd r t = at ss s (bit_vector t.0 ∷ bit_vector t.0 ∷ []) (bit_vector t.0) t.1 t.2 (of_vectors t.0 is_bvand)
  operator BvOr r t = at ss s (bit_vector t.0 ∷ bit_vector t.0 ∷ []) (bit_vector t.0) t.1 t.2 (of_vectors t.0 is_bvor)
  operator BvXor r t = at ss s (bit_vector t.0 ∷ bit_vector t.0 ∷ []) (bit_vector t.0) t.1 t.2 (of_vectors t.0 is_bvxor)
  operator BvAdd r t = at ss s (bit_vector t.0 ∷ bit_vector t.0 ∷ []) (bit_vector t.0) t.1 t.2 (of_vectors t.0 is_bvadd)
  operator BvMul r t = at ss s (bit_vector t.0 ∷ bit_vector t.0 ∷ []) (bit_vector t.0) t.1 t.2 (of_vectors t.0 is_bvmul)
  operator BvSub r t = at ss s (bit_vector t.0 ∷ bit_vector t.0 ∷ []) (bit_vector t.0) t.1 t.2 (of_vectors t.0 is_bvsub)
  operator BvUdiv r t = at ss s (bit_vector t.0 ∷ bit_vector t.0 ∷ []) (bit_vector t.0) t.1 t.2 (of_vectors t.0 is_bvudiv)
  operator BvUrem r t = at ss s (bit_vector t.0 ∷ bit_vector t.0 ∷ []) (bit_vector t.0) t.1 t.2 (of_vectors t.0 is_bvurem)
  operator BvSdiv r t = at ss s (bit_vector t.0 ∷ bit_vector t.0 ∷ []) (bit_vector t.0) t.1 t.2 (of_vectors t.0 is_bvsdiv)
  operator BvSrem r t = at ss s (bit_vector t.0 ∷ bit_vector t.0 ∷ []) (bit_vector t.0) t.1 t.2 (of_vectors t.0 is_bvsrem)
  operator BvSmod r t = at ss s (bit_vector t.0 ∷ bit_vector t.0 ∷ []) (bit_vector t.0) t.1 t.2 (of_vectors t.0 is_bvsmod)
  operator BvShl r t = at ss s (bit_vector t.0 ∷ bit_vector t.0 ∷ []) (bit_vector t.0) t.1 t.2 (of_vectors t.0 is_bvshl)
  operator BvLshr r t = at ss s (bit_vector t.0 ∷ bit_vector t.0 ∷ []) (bit_vector t.0) t.1 t.2 (of_vectors t.0 is_bvlshr)
  operator BvAshr r t = at ss s (bit_vector t.0 ∷ bit_vector t.0 ∷ []) (bit_vector t.0) t.1 t.2 (of_vectors t.0 is_bvashr)
  operator BvComp r t = at ss s (bit_vector t.0 ∷ bit_vector t.0 ∷ []) (bit_vector 1) t.1 t.2 (of_comparison t.0 is_bvcomp)
  operator BvUlt r t = at ss s (bit_vector t.0 ∷ bit_vector t.0 ∷ []) bool t.1 t.2 (of_comparison t.0 is_bvult)
  operator BvUle r t = at ss s (bit_vector t.0 ∷ bit_vector t.0 ∷ []) bool t.1 t.2 (of_comparison t.0 is_bvule)
  operator BvSlt r t = at ss s (bit_vector t.0 ∷ bit_vector t.0 ∷ []) bool t.1 t.2 (of_comparison t.0 is_bvslt)
  operator BvSle r t = at ss s (bit_vector t.0 ∷ bit_vector t.0 ∷ []) bool t.1 t.2 (of_comparison t.0 is_bvsle)
  operator (ZeroExt i) r t = at ss s (bit_vector t.0 ∷ []) (bit_vector (t.0 + i)) t.1 t.2 (of_extension t.0 (is_zero_ext i))
  operator (SignExt i) r t = at ss s (bit_vector t.0 ∷ []) (bit_vector (t.0 + i)) t.1 t.2 (of_extension t.0 (is_sign_ext i))
  operator (RotL i) r t = at ss s (bit_vector t.0 ∷ []) (bit_vector t.0) t.1 t.3 (of_vector t.0 (is_rotl i))
  operator (RotR i) r t = at ss s (bit_vector t.0 ∷ []) (bit_vector t.0) t.1 t.3 (of_vector t.0 (is_rotr i))
  operator Select r t = no_array (array t.0 s) t.0 s refl (starts_fitting (array t.0 s) (t.0 ∷ []) ss uss t.1 fit)
  operator Store r t = no_array s t.0 t.1 t.3 fine
  operator (Sym f) r t = absurd t
  operator Forall r t = absurd t
  operator Exists r t = absurd t
  operator (ConstArray e) r t = absurd t

pub bit_operator : {A : Type 0} (o : Op) (ss : List Sort) (s : Sort) (uss : List (List A)) → IsOnBits o ss s → Fit ss uss → BitOperator o ss s
bit_operator o ss s uss on fit = operator ss s uss on.result fit o on.ranked (rank-takes (op o) ss s on.ranked)

-- ---- connectives

pub circuit-connective : {A : Type 0} (g : Gates A) (o : Op) (ss : List Sort) (uss : List (List A)) → Connective o → circuit g o ss uss ≡ connective g o uss
unfolding circuit
circuit-connective g o ss uss (is_truth b) = refl
circuit-connective g o ss uss is_not = refl
circuit-connective g o ss uss is_and = refl
circuit-connective g o ss uss is_or = refl
circuit-connective g o ss uss is_xor = refl
circuit-connective g o ss uss is_implies = refl

-- as many operands as sorts
pub flag_sorts : {A : Type 0} (g : Gates A) (n : ℕ) (uss : List (List A)) → Fit (replicate n bool) uss → map (λ _. bool) (map (only_bit g) uss) ≡ replicate n bool
flag_sorts g zero [] fit = refl
flag_sorts g zero (us ∷ uss) fit = elim fit [ ]
flag_sorts g (suc n) [] fit = elim fit [ ]
flag_sorts g (suc n) (us ∷ uss) (fit_more fine some width fit) = ap (λ ss. bool ∷ ss) (flag_sorts g n uss fit)
