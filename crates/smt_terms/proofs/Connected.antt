-- What the kinds of connectives say of sorts and truth values.
use Rattle.std.proofs.Common.{◌≡◌, ℕ, suc, ◌≤◌, Bool, true, false, not, cond, ◌&&◌, ◌||◌, List, [], ◌∷◌, map, get_or, replicate, Some, Ok, refl, ap, sym, ◌∙◌, subst, arith}
use Rattle.std.specs.Prelude.{⊤, unwrap_or}
use Rattle.std.specs.Bool.{beq}
use Rattle.std.specs.List.{list_all, list_any}
use Rattle.smt_terms.specs.declared.op.Op.{Op}
use Rattle.smt_terms.specs.declared.op.Op.TheVariants.{Truth, Not, And, Or, Xor, Implies, Equal, Distinct, Ite}
use Rattle.smt_terms.specs.Sorts.{Sort, bool}
use Rattle.smt_terms.specs.Term.{Head, op, symbol, const_array, apply, Terms}
use Rattle.smt_terms.specs.Rank.{rank, sort_of, sorts_of, shape}
use Rattle.smt_terms.specs.Values.{Value, is_true, same, Sizes}
use Rattle.smt_terms.specs.Operators.{Background, op_value, first_value, all_distinct}
use Rattle.smt_terms.specs.Models.{Model, background}
use Rattle.smt_terms.specs.Val.{Env, val, vals}
use Rattle.smt_terms.specs.Connectives.{Kind, truth_value, negation, conjunction, disjunction, exclusive, implication, equivalence, difference, conditional, atom, where_bool, where_branch_bool, operator_kind, kind_of}
use Rattle.smt_terms.proofs.Ranked.{rank-takes}
use Rattle.smt_terms.proofs.Sorted.{IsApplied, applied}

-- connectives and the two truth values
abbrev pub is_logical : Kind → Bool
is_logical atom = false
is_logical _ = true

-- ---- how many operands a connective has

abbrev pub Count : Kind → ℕ → Type 0
Count (truth_value b) n = ⊤
Count negation n = n ≡ 1
Count conjunction n = 2 ≤ n
Count disjunction n = 2 ≤ n
Count exclusive n = n ≡ 2
Count implication n = n ≡ 2
Count equivalence n = n ≡ 2
Count difference n = 2 ≤ n
Count conditional n = n ≡ 3
Count atom n = ⊤

pub record Connected (h : Head) (ts : Terms) (s : Sort) : Type 0 where
  pub number : ℕ
  pub sorts : sorts_of ts ≡ Some (replicate number bool)
  pub count : Count (kind_of h ts) number
  pub sort : s ≡ bool

-- what is known of a connective's operands, from its rank
record Ranks (o : Op) (ss : List Sort) (s : Sort) : Type 0 where
  number : ℕ
  sorts : ss ≡ replicate number bool
  count : Count (operator_kind o (Some ss)) number
  sort : s ≡ bool

head-sort : List Sort → Sort
head-sort [] = bool
head-sort (s ∷ ss) = s

second-sort : List Sort → Sort
second-sort [] = bool
second-sort (s ∷ ss) = head-sort ss

-- a pair of Booleans, or a test of another sort that is no connective
equation-ranks : (t : Sort) (ss : List Sort) (s : Sort) → ss ≡ t ∷ t ∷ [] → s ≡ bool → is_logical (where_bool (Some ss) equivalence) ≡ true → Ranks Equal ss s
unfolding operator_kind
equation-ranks bool ss s e f c = record { number = 2; sorts = e; count = subst (λ k. Count (where_bool (Some k) equivalence) 2) (sym e) refl; sort = f }
equation-ranks _ ss s e f c = absurd (other (subst (λ k. is_logical (where_bool (Some k) equivalence) ≡ true) e c))
  where
    other : false ≡ true → ⊥
    other h = absurd cc

distinct-ranks : (t : Sort) (n : ℕ) (ss : List Sort) (s : Sort) → ss ≡ t ∷ t ∷ replicate n t → s ≡ bool → is_logical (where_bool (Some ss) difference) ≡ true → Ranks Distinct ss s
unfolding operator_kind
distinct-ranks bool n ss s e f c = record { number = suc (suc n); sorts = e; count = subst (λ k. Count (where_bool (Some k) difference) (suc (suc n))) (sym e) (omega arith); sort = f }
distinct-ranks _ n ss s e f c = absurd (other (subst (λ k. is_logical (where_bool (Some k) difference) ≡ true) e c))
  where
    other : false ≡ true → ⊥
    other h = absurd cc

choice-ranks : (t : Sort) (ss : List Sort) (s : Sort) → ss ≡ bool ∷ t ∷ t ∷ [] → s ≡ t → is_logical (where_branch_bool (Some ss) conditional) ≡ true → Ranks Ite ss s
unfolding operator_kind
choice-ranks bool ss s e f c = record { number = 3; sorts = e; count = subst (λ k. Count (where_branch_bool (Some k) conditional) 3) (sym e) refl; sort = f }
choice-ranks _ ss s e f c = absurd (other (subst (λ k. is_logical (where_branch_bool (Some k) conditional) ≡ true) e c))
  where
    other : false ≡ true → ⊥
    other h = absurd cc

operator-ranks : (o : Op) (ss : List Sort) (s : Sort) → rank (op o) ss ≡ Ok s → is_logical (operator_kind o (Some ss)) ≡ true → Ranks o ss s
unfolding operator_kind shape
operator-ranks (Truth b) ss s r c = let t = rank-takes (op (Truth b)) ss s r in record { number = 0; sorts = t.0; count = tt; sort = t.1 }
operator-ranks Not ss s r c = let t = rank-takes (op Not) ss s r in record { number = 1; sorts = t.0; count = refl; sort = t.1 }
operator-ranks And ss s r c = let t = rank-takes (op And) ss s r in record { number = suc (suc t.0); sorts = t.1; count = omega arith; sort = t.2 }
operator-ranks Or ss s r c = let t = rank-takes (op Or) ss s r in record { number = suc (suc t.0); sorts = t.1; count = omega arith; sort = t.2 }
operator-ranks Xor ss s r c = let t = rank-takes (op Xor) ss s r in record { number = 2; sorts = t.0; count = refl; sort = t.1 }
operator-ranks Implies ss s r c = let t = rank-takes (op Implies) ss s r in record { number = 2; sorts = t.0; count = refl; sort = t.1 }
operator-ranks Equal ss s r c = let t = rank-takes (op Equal) ss s r in equation-ranks t.0 ss s t.1 t.2 c
operator-ranks Distinct ss s r c = let t = rank-takes (op Distinct) ss s r in distinct-ranks t.0 t.1 ss s t.2 t.3 c
operator-ranks Ite ss s r c = let t = rank-takes (op Ite) ss s r in choice-ranks t.0 ss s t.1 t.2 c
operator-ranks _ ss s r c = absurd cc

pub connected : (h : Head) (ts : Terms) (s : Sort) → sort_of (apply h ts) ≡ Some s → is_logical (kind_of h ts) ≡ true → Connected h ts s
connected (op o) ts s has c =
    let a : IsApplied (op o) ts s = applied (op o) ts s has in
    let r : Ranks o a.sorts s = operator-ranks o a.sorts s a.rank (subst (λ k. is_logical (operator_kind o k) ≡ true) a.operands c) in
    record {
      number = r.number;
      sorts = a.operands ∙ ap Some r.sorts;
      count = subst (λ k. Count (operator_kind o k) r.number) (sym a.operands) r.count;
      sort = r.sort;
    }
connected (symbol f) ts s has c = absurd cc
connected (const_array t) ts s has c = absurd cc

-- ---- what a connective says

abbrev pub bit : List Bool → ℕ → Bool
bit bs i = get_or bs i false

abbrev pub all_bits : List Bool → Bool
all_bits [] = true
all_bits (b ∷ bs) = b && all_bits bs

abbrev pub any_bit : List Bool → Bool
any_bit [] = false
any_bit (b ∷ bs) = b || any_bit bs

-- of more than two truth values some are equal
abbrev pub distinct_bits : List Bool → Bool
distinct_bits [] = true
distinct_bits (b ∷ []) = true
distinct_bits (b ∷ c ∷ []) = not (beq b c)
distinct_bits (b ∷ c ∷ d ∷ bs) = false

abbrev pub kind_value : Kind → List Bool → Bool
kind_value (truth_value b) bs = b
kind_value negation bs = not (bit bs 0)
kind_value conjunction bs = all_bits bs
kind_value disjunction bs = any_bit bs
kind_value exclusive bs = not (beq (bit bs 0) (bit bs 1))
kind_value implication bs = not (bit bs 0) || bit bs 1
kind_value equivalence bs = beq (bit bs 0) (bit bs 1)
kind_value difference bs = distinct_bits bs
kind_value conditional bs = cond (bit bs 0) (bit bs 1) (bit bs 2)
kind_value atom bs = false

list_all-bits : (vs : List Value) → list_all is_true vs ≡ all_bits (map is_true vs)
list_all-bits [] = refl
list_all-bits (v ∷ vs) = ap (λ b. is_true v && b) (list_all-bits vs)

list_any-bits : (vs : List Value) → list_any is_true vs ≡ any_bit (map is_true vs)
list_any-bits [] = refl
list_any-bits (v ∷ vs) = ap (λ b. is_true v || b) (list_any-bits vs)

three-bits : (a b c x y z : Bool) → (not (beq a b || (beq a c || x)) && (not (beq b c || y) && z)) ≡ false
three-bits true true c x y z = refl
three-bits false false c x y z = refl
three-bits true false true x y z = refl
three-bits false true false x y z = refl
three-bits true false false x y z = go x
  where
    go : (x : Bool) → (not x && (not (true || y) && z)) ≡ false
    go true = refl
    go false = refl
three-bits false true true x y z = go x
  where
    go : (x : Bool) → (not x && (not (true || y) && z)) ≡ false
    go true = refl
    go false = refl

two-bits : (a b : Bool) → (not (beq a b || false) && (true && true)) ≡ not (beq a b)
two-bits true true = refl
two-bits true false = refl
two-bits false true = refl
two-bits false false = refl

distinct-bits : (sizes : Sizes) (vs : List Value) → all_distinct (same bool sizes) vs ≡ distinct_bits (map is_true vs)
distinct-bits sizes [] = refl
distinct-bits sizes (v ∷ []) = refl
distinct-bits sizes (v ∷ w ∷ []) = two-bits (is_true v) (is_true w)
distinct-bits sizes (v ∷ w ∷ x ∷ vs) = three-bits (is_true v) (is_true w) (is_true x) (list_any (same bool sizes v) vs) (list_any (same bool sizes w) vs) (not (list_any (same bool sizes x) vs) && all_distinct (same bool sizes) vs)

choice-bits : (b : Bool) (v w : Value) → is_true (cond b v w) ≡ cond b (is_true v) (is_true w)
choice-bits true v w = refl
choice-bits false v w = refl

first-bit : (vs : List Value) → is_true (first_value vs) ≡ bit (map is_true vs) 0
first-bit [] = refl
first-bit (v ∷ vs) = refl

operator-value : (o : Op) (ss : List Sort) (c : Background) (vs : List Value) → is_logical (operator_kind o (Some ss)) ≡ true → is_true (op_value c o ss vs) ≡ kind_value (operator_kind o (Some ss)) (map is_true vs)
unfolding operator_kind op_value
operator-value (Truth b) ss c vs k = refl
operator-value Not ss c [] k = refl
operator-value Not ss c (v ∷ vs) k = refl
operator-value And ss c vs k = list_all-bits vs
operator-value Or ss c vs k = list_any-bits vs
operator-value Xor ss c [] k = refl
operator-value Xor ss c (v ∷ []) k = refl
operator-value Xor ss c (v ∷ w ∷ vs) k = refl
operator-value Implies ss c [] k = refl
operator-value Implies ss c (v ∷ []) k = refl
operator-value Implies ss c (v ∷ w ∷ vs) k = refl
operator-value Equal (bool ∷ ss) c [] k = refl
operator-value Equal (bool ∷ ss) c (v ∷ []) k = refl
operator-value Equal (bool ∷ ss) c (v ∷ w ∷ vs) k = refl
operator-value Distinct (bool ∷ ss) c vs k = distinct-bits c.sizes vs
operator-value Ite (s ∷ bool ∷ ss) c [] k = refl
operator-value Ite (s ∷ bool ∷ ss) c (v ∷ []) k = choice-bits (is_true v) _ _
operator-value Ite (s ∷ bool ∷ ss) c (v ∷ w ∷ []) k = choice-bits (is_true v) _ _
operator-value Ite (s ∷ bool ∷ ss) c (v ∷ w ∷ x ∷ vs) k = choice-bits (is_true v) w x
operator-value _ ss c vs k = absurd cc

-- the truth value of a connective, of those of its operands
pub connective-value : (h : Head) (ts : Terms) (s : Sort) (m : Model) (e : Env) → sort_of (apply h ts) ≡ Some s → is_logical (kind_of h ts) ≡ true → is_true (val m (apply h ts) e) ≡ kind_value (kind_of h ts) (map is_true (vals m ts e))
connective-value (op o) ts s m e has c =
    let a : IsApplied (op o) ts s = applied (op o) ts s has in
    ap (λ k. is_true (op_value (background m) o (unwrap_or k []) (vals m ts e))) a.operands
    ∙ operator-value o a.sorts (background m) (vals m ts e) (subst (λ k. is_logical (operator_kind o k) ≡ true) a.operands c)
    ∙ ap (λ k. kind_value (operator_kind o k) (map is_true (vals m ts e))) (sym a.operands)
connective-value (symbol f) ts s m e has c = absurd cc
connective-value (const_array t) ts s m e has c = absurd cc
