-- Truth values under a polarity: which of two follows from the other, and that a connective hands this on from its operands.
use Rattle.std.proofs.Common.{◌≡◌, ℕ, suc, Bool, true, false, not, cond, ◌&&◌, ◌||◌, List, [], ◌∷◌, refl, ap, sym, ◌∙◌, subst}
use Rattle.std.specs.Prelude.{⊤}
use Rattle.smt_terms.specs.Connectives.{Kind, truth_value, negation, conjunction, disjunction, exclusive, implication, equivalence, difference, conditional, atom, is_connective}
use Rattle.smt_terms.proofs.Tests.{alike_from}
use Rattle.smt_terms.proofs.Connected.{kind_value, all_bits, any_bit, bit}
use Rattle.cnf_polarity.specs.Cnf.{Turn, keeps, exchanges, takes_both, turn}

-- where it counts positively, the second follows from the first; where it counts negatively, the first from the second
abbrev pub Follows : Bool → Bool → Bool → Type 0
Follows true a b = a ≡ true → b ≡ true
Follows false a b = b ≡ true → a ≡ true

pub follows-same : (p a b : Bool) → a ≡ b → Follows p a b
follows-same true a b e = λ h. sym e ∙ h
follows-same false a b e = λ h. e ∙ h

pub follows-itself : (p a : Bool) → Follows p a a
follows-itself p a = follows-same p a a refl

pub follows-through : (p a b c : Bool) → Follows p a b → Follows p b c → Follows p a c
follows-through true a b c f g = λ h. g (f h)
follows-through false a b c f g = λ h. f (g h)

-- ---- a connective

up-not : (a b : Bool) → (b ≡ true → a ≡ true) → not a ≡ true → not b ≡ true
up-not a true f h = let e : a ≡ true = f refl in absurd cc
up-not a false f h = refl

pub follows-not : (p a b : Bool) → Follows (not p) a b → Follows p (not a) (not b)
follows-not true a b f = up-not a b f
follows-not false a b f = up-not b a f

up-and : (a b c d : Bool) → (a ≡ true → b ≡ true) → (c ≡ true → d ≡ true) → (a && c) ≡ true → (b && d) ≡ true
up-and true b c d f g h = let e : b ≡ true = f refl in let i : d ≡ true = g h in cc
up-and false b c d f g h = absurd cc

follows-and : (p a b c d : Bool) → Follows p a b → Follows p c d → Follows p (a && c) (b && d)
follows-and true a b c d f g = up-and a b c d f g
follows-and false a b c d f g = up-and b a d c f g

up-or : (a b c d : Bool) → (a ≡ true → b ≡ true) → (c ≡ true → d ≡ true) → (a || c) ≡ true → (b || d) ≡ true
up-or true b c d f g h = let e : b ≡ true = f refl in cc
up-or false true c d f g h = refl
up-or false false c d f g h = g h

follows-or : (p a b c d : Bool) → Follows p a b → Follows p c d → Follows p (a || c) (b || d)
follows-or true a b c d f g = up-or a b c d f g
follows-or false a b c d f g = up-or b a d c f g

follows-choice : (p c a b x y : Bool) → Follows p a b → Follows p x y → Follows p (cond c a x) (cond c b y)
follows-choice p true a b x y f g = f
follows-choice p false a b x y f g = g

-- ---- its operands

-- what is known of an operand's two truth values where the connective counts in this polarity
abbrev pub Turned : Turn → Bool → Bool → Bool → Type 0
Turned keeps p a b = Follows p a b
Turned exchanges p a b = Follows (not p) a b
Turned takes_both p a b = Follows true a b × Follows false a b

-- of the operands from number i on, one by one
abbrev pub Related : Kind → ℕ → Bool → List Bool → List Bool → Type 0
Related k i p [] [] = ⊤
Related k i p (a ∷ xs) (b ∷ ys) = Turned (turn k i) p a b × Related k (suc i) p xs ys
Related k i p _ _ = ⊥

same-of-both : (a b : Bool) → Follows true a b × Follows false a b → a ≡ b
same-of-both a b h = alike_from a b h.0 h.1

turned-itself : (r : Turn) (p a : Bool) → Turned r p a a
turned-itself keeps p a = follows-itself p a
turned-itself exchanges p a = follows-itself (not p) a
turned-itself takes_both p a = (λ h. h, λ h. h)

-- operands that count in both polarities are the same
same-operands : (k : Kind) → ((i : ℕ) → turn k i ≡ takes_both) → (i : ℕ) (p : Bool) (xs ys : List Bool) → Related k i p xs ys → xs ≡ ys
same-operands k both i p [] [] h = refl
same-operands k both i p (a ∷ xs) (b ∷ ys) h =
    let here : a ≡ b = same-of-both a b (subst (λ r. Turned r p a b) (both i) h.0) in
    let rest : xs ≡ ys = same-operands k both (suc i) p xs ys h.1 in
    cc
same-operands k both i p [] (b ∷ ys) h = absurd h
same-operands k both i p (a ∷ xs) [] h = absurd h

all-follow : (i : ℕ) (p : Bool) (xs ys : List Bool) → Related conjunction i p xs ys → Follows p (all_bits xs) (all_bits ys)
all-follow i p [] [] h = follows-itself p true
all-follow i p (a ∷ xs) (b ∷ ys) h = follows-and p a b (all_bits xs) (all_bits ys) h.0 (all-follow (suc i) p xs ys h.1)
all-follow i p [] (b ∷ ys) h = absurd h
all-follow i p (a ∷ xs) [] h = absurd h

any-follow : (i : ℕ) (p : Bool) (xs ys : List Bool) → Related disjunction i p xs ys → Follows p (any_bit xs) (any_bit ys)
any-follow i p [] [] h = follows-itself p false
any-follow i p (a ∷ xs) (b ∷ ys) h = follows-or p a b (any_bit xs) (any_bit ys) h.0 (any-follow (suc i) p xs ys h.1)
any-follow i p [] (b ∷ ys) h = absurd h
any-follow i p (a ∷ xs) [] h = absurd h

-- the first three operands, where one that isn't there is false
record FirstThree (k : Kind) (p : Bool) (xs ys : List Bool) : Type 0 where
  first : Turned (turn k 0) p (bit xs 0) (bit ys 0)
  second : Turned (turn k 1) p (bit xs 1) (bit ys 1)
  third : Turned (turn k 2) p (bit xs 2) (bit ys 2)

first-three : (k : Kind) (p : Bool) (xs ys : List Bool) → Related k 0 p xs ys → FirstThree k p xs ys
first-three k p [] [] h = record { first = turned-itself (turn k 0) p false; second = turned-itself (turn k 1) p false; third = turned-itself (turn k 2) p false }
first-three k p (a ∷ []) (b ∷ []) h = record { first = h.0; second = turned-itself (turn k 1) p false; third = turned-itself (turn k 2) p false }
first-three k p (a ∷ c ∷ []) (b ∷ d ∷ []) h = record { first = h.0; second = h.1.0; third = turned-itself (turn k 2) p false }
first-three k p (a ∷ c ∷ e ∷ xs) (b ∷ d ∷ f ∷ ys) h = record { first = h.0; second = h.1.0; third = h.1.1.0 }
first-three k p (a ∷ []) (b ∷ d ∷ ys) h = absurd h.1
first-three k p (a ∷ c ∷ xs) (b ∷ []) h = absurd h.1
first-three k p (a ∷ c ∷ []) (b ∷ d ∷ f ∷ ys) h = absurd h.1.1
first-three k p (a ∷ c ∷ e ∷ xs) (b ∷ d ∷ []) h = absurd h.1.1
first-three k p [] (b ∷ ys) h = absurd h
first-three k p (a ∷ xs) [] h = absurd h

implies-follows : (p a b c d : Bool) → Follows (not p) a b → Follows p c d → Follows p (not a || c) (not b || d)
implies-follows p a b c d f g = follows-or p (not a) (not b) c d (follows-not p a b f) g

-- the value of a connective follows as far as its operands do, each in the polarity that the connective turns its own into
pub connective-follows : (k : Kind) (p : Bool) (xs ys : List Bool) → is_connective k ≡ true → Related k 0 p xs ys → Follows p (kind_value k xs) (kind_value k ys)
connective-follows negation p xs ys c h = follows-not p (bit xs 0) (bit ys 0) (first-three negation p xs ys h).first
connective-follows conjunction p xs ys c h = all-follow 0 p xs ys h
connective-follows disjunction p xs ys c h = any-follow 0 p xs ys h
connective-follows exclusive p xs ys c h = follows-same p (kind_value exclusive xs) (kind_value exclusive ys) (ap (kind_value exclusive) (same-operands exclusive (λ i. refl) 0 p xs ys h))
connective-follows equivalence p xs ys c h = follows-same p (kind_value equivalence xs) (kind_value equivalence ys) (ap (kind_value equivalence) (same-operands equivalence (λ i. refl) 0 p xs ys h))
connective-follows difference p xs ys c h = follows-same p (kind_value difference xs) (kind_value difference ys) (ap (kind_value difference) (same-operands difference (λ i. refl) 0 p xs ys h))
connective-follows implication p xs ys c h =
    let three = first-three implication p xs ys h in
    implies-follows p (bit xs 0) (bit ys 0) (bit xs 1) (bit ys 1) three.first three.second
connective-follows conditional p xs ys c h =
    let three = first-three conditional p xs ys h in
    let condition : bit xs 0 ≡ bit ys 0 = same-of-both (bit xs 0) (bit ys 0) three.first in
    subst (λ b. Follows p (cond (bit xs 0) (bit xs 1) (bit xs 2)) (cond b (bit ys 1) (bit ys 2))) condition
    (follows-choice p (bit xs 0) (bit xs 1) (bit ys 1) (bit xs 2) (bit ys 2) three.second three.third)
connective-follows (truth_value b) p xs ys c h = absurd cc
connective-follows atom p xs ys c h = absurd cc
