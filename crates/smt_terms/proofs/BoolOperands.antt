-- What is known of each operand of a connective: they are Bool, and as many as the connective has.
use Rattle.std.proofs.Common.{◌≡◌, ℕ, zero, suc, Bool, List, [], ◌∷◌, map, length, replicate, Some, refl, ap, sym, ◌∙◌}
use Rattle.std.specs.Prelude.{⊤}
use Rattle.smt_terms.specs.Sorts.{Sort, bool}
use Rattle.smt_terms.specs.Term.{Head, Term, Terms, none, ◌⨾◌, list}
use Rattle.smt_terms.specs.Rank.{sort_of, sorts_of}
use Rattle.smt_terms.proofs.Sorted.{sorted, length-sorts_of}
use Rattle.smt_terms.proofs.Connected.{Connected}

-- something of each operand, where it is Bool
abbrev pub IfBool : (Term → Type 0) → Terms → Type 0
IfBool P none = ⊤
IfBool P (t ⨾ ts) = (sort_of t ≡ Some bool → P t) × IfBool P ts

-- something of each operand
abbrev pub Each : (Term → Type 0) → Terms → Type 0
Each P none = ⊤
Each P (t ⨾ ts) = P t × Each P ts

first_of : List Sort → Sort
first_of [] = bool
first_of (s ∷ ss) = s

rest_of : List Sort → List Sort
rest_of [] = []
rest_of (s ∷ ss) = ss

pub each-bool : (P : Term → Type 0) (ts : Terms) (n : ℕ) → sorts_of ts ≡ Some (replicate n bool) → IfBool P ts → Each P ts
unfolding first_of rest_of
each-bool P none n has waiting = tt
each-bool P (t ⨾ ts) zero has waiting =
    let a = sorted t ts [] has in
    absurd (empty a.sort a.sorts a.all)
  where
    empty : (s : Sort) (ss : List Sort) → [] ≡ s ∷ ss → ⊥
    empty s ss e = absurd cc
each-bool P (t ⨾ ts) (suc n) has waiting =
    let a = sorted t ts (bool ∷ replicate n bool) has in
    let first : bool ≡ a.sort = ap first_of a.all in
    let rest : replicate n bool ≡ a.sorts = ap rest_of a.all in
    (waiting.0 (a.first ∙ ap Some (sym first)), each-bool P ts n (a.others ∙ ap Some (sym rest)) waiting.1)

length-replicate : (n : ℕ) → length (replicate n bool) ≡ n
length-replicate zero = refl
length-replicate (suc n) = ap suc (length-replicate n)

pub operand-number : (h : Head) (ts : Terms) (s : Sort) (c : Connected h ts s) → length (list ts) ≡ c.number
operand-number h ts s c = sym (length-sorts_of ts (replicate c.number bool) c.sorts) ∙ length-replicate c.number

pub map-same : (bs : List Bool) → map (λ b. b) bs ≡ bs
map-same [] = refl
map-same (b ∷ bs) = ap (λ cs. b ∷ cs) (map-same bs)
