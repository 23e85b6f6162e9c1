-- The operands of `distinct`: truth values, or vectors of one number of bits.
use Rattle.std.proofs.Common.{◌≡◌, ℕ, zero, suc, ◌<◌, ◌≤◌, true, List, [], ◌∷◌, map, length, get_or, replicate, All, Option, Some, None, Ok, is_some, refl, ap, sym, ◌∙◌, subst, arith}
use Rattle.std.proofs.lemmas.List.{length-map, length-replicate, get_or-map, get_or-replicate}
use Rattle.std.proofs.lemmas.List.Elements.{All-map}
use Rattle.smt_terms.specs.declared.ids.NodeId.{NodeId}
use Rattle.smt_terms.specs.declared.op.Op.TheVariants.{Distinct}
use Rattle.smt_terms.specs.Operators.{first_sort}
use Rattle.smt_terms.specs.Rank.{shape, rank, sort_of, is_regular, width, most_bits}
use Rattle.smt_terms.specs.Sorts.{Sort, bool, int, bit_vector, array, free_sort}
use Rattle.smt_terms.specs.Term.{op}
use Rattle.smt_terms.proofs.Ranked.{takes-rank}
use Rattle.smt_terms.proofs.Tests.{both_true}
use Rattle.term_table.specs.Formulas.{Formulas, tree, trees_at, sort_or_bool, sorts_in, AreNodes, IsTable}
use Rattle.bit_blast.specs.Circuits.{Gates, joined, apart, distinct}
use Rattle.bit_blast.specs.KeptBits.{Lists}
use Rattle.bit_blast.specs.OperandBits.{nodes_of, operand_bits, widths, AllOfOneWidth}
use Rattle.bit_blast.proofs.OperandLists.{constant-map}

-- ---- the rank over truth values

constant-replicate : {X : Type 0} (s : Sort) (n : ℕ) (x : X) → map (λ _. s) (replicate n x) ≡ replicate n s
constant-replicate s zero x = refl
constant-replicate s (suc n) x = ap (λ ss. s ∷ ss) (constant-replicate s n x)

pub distinct-rank : (ls : Lists) (ks : List NodeId) → AllOfOneWidth (widths ls ks) → rank (op Distinct) (map (λ _. bool) ks) ≡ Ok bool
unfolding shape
distinct-rank ls ks alike =
    let narrow : width bool ≤ most_bits = omega arith in
    let sorts : map (λ _. bool) ks ≡ bool ∷ bool ∷ replicate alike.1 bool =
    sym (constant-map (λ k. length (nodes_of ls k)) bool ks) ∙ ap (map (λ _. bool)) alike.3 ∙ ap (λ ss. bool ∷ bool ∷ ss) (constant-replicate bool alike.1 alike.0) in
    takes-rank (op Distinct) (map (λ _. bool) ks) bool (bool, alike.1, sorts, refl) narrow

-- ---- vectors

pub distinct-vectors : {A : Type 0} (g : Gates A) (s : Sort) (uss : List (List A)) → (s ≡ bool → ⊥) → distinct g s uss ≡ joined g (apart g uss) ∷ []
distinct-vectors g bool uss other = absurd (other refl)
distinct-vectors g int uss other = refl
distinct-vectors g (bit_vector w) uss other = refl
distinct-vectors g (array i e) uss other = refl
distinct-vectors g (free_sort n) uss other = refl

some-bool : (o : Option Sort) → is_some o ≡ true → sort_or_bool o ≡ bool → o ≡ Some bool
some-bool (Some s) some e = ap (λ t. Some t) e
some-bool None some e = absurd cc

-- the first operand is no truth value
pub first-other : (t : Formulas) (ks : List NodeId) (d : NodeId) → IsTable t → AreNodes t ks → 0 < length ks → (sort_of (tree t (get_or ks 0 d)) ≡ Some bool → ⊥) → first_sort (sorts_in (trees_at t ks)) ≡ bool → ⊥
first-other t [] d table nodes some other e = absurd (omega arith)
first-other t (k ∷ ks) d table nodes some other e =
    let sorted = both_true (is_some (sort_of (tree t k))) (is_regular (tree t k)) (table.sorted k.0 (nodes 0 d some)) in
    other (some-bool (sort_of (tree t k)) sorted.0 e)

-- ---- lists of nodes that were copied

module _ {V : Type 0} (items : V → List NodeId) (ls : Lists) (vs : List V) (ks : List NodeId) (are : map items vs ≡ map (nodes_of ls) ks) where
  pub each-copied : (P : List NodeId → Type 0) → All (λ k. P (nodes_of ls k)) ks → All (λ v. P (items v)) vs
  each-copied P each i d lt =
      let count = length-map vs items in
      let all : All P (map items vs) = subst (All P) (sym are) (All-map P (nodes_of ls) ks each) in
      subst P (get_or-map items vs i d [] lt) (all i [] (omega (arith, count, lt)))

  pub copied-number : length vs ≡ length ks
  copied-number = sym (length-map vs items) ∙ ap length are ∙ length-map ks (nodes_of ls)

  pub copied-bits : (t : Formulas) → map (λ v. trees_at t (items v)) vs ≡ operand_bits t ls ks
  copied-bits t = sym (twice (trees_at t) items vs) ∙ ap (map (trees_at t)) are ∙ twice (trees_at t) (nodes_of ls) ks
    where
      twice : {X Y Z : Type 0} (f : Y → Z) (h : X → Y) (xs : List X) → map f (map h xs) ≡ map (λ x. f (h x)) xs
      twice f h [] = refl
      twice f h (x ∷ xs) = ap (λ zs. f (h x) ∷ zs) (twice f h xs)

-- all of the first one's number of bits
pub each-width : (ls : Lists) (ks : List NodeId) (alike : AllOfOneWidth (widths ls ks)) → All (λ k. length (nodes_of ls k) ≡ alike.0) ks
each-width ls ks alike i d lt =
    let w = alike.0 in
    let n = alike.1 in
    let all : widths ls ks ≡ replicate (suc (suc n)) w = alike.3 in
    let count : length ks ≡ suc (suc n) = sym (length-map ks (λ k. length (nodes_of ls k))) ∙ ap length all ∙ length-replicate (suc (suc n)) w in
    sym (get_or-map (λ k. length (nodes_of ls k)) ks i d 0 lt) ∙ ap (λ ws. get_or ws i 0) all ∙ get_or-replicate (suc (suc n)) i w 0 (omega (arith, count, lt))
