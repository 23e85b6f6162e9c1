-- The live applications cut into levels.
use Rattle.std.proofs.Common.{◌≡◌, ℕ, zero, suc, ◌+◌, ◌≤◌, List, [], ◌∷◌, ◌++◌, length, take, drop, refl, ap, ◌∙◌, arith}
use Rattle.std.proofs.lemmas.List.{take-append-drop, take_all, drop_all, length-take}
use Rattle.smt_terms.specs.Groups.{Named}
use Rattle.term_table.specs.Formulas.{Formulas, symbol_at, tree}
use Rattle.ackermann.specs.Ackermann.{live, joined, pushed, popped}
use Rattle.ackermann.specs.LevelsAt.{cut, AreStarts}
use Rattle.ackermann.specs.declared.uses.LiveUse.{LiveUse}
use Rattle.ackermann.specs.LiveUses.{named_uses}

-- all that is live, in the order drawn
pub live-cut : (ns : Named) (ss : List ℕ) → live (cut ns ss) ≡ ns
live-cut ns [] = refl
live-cut ns (s ∷ ss) = ap (λ ms. ms ++ drop s ns) (live-cut (take s ns) ss) ∙ take-append-drop s ns

taken-before : (s : ℕ) (ns ms : Named) → s ≤ length ns → take s (ns ++ ms) ≡ take s ns
taken-before zero ns ms le = refl
taken-before (suc s) [] ms le = absurd (omega arith)
taken-before (suc s) (n ∷ ns) ms le = ap (λ xs. n ∷ xs) (taken-before s ns ms (omega arith))

dropped-before : (s : ℕ) (ns ms : Named) → s ≤ length ns → drop s (ns ++ ms) ≡ drop s ns ++ ms
dropped-before zero ns ms le = refl
dropped-before (suc s) [] ms le = absurd (omega arith)
dropped-before (suc s) (n ∷ ns) ms le = dropped-before s ns ms (omega arith)

-- what becomes live does so on the innermost level
pub joined-cut : (ns ms : Named) (ss : List ℕ) → AreStarts (length ns) ss → cut (ns ++ ms) ss ≡ joined ms (cut ns ss)
joined-cut ns ms [] starts = refl
joined-cut ns ms (s ∷ ss) starts = λ i. dropped-before s ns ms starts.0 i ∷ cut (taken-before s ns ms starts.0 i) ss

pub pushed-cut : (ns : Named) (n : ℕ) (ss : List ℕ) → n ≡ length ns → cut ns (n ∷ ss) ≡ pushed 1 (cut ns ss)
pushed-cut ns n ss is = λ i. drop_all n ns (omega (arith, is)) i ∷ cut (take_all n ns (omega (arith, is)) i) ss

pub named-take : (t : Formulas) (n : ℕ) (us : List LiveUse) → named_uses t (take n us) ≡ take n (named_uses t us)
named-take t zero us = refl
named-take t (suc n) [] = refl
named-take t (suc n) (u ∷ us) = ap (λ xs. (symbol_at t u.symbol, tree t u.node) ∷ xs) (named-take t n us)

pub popped-cut : (t : Formulas) (us : List LiveUse) (s : ℕ) (ss : List ℕ) → cut (named_uses t (take s us)) ss ≡ popped 1 (cut (named_uses t us) (s ∷ ss))
popped-cut t us s ss = ap (λ ns. cut ns ss) (named-take t s us)

-- levels are one more than those that were opened
pub levels-count : (ns : Named) (ss : List ℕ) → length (cut ns ss) ≡ length ss + 1
levels-count ns [] = refl
levels-count ns (s ∷ ss) = let n = levels-count (take s ns) ss in omega (arith, n)

-- ---- where levels begin

starts-within : (n m : ℕ) (ss : List ℕ) → n ≤ m → AreStarts n ss → AreStarts m ss
starts-within n m [] le starts = tt
starts-within n m (s ∷ ss) le starts = let below = starts.0 in (omega arith, starts.1)

-- where more became live
pub starts-kept : (us more : List LiveUse) (ss : List ℕ) → take (length us) more ≡ us → AreStarts (length us) ss → AreStarts (length more) ss
starts-kept us more ss kept starts =
    let n = length-take (length us) more in
    let e = ap length kept in
    starts-within (length us) (length more) ss (omega (arith, n, e)) starts
