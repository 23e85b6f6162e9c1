-- Live applications stay so as a table gains, and the first of them stay so without the others.
use Rattle.std.proofs.Common.{◌≡◌, ℕ, zero, suc, ◌<◌, true, List, [], ◌∷◌, ◌++◌, length, take, drop, map, get_or, All, refl, ap, sym, ◌∙◌, subst, arith}
use Rattle.std.proofs.lemmas.List.{length-map, get_or-map}
use Rattle.std.proofs.lemmas.List.Elements.{All-take, All-drop, All-nil, All-cons, All-head, All-tail}
use Rattle.smt_terms.specs.Groups.{Named, has_term, with_constants, with_constants_each}
use Rattle.smt_terms.specs.Sorts.{Symbol}
use Rattle.smt_terms.specs.Term.{Term, apply, quantified, Terms, none, ◌⨾◌, list}
use Rattle.term_table.specs.Formulas.{Formulas, tree, symbol_at, operands}
use Rattle.term_groups.specs.Grouping.{terms_of}
use Rattle.ackermann.specs.declared.uses.LiveUse.{LiveUse}
use Rattle.ackermann.specs.LiveUses.{named_uses, IsUseIn, IsSettled, AreBehind, AreUsesIn}
use Rattle.ackermann.specs.Removals.{inner_uses, is_use}
use Rattle.ackermann.proofs.CutLevels.{named-take}
use Rattle.ackermann.proofs.FoundUses.{use-over}
use Rattle.ackermann.proofs.MoreConstants.{more-constants_each}
use Rattle.ackermann.proofs.UseLists.{HasAll, has-All}
use Rattle.ackermann.proofs.UseOrder.{Ordered, ordered-closed}
use Rattle.ackermann.proofs.UseParts.{IsUse}

-- ---- the order

pub as-ordered : (ds ts : List Term) → AreBehind ds ts → Ordered ds ts
as-ordered ds [] behind = tt
as-ordered ds (t ∷ ts) behind = (λ u among. has-All (λ v. has_term ds v ≡ true) (inner_uses t) u behind.0 among, as-ordered (ds ++ t ∷ []) ts behind.1)

behind-take : (n : ℕ) (ds ts : List Term) → AreBehind ds ts → AreBehind ds (take n ts)
behind-take zero ds ts behind = tt
behind-take (suc n) ds [] behind = tt
behind-take (suc n) ds (t ∷ ts) behind = (behind.0, behind-take n (ds ++ t ∷ []) ts behind.1)

terms-take : (n : ℕ) (ns : Named) → terms_of (take n ns) ≡ take n (terms_of ns)
terms-take zero ns = refl
terms-take (suc n) [] = refl
terms-take (suc n) (m ∷ ns) = ap (λ ts. m.1 ∷ ts) (terms-take n ns)

-- ---- operands

pub each-list : (ns : Named) (ts : Terms) → map (with_constants ns) (list ts) ≡ list (with_constants_each ns ts)
each-list ns none = refl
each-list ns (t ⨾ ts) = ap (λ us. with_constants ns t ∷ us) (each-list ns ts)

-- further constants change nothing in the operands of an application behind those inside them
pub fewer-constants : (ns ms : Named) (u : Term) → is_use u ≡ true → All IsUse (terms_of ms) → HasAll (terms_of ns) (inner_uses u) → map (with_constants (ns ++ ms)) (operands u) ≡ map (with_constants ns) (operands u)
fewer-constants ns ms (apply h ts) applied uses closed = each-list (ns ++ ms) ts ∙ ap list (more-constants_each ns ms uses ts closed) ∙ sym (each-list ns ts)
fewer-constants ns ms (quantified q xs body) applied uses closed = absurd cc

uses-terms : (t : Formulas) (us : List LiveUse) → All (IsUseIn t) us → All IsUse (terms_of (named_uses t us))
uses-terms t [] each = All-nil IsUse
uses-terms t (u ∷ us) each = All-cons IsUse (tree t u.node) (terms_of (named_uses t us)) (use-over t u (All-head (IsUseIn t) u us each)) (uses-terms t us (All-tail (IsUseIn t) u us each))

at-use : (t : Formulas) (us : List LiveUse) (i : ℕ) (d : LiveUse) (p : Symbol × Term) → i < length us → get_or (named_uses t us) i p ≡ (symbol_at t (get_or us i d).symbol, tree t (get_or us i d).node)
at-use t [] i d p lt = absurd (omega arith)
at-use t (u ∷ us) zero d p lt = refl
at-use t (u ∷ us) (suc i) d p lt = at-use t us i d p (omega arith)

pub closed-each : (t : Formulas) (us : List LiveUse) → AreBehind [] (terms_of (named_uses t us)) → All (λ u. HasAll (terms_of (named_uses t us)) (inner_uses (tree t u.node))) us
closed-each t us behind i d lt =
    let p : Symbol × Term = (symbol_at t d.symbol, tree t d.node) in
    let n : length (named_uses t us) ≡ length us = length-map us (λ u. (symbol_at t u.symbol, tree t u.node)) in
    let m : length (terms_of (named_uses t us)) ≡ length (named_uses t us) = length-map (named_uses t us) (λ q. q.1) in
    let at : get_or (terms_of (named_uses t us)) i p.1 ≡ tree t (get_or us i d).node = get_or-map (λ q. q.1) (named_uses t us) i p p.1 (omega (arith, n)) ∙ ap (λ (q : Symbol × Term). q.1) (at-use t us i d p lt) in
    subst (λ u. HasAll (terms_of (named_uses t us)) (inner_uses u)) at
    (ordered-closed [] (terms_of (named_uses t us)) (as-ordered [] (terms_of (named_uses t us)) behind) i p.1 (omega (arith, n, m)))

-- ---- the first of them

split : (t : Formulas) (n : ℕ) (us : List LiveUse) → named_uses t (take n us) ++ named_uses t (drop n us) ≡ named_uses t us
split t zero us = refl
split t (suc n) [] = refl
split t (suc n) (u ∷ us) = ap (λ xs. (symbol_at t u.symbol, tree t u.node) ∷ xs) (split t n us)

pub fewer-uses : (t : Formulas) (us : List LiveUse) (n : ℕ) → AreUsesIn t us → AreUsesIn t (take n us)
fewer-uses t us n are =
    let fewer : AreBehind [] (terms_of (named_uses t (take n us))) =
    subst (AreBehind []) (sym (ap terms_of (named-take t n us) ∙ terms-take n (named_uses t us))) (behind-take n [] (terms_of (named_uses t us)) are.behind) in
    let whole : named_uses t (take n us) ++ named_uses t (drop n us) ≡ named_uses t us = split t n us in
    let each = All-take (IsUseIn t) n us are.each in
    record {
      each = each;
      behind = fewer;
      settled = λ i d lt.
          All-take (IsSettled t (named_uses t us)) n us are.settled i d lt
          ∙ ap (λ ns. map (with_constants ns) (operands (tree t (get_or (take n us) i d).node))) (sym whole)
          ∙ fewer-constants (named_uses t (take n us)) (named_uses t (drop n us)) (tree t (get_or (take n us) i d).node) (use-over t (get_or (take n us) i d) (each i d lt))
          (uses-terms t (drop n us) (All-drop (IsUseIn t) n us are.each)) (closed-each t (take n us) fewer i d lt);
    }
