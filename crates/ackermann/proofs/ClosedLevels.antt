-- Levels that are opened and closed, as they are kept: those that were opened at once together.
use Rattle.std.proofs.Common.{◌≡◌, ℕ, zero, suc, ◌+◌, ◌-◌, ◌<◌, ◌≤◌, List, [], ◌∷◌, ◌++◌, length, replicate, take, drop, set, slice_get, Some, refl, ap, sym, ◌∙◌, subst, arith}
use Rattle.std.specs.List.{flat_map}
use Rattle.std.proofs.lemmas.List.{reverse-append, length-take, length-append}
use Rattle.std.proofs.lemmas.List.Elements.{All-push}
use Rattle.smt_terms.specs.Groups.{Named}
use Rattle.term_table.specs.Formulas.{Formulas}
use Rattle.ackermann.specs.Ackermann.{pushed, popped}
use Rattle.ackermann.specs.LevelsAt.{Live, cut, levels_at, open_levels, closed, closed_once, starts_of, AreStarts, AreOpened}
use Rattle.ackermann.specs.LiveUses.{named_uses, AreUsesIn}
use Rattle.ackermann.specs.declared.live.Opened.{Opened}
use Rattle.ackermann.specs.declared.uses.LiveUse.{LiveUse}
use Rattle.ackermann.proofs.CutLevels.{pushed-cut, popped-cut}
use Rattle.ackermann.proofs.ReachedUses.{taken-fewer}
use Rattle.ackermann.proofs.SettledUses.{fewer-uses}

-- ---- opened

pub starts-last : (os : List Opened) (o : Opened) → starts_of (os ++ o ∷ []) ≡ replicate o.levels o.below ++ starts_of os
starts-last os o = ap (λ ps. flat_map (λ (p : Opened). replicate p.levels p.below) ps) (reverse-append os (o ∷ []))

replicated : {X : Type 0} (n : ℕ) (x : X) → length (replicate n x) ≡ n
replicated zero x = refl
replicated (suc n) x = let l = replicated n x in omega (arith, l)

pub pushed-levels : (ns : Named) (n b : ℕ) (ss : List ℕ) → b ≡ length ns → cut ns (replicate n b ++ ss) ≡ pushed n (cut ns ss)
pushed-levels ns zero b ss is = refl
pushed-levels ns (suc n) b ss is = pushed-cut ns b (replicate n b ++ ss) is ∙ ap (λ ls. [] ∷ ls) (pushed-levels ns n b ss is)

repeated-starts : (n b : ℕ) (ss : List ℕ) → AreStarts b ss → AreStarts b (replicate n b ++ ss)
repeated-starts zero b ss starts = starts
repeated-starts (suc n) b ss starts = (omega arith, repeated-starts n b ss starts)

pub more-starts : (n b m : ℕ) (ss : List ℕ) → b ≡ m → AreStarts m ss → AreStarts m (replicate n b ++ ss)
more-starts n b m ss is starts = subst (λ k. AreStarts m (replicate n k ++ ss)) (sym is) (repeated-starts n m ss starts)

more-levels : (n b : ℕ) (ss : List ℕ) → length (replicate n b ++ ss) ≡ length ss + n
more-levels n b ss = let l = length-append (replicate n b) ss in let k = replicated n b in omega (arith, l, k)

-- ---- closed

fewer-starts : (n b m : ℕ) (ss : List ℕ) → AreStarts m (replicate n b ++ ss) → 0 < n → (b ≤ m) × AreStarts b ss
fewer-starts zero b m ss starts some = absurd (omega arith)
fewer-starts (suc n) b m ss starts some = (starts.0, behind n starts.1)
  where
    behind : (k : ℕ) → AreStarts b (replicate k b ++ ss) → AreStarts b ss
    behind zero starts = starts
    behind (suc k) starts = behind k starts.1

-- the levels that are left of those that were opened at once
left-starts : (us : List LiveUse) (n k b : ℕ) (ss : List ℕ) → AreStarts (length us) (replicate n b ++ ss) → 0 < n → AreStarts (length (take b us)) (replicate k b ++ ss)
left-starts us n k b ss starts some =
    let parts = fewer-starts n b (length us) ss starts some in
    let le = parts.0 in
    let l = length-take b us in
    more-starts k b (length (take b us)) ss (omega (arith, l)) (subst (λ m. AreStarts m ss) (let is : b ≡ length (take b us) = omega (arith, l) in is) parts.1)

closed-next : (k n b : ℕ) (us : List LiveUse) (ss : List ℕ) → take b us ≡ us → closed k (record { uses = us; starts = replicate (k + n) b ++ ss }) ≡ record { uses = us; starts = replicate n b ++ ss }
closed-next zero n b us ss is = ap (λ m. record { uses = us; starts = replicate m b ++ ss }) (let e : 0 + n ≡ n = omega arith in e)
closed-next (suc k) n b us ss is =
    ap (λ m. closed (suc k) (record { uses = us; starts = replicate m b ++ ss })) (let e : suc k + n ≡ suc (k + n) = omega arith in e)
    ∙ ap (λ vs. closed k (record { uses = vs; starts = replicate (k + n) b ++ ss })) is
    ∙ closed-next k n b us ss is

-- some of those that were opened at once
closed-some : (k n b : ℕ) (us : List LiveUse) (ss : List ℕ) → 0 < k → closed k (record { uses = us; starts = replicate (k + n) b ++ ss }) ≡ record { uses = take b us; starts = replicate n b ++ ss }
closed-some zero n b us ss some = absurd (omega arith)
closed-some (suc k) n b us ss some =
    ap (λ m. closed (suc k) (record { uses = us; starts = replicate m b ++ ss })) (let e : suc k + n ≡ suc (k + n) = omega arith in e)
    ∙ closed-next k n b (take b us) ss (taken-fewer b b us (omega arith))

pub closed-more : (n k : ℕ) (a : Live) → closed (n + k) a ≡ closed k (closed n a)
closed-more zero k a = ap (λ m. closed m a) (let e : 0 + k ≡ k = omega arith in e)
closed-more (suc n) k a = ap (λ m. closed m a) (let e : suc n + k ≡ suc (n + k) = omega arith in e) ∙ closed-more n k (closed_once a.uses a.starts)

closed-opens : (us : List LiveUse) (ss : List ℕ) → 0 < length ss → length (closed_once us ss).starts + 1 ≡ length ss
closed-opens us [] some = absurd (omega arith)
closed-opens us (s ∷ ss) some = omega arith

pub closed-open : (n : ℕ) (a : Live) → n ≤ open_levels a → open_levels (closed n a) + n ≡ open_levels a
closed-open zero a le = omega arith
closed-open (suc n) a le =
    let once = closed-opens a.uses a.starts (omega arith) in
    let rest = closed-open n (closed_once a.uses a.starts) (omega (arith, once)) in
    omega (arith, once, rest)

once-popped : (t : Formulas) (us : List LiveUse) (ss : List ℕ) → 0 < length ss → levels_at t (closed_once us ss) ≡ popped 1 (cut (named_uses t us) ss)
once-popped t us [] some = absurd (omega arith)
once-popped t us (s ∷ ss) some = popped-cut t us s ss

drop-once : {X : Type 0} (n : ℕ) (xs : List X) → drop n (drop 1 xs) ≡ drop (suc n) xs
drop-once zero [] = refl
drop-once (suc n) [] = refl
drop-once n (x ∷ xs) = refl

pub closed-levels : (t : Formulas) (n : ℕ) (a : Live) → n ≤ open_levels a → levels_at t (closed n a) ≡ popped n (levels_at t a)
closed-levels t zero a le = refl
closed-levels t (suc n) a le =
    let once = closed-opens a.uses a.starts (omega arith) in
    closed-levels t n (closed_once a.uses a.starts) (omega (arith, once))
    ∙ ap (popped n) (once-popped t a.uses a.starts (omega arith))
    ∙ drop-once n (levels_at t a)

once-live : (t : Formulas) (us : List LiveUse) (ss : List ℕ) → AreUsesIn t us → AreUsesIn t (closed_once us ss).uses
once-live t us [] are = are
once-live t us (s ∷ ss) are = fewer-uses t us s are

pub closed-live : (t : Formulas) (n : ℕ) (a : Live) → AreUsesIn t a.uses → AreUsesIn t (closed n a).uses
closed-live t zero a are = are
closed-live t (suc n) a are = closed-live t n (closed_once a.uses a.starts) (once-live t a.uses a.starts are)

-- ---- those that were opened last

split-at : (os : List Opened) (i : ℕ) (o : Opened) → length os ≡ suc i → slice_get os i ≡ Some o → os ≡ take i os ++ o ∷ []
split-at [] i o long at = absurd (omega (arith, long))
split-at (p ∷ []) zero o long at = let same : p ≡ o = cc in ap (λ (q : Opened). q ∷ []) same
split-at (p ∷ q ∷ os) zero o long at = absurd (omega (arith, long))
split-at (p ∷ os) (suc i) o long at = ap (λ (ps : List Opened). p ∷ ps) (split-at os i o (omega (arith, long)) at)

split-last : (os : List Opened) (o : Opened) → slice_get os (length os - 1) ≡ Some o → os ≡ take (length os - 1) os ++ o ∷ []
split-last [] o at = absurd cc
split-last (p ∷ os) o at = split-at (p ∷ os) (length (p ∷ os) - 1) o (omega arith) at

set-last : (os : List Opened) (o p : Opened) → set (os ++ o ∷ []) (length os) p ≡ os ++ p ∷ []
set-last [] o p = refl
set-last (q ∷ os) o p = ap (λ (ps : List Opened). q ∷ ps) (set-last os o p)

before-last : (os : List Opened) (o : Opened) → AreOpened (os ++ o ∷ []) → AreOpened os
before-last [] o opened i d lt = absurd (omega arith)
before-last (p ∷ os) o opened zero d lt = opened 0 d (omega arith)
before-last (p ∷ os) o opened (suc i) d lt = before-last os o (λ j e l. opened (suc j) e (omega arith)) i d (omega arith)

last-some : (os : List Opened) (o : Opened) → AreOpened (os ++ o ∷ []) → 0 < o.levels
last-some [] o opened = opened 0 o (omega arith)
last-some (p ∷ os) o opened = last-some os o (λ i d lt. opened (suc i) d (omega arith))

module _ (us : List LiveUse) (os : List Opened) (o : Opened) (at : slice_get os (length os - 1) ≡ Some o) where
  abbrev before : List Opened
  before = take (length os - 1) os

  split : os ≡ before ++ o ∷ []
  split = split-last os o at

  starts-split : starts_of os ≡ replicate o.levels o.below ++ starts_of before
  starts-split = ap starts_of split ∙ starts-last before o

  some-open : AreOpened os → 0 < o.levels
  some-open opened = last-some before o (subst AreOpened split opened)

  pub within-open : o.levels ≤ length (starts_of os)
  within-open = let n = ap length starts-split ∙ more-levels o.levels o.below (starts_of before) in omega (arith, n)

  left-over : (k : ℕ) → AreOpened os → AreStarts (length us) (starts_of os) → AreStarts (length (take o.below us)) (replicate k o.below ++ starts_of before)
  left-over k opened starts = left-starts us o.levels k o.below (starts_of before) (subst (AreStarts (length us)) starts-split starts) (some-open opened)

  -- all of them are closed
  pub all-invariant : AreOpened os → AreStarts (length us) (starts_of os) → AreOpened before × AreStarts (length (take o.below us)) (starts_of before)
  all-invariant opened starts = (before-last before o (subst AreOpened split opened), left-over 0 opened starts)

  pub all-closed : AreOpened os → record { uses = take o.below us; starts = starts_of before } ≡ closed o.levels (record { uses = us; starts = starts_of os })
  all-closed opened =
      sym (closed-some o.levels 0 o.below us (starts_of before) (some-open opened))
      ∙ ap (λ n. closed o.levels (record { uses = us; starts = replicate n o.below ++ starts_of before })) (let e : o.levels + 0 ≡ o.levels = omega arith in e)
      ∙ ap (λ ss. closed o.levels (record { uses = us; starts = ss })) (sym starts-split)

  -- n of them are closed
  module _ (n : ℕ) (some : 0 < n) (less : n < o.levels) where
    abbrev left : Opened
    left = record { levels = o.levels - n; below = o.below }

    put : set os (length os - 1) left ≡ before ++ left ∷ []
    put =
        let k = length-take (length os - 1) os in
        let e : length os - 1 ≡ length before = omega (arith, k) in
        ap (λ m. set os m left) e ∙ ap (λ (ps : List Opened). set ps (length before) left) split ∙ set-last before o left

    put-starts : starts_of (set os (length os - 1) left) ≡ replicate (o.levels - n) o.below ++ starts_of before
    put-starts = ap starts_of put ∙ starts-last before left

    pub some-invariant : AreOpened os → AreStarts (length us) (starts_of os) → AreOpened (set os (length os - 1) left) × AreStarts (length (take o.below us)) (starts_of (set os (length os - 1) left))
    some-invariant opened starts = (
      subst AreOpened (sym put) (All-push (λ (p : Opened). 0 < p.levels) before left (before-last before o (subst AreOpened split opened)) (omega arith)),
      subst (AreStarts (length (take o.below us))) (sym put-starts) (left-over (o.levels - n) opened starts),
    )

    pub some-closed : record { uses = take o.below us; starts = starts_of (set os (length os - 1) left) } ≡ closed n (record { uses = us; starts = starts_of os })
    some-closed =
        ap (λ ss. record { uses = take o.below us; starts = ss }) put-starts
        ∙ sym (closed-some n (o.levels - n) o.below us (starts_of before) some)
        ∙ ap (λ m. closed n (record { uses = us; starts = replicate m o.below ++ starts_of before })) (let e : n + (o.levels - n) ≡ o.levels = omega arith in e)
        ∙ ap (λ ss. closed n (record { uses = us; starts = ss })) (sym starts-split)
