-- What took the places of the operands of live applications is what all constants that are live make of them: those that came later
-- stand for no application inside them.
use Rattle.std.proofs.Common.{◌≡◌, ◌∙◌, sym, ap, refl, subst, ℕ, zero, suc, true, ◌⊎◌, inl, inr, List, [], ◌∷◌, ◌++◌, map, append_assoc, append-nil, All}
use Rattle.std.proofs.lemmas.List.Elements.{All-nil, All-cons, All-head, All-tail, All-weaker}
use Rattle.smt_terms.specs.Equal.{term_eq}
use Rattle.smt_terms.specs.Groups.{Named, has_term, with_constants, with_constants_each}
use Rattle.smt_terms.specs.Sorts.{Symbol}
use Rattle.smt_terms.specs.Term.{Term, apply, quantified, Terms, none, ◌⨾◌, list}
use Rattle.smt_terms.proofs.Equal.{Decides-term_eq}
use Rattle.smt_terms.proofs.Tests.{either_true, left_true, right_true}
use Rattle.term_groups.specs.Grouping.{terms_of}
use Rattle.ackermann.specs.Removals.{is_use, inner_uses}
use Rattle.ackermann.specs.Tables.{operands_of}
use Rattle.ackermann.proofs.SettledUses.{fewer-constants}
use Rattle.script_read.specs.Commands.{Command, declare_sort, declare, assert, check, check_assuming, push, pop, reset, reset_assertions, State, start, with_sort, with_symbol, after, Point, points_from, points, nth_point, at_point, live_in, live}
use Rattle.pass_laws.specs.LiveGroups.{Operands}
use Rattle.pass_laws.specs.Passed.{Replacement}
use Rattle.pass_laws.proofs.NamedTerms.{all_parted}
use Rattle.pass_laws.proofs.RemovalLinks.{pairs_of, on_latest_kept, on_pushed, on_popped, on_emptied, asserted_push}
use Rattle.pass_laws.proofs.ToldOperands.{AreOperands, TellsOperands}

-- ---- at a point

module _ (ops : Operands) where
  -- of replacements that are live, each behind those before it
  abbrev pub AreTold : Named → List Replacement → Type 0
  AreTold earlier [] = Unit {0}
  AreTold earlier (x ∷ xs) = AreOperands ops earlier x × AreTold (earlier ++ x.group.symbols) xs

  told_first : (earlier : Named) (xs ys : List Replacement) → AreTold earlier (xs ++ ys) → AreTold earlier xs
  told_first earlier [] ys h = tt
  told_first earlier (x ∷ xs) ys h = (h.0, told_first (earlier ++ x.group.symbols) xs ys h.1)

  told_push : (earlier : Named) (xs : List Replacement) (x : Replacement) → AreTold earlier xs → AreOperands ops (earlier ++ pairs_of xs) x → AreTold earlier (xs ++ x ∷ [])
  told_push earlier [] x h here = (subst (λ ns. AreOperands ops ns x) (append-nil earlier) here, tt)
  told_push earlier (y ∷ xs) x h here =
      (h.0, told_push (earlier ++ y.group.symbols) xs x h.1 (subst (λ ns. AreOperands ops ns x) (sym (append_assoc earlier y.group.symbols (pairs_of xs))) here))

  abbrev AreLiveTold : State Replacement → Type 0
  AreLiveTold st = AreTold [] (live_in st)

  told_asserted : (i : ℕ) (x : Replacement) (st : State Replacement) → AreLiveTold st → AreOperands ops (pairs_of (live_in st)) x → AreLiveTold (after (assert i x) st)
  told_asserted i x st h here = subst (AreTold []) (sym (asserted_push x st.levels)) (told_push [] (live_in st) x h here)

  abbrev ArePointsTold : List (Point Replacement) → Type 0
  ArePointsTold [] = Unit {0}
  ArePointsTold (p ∷ ps) = AreLiveTold p.state × ArePointsTold ps

  all_points : (rs : List (Command Replacement)) (st : State Replacement) → TellsOperands ops rs st → AreLiveTold st → ArePointsTold (points_from st rs)
  all_points [] st told h = (h, tt)
  all_points (declare_sort n ∷ rs) st told h = all_points rs (after (declare_sort n) st) told (on_latest_kept (AreTold []) (told_first []) tt (with_sort n) (λ l. refl) st.levels h)
  all_points (declare f ∷ rs) st told h = all_points rs (after (declare f) st) told (on_latest_kept (AreTold []) (told_first []) tt (with_symbol f) (λ l. refl) st.levels h)
  all_points (assert i x ∷ rs) st told h = all_points rs (after (assert i x) st) told.1 (told_asserted i x st h told.0)
  all_points (push n ∷ rs) st told h = all_points rs (after (push n) st) told (on_pushed (AreTold []) (told_first []) tt n st.levels h)
  all_points (pop n ∷ rs) st told h = all_points rs (after (pop n) st) told (on_popped (AreTold []) (told_first []) tt st.global n st.levels h)
  all_points (reset ∷ rs) st told h = all_points rs start told tt
  all_points (reset_assertions ∷ rs) st told h = all_points rs (after reset_assertions st) told (on_emptied (AreTold []) (told_first []) tt st.global st.levels)
  all_points (check ∷ rs) st told h = (h, all_points rs st told h)
  all_points (check_assuming ls ∷ rs) st told h = (h, all_points rs st told h)
  all_points (c ∷ rs) st told h = all_points rs (after c st) told h

  nth_told : (ps : List (Point Replacement)) (k : ℕ) → ArePointsTold ps → AreTold [] (at_point (λ p. live_in p.state) (nth_point ps k))
  nth_told [] k h = tt
  nth_told (p ∷ ps) zero h = tt
  nth_told (p ∷ ps) (suc zero) h = h.0
  nth_told (p ∷ ps) (suc (suc k)) h = nth_told ps (suc k) h.1

  pub told_at : (rs : List (Command Replacement)) → TellsOperands ops rs start → (k : ℕ) → AreTold [] (live rs k)
  told_at rs told k = nth_told (points rs) k (all_points rs start told tt)

-- ---- lists of terms

has_of : (P : Term → Type 0) (ts : List Term) (t : Term) → All P ts → has_term ts t ≡ true → P t
has_of P [] t all among = absurd cc
has_of P (u ∷ ts) t all among = by (either_true (term_eq u t) (has_term ts t) among) (has_of P ts t (All-tail P u ts all))
  where
    by : (term_eq u t ≡ true) ⊎ (has_term ts t ≡ true) → (has_term ts t ≡ true → P t) → P t
    by (inl same) rest = subst P ((Decides-term_eq u t).0 same) (All-head P u ts all)
    by (inr there) rest = rest there

has_more : (us vs : Named) (t : Term) → has_term (terms_of us) t ≡ true → has_term (terms_of (us ++ vs)) t ≡ true
has_more [] vs t among = absurd cc
has_more (u ∷ us) vs t among = by (either_true (term_eq u.1 t) (has_term (terms_of us) t) among) (has_more us vs t)
  where
    by : (term_eq u.1 t ≡ true) ⊎ (has_term (terms_of us) t ≡ true) → (has_term (terms_of us) t ≡ true → has_term (terms_of (us ++ vs)) t ≡ true) → has_term (terms_of ((u ∷ us) ++ vs)) t ≡ true
    by (inl same) rest = left_true (term_eq u.1 t) (has_term (terms_of (us ++ vs)) t) same
    by (inr there) rest = right_true (term_eq u.1 t) (has_term (terms_of (us ++ vs)) t) (rest there)

each_operand : (ns : Named) (ts : Terms) → map (with_constants ns) (list ts) ≡ list (with_constants_each ns ts)
each_operand ns none = refl
each_operand ns (t ⨾ ts) = ap (λ us. with_constants ns t ∷ us) (each_operand ns ts)

fewer_there : (ns ms : Named) (u : Term) → is_use u ≡ true → All (λ t. is_use t ≡ true) (terms_of ms) → ((t : Term) → has_term (inner_uses u) t ≡ true → has_term (terms_of ns) t ≡ true) → operands_of ns u ≡ operands_of (ns ++ ms) u
fewer_there ns ms (apply h ts) applied uses closed =
    sym (each_operand ns ts) ∙ sym (fewer-constants ns ms (apply h ts) applied uses closed) ∙ each_operand (ns ++ ms) ts
fewer_there ns ms (quantified q xs t) applied uses closed = absurd cc

-- ---- all that is live

abbrev IsApplied : Symbol × Term → Type 0
IsApplied n = is_use n.1 ≡ true

-- the applications inside operands are among these
abbrev IsClosed : Named → Symbol × Term → Type 0
IsClosed ns n = All (λ u. has_term (terms_of ns) u ≡ true) (inner_uses n.1)

uses_of_terms : (ns : Named) → All IsApplied ns → All (λ t. is_use t ≡ true) (terms_of ns)
uses_of_terms [] all = All-nil _
uses_of_terms (n ∷ ns) all = All-cons (λ t. is_use t ≡ true) n.1 (terms_of ns) (All-head IsApplied n ns all) (uses_of_terms ns (All-tail IsApplied n ns all))

module _ (all : Named) (behind : (us : Named) (n : Symbol × Term) (vs : Named) → all ≡ us ++ n ∷ vs → IsClosed us n) (ops : Operands) where
  closed_each : (us ns vs : Named) → all ≡ us ++ (ns ++ vs) → All (IsClosed (us ++ ns)) ns
  closed_each us [] vs is = All-nil _
  closed_each us (n ∷ ns) vs is =
      All-cons (IsClosed (us ++ n ∷ ns)) n ns
      (All-weaker (λ u. has_term (terms_of us) u ≡ true) (λ u. has_term (terms_of (us ++ n ∷ ns)) u ≡ true) (λ u among. has_more us (n ∷ ns) u among) (inner_uses n.1) (behind us n (ns ++ vs) is))
      (subst (λ ms. All (IsClosed ms) ns) (append_assoc us (n ∷ []) ns) (closed_each (us ++ n ∷ []) ns vs (is ∙ sym (append_assoc us (n ∷ []) (ns ++ vs)))))

  abbrev Settled : Symbol × Term → Type 0
  Settled n = ops n.0 ≡ operands_of all n.1

  settled_here : (ns ms : Named) → all ≡ ns ++ ms → All (λ t. is_use t ≡ true) (terms_of ms) → (n : Symbol × Term) → IsApplied n → IsClosed ns n → ops n.0 ≡ operands_of ns n.1 → Settled n
  settled_here ns ms is uses n applied closed told =
      told ∙ fewer_there ns ms n.1 applied uses (λ t among. has_of (λ u. has_term (terms_of ns) u ≡ true) (inner_uses n.1) t closed among) ∙ ap (λ ks. operands_of ks n.1) (sym is)

  pub settled : (earlier : Named) (xs : List Replacement) → all ≡ earlier ++ pairs_of xs → All IsApplied (pairs_of xs) → AreTold ops earlier xs → All (λ x. All Settled x.group.symbols) xs
  settled earlier [] is uses told = All-nil _
  settled earlier (x ∷ xs) is uses told =
      let new : Named = x.group.symbols in
      let parts = all_parted IsApplied new (pairs_of xs) uses in
      let whole : all ≡ (earlier ++ new) ++ pairs_of xs = is ∙ sym (append_assoc earlier new (pairs_of xs)) in
      let closed : All (IsClosed (earlier ++ new)) new = closed_each earlier new (pairs_of xs) is in
      All-cons (λ (y : Replacement). All Settled y.group.symbols) x xs
      (λ k d lt. settled_here (earlier ++ new) (pairs_of xs) whole (uses_of_terms (pairs_of xs) parts.1) _ (parts.0 k d lt) (closed k d lt) (told.0 k d lt))
      (settled (earlier ++ new) xs whole parts.1 told.1)
