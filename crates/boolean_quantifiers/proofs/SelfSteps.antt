-- Self-substitution goes step by step through a listing of the subterms.
use Rattle.std.proofs.Common.{◌≡◌, Bool, true, false, cond, ◌⊎◌, inl, inr, List, [], ◌∷◌, ◌++◌, Option, Some, None, is_some, refl, ap, sym, ◌∙◌, subst}
use Rattle.std.specs.Prelude.{unwrap_or}
use Rattle.std.proofs.lemmas.List.{append-nil}
use Rattle.smt_terms.specs.Equal.{term_eq}
use Rattle.smt_terms.specs.Groups.{has_term}
use Rattle.smt_terms.specs.Sorts.{Variable}
use Rattle.smt_terms.specs.Term.{Quantifier, Term, apply, quantified, Terms, none, ◌⨾◌, variable}
use Rattle.smt_terms.proofs.Equal.{Decides-term_eq}
use Rattle.smt_terms.proofs.Tests.{both_true, and_true, either_true, left_true, right_true}
use Rattle.term_walk.proofs.Members.{has-append, has-one}
use Rattle.normal_forms.specs.Quantifiers.{Solved, Solving, solved_for, solved_or, solve, selfsub_from, selfsubs_from}
use Rattle.quantifier_forms.specs.Listing.{behind, listed_variables, listed, listed_each}
use Rattle.boolean_quantifiers.specs.Solving.{is_told, are_told, told, told_each, step, steps}

-- ---- what is told stays so

-- what the first results say of a term, the second say
abbrev pub Agrees : List Solved → List Solved → Type 0
Agrees es fs = (u : Term) → is_some (solved_for es u) ≡ true → solved_for fs u ≡ solved_for es u

abbrev agrees-on : (es fs gs : List Solved) → Agrees es fs → Agrees fs gs → Agrees es gs
agrees-on es fs gs a b u e = b u (ap is_some (a u e) ∙ e) ∙ a u e

mutual
  pub told-stays : (es fs : List Solved) (t : Term) → Agrees es fs → is_told es t ≡ true → (is_told fs t ≡ true) × (told fs t ≡ told es t)
  told-stays es fs (apply h ts) agrees e = let below = tolds-stay es fs ts agrees e in (below.0, ap (apply h) below.1)
  told-stays es fs (quantified q xs body) agrees e =
      let same = agrees (quantified q xs body) e in
      (ap is_some same ∙ e, ap (λ o. unwrap_or o (quantified q xs body)) same)

  tolds-stay : (es fs : List Solved) (ts : Terms) → Agrees es fs → are_told es ts ≡ true → (are_told fs ts ≡ true) × (told_each fs ts ≡ told_each es ts)
  tolds-stay es fs none agrees e = (refl, refl)
  tolds-stay es fs (t ⨾ ts) agrees e =
      let parts = both_true (is_told es t) (are_told es ts) e in
      let first = told-stays es fs t agrees parts.0 in
      let rest = tolds-stay es fs ts agrees parts.1 in
      (and_true (is_told fs t) (are_told fs ts) first.0 rest.0, λ i. first.1 i ⨾ rest.1 i)

-- the results with one more, of a term that had none
pub agrees-more : (es : List Solved) (e : Solved) → solved_for es e.term ≡ None → Agrees es (e ∷ es)
agrees-more es e new u some = by (term_eq e.term u) refl
  where
    by : (b : Bool) → term_eq e.term u ≡ b → solved_for (e ∷ es) u ≡ solved_for es u
    by false h = ap (λ b. elim b as (λ _. Option Term) [ true ↦ Some e.result | false ↦ solved_for es u ]) h
    by true h =
        let same : e.term ≡ u = (Decides-term_eq e.term u).0 h in
        let no : false ≡ true = ap is_some (sym new ∙ ap (solved_for es) same) ∙ some in
        absurd cc

-- a result more, where the body's results agree with those before
solve-agrees : (es : List Solved) (t : Term) (q : Quantifier) (xs : List Variable) (b : Term × Solving) → solved_for es t ≡ None → Agrees es b.1.solved → Agrees es (solve t q xs b).1.solved
solve-agrees es t q xs b new agrees u some = by (term_eq t u) refl
  where
    by : (c : Bool) → term_eq t u ≡ c → solved_for (solve t q xs b).1.solved u ≡ solved_for es u
    by false h = ap (λ d. elim d as (λ _. Option Term) [ true ↦ Some (solve t q xs b).0 | false ↦ solved_for b.1.solved u ]) h ∙ agrees u some
    by true h =
        let same : t ≡ u = (Decides-term_eq t u).0 h in
        let no : false ≡ true = ap is_some (sym new ∙ ap (solved_for es) same) ∙ some in
        absurd cc

-- ---- what is told isn't solved again

mutual
  pub told-again : (t : Term) (s : Solving) → is_told s.solved t ≡ true → selfsub_from t s ≡ (told s.solved t, s)
  told-again (apply h ts) s e = ap (λ (r : Terms × Solving). (apply h r.0, r.1)) (tolds-again ts s e)
  told-again (quantified q xs body) s e = by (solved_for s.solved (quantified q xs body)) refl e
    where
      by : (o : Option Term) → solved_for s.solved (quantified q xs body) ≡ o → is_some (solved_for s.solved (quantified q xs body)) ≡ true → selfsub_from (quantified q xs body) s ≡ (told s.solved (quantified q xs body), s)
      by (Some r) f g =
          ap (λ o. solved_or o s (λ s'. solve (quantified q xs body) q xs (selfsub_from body s'))) f
          ∙ ap (λ u. (u, s)) (sym (ap (λ o. unwrap_or o (quantified q xs body)) f))
      by None f g = let no : false ≡ true = ap is_some (sym f) ∙ g in absurd cc

  tolds-again : (ts : Terms) (s : Solving) → are_told s.solved ts ≡ true → selfsubs_from ts s ≡ (told_each s.solved ts, s)
  tolds-again none s e = refl
  tolds-again (t ⨾ ts) s e =
      let parts = both_true (is_told s.solved t) (are_told s.solved ts) e in
      ap (λ (a : Term × Solving). let r : Terms × Solving = selfsubs_from ts a.1 in (a.0 ⨾ r.0, r.1)) (told-again t s parts.0)
      ∙ ap (λ (r : Terms × Solving). (told s.solved t ⨾ r.0, r.1)) (tolds-again ts s parts.1)

-- ---- results agree with those before

quantified-agrees : (q : Quantifier) (xs : List Variable) (body : Term) (s : Solving) (o : Option Term) → solved_for s.solved (quantified q xs body) ≡ o → Agrees s.solved (selfsub_from body s).1.solved
    → Agrees s.solved (solved_or o s (λ s'. solve (quantified q xs body) q xs (selfsub_from body s'))).1.solved
quantified-agrees q xs body s (Some r) e below = λ u some. refl
quantified-agrees q xs body s None e below = solve-agrees s.solved (quantified q xs body) q xs (selfsub_from body s) e below

mutual
  after-agrees : (t : Term) (s : Solving) → Agrees s.solved (selfsub_from t s).1.solved
  after-agrees (apply h ts) s = afters-agree ts s
  after-agrees (quantified q xs body) s = quantified-agrees q xs body s (solved_for s.solved (quantified q xs body)) refl (after-agrees body s)

  afters-agree : (ts : Terms) (s : Solving) → Agrees s.solved (selfsubs_from ts s).1.solved
  afters-agree none s = λ u some. refl
  afters-agree (t ⨾ ts) s = agrees-on s.solved (selfsub_from t s).1.solved (selfsubs_from ts (selfsub_from t s).1).1.solved (after-agrees t s) (afters-agree ts (selfsub_from t s).1)

-- ---- a result that was found is told

abbrev Tells : Term → Term × Solving → Type 0
Tells t r = (is_told r.1.solved t ≡ true) × (told r.1.solved t ≡ r.0)

abbrev TellsEach : Terms → Terms × Solving → Type 0
TellsEach ts r = (are_told r.1.solved ts ≡ true) × (told_each r.1.solved ts ≡ r.0)

pub first-found : (e : Solved) (es : List Solved) → solved_for (e ∷ es) e.term ≡ Some e.result
first-found e es = ap (λ b. elim b as (λ _. Option Term) [ true ↦ Some e.result | false ↦ solved_for es e.term ]) ((Decides-term_eq e.term e.term).1 refl)

solve-tells : (q : Quantifier) (xs : List Variable) (body : Term) (b : Term × Solving) → Tells (quantified q xs body) (solve (quantified q xs body) q xs b)
solve-tells q xs body b =
    let found = first-found (record { term = quantified q xs body; result = (solve (quantified q xs body) q xs b).0 }) b.1.solved in
    (ap is_some found, ap (λ o. unwrap_or o (quantified q xs body)) found)

quantified-tells : (q : Quantifier) (xs : List Variable) (body : Term) (s : Solving) (o : Option Term) → solved_for s.solved (quantified q xs body) ≡ o
    → Tells (quantified q xs body) (solved_or o s (λ s'. solve (quantified q xs body) q xs (selfsub_from body s')))
quantified-tells q xs body s (Some r) e = (ap is_some e, ap (λ o. unwrap_or o (quantified q xs body)) e)
quantified-tells q xs body s None e = solve-tells q xs body (selfsub_from body s)

mutual
  after-tells : (t : Term) (s : Solving) → Tells t (selfsub_from t s)
  after-tells (apply h ts) s = let below = afters-tell ts s in (below.0, ap (apply h) below.1)
  after-tells (quantified q xs body) s = quantified-tells q xs body s (solved_for s.solved (quantified q xs body)) refl

  afters-tell : (ts : Terms) (s : Solving) → TellsEach ts (selfsubs_from ts s)
  afters-tell none s = (refl, refl)
  afters-tell (t ⨾ ts) s =
      let first = after-tells t s in
      let rest = afters-tell ts (selfsub_from t s).1 in
      let kept = told-stays (selfsub_from t s).1.solved (selfsubs_from ts (selfsub_from t s).1).1.solved t (afters-agree ts (selfsub_from t s).1) first.0 in
      (and_true (is_told (selfsubs_from ts (selfsub_from t s).1).1.solved t) (are_told (selfsubs_from ts (selfsub_from t s).1).1.solved ts) kept.0 rest.0, λ i. (kept.1 ∙ first.1) i ⨾ rest.1 i)

pub after-told : (t : Term) (s : Solving) → (is_told (selfsub_from t s).1.solved t ≡ true) × (told (selfsub_from t s).1.solved t ≡ (selfsub_from t s).0)
after-told t s = after-tells t s

-- ---- a listing

abbrev pub nothing : Term → Bool
nothing _ = false

abbrev pub everything : Term → Bool
everything _ = true

pub steps-append : (ts us : List Term) (s : Solving) → steps (ts ++ us) s ≡ steps us (steps ts s)
steps-append [] us s = refl
steps-append (t ∷ ts) us s = steps-append ts us (step t s)

-- each term of the list is told, and what has a result is in the list
record Fits (ts : List Term) (s : Solving) : Type 0 where
  known : (u : Term) → has_term ts u ≡ true → is_told s.solved u ≡ true
  keys : (u : Term) → is_some (solved_for s.solved u) ≡ true → has_term ts u ≡ true

-- the list goes on, and the steps for what is added lead from the first state to the second
record Goes (ts us : List Term) (s v : Solving) : Type 0 where
  added : List Term
  list : us ≡ ts ++ added
  steps : steps added s ≡ v
  fits : Fits us v

goes-nowhere : (ts : List Term) (s : Solving) → Fits ts s → Goes ts ts s s
goes-nowhere ts s fits = record { added = []; list = sym (append-nil ts); steps = refl; fits = fits }

append-grouped : (a b c : List Term) → (a ++ b) ++ c ≡ a ++ (b ++ c)
append-grouped [] b c = refl
append-grouped (x ∷ a) b c = ap (λ r. x ∷ r) (append-grouped a b c)

goes-on : (a b c : List Term) (s v w : Solving) → Goes a b s v → Goes b c v w → Goes a c s w
goes-on a b c s v w f g = record {
  added = f.added ++ g.added;
  list = g.list ∙ ap (λ ts. ts ++ g.added) f.list ∙ append-grouped a f.added g.added;
  steps = steps-append f.added g.added s ∙ ap (steps g.added) f.steps ∙ g.steps;
  fits = g.fits;
}

-- one term more, whose step leads to a state in which it is told
one-more : (ts : List Term) (t : Term) (s v : Solving) → step t s ≡ v → Fits ts s → is_told v.solved t ≡ true → ((u : Term) → is_told s.solved u ≡ true → is_told v.solved u ≡ true)
    → ((u : Term) → is_some (solved_for v.solved u) ≡ true → (is_some (solved_for s.solved u) ≡ true) ⊎ (t ≡ u)) → Goes ts (ts ++ t ∷ []) s v
one-more ts t s v same fits here stays keys = record {
  added = t ∷ [];
  list = refl;
  steps = same;
  fits = record {
    known = λ u e. elim (either_true (has_term ts u) (has_term (t ∷ []) u) (sym (has-append ts (t ∷ []) u) ∙ e)) [
      | inl before ↦ stays u (fits.known u before)
      | inr last ↦ elim (either_true (term_eq t u) false last) [ inl is ↦ subst (λ w. is_told v.solved w ≡ true) ((Decides-term_eq t u).0 is) here | inr never ↦ absurd cc ]
    ];
    keys = λ u e. has-append ts (t ∷ []) u ∙ elim (keys u e) [
      | inl before ↦ left_true (has_term ts u) (has_term (t ∷ []) u) (fits.keys u before)
      | inr is ↦ right_true (has_term ts u) (has_term (t ∷ []) u) (subst (λ w. has_term (t ∷ []) w ≡ true) is (has-one t))
    ];
  };
}

-- a term whose step changes nothing
still : (ts : List Term) (t : Term) (s : Solving) → step t s ≡ s → Fits ts s → is_told s.solved t ≡ true → Goes ts (ts ++ t ∷ []) s s
still ts t s same fits here = one-more ts t s s same fits here (λ u e. e) (λ u e. inl e)

variables-go : (xs : List Variable) (ts : List Term) (s : Solving) → Fits ts s → Goes ts (listed_variables nothing everything xs ts) s s
variables-go [] ts s fits = goes-nowhere ts s fits
variables-go (x ∷ xs) ts s fits =
    let one = leaf (has_term ts (variable x)) in
    goes-on ts (behind nothing everything ts ts (variable x)) (listed_variables nothing everything (x ∷ xs) ts) s s s one (variables-go xs (behind nothing everything ts ts (variable x)) s one.fits)
  where
    leaf : (b : Bool) → Goes ts (cond b ts (ts ++ variable x ∷ [])) s s
    leaf true = goes-nowhere ts s fits
    leaf false = still ts (variable x) s refl fits refl

told-more : (es : List Solved) (e : Solved) (u : Term) → is_some (solved_for es u) ≡ true → is_some (solved_for (e ∷ es) u) ≡ true
told-more es e u some = by (term_eq e.term u) refl
  where
    by : (b : Bool) → term_eq e.term u ≡ b → is_some (solved_for (e ∷ es) u) ≡ true
    by true h = ap (λ b. is_some (elim b as (λ _. Option Term) [ true ↦ Some e.result | false ↦ solved_for es u ])) h
    by false h = ap (λ b. is_some (elim b as (λ _. Option Term) [ true ↦ Some e.result | false ↦ solved_for es u ])) h ∙ some

mutual
  is_told-more : (es : List Solved) (e : Solved) (u : Term) → is_told es u ≡ true → is_told (e ∷ es) u ≡ true
  is_told-more es e (apply h ts) some = are_told-more es e ts some
  is_told-more es e (quantified q xs body) some = told-more es e (quantified q xs body) some

  are_told-more : (es : List Solved) (e : Solved) (us : Terms) → are_told es us ≡ true → are_told (e ∷ es) us ≡ true
  are_told-more es e none some = refl
  are_told-more es e (u ⨾ us) some =
      let parts = both_true (is_told es u) (are_told es us) some in
      and_true (is_told (e ∷ es) u) (are_told (e ∷ es) us) (is_told-more es e u parts.0) (are_told-more es e us parts.1)

key-or-first : (es : List Solved) (e : Solved) (u : Term) → is_some (solved_for (e ∷ es) u) ≡ true → (is_some (solved_for es u) ≡ true) ⊎ (e.term ≡ u)
key-or-first es e u some = by (term_eq e.term u) refl
  where
    by : (b : Bool) → term_eq e.term u ≡ b → (is_some (solved_for es u) ≡ true) ⊎ (e.term ≡ u)
    by true h = inr ((Decides-term_eq e.term u).0 h)
    by false h = inl (sym (ap (λ b. is_some (elim b as (λ _. Option Term) [ true ↦ Some e.result | false ↦ solved_for es u ])) h) ∙ some)

-- a term that was listed
listed-before : (t : Term) (ts : List Term) (s : Solving) → Fits ts s → has_term ts t ≡ true → Goes ts ts s (selfsub_from t s).1
listed-before t ts s fits e = subst (λ (v : Solving). Goes ts ts s v) (sym (ap (λ (r : Term × Solving). r.1) (told-again t s (fits.known t e)))) (goes-nowhere ts s fits)

-- the result of a quantified term that wasn't listed
quantified-last : (q : Quantifier) (xs : List Variable) (body : Term) (ts below : List Term) (s : Solving) → Fits ts s → has_term ts (quantified q xs body) ≡ false → Goes ts below s (selfsub_from body s).1
    → Goes ts (below ++ quantified q xs body ∷ []) s (selfsub_from (quantified q xs body) s).1
quantified-last q xs body ts below s fits new inner =
    let unsolved = none-there (solved_for s.solved (quantified q xs body)) refl in
    let after : selfsub_from (quantified q xs body) s ≡ solve (quantified q xs body) q xs (selfsub_from body s) = ap (λ o. solved_or o s (λ s'. solve (quantified q xs body) q xs (selfsub_from body s'))) unsolved in
    let found = after-told body s in
    let again : (told (selfsub_from body s).1.solved body, (selfsub_from body s).1) ≡ selfsub_from body s = λ i. (found.1 i, (selfsub_from body s).1) in
    let v : Solving = (solve (quantified q xs body) q xs (selfsub_from body s)).1 in
    let last : Goes below (below ++ quantified q xs body ∷ []) (selfsub_from body s).1 v =
    one-more below (quantified q xs body) (selfsub_from body s).1 v (ap (λ (b : Term × Solving). (solve (quantified q xs body) q xs b).1) again) inner.fits (here (selfsub_from body s)) (λ u e. is_told-more (selfsub_from body s).1.solved _ u e) (λ u e. key-or-first (selfsub_from body s).1.solved _ u e) in
    subst (λ (w : Solving). Goes ts (below ++ quantified q xs body ∷ []) s w) (sym (ap (λ (r : Term × Solving). r.1) after)) (goes-on ts below (below ++ quantified q xs body ∷ []) s (selfsub_from body s).1 v inner last)
  where
    here : (b : Term × Solving) → is_told (solve (quantified q xs body) q xs b).1.solved (quantified q xs body) ≡ true
    here b = ap is_some (first-found (record { term = quantified q xs body; result = (solve (quantified q xs body) q xs b).0 }) b.1.solved)

    none-there : (o : Option Term) → solved_for s.solved (quantified q xs body) ≡ o → o ≡ None
    none-there None e = refl
    none-there (Some r) e = let there = fits.keys (quantified q xs body) (ap is_some e) in absurd cc

mutual
  listed-goes : (t : Term) (ts : List Term) (s : Solving) → Fits ts s → Goes ts (listed nothing everything t ts) s (selfsub_from t s).1
  listed-goes (apply h us) ts s fits = by (has_term ts (apply h us)) refl (each-goes us ts s fits)
    where
      by : (b : Bool) → has_term ts (apply h us) ≡ b → Goes ts (listed_each nothing everything us ts) s (selfsubs_from us s).1 → Goes ts (cond b ts (listed_each nothing everything us ts ++ apply h us ∷ [])) s (selfsubs_from us s).1
      by true e below = listed-before (apply h us) ts s fits e
      by false e below =
          let last = still (listed_each nothing everything us ts) (apply h us) (selfsubs_from us s).1 refl below.fits (after-told (apply h us) s).0 in
          goes-on ts (listed_each nothing everything us ts) (listed_each nothing everything us ts ++ apply h us ∷ []) s (selfsubs_from us s).1 (selfsubs_from us s).1 below last
  listed-goes (quantified q xs body) ts s fits =
      let names = variables-go xs ts s fits in
      by (has_term ts (quantified q xs body)) refl (goes-on ts (listed_variables nothing everything xs ts) (listed nothing everything body (listed_variables nothing everything xs ts)) s s (selfsub_from body s).1 names (listed-goes body (listed_variables nothing everything xs ts) s names.fits))
    where
      by : (b : Bool) → has_term ts (quantified q xs body) ≡ b → Goes ts (listed nothing everything body (listed_variables nothing everything xs ts)) s (selfsub_from body s).1
          → Goes ts (cond b ts (listed nothing everything body (listed_variables nothing everything xs ts) ++ quantified q xs body ∷ [])) s (selfsub_from (quantified q xs body) s).1
      by true e below = listed-before (quantified q xs body) ts s fits e
      by false e below = quantified-last q xs body ts (listed nothing everything body (listed_variables nothing everything xs ts)) s fits e below

  each-goes : (us : Terms) (ts : List Term) (s : Solving) → Fits ts s → Goes ts (listed_each nothing everything us ts) s (selfsubs_from us s).1
  each-goes none ts s fits = goes-nowhere ts s fits
  each-goes (u ⨾ us) ts s fits =
      let one = listed-goes u ts s fits in
      goes-on ts (listed nothing everything u ts) (listed_each nothing everything (u ⨾ us) ts) s (selfsub_from u s).1 (selfsubs_from us (selfsub_from u s).1).1 one (each-goes us (listed nothing everything u ts) (selfsub_from u s).1 one.fits)

-- all steps of a listing
pub all-steps : (t : Term) (s : Solving) → s.solved ≡ [] → steps (listed (λ _. false) (λ _. true) t []) s ≡ (selfsub_from t s).1
all-steps t s empty =
    let goes = listed-goes t [] s (record { known = λ u e. absurd cc; keys = λ u e. let no : false ≡ true = ap (λ es. is_some (solved_for es u)) (sym empty) ∙ e in absurd cc }) in
    ap (λ ts. steps ts s) goes.list ∙ goes.steps

-- what has a result is among the terms whose steps were taken
pub steps-keys : (ts : List Term) (s : Solving) (u : Term) → is_some (solved_for (steps ts s).solved u) ≡ true → (is_some (solved_for s.solved u) ≡ true) ⊎ (has_term ts u ≡ true)
steps-keys [] s u e = inl e
steps-keys (t ∷ ts) s u e = elim (steps-keys ts (step t s) u e) [
  | inl there ↦ elim (step-keys t s u there) [
    | inl before ↦ inl before
    | inr same ↦ inr (left_true (term_eq t u) (has_term ts u) ((Decides-term_eq t u).1 same))
  ]
  | inr later ↦ inr (right_true (term_eq t u) (has_term ts u) later)
]
  where
    step-keys : (w : Term) (v : Solving) (x : Term) → is_some (solved_for (step w v).solved x) ≡ true → (is_some (solved_for v.solved x) ≡ true) ⊎ (w ≡ x)
    step-keys (apply h us) v x some = inl some
    step-keys (quantified q xs body) v x some = key-or-first v.solved _ x some
