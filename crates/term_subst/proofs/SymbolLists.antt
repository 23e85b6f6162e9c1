-- Lists of symbols that are put together, each symbol once.
use Rattle.std.proofs.Common.{◌≡◌, ℕ, zero, suc, ◌+◌, ◌<◌, ◌==◌, Bool, true, false, not, cond, ◌&&◌, ◌||◌, if◌then◌else◌, List, [], ◌∷◌, ◌++◌, filter, map, length, get_or, take, drop, All, refl, ap, sym, ◌∙◌, subst}
use Rattle.std.specs.List.{list_any}
use Rattle.std.proofs.lemmas.List.{map-append, drop_more, take_more}
use Rattle.std.proofs.lemmas.List.Elements.{All-head, All-tail, filter-append}
use Rattle.smt_terms.specs.declared.ids.SymId.{SymId}
use Rattle.smt_terms.specs.Equal.{symbol_eq}
use Rattle.smt_terms.specs.Free.{is_among, with_more, head_symbols, free, free_of}
use Rattle.smt_terms.specs.Sorts.{Symbol}
use Rattle.smt_terms.specs.Term.{Head, op, symbol, const_array, constant_of, Term, apply, quantified, Terms, none, ◌⨾◌}
use Rattle.smt_terms.proofs.Among.{is_among-append, is_among-filter, is_among-with_more}
use Rattle.smt_terms.proofs.Equal.{Decides-symbol_eq}
use Rattle.smt_terms.proofs.Tests.{left_true, right_true}
use Rattle.term_table.specs.Formulas.{Formulas, IsTable, symbol_at, IsSymbol}
use Rattle.term_walk.specs.FreeLists.{named, AreAmong, EachOnce}
use Rattle.term_subst.proofs.MapsAt.{symbols-alike}
use Rattle.term_subst.proofs.Turns.{append-nothing}

append-grouped : (fs gs hs : List Symbol) → (fs ++ gs) ++ hs ≡ fs ++ (gs ++ hs)
append-grouped [] gs hs = refl
append-grouped (f ∷ fs) gs hs = ap (λ us. f ∷ us) (append-grouped fs gs hs)

-- ---- filters

filter-alike : (p q : Symbol → Bool) (fs : List Symbol) → ((f : Symbol) → is_among fs f ≡ true → p f ≡ q f) → filter p fs ≡ filter q fs
filter-alike p q [] h = refl
filter-alike p q (f ∷ fs) h =
    let here : p f ≡ q f = h f (left_true (symbol_eq f f) (is_among fs f) ((Decides-symbol_eq f f).1 refl)) in
    let rest : filter p fs ≡ filter q fs = filter-alike p q fs (λ g e. h g (right_true (symbol_eq f g) (is_among fs g) e)) in
    (λ i. cond (here i) (f ∷ filter p fs) (filter p fs)) ∙ ap (λ gs. cond (q f) (f ∷ gs) gs) rest

filter-all : (fs : List Symbol) → filter (λ _. true) fs ≡ fs
filter-all [] = refl
filter-all (f ∷ fs) = ap (λ gs. f ∷ gs) (filter-all fs)

filter-none : (fs : List Symbol) → filter (λ _. false) fs ≡ []
filter-none [] = refl
filter-none (f ∷ fs) = filter-none fs

filter-twice : (p q : Symbol → Bool) (fs : List Symbol) → filter p (filter q fs) ≡ filter (λ f. q f && p f) fs
filter-twice p q [] = refl
filter-twice p q (f ∷ fs) = by (q f) (filter-twice p q fs)
  where
    by : (b : Bool) → filter p (filter q fs) ≡ filter (λ g. q g && p g) fs → filter p (cond b (f ∷ filter q fs) (filter q fs)) ≡ cond (b && p f) (f ∷ filter (λ g. q g && p g) fs) (filter (λ g. q g && p g) fs)
    by true rest = ap (λ gs. cond (p f) (f ∷ gs) gs) rest
    by false rest = rest

pub filter-same : (p q : Symbol → Bool) (fs : List Symbol) → ((f : Symbol) → p f ≡ q f) → filter p fs ≡ filter q fs
filter-same p q fs h = filter-alike p q fs (λ f e. h f)

-- ---- symbols and those of another list that aren't among them

pub with_more-none : (fs : List Symbol) → with_more [] fs ≡ fs
with_more-none fs = filter-all fs

pub with_more-same : (fs gs : List Symbol) → AreAmong gs fs → with_more fs gs ≡ fs
with_more-same fs gs h =
    ap (λ hs. fs ++ hs) (filter-alike (λ g. not (is_among fs g)) (λ _. false) gs (λ g e. ap not (h g e)) ∙ filter-none gs) ∙ append-nothing fs

pub with_more-grouped : (fs gs hs : List Symbol) → with_more (with_more fs gs) hs ≡ with_more fs (with_more gs hs)
with_more-grouped fs gs hs =
    append-grouped fs (filter new gs) (filter (λ f. not (is_among (with_more fs gs) f)) hs)
    ∙ ap (λ us. fs ++ (filter new gs ++ us)) same
    ∙ ap (λ us. fs ++ us) (sym (filter-append new gs (filter (λ f. not (is_among gs f)) hs)))
  where
    new : Symbol → Bool
    new f = not (is_among fs f)

    neither : (a b : Bool) → not (a || b) ≡ (not b && not a)
    neither true true = refl
    neither true false = refl
    neither false true = refl
    neither false false = refl

    same : filter (λ f. not (is_among (with_more fs gs) f)) hs ≡ filter (λ f. not (is_among fs f)) (filter (λ f. not (is_among gs f)) hs)
    same =
        filter-alike (λ f. not (is_among (with_more fs gs) f)) (λ f. not (is_among gs f) && not (is_among fs f)) hs
        (λ f e. ap not (is_among-with_more fs gs f) ∙ neither (is_among fs f) (is_among gs f))
        ∙ sym (filter-twice (λ f. not (is_among fs f)) (λ f. not (is_among gs f)) hs)

pub first-among : (fs gs : List Symbol) → AreAmong fs (with_more fs gs)
first-among fs gs f e = is_among-with_more fs gs f ∙ left_true (is_among fs f) (is_among gs f) e

pub second-among : (fs gs : List Symbol) → AreAmong gs (with_more fs gs)
second-among fs gs f e = is_among-with_more fs gs f ∙ right_true (is_among fs f) (is_among gs f) e

-- ---- each symbol once

once-filter : (p : Symbol → Bool) (fs : List Symbol) → EachOnce fs → EachOnce (filter p fs)
once-filter p [] h = h
once-filter p (f ∷ fs) h = by (p f) (once-filter p fs h.1)
  where
    by : (b : Bool) → EachOnce (filter p fs) → EachOnce (cond b (f ∷ filter p fs) (filter p fs))
    by true rest = (is_among-filter p fs f ∙ ap (λ b. b && p f) h.0, rest)
    by false rest = rest

once-append : (fs gs : List Symbol) → EachOnce fs → EachOnce gs → ((f : Symbol) → is_among fs f ≡ true → is_among gs f ≡ false) → EachOnce (fs ++ gs)
once-append [] gs h k apart = k
once-append (f ∷ fs) gs h k apart =
    let other : is_among gs f ≡ false = apart f (left_true (symbol_eq f f) (is_among fs f) ((Decides-symbol_eq f f).1 refl)) in
    (is_among-append fs gs f ∙ (λ i. h.0 i || other i), once-append fs gs h.1 k (λ g e. apart g (right_true (symbol_eq f g) (is_among fs g) e)))

once-with_more : (fs gs : List Symbol) → EachOnce fs → EachOnce gs → EachOnce (with_more fs gs)
once-with_more fs gs h k = once-append fs (filter (λ g. not (is_among fs g)) gs) h (once-filter (λ g. not (is_among fs g)) gs k) apart
  where
    neither : (b : Bool) → (b && false) ≡ false
    neither true = refl
    neither false = refl

    apart : (f : Symbol) → is_among fs f ≡ true → is_among (filter (λ g. not (is_among fs g)) gs) f ≡ false
    apart f e = is_among-filter (λ g. not (is_among fs g)) gs f ∙ ap (λ b. is_among gs f && not b) e ∙ neither (is_among gs f)

once-head : (h : Head) → EachOnce (head_symbols h)
once-head (op _) = _
once-head (symbol f) = (refl, _)
once-head (const_array _) = _

mutual
  pub once-free : (t : Term) → EachOnce (free t)
  once-free (apply h ts) = once-with_more (head_symbols h) (free_of ts) (once-head h) (once-free_of ts)
  once-free (quantified q xs body) = once-filter (λ f. not (is_among (map constant_of xs) f)) (free body) (once-free body)

  once-free_of : (ts : Terms) → EachOnce (free_of ts)
  once-free_of none = _
  once-free_of (t ⨾ ts) = once-with_more (free t) (free_of ts) (once-free t) (once-free_of ts)

-- one symbol after another
more-first : (fs gs : List Symbol) (f : Symbol) → EachOnce (f ∷ gs) → with_more (with_more fs (f ∷ [])) gs ≡ with_more fs (f ∷ gs)
more-first fs gs f h =
    with_more-grouped fs (f ∷ []) gs ∙ ap (with_more fs) (ap (λ hs. f ∷ hs) (filter-alike (λ g. not (is_among (f ∷ []) g)) (λ _. true) gs other ∙ filter-all gs))
  where
    other : (g : Symbol) → is_among gs g ≡ true → not (is_among (f ∷ []) g) ≡ true
    other g e = by (symbol_eq f g) refl
      where
        by : (b : Bool) → symbol_eq f g ≡ b → not (b || false) ≡ true
        by true same = let out : is_among gs g ≡ false = subst (λ (u : Symbol). is_among gs u ≡ false) ((Decides-symbol_eq f g).0 same) h.0 in absurd cc
        by false apart = refl

-- ---- by numbers

module _ (t : Formulas) where
  among_number : IsTable t → (fs : List SymId) (f : SymId) → All (IsSymbol t) fs → IsSymbol t f → is_among (named t fs) (symbol_at t f) ≡ list_any (λ g. f.0 == g.0) fs
  among_number table [] f h within = refl
  among_number table (g ∷ fs) f h within =
      let rest = among_number table fs f (All-tail (IsSymbol t) g fs h) within in
      let here = symbols-alike t table f g within (All-head (IsSymbol t) g fs h) in
      λ i. here i || rest i

  pub listed-one : IsTable t → (fs : List SymId) (f : SymId) → All (IsSymbol t) fs → IsSymbol t f → named t (if list_any (λ g. f.0 == g.0) fs then fs else fs ++ f ∷ []) ≡ with_more (named t fs) (symbol_at t f ∷ [])
  listed-one table fs f h within =
      by (list_any (λ g. f.0 == g.0) fs)
      ∙ ap (λ b. named t fs ++ cond (not b) (symbol_at t f ∷ []) []) (sym (among_number table fs f h within))
    where
      by : (b : Bool) → named t (if b then fs else fs ++ f ∷ []) ≡ named t fs ++ cond (not b) (symbol_at t f ∷ []) []
      by true = sym (append-nothing (named t fs))
      by false = map-append (symbol_at t) fs (f ∷ [])

  once-drop : (fs : List SymId) (i : ℕ) → EachOnce (named t fs) → EachOnce (named t (drop i fs))
  once-drop fs zero h = h
  once-drop [] (suc i) h = h
  once-drop (f ∷ fs) (suc i) h = once-drop fs i h.1

  pub list-step : (old new fs : List SymId) (i : ℕ) (d : SymId) → i < length fs → EachOnce (named t fs) → named t new ≡ with_more (named t old) (symbol_at t (get_or fs i d) ∷ [])
      → with_more (named t new) (named t (drop (i + 1) fs)) ≡ with_more (named t old) (named t (drop i fs))
  list-step old new fs i d lt once lists =
      let split : drop i fs ≡ get_or fs i d ∷ drop (i + 1) fs = drop_more fs i d lt in
      ap (λ gs. with_more gs (named t (drop (i + 1) fs))) lists
      ∙ more-first (named t old) (named t (drop (i + 1) fs)) (symbol_at t (get_or fs i d)) (subst (λ (gs : List SymId). EachOnce (named t gs)) split (once-drop fs i once))
      ∙ ap (λ gs. with_more (named t old) (named t gs)) (sym split)

  pub unbound-one : IsTable t → (bound free : List SymId) (f : SymId) → All (IsSymbol t) bound → IsSymbol t f → (b : Bool) → list_any (λ g. f.0 == g.0) bound ≡ b
      → named t (if b then free else free ++ f ∷ []) ≡ named t free ++ filter (λ g. not (is_among (named t bound) g)) (symbol_at t f ∷ [])
  unbound-one table bound free f h within b e =
      by b ∙ ap (λ c. named t free ++ cond (not c) (symbol_at t f ∷ []) []) (sym (among_number table bound f h within ∙ e))
    where
      by : (c : Bool) → named t (if c then free else free ++ f ∷ []) ≡ named t free ++ cond (not c) (symbol_at t f ∷ []) []
      by true = sym (append-nothing (named t free))
      by false = map-append (symbol_at t) free (f ∷ [])

  pub unbound-step : (bound old new fs : List SymId) (i : ℕ) (d : SymId) → i < length fs → named t old ≡ filter (λ g. not (is_among (named t bound) g)) (named t (take i fs))
      → named t new ≡ named t old ++ filter (λ g. not (is_among (named t bound) g)) (symbol_at t (get_or fs i d) ∷ [])
      → named t new ≡ filter (λ g. not (is_among (named t bound) g)) (named t (take (i + 1) fs))
  unbound-step bound old new fs i d lt before one =
      one
      ∙ ap (λ gs. gs ++ filter (λ g. not (is_among (named t bound) g)) (symbol_at t (get_or fs i d) ∷ [])) before
      ∙ sym (filter-append (λ g. not (is_among (named t bound) g)) (named t (take i fs)) (symbol_at t (get_or fs i d) ∷ []))
      ∙ ap (filter (λ g. not (is_among (named t bound) g))) (sym (ap (named t) (take_more fs i d lt) ∙ map-append (symbol_at t) (take i fs) (get_or fs i d ∷ [])))
