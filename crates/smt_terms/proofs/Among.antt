-- Which symbols are among those of a list.
use Rattle.std.proofs.Common.{◌≡◌, Bool, true, false, not, cond, ◌&&◌, ◌||◌, List, [], ◌∷◌, ◌++◌, map, refl, ap, ◌∙◌}
use Rattle.std.specs.Prelude.{filter}
use Rattle.smt_terms.specs.Sorts.{Symbol, Variable}
use Rattle.smt_terms.specs.Term.{constant_of}
use Rattle.smt_terms.specs.Equal.{symbol_eq}
use Rattle.smt_terms.specs.Free.{is_among, with_more, without}
use Rattle.smt_terms.proofs.Equal.{Decides-symbol_eq}

pub is_among-append : (fs gs : List Symbol) (f : Symbol) → is_among (fs ++ gs) f ≡ (is_among fs f || is_among gs f)
is_among-append [] gs f = refl
is_among-append (g ∷ fs) gs f =
    let behind : is_among (fs ++ gs) f ≡ (is_among fs f || is_among gs f) = is_among-append fs gs f in
    ap (λ b. symbol_eq g f || b) behind ∙ or_grouped (symbol_eq g f) (is_among fs f) (is_among gs f)
  where
    or_grouped : (a b c : Bool) → (a || (b || c)) ≡ ((a || b) || c)
    or_grouped true b c = refl
    or_grouped false b c = refl

-- one more symbol, if a test lets it through
is_among-kept : (b : Bool) (g : Symbol) (fs : List Symbol) (f : Symbol) → is_among (cond b (g ∷ fs) fs) f ≡ ((b && symbol_eq g f) || is_among fs f)
is_among-kept true g fs f = refl
is_among-kept false g fs f = refl

let_through : (same earlier p q : Bool) → (same ≡ true → q ≡ p) → ((q && same) || (earlier && p)) ≡ ((same || earlier) && p)
let_through true true true q h = let e : q ≡ true = h refl in cc
let_through true true false q h = let e : q ≡ false = h refl in cc
let_through true false true q h = let e : q ≡ true = h refl in cc
let_through true false false q h = let e : q ≡ false = h refl in cc
let_through false earlier p true h = refl
let_through false earlier p false h = refl

pub is_among-filter : (p : Symbol → Bool) (fs : List Symbol) (f : Symbol) → is_among (filter p fs) f ≡ (is_among fs f && p f)
is_among-filter p [] f = refl
is_among-filter p (g ∷ fs) f =
    is_among-kept (p g) g (filter p fs) f
    ∙ ap (λ b. (p g && symbol_eq g f) || b) (is_among-filter p fs f)
    ∙ let_through (symbol_eq g f) (is_among fs f) (p f) (p g) (λ e. ap p ((Decides-symbol_eq g f).0 e))

pub is_among-with_more : (fs gs : List Symbol) (f : Symbol) → is_among (with_more fs gs) f ≡ (is_among fs f || is_among gs f)
is_among-with_more fs gs f =
    is_among-append fs (filter (λ g. not (is_among fs g)) gs) f
    ∙ ap (λ b. is_among fs f || b) (is_among-filter (λ g. not (is_among fs g)) gs f)
    ∙ twice (is_among fs f) (is_among gs f)
  where
    twice : (a b : Bool) → (a || (b && not a)) ≡ (a || b)
    twice true b = refl
    twice false true = refl
    twice false false = refl

pub is_among-without : (xs : List Variable) (fs : List Symbol) (f : Symbol) → is_among (without xs fs) f ≡ (is_among fs f && not (is_among (map constant_of xs) f))
is_among-without xs fs f = is_among-filter (λ g. not (is_among (map constant_of xs) g)) fs f
