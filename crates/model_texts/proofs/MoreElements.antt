-- A list of elements with one element more.
use Rattle.std.proofs.Common.{◌≡◌, ◌∙◌, sym, ap, subst, refl, ℕ, ◌+◌, ◌≤◌, max, Bool, true, false, if◌then◌else◌, ◌&&◌, List, [], ◌∷◌, ◌++◌, map, filter, length, Ok, arith}
use Rattle.std.specs.List.{list_all}
use Rattle.smt_lex.specs.Names.{is_among}
use Rattle.smt_terms.specs.Equal.{name_eq}
use Rattle.smt_terms.specs.Sorts.{Name}
use Rattle.smt_terms.proofs.Tests.{both_true, and_true}
use Rattle.model_texts.specs.Reading.{Element, names_in, with_element, sizes, Reading}
use Rattle.model_texts.specs.GivenFits.{AtLeast, are_elements_of}
use Rattle.model_texts.proofs.Readings.{Keeps}

more_names : (es : List Element) (e : Element) (n : Name) → length (names_in es n) ≤ length (names_in (es ++ e ∷ []) n)
more_names [] e n = omega arith
more_names (d ∷ es) e n = by (name_eq d.sort n) (more_names es e n)
  where
    by : (b : Bool) → length (names_in es n) ≤ length (names_in (es ++ e ∷ []) n)
        → length (map (λ (x : Element). x.name) (if b then d ∷ filter (λ x. name_eq x.sort n) es else filter (λ x. name_eq x.sort n) es))
        ≤ length (map (λ (x : Element). x.name) (if b then d ∷ filter (λ x. name_eq x.sort n) (es ++ e ∷ []) else filter (λ x. name_eq x.sort n) (es ++ e ∷ [])))
    by true less = omega (arith, less)
    by false less = less

-- no sort has fewer elements than before
pub sizes_grow : (c : Name → ℕ) (s n : Name) (es : List Element) → ((m : Name) → c m ≤ sizes es m) → (m : Name) → c m ≤ sizes (with_element s n es) m
sizes_grow c s n es before m = by (is_among (names_in es s) n) (before m) (more_names es (record { sort = s; name = n }) m)
  where
    by : (b : Bool) → c m ≤ sizes es m → length (names_in es m) ≤ length (names_in (es ++ record { sort = s; name = n } ∷ []) m) → c m ≤ sizes (if b then es else es ++ record { sort = s; name = n } ∷ []) m
    by true h less = h
    by false h less = omega (arith, h, less)

-- what was read before has been read of no more elements
pub at_least_before : {A : Type 0} (r : Reading A) (es fs : List Element) (a : A) → Keeps (λ ds. (m : Name) → sizes es m ≤ sizes ds m) r → r es ≡ Ok (a, fs) → (counts : Name → ℕ) → AtLeast fs counts → AtLeast es counts
at_least_before r es fs a keeps h counts least m =
    let less : sizes es m ≤ sizes fs m = keeps es fs a h (λ n. omega arith) m in
    let more : sizes fs m ≤ counts m = least m in
    omega (arith, less, more)

elements_and : (ns : List Name) (es : List Element) (e : Element) → are_elements_of ns es ≡ true → is_among ns e.sort ≡ true → are_elements_of ns (es ++ e ∷ []) ≡ true
elements_and ns [] e h live = and_true (is_among ns e.sort) true live refl
elements_and ns (d ∷ es) e h live =
    let parts = both_true (is_among ns d.sort) (are_elements_of ns es) h in
    and_true (is_among ns d.sort) (are_elements_of ns (es ++ e ∷ [])) parts.0 (elements_and ns es e parts.1 live)

pub elements_more : (ns : List Name) (s n : Name) (es : List Element) → is_among ns s ≡ true → are_elements_of ns es ≡ true → are_elements_of ns (with_element s n es) ≡ true
elements_more ns s n es live h = by (is_among (names_in es s) n) (elements_and ns es (record { sort = s; name = n }) h live)
  where
    by : (b : Bool) → are_elements_of ns (es ++ record { sort = s; name = n } ∷ []) ≡ true → are_elements_of ns (if b then es else es ++ record { sort = s; name = n } ∷ []) ≡ true
    by true more = h
    by false more = more
