-- The keys of a set of names are looked up as names of a list.
use Rattle.std.proofs.Common.{◌≡◌, ℕ, Bool, true, false, ◌||◌, List, [], ◌∷◌, ◌++◌, map, Vec, Global, vec_len, if◌then◌else◌, refl, ap, sym, ◌∙◌}
use Rattle.std.specs.List.{list_any, AllZip}
use Rattle.std.specs.Str.{bytes_eq}
use Rattle.std.proofs.lemmas.Slice.Eq.{bytes_eq-Decides}
use Rattle.indexmap.specs.IndexSet.{insert_key}
use Rattle.smt_terms.specs.Sorts.{Name}
use Rattle.smt_terms.specs.Free.{name_among}
use Rattle.smt_terms.proofs.Tests.{alike_from}
use Rattle.term_subst.specs.Names.{with_name}

pub bytes_eq-turned : (a b : List ℕ) → bytes_eq a b ≡ bytes_eq b a
bytes_eq-turned a b =
    alike_from (bytes_eq a b) (bytes_eq b a) (λ h. (bytes_eq-Decides b a).1 (sym ((bytes_eq-Decides a b).0 h))) (λ h. (bytes_eq-Decides a b).1 (sym ((bytes_eq-Decides b a).0 h)))

pub among-held : (ks : List (Vec ℕ Global)) (q : Name) → list_any (λ k. bytes_eq q k.items) ks ≡ name_among (map (λ k. k.items) ks) q
among-held [] q = refl
among-held (k ∷ ks) q = λ i. bytes_eq-turned q k.items i || among-held ks q i

map-append : (ks ls : List (Vec ℕ Global)) → map (λ k. k.items) (ks ++ ls) ≡ map (λ k. k.items) ks ++ map (λ k. k.items) ls
map-append [] ls = refl
map-append (k ∷ ks) ls = ap (λ ns. k.items ∷ ns) (map-append ks ls)

pub names-inserted : (ks : List (Vec ℕ Global)) (n : Vec ℕ Global) (q : Name) → n.items ≡ q
    → map (λ k. k.items) (insert_key (λ a b. bytes_eq a.items b.items) ks n) ≡ with_name (map (λ k. k.items) ks) q
names-inserted ks n q e =
    by (list_any (λ k. bytes_eq n.items k.items) ks)
    ∙ ap (λ b. if b then map (λ k. k.items) ks else map (λ k. k.items) ks ++ n.items ∷ []) (among-held ks n.items)
    ∙ ap (λ m. with_name (map (λ k. k.items) ks) m) e
  where
    by : (b : Bool) → map (λ k. k.items) (if b then ks else ks ++ n ∷ []) ≡ (if b then map (λ k. k.items) ks else map (λ k. k.items) ks ++ n.items ∷ [])
    by true = refl
    by false = map-append ks (n ∷ [])

same-bytes : (xs ys : List ℕ) → AllZip (λ x y. y ≡ x) xs ys → ys ≡ xs
same-bytes [] [] h = refl
same-bytes [] (y ∷ ys) h = absurd h
same-bytes (x ∷ xs) [] h = absurd h
same-bytes (x ∷ xs) (y ∷ ys) h = λ i. h.0 i ∷ same-bytes xs ys h.1 i

pub names-cloned : (ks ls : List (Vec ℕ Global)) → AllZip (λ v w. AllZip (λ x y. y ≡ x) v.items w.items × (vec_len w ≡ vec_len v)) ks ls
    → map (λ k. k.items) ls ≡ map (λ k. k.items) ks
names-cloned [] [] h = refl
names-cloned [] (l ∷ ls) h = absurd h
names-cloned (k ∷ ks) [] h = absurd h
names-cloned (k ∷ ks) (l ∷ ls) h = λ i. same-bytes k.items l.items h.0.0 i ∷ names-cloned ks ls h.1 i
