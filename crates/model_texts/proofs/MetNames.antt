-- Names of elements that are kept in sets, by the numbers of sorts.
use Rattle.std.proofs.Common.{◌≡◌, ℕ, zero, suc, ◌+◌, ◌≤◌, ◌<◌, ◌==◌, eqb, Bool, true, false, cond, not, ◌||◌, if◌then◌else◌, List, [], ◌∷◌, ◌++◌, map, length, max, Option, Some, None, refl, ap, sym, ◌∙◌, subst, arith, append-nil, true≢false}
use Rattle.std.specs.Borrow.{Bor}
use Rattle.std.specs.List.{list_any, position_or_len}
use Rattle.std.specs.Map.{lookup}
use Rattle.std.specs.HashSet.{HashSet}
use Rattle.std.specs.Str.{bytes_eq}
use Rattle.std.proofs.lemmas.Bool.Decides.{Decides-eqb, nat_tests}
use Rattle.std.proofs.lemmas.Slice.Eq.{bytes_eq-Decides}
use Rattle.indexmap.specs.IndexSet.{insert_key}
use Rattle.smt_lex.specs.Names.{is_among}
use Rattle.smt_terms.specs.Sorts.{Name}
use Rattle.smt_terms.specs.declared.ids.SortId.{SortId}
use Rattle.smt_terms.specs.contracts.ids.SortIdPartialEq.TheImpl.{ghosts}
use Rattle.smt_terms.proofs.Tests.{alike_from}
use Rattle.model_texts.specs.Reading.{place_among}
use Rattle.model_texts.specs.Met.{MetNames, names_kept, with_name, names_read, Begins, Gains}

-- ---- names in a set

abbrev alike : Bor (List ℕ) → Bor (List ℕ) → Bool
alike a b = bytes_eq a.now b.now

pub turned : (a b : List ℕ) → bytes_eq a b ≡ bytes_eq b a
turned a b = alike_from (bytes_eq a b) (bytes_eq b a) (λ h. (bytes_eq-Decides b a).1 (sym ((bytes_eq-Decides a b).0 h))) (λ h. (bytes_eq-Decides a b).1 (sym ((bytes_eq-Decides b a).0 h)))

among-read : (ks : List (Bor (List ℕ))) (k : Bor (List ℕ)) → list_any (alike k) ks ≡ is_among (names_read ks) k.now
among-read [] k = refl
among-read (x ∷ xs) k = by (bytes_eq k.now x.now) (among-read xs k)
  where
    by : (b : Bool) → list_any (alike k) xs ≡ is_among (names_read xs) k.now → (b || list_any (alike k) xs) ≡ (b || is_among (names_read xs) k.now)
    by true rest = refl
    by false rest = rest

read-append : (ks : List (Bor (List ℕ))) (k : Bor (List ℕ)) → names_read (ks ++ k ∷ []) ≡ names_read ks ++ k.now ∷ []
read-append [] k = refl
read-append (x ∷ xs) k = ap (λ ns. x.now ∷ ns) (read-append xs k)

pub inserted : (ks : List (Bor (List ℕ))) (k : Bor (List ℕ)) → names_read (insert_key alike ks k) ≡ with_name k.now (names_read ks)
inserted ks k = by (list_any (alike k) ks) (among-read ks k)
  where
    by : (b : Bool) → b ≡ is_among (names_read ks) k.now → names_read (if b then ks else ks ++ k ∷ []) ≡ with_name k.now (names_read ks)
    by true e = ap (λ c. if c then names_read ks else names_read ks ++ k.now ∷ []) e
    by false e = read-append ks k ∙ ap (λ c. if c then names_read ks else names_read ks ++ k.now ∷ []) e

pub placed : (ks : List (Bor (List ℕ))) (k : Bor (List ℕ)) → position_or_len (alike k) ks ≡ place_among (names_read ks) k.now
placed [] k = refl
placed (x ∷ xs) k = ap (λ b. cond (not b) (1 + position_or_len (alike k) xs) 0) (turned k.now x.now) ∙ by (bytes_eq x.now k.now) (placed xs k)
  where
    by : (b : Bool) → position_or_len (alike k) xs ≡ place_among (names_read xs) k.now → cond (not b) (1 + position_or_len (alike k) xs) 0 ≡ (if b then zero else suc (place_among (names_read xs) k.now))
    by true rest = refl
    by false rest = omega (arith, rest)

-- ---- names in a map of sets

module _ {S : Type 0} where
  abbrev pub kept_of : Option (HashSet (Bor (List ℕ)) S) → List Name
  kept_of None = []
  kept_of (Some t) = names_read t.keys

  abbrev pub seen : List (SortId × HashSet (Bor (List ℕ)) S) → MetNames
  seen es = map (λ m. (m.0, names_read m.1.keys)) es

  pub names_kept-seen : (es : List (SortId × HashSet (Bor (List ℕ)) S)) (s : SortId) → names_kept (seen es) s ≡ kept_of (lookup (ghosts.eq s) es)
  names_kept-seen [] s = refl
  names_kept-seen (e ∷ es) s = by (s.0 == e.0.0) (names_kept-seen es s)
    where
      by : (b : Bool) → names_kept (seen es) s ≡ kept_of (lookup (ghosts.eq s) es) → (if b then names_read e.1.keys else names_kept (seen es) s) ≡ kept_of (cond b (Some e.1) (lookup (ghosts.eq s) es))
      by true rest = refl
      by false rest = rest

  -- a set takes the place of what stood at a sort
  module _ (old new : List (SortId × HashSet (Bor (List ℕ)) S)) (k : SortId) (w : HashSet (Bor (List ℕ)) S)
      (writes : (s : SortId) → lookup (ghosts.eq s) new ≡ cond (ghosts.eq k s) (Some w) (lookup (ghosts.eq s) old)) where
    pub written : (after : List Name → List Name) → names_read w.keys ≡ after (names_kept (seen old) k) → (s : SortId) → names_kept (seen new) s ≡ (if s.0 == k.0 then after (names_kept (seen old) s) else names_kept (seen old) s)
    written after is s = names_kept-seen new s ∙ ap kept_of (writes s) ∙ by (k.0 == s.0) refl
      where
        choose : (b : Bool) → (s.0 == k.0) ≡ b → (if s.0 == k.0 then after (names_kept (seen old) s) else names_kept (seen old) s) ≡ (if b then after (names_kept (seen old) s) else names_kept (seen old) s)
        choose b e = ap (λ c. if c then after (names_kept (seen old) s) else names_kept (seen old) s) e

        by : (b : Bool) → (k.0 == s.0) ≡ b → kept_of (cond b (Some w) (lookup (ghosts.eq s) old)) ≡ (if s.0 == k.0 then after (names_kept (seen old) s) else names_kept (seen old) s)
        by true e =
            let same : k.0 ≡ s.0 = (Decides-eqb k.0 s.0).0 e in
            is ∙ ap (λ n. after (names_kept (seen old) (record { 0 = n }))) same ∙ sym (choose true ((Decides-eqb s.0 k.0).1 (sym same)))
        by false e =
            let other : (s.0 == k.0) ≡ false = grind (arith, nat_tests, e) in
            sym (names_kept-seen old s) ∙ sym (choose false other)

-- ---- what was met stays

pub with_name-begins : (n : Name) (ns : List Name) → Begins ns (with_name n ns)
with_name-begins n ns = by (is_among ns n)
  where
    by : (b : Bool) → Begins ns (if b then ns else ns ++ n ∷ [])
    by true = ([], sym (append-nil ns))
    by false = (n ∷ [], refl)

pub gains_by : (old new : MetNames) (k : SortId) (n : Name) → ((s : SortId) → names_kept new s ≡ (if s.0 == k.0 then with_name n (names_kept old s) else names_kept old s)) → Gains old new
gains_by old new k n is s = by (s.0 == k.0) (is s)
  where
    by : (b : Bool) → names_kept new s ≡ (if b then with_name n (names_kept old s) else names_kept old s) → Begins (names_kept old s) (names_kept new s)
    by true e = let more = with_name-begins n (names_kept old s) in (more.0, e ∙ more.1)
    by false e = ([], e ∙ sym (append-nil (names_kept old s)))

pub gains_none : (old new : MetNames) → ((s : SortId) → names_kept new s ≡ names_kept old s) → Gains old new
gains_none old new is s = ([], is s ∙ sym (append-nil (names_kept old s)))

pub gains_through : (a b c : MetNames) → Gains a b → Gains b c → Gains a c
gains_through a b c g h s = let p = g s in let q = h s in (p.0 ++ q.0, q.1 ∙ ap (λ ns. ns ++ q.0) p.1 ∙ assoc (names_kept a s) p.0 q.0)
  where
    assoc : (xs ys zs : List Name) → (xs ++ ys) ++ zs ≡ xs ++ (ys ++ zs)
    assoc [] ys zs = refl
    assoc (x ∷ xs) ys zs = ap (λ ws. x ∷ ws) (assoc xs ys zs)

pub either : {A : Type 0} (b : Bool) (x : A) → (if b then x else x) ≡ x
either true x = refl
either false x = refl

pub larger : (n : ℕ) → max n 1 ≡ max 1 n
larger n = omega arith
