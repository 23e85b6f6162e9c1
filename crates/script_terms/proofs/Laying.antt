-- Names on levels: what is found, bound, opened and closed in the order of declaration.
use Rattle.std.proofs.Common.{◌≡◌, ℕ, zero, suc, ◌+◌, ◌-◌, ◌≤◌, ◌<◌, Bool, true, false, cond, ◌&&◌, ◌||◌, List, [], ◌∷◌, ◌++◌, map, reverse, take, drop, length, count_by, replicate, Option, Some, None, refl, ap, sym, ◌∙◌, subst, arith, true≢false, append-nil, append_assoc, is_some, if◌then◌else◌}
use Rattle.std.proofs.lemmas.List.{reverse-append, take-append-drop, take_all, drop_all, length-append, length-take}
use Rattle.std.proofs.lemmas.List.Elements.{All-push}
use Rattle.std.proofs.lemmas.List.Sums.{sum_by-cons}
use Rattle.std.proofs.lemmas.Slice.Eq.{bytes_eq-Decides}
use Rattle.std.specs.Borrow.{Bor}
use Rattle.std.specs.Str.{bytes_eq}
use Rattle.std.specs.Map.{lookup}
use Rattle.indexmap.specs.IndexMap.{insert_entry}
use Rattle.smt_lex.specs.Names.{Name}
use Rattle.smt_terms.specs.Equal.{name_eq}
use Rattle.smt_terms.proofs.Tests.{alike_from}
use Rattle.script_terms.specs.Scope.{or_later, opened, closed, merged, popped, flattened, emptied}
use Rattle.script_terms.specs.declared.scopes.Entry.{Entry}
use Rattle.script_terms.specs.Known.{Scoped, find, is_mark, is_symbol_entry, declared_among}
use Rattle.script_terms.specs.declared.levels.Run.{Run}
use Rattle.script_terms.specs.Laid.{borrowed, laid, AreMarks, has, AreOnce, IsLaid, starts_of, AreOpen, IsCut}
use Rattle.script_terms.proofs.EndedRuns.{starts-last, replicated, more-levels}

-- ---- lists

abbrev plain : {A : Type 0} → List (Name × A) → List (Scoped A)
plain es = map Some (reverse es)

spread : {A : Type 0} (xs ys : List (Name × A)) → map {B = Scoped A} Some (xs ++ ys) ≡ map Some xs ++ map Some ys
spread [] ys = refl
spread (x ∷ xs) ys = ap (λ zs. Some x ∷ zs) (spread xs ys)

plain-append : {A : Type 0} (xs ys : List (Name × A)) → plain (xs ++ ys) ≡ plain ys ++ plain xs
plain-append xs ys = ap (map Some) (reverse-append xs ys) ∙ spread (reverse ys) (reverse xs)

-- what stands above a level, before what stands below it
plain-cut : {A : Type 0} (m : ℕ) (es : List (Name × A)) → plain (drop m es) ++ plain (take m es) ≡ plain es
plain-cut m es = sym (plain-append (take m es) (drop m es)) ∙ ap plain (take-append-drop m es)

-- ---- what is found

abbrev or_else : {A : Type 0} → Option A → Option A → Option A
or_else (Some a) other = Some a
or_else None other = other

or_none : {A : Type 0} (o : Option A) → or_else o None ≡ o
or_none (Some a) = refl
or_none None = refl

find-append : {A : Type 0} (xs ys : List (Scoped A)) (n : Name) → find (xs ++ ys) n ≡ or_else (find xs n) (find ys n)
find-append [] ys n = refl
find-append (None ∷ xs) ys n = find-append xs ys n
find-append {A = A} (Some p ∷ xs) ys n = by (name_eq p.0 n) (find-append xs ys n)
  where
    by : (b : Bool) → find (xs ++ ys) n ≡ or_else (find xs n) (find ys n) → or_later b p.1 (find (xs ++ ys) n) ≡ or_else (or_later b p.1 (find xs n)) (find ys n)
    by true rest = refl
    by false rest = rest

-- levels don't matter to what is found
find-laid : {A : Type 0} (ms : List ℕ) (es : List (Name × A)) (n : Name) → find (laid ms es) n ≡ find (plain es) n
find-laid [] es n = refl
find-laid (m ∷ ms) es n =
    find-append (plain (drop m es)) (None ∷ laid ms (take m es)) n
    ∙ ap (or_else (find (plain (drop m es)) n)) (find-laid ms (take m es) n)
    ∙ sym (find-append (plain (drop m es)) (plain (take m es)) n)
    ∙ ap (λ xs. find xs n) (plain-cut m es)

-- the first of the names, in the order of their declarations
abbrev first : {A : Type 0} → List (Name × A) → Name → Option A
first [] n = None
first (e ∷ es) n = or_later (name_eq e.0 n) e.1 (first es n)

first-has : {A : Type 0} (es : List (Name × A)) (n : Name) → has es n ≡ false → first es n ≡ None
first-has [] n h = refl
first-has (e ∷ es) n h = by (name_eq e.0 n) h (first-has es n)
  where
    by : (b : Bool) → (b || has es n) ≡ false → (has es n ≡ false → first es n ≡ None) → or_later b e.1 (first es n) ≡ None
    by true h rest = absurd (true≢false h)
    by false h rest = rest h

name_same : (m n : Name) → name_eq m n ≡ true → m ≡ n
name_same m n h = (bytes_eq-Decides m n).0 h

-- where no name stands twice, the latest is the first
find-plain : {A : Type 0} (es : List (Name × A)) (n : Name) → AreOnce es → find (plain es) n ≡ first es n
find-plain [] n once = refl
find-plain (e ∷ es) n once =
    ap (λ xs. find xs n) (plain-append (e ∷ []) es)
    ∙ find-append (plain es) (Some e ∷ []) n
    ∙ ap (λ o. or_else o (or_later (name_eq e.0 n) e.1 None)) (find-plain es n once.1)
    ∙ by (name_eq e.0 n) refl
  where
    by : (b : Bool) → name_eq e.0 n ≡ b → or_else (first es n) (or_later b e.1 None) ≡ or_later b e.1 (first es n)
    by true h = ap (λ o. or_else o (Some e.1)) (first-has es n (subst (λ m. has es m ≡ false) (name_same e.0 n h) once.0))
    by false h = or_none (first es n)

pub bytes_eq-turned : (a b : List ℕ) → bytes_eq a b ≡ bytes_eq b a
bytes_eq-turned a b =
    alike_from (bytes_eq a b) (bytes_eq b a) (λ h. (bytes_eq-Decides b a).1 (sym ((bytes_eq-Decides a b).0 h))) (λ h. (bytes_eq-Decides a b).1 (sym ((bytes_eq-Decides b a).0 h)))

first-lookup : {A : Type 0} (es : List (Bor (List ℕ) × A)) (n : Name) → first (borrowed es) n ≡ lookup (λ k. bytes_eq n k.now) es
first-lookup [] n = refl
first-lookup (e ∷ es) n = ap (λ b. or_later b e.1 (first (borrowed es) n)) (bytes_eq-turned e.0.now n) ∙ by (bytes_eq n e.0.now) (first-lookup es n)
  where
    by : (b : Bool) → first (borrowed es) n ≡ lookup (λ k. bytes_eq n k.now) es → or_later b e.1 (first (borrowed es) n) ≡ cond b (Some e.1) (lookup (λ k. bytes_eq n k.now) es)
    by true rest = refl
    by false rest = rest

pub find-entries : {A : Type 0} (ms : List ℕ) (es : List (Bor (List ℕ) × A)) (n : Name) → IsLaid ms (borrowed es)
    → find (laid ms (borrowed es)) n ≡ lookup (λ k. bytes_eq n k.now) es
find-entries ms es n is = find-laid ms (borrowed es) n ∙ find-plain (borrowed es) n is.once ∙ first-lookup es n

-- ---- levels

one_more : {A : Type 0} (ys : List (Scoped A)) → count_by is_mark (None ∷ ys) ≡ 1 + count_by is_mark ys
one_more {A = A} ys = sum_by-cons (λ (b : Scoped A). cond (is_mark b) 1 0) None ys

marks-in : {A : Type 0} (xs : List (Name × A)) (ys : List (Scoped A)) → count_by is_mark (map Some xs ++ ys) ≡ count_by is_mark ys
marks-in [] ys = refl
marks-in (x ∷ xs) ys = marks-in xs ys

next : (n : ℕ) → 1 + n ≡ suc n
next n = omega arith

levels-laid : {A : Type 0} (ms : List ℕ) (es : List (Name × A)) → count_by is_mark (laid ms es) ≡ length ms
levels-laid [] es = ap (count_by is_mark) (sym (append-nil (plain es))) ∙ marks-in (reverse es) []
levels-laid (m ∷ ms) es =
    marks-in (reverse (drop m es)) (None ∷ laid ms (take m es)) ∙ one_more (laid ms (take m es)) ∙ ap (λ n. 1 + n) (levels-laid ms (take m es)) ∙ next (length ms)

-- ---- binding

map-once : {A : Type 0} (es : List (Name × A)) (p : Name × A) → plain (es ++ p ∷ []) ≡ Some p ∷ plain es
map-once es p = plain-append es (p ∷ [])

has-push : {A : Type 0} (es : List (Name × A)) (p : Name × A) (n : Name) → has (es ++ p ∷ []) n ≡ (has es n || (name_eq p.0 n || false))
has-push [] p n = refl
has-push (e ∷ es) p n = by (name_eq e.0 n) (has-push es p n)
  where
    by : (b : Bool) → has (es ++ p ∷ []) n ≡ (has es n || (name_eq p.0 n || false)) → (b || has (es ++ p ∷ []) n) ≡ ((b || has es n) || (name_eq p.0 n || false))
    by true rest = refl
    by false rest = rest

none-or : {A : Type 0} (b : Bool) (a : A) (o : Option A) → or_later b a o ≡ None → (b ≡ false) × (o ≡ None)
none-or true a o h = absurd (true≢false (ap is_some h))
none-or false a o h = (refl, h)

-- a name that isn't found can be put last
once-push : {A : Type 0} (es : List (Name × A)) (p : Name × A) → AreOnce es → first es p.0 ≡ None → AreOnce (es ++ p ∷ [])
once-push [] p once none = (refl, tt)
once-push (e ∷ es) p once none =
    let apart = none-or (name_eq e.0 p.0) e.1 (first es p.0) none in
    (has-push es p e.0 ∙ (λ i. once.0 i || (bytes_eq-turned p.0 e.0 i || false)) ∙ ap (λ b. b || false) apart.0, once-push es p once.1 apart.1)

length-one : {A : Type 0} (es : List A) (p : A) → length (es ++ p ∷ []) ≡ length es + 1
length-one es p = length-append es (p ∷ [])

drop-push : {A : Type 0} (m : ℕ) (es : List A) (p : A) → m ≤ length es → drop m (es ++ p ∷ []) ≡ drop m es ++ p ∷ []
drop-push zero [] p few = refl
drop-push zero (e ∷ es) p few = refl
drop-push (suc m) [] p few = absurd (omega (arith, few))
drop-push (suc m) (e ∷ es) p few = drop-push m es p (omega (arith, few))

take-push : {A : Type 0} (m : ℕ) (es : List A) (p : A) → m ≤ length es → take m (es ++ p ∷ []) ≡ take m es
take-push zero [] p few = refl
take-push zero (e ∷ es) p few = refl
take-push (suc m) [] p few = absurd (omega (arith, few))
take-push (suc m) (e ∷ es) p few = ap (λ xs. e ∷ xs) (take-push m es p (omega (arith, few)))

pub laid-push : {A : Type 0} (ms : List ℕ) (es : List (Name × A)) (p : Name × A) → AreMarks (length es) ms → laid ms (es ++ p ∷ []) ≡ Some p ∷ laid ms es
laid-push [] es p marks = map-once es p
laid-push (m ∷ ms) es p marks =
    ap (λ xs. plain xs ++ None ∷ laid ms (take m (es ++ p ∷ []))) (drop-push m es p marks.0)
    ∙ ap (λ xs. plain (drop m es ++ p ∷ []) ++ None ∷ laid ms xs) (take-push m es p marks.0)
    ∙ ap (λ xs. xs ++ None ∷ laid ms (take m es)) (map-once (drop m es) p)

more-marks : (m n : ℕ) (ms : List ℕ) → m ≤ n → AreMarks m ms → AreMarks n ms
more-marks m n [] le marks = tt
more-marks m n (k ∷ ms) le marks = (omega (arith, le, marks), marks.1)

pub laid-pushed : {A : Type 0} (ms : List ℕ) (es : List (Name × A)) (p : Name × A) → IsLaid ms es → find (laid ms es) p.0 ≡ None → IsLaid ms (es ++ p ∷ [])
laid-pushed ms es p is none = record {
  marks = more-marks (length es) (length (es ++ p ∷ [])) ms (let e = length-one es p in omega (arith, e)) is.marks;
  once = once-push es p is.once (sym (find-laid ms es p.0 ∙ find-plain es p.0 is.once) ∙ none);
}

named-push : {A : Type 0} (es : List (Bor (List ℕ) × A)) (k : Bor (List ℕ)) (v : A) → borrowed (es ++ (k, v) ∷ []) ≡ borrowed es ++ (k.now, v) ∷ []
named-push [] k v = refl
named-push (e ∷ es) k v = ap (λ xs. (e.0.now, e.1) ∷ xs) (named-push es k v)

-- a name that the map hasn't goes last
inserted : {A : Type 0} (es : List (Bor (List ℕ) × A)) (k : Bor (List ℕ)) (v : A) (q : Name) → k.now ≡ q
    → lookup (λ x. bytes_eq q x.now) es ≡ None → insert_entry (λ a b. bytes_eq a.now b.now) es k v ≡ es ++ (k, v) ∷ []
inserted [] k v q e none = refl
inserted {A = A} (p ∷ es) k v q e none = by (bytes_eq q p.0.now) (ap (λ n. bytes_eq n p.0.now) e) none (inserted es k v q e)
  where
    by : (b : Bool) → bytes_eq k.now p.0.now ≡ b → cond b (Some p.1) (lookup (λ x. bytes_eq q x.now) es) ≡ None
        → (lookup (λ x. bytes_eq q x.now) es ≡ None → insert_entry (λ a b. bytes_eq a.now b.now) es k v ≡ es ++ (k, v) ∷ [])
        → (if bytes_eq k.now p.0.now then (p.0, v) ∷ es else p ∷ insert_entry (λ a b. bytes_eq a.now b.now) es k v) ≡ p ∷ (es ++ (k, v) ∷ [])
    by true h none rest = absurd (true≢false (ap is_some none))
    by false h none rest = ap (λ b. if◌then◌else◌ {A = List (Bor (List ℕ) × A)} b ((p.0, v) ∷ es) (p ∷ insert_entry (λ a b. bytes_eq a.now b.now) es k v)) h ∙ ap (λ xs. p ∷ xs) (rest none)

pub named-inserted : {A : Type 0} (ms : List ℕ) (es : List (Bor (List ℕ) × A)) (k : Bor (List ℕ)) (v : A) (q : Name) → k.now ≡ q → IsLaid ms (borrowed es)
    → find (laid ms (borrowed es)) q ≡ None → borrowed (insert_entry (λ a b. bytes_eq a.now b.now) es k v) ≡ borrowed es ++ (q, v) ∷ []
named-inserted ms es k v q e is none =
    ap borrowed (inserted es k v q e (sym (find-entries ms es q is) ∙ none)) ∙ named-push es k v ∙ ap (λ n. borrowed es ++ (n, v) ∷ []) e

pub bound : {A : Type 0} (ms : List ℕ) (es : List (Bor (List ℕ) × A)) (k : Bor (List ℕ)) (v : A) (q : Name) → k.now ≡ q → IsLaid ms (borrowed es)
    → find (laid ms (borrowed es)) q ≡ None → laid ms (borrowed (insert_entry (λ a b. bytes_eq a.now b.now) es k v)) ≡ Some (q, v) ∷ laid ms (borrowed es)
bound ms es k v q e is none = ap (laid ms) (named-inserted ms es k v q e is none) ∙ laid-push ms (borrowed es) (q, v) is.marks

pub bound-laid : {A : Type 0} (ms : List ℕ) (es : List (Bor (List ℕ) × A)) (k : Bor (List ℕ)) (v : A) (q : Name) → k.now ≡ q → IsLaid ms (borrowed es)
    → find (laid ms (borrowed es)) q ≡ None → IsLaid ms (borrowed (insert_entry (λ a b. bytes_eq a.now b.now) es k v))
bound-laid ms es k v q e is none = subst (IsLaid ms) (sym (named-inserted ms es k v q e is none)) (laid-pushed ms (borrowed es) (q, v) is none)

-- ---- opening

pub opened-one : {A : Type 0} (ms : List ℕ) (es : List (Name × A)) → laid (length es ∷ ms) es ≡ None ∷ laid ms es
opened-one ms es = ap (λ xs. plain xs ++ None ∷ laid ms (take (length es) es)) (drop_all (length es) es (omega arith)) ∙ ap (λ xs. None ∷ laid ms xs) (take_all (length es) es (omega arith))

pub opened-laid : {A : Type 0} (ms : List ℕ) (es : List (Name × A)) → IsLaid ms es → IsLaid (length es ∷ ms) es
opened-laid ms es is = record { marks = (omega arith, is.marks); once = is.once }

opened-many : {A : Type 0} (n : ℕ) (ms : List ℕ) (es : List (Name × A)) → laid (replicate n (length es) ++ ms) es ≡ opened None n (laid ms es)
opened-many zero ms es = refl
opened-many (suc n) ms es = opened-one (replicate n (length es) ++ ms) es ∙ ap (λ xs. None ∷ xs) (opened-many n ms es)

opened-many-laid : {A : Type 0} (n : ℕ) (ms : List ℕ) (es : List (Name × A)) → IsLaid ms es → IsLaid (replicate n (length es) ++ ms) es
opened-many-laid zero ms es is = is
opened-many-laid (suc n) ms es is = opened-laid (replicate n (length es) ++ ms) es (opened-many-laid n ms es is)

length-named : {A : Type 0} (es : List (Bor (List ℕ) × A)) → length (borrowed es) ≡ length es
length-named [] = refl
length-named (e ∷ es) = ap suc (length-named es)

opened-names : {A : Type 0} (n b : ℕ) (ms : List ℕ) (es : List (Bor (List ℕ) × A)) → b ≡ length es
    → laid (replicate n b ++ ms) (borrowed es) ≡ opened None n (laid ms (borrowed es))
opened-names n b ms es e = ap (λ k. laid (replicate n k ++ ms) (borrowed es)) (e ∙ sym (length-named es)) ∙ opened-many n ms (borrowed es)

opened-is-laid : {A : Type 0} (n b : ℕ) (ms : List ℕ) (es : List (Bor (List ℕ) × A)) → b ≡ length es → IsLaid ms (borrowed es)
    → IsLaid (replicate n b ++ ms) (borrowed es)
opened-is-laid n b ms es e is = subst (λ k. IsLaid (replicate n k ++ ms) (borrowed es)) (sym (e ∙ sym (length-named es))) (opened-many-laid n ms (borrowed es) is)

-- ---- closing

closed-plain : {A : Type 0} (n : ℕ) (xs : List (Name × A)) (ys : List (Scoped A)) → closed is_mark (suc n) (map Some xs ++ None ∷ ys) ≡ closed is_mark n ys
closed-plain n [] ys = refl
closed-plain n (x ∷ xs) ys = closed-plain n xs ys

merged-plain : {A : Type 0} (n : ℕ) (xs : List (Name × A)) (ys : List (Scoped A)) → merged is_mark (suc n) (map Some xs ++ None ∷ ys) ≡ map Some xs ++ merged is_mark n ys
merged-plain n [] ys = refl
merged-plain n (x ∷ xs) ys = ap (λ zs. Some x ∷ zs) (merged-plain n xs ys)

closed-none : {A : Type 0} (ys : List (Scoped A)) → closed is_mark zero ys ≡ ys
closed-none [] = refl
closed-none (y ∷ ys) = refl

merged-none : {A : Type 0} (ys : List (Scoped A)) → merged is_mark zero ys ≡ ys
merged-none [] = refl
merged-none (y ∷ ys) = refl

merged-under : {A : Type 0} (n : ℕ) (xs : List (Name × A)) (ys : List (Scoped A)) → merged is_mark n (map Some xs ++ ys) ≡ map Some xs ++ merged is_mark n ys
merged-under zero xs ys = merged-none (map Some xs ++ ys) ∙ ap (λ zs. map Some xs ++ zs) (sym (merged-none ys))
merged-under (suc n) [] ys = refl
merged-under (suc n) (x ∷ xs) ys = ap (λ zs. Some x ∷ zs) (merged-under (suc n) xs ys)

-- the names that are left where n levels are closed
abbrev pub left_of : {A : Type 0} → ℕ → List ℕ → List A → List A
left_of zero ms es = es
left_of (suc n) [] es = es
left_of (suc n) (m ∷ ms) es = left_of n ms (take m es)

pub closed-laid : {A : Type 0} (n : ℕ) (ms : List ℕ) (es : List (Name × A)) → n ≤ length ms → closed is_mark n (laid ms es) ≡ laid (drop n ms) (left_of n ms es)
closed-laid zero [] es few = closed-none (laid [] es)
closed-laid zero (m ∷ ms) es few = closed-none (laid (m ∷ ms) es)
closed-laid (suc n) [] es few = absurd (omega (arith, few))
closed-laid (suc n) (m ∷ ms) es few = closed-plain n (reverse (drop m es)) (laid ms (take m es)) ∙ closed-laid n ms (take m es) (omega (arith, few))

-- names above a level that is gone belong to the one below
under : {A : Type 0} (m : ℕ) (ms : List ℕ) (es : List (Name × A)) → AreMarks m ms → plain (drop m es) ++ laid ms (take m es) ≡ laid ms es
under m [] es marks = plain-cut m es
under {A = A} m (k ∷ ms) es marks =
    sym (append_assoc (plain (drop m es)) (plain (drop k (take m es))) (None ∷ laid ms (take k (take m es))))
    ∙ ap (λ zs. zs ++ None ∷ laid ms (take k (take m es))) (sym (plain-append (drop k (take m es)) (drop m es)) ∙ ap plain (parts k m es marks.0))
    ∙ ap (λ zs. plain (drop k es) ++ None ∷ laid ms zs) (take-take k m es marks.0)
  where
    take-take : (k m : ℕ) (es : List (Name × A)) → k ≤ m → take k (take m es) ≡ take k es
    take-take zero m es le = refl
    take-take (suc k) zero es le = absurd (omega (arith, le))
    take-take (suc k) (suc m) [] le = refl
    take-take (suc k) (suc m) (e ∷ es) le = ap (λ zs. e ∷ zs) (take-take k m es (omega (arith, le)))

    parts : (k m : ℕ) (es : List (Name × A)) → k ≤ m → drop k (take m es) ++ drop m es ≡ drop k es
    parts zero m es le = take-append-drop m es
    parts (suc k) zero es le = absurd (omega (arith, le))
    parts (suc k) (suc m) [] le = refl
    parts (suc k) (suc m) (e ∷ es) le = parts k m es (omega (arith, le))

pub merged-laid : {A : Type 0} (n : ℕ) (ms : List ℕ) (es : List (Name × A)) → n ≤ length ms → AreMarks (length es) ms → merged is_mark n (laid ms es) ≡ laid (drop n ms) es
merged-laid zero [] es few marks = merged-none (laid [] es)
merged-laid zero (m ∷ ms) es few marks = merged-none (laid (m ∷ ms) es)
merged-laid (suc n) [] es few marks = absurd (omega (arith, few))
merged-laid (suc n) (m ∷ ms) es few marks =
    merged-plain n (reverse (drop m es)) (laid ms (take m es))
    ∙ sym (merged-under n (reverse (drop m es)) (laid ms (take m es)))
    ∙ ap (merged is_mark n) (under m ms es marks.1)
    ∙ merged-laid n ms es (omega (arith, few)) (more-marks m (length es) ms marks.0 marks.1)

flattened-plain : {A : Type 0} (xs : List (Name × A)) (ys : List (Scoped A)) → flattened is_mark (map Some xs ++ ys) ≡ map Some xs ++ flattened is_mark ys
flattened-plain [] ys = refl
flattened-plain (x ∷ xs) ys = ap (λ zs. Some x ∷ zs) (flattened-plain xs ys)

pub flattened-laid : {A : Type 0} (ms : List ℕ) (es : List (Name × A)) → flattened is_mark (laid ms es) ≡ plain es
flattened-laid [] es = ap (flattened is_mark) (sym (append-nil (plain es))) ∙ flattened-plain (reverse es) [] ∙ append-nil (plain es)
flattened-laid (m ∷ ms) es =
    flattened-plain (reverse (drop m es)) (None ∷ laid ms (take m es)) ∙ ap (λ zs. plain (drop m es) ++ zs) (flattened-laid ms (take m es)) ∙ plain-cut m es

-- ---- closing levels that were opened at once

drop-append : {A : Type 0} (n : ℕ) (xs ys : List A) → length xs ≡ n → drop n (xs ++ ys) ≡ ys
drop-append n [] ys e = ap (λ k. drop k ys) (sym e)
drop-append zero (x ∷ xs) ys e = absurd (omega (arith, e))
drop-append (suc n) (x ∷ xs) ys e = drop-append n xs ys (omega (arith, e))

below : (n b : ℕ) (ms : List ℕ) → drop n (replicate n b ++ ms) ≡ ms
below n b ms = drop-append n (replicate n b) ms (replicated n b)

no_more : (n b : ℕ) (ms : List ℕ) → n ≤ length (replicate n b ++ ms)
no_more n b ms = let l = more-levels n b ms in omega (arith, l)

take-again : {A : Type 0} (n : ℕ) (xs : List A) → take n (take n xs) ≡ take n xs
take-again zero xs = refl
take-again (suc n) [] = refl
take-again (suc n) (x ∷ xs) = ap (λ zs. x ∷ zs) (take-again n xs)

left-again : {A : Type 0} (n b : ℕ) (ms : List ℕ) (es : List A) → left_of n (replicate n b ++ ms) (take b es) ≡ take b es
left-again zero b ms es = refl
left-again (suc n) b ms es = ap (left_of n (replicate n b ++ ms)) (take-again b es) ∙ left-again n b ms es

left-below : {A : Type 0} (n b : ℕ) (ms : List ℕ) (es : List A) → 0 < n → left_of n (replicate n b ++ ms) es ≡ take b es
left-below zero b ms es some = absurd (omega (arith, some))
left-below (suc n) b ms es some = left-again n b ms es

named-take : {A : Type 0} (k : ℕ) (es : List (Bor (List ℕ) × A)) → borrowed (take k es) ≡ take k (borrowed es)
named-take zero es = refl
named-take (suc k) [] = refl
named-take (suc k) (e ∷ es) = ap (λ zs. (e.0.now, e.1) ∷ zs) (named-take k es)

left-named : {A : Type 0} (n b : ℕ) (ms : List ℕ) (es : List (Bor (List ℕ) × A)) → 0 < n → left_of n (replicate n b ++ ms) (borrowed es) ≡ borrowed (take b es)
left-named n b ms es some = left-below n b ms (borrowed es) some ∙ sym (named-take b es)

closed-names : {A : Type 0} (n b : ℕ) (ms : List ℕ) (es : List (Bor (List ℕ) × A)) → 0 < n
    → laid ms (borrowed (take b es)) ≡ closed is_mark n (laid (replicate n b ++ ms) (borrowed es))
closed-names n b ms es some =
    sym (closed-laid n (replicate n b ++ ms) (borrowed es) (no_more n b ms) ∙ (λ i. laid (below n b ms i) (left-named n b ms es some i)))

merged-names : {A : Type 0} (n b : ℕ) (ms : List ℕ) (es : List (Name × A)) → IsLaid (replicate n b ++ ms) es
    → laid ms es ≡ merged is_mark n (laid (replicate n b ++ ms) es)
merged-names n b ms es is = sym (merged-laid n (replicate n b ++ ms) es (no_more n b ms) is.marks ∙ ap (λ ks. laid ks es) (below n b ms))

-- ---- what is left keeps its order

has-take : {A : Type 0} (k : ℕ) (es : List (Name × A)) (n : Name) → has es n ≡ false → has (take k es) n ≡ false
has-take zero es n h = refl
has-take (suc k) [] n h = refl
has-take (suc k) (e ∷ es) n h = by (name_eq e.0 n) h (has-take k es n)
  where
    by : (b : Bool) → (b || has es n) ≡ false → (has es n ≡ false → has (take k es) n ≡ false) → (b || has (take k es) n) ≡ false
    by true h rest = absurd (true≢false h)
    by false h rest = rest h

once-take : {A : Type 0} (k : ℕ) (es : List (Name × A)) → AreOnce es → AreOnce (take k es)
once-take zero es once = tt
once-take (suc k) [] once = tt
once-take (suc k) (e ∷ es) once = (has-take k es e.0 once.0, once-take k es once.1)

marks-left : {A : Type 0} (n : ℕ) (ms : List ℕ) (es : List A) → AreMarks (length es) ms → AreMarks (length (left_of n ms es)) (drop n ms)
marks-left zero ms es marks = marks
marks-left (suc n) [] es marks = tt
marks-left (suc n) (m ∷ ms) es marks = marks-left n ms (take m es) (let e = length-take m es in more-marks m (length (take m es)) ms (omega (arith, marks.0, e)) marks.1)

marks-drop : (n k : ℕ) (ms : List ℕ) → AreMarks k ms → AreMarks k (drop n ms)
marks-drop zero k ms marks = marks
marks-drop (suc n) k [] marks = tt
marks-drop (suc n) k (m ∷ ms) marks = marks-drop n k ms (more-marks m k ms marks.0 marks.1)

closed-is-laid : {A : Type 0} (n b : ℕ) (ms : List ℕ) (es : List (Bor (List ℕ) × A)) → 0 < n → IsLaid (replicate n b ++ ms) (borrowed es)
    → IsLaid ms (borrowed (take b es))
closed-is-laid n b ms es some is = record {
  marks = subst (λ zs. AreMarks (length zs) ms) (left-named n b ms es some)
      (subst (AreMarks (length (left_of n (replicate n b ++ ms) (borrowed es)))) (below n b ms) (marks-left n (replicate n b ++ ms) (borrowed es) is.marks));
  once = subst AreOnce (sym (named-take b es)) (once-take b (borrowed es) is.once);
}

merged-is-laid : {A : Type 0} (n b : ℕ) (ms : List ℕ) (es : List (Name × A)) → IsLaid (replicate n b ++ ms) es → IsLaid ms es
merged-is-laid n b ms es is = record {
  marks = subst (AreMarks (length es)) (below n b ms) (marks-drop n (length es) (replicate n b ++ ms) is.marks);
  once = is.once;
}

-- ---- declared symbols

either : (a b c : Bool) → ((a || b) || c) ≡ (a || (b || c))
either true b c = refl
either false b c = refl

declared-append : (xs ys : List (Scoped Entry)) (n : Name) → declared_among (xs ++ ys) n ≡ (declared_among xs n || declared_among ys n)
declared-append [] ys n = refl
declared-append (None ∷ xs) ys n = declared-append xs ys n
declared-append (Some p ∷ xs) ys n =
    ap (λ b. (is_symbol_entry p.1 && name_eq p.0 n) || b) (declared-append xs ys n)
    ∙ sym (either (is_symbol_entry p.1 && name_eq p.0 n) (declared_among xs n) (declared_among ys n))

declared-laid : (ms : List ℕ) (es : List (Name × Entry)) (n : Name) → declared_among (laid ms es) n ≡ declared_among (plain es) n
declared-laid [] es n = refl
declared-laid (m ∷ ms) es n =
    declared-append (plain (drop m es)) (None ∷ laid ms (take m es)) n
    ∙ ap (λ b. declared_among (plain (drop m es)) n || b) (declared-laid ms (take m es) n)
    ∙ sym (declared-append (plain (drop m es)) (plain (take m es)) n)
    ∙ ap (λ xs. declared_among xs n) (plain-cut m es)

abbrev pub is_symbol_found : Option Entry → Bool
is_symbol_found None = false
is_symbol_found (Some e) = is_symbol_entry e

declared-plain : (es : List (Name × Entry)) (n : Name) → AreOnce es → declared_among (plain es) n ≡ is_symbol_found (first es n)
declared-plain [] n once = refl
declared-plain (e ∷ es) n once =
    ap (λ xs. declared_among xs n) (plain-append (e ∷ []) es)
    ∙ declared-append (plain es) (Some e ∷ []) n
    ∙ ap (λ b. b || ((is_symbol_entry e.1 && name_eq e.0 n) || false)) (declared-plain es n once.1)
    ∙ by (name_eq e.0 n) refl
  where
    no_symbol : (b : Bool) → (false || ((b && true) || false)) ≡ b
    no_symbol true = refl
    no_symbol false = refl

    no_name : (a b : Bool) → (a || ((b && false) || false)) ≡ a
    no_name true b = refl
    no_name false true = refl
    no_name false false = refl

    by : (b : Bool) → name_eq e.0 n ≡ b → (is_symbol_found (first es n) || ((is_symbol_entry e.1 && b) || false)) ≡ is_symbol_found (or_later b e.1 (first es n))
    by true h =
        ap (λ o. is_symbol_found o || ((is_symbol_entry e.1 && true) || false)) (first-has es n (subst (λ m. has es m ≡ false) (name_same e.0 n h) once.0))
        ∙ no_symbol (is_symbol_entry e.1)
    by false h = no_name (is_symbol_found (first es n)) (is_symbol_entry e.1)

pub declared-entries : (ms : List ℕ) (es : List (Bor (List ℕ) × Entry)) (n : Name) → IsLaid ms (borrowed es)
    → declared_among (laid ms (borrowed es)) n ≡ is_symbol_found (lookup (λ k. bytes_eq n k.now) es)
declared-entries ms es n is = declared-laid ms (borrowed es) n ∙ declared-plain (borrowed es) n is.once ∙ ap is_symbol_found (first-lookup es n)

-- ---- how many levels are open

marks-some : {A : Type 0} (p : Name × A) (ys : List (Scoped A)) → count_by is_mark (Some p ∷ ys) ≡ count_by is_mark ys
marks-some p ys = marks-in (p ∷ []) ys

pub levels-opened : {A : Type 0} (n : ℕ) (ys : List (Scoped A)) → count_by is_mark (opened None n ys) ≡ n + count_by is_mark ys
levels-opened zero ys = zero_more (count_by is_mark ys)
  where
    zero_more : (k : ℕ) → k ≡ 0 + k
    zero_more k = omega arith
levels-opened (suc n) ys = one_more (opened None n ys) ∙ ap (λ k. 1 + k) (levels-opened n ys) ∙ together n (count_by is_mark ys)
  where
    together : (n k : ℕ) → 1 + (n + k) ≡ suc n + k
    together n k = omega arith

levels-closed : {A : Type 0} (n : ℕ) (ys : List (Scoped A)) → count_by is_mark (closed is_mark n ys) ≡ count_by is_mark ys - n
levels-closed zero ys = ap (count_by is_mark) (closed-none ys) ∙ none_less (count_by is_mark ys)
  where
    none_less : (k : ℕ) → k ≡ k - 0
    none_less k = omega arith
levels-closed (suc n) [] = nothing n
  where
    nothing : (n : ℕ) → 0 ≡ 0 - suc n
    nothing n = omega arith
levels-closed (suc n) (None ∷ ys) = levels-closed n ys ∙ less (count_by is_mark ys) n ∙ ap (λ k. k - suc n) (sym (one_more ys))
  where
    less : (k n : ℕ) → k - n ≡ 1 + k - suc n
    less k n = omega arith
levels-closed (suc n) (Some p ∷ ys) = levels-closed (suc n) ys ∙ ap (λ k. k - suc n) (sym (marks-some p ys))

levels-merged : {A : Type 0} (n : ℕ) (ys : List (Scoped A)) → count_by is_mark (merged is_mark n ys) ≡ count_by is_mark ys - n
levels-merged zero ys = ap (count_by is_mark) (merged-none ys) ∙ none_less (count_by is_mark ys)
  where
    none_less : (k : ℕ) → k ≡ k - 0
    none_less k = omega arith
levels-merged (suc n) [] = nothing n
  where
    nothing : (n : ℕ) → 0 ≡ 0 - suc n
    nothing n = omega arith
levels-merged (suc n) (None ∷ ys) = levels-merged n ys ∙ less (count_by is_mark ys) n ∙ ap (λ k. k - suc n) (sym (one_more ys))
  where
    less : (k n : ℕ) → k - n ≡ 1 + k - suc n
    less k n = omega arith
levels-merged (suc n) (Some p ∷ ys) = marks-some p (merged is_mark (suc n) ys) ∙ levels-merged (suc n) ys ∙ ap (λ k. k - suc n) (sym (marks-some p ys))

pub levels-popped : {A : Type 0} (keeps : Bool) (n : ℕ) (ys : List (Scoped A)) → count_by is_mark (popped is_mark keeps n ys) ≡ count_by is_mark ys - n
levels-popped true n ys = levels-merged n ys
levels-popped false n ys = levels-closed n ys

levels-flattened : {A : Type 0} (ys : List (Scoped A)) → count_by is_mark (flattened is_mark ys) ≡ 0
levels-flattened [] = refl
levels-flattened (None ∷ ys) = levels-flattened ys
levels-flattened (Some p ∷ ys) = marks-some p (flattened is_mark ys) ∙ levels-flattened ys

pub levels-emptied : {A : Type 0} (keeps : Bool) (ys : List (Scoped A)) → count_by is_mark (emptied is_mark keeps ys) ≡ 0
levels-emptied true ys = levels-flattened ys
levels-emptied false ys = refl

-- ---- closing levels, some after others

pub popped-none : {A : Type 0} (keeps : Bool) (ys : List (Scoped A)) → popped is_mark keeps zero ys ≡ ys
popped-none true ys = merged-none ys
popped-none false ys = closed-none ys

none_more : (k : ℕ) → 0 + k ≡ k
none_more k = omega arith

one_of : (n k : ℕ) → suc n + k ≡ suc (n + k)
one_of n k = omega arith

closed-more : {A : Type 0} (n k : ℕ) (ys : List (Scoped A)) → closed is_mark (n + k) ys ≡ closed is_mark k (closed is_mark n ys)
closed-more n k [] = refl
closed-more zero k (y ∷ ys) = ap (λ m. closed is_mark m (y ∷ ys)) (none_more k)
closed-more (suc n) k (None ∷ ys) = ap (λ m. closed is_mark m (None ∷ ys)) (one_of n k) ∙ closed-more n k ys
closed-more (suc n) k (Some p ∷ ys) =
    ap (λ m. closed is_mark m (Some p ∷ ys)) (one_of n k) ∙ ap (λ m. closed is_mark m ys) (sym (one_of n k)) ∙ closed-more (suc n) k ys

merged-more : {A : Type 0} (n k : ℕ) (ys : List (Scoped A)) → merged is_mark (n + k) ys ≡ merged is_mark k (merged is_mark n ys)
merged-more n k [] = refl
merged-more zero k (y ∷ ys) = ap (λ m. merged is_mark m (y ∷ ys)) (none_more k)
merged-more (suc n) k (None ∷ ys) = ap (λ m. merged is_mark m (None ∷ ys)) (one_of n k) ∙ merged-more n k ys
merged-more (suc n) k (Some p ∷ ys) =
    ap (λ m. merged is_mark m (Some p ∷ ys)) (one_of n k)
    ∙ ap (λ m. Some p ∷ merged is_mark m ys) (sym (one_of n k))
    ∙ ap (λ zs. Some p ∷ zs) (merged-more (suc n) k ys)
    ∙ sym (merged-under k (p ∷ []) (merged is_mark (suc n) ys))

pub popped-more : {A : Type 0} (keeps : Bool) (n k : ℕ) (ys : List (Scoped A)) → popped is_mark keeps (n + k) ys ≡ popped is_mark keeps k (popped is_mark keeps n ys)
popped-more true n k ys = merged-more n k ys
popped-more false n k ys = closed-more n k ys

-- ---- levels as they are kept

pub levels-cut : {A : Type 0} (rs : List Run) (k : ℕ) (es : List (Name × A)) (ys : List (Scoped A)) → IsCut rs k es → laid (starts_of rs) es ≡ ys → k ≡ count_by is_mark ys
levels-cut rs k es ys is seen = is.count ∙ sym (levels-laid (starts_of rs) es) ∙ ap (count_by is_mark) seen

-- a run of levels is opened above the names
module _ {A : Type 0} (rs new : List Run) (r : Run) (k : ℕ) (es : List (Bor (List ℕ) × A)) (last : new ≡ rs ++ r ∷ []) (here : r.below ≡ length es) where
  opened-starts : starts_of new ≡ replicate r.levels r.below ++ starts_of rs
  opened-starts = ap starts_of last ∙ starts-last rs r

  pub opened-is-cut : 0 < r.levels → IsCut rs k (borrowed es) → IsCut new (k + r.levels) (borrowed es)
  opened-is-cut some is = record {
    runs = subst AreOpen (sym last) (All-push (λ (p : Run). 0 < p.levels) rs r is.runs some);
    count = let l = ap length opened-starts ∙ more-levels r.levels r.below (starts_of rs) in let c = is.count in omega (arith, l, c);
    names = subst (λ ms. IsLaid ms (borrowed es)) (sym opened-starts) (opened-is-laid r.levels r.below (starts_of rs) es here is.names);
  }

  pub opened-cut : laid (starts_of new) (borrowed es) ≡ opened None r.levels (laid (starts_of rs) (borrowed es))
  opened-cut = ap (λ ms. laid ms (borrowed es)) opened-starts ∙ opened-names r.levels r.below (starts_of rs) es here

-- n levels above b names end
module _ {A : Type 0} (rs new : List Run) (n b k : ℕ) (es : List (Bor (List ℕ) × A)) (starts : starts_of rs ≡ replicate n b ++ starts_of new) (is : IsCut rs k (borrowed es)) where
  names-there : IsLaid (replicate n b ++ starts_of new) (borrowed es)
  names-there = subst (λ ms. IsLaid ms (borrowed es)) starts is.names

  count-left : k ≡ n + length (starts_of new)
  count-left = is.count ∙ ap length starts ∙ more-levels n b (starts_of new)

  pub cut-within : n ≤ k
  cut-within = let c = count-left in omega (arith, c)

  pub merged-is-cut : AreOpen new → IsCut new (k - n) (borrowed es)
  merged-is-cut there = record {
    runs = there;
    count = let c = count-left in omega (arith, c);
    names = merged-is-laid n b (starts_of new) (borrowed es) names-there;
  }

  pub closed-is-cut : 0 < n → AreOpen new → IsCut new (k - n) (borrowed (take b es))
  closed-is-cut some there = record {
    runs = there;
    count = let c = count-left in omega (arith, c);
    names = closed-is-laid n b (starts_of new) es some names-there;
  }

  pub merged-cut : laid (starts_of new) (borrowed es) ≡ merged is_mark n (laid (starts_of rs) (borrowed es))
  merged-cut = merged-names n b (starts_of new) (borrowed es) names-there ∙ ap (λ ms. merged is_mark n (laid ms (borrowed es))) (sym starts)

  pub closed-cut : 0 < n → laid (starts_of new) (borrowed (take b es)) ≡ closed is_mark n (laid (starts_of rs) (borrowed es))
  closed-cut some = closed-names n b (starts_of new) es some ∙ ap (λ ms. closed is_mark n (laid ms (borrowed es))) (sym starts)
