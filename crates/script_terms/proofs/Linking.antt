-- Local bindings are found by their places.
use Rattle.std.proofs.Common.{◌≡◌, ℕ, zero, suc, ◌+◌, ◌<◌, Bool, true, false, cond, ◌||◌, List, [], ◌∷◌, ◌++◌, reverse, length, get_or, drop, Option, Some, None, is_some, IsSome, IfSome, Result, Ok, Err, OnOk, OnErr, Bor, if◌then◌else◌, refl, ap, sym, ◌∙◌, subst, arith, true≢false}
use Rattle.std.proofs.lemmas.List.{reverse-append, reverse-reverse, length-reverse, get_or_append_left}
use Rattle.std.proofs.lemmas.Slice.Eq.{bytes_eq-Decides}
use Rattle.std.specs.Str.{bytes_eq}
use Rattle.std.specs.Map.{KeepsOthers}
use Rattle.std.specs.declared.alloc.AllocFailed.{AllocFailed}
use Rattle.indexmap.specs.IndexMap.{insert_entry}
use Rattle.smt_lex.specs.Names.{Name}
use Rattle.smt_terms.specs.Equal.{name_eq}
use Rattle.smt_terms.specs.declared.ids.SymId.{SymId}
use Rattle.script_terms.specs.declared.locals.Binding.{Binding}
use Rattle.script_terms.specs.Scope.{or_later}
use Rattle.script_terms.specs.Bound.{innermost, is_quantified_local, quantified_among, constants_before, constants_in}
use Rattle.script_terms.specs.Linked.{names_bound, place_in, AreLinked, at_name, IsLinked}
use Rattle.script_terms.proofs.Laying.{bytes_eq-turned}

-- ---- lists that have their latest first

last : {A : Type 0} (xs : List A) (x d : A) → get_or (reverse (x ∷ xs)) (length xs) d ≡ x
last {A = A} xs x d = ap (λ ys. get_or ys (length xs) d) (reverse-append (x ∷ []) xs) ∙ at_end (reverse xs) (length xs) (length-reverse xs)
  where
    at_end : (ys : List A) (n : ℕ) → length ys ≡ n → get_or (ys ++ x ∷ []) n d ≡ x
    at_end [] n e = ap (λ k. get_or (x ∷ []) k d) (sym e)
    at_end (y ∷ ys) zero e = absurd (omega (arith, e))
    at_end (y ∷ ys) (suc n) e = at_end ys n (omega (arith, e))

earlier : {A : Type 0} (xs : List A) (x d : A) (i : ℕ) → i < length xs → get_or (reverse (x ∷ xs)) i d ≡ get_or (reverse xs) i d
earlier xs x d i few =
    let whole = length-reverse xs in
    ap (λ ys. get_or ys i d) (reverse-append (x ∷ []) xs) ∙ get_or_append_left (reverse xs) (x ∷ []) d i (omega (arith, few, whole))

name_same : (m n : Name) → name_eq m n ≡ true → m ≡ n
name_same m n h = (bytes_eq-Decides m n).0 h

abbrev number_in : Option ℕ → ℕ
number_in (Some i) = i
number_in None = 0

-- ---- what is found

pub none_bound : (bs : List Binding) (n : Name) → length bs ≡ 0 → (innermost (names_bound (reverse bs)) n ≡ None) × (quantified_among (names_bound (reverse bs)) n ≡ false)
none_bound [] n e = (refl, refl)
none_bound (b ∷ bs) n e = absurd (omega (arith, e))

pub record IsFound (bs : List Binding) (n : Name) (i : ℕ) (d : Binding) : Type 0 where
  pub within : i < length bs
  pub local : innermost (names_bound bs) n ≡ Some (get_or (reverse bs) i d).local
  pub quantified : quantified_among (names_bound bs) n ≡ (get_or (reverse bs) i d).is_quantified

pub found : (bs : List Binding) (n : Name) (i : ℕ) (d : Binding) → AreLinked bs → place_in bs n ≡ Some i → IsFound bs n i d
found [] n i d links e = absurd (true≢false (sym (ap is_some e)))
found (b ∷ bs) n i d links e = by (name_eq b.name.now n) refl e (found bs n i d links.2)
  where
    its_own : name_eq b.name.now n ≡ true → b.is_quantified ≡ (is_quantified_local b.local || quantified_among (names_bound bs) n)
    its_own h = links.1 ∙ ap (λ m. is_quantified_local b.local || quantified_among (names_bound bs) m) (name_same b.name.now n h)

    here : (q r : Bool) → (if q then (true || r) else r) ≡ (q || r)
    here true r = refl
    here false r = refl

    there : (q r : Bool) → (if q then (false || r) else r) ≡ r
    there true r = refl
    there false r = refl

    by : (t : Bool) → name_eq b.name.now n ≡ t → or_later t (length bs) (place_in bs n) ≡ Some i → (place_in bs n ≡ Some i → IsFound bs n i d) → IsFound (b ∷ bs) n i d
    by true h e rest =
        let at : length bs ≡ i = ap number_in e in
        let its : get_or (reverse (b ∷ bs)) i d ≡ b = ap (λ k. get_or (reverse (b ∷ bs)) k d) (sym at) ∙ last bs b d in
        record {
          within = omega (arith, at);
          local = ap (λ t. or_later t b.local (innermost (names_bound bs) n)) h ∙ ap (λ c. Some c.local) (sym its);
          quantified =
              ap (λ t. if is_quantified_local b.local then (t || quantified_among (names_bound bs) n) else quantified_among (names_bound bs) n) h
              ∙ here (is_quantified_local b.local) (quantified_among (names_bound bs) n) ∙ sym (its_own h) ∙ ap (λ c. c.is_quantified) (sym its);
        }
    by false h e rest =
        let f = rest e in
        let its : get_or (reverse (b ∷ bs)) i d ≡ get_or (reverse bs) i d = earlier bs b d i f.within in
        record {
          within = omega (arith, f.within);
          local = ap (λ t. or_later t b.local (innermost (names_bound bs) n)) h ∙ f.local ∙ ap (λ c. Some c.local) (sym its);
          quantified =
              ap (λ t. if is_quantified_local b.local then (t || quantified_among (names_bound bs) n) else quantified_among (names_bound bs) n) h
              ∙ there (is_quantified_local b.local) (quantified_among (names_bound bs) n) ∙ f.quantified ∙ ap (λ c. c.is_quantified) (sym its);
        }

pub absent : (bs : List Binding) (n : Name) → place_in bs n ≡ None → (innermost (names_bound bs) n ≡ None) × (quantified_among (names_bound bs) n ≡ false)
absent [] n e = (refl, refl)
absent (b ∷ bs) n e = by (name_eq b.name.now n) refl e (absent bs n)
  where
    there : (q r : Bool) → r ≡ false → (if q then (false || r) else r) ≡ false
    there true r h = h
    there false r h = h

    by : (t : Bool) → name_eq b.name.now n ≡ t → or_later t (length bs) (place_in bs n) ≡ None
        → (place_in bs n ≡ None → (innermost (names_bound bs) n ≡ None) × (quantified_among (names_bound bs) n ≡ false))
        → (innermost (names_bound (b ∷ bs)) n ≡ None) × (quantified_among (names_bound (b ∷ bs)) n ≡ false)
    by true h e rest = absurd (true≢false (ap is_some e))
    by false h e rest =
        let r = rest e in (
          ap (λ t. or_later t b.local (innermost (names_bound bs) n)) h ∙ r.0,
          ap (λ t. if is_quantified_local b.local then (t || quantified_among (names_bound bs) n) else quantified_among (names_bound bs) n) h
              ∙ there (is_quantified_local b.local) (quantified_among (names_bound bs) n) r.1,
        )

-- ---- binding and leaving

pub entered : (bs : List Binding) (es news : List (Bor (List ℕ) × ℕ)) (fs gs : List SymId) (b : Binding) → IsLinked bs es fs → b.outer ≡ at_name es b.name.now
    → b.is_quantified ≡ (is_quantified_local b.local || quantified_among (names_bound bs) b.name.now)
    → ((n : Name) → at_name news n ≡ (if name_eq b.name.now n then Some (length bs) else at_name es n))
    → reverse gs ≡ constants_before b.local (reverse fs) → IsLinked (b ∷ bs) news gs
entered bs es news fs gs b is outer flag places constants = record {
  places = λ n. places n ∙ by n (name_eq b.name.now n);
  links = (outer ∙ is.places b.name.now, flag, is.links);
  constants = constants ∙ ap (constants_before b.local) is.constants;
}
  where
    by : (n : Name) (t : Bool) → (if t then Some (length bs) else at_name es n) ≡ or_later t (length bs) (place_in bs n)
    by n true = refl
    by n false = is.places n

pub left : (bs : List Binding) (es news : List (Bor (List ℕ) × ℕ)) (fs gs : List SymId) (b : Binding) → IsLinked (b ∷ bs) es fs
    → ((n : Name) → at_name news n ≡ (if name_eq b.name.now n then b.outer else at_name es n))
    → ((hs : List SymId) → reverse fs ≡ constants_before b.local hs → reverse gs ≡ hs) → IsLinked bs news gs
left bs es news fs gs b is places constants = record {
  places = λ n. places n ∙ by n (name_eq b.name.now n) refl (is.places n);
  links = is.links.2;
  constants = constants (constants_in (names_bound bs)) is.constants;
}
  where
    by : (n : Name) (t : Bool) → name_eq b.name.now n ≡ t → at_name es n ≡ or_later (name_eq b.name.now n) (length bs) (place_in bs n)
        → (if t then b.outer else at_name es n) ≡ place_in bs n
    by n true h at = is.links.0 ∙ ap (place_in bs) (name_same b.name.now n h)
    by n false h at = at ∙ ap (λ t. or_later t (length bs) (place_in bs n)) h

-- ---- the map

same-name : (n : Name) → name_eq n n ≡ true
same-name n = (bytes_eq-Decides n n).1 refl

abbrev pub keys_eq : Bor (List ℕ) → Bor (List ℕ) → Bool
keys_eq a b = bytes_eq a.now b.now

pub put : (es : List (Bor (List ℕ) × ℕ)) (k : Bor (List ℕ)) (v : ℕ) (n : Name)
    → at_name (insert_entry keys_eq es k v) n ≡ (if name_eq k.now n then Some v else at_name es n)
put [] k v n = ap (λ t. cond t (Some v) None) (bytes_eq-turned n k.now) ∙ by (name_eq k.now n)
  where
    by : (t : Bool) → cond {A = Option ℕ} t (Some v) None ≡ (if t then Some v else None)
    by true = refl
    by false = refl
put (p ∷ es) k v n = by (bytes_eq k.now p.0.now) (name_eq k.now n) refl refl (put es k v n)
  where
    here : (t : Bool) → name_eq k.now n ≡ t → k.now ≡ p.0.now → cond {A = Option ℕ} (bytes_eq n p.0.now) (Some v) (at_name es n) ≡ (if t then Some v else cond (bytes_eq n p.0.now) (Some p.1) (at_name es n))
    here true ht same = ap (λ t. cond t (Some v) (at_name es n)) (ap (bytes_eq n) (sym same) ∙ bytes_eq-turned n k.now ∙ ht)
    here false ht same =
        let no : bytes_eq n p.0.now ≡ false = ap (bytes_eq n) (sym same) ∙ bytes_eq-turned n k.now ∙ ht in
        ap (λ t. cond t (Some v) (at_name es n)) no ∙ ap (λ t. cond t (Some p.1) (at_name es n)) (sym no)

    there : (t : Bool) → name_eq k.now n ≡ t → bytes_eq k.now p.0.now ≡ false → at_name (insert_entry keys_eq es k v) n ≡ (if t then Some v else at_name es n)
        → cond (bytes_eq n p.0.now) (Some p.1) (at_name (insert_entry keys_eq es k v) n) ≡ (if t then Some v else cond (bytes_eq n p.0.now) (Some p.1) (at_name es n))
    there true ht hs rest =
        let no : bytes_eq n p.0.now ≡ false = ap (λ m. bytes_eq m p.0.now) (sym (name_same k.now n ht)) ∙ hs in
        ap (λ t. cond t (Some p.1) (at_name (insert_entry keys_eq es k v) n)) no ∙ rest
    there false ht hs rest = ap (λ o. cond (bytes_eq n p.0.now) (Some p.1) o) rest

    by : (s t : Bool) → bytes_eq k.now p.0.now ≡ s → name_eq k.now n ≡ t → at_name (insert_entry keys_eq es k v) n ≡ (if name_eq k.now n then Some v else at_name es n)
        → at_name (if◌then◌else◌ {A = List (Bor (List ℕ) × ℕ)} (bytes_eq k.now p.0.now) ((p.0, v) ∷ es) (p ∷ insert_entry keys_eq es k v)) n
        ≡ (if name_eq k.now n then Some v else cond (bytes_eq n p.0.now) (Some p.1) (at_name es n))
    by true t hs ht rest =
        ap (λ s. at_name (if◌then◌else◌ {A = List (Bor (List ℕ) × ℕ)} s ((p.0, v) ∷ es) (p ∷ insert_entry keys_eq es k v)) n) hs
        ∙ here t ht (name_same k.now p.0.now hs) ∙ ap (λ b. if b then Some v else cond (bytes_eq n p.0.now) (Some p.1) (at_name es n)) (sym ht)
    by false t hs ht rest =
        ap (λ s. at_name (if◌then◌else◌ {A = List (Bor (List ℕ) × ℕ)} s ((p.0, v) ∷ es) (p ∷ insert_entry keys_eq es k v)) n) hs
        ∙ there t ht hs (rest ∙ ap (λ b. if b then Some v else at_name es n) ht) ∙ ap (λ b. if b then Some v else cond (bytes_eq n p.0.now) (Some p.1) (at_name es n)) (sym ht)

pub found-within : (bs : List Binding) (n : Name) (i : ℕ) → place_in bs n ≡ Some i → i < length bs
found-within [] n i e = absurd (true≢false (sym (ap is_some e)))
found-within (b ∷ bs) n i e = by (name_eq b.name.now n) e (found-within bs n i)
  where
    by : (t : Bool) → or_later t (length bs) (place_in bs n) ≡ Some i → (place_in bs n ≡ Some i → i < length bs) → i < suc (length bs)
    by true e rest = let at : length bs ≡ i = ap number_in e in omega (arith, at)
    by false e rest = let f = rest e in omega (arith, f)

-- of bindings that have the outermost first
pub found-in : (bs : List Binding) (n : Name) (i : ℕ) (b : Binding) → AreLinked (reverse bs) → place_in (reverse bs) n ≡ Some i → b ≡ get_or bs i b
    → innermost (names_bound (reverse bs)) n ≡ Some b.local
found-in bs n i b links e is =
    let f = found (reverse bs) n i b links e in
    let its : get_or (reverse (reverse bs)) i b ≡ b = ap (λ cs. get_or cs i b) (reverse-reverse bs) ∙ sym is in
    f.local ∙ ap (λ c. Some c.local) its

pub quantified-in : (bs : List Binding) (n : Name) (i : ℕ) (d : Binding) → AreLinked (reverse bs) → place_in (reverse bs) n ≡ Some i
    → quantified_among (names_bound (reverse bs)) n ≡ (get_or bs i d).is_quantified
quantified-in bs n i d links e =
    let f = found (reverse bs) n i d links e in
    f.quantified ∙ ap (λ cs. (get_or cs i d).is_quantified) (reverse-reverse bs)

pub found-before : (bs : List Binding) (n : Name) (i : ℕ) → place_in (reverse bs) n ≡ Some i → i < length bs
found-before bs n i e =
    let within = found-within (reverse bs) n i e in
    let whole = length-reverse bs in
    omega (arith, within, whole)

pub place-before : (bs : List Binding) (n : Name) (o : Option ℕ) → o ≡ place_in (reverse bs) n → IfSome o (λ i. i < length bs)
place-before bs n (Some i) e = found-before bs n i (sym e)
place-before bs n None e = tt

-- a name that is taken out
pub taken : (es news : List (Bor (List ℕ) × ℕ)) (q n : Name) → at_name news q ≡ None
    → KeepsOthers keys_eq (λ k. bytes_eq q k.now) es news → at_name news n ≡ (if name_eq q n then None else at_name es n)
unfolding KeepsOthers
taken es news q n gone keeps = by (name_eq q n) refl
  where
    like : (x y : Bor (List ℕ)) → bytes_eq n x.now ≡ true → bytes_eq n y.now ≡ bytes_eq x.now y.now
    like x y h = ap (λ m. bytes_eq m y.now) (name_same n x.now h)

    apart : name_eq q n ≡ false → (k : Bor (List ℕ)) → bytes_eq q k.now ≡ true → bytes_eq n k.now ≡ false
    apart h k e = ap (bytes_eq n) (sym (name_same q k.now e)) ∙ bytes_eq-turned n q ∙ h

    by : (t : Bool) → name_eq q n ≡ t → at_name news n ≡ (if t then None else at_name es n)
    by true h = ap (at_name news) (sym (name_same q n h)) ∙ gone
    by false h = keeps (λ k. bytes_eq n k.now) like (apart h)

-- what doesn't fail is done
pub done : {A E X Y : Type 0} (r : Result A E) → OnOk r X → OnErr r Y → (Y → ⊥) → X
done (Ok a) x y never = x
done (Err e) x y never = absurd (never y)

some-or-none : {A : Type 0} (o : Option A) → IsSome o → o ≡ None → ⊥
some-or-none (Some a) is none = absurd (true≢false (ap is_some none))
some-or-none None is none = true≢false (sym is)

pub pointed : (es news : List (Bor (List ℕ) × ℕ)) (k : Bor (List ℕ)) (v : ℕ) → IsSome (at_name es k.now)
    → (r : Result (Option ℕ) (AllocFailed (Bor (List ℕ) × ℕ))) → OnOk r (news ≡ insert_entry keys_eq es k v) → OnErr r (at_name es k.now ≡ None)
    → (n : Name) → at_name news n ≡ (if name_eq k.now n then Some v else at_name es n)
pointed es news k v is r ok err n =
    ap (λ fs. at_name fs n) (done r ok err (some-or-none (at_name es k.now) is)) ∙ put es k v n

-- the innermost binding, which stands last
pub innermost-last : (b : Binding) (bs : List Binding) → reverse (bs ++ b ∷ []) ≡ b ∷ reverse bs
innermost-last b bs = reverse-append bs (b ∷ [])

pub left-last : (bs : List Binding) (b : Binding) (all : List Binding) (es news : List (Bor (List ℕ) × ℕ)) (fs gs : List SymId) → all ≡ bs ++ b ∷ []
    → IsLinked (reverse all) es fs → ((n : Name) → at_name news n ≡ (if name_eq b.name.now n then b.outer else at_name es n))
    → ((hs : List SymId) → reverse fs ≡ constants_before b.local hs → reverse gs ≡ hs) → IsLinked (reverse bs) news gs
left-last bs b all es news fs gs e is places constants =
    left (reverse bs) es news fs gs b (subst (λ cs. IsLinked cs es fs) (ap reverse e ∙ innermost-last b bs) is) places constants

pub is-bound : (bs : List Binding) (b : Binding) (all : List Binding) (es : List (Bor (List ℕ) × ℕ)) (fs : List SymId) → all ≡ bs ++ b ∷ []
    → IsLinked (reverse all) es fs → IsSome (at_name es b.name.now)
is-bound bs b all es fs e is =
    let linked : IsLinked (b ∷ reverse bs) es fs = subst (λ cs. IsLinked cs es fs) (ap reverse e ∙ innermost-last b bs) is in
    subst IsSome (sym (linked.places b.name.now ∙ ap (λ t. or_later t (length (reverse bs)) (place_in (reverse bs) b.name.now)) (same-name b.name.now))) refl

pub entered-last : (bs : List Binding) (b : Binding) (all : List Binding) (es news : List (Bor (List ℕ) × ℕ)) (fs gs : List SymId) (v : ℕ)
    → all ≡ bs ++ b ∷ [] → IsLinked (reverse bs) es fs → v ≡ length bs → b.outer ≡ at_name es b.name.now
    → b.is_quantified ≡ (is_quantified_local b.local || quantified_among (names_bound (reverse bs)) b.name.now)
    → news ≡ insert_entry keys_eq es b.name v → reverse gs ≡ constants_before b.local (reverse fs) → IsLinked (reverse all) news gs
entered-last bs b all es news fs gs v e is place outer flag news-are constants =
    subst (λ cs. IsLinked cs news gs) (sym (ap reverse e ∙ innermost-last b bs))
    (entered (reverse bs) es news fs gs b is outer flag
    (λ n. ap (λ hs. at_name hs n) news-are ∙ put es b.name v n ∙ ap (λ i. if name_eq b.name.now n then Some i else at_name es n) (place ∙ sym (length-reverse bs))) constants)

pub drop-next : {A : Type 0} (k : ℕ) (xs : List A) → drop 1 (drop k xs) ≡ drop (k + 1) xs
drop-next {A = A} k xs = by k xs ∙ ap (λ n. drop n xs) (next k)
  where
    next : (k : ℕ) → suc k ≡ k + 1
    next k = omega arith

    by : (k : ℕ) (xs : List A) → drop 1 (drop k xs) ≡ drop (suc k) xs
    by zero [] = refl
    by zero (x ∷ xs) = refl
    by (suc k) [] = refl
    by (suc k) (x ∷ xs) = by k xs
