-- Distinct terms, and how many numbers of a list stand for them.
use Rattle.std.proofs.Common.{◌≡◌, ◌≢◌, ℕ, zero, suc, ◌+◌, ◌<◌, inl, inr, Bool, true, false, not, cond, ◌&&◌, ◌||◌, List, [], ◌∷◌, ◌++◌, map, length, get_or, filter, refl, ap, sym, ◌∙◌, subst, arith, Some}
use Rattle.std.proofs.lemmas.Bool.Decides.{eqb_tells}
use Rattle.smt_terms.specs.Equal.{name_eq, term_eq}
use Rattle.smt_terms.specs.Groups.{has_term, with_new}
use Rattle.smt_terms.specs.Rank.{has_name, are_distinct, are_bindable, sort_of, sorts_of}
use Rattle.smt_terms.specs.Sorts.{Name, Sort, Variable}
use Rattle.smt_terms.specs.Term.{Term, apply, quantified, Terms, none, ◌⨾◌, symbol, variable}
use Rattle.smt_terms.proofs.Equal.{Decides-term_eq, Decides-name_eq}
use Rattle.smt_terms.proofs.Sorted.{applied, sorted, quantified_sort}
use Rattle.smt_terms.proofs.Tests.{both_true, both_false, not_true, true_or_false, left_true, right_true}
use Rattle.term_table.specs.Formulas.{no_tree}
use Rattle.term_walk.specs.Marks.{is_marked, marked_below}
use Rattle.term_walk.specs.Subterms.{subterms, subterms_of, all_subterms}
use Rattle.term_walk.proofs.Counting.{less, has-less}
use Rattle.term_walk.proofs.Members.{has-append, has-filter}

abbrev pub IsOnce : List Term → Type 0
IsOnce [] = Unit {0}
IsOnce (u ∷ us) = (has_term us u ≡ false) × IsOnce us

-- ---- lists that are put together

filtered-out : (p : Term → Bool) (us : List Term) (t : Term) → has_term us t ≡ false → has_term (filter p us) t ≡ false
filtered-out p us t h = has-filter p us t ∙ ap (λ b. b && p t) h

once-filter : (p : Term → Bool) (us : List Term) → IsOnce us → IsOnce (filter p us)
once-filter p [] h = h
once-filter p (u ∷ us) h = by (p u) (once-filter p us h.1)
  where
    by : (b : Bool) → IsOnce (filter p us) → IsOnce (cond b (u ∷ filter p us) (filter p us))
    by true rest = (filtered-out p us u h.0, rest)
    by false rest = rest

once-append : (ts us : List Term) → IsOnce ts → IsOnce us → ((t : Term) → has_term ts t ≡ true → has_term us t ≡ false) → IsOnce (ts ++ us)
once-append [] us h k apart = k
once-append (t ∷ ts) us h k apart =
    let other : has_term us t ≡ false = apart t (left_true (term_eq t t) (has_term ts t) ((Decides-term_eq t t).1 refl)) in
    (has-append ts us t ∙ (λ i. h.0 i || other i), once-append ts us h.1 k (λ u e. apart u (right_true (term_eq t u) (has_term ts u) e)))

once-with_new : (ts us : List Term) → IsOnce ts → IsOnce us → IsOnce (with_new ts us)
once-with_new ts us h k = once-append ts (filter (λ u. not (has_term ts u)) us) h (once-filter (λ u. not (has_term ts u)) us k) apart
  where
    neither : (b : Bool) → (b && false) ≡ false
    neither true = refl
    neither false = refl

    apart : (t : Term) → has_term ts t ≡ true → has_term (filter (λ u. not (has_term ts u)) us) t ≡ false
    apart t e = has-filter (λ u. not (has_term ts u)) us t ∙ ap (λ b. has_term us t && not b) e ∙ neither (has_term us t)

once-one : (t : Term) → IsOnce (t ∷ [])
once-one t = (refl, _)

-- ---- the subterms of well-sorted terms

name_of : Term → Name
name_of (apply (symbol f) _) = f.name
name_of _ = []

other_variable : (x : Variable) (xs : List Variable) → has_name x.name (map (λ y. y.name) xs) ≡ false → has_term (map variable xs) (variable x) ≡ false
unfolding name_of
other_variable x [] h = refl
other_variable x (y ∷ ys) h =
    let parts = both_false (name_eq x.name y.name) (has_name x.name (map (λ z. z.name) ys)) h in
    elim (true_or_false (term_eq (variable y) (variable x))) [
      | inl e ↦
          let name : x.name ≡ y.name = sym (ap name_of ((Decides-term_eq (variable y) (variable x)).0 e)) in
          let same = (Decides-name_eq x.name y.name).1 name in
          absurd (let apart = parts.0 in cc)
      | inr e ↦ let rest = other_variable x ys parts.1 in λ i. e i || rest i
    ]

once-variables : (xs : List Variable) → are_distinct (map (λ x. x.name) xs) ≡ true → IsOnce (map variable xs)
once-variables [] h = _
once-variables (x ∷ xs) h =
    let parts = both_true (not (has_name x.name (map (λ y. y.name) xs))) (are_distinct (map (λ y. y.name) xs)) h in
    (other_variable x xs (not_true (has_name x.name (map (λ y. y.name) xs)) parts.0), once-variables xs parts.1)

names-distinct : (xs : List Variable) → are_bindable xs ≡ true → are_distinct (map (λ x. x.name) xs) ≡ true
names-distinct [] h = refl
names-distinct (x ∷ xs) h = (both_true (are_distinct (map (λ y. y.name) (x ∷ xs))) _ h).0

mutual
  once : (t : Term) (s : Sort) → sort_of t ≡ Some s → IsOnce (subterms t)
  once (apply h ts) s e =
      let parts = applied h ts s e in
      once-with_new (subterms_of ts) (apply h ts ∷ []) (once_of ts parts.sorts parts.operands) (once-one (apply h ts))
  once (quantified q xs body) s e =
      let parts = quantified_sort q xs body s e in
      let inner = once-with_new (map variable xs) (subterms body) (once-variables xs (names-distinct xs parts.bindable)) (once body _ parts.body) in
      once-with_new (with_new (map variable xs) (subterms body)) (quantified q xs body ∷ []) inner (once-one (quantified q xs body))

  once_of : (ts : Terms) (ss : List Sort) → sorts_of ts ≡ Some ss → IsOnce (subterms_of ts)
  once_of none ss e = _
  once_of (t ⨾ ts) ss e =
      let parts = sorted t ts ss e in
      once-with_new (subterms t) (subterms_of ts) (once t parts.sort parts.first) (once_of ts parts.sorts parts.others)

abbrev HasSort : Term → Type 0
HasSort t = (s : Sort) × (sort_of t ≡ Some s)

pub once-all : (ts : List Term) → ((i : ℕ) → i < length ts → HasSort (get_or ts i no_tree)) → IsOnce (all_subterms ts)
once-all [] h = _
once-all (t ∷ ts) h =
    let first = h zero (omega arith) in
    once-with_new (subterms t) (all_subterms ts) (once t first.0 first.1) (once-all ts (λ i lt. h (suc i) (omega arith)))

-- ---- a list without one of its terms

length-less : (us : List Term) (t : Term) → has_term us t ≡ true → length us ≡ suc (length (less us t))
length-less [] t h = absurd cc
length-less (u ∷ us) t h = by (term_eq u t) h (length-less us t)
  where
    by : (b : Bool) → (b || has_term us t) ≡ true → (has_term us t ≡ true → length us ≡ suc (length (less us t))) → suc (length us) ≡ suc (length (cond b us (u ∷ less us t)))
    by true e rest = refl
    by false e rest = ap suc (rest e)

less-apart : (us : List Term) (t v : Term) → has_term us v ≡ false → has_term (less us t) v ≡ false
less-apart [] t v h = h
less-apart (u ∷ us) t v h = let parts = both_false (term_eq u v) (has_term us v) h in by (term_eq u t) parts.0 parts.1 (less-apart us t v parts.1)
  where
    by : (b : Bool) → term_eq u v ≡ false → has_term us v ≡ false → has_term (less us t) v ≡ false → has_term (cond b us (u ∷ less us t)) v ≡ false
    by true first before rest = before
    by false first before rest = λ i. first i || rest i

once-less : (us : List Term) (t : Term) → IsOnce us → IsOnce (less us t)
once-less [] t h = h
once-less (u ∷ us) t h = by (term_eq u t) (once-less us t h.1)
  where
    by : (b : Bool) → IsOnce (less us t) → IsOnce (cond b us (u ∷ less us t))
    by true rest = h.1
    by false rest = (less-apart us t u h.0, rest)

gone : (us : List Term) (t : Term) → IsOnce us → has_term (less us t) t ≡ false
gone [] t h = refl
gone (u ∷ us) t h = by (term_eq u t) refl (gone us t h.1)
  where
    by : (b : Bool) → term_eq u t ≡ b → has_term (less us t) t ≡ false → has_term (cond b us (u ∷ less us t)) t ≡ false
    by true e rest = subst (λ (v : Term). has_term us v ≡ false) ((Decides-term_eq u t).0 e) h.0
    by false e rest = λ i. e i || rest i

less-in : (us : List Term) (t v : Term) → IsOnce us → has_term (less us t) v ≡ true → (t ≢ v) × (has_term us v ≡ true)
less-in us t v h e =
    let apart : t ≢ v = λ same. (let out : has_term (less us t) v ≡ false = subst (λ (w : Term). has_term (less us t) w ≡ false) same (gone us t h) in cc) in
    (apart, sym (has-less us t v apart) ∙ e)

-- ---- as many numbers have a mark as there are terms

pub marked-once : (ts : List Term) (ms : List Bool) (n : ℕ) (us : List Term) → IsOnce us → ((i j : ℕ) → i < n → j < n → get_or ts i no_tree ≡ get_or ts j no_tree → i ≡ j) → ((i : ℕ) → i < n → is_marked ms i ≡ has_term us (get_or ts i no_tree)) → ((u : Term) → has_term us u ≡ true → (i : ℕ) × (i < n) × (get_or ts i no_tree ≡ u)) → marked_below ms n ≡ length us
marked-once ts ms zero [] h distinct marks found = refl
marked-once ts ms zero (u ∷ us) h distinct marks found = let r = found u (left_true (term_eq u u) (has_term us u) ((Decides-term_eq u u).1 refl)) in absurd (let lt = r.1 in omega arith)
marked-once ts ms (suc n) us h distinct marks found = by (is_marked ms n) refl (marked-once ts ms n)
  where
    fewer : (i j : ℕ) → i < n → j < n → get_or ts i no_tree ≡ get_or ts j no_tree → i ≡ j
    fewer i j li lj = distinct i j (omega arith) (omega arith)

    other : (i : ℕ) → i < n → get_or ts n no_tree ≢ get_or ts i no_tree
    other i lt same = let e : n ≡ i = distinct n i (omega arith) (omega arith) same in omega arith

    earlier : (u : Term) → get_or ts n no_tree ≢ u → has_term us u ≡ true → (i : ℕ) × (i < n) × (get_or ts i no_tree ≡ u)
    earlier u apart e =
        let r = found u e in
        elim (eqb_tells r.0 n) [
          | inl same ↦ absurd (apart (sym (ap (λ i. get_or ts i no_tree) same.1) ∙ r.2))
          | inr differ ↦ (r.0, (let d = differ.1 in let lt = r.1 in omega arith), r.2)
        ]

    by : (b : Bool) → is_marked ms n ≡ b → ((vs : List Term) → IsOnce vs → ((i j : ℕ) → i < n → j < n → get_or ts i no_tree ≡ get_or ts j no_tree → i ≡ j) → ((i : ℕ) → i < n → is_marked ms i ≡ has_term vs (get_or ts i no_tree)) → ((u : Term) → has_term vs u ≡ true → (i : ℕ) × (i < n) × (get_or ts i no_tree ≡ u)) → marked_below ms n ≡ length vs) → marked_below ms n + cond b 1 0 ≡ length us
    by true e earlier_marks =
        let among : has_term us (get_or ts n no_tree) ≡ true = sym (marks n (omega arith)) ∙ e in
        let rest : marked_below ms n ≡ length (less us (get_or ts n no_tree)) =
        earlier_marks (less us (get_or ts n no_tree)) (once-less us (get_or ts n no_tree) h) fewer
        (λ i lt. marks i (omega arith) ∙ sym (has-less us (get_or ts n no_tree) (get_or ts i no_tree) (other i lt)))
        (λ u k. let r = less-in us (get_or ts n no_tree) u h k in earlier u r.0 r.1) in
        let one = length-less us (get_or ts n no_tree) among in
        omega (arith, rest, one)
    by false e earlier_marks =
        let not_among : has_term us (get_or ts n no_tree) ≡ false = sym (marks n (omega arith)) ∙ e in
        let rest : marked_below ms n ≡ length us =
        earlier_marks us h fewer (λ i lt. marks i (omega arith))
        (λ u k. earlier u (λ same. (let f : has_term us u ≡ false = subst (λ (w : Term). has_term us w ≡ false) same not_among in cc)) k) in
        omega (arith, rest)
