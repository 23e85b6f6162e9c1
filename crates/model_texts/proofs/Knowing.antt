-- What is known of elements while a printed text is read, and readings that give a thing whatever is known.
use Rattle.std.proofs.Common.{◌≡◌, ◌≢◌, ℕ, zero, suc, ◌+◌, ◌<◌, ◌≤◌, inl, inr, ◌⊎◌, true, false, Ok, List, [], ◌∷◌, ◌++◌, length, drop, refl, ap, sym, ◌∙◌, subst, arith}
use Rattle.std.proofs.lemmas.List.{drop_at}
use Rattle.smt_lex.specs.Names.{is_among}
use Rattle.smt_terms.specs.Equal.{name_eq}
use Rattle.smt_terms.specs.Numeral.{numeral}
use Rattle.smt_terms.specs.Sorts.{Name}
use Rattle.smt_terms.specs.Values.{element, Sizes}
use Rattle.smt_terms.proofs.Equal.{name_itself, name_same, names_differ}
use Rattle.smt_terms.proofs.Numeral.{numeral-injective}
use Rattle.smt_terms.proofs.Tests.{true_or_false, right_true, contrary}
use Rattle.model_texts.specs.Reading.{Element, names_in, place_among, Reading, continued, ◌>>=◌, gives, meets}
use Rattle.model_texts.specs.ModelLines.{element_name}

-- ---- names of elements

pub element_name-injective : (s : Name) (i j : ℕ) → element_name s i ≡ element_name s j → i ≡ j
element_name-injective s i j same =
    let behind : (k : ℕ) → drop (length s) (drop 1 (element_name s k)) ≡ 95 ∷ numeral k = λ k. drop_at s (95 ∷ numeral k) (length s) refl in
    numeral-injective i j (ap (drop 1) (sym (behind i) ∙ ap (λ n. drop (length s) (drop 1 n)) same ∙ behind j))

other_name : (s : Name) (i j : ℕ) → (i ≡ j → ⊥) → name_eq (element_name s i) (element_name s j) ≡ false
other_name s i j apart = names_differ (element_name s i) (element_name s j) (λ same. apart (element_name-injective s i j same))

-- those of the elements from number i on, so many
abbrev pub names_from : Name → ℕ → ℕ → List Name
names_from s i zero = []
names_from s i (suc n) = element_name s i ∷ names_from s (suc i) n

-- the i-th of them
pub place-name : (s : Name) (n first i k : ℕ) → i < n → first + i ≡ k → place_among (names_from s first n) (element_name s k) ≡ i
place-name s zero first i k within is = absurd (omega (arith, within))
place-name s (suc n) first zero k within is =
    let same : first ≡ k = omega (arith, is) in
    let here : name_eq (element_name s first) (element_name s k) ≡ true = ap (λ k. name_eq (element_name s first) (element_name s k)) (sym same) ∙ name_itself (element_name s first) in
    rw here refl
place-name s (suc n) first (suc i) k within is =
    rw (other_name s first k (λ same. omega (arith, same, is))) (ap suc (place-name s n (suc first) i k (omega (arith, within)) (omega (arith, is))))

pub among-names : (s : Name) (n first i k : ℕ) → i < n → first + i ≡ k → is_among (names_from s first n) (element_name s k) ≡ true
among-names s zero first i k within is = absurd (omega (arith, within))
among-names s (suc n) first zero k within is =
    let same : first ≡ k = omega (arith, is) in
    let here : name_eq (element_name s k) (element_name s first) ≡ true = ap (λ k. name_eq (element_name s k) (element_name s first)) (sym same) ∙ name_itself (element_name s first) in
    rw here refl
among-names s (suc n) first (suc i) k within is =
    right_true (name_eq (element_name s k) (element_name s first)) (is_among (names_from s (suc first) n) (element_name s k))
    (among-names s n (suc first) i k (omega (arith, within)) (omega (arith, is)))

pub not-among-names : (s : Name) (n first k : ℕ) → first + n ≤ k → is_among (names_from s first n) (element_name s k) ≡ false
not-among-names s zero first k behind = refl
not-among-names s (suc n) first k behind =
    rw (other_name s k first (λ same. omega (arith, same, behind))) (not-among-names s n (suc first) k (omega (arith, behind)))

place-behind : (s : Name) (n first k : ℕ) → first + n ≤ k → place_among (names_from s first n) (element_name s k) ≡ n
place-behind s zero first k behind = refl
place-behind s (suc n) first k behind =
    rw (other_name s first k (λ same. omega (arith, same, behind))) (ap suc (place-behind s n (suc first) k (omega (arith, behind))))

pub names_from-more : (s : Name) (n first k : ℕ) → first + n ≡ k → names_from s first n ++ element_name s k ∷ [] ≡ names_from s first (suc n)
names_from-more s zero first k is = let same : k ≡ first = omega (arith, is) in ap (λ k. element_name s k ∷ []) same
names_from-more s (suc n) first k is = ap (λ ns. element_name s first ∷ ns) (names_from-more s n (suc first) k (omega (arith, is)))

-- ---- the names that were met

abbrev named : Name → Name → Element
named s n = record { sort = s; name = n }

pub names_in-here : (es : List Element) (s n : Name) → names_in (es ++ named s n ∷ []) s ≡ names_in es s ++ n ∷ []
names_in-here [] s n = rw (name_itself s) refl
names_in-here (e ∷ es) s n = elim (true_or_false (name_eq e.sort s)) [
  | inl same ↦ rw same (ap (λ ns. e.name ∷ ns) (names_in-here es s n))
  | inr other ↦ rw other (names_in-here es s n)
]

pub names_in-elsewhere : (es : List Element) (s t n : Name) → s ≢ t → names_in (es ++ named s n ∷ []) t ≡ names_in es t
names_in-elsewhere [] s t n apart = rw (names_differ s t apart) refl
names_in-elsewhere (e ∷ es) s t n apart = elim (true_or_false (name_eq e.sort t)) [
  | inl same ↦ rw same (ap (λ ns. e.name ∷ ns) (names_in-elsewhere es s t n apart))
  | inr other ↦ rw other (names_in-elsewhere es s t n apart)
]

-- all elements of a sort were met in order, or none of the only one
abbrev pub IsFull : Sizes → List Element → Name → Type 0
IsFull sizes es s = names_in es s ≡ names_from s 0 (sizes s)

abbrev pub IsKnown : Sizes → List Element → Name → Type 0
IsKnown sizes es s = IsFull sizes es s ⊎ ((names_in es s ≡ []) × (sizes s ≡ 1))

abbrev pub AllKnown : Sizes → List Element → Type 0
AllKnown sizes es = (s : Name) → IsKnown sizes es s

-- an element of a sort all of whose elements were met
pub met_again : (es : List Element) (s : Name) (n i : ℕ) → names_in es s ≡ names_from s 0 n → i < n → meets s (element_name s i) es ≡ Ok (element i, es)
met_again es s n i full within =
    let place : place_among (names_in es s) (element_name s i) ≡ i = ap (λ ns. place_among ns (element_name s i)) full ∙ place-name s n 0 i i within (omega arith) in
    let there : is_among (names_in es s) (element_name s i) ≡ true = ap (λ ns. is_among ns (element_name s i)) full ∙ among-names s n 0 i i within (omega arith) in
    rw (there, place) refl

-- the element behind those that were met
pub met_next : (es : List Element) (s : Name) (i : ℕ) → names_in es s ≡ names_from s 0 i → meets s (element_name s i) es ≡ Ok (element i, es ++ named s (element_name s i) ∷ [])
met_next es s i so_far =
    let place : place_among (names_in es s) (element_name s i) ≡ i = ap (λ ns. place_among ns (element_name s i)) so_far ∙ place-behind s i 0 i (omega arith) in
    let there : is_among (names_in es s) (element_name s i) ≡ false = ap (λ ns. is_among ns (element_name s i)) so_far ∙ not-among-names s i 0 i (omega arith) in
    rw (there, place) refl

-- ---- readings

abbrev pub Gives : {A : Type 0} → Sizes → Reading A → A → Type 0
Gives sizes reading a = (es : List Element) → AllKnown sizes es → (after : List Element) × (reading es ≡ Ok (a, after)) × AllKnown sizes after

pub gives_it : {A : Type 0} (sizes : Sizes) (a : A) → Gives sizes (gives a) a
gives_it sizes a es known = (es, refl, known)

pub gives_next : {A B : Type 0} (sizes : Sizes) (reading : Reading A) (next : A → Reading B) (a : A) (b : B) → Gives sizes reading a → Gives sizes (next a) b → Gives sizes (reading >>= next) b
gives_next sizes reading next a b first second es known =
    let r = first es known in
    let s = second r.0 r.2 in
    (s.0, ap (continued next) r.1 ∙ s.1, s.2)

-- an element of a sort that has it
pub gives_element : (sizes : Sizes) (s : Name) (i : ℕ) → i < sizes s → Gives sizes (meets s (element_name s i)) (element i)
gives_element sizes s i within es known = elim (known s) [
  | inl full ↦ (es, met_again es s (sizes s) i full within, known)
  | inr only ↦
      let one : sizes s ≡ 1 = only.1 in
      let first : i ≡ 0 = omega (arith, within, one) in
      let more : List Element = es ++ named s (element_name s i) ∷ [] in
      let full : IsFull sizes more s =
      names_in-here es s (element_name s i) ∙ ap (λ ns. ns ++ element_name s i ∷ []) only.0 ∙ ap (λ i. element_name s i ∷ []) first ∙ ap (names_from s 0) (sym one) in (
        more,
        met_next es s i (only.0 ∙ ap (names_from s 0) (sym first)),
        λ t. elim (true_or_false (name_eq s t)) [
          | inl same ↦ subst (IsKnown sizes more) (name_same s t same) (inl full)
          | inr other ↦ subst (λ ns. (ns ≡ names_from t 0 (sizes t)) ⊎ ((ns ≡ []) × (sizes t ≡ 1)))
              (sym (names_in-elsewhere es s t (element_name s i) (λ same. contrary (name_eq s t) (ap (name_eq s) (sym same) ∙ name_itself s) other))) (known t)
        ],
      )
]
