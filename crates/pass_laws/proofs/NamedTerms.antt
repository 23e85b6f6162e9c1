-- The term of a symbol among symbols with their terms.
use Rattle.std.proofs.Common.{◌≡◌, ◌∙◌, sym, refl, Bool, true, false, cond, not, ◌||◌, ◌⊎◌, inl, inr, List, [], ◌∷◌, ◌++◌, Option, Some, None, subst, All, is_some}
use Rattle.std.specs.Prelude.{flat_map}
use Rattle.std.proofs.lemmas.List.Elements.{All-nil, All-cons, All-head, All-tail, All-append, All-weaker}
use Rattle.smt_terms.specs.Equal.{name_eq, symbol_eq}
use Rattle.smt_terms.specs.Free.{is_among, name_among, names_of}
use Rattle.smt_terms.specs.Groups.{Named}
use Rattle.smt_terms.specs.Rank.{has_name, are_distinct}
use Rattle.smt_terms.specs.Sorts.{Name, Symbol}
use Rattle.smt_terms.specs.Term.{Term}
use Rattle.smt_terms.proofs.Equal.{Decides-name_eq, Decides-symbol_eq, symbol_itself}
use Rattle.smt_terms.proofs.Runs.{among-name}
use Rattle.smt_terms.proofs.Tests.{both_true, either_true, left_true, right_true, both_false, not_true, true_or_false, contrary}
use Rattle.term_groups.specs.Grouping.{symbols_of}
use Rattle.pass_laws.specs.Carry.{term_for}

-- ---- lists of lists

pub all_parted : {A : Type 0} (P : A → Type 0) (xs ys : List A) → All P (xs ++ ys) → All P xs × All P ys
all_parted P [] ys all = (All-nil P, all)
all_parted P (x ∷ xs) ys all =
    let rest = all_parted P xs ys (All-tail P x (xs ++ ys) all) in
    (All-cons P x xs (All-head P x (xs ++ ys) all) rest.0, rest.1)

pub all_joined : {A B : Type 0} (P : B → Type 0) (part : A → List B) (xs : List A) → All (λ x. All P (part x)) xs → All P (flat_map part xs)
all_joined P part [] all = All-nil P
all_joined P part (x ∷ xs) all =
    All-append P (part x) (flat_map part xs) (All-head (λ y. All P (part y)) x xs all) (all_joined P part xs (All-tail (λ y. All P (part y)) x xs all))

pub all_apart : {A B : Type 0} (P : B → Type 0) (part : A → List B) (xs : List A) → All P (flat_map part xs) → All (λ x. All P (part x)) xs
all_apart P part [] all = All-nil (λ x. All P (part x))
all_apart P part (x ∷ xs) all =
    let parts = all_parted P (part x) (flat_map part xs) all in
    All-cons (λ y. All P (part y)) x xs parts.0 (all_apart P part xs parts.1)

-- ---- the term of a symbol

-- what holds of all symbols and their terms holds of the one that is found
pub term_fits : (R : Symbol → Term → Type 0) (ns : Named) (f : Symbol) (t : Term) → All (λ n. R n.0 n.1) ns → term_for ns f ≡ Some t → R f t
term_fits R [] f t all found = absurd cc
term_fits R (n ∷ ns) f t all found = go (symbol_eq n.0 f) refl found (term_fits R ns f t (All-tail (λ p. R p.0 p.1) n ns all))
  where
    go : (b : Bool) → symbol_eq n.0 f ≡ b → cond b (Some n.1) (term_for ns f) ≡ Some t → (term_for ns f ≡ Some t → R f t) → R f t
    go true e h later =
        let same : n.1 ≡ t = cc in
        subst (λ u. R f u) same (subst (λ g. R g n.1) ((Decides-symbol_eq n.0 f).0 e) (All-head (λ p. R p.0 p.1) n ns all))
    go false e h later = later h

-- a symbol has a term exactly where it is among the symbols
pub some_term : (ns : Named) (f : Symbol) → is_some (term_for ns f) ≡ is_among (symbols_of ns) f
some_term [] f = refl
some_term (n ∷ ns) f = go (symbol_eq n.0 f) (some_term ns f)
  where
    go : (b : Bool) → is_some (term_for ns f) ≡ is_among (symbols_of ns) f → is_some (cond b (Some n.1) (term_for ns f)) ≡ (b || is_among (symbols_of ns) f)
    go true later = refl
    go false later = later

some_is : (o : Option Term) → is_some o ≡ true → (t : Term) × (o ≡ Some t)
some_is (Some t) h = (t, refl)
some_is None h = absurd cc

pub found : (ns : Named) (f : Symbol) → is_among (symbols_of ns) f ≡ true → (t : Term) × (term_for ns f ≡ Some t)
found ns f among = some_is (term_for ns f) (some_term ns f ∙ among)

pub each_among : (ns : Named) → All (λ n. is_among (symbols_of ns) n.0 ≡ true) ns
each_among [] = All-nil _
each_among (n ∷ ns) =
    All-cons (λ p. is_among (symbols_of (n ∷ ns)) p.0 ≡ true) n ns (left_true (symbol_eq n.0 n.0) (is_among (symbols_of ns) n.0) (symbol_itself n.0))
    (All-weaker (λ p. is_among (symbols_of ns) p.0 ≡ true) (λ p. is_among (symbols_of (n ∷ ns)) p.0 ≡ true)
    (λ p among. right_true (symbol_eq n.0 p.0) (is_among (symbols_of ns) p.0) among) ns (each_among ns))

-- ---- each of these symbols has its own term among those of more symbols

abbrev pub HaveOwn : Named → Named → Type 0
HaveOwn more ns = All (λ n. term_for more n.0 ≡ Some n.1) ns

-- then it has it among these, too
pub own_of_fewer : (more ns : Named) → HaveOwn more ns → HaveOwn ns ns
own_of_fewer more ns own k d lt = go _ _ (found ns _ (each_among ns k d lt)) (own k d lt)
  where
    go : (f : Symbol) (u : Term) → (t : Term) × (term_for ns f ≡ Some t) → term_for more f ≡ Some u → term_for ns f ≡ Some u
    go f u h here = h.1 ∙ sym (term_fits (λ g t. term_for more g ≡ Some t) ns f h.0 own h.1) ∙ here

found_left : (xs ys : Named) (f : Symbol) (t : Term) → term_for xs f ≡ Some t → term_for (xs ++ ys) f ≡ Some t
found_left [] ys f t h = absurd cc
found_left (n ∷ xs) ys f t h = go (symbol_eq n.0 f) h (found_left xs ys f t)
  where
    go : (b : Bool) → cond b (Some n.1) (term_for xs f) ≡ Some t → (term_for xs f ≡ Some t → term_for (xs ++ ys) f ≡ Some t) → cond b (Some n.1) (term_for (xs ++ ys) f) ≡ Some t
    go true here later = here
    go false here later = later here

found_right : (xs ys : Named) (f : Symbol) → is_among (symbols_of xs) f ≡ false → term_for (xs ++ ys) f ≡ term_for ys f
found_right [] ys f h = refl
found_right (n ∷ xs) ys f h =
    let parts = both_false (symbol_eq n.0 f) (is_among (symbols_of xs) f) h in
    (λ i. cond (parts.0 i) (Some n.1) (term_for (xs ++ ys) f)) ∙ found_right xs ys f parts.1

-- two lists that have no symbol in common
pub own_of_both : (xs ys : Named) → HaveOwn xs xs → HaveOwn ys ys → ((f : Symbol) → is_among (symbols_of ys) f ≡ true → is_among (symbols_of xs) f ≡ false) → HaveOwn (xs ++ ys) (xs ++ ys)
own_of_both xs ys left right apart =
    All-append (λ n. term_for (xs ++ ys) n.0 ≡ Some n.1) xs ys (λ k d lt. found_left xs ys _ _ (left k d lt))
    (λ k d lt. found_right xs ys _ (apart _ (each_among ys k d lt)) ∙ right k d lt)

pub named : (ns : List Name) (n : Name) → name_among ns n ≡ true → has_name n ns ≡ true
named [] n h = absurd cc
named (m ∷ ns) n h = go (either_true (name_eq m n) (name_among ns n) h) (named ns n)
  where
    go : (name_eq m n ≡ true) ⊎ (name_among ns n ≡ true) → (name_among ns n ≡ true → has_name n ns ≡ true) → (name_eq n m || has_name n ns) ≡ true
    go (inl here) later = left_true (name_eq n m) (has_name n ns) ((Decides-name_eq n m).1 (sym ((Decides-name_eq m n).0 here)))
    go (inr there) later = right_true (name_eq n m) (has_name n ns) (later there)

-- symbols of different names
pub own_of_distinct : (ns : Named) → are_distinct (names_of (symbols_of ns)) ≡ true → HaveOwn ns ns
own_of_distinct [] h = All-nil _
own_of_distinct (n ∷ ns) h =
    let parts = both_true (not (has_name n.0.name (names_of (symbols_of ns)))) (are_distinct (names_of (symbols_of ns))) h in
    let other : has_name n.0.name (names_of (symbols_of ns)) ≡ false = not_true (has_name n.0.name (names_of (symbols_of ns))) parts.0 in
    All-cons (λ p. term_for (n ∷ ns) p.0 ≡ Some p.1) n ns (λ i. cond (symbol_itself n.0 i) (Some n.1) (term_for ns n.0))
    (λ k d lt. go _ _ other (true_or_false (symbol_eq n.0 _)) (each_among ns k d lt) (own_of_distinct ns parts.1 k d lt))
  where
    go : (f : Symbol) (t : Term) → has_name n.0.name (names_of (symbols_of ns)) ≡ false → (symbol_eq n.0 f ≡ true) ⊎ (symbol_eq n.0 f ≡ false) → is_among (symbols_of ns) f ≡ true → term_for ns f ≡ Some t → term_for (n ∷ ns) f ≡ Some t
    go f t other (inl here) among own =
        let at : is_among (symbols_of ns) n.0 ≡ true = subst (λ g. is_among (symbols_of ns) g ≡ true) (sym ((Decides-symbol_eq n.0 f).0 here)) among in
        contrary (has_name n.0.name (names_of (symbols_of ns))) (named (names_of (symbols_of ns)) n.0.name (among-name (symbols_of ns) n.0 at)) other
    go f t other (inr apart) among own = (λ i. cond (apart i) (Some n.1) (term_for ns f)) ∙ own
