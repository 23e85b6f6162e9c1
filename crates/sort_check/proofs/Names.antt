-- Written operators by name.
use Rattle.std.proofs.Common.{◌≡◌, ℕ, suc, ◌+◌, ◌<◌, Bool, true, false, cond, List, [], ◌∷◌, ◌++◌, map, drop, length, get_or, Option, Some, None, IfSome, IsTrue, refl, ap, sym, ◌∙◌, subst, arith}
use Rattle.std.specs.List.{list_all}
use Rattle.std.proofs.Math.Seq.{drop-cons}
use Rattle.std.proofs.lemmas.List.{get_or-map, length-map}
use Rattle.smt_terms.specs.Sorts.{Name}
use Rattle.smt_terms.specs.Equal.{name_eq}
use Rattle.smt_terms.specs.Rank.{shape}
use Rattle.smt_terms.proofs.Tests.{both_true}
use Rattle.smt_terms.specs.Written.{Indexed, core_operators, number_operators, vector_operators, array_operators, named_in, or_else, operator_named}
use Rattle.sort_check.specs.declared.written.Form.{Form}
use Rattle.sort_check.specs.Forms.{form_seen, found, is_apt, is_apt_at, is_theory}

named_in-append : (ps qs : List (Name × Indexed)) (n : Name) → named_in (ps ++ qs) n ≡ or_else (named_in ps n) (named_in qs n)
named_in-append [] qs n = refl
named_in-append (p ∷ ps) qs n =
    elim (name_eq p.0 n) as (λ b. cond b (Some p.1) (named_in (ps ++ qs) n) ≡ or_else (cond b (Some p.1) (named_in ps n)) (named_in qs n)) [
      | true ↦ refl
      | false ↦ named_in-append ps qs n
    ]

abbrev pub all_operators : List (Name × Indexed)
all_operators = core_operators ++ number_operators ++ vector_operators ++ array_operators

pub named_in-all : (n : Name) → named_in all_operators n ≡ operator_named n
unfolding operator_named
named_in-all n =
    named_in-append core_operators (number_operators ++ vector_operators ++ array_operators) n
    ∙ ap (or_else (named_in core_operators n)) (named_in-append number_operators (vector_operators ++ array_operators) n
    ∙ ap (or_else (named_in number_operators n)) (named_in-append vector_operators array_operators n))

-- ---- one operator after the other

module _ {X : Type 0} (f : X → Name × Indexed) (xs : List X) (n : Name) (k : ℕ) (d : X) (lt : k < length xs) where
  at_place : named_in (drop k (map f xs)) n ≡ cond (name_eq (f (get_or xs k d)).0 n) (Some (f (get_or xs k d)).1) (named_in (drop (suc k) (map f xs)) n)
  at_place =
      let within : k < length (map f xs) = let count = length-map xs f in omega (arith, count) in
      ap (λ qs. named_in qs n) (drop-cons (map f xs) k (f d) within)
      ∙ ap (λ q. cond (name_eq q.0 n) (Some q.1) (named_in (drop (suc k) (map f xs)) n)) (get_or-map f xs k d (f d) lt)

  pub named_here : name_eq (f (get_or xs k d)).0 n ≡ true → named_in (drop k (map f xs)) n ≡ Some (f (get_or xs k d)).1
  named_here e = at_place ∙ ap (λ b. cond b (Some (f (get_or xs k d)).1) (named_in (drop (suc k) (map f xs)) n)) e

  pub named_next : name_eq (f (get_or xs k d)).0 n ≡ false → named_in (drop k (map f xs)) n ≡ named_in (drop (k + 1) (map f xs)) n
  named_next e =
      let next : suc k ≡ k + 1 = omega arith in
      at_place ∙ ap (λ b. cond b (Some (f (get_or xs k d)).1) (named_in (drop (suc k) (map f xs)) n)) e ∙ ap (λ j. named_in (drop j (map f xs)) n) next

-- ---- what the operators take

are_apt : list_all (λ p. is_apt_at p.1) all_operators ≡ true
unfolding is_apt shape is_theory
are_apt = refl

first_or_later : {P : Type 0} (b : Bool) (q o : Indexed) (rest : Option Indexed) → cond b (Some q) rest ≡ Some o → (q ≡ o → P) → (rest ≡ Some o → P) → P
first_or_later true q o rest e first later = first cc
first_or_later false q o rest e first later = later e

apt_among : (ps : List (Name × Indexed)) (n : Name) (o : Indexed) → list_all (λ p. is_apt_at p.1) ps ≡ true → named_in ps n ≡ Some o → is_apt_at o ≡ true
apt_among [] n o all e = absurd cc
apt_among (p ∷ ps) n o all e =
    let both = both_true (is_apt_at p.1) (list_all (λ p. is_apt_at p.1) ps) all in
    first_or_later (name_eq p.0 n) p.1 o (named_in ps n) e (λ same. subst (λ q. is_apt_at q ≡ true) same both.0) (λ later. apt_among ps n o both.1 later)

pub apt_named : (n : Name) (o : Indexed) → operator_named n ≡ Some o → is_apt_at o ≡ true
apt_named n o e = apt_among all_operators n o are_apt (named_in-all n ∙ e)

pub apt_found : (r : Option Form) (n : Name) → found r ≡ operator_named n → IfSome r (λ f. IsTrue (is_apt_at (form_seen f)))
apt_found None n same = tt
apt_found (Some f) n same = apt_named n (form_seen f) (sym same)
