-- Nodes of distinct terms cost no more to close than the terms have places.
use Rattle.std.proofs.Common.{◌≡◌, ◌≢◌, ℕ, zero, suc, ◌+◌, ◌<◌, ◌≤◌, Bool, true, false, cond, ◌||◌, List, [], ◌∷◌, length, get_or, refl, ap, sym, ◌∙◌, arith}
use Rattle.smt_terms.specs.Equal.{term_eq}
use Rattle.smt_terms.specs.Groups.{has_term}
use Rattle.smt_terms.specs.Term.{Term}
use Rattle.smt_terms.proofs.Equal.{Decides-term_eq}
use Rattle.term_table.specs.Formulas.{no_tree, operands}
use Rattle.term_walk.specs.declared.kept.Place.{Place}
use Rattle.term_walk.specs.Places.{is_closed_at}
use Rattle.term_walk.specs.Stacks.{open_cost, open_costs}
use Rattle.term_walk.specs.Subterms.{places}

-- the list without the first t
abbrev pub less : List Term → Term → List Term
less [] t = []
less (u ∷ us) t = cond (term_eq u t) us (u ∷ less us t)

-- one element of the two lists
places-split : (u t : Term) (us : List Term) (b : Bool) → term_eq u t ≡ b → (b || has_term us t) ≡ true → (has_term us t ≡ true → places us ≡ suc (length (operands t)) + places (less us t)) → suc (length (operands u)) + places us ≡ suc (length (operands t)) + places (cond b us (u ∷ less us t))
places-split u t us true e among later =
    let same : length (operands u) ≡ length (operands t) = ap (λ v. length (operands v)) ((Decides-term_eq u t).0 e) in
    omega arith
places-split u t us false e among later = let rest = later among in omega (arith, rest)

places-less : (us : List Term) (t : Term) → has_term us t ≡ true → places us ≡ suc (length (operands t)) + places (less us t)
places-less [] t h = absurd cc
places-less (u ∷ us) t h = places-split u t us (term_eq u t) refl h (places-less us t)

has-split : (u t v : Term) (us : List Term) (b : Bool) → term_eq u t ≡ b → (d : Bool) → term_eq u v ≡ d → t ≢ v → has_term (less us t) v ≡ has_term us v → has_term (cond b us (u ∷ less us t)) v ≡ (d || has_term us v)
has-split u t v us true e true h apart later = absurd (apart (sym ((Decides-term_eq u t).0 e) ∙ (Decides-term_eq u v).0 h))
has-split u t v us true e false h apart later = refl
has-split u t v us false e d h apart later = ap (λ c. c || has_term (less us t) v) h ∙ ap (λ c. d || c) later

pub has-less : (us : List Term) (t v : Term) → t ≢ v → has_term (less us t) v ≡ has_term us v
has-less [] t v apart = refl
has-less (u ∷ us) t v apart = has-split u t v us (term_eq u t) refl (term_eq u v) refl apart (has-less us t v apart)

module _ {T : Type 0} (ts : List Term) (ks : List (Place T)) where
  AreDistinct : ℕ → Type 0
  AreDistinct n = (i j : ℕ) → i < n → j < n → get_or ts i no_tree ≡ get_or ts j no_tree → i ≡ j

  cost-less : (us : List Term) (t : Term) (i : ℕ) → t ≢ get_or ts i no_tree → open_cost us ts ks i ≡ open_cost (less us t) ts ks i
  cost-less us t i apart = ap (λ b. cond (is_closed_at ks i) 0 (cond b (suc (length (operands (get_or ts i no_tree)))) 0)) (sym (has-less us t (get_or ts i no_tree) apart))

  costs-less : (us : List Term) (t : Term) (n : ℕ) → ((i : ℕ) → i < n → t ≢ get_or ts i no_tree) → open_costs us ts ks n ≡ open_costs (less us t) ts ks n
  costs-less us t zero apart = refl
  costs-less us t (suc n) apart =
      let below = costs-less us t n (λ i lt. apart i (omega arith)) in
      let one = cost-less us t n (apart n (omega arith)) in
      omega (arith, below, one)

  module _ (us : List Term) (n : ℕ) (distinct : AreDistinct (suc n)) (whole : (vs : List Term) → open_costs vs ts ks n ≤ places vs) where
    costs-with : (b d : Bool) → has_term us (get_or ts n no_tree) ≡ d → open_costs us ts ks n + cond b 0 (cond d (suc (length (operands (get_or ts n no_tree)))) 0) ≤ places us
    unfolding AreDistinct
    costs-with true d e = let all = whole us in omega arith
    costs-with false true e =
        let t = get_or ts n no_tree in
        let apart : (i : ℕ) → i < n → t ≢ get_or ts i no_tree = λ i lt same. let one : n ≡ i = distinct n i (omega arith) (omega arith) same in omega arith in
        let fewer = costs-less us t n apart in
        let rest = places-less us t e in
        let all = whole (less us t) in
        omega (arith, fewer, rest, all)
    costs-with false false e = let all = whole us in omega arith

  pub costs-bounded : (us : List Term) (n : ℕ) → ((i j : ℕ) → i < n → j < n → get_or ts i no_tree ≡ get_or ts j no_tree → i ≡ j) → open_costs us ts ks n ≤ places us
  unfolding AreDistinct
  costs-bounded us zero distinct = omega arith
  costs-bounded us (suc n) distinct =
      costs-with us n distinct (λ vs. costs-bounded vs n (λ i j li lj. distinct i j (omega arith) (omega arith)))
      (is_closed_at ks n) (has_term us (get_or ts n no_tree)) refl
