-- Lists of passes in which stored rules may not stand.
use Rattle.std.proofs.Common.{◌≡◌, ℕ, zero, suc, Bool, true, false, ◌||◌, cond, nat_lt, List, [], ◌∷◌, length, take, Option, Some, None, Result, Ok, Err, refl, sym, ap, ◌∙◌}
use Rattle.std.specs.List.{list_all, list_any}
use Rattle.std.specs.Prelude.{slice_get}
use Rattle.pass_laws.specs.declared.names.Pass.{Pass}
use Rattle.pass_laws.specs.declared.names.Pass.TheVariants.{Rules}
use Rattle.pass_laws.specs.declared.names.ListFault.{ListFault}
use Rattle.pass_laws.specs.declared.names.ListFault.TheVariants.{BadPass, AfterRules}
use Rattle.pass_laws.specs.Lists.{groups_after_rules, in_order, all_known, any_pass, pass_list, pass_list_of, most_passes, passes_named, between_commas}
use Rattle.smtrw_answers.specs.Words.{Word, is_rules, blasting, takes_pass}

-- ---- stored rules among the passes

any_is : (ps : List Pass) → list_all any_pass ps ≡ true
any_is [] = refl
any_is (p ∷ ps) = any_is ps

without_is : (ps : List Pass) → list_any is_rules ps ≡ false → list_all (takes_pass blasting) ps ≡ true
without_is [] none = refl
without_is (Rules ∷ ps) none = absurd cc
without_is (p ∷ ps) none = without_is ps none

among_is : (ps : List Pass) → list_any is_rules ps ≡ true → list_all (takes_pass blasting) ps ≡ false
among_is [] some = absurd cc
among_is (Rules ∷ ps) some = refl
among_is (p ∷ ps) some = among_is ps some

behind_rules : (ps : List Pass) → groups_after_rules ps ≡ true → list_any is_rules ps ≡ true
behind_rules [] behind = absurd cc
behind_rules (Rules ∷ ps) behind = refl
behind_rules (p ∷ ps) behind = behind_rules ps behind

-- ---- pass by pass

or_true : (b : Bool) → (b || true) ≡ true
or_true true = refl
or_true false = refl

same_pass : (q p : Pass) → ◌≡◌ {A = Option Pass} (Some q) (Some p) → q ≡ p
same_pass q p e = cc

module _ (test : Pass → Bool) where
  any_at : (ps : List Pass) (i : ℕ) (p : Pass) → slice_get ps i ≡ Some p → test p ≡ true → list_any test ps ≡ true
  any_at [] i p is holds = absurd cc
  any_at (q ∷ ps) zero p is holds = ap (λ b. b || list_any test ps) (ap test (same_pass q p is) ∙ holds)
  any_at (q ∷ ps) (suc i) p is holds = ap (λ b. test q || b) (any_at ps i p is holds) ∙ or_true (test q)

  one_more : (ps : List Pass) (i : ℕ) (p : Pass) → slice_get ps i ≡ Some p → test p ≡ false → list_any test (take i ps) ≡ false → list_any test (take (suc i) ps) ≡ false
  one_more [] i p is fails none = absurd cc
  one_more (q ∷ ps) zero p is fails none = ap (λ b. b || false) (ap test (same_pass q p is) ∙ fails)
  one_more (q ∷ ps) (suc i) p is fails none = go (test q) none (one_more ps i p is fails)
    where
      go : (b : Bool) → (b || list_any test (take i ps)) ≡ false → (list_any test (take i ps) ≡ false → list_any test (take (suc i) ps) ≡ false)
          → (b || list_any test (take (suc i) ps)) ≡ false
      go true e rest = absurd cc
      go false e rest = rest e

pub rules_at : (ps : List Pass) (i : ℕ) (p : Pass) → slice_get ps i ≡ Some p → is_rules p ≡ true → list_any is_rules ps ≡ true
rules_at = any_at is_rules

pub no_more_rules : (ps : List Pass) (i : ℕ) (p : Pass) → slice_get ps i ≡ Some p → is_rules p ≡ false → list_any is_rules (take i ps) ≡ false → list_any is_rules (take (suc i) ps) ≡ false
no_more_rules = one_more is_rules

-- ---- what becomes of a list

order_ok : (ps qs : List Pass) → in_order ps ≡ Ok qs → ps ≡ qs
order_ok ps qs = go (groups_after_rules ps)
  where
    go : (b : Bool) → cond {A = Result (List Pass) ListFault} b (Err AfterRules) (Ok ps) ≡ Ok qs → ps ≡ qs
    go true e = absurd cc
    go false e = cc

order_fault : (ps : List Pass) (f : ListFault) → in_order ps ≡ Err f → groups_after_rules ps ≡ true
order_fault ps f = go (groups_after_rules ps)
  where
    go : (b : Bool) → cond {A = Result (List Pass) ListFault} b (Err AfterRules) (Ok ps) ≡ Err f → b ≡ true
    go true e = refl
    go false e = absurd cc

known_any : (ps : List Pass) → all_known any_pass (Some ps) ≡ in_order ps
known_any ps = rw (any_is ps) refl

-- no stored rules: the same list
known_without : (o : Option (List Pass)) (qs : List Pass) → all_known any_pass o ≡ Ok qs → list_any is_rules qs ≡ false → all_known (takes_pass blasting) o ≡ Ok qs
known_without None qs e none = absurd cc
known_without (Some ps) qs e none =
    let order : in_order ps ≡ Ok qs = sym (known_any ps) ∙ e in
    let same : list_any is_rules ps ≡ false = ap (list_any is_rules) (order_ok ps qs order) ∙ none in
    ap (λ b. cond b (in_order ps) (Err BadPass)) (without_is ps same) ∙ order

known_among : (o : Option (List Pass)) (qs : List Pass) → all_known any_pass o ≡ Ok qs → list_any is_rules qs ≡ true → all_known (takes_pass blasting) o ≡ Err BadPass
known_among None qs e some = absurd cc
known_among (Some ps) qs e some =
    let order : in_order ps ≡ Ok qs = sym (known_any ps) ∙ e in
    let same : list_any is_rules ps ≡ true = ap (list_any is_rules) (order_ok ps qs order) ∙ some in
    ap (λ b. cond b (in_order ps) (Err BadPass)) (among_is ps same)

-- a fault of any list is a bad pass here
known_fault : (o : Option (List Pass)) (f : ListFault) → all_known any_pass o ≡ Err f → all_known (takes_pass blasting) o ≡ Err BadPass
known_fault None f e = refl
known_fault (Some ps) f e =
    let order : in_order ps ≡ Err f = sym (known_any ps) ∙ e in
    ap (λ b. cond b (in_order ps) (Err BadPass)) (among_is ps (behind_rules ps (order_fault ps f order)))

-- ---- texts

module _ (text : Word) where
  abbrev many : Bool
  many = nat_lt most_passes (length (between_commas text))

  pub list_without : (qs : List Pass) → pass_list text ≡ Ok qs → list_any is_rules qs ≡ false → pass_list_of (takes_pass blasting) text ≡ Ok qs
  list_without qs e none = go many e
    where
      go : (b : Bool) → cond b (Err BadPass) (all_known any_pass (passes_named (between_commas text))) ≡ Ok qs
          → cond b (Err BadPass) (all_known (takes_pass blasting) (passes_named (between_commas text))) ≡ Ok qs
      go true is = absurd cc
      go false is = known_without (passes_named (between_commas text)) qs is none

  pub list_with : (qs : List Pass) → pass_list text ≡ Ok qs → list_any is_rules qs ≡ true → pass_list_of (takes_pass blasting) text ≡ Err BadPass
  list_with qs e some = go many e
    where
      go : (b : Bool) → cond b (Err BadPass) (all_known any_pass (passes_named (between_commas text))) ≡ Ok qs
          → cond b (Err BadPass) (all_known (takes_pass blasting) (passes_named (between_commas text))) ≡ Err BadPass
      go true is = refl
      go false is = known_among (passes_named (between_commas text)) qs is some

  pub list_refused : (f : ListFault) → pass_list text ≡ Err f → pass_list_of (takes_pass blasting) text ≡ Err BadPass
  list_refused f e = go many e
    where
      go : (b : Bool) → cond b (Err BadPass) (all_known any_pass (passes_named (between_commas text))) ≡ Err f
          → cond b (Err BadPass) (all_known (takes_pass blasting) (passes_named (between_commas text))) ≡ Err BadPass
      go true is = refl
      go false is = known_fault (passes_named (between_commas text)) f is
