-- Lists of operands of one sort.
use Rattle.std.proofs.Common.{◌≡◌, ℕ, zero, suc, ◌≤◌, Bool, true, cond, ◌&&◌, inl, inr, List, [], ◌∷◌, replicate, Some, refl, ap, sym, subst}
use Rattle.std.specs.Prelude.{filter}
use Rattle.smt_terms.specs.declared.op.Op.{Op}
use Rattle.smt_terms.specs.Sorts.{Sort}
use Rattle.smt_terms.specs.Term.{Term, Terms, none, ◌⨾◌, list, terms}
use Rattle.smt_terms.specs.Rank.{shape, width, most_bits, sorts_of, is_regular, are_regular}
use Rattle.smt_terms.specs.Takes.{Takes}
use Rattle.smt_terms.proofs.Operands.{more_sorts, fewer_sorts, sort_over_more, regular_over_more}
use Rattle.smt_terms.proofs.Sorted.{sorted}
use Rattle.smt_terms.proofs.Tests.{both_true, and_true, true_or_false}
use Rattle.simplify.specs.Folding.{over_left}
use Rattle.simplify.proofs.Gives.{Operand}

-- ---- operands of one sort

abbrev pub Each : Sort → List Term → Type 0
Each s [] = Unit {0}
Each s (t ∷ ts) = Operand s t × Each s ts

pub each : (s : Sort) (n : ℕ) (us : Terms) → sorts_of us ≡ Some (replicate n s) → are_regular us ≡ true → Each s (list us)
each s n none has fine = tt
each s zero (u ⨾ us) has fine =
    let parts = sorted u us [] has in
    let empty : [] ≡ parts.sort ∷ parts.sorts = parts.all in
    absurd cc
each s (suc n) (u ⨾ us) has fine =
    let sorts = fewer_sorts u us s (replicate n s) has in
    let rules = both_true (is_regular u) (are_regular us) fine in
    (record { has = sorts.0; rules = rules.0 }, each s n us sorts.1 rules.1)

pub filter-each : (s : Sort) (test : Term → Bool) (ts : List Term) → Each s ts → Each s (filter test ts)
filter-each s test [] e = tt
filter-each s test (t ∷ ts) e = elim (true_or_false (test t)) [
  | inl passes ↦ subst (λ b. Each s (cond b (t ∷ filter test ts) (filter test ts))) (sym passes) (e.0, filter-each s test ts e.1)
  | inr fails ↦ subst (λ b. Each s (cond b (t ∷ filter test ts) (filter test ts))) (sym fails) (filter-each s test ts e.1)
]

pub list-terms : (ts : List Term) → list (terms ts) ≡ ts
list-terms [] = refl
list-terms (t ∷ ts) = ap (λ us. t ∷ us) (list-terms ts)

pub record Lists (s : Sort) (ts : List Term) : Type 0 where
  pub count : ℕ
  pub sorts : sorts_of (terms ts) ≡ Some (replicate count s)
  pub rules : are_regular (terms ts) ≡ true

pub lists : (s : Sort) (ts : List Term) → Each s ts → Lists s ts
lists s [] e = record { count = 0; sorts = refl; rules = refl }
lists s (t ∷ ts) e =
    let rest = lists s ts e.1 in
    record {
      count = suc rest.count;
      sorts = more_sorts t (terms ts) s (replicate rest.count s) e.0.has rest.sorts;
      rules = and_true (is_regular t) (are_regular (terms ts)) e.0.rules rest.rules;
    }

-- an operator over what is left, for one that takes two operands or more of its result's sort
pub left_operand : (s : Sort) (o : Op) (neutral : Term) → Operand s neutral → ((k : ℕ) → Takes (shape o) (s ∷ s ∷ replicate k s) s) → width s ≤ most_bits → (ts : List Term) → Each s ts → Operand s (over_left o neutral ts)
left_operand s o neutral p takes narrow [] e = p
left_operand s o neutral p takes narrow (t ∷ []) e = e.0
left_operand s o neutral p takes narrow (t ∷ u ∷ ts) e =
    let rest = lists s ts e.1.1 in
    record {
      has = sort_over_more o t u (terms ts) (s ∷ s ∷ replicate rest.count s) s
          (more_sorts t (u ⨾ terms ts) s (s ∷ replicate rest.count s) e.0.has (more_sorts u (terms ts) s (replicate rest.count s) e.1.0.has rest.sorts)) (takes rest.count) narrow;
      rules = regular_over_more o t u (terms ts) (and_true (is_regular t) (is_regular u && are_regular (terms ts)) e.0.rules (and_true (is_regular u) (are_regular (terms ts)) e.1.0.rules rest.rules));
    }
