-- The free symbols of a well-sorted term without applications are constants.
use Rattle.std.proofs.Common.{◌≡◌, true, false, not, inl, inr, List, [], ◌∷◌, map, Some, sym, ◌∙◌, subst}
use Rattle.smt_terms.specs.Equal.{symbol_eq}
use Rattle.smt_terms.specs.Free.{is_among, head_symbols, free, free_of}
use Rattle.smt_terms.specs.Rank.{sort_of, sorts_of}
use Rattle.smt_terms.specs.Shapes.{is_application, no_application, no_applications}
use Rattle.smt_terms.specs.Sorts.{Sort, bool, Symbol}
use Rattle.smt_terms.specs.Term.{Head, op, symbol, const_array, Term, apply, quantified, Terms, none, ◌⨾◌, constant_of}
use Rattle.smt_terms.proofs.Among.{is_among-with_more, is_among-without}
use Rattle.smt_terms.proofs.Equal.{Decides-symbol_eq}
use Rattle.smt_terms.proofs.Ranked.{rank-takes}
use Rattle.smt_terms.proofs.Sorted.{applied, sorted, quantified_sort}
use Rattle.smt_terms.proofs.Tests.{both_true, either_true, not_true}

pub is-only : (g f : Symbol) → is_among (g ∷ []) f ≡ true → g ≡ f
is-only g f among = elim (either_true (symbol_eq g f) false among) [
  | inl same ↦ (Decides-symbol_eq g f).0 same
  | inr never ↦ absurd cc
]

-- a symbol over no operands has no arguments
pub constant-args : (g : Symbol) (s : Sort) → sort_of (apply (symbol g) none) ≡ Some s → g.args ≡ []
constant-args g s has =
    let parts = applied (symbol g) none s has in
    let empty : [] ≡ parts.sorts = let both : Some [] ≡ Some parts.sorts = parts.operands in cc in
    sym (rank-takes (symbol g) parts.sorts s parts.rank).0 ∙ sym empty

head-args : (h : Head) (ts : Terms) (s : Sort) → sort_of (apply h ts) ≡ Some s → is_application h ts ≡ false → (f : Symbol) → is_among (head_symbols h) f ≡ true → f.args ≡ []
head-args (op o) ts s has plain f among = absurd cc
head-args (const_array r) ts s has plain f among = absurd cc
head-args (symbol g) (t ⨾ ts) s has plain f among = absurd cc
head-args (symbol g) none s has plain f among = subst (λ k. k.args ≡ []) (is-only g f among) (constant-args g s has)

mutual
  pub plain-args : (t : Term) (s : Sort) → sort_of t ≡ Some s → no_application t ≡ true → (f : Symbol) → is_among (free t) f ≡ true → f.args ≡ []
  plain-args (apply h ts) s has plain f among =
      let parts = applied h ts s has in
      let tests = both_true (not (is_application h ts)) (no_applications ts) plain in
      elim (either_true (is_among (head_symbols h) f) (is_among (free_of ts) f) (sym (is_among-with_more (head_symbols h) (free_of ts) f) ∙ among)) [
        | inl here ↦ head-args h ts s has (not_true (is_application h ts) tests.0) f here
        | inr there ↦ plain-args_each ts parts.sorts parts.operands tests.1 f there
      ]
  plain-args (quantified q xs body) s has plain f among =
      plain-args body bool (quantified_sort q xs body s has).body plain f
      (both_true (is_among (free body) f) (not (is_among (map constant_of xs) f)) (sym (is_among-without xs (free body) f) ∙ among)).0

  pub plain-args_each : (ts : Terms) (ss : List Sort) → sorts_of ts ≡ Some ss → no_applications ts ≡ true → (f : Symbol) → is_among (free_of ts) f ≡ true → f.args ≡ []
  plain-args_each none ss has plain f among = absurd cc
  plain-args_each (t ⨾ ts) ss has plain f among =
      let parts = sorted t ts ss has in
      let tests = both_true (no_application t) (no_applications ts) plain in
      elim (either_true (is_among (free t) f) (is_among (free_of ts) f) (sym (is_among-with_more (free t) (free_of ts) f) ∙ among)) [
        | inl here ↦ plain-args t parts.sort parts.first tests.0 f here
        | inr there ↦ plain-args_each ts parts.sorts parts.others tests.1 f there
      ]
