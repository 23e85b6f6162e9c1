-- The function of an application that is live has arguments, and is free in what was asserted.
use Rattle.std.proofs.Common.{◌≡◌, ◌∙◌, sym, ap, refl, true, false, ◌⊎◌, inl, inr, List, [], ◌∷◌, Option, Some, None, is_some}
use Rattle.smt_terms.specs.Equal.{symbol_eq, term_eq}
use Rattle.smt_terms.specs.Free.{is_among, head_symbols, free, free_of}
use Rattle.smt_terms.specs.Groups.{has_term}
use Rattle.smt_terms.specs.Rank.{sort_of, is_regular, IsWellSorted}
use Rattle.smt_terms.specs.Sorts.{Sort, Symbol}
use Rattle.smt_terms.specs.Term.{Head, op, symbol, const_array, Term, apply, quantified, Terms, none, ◌⨾◌}
use Rattle.smt_terms.proofs.Among.{is_among-with_more}
use Rattle.smt_terms.proofs.Equal.{Decides-symbol_eq, Decides-term_eq}
use Rattle.smt_terms.proofs.Ranked.{rank-takes}
use Rattle.smt_terms.proofs.Sorted.{applied, sorted}
use Rattle.smt_terms.proofs.Tests.{both_true, either_true, left_true, right_true}
use Rattle.ackermann.specs.Laws.{IsUseIn}
use Rattle.ackermann.specs.Removals.{is_use, is_free_in}
use Rattle.ackermann.specs.Tables.{applies}
use Rattle.pass_laws.specs.Carry.{are_some, has_arguments}
use Rattle.pass_laws.specs.LiveGroups.{is_applied}

-- ---- it is free

among_head : (f : Symbol) (h : Head) → applies f h ≡ true → is_among (head_symbols h) f ≡ true
among_head f (op o) is = absurd cc
among_head f (symbol g) is = left_true (symbol_eq g f) false ((Decides-symbol_eq g f).1 (sym ((Decides-symbol_eq f g).0 is)))
among_head f (const_array s) is = absurd cc

applied_free : (f : Symbol) (u : Term) → is_applied f u ≡ true → is_among (free u) f ≡ true
applied_free f (apply h ts) is = is_among-with_more (head_symbols h) (free_of ts) f ∙ left_true (is_among (head_symbols h) f) (is_among (free_of ts) f) (among_head f h is)
applied_free f (quantified q xs t) is = absurd cc

free_among : (ts : List Term) (t : Term) (f : Symbol) → has_term ts t ≡ true → is_among (free t) f ≡ true → is_free_in ts f ≡ true
free_among [] t f among is = absurd cc
free_among (u ∷ ts) t f among is = by (either_true (term_eq u t) (has_term ts t) among) (free_among ts t f)
  where
    by : (term_eq u t ≡ true) ⊎ (has_term ts t ≡ true) → (has_term ts t ≡ true → is_among (free t) f ≡ true → is_free_in ts f ≡ true) → is_free_in (u ∷ ts) f ≡ true
    by (inl same) rest = left_true (is_among (free u) f) (is_free_in ts f) (ap (λ v. is_among (free v) f) ((Decides-term_eq u t).0 same) ∙ is)
    by (inr there) rest = right_true (is_among (free u) f) (is_free_in ts f) (rest there is)

-- ---- it has arguments

some_sort : (o : Option Sort) → is_some o ≡ true → (to : Sort) × (o ≡ Some to)
some_sort (Some to) is = (to, refl)
some_sort None is = absurd cc

arguments_of : (g : Symbol) (t : Term) (ts : Terms) → IsWellSorted (apply (symbol g) (t ⨾ ts)) → has_arguments g ≡ true
arguments_of g t ts fine =
    let has = some_sort (sort_of (apply (symbol g) (t ⨾ ts))) (both_true (is_some (sort_of (apply (symbol g) (t ⨾ ts)))) (is_regular (apply (symbol g) (t ⨾ ts))) fine).0 in
    let parts = applied (symbol g) (t ⨾ ts) has.0 has.1 in
    let taken = rank-takes (symbol g) parts.sorts has.0 parts.rank in
    let first = sorted t ts parts.sorts parts.operands in
    ap are_some (sym taken.0 ∙ first.all)

applied_arguments : (f : Symbol) (u : Term) → is_applied f u ≡ true → is_use u ≡ true → IsWellSorted u → has_arguments f ≡ true
applied_arguments f (apply (symbol g) (t ⨾ ts)) is made fine = ap has_arguments ((Decides-symbol_eq f g).0 is) ∙ arguments_of g t ts fine
applied_arguments f (apply (symbol g) none) is made fine = absurd cc
applied_arguments f (apply (op o) ts) is made fine = absurd cc
applied_arguments f (apply (const_array s) ts) is made fine = absurd cc
applied_arguments f (quantified q xs t) is made fine = absurd cc

pub use_applied : (inputs : List Term) (u : Term) (f : Symbol) → IsUseIn inputs u → is_applied f u ≡ true → (is_free_in inputs f ≡ true) × (has_arguments f ≡ true)
use_applied inputs u f stands is =
    (free_among inputs stands.whole f stands.among (stands.part.free f (applied_free f u is)), applied_arguments f u is stands.application stands.part.sorted)
