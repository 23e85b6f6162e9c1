-- A form that means what the formula says keeps its value; terms of other sorts stay as they are.
use Rattle.std.proofs.Common.{◌≡◌, Bool, true, false, Some, refl, ap, sym, ◌∙◌, subst}
use Rattle.std.specs.Prelude.{is_some}
use Rattle.std.specs.Bool.{beq}
use Rattle.smt_terms.specs.Sorts.{Sort, bool, Symbol}
use Rattle.smt_terms.specs.Term.{Head, Term, apply, quantified, Terms}
use Rattle.smt_terms.specs.Free.{is_among, free}
use Rattle.smt_terms.specs.Rank.{is_regular, sort_of, IsWellSorted}
use Rattle.smt_terms.specs.Values.{is_true, same}
use Rattle.smt_terms.specs.Val.{val}
use Rattle.smt_terms.specs.Keeps.{Keeps, KeepsValues}
use Rattle.smt_terms.specs.Connectives.{Kind, atom, kind_of}
use Rattle.smt_terms.specs.Shapes.{is_bool}
use Rattle.smt_terms.proofs.Tests.{both_true, and_true}
use Rattle.smt_terms.proofs.Sorted.{quantified_sort}
use Rattle.smt_terms.proofs.Connected.{is_logical, connected}
use Rattle.smt_terms.proofs.Built.{Means, sense}
use Rattle.smt_terms.proofs.Keeping.{the_sort, keeps_itself}
use Rattle.normal_forms.specs.Laws.{Rewrites, RewritesAs}
use Rattle.normal_forms.specs.Nnf.{positive, nnf, nnf_each, nnf_not_each}
use Rattle.normal_forms.specs.Aig.{inverted, aig, aig_each}
use Rattle.normal_forms.proofs.Clear.{Clear, stays-clear}
use Rattle.normal_forms.proofs.Inside.{Inside}

beq-same : (a b : Bool) → a ≡ b → beq a b ≡ true
beq-same true true e = refl
beq-same false false e = refl
beq-same true false e = absurd cc
beq-same false true e = absurd cc

only-bool : (s : Sort) → Some s ≡ Some bool → bool ≡ s
only-bool s e = cc

pub keeps-formula : (t r : Term) → IsWellSorted t → sort_of t ≡ Some bool → Means r (sense t) → is_regular r ≡ true → Keeps t r
keeps-formula t r sorted has a regular =
    record {
      sorted = and_true (is_some (sort_of r)) (is_regular r) (ap is_some a.sort) regular;
      sort = a.sort ∙ sym has;
      value = λ m e s model env is. subst (λ u. same u m.sizes (val m t e) (val m r e) ≡ true) (only-bool s (sym is ∙ has)) (beq-same (is_true (val m t e)) (is_true (val m r e)) (sym (a.value m e)));
    }

-- ---- terms that are no formulas

pub truly : (s : Sort) → is_bool s ≡ true → s ≡ bool
truly bool e = refl
truly _ e = absurd cc

only-atom : (k : Kind) → is_logical k ≡ false → k ≡ atom
only-atom atom e = refl
only-atom _ e = absurd cc

pub plain-kind : (h : Head) (ts : Terms) (s : Sort) → sort_of (apply h ts) ≡ Some s → is_bool s ≡ false → kind_of h ts ≡ atom
plain-kind h ts s has other = go (is_logical (kind_of h ts)) refl
  where
    go : (b : Bool) → is_logical (kind_of h ts) ≡ b → kind_of h ts ≡ atom
    go true e = let never : is_bool s ≡ true = ap is_bool (connected h ts s has e).sort in absurd cc
    go false e = only-atom (kind_of h ts) e

pub never-bool : (s : Sort) → s ≡ bool → is_bool s ≡ false → ⊥
never-bool s e other = let yes : is_bool s ≡ true = ap is_bool e in absurd cc

pub nnf-plain : (t : Term) (s : Sort) → sort_of t ≡ Some s → is_bool s ≡ false → nnf t ≡ t
nnf-plain (apply h ts) s has other = ap (λ k. positive k (apply h ts) (nnf_each ts) (nnf_not_each ts)) (plain-kind h ts s has other)
nnf-plain (quantified q xs body) s has other = absurd (never-bool s (quantified_sort q xs body s has).sort other)

pub aig-plain : (t : Term) (s : Sort) → sort_of t ≡ Some s → is_bool s ≡ false → aig t ≡ t
aig-plain (apply h ts) s has other = ap (λ k. inverted k (apply h ts) (aig_each ts)) (plain-kind h ts s has other)
aig-plain (quantified q xs body) s has other = absurd (never-bool s (quantified_sort q xs body s has).sort other)

pub by-sort : (t : Term) (r : Term) → IsWellSorted t → (sort_of t ≡ Some bool → Keeps t r) → ((s : Sort) → sort_of t ≡ Some s → is_bool s ≡ false → r ≡ t) → Keeps t r
by-sort t r sorted formula other =
    let found = the_sort (sort_of t) (both_true (is_some (sort_of t)) (is_regular t) sorted).0 in
    go found.0 found.1 (is_bool found.0) refl
  where
    go : (s : Sort) → sort_of t ≡ Some s → (b : Bool) → is_bool s ≡ b → Keeps t r
    go s has true e = formula (has ∙ ap Some (truly s e))
    go s has false e = subst (Keeps t) (sym (other s has e)) (keeps_itself t sorted)

-- ---- the law of a form that draws no names

pub keeps-all : (form : Term → Term) → ((t : Term) → sort_of t ≡ Some bool → Means (form t) (sense t)) → ((t : Term) → is_regular t ≡ true → is_regular (form t) ≡ true) → ((t : Term) (s : Sort) → sort_of t ≡ Some s → is_bool s ≡ false → form t ≡ t) → KeepsValues form
keeps-all form means regular plain t sorted =
    by-sort t (form t) sorted (λ has. keeps-formula t (form t) sorted has (means t has) (regular t (both_true (is_some (sort_of t)) (is_regular t) sorted).1)) (plain t)

pub rewrites-from : (t r : Term) (s : Sort) → sort_of t ≡ Some s → Keeps t r → ((g : Symbol) → is_among (free r) g ≡ true → is_among (free t) g ≡ true) → (Clear t → Clear r) → Rewrites t r
rewrites-from t r s has keeps symbols clear = record { keeps = keeps; symbols = symbols; clear = stays-clear t r s has symbols clear }

pub sort-known : (t : Term) → IsWellSorted t → (s : Sort) × (sort_of t ≡ Some s)
sort-known t sorted = the_sort (sort_of t) (both_true (is_some (sort_of t)) (is_regular t) sorted).0

pub rewrites-as : (form : Term → Term) → KeepsValues form → ((t : Term) (s : Sort) → sort_of t ≡ Some s → Inside t (form t)) → RewritesAs form
rewrites-as form keeps within t sorted =
    let found = sort-known t sorted in
    let inside : Inside t (form t) = within t found.0 found.1 in
    record { rewrites = rewrites-from t (form t) found.0 found.1 (keeps t sorted) inside.symbols inside.clear; names = inside.names }
