-- The derived `==` of the node operators says `true` exactly at equal operators. This file alone reads what the
-- derive wrote.
use Rattle.std.proofs.Common.{◌≡◌, Bool, true, false, List, [], ◌∷◌, inl, inr, ◌⊎◌, ◌++◌, ◌==◌, ◌&&◌, ℕ, zero, suc, replicate, refl, ap, sym, ◌∙◌}
use Rattle.std.specs.Bool.{Decides}
use Rattle.std.proofs.lemmas.Bool.Decides.{Decides-eqb, Decides-int_eq, Decides-like, Decides-and}
use Rattle.std.specs.Cmp.{booleans_Decides}
use Rattle.std.specs.Ordering.{int_eq}
use mathlib.Core.Bool.{beq}
use denote.Enum.Compared.{Each, by}
use denote.Enum.Declared.{Choice}
use denote.Struct.Field.{Field, bool-field, i128-field, u32-field, u128-field}
use denote.Struct.Values.{Values}
use Rattle.smt_terms.specs.declared.ids.SymId.{SymId}
use Rattle.smt_terms.specs.declared.ids.SortId.{SortId}
use Rattle.smt_terms.specs.declared.op.Op.{Op}
use Rattle.smt_terms.specs.contracts.ids.SymId.{the_field as sym_field}
use Rattle.smt_terms.specs.contracts.ids.SortId.{the_field as sort_field}
use Rattle.smt_terms.specs.contracts.op.Op.{the_parts, as_values, enum}
use Rattle.smt_terms.specs.contracts.op.OpPartialEq.TheImpl.{ghosts}

inl_same : {A B : Type 0} (a b : A) → ◌≡◌ {A = A ⊎ B} (inl a) (inl b) → a ≡ b
inl_same a b e = cc

inr_same : {A B : Type 0} (a b : B) → ◌≡◌ {A = A ⊎ B} (inr a) (inr b) → a ≡ b
inr_same a b e = cc

-- each test of a variant's fields tells whether they are equal
Tells : (parts : List (List Field)) → Each Bool parts → Type 0
Tells [] tests = Unit {0}
Tells (fs ∷ fss) tests = ((a b : Values fs) → Decides (tests.0 a b) (a ≡ b)) × Tells fss tests.1

by_decides : (parts : List (List Field)) (tests : Each Bool parts) → Tells parts tests → (x y : Choice parts) → Decides (by false false parts tests x y) (x ≡ y)
unfolding Tells
by_decides [] tests tells x y = absurd x
by_decides (fs ∷ fss) tests tells (inl a) (inl b) = (λ h. ap inl ((tells.0 a b).0 h), λ e. (tells.0 a b).1 (inl_same a b e))
by_decides (fs ∷ fss) tests tells (inl a) (inr y) = (λ h. absurd cc, λ e. absurd cc)
by_decides (fs ∷ fss) tests tells (inr x) (inl b) = (λ h. absurd cc, λ e. absurd cc)
by_decides (fs ∷ fss) tests tells (inr x) (inr y) =
    (λ h. ap inr ((by_decides fss tests.1 tells.1 x y).0 h), λ e. (by_decides fss tests.1 tells.1 x y).1 (inr_same x y e))

-- tests of the variants with their laws, variant by variant
record Told (parts : List (List Field)) : Type 0 where
  tests : Each Bool parts
  tells : Tells parts tests

no_more : Told []
unfolding Tells
no_more = record { tests = tt; tells = tt }

no_field : {fss : List (List Field)} → Told fss → Told ([] ∷ fss)
unfolding Tells
no_field t = record { tests = (λ a b. true, t.tests); tells = (λ a b. (λ h. refl, λ e. refl), t.tells) }

one_field : (f : Field) {fss : List (List Field)} (test : f.Value → f.Value → Bool) → ((a b : f.Value) → Decides (test a b) (a ≡ b)) → Told fss → Told ((f ∷ []) ∷ fss)
unfolding Tells
one_field f test told t =
    record {
      tests = (λ a b. test a.0 b.0, t.tests);
      tells = (λ a b. (λ h. λ i. ((told a.0 b.0).0 h i, tt), λ e. (told a.0 b.0).1 (λ i. (e i).0)), t.tells);
    }

two_fields : (f g : Field) {fss : List (List Field)} (test : f.Value → f.Value → Bool) → ((a b : f.Value) → Decides (test a b) (a ≡ b)) → (other : g.Value → g.Value → Bool) → ((a b : g.Value) → Decides (other a b) (a ≡ b)) → Told fss → Told ((f ∷ g ∷ []) ∷ fss)
unfolding Tells
two_fields f g test told other told' t =
    record {
      tests = (λ a b. test a.0 b.0 && other a.1.0 b.1.0, t.tests);
      tells = (λ a b. Decides-like (test a.0 b.0 && other a.1.0 b.1.0) (λ e. λ i. (e.0 i, (e.1 i, tt))) (λ e. (λ i. (e i).0, λ i. (e i).1.0)) (Decides-and (test a.0 b.0) (other a.1.0 b.1.0) (told a.0 b.0) (told' a.1.0 b.1.0)), t.tells);
    }

no_fields : (k : ℕ) {fss : List (List Field)} → Told fss → Told (replicate k [] ++ fss)
no_fields zero t = t
no_fields (suc k) t = no_field (no_fields k t)

symbols_told : (a b : SymId) → Decides (a.0 == b.0) (a ≡ b)
symbols_told a b = Decides-like (a.0 == b.0) (λ e. λ i. record { 0 = e i }) (λ e. ap (λ c. c.0) e) (Decides-eqb a.0 b.0)

sorts_told : (a b : SortId) → Decides (a.0 == b.0) (a ≡ b)
sorts_told a b = Decides-like (a.0 == b.0) (λ e. λ i. record { 0 = e i }) (λ e. ap (λ c. c.0) e) (Decides-eqb a.0 b.0)

told : Told the_parts
told =
    one_field bool-field beq booleans_Decides
    (one_field i128-field int_eq Decides-int_eq
    (two_fields u32-field u128-field ◌==◌ Decides-eqb ◌==◌ Decides-eqb
    (one_field sym_field (λ a b. a.0 == b.0) symbols_told
    (no_fields 2
    (one_field sort_field (λ a b. a.0 == b.0) sorts_told
    (no_fields 18
    (two_fields u32-field u32-field ◌==◌ Decides-eqb ◌==◌ Decides-eqb
    (no_fields 21
    (one_field u32-field ◌==◌ Decides-eqb
    (one_field u32-field ◌==◌ Decides-eqb
    (one_field u32-field ◌==◌ Decides-eqb
    (one_field u32-field ◌==◌ Decides-eqb
    (no_fields 2 no_more)))))))))))))

pub Decides-derived : (p q : Op) → Decides (ghosts.eq p q) (p ≡ q)
unfolding Tells no_more no_field one_field two_fields no_fields told
Decides-derived p q = Decides-like (ghosts.eq p q) (λ e. sym (enum.eta p) ∙ ap enum.make e ∙ enum.eta q) (ap as_values) (by_decides the_parts told.tests told.tells (as_values p) (as_values q))
