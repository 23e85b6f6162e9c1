-- Statements of the laws of views, templates and rules, on the way to that of rewriting: what a view's holes are, and what a
-- template over terms is.
use Rattle.std.specs.Prelude.{◌≡◌, ℕ, false, List, map, get_or, slice_get, Some, unwrap_or, All, IsTrue}
use Rattle.smt_terms.specs.declared.op.Op.TheVariants.{Truth}
use Rattle.smt_terms.specs.Sorts.{Sort, bool}
use Rattle.smt_terms.specs.Term.{op, Term, apply, none}
use Rattle.smt_terms.specs.Rank.{sort_of, IsWellSorted}
use Rattle.smt_terms.specs.Values.{Value}
use Rattle.smt_terms.specs.Models.{Model, background, IsModel}
use Rattle.smt_terms.specs.Val.{Env, val}
use Rattle.smt_terms.specs.Laws.{IsEnv}
use Rattle.rule_book.specs.View.{TermView, view_of, view_holes}
use Rattle.rule_book.specs.Template.{Template, applies_theory, filled, template_sort, template_value}
use Rattle.rule_book.specs.Soundness.{IsSound, AreHoleValues, hole_sort, view_value, denoted_hole}
use Rattle.rule_book.specs.EightRules.{mul_pow2, udiv_pow2, urem_pow2, absorb_and, absorb_or, sub_neg, ite_not, xor_not}

-- ---- the holes of a view

-- what stands at no number of a hole
abbrev pub no_term : Term
no_term = apply (op (Truth false)) none

abbrev pub sorts_of_terms : List Term → List Sort
sorts_of_terms ts = map (λ t. unwrap_or (sort_of t) bool) ts

abbrev pub values_at : Model → Env → List Term → ℕ → Value
values_at m e ts i = val m (get_or ts i no_term) e

-- the sort of a hole is that of its term
abbrev pub HolesHaveSorts : Type 0
HolesHaveSorts = (t : Term) (v : TermView) → view_of t ≡ Some v → (i : ℕ) → hole_sort v.cells i ≡ slice_get (sorts_of_terms (view_holes t)) i

-- the terms of holes are well sorted
abbrev pub HolesAreSorted : Type 0
HolesAreSorted = (t : Term) → IsWellSorted t → All IsWellSorted (view_holes t)

abbrev pub ViewHasSort : Type 0
ViewHasSort = (t : Term) (v : TermView) → IsWellSorted t → view_of t ≡ Some v → sort_of t ≡ Some v.sort

-- in a model, the values of the terms are values of the holes, and the view then has the value of the term
pub record HasViewValue (t : Term) (v : TermView) (m : Model) (e : Env) : Type 0 where
  pub holes : AreHoleValues (background m) (values_at m e (view_holes t)) v.cells
  pub value : view_value (background m) (values_at m e (view_holes t)) v ≡ val m t e

abbrev pub ViewsHaveValues : Type 0
ViewsHaveValues = (t : Term) (v : TermView) (m : Model) (e : Env) → IsWellSorted t → view_of t ≡ Some v → IsModel m → IsEnv m.sizes e → HasViewValue t v m e

-- ---- a template over terms

pub record IsFilled (hs : List Term) (p : Template) (s : Sort) : Type 0 where
  pub term : Term
  pub filled : filled (slice_get hs) p ≡ Some term
  pub sorted : IsWellSorted term
  pub sort : sort_of term ≡ Some s
  pub value : (m : Model) (e : Env) → IsModel m → IsEnv m.sizes e →
      template_value (background m) (λ i. denoted_hole (values_at m e hs) i (slice_get (sorts_of_terms hs) i)) p ≡ Some (record { sort = s; value = val m term e })

abbrev pub TemplatesAreFilled : Type 0
TemplatesAreFilled = (hs : List Term) (p : Template) (s : Sort) → All IsWellSorted hs → IsTrue (applies_theory p) →
    template_sort (slice_get (sorts_of_terms hs)) p ≡ Some s → IsFilled hs p s

-- ---- the eight are sound

abbrev pub MulPow2IsSound : Type 0
MulPow2IsSound = IsSound mul_pow2

abbrev pub UdivPow2IsSound : Type 0
UdivPow2IsSound = IsSound udiv_pow2

abbrev pub UremPow2IsSound : Type 0
UremPow2IsSound = IsSound urem_pow2

abbrev pub AbsorbAndIsSound : Type 0
AbsorbAndIsSound = IsSound absorb_and

abbrev pub AbsorbOrIsSound : Type 0
AbsorbOrIsSound = IsSound absorb_or

abbrev pub SubNegIsSound : Type 0
SubNegIsSound = IsSound sub_neg

abbrev pub IteNotIsSound : Type 0
IteNotIsSound = IsSound ite_not

abbrev pub XorNotIsSound : Type 0
XorNotIsSound = IsSound xor_not
