-- Both forms of a formula are in negation normal form, and regular where the formula is.
use Rattle.std.proofs.Common.{◌≡◌, true, false, not, ◌&&◌, List, [], ◌∷◌, refl, ap}
use Rattle.std.specs.Prelude.{⊤}
use Rattle.std.specs.List.{list_all}
use Rattle.smt_terms.specs.declared.op.Op.{Op}
use Rattle.smt_terms.specs.declared.op.Op.TheVariants.{And, Or, Not, Truth}
use Rattle.smt_terms.specs.Term.{op, Term, apply, Terms, none, ◌⨾◌, list, terms}
use Rattle.smt_terms.specs.Rank.{is_sort, has_sorts, is_minus, is_whole, is_minus_of, is_regular, are_regular}
use Rattle.smt_terms.specs.Connectives.{operator_kind}
use Rattle.smt_terms.specs.Shapes.{is_atom_kind, nnf_node, is_nnf, are_nnf}
use Rattle.smt_terms.proofs.Tests.{both_true, and_true}
use Rattle.normal_forms.specs.Nnf.{nnf}
use Rattle.normal_forms.proofs.Inherited.{All, AllOf, Inherits, both-forms}

-- ---- the shape

abbrev InForm : Term → Type 0
InForm t = is_nnf t ≡ true

abbrev Anything : Term → Type 0
Anything t = ⊤

all-in-form : (ts : List Term) → All InForm ts → are_nnf (terms ts) ≡ true
all-in-form [] all = refl
all-in-form (t ∷ ts) all = and_true (is_nnf t) (are_nnf (terms ts)) all.0 (all-in-form ts all.1)

all-anything : (ts : Terms) → AllOf Anything ts
all-anything none = tt
all-anything (t ⨾ ts) = (tt, all-anything ts)

shape : Inherits InForm Anything
unfolding operator_kind
shape = record {
  truths = λ b. refl;
  and = λ s t a b. and_true (is_nnf s) (is_nnf t && true) a (and_true (is_nnf t) true b refl);
  or = λ s t a b. and_true (is_nnf s) (is_nnf t && true) a (and_true (is_nnf t) true b refl);
  all = all-in-form;
  any = all-in-form;
  bound = λ q p xs body b given a. a;
  value = λ h ts b e given. ap (λ k. nnf_node k (list ts) (are_nnf ts)) e;
  plain = λ h ts e given. ap (λ k. nnf_node k (list ts) (are_nnf ts)) e;
  denied = λ h ts e given. ap is_atom_kind e;
  inside = λ h ts given. all-anything ts;
  body = λ q xs t given. tt;
}

pub nnf-shape : (t : Term) → is_nnf (nnf t) ≡ true
nnf-shape t = (both-forms InForm Anything shape t tt).0

-- ---- regular terms

abbrev Regular : Term → Type 0
Regular t = is_regular t ≡ true

all-regular : (ts : List Term) → All Regular ts → are_regular (terms ts) ≡ true
all-regular [] all = refl
all-regular (t ∷ ts) all = and_true (is_regular t) (are_regular (terms ts)) all.0 (all-regular ts all.1)

each-regular : (ts : Terms) → are_regular ts ≡ true → AllOf Regular ts
each-regular none all = tt
each-regular (t ⨾ ts) all = let parts = both_true (is_regular t) (are_regular ts) all in (parts.0, each-regular ts parts.1)

-- an operator that is no unary minus
pub no-minus : (p : Op) (ts : Terms) → is_minus p ≡ false → is_minus_of (op p) ts ≡ false
unfolding is_minus_of
no-minus p none e = refl
no-minus p (apply (op o) none ⨾ none) e = ap (λ b. b && is_whole o) e
no-minus p ts e = refl

pub regular-over : (p : Op) (ts : Terms) → is_minus p ≡ false → are_regular ts ≡ true → is_regular (apply (op p) ts) ≡ true
regular-over p ts e all = and_true (not (is_minus_of (op p) ts)) (are_regular ts) (ap not (no-minus p ts e)) all

regular : Inherits Regular Regular
unfolding is_minus
regular = record {
  truths = λ b. regular-over (Truth b) none refl refl;
  and = λ s t a b. regular-over And (s ⨾ t ⨾ none) refl (all-regular (s ∷ t ∷ []) (a, (b, tt)));
  or = λ s t a b. regular-over Or (s ⨾ t ⨾ none) refl (all-regular (s ∷ t ∷ []) (a, (b, tt)));
  all = λ ts a. regular-over And (terms ts) refl (all-regular ts a);
  any = λ ts a. regular-over Or (terms ts) refl (all-regular ts a);
  bound = λ q p xs body b given a. and_true (list_all (λ x. is_sort x.sort) xs) (is_regular b) (both_true (list_all (λ x. is_sort x.sort) xs) (is_regular body) given).0 a;
  value = λ h ts b e given. given;
  plain = λ h ts e given. given;
  denied = λ h ts e given. regular-over Not (apply h ts ⨾ none) refl (all-regular (apply h ts ∷ []) (given, tt));
  inside = λ h ts given. each-regular ts (both_true (not (is_minus_of h ts)) (are_regular ts) (both_true (has_sorts h) (not (is_minus_of h ts) && are_regular ts) given).1).1;
  body = λ q xs t given. (both_true (list_all (λ x. is_sort x.sort) xs) (is_regular t) given).1;
}

pub nnf-regular : (t : Term) → is_regular t ≡ true → is_regular (nnf t) ≡ true
nnf-regular t given = (both-forms Regular Regular regular t given).0
