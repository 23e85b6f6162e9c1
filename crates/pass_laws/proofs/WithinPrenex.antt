-- Prenex form keeps the tests of sorts and quantified names, where drawn names pass.
use Rattle.std.proofs.Common.{◌≡◌, ℕ, zero, suc, Bool, true, false, ◌&&◌, List, [], ◌∷◌, map, Option, Some, None, refl}
use Rattle.std.specs.List.{list_all}
use Rattle.std.specs.Prelude.{⊤}
use Rattle.smt_terms.specs.Sorts.{Name, Sort, Variable}
use Rattle.smt_terms.specs.Term.{Head, Term, apply, quantified, Terms, none, ◌⨾◌, constant_of, variable}
use Rattle.smt_terms.specs.Equal.{term_eq}
use Rattle.smt_terms.specs.Free.{name_among}
use Rattle.smt_terms.specs.Fresh.{Supply, numbered_name, next_number, after_draw, fresh_for}
use Rattle.smt_terms.specs.Connectives.{Kind, conjunction, disjunction, kind_of}
use Rattle.smt_terms.proofs.Tests.{both_true, and_true}
use Rattle.normal_forms.specs.Nnf.{nnf}
use Rattle.normal_forms.specs.Prenex.{Quantified, whole, leftmost, through_or, by_if, replaced, replaced_each, quantifiers, pulled, prenex_turns, prenex}
use Rattle.smt_terms.specs.Subst.{Map, bind, renaming}
use Rattle.normal_forms.proofs.Drawn.{drawn, renamed_body}
use Rattle.normal_forms.proofs.Replaced.{leftmost-inherits}
use Rattle.normal_forms.proofs.Substituted.{ImagesHave, renamed-have}
use Rattle.script_read.specs.Printable.{head_sorts, all_within, all_within_each}
use Rattle.script_read.proofs.UsableTerms.{variable_fine, subst_fine}
use Rattle.pass_laws.proofs.WithinForms.{nnf-within}

module _ (sorts : Sort → Bool) (names : Name → Bool) (numbered : (i : ℕ) → names (numbered_name i) ≡ true) where
  abbrev within : Term → Bool
  within t = all_within sorts names t

  abbrev Within : Term → Type 0
  Within t = within t ≡ true

  abbrev passes : Variable → Bool
  passes x = sorts x.sort && names x.name

  -- ---- renamed variables

  renamed-pass : (c : List Name) (xs : List Variable) (f : Map) (s : Supply) → list_all passes xs ≡ true → list_all passes (renaming c xs f s).variables ≡ true
  renamed-pass c [] f s all = refl
  renamed-pass c (x ∷ xs) f s all =
      let parts = both_true (passes x) (list_all passes xs) all in
      go parts.0 (name_among c x.name) (λ g t. renamed-pass c xs g t parts.1)
    where
      go : passes x ≡ true → (b : Bool) → ((g : Map) (t : Supply) → list_all passes (renaming c xs g t).variables ≡ true) → list_all passes (bind b x f s (λ g t. renaming c xs g t)).variables ≡ true
      go here true below =
          let sort : sorts x.sort ≡ true = (both_true (sorts x.sort) (names x.name) here).0 in
          and_true (passes (fresh_for x s)) (list_all passes (renaming c xs ((constant_of x, variable (fresh_for x s)) ∷ f) (after_draw s)).variables)
          (and_true (sorts x.sort) (names (fresh_for x s).name) sort (numbered (next_number s))) (below ((constant_of x, variable (fresh_for x s)) ∷ f) (after_draw s))
      go here false below = and_true (passes x) (list_all passes (renaming c xs f s).variables) here (below f s)

  sorts-pass : (xs : List Variable) → list_all passes xs ≡ true → list_all (λ x. sorts x.sort) xs ≡ true
  sorts-pass [] all = refl
  sorts-pass (x ∷ xs) all =
      let parts = both_true (passes x) (list_all passes xs) all in
      and_true (sorts x.sort) (list_all (λ y. sorts y.sort) xs) (both_true (sorts x.sort) (names x.name) parts.0).0 (sorts-pass xs parts.1)

  -- ---- another formula in the place of the leftmost one

  through-within : (k : Kind) (h : Head) (ts us : Terms) → Within (apply h ts) → all_within_each sorts names us ≡ true → Within (through_or k h ts us)
  through-within conjunction h ts us given each = and_true (list_all sorts (head_sorts h)) (all_within_each sorts names us) (both_true (list_all sorts (head_sorts h)) (all_within_each sorts names ts) given).0 each
  through-within disjunction h ts us given each = and_true (list_all sorts (head_sorts h)) (all_within_each sorts names us) (both_true (list_all sorts (head_sorts h)) (all_within_each sorts names ts) given).0 each
  through-within _ h ts us given each = given

  by-within : (b : Bool) (by t : Term) → Within by → Within t → Within (by_if b by t)
  by-within true by t a c = a
  by-within false by t a c = c

  mutual
    replaced-within : (f by t : Term) → Within by → Within t → Within (replaced f by t)
    replaced-within f by (apply h ts) new given =
        through-within (kind_of h ts) h ts (replaced_each f by ts) given (replaceds-within f by ts new (both_true (list_all sorts (head_sorts h)) (all_within_each sorts names ts) given).1)
    replaced-within f by (quantified q xs body) new given = by-within (term_eq f (quantified q xs body)) by (quantified q xs body) new given

    replaceds-within : (f by : Term) (ts : Terms) → Within by → all_within_each sorts names ts ≡ true → all_within_each sorts names (replaced_each f by ts) ≡ true
    replaceds-within f by none new given = refl
    replaceds-within f by (t ⨾ ts) new given =
        let parts = both_true (within t) (all_within_each sorts names ts) given in
        and_true (within (replaced f by t)) (all_within_each sorts names (replaced_each f by ts)) (replaced-within f by t new parts.0) (replaceds-within f by ts new parts.1)

  -- ---- one turn

  no-images : ImagesHave (λ t. all_within sorts names t ≡ true) []
  no-images g u found = absurd cc

  body-within : (f : Quantified) (s : Supply) → Within (whole f) → Within (renamed_body f s).0
  body-within f s given =
      let parts = both_true (list_all passes f.variables) (within f.body) given in
      subst_fine sorts names numbered (drawn f s).map f.body (drawn f s).names parts.1
      (renamed-have Within sorts (variable_fine sorts names) (map (λ x. x.name) f.variables) f.variables [] s (sorts-pass f.variables parts.0) no-images)

  variables-within : (f : Quantified) (s : Supply) → Within (whole f) → list_all passes (drawn f s).variables ≡ true
  variables-within f s given = renamed-pass (map (λ x. x.name) f.variables) f.variables [] s (both_true (list_all passes f.variables) (within f.body) given).0

  abbrev AllOf : Terms → Type 0
  AllOf none = ⊤
  AllOf (t ⨾ ts) = Within t × AllOf ts

  turn-within : (t : Term) (s : Supply) (more : Term → Supply → Term × Supply) → Within t → ((u : Term) (v : Supply) → Within u → Within (more u v).0) → (o : Option Quantified) → ((f : Quantified) → o ≡ Some f → Within (whole f)) → Within (pulled o t s more).0
  turn-within t s more given below None found = given
  turn-within t s more given below (Some f) found =
      let here : Within (whole f) = found f refl in
      and_true (list_all passes (drawn f s).variables) (within (more (replaced (whole f) (renamed_body f s).0 t) (renamed_body f s).1).0) (variables-within f s here)
      (below (replaced (whole f) (renamed_body f s).0 t) (renamed_body f s).1 (replaced-within (whole f) (renamed_body f s).0 t (body-within f s here) given))

  turns-within : (k : ℕ) (t : Term) (s : Supply) → Within t → Within (prenex_turns k t s).0
  turns-within zero t s given = given
  turns-within (suc k) t s given =
      turn-within t s (λ u v. prenex_turns k u v) given (λ u v inner. turns-within k u v inner) (leftmost t)
      (λ f found. leftmost-inherits Within (λ h ts over. operands h ts over) t f found given)
    where
      each : (ts : Terms) → all_within_each sorts names ts ≡ true → AllOf ts
      each none all = tt
      each (t ⨾ ts) all = let parts = both_true (within t) (all_within_each sorts names ts) all in (parts.0, each ts parts.1)

      operands : (h : Head) (ts : Terms) → Within (apply h ts) → AllOf ts
      operands h ts over = each ts (both_true (list_all sorts (head_sorts h)) (all_within_each sorts names ts) over).1

  pub prenex-within : (t : Term) (s : Supply) → Within t → Within (prenex t s).0
  prenex-within t s given = turns-within (quantifiers (nnf t)) (nnf t) s (nnf-within sorts names t given)
