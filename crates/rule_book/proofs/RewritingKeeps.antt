-- A template that may take a view's place keeps the value of the term that is viewed.
use Rattle.std.proofs.Common.{◌≡◌, true, slice_get, Option, Some, IfSome, IsTrue, sym, ◌∙◌, subst}
use Rattle.smt_terms.specs.Term.{Term}
use Rattle.smt_terms.specs.Rank.{IsWellSorted}
use Rattle.smt_terms.specs.Values.{same}
use Rattle.smt_terms.specs.Models.{Model, background, IsModel}
use Rattle.smt_terms.specs.Val.{Env, val}
use Rattle.smt_terms.specs.Laws.{IsEnv}
use Rattle.smt_terms.specs.Keeps.{Keeps}
use Rattle.smt_terms.proofs.Same.{same-back}
use Rattle.smt_terms.proofs.StoredTerms.{fine_term, keeps}
use Rattle.rule_book.specs.View.{view_holes}
use Rattle.rule_book.specs.Template.{Denoted, template_sort, template_value}
use Rattle.rule_book.specs.Soundness.{hole_sort, view_value, denoted_hole}
use Rattle.rule_book.specs.RuleLaws.{sorts_of_terms, values_at, HolesHaveSorts, HolesAreSorted, ViewHasSort, ViewsHaveValues, IsFilled}
use Rattle.rule_book.specs.Rewriting.{Fills}
use Rattle.rule_book.proofs.TemplateLaws.{templates-are-filled}

module _ (holes-have-sorts : HolesHaveSorts) (holes-are-sorted : HolesAreSorted) (view-has-sort : ViewHasSort) (views-have-values : ViewsHaveValues) where
  module _ (t u : Term) (fine : IsWellSorted t) (f : Fills t u) where
    hole_sorts : hole_sort f.view.cells ≡ slice_get (sorts_of_terms (view_holes t))
    hole_sorts = λ x i. holes-have-sorts t f.view f.viewed i x

    filling : IsFilled (view_holes t) f.template f.view.sort
    filling = templates-are-filled (view_holes t) f.template f.view.sort (holes-are-sorted t fine) f.sound.operators
        (subst (λ ss. template_sort ss f.template ≡ Some f.view.sort) hole_sorts f.sound.sort)

    same_value : (m : Model) (e : Env) → IsModel m → IsEnv m.sizes e → same f.view.sort m.sizes (val m t e) (val m filling.term e) ≡ true
    same_value m e model env =
        let viewed = views-have-values t f.view m e fine f.viewed model env in
        let holes = values_at m e (view_holes t) in
        let seen = view_value (background m) holes f.view in
        let alike = λ (d : Option Denoted). IfSome d (λ v. IsTrue (same f.view.sort m.sizes v.value seen)) in
        let given = subst (λ ss. alike (template_value (background m) (λ i. denoted_hole holes i (ss i)) f.template)) hole_sorts (f.sound.value (background m) holes model.sizes viewed.holes) in
        same-back f.view.sort m.sizes (val m filling.term e) (val m t e)
        (subst (λ v. same f.view.sort m.sizes (val m filling.term e) v ≡ true) viewed.value
        (subst alike (filling.value m e model env) given))

    keeps-filling : Keeps t filling.term
    keeps-filling = keeps t filling.term f.view.sort (view-has-sort t f.view fine f.viewed) filling.sort (fine_term filling.term filling.sorted).rules same_value

    pub fills-keeps : Keeps t u
    fills-keeps =
        let some : Some filling.term ≡ Some u = sym filling.filled ∙ f.filled in
        let one : filling.term ≡ u = cc in
        subst (λ w. Keeps t w) one keeps-filling
