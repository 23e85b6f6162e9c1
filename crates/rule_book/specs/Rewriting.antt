-- What a book may make of a term (SMT-LIB 2.6, section 3.6, for the terms): from below, once, a template that may take a view's
-- place takes the place of the term that is viewed, made over its rewritten subterms.
use Rattle.std.specs.Prelude.{◌≡◌, ◌⊎◌, List, slice_get, Some, IsTrue}
use Rattle.smt_terms.specs.Sorts.{Name}
use Rattle.smt_terms.specs.Term.{Term, apply, quantified, Terms, none, ◌⨾◌}
use Rattle.smt_terms.specs.Made.{made}
use Rattle.smt_terms.specs.Keeps.{Keeps}
use Rattle.smt_terms.specs.Rank.{IsWellSorted}
use Rattle.rule_book.specs.View.{TermView, view_of, view_holes}
use Rattle.rule_book.specs.Template.{Template, filled}
use Rattle.rule_book.specs.Soundness.{MayReplace}
use Rattle.rule_book.specs.EightRules.{all_eight}
use Rattle.rule_book.specs.Ruled.{rewritten, ruled}

-- u is such a template over the terms of the view's holes
pub record Fills (t u : Term) : Type 0 where
  pub view : TermView
  pub template : Template
  pub viewed : view_of t ≡ Some view
  pub sound : MayReplace view template
  pub filled : filled (slice_get (view_holes t)) template ≡ Some u

-- what a book with rules of these names may put in the place of a term, its subterms being rewritten
pub record Replaces (ns : List Name) (t u : Term) : Type 0 where
  pub replaced : (u ≡ t) ⊎ Fills t u
  pub told : IsTrue (all_eight ns) → u ≡ rewritten ns t

abbrev mutual
  pub Rewrites : List Name → Term → Term → Type 0
  Rewrites ns (apply h ts) u = (us : Terms) × RewritesEach ns ts us × Replaces ns (made h us) u
  Rewrites ns (quantified q xs t) u = (b : Term) × Rewrites ns t b × (u ≡ quantified q xs b)

  pub RewritesEach : List Name → Terms → Terms → Type 0
  RewritesEach ns none us = us ≡ none
  RewritesEach ns (t ⨾ ts) us = (v : Term) × ((vs : Terms) × ((us ≡ v ⨾ vs) × (Rewrites ns t v × RewritesEach ns ts vs)))

-- ---- the laws

-- a rewritten term keeps its value
abbrev pub RewritingKeepsValues : Type 0
RewritingKeepsValues = (ns : List Name) (t u : Term) → IsWellSorted t → Rewrites ns t u → Keeps t u

-- by rules of the eight alone it is the one term that they give
abbrev pub EightRewriteSo : Type 0
EightRewriteSo = (ns : List Name) (t u : Term) → IsTrue (all_eight ns) → Rewrites ns t u → u ≡ ruled ns t
