-- Statements of the laws of the normal forms: what holds of a term's form, whichever form it is.
use Rattle.std.specs.Prelude.{IsTrue}
use Rattle.smt_terms.specs.Sorts.{Name, Symbol}
use Rattle.smt_terms.specs.Term.{Term}
use Rattle.smt_terms.specs.Free.{is_among, name_among, free}
use Rattle.smt_terms.specs.Fresh.{Supply}
use Rattle.smt_terms.specs.Rank.{IsWellSorted}
use Rattle.smt_terms.specs.Keeps.{Keeps}
use Rattle.smt_terms.specs.Shapes.{is_clear}
use Rattle.smt_terms.specs.SubstLaws.{names_within, GivesNone, Later}

-- r is well sorted and has t's sort and t's value in every model; what is free in r is free in t; r is clear where t is
pub record Rewrites (t r : Term) : Type 0 where
  pub keeps : Keeps t r
  pub symbols : (g : Symbol) → IsTrue (is_among (free r) g) → IsTrue (is_among (free t) g)
  pub clear : IsTrue (is_clear t) → IsTrue (is_clear r)

-- every name in r stands in t too
pub record RewritesAlone (t r : Term) : Type 0 where
  pub rewrites : Rewrites t r
  pub names : (n : Name) → IsTrue (name_among (names_within r) n) → IsTrue (name_among (names_within t) n)

-- a form that draws no names
abbrev pub RewritesAs : (Term → Term) → Type 0
RewritesAs form = (t : Term) → IsWellSorted t → RewritesAlone t (form t)

-- of a term none of whose names the supply gives, with the supply that is left: that gives none of the result's names, and
-- none that the first one didn't give
pub record RewritesFresh (t r : Term) (before left : Supply) : Type 0 where
  pub rewrites : Rewrites t r
  pub later : Later before left
  pub names : GivesNone left (names_within r)

-- a form that draws names
abbrev pub RewritesWith : (Term → Supply → Term × Supply) → Type 0
RewritesWith form = (t : Term) (s : Supply) → IsWellSorted t → GivesNone s (names_within t) → RewritesFresh t (form t s).0 s (form t s).1
