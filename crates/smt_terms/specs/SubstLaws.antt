-- What substitution does to values: the law speaks of the environment in which each replaced constant has the value of its
-- image. SMT-LIB 2.6, section 5.3.
use Rattle.std.specs.Prelude.{◌≡◌, Bool, true, List, [], ◌++◌, map, Option, Some, None}
use Rattle.smt_terms.specs.Sorts.{Name, Sort, Symbol}
use Rattle.smt_terms.specs.Term.{Term, apply, quantified, Terms, none, ◌⨾◌, constant}
use Rattle.smt_terms.specs.Free.{is_among, name_among, names_of, head_symbols, free}
use Rattle.smt_terms.specs.Rank.{sort_of, sorts_of}
use Rattle.smt_terms.specs.Shapes.{is_clear_below, is_clear}
use Rattle.smt_terms.specs.Values.{Value}
use Rattle.smt_terms.specs.Models.{Model}
use Rattle.smt_terms.specs.Val.{Env, val, vals}
use Rattle.smt_terms.specs.Fresh.{Supply, NeverGives}
use Rattle.smt_terms.specs.Subst.{Map, image, subst}

abbrev pub value_or : Model → Option Term → Env → Symbol → Option Value
value_or m None e f = e f
value_or m (Some u) e f = Some (val m u e)

-- the environment with the values of the images
abbrev pub under : Model → Map → Env → Env
under m f e g = value_or m (image f g) e g

-- each image has the sort of what it stands for
abbrev pub HaveSorts : Map → Type 0
HaveSorts f = (g : Symbol) (u : Term) → image f g ≡ Some u → sort_of u ≡ sort_of (constant g)

-- all names in a term, bound ones too
abbrev mutual
  pub names_within : Term → List Name
  names_within (apply h ts) = names_of (head_symbols h) ++ names_within_each ts
  names_within (quantified q xs body) = map (λ x. x.name) xs ++ names_within body

  pub names_within_each : Terms → List Name
  names_within_each none = []
  names_within_each (t ⨾ ts) = names_within t ++ names_within_each ts

-- the supply gives none of these names
abbrev pub GivesNone : Supply → List Name → Type 0
GivesNone s ns = (n : Name) → name_among ns n ≡ true → NeverGives s n

-- nor any name that is free in an image
abbrev pub GivesNoImage : Supply → Map → Type 0
GivesNoImage s f = (g : Symbol) (u : Term) → image f g ≡ Some u → GivesNone s (names_of (free u))

-- r is what the map makes of a well-sorted t: a term of its sort, with the value that t has under the map
abbrev pub IsResult : Map → Term → Term → Type 0
IsResult f t r = (s : Sort) → sort_of t ≡ Some s → (sort_of r ≡ Some s) × ((m : Model) (e : Env) → val m r e ≡ val m t (under m f e))

abbrev pub AreResults : Map → Terms → Terms → Type 0
AreResults f ts us = (ss : List Sort) → sorts_of ts ≡ Some ss → (sorts_of us ≡ Some ss) × ((m : Model) (e : Env) → vals m us e ≡ vals m ts (under m f e))

-- ---- the law

-- what the first supply never gives, the second never gives
abbrev pub Later : Supply → Supply → Type 0
Later s t = (n : Name) → NeverGives s n → NeverGives t n

-- where the supply gives no name of the term and none that is free in an image, substitution of terms of the right sorts
-- gives a term of the same sort, whose value is that of the term under the map
abbrev pub SubstKeepsMeaning : Type 0
SubstKeepsMeaning = (f : Map) (t : Term) (s : Supply) → HaveSorts f → GivesNoImage s f → GivesNone s (names_within t) → IsResult f t (subst f t s).0

abbrev pub SubstGivesLater : Type 0
SubstGivesLater = (f : Map) (t : Term) (s : Supply) → HaveSorts f → GivesNoImage s f → GivesNone s (names_within t) → Later s (subst f t s).1

-- the supply gives no name that stands in an image, bound ones too
abbrev pub GivesNoNameIn : Supply → Map → Type 0
GivesNoNameIn s f = (g : Symbol) (u : Term) → image f g ≡ Some u → GivesNone s (names_within u)

-- what is left of the supply gives no name of the result
abbrev pub SubstSparesNames : Type 0
SubstSparesNames = (f : Map) (t : Term) (s : Supply) → GivesNone s (names_within t) → GivesNoNameIn s f → GivesNone (subst f t s).1 (names_within (subst f t s).0)

-- what a map replaces are constants
abbrev pub ReplacesConstants : Map → Type 0
ReplacesConstants f = (g : Symbol) (u : Term) → image f g ≡ Some u → g.args ≡ []

-- a symbol that is free after the replacements in a term with these free symbols: it was free there and isn't replaced,
-- or it is free in the image of one that was
pub data LeftFree (f : Map) (fs : List Symbol) (g : Symbol) : Type 0 where
  stays : is_among fs g ≡ true → image f g ≡ None → LeftFree f fs g
  comes : (h : Symbol) (u : Term) → is_among fs h ≡ true → image f h ≡ Some u → is_among (free u) g ≡ true → LeftFree f fs g

abbrev pub SubstLeavesFree : Type 0
SubstLeavesFree = (f : Map) (t : Term) (s : Supply) (r : Sort) → sort_of t ≡ Some r → ReplacesConstants f → (g : Symbol) → is_among (free (subst f t s).0) g ≡ true → LeftFree f (free t) g

-- each image passes the test
abbrev pub ImagesPass : (Term → Bool) → Map → Type 0
ImagesPass test f = (g : Symbol) (u : Term) → image f g ≡ Some u → test u ≡ true

-- where no quantifier of the term or of an image hides a symbol by binding its name, none of the result does
abbrev pub SubstHidesNothing : Type 0
SubstHidesNothing = (f : Map) (t : Term) (s : Supply) (r : Sort) → sort_of t ≡ Some r → ReplacesConstants f → GivesNoImage s f → GivesNone s (names_within t) → is_clear_below [] t ≡ true → ImagesPass (is_clear_below []) f → is_clear_below [] (subst f t s).0 ≡ true

-- no two symbols that can be left free have one name
abbrev pub LeftApart : Map → Term → Type 0
LeftApart f t = (g h : Symbol) → LeftFree f (free t) g → LeftFree f (free t) h → g.name ≡ h.name → g ≡ h

-- where the term and the images are clear and the symbols that can be left free have different names, the result is clear.
-- Without that premise it needn't be: `(and p r)` with `(= q 0)` for r, where q is an Int that is named p too, has two free
-- symbols of one name
abbrev pub SubstKeepsClear : Type 0
SubstKeepsClear = (f : Map) (t : Term) (s : Supply) (r : Sort) → sort_of t ≡ Some r → ReplacesConstants f → GivesNoImage s f → GivesNone s (names_within t) → is_clear t ≡ true → ImagesPass is_clear f → LeftApart f t → is_clear (subst f t s).0 ≡ true
