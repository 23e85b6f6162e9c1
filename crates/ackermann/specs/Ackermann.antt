-- Removal of applications of symbols with arguments (SMT-LIB 2.6, sections 4.1.4 and 5.3: a function gives equal results
-- at equal arguments). Each distinct application that has no constant on an open level gets one on the present level, in
-- post-order of first occurrence, operands from left to right. For each new one and each earlier live one of the same
-- symbol, in the order drawn, comes what equal arguments say of the two constants; last comes the assertion, all with the
-- constants in place.
use Rattle.std.specs.Prelude.{ℕ, Bool, false, not, ◌||◌, List, [], ◌∷◌, ◌++◌, filter, flat_map, drop, replicate, is_none}
use Rattle.smt_terms.specs.Sorts.{Symbol}
use Rattle.smt_terms.specs.Term.{symbol, Term, apply, quantified, Terms, none, ◌⨾◌, constant}
use Rattle.smt_terms.specs.Equal.{symbol_eq}
use Rattle.smt_terms.specs.Fresh.{Supply}
use Rattle.smt_terms.specs.Connectives.{all_of, implies, equal}
use Rattle.smt_terms.specs.Groups.{Named, Group, Drawn, draw_each, with_new, constant_for, with_constants, where_so}
use Rattle.smt_terms.specs.Shapes.{is_application, no_application}

abbrev mutual
  pub applications : Term → List Term
  applications (apply h ts) = with_new (applications_of ts) (where_so (is_application h ts) (apply h ts ∷ []))
  applications (quantified q xs body) = []

  pub applications_of : Terms → List Term
  applications_of none = []
  applications_of (t ⨾ ts) = with_new (applications t) (applications_of ts)

-- an application stands below a quantifier: such an assertion is refused
abbrev mutual
  pub has_quantified_use : Term → Bool
  has_quantified_use (apply h ts) = have_quantified_use ts
  has_quantified_use (quantified q xs body) = not (no_application body)

  pub have_quantified_use : Terms → Bool
  have_quantified_use none = false
  have_quantified_use (t ⨾ ts) = has_quantified_use t || have_quantified_use ts

-- ---- levels: the live applications with their constants, the innermost level first, and on each level in the order drawn

abbrev pub Levels : Type 0
Levels = List Named

abbrev pub one_level : Levels
one_level = [] ∷ []

abbrev pub pushed : ℕ → Levels → Levels
pushed n ls = replicate n [] ++ ls

abbrev pub popped : ℕ → Levels → Levels
popped n ls = drop n ls

-- all live applications in the order drawn
abbrev pub live : Levels → Named
live [] = []
live (l ∷ ls) = live ls ++ l

abbrev pub joined : Named → Levels → Levels
joined new [] = new ∷ []
joined new (l ∷ ls) = (l ++ new) ∷ ls

-- ---- the group

-- the equations of the operands of two applications, with the constants in place
abbrev pub equations : Named → Terms → Terms → List Term
equations ns (t ⨾ ts) (s ⨾ ss) = equal (with_constants ns t) (with_constants ns s) ∷ equations ns ts ss
equations ns _ _ = []

abbrev pub all_equal : List Term → Term
all_equal (e ∷ []) = e
all_equal es = all_of es

-- what equal arguments say of the constant u of an earlier application and the constant v of a new one
abbrev pub pair : Named → Symbol → Term → Symbol → Term → List Term
pair ns u (apply (symbol f) ts) v (apply (symbol g) ss) =
    where_so (symbol_eq f g) (implies (all_equal (equations ns ts ss)) (equal (constant u) (constant v)) ∷ [])
pair ns u _ v _ = []

-- for each new one, after those that come before it
abbrev pub pairs : Named → Named → Named → List Term
pairs ns earlier [] = []
pairs ns earlier (n ∷ new) = flat_map (λ e. pair ns e.0 e.1 n.0 n.1) earlier ++ pairs ns (earlier ++ n ∷ []) new

-- the group of an assertion, the levels after it, and the names that are left
pub record Acked : Type 0 where
  pub group : Group
  pub levels : Levels
  pub names : Supply

abbrev pub without_constant : Named → List Term → List Term
without_constant ns ts = filter (λ t. is_none (constant_for ns t)) ts

abbrev pub ack : Term → Levels → Supply → Acked
ack t ls s =
    let d : Drawn = draw_each (without_constant (live ls) (applications t)) s in
    let ns : Named = live ls ++ d.symbols in
    record {
      group = record { symbols = d.symbols; asserts = pairs ns (live ls) d.symbols ++ with_constants ns t ∷ [] };
      levels = joined d.symbols ls;
      names = d.names;
    }

-- ---- over the steps of a script

pub data Step : Type 0 where
  push : ℕ → Step
  pop : ℕ → Step
  reset : Step
  assert : Term → Step

-- the groups of its assertions
abbrev pub groups : List Step → Levels → Supply → List Group
groups [] ls s = []
groups (push n ∷ steps) ls s = groups steps (pushed n ls) s
groups (pop n ∷ steps) ls s = groups steps (popped n ls) s
groups (reset ∷ steps) ls s = groups steps one_level s
groups (assert t ∷ steps) ls s = let a : Acked = ack t ls s in a.group ∷ groups steps a.levels a.names
