-- What a list of passes with stored rules may make of a script. Stored rules draw no name. Where all of them are among the
-- eight that this repository names, they make the one term that the eight give; another book may make any term that keeps
-- the assertion's value and brings nothing new.
use Rattle.std.specs.Prelude.{◌≡◌, Bool, true, false, List, [], ◌∷◌, IsTrue}
use Rattle.smt_terms.specs.Sorts.{Name, Symbol}
use Rattle.smt_terms.specs.Term.{Term}
use Rattle.smt_terms.specs.Free.{free, is_among}
use Rattle.smt_terms.specs.Fresh.{Supply}
use Rattle.smt_terms.specs.Keeps.{Keeps}
use Rattle.rule_book.specs.EightRules.{all_eight}
use Rattle.rule_book.specs.Ruled.{ruled}
use Rattle.script_read.specs.Commands.{Command, assert}
use Rattle.script_read.specs.Printable.{sort_is_live, all_within}
use Rattle.pass_laws.specs.declared.names.Pass.{Pass}
use Rattle.pass_laws.specs.declared.names.Pass.TheVariants.{Rules}
use Rattle.pass_laws.specs.Passed.{apply_pass}

-- a term u that may take the place of an assertion t: it is well sorted and has t's value in every model, its free symbols
-- are among t's, and declared sorts and quantified names that suffice for t suffice for u
pub record IsRewriting (t u : Term) : Type 0 where
  pub keeps : Keeps t u
  pub symbols : (f : Symbol) → IsTrue (is_among (free u) f) → IsTrue (is_among (free t) f)
  pub names : (sorts : List Name) (is_name : Name → Bool) → IsTrue (all_within (sort_is_live sorts) is_name t) → IsTrue (all_within (sort_is_live sorts) is_name u)

abbrev pub MadeBy : Bool → List Name → Term → Term → Type 0
MadeBy true rules t u = u ≡ ruled rules t
MadeBy false rules t u = IsRewriting t u

-- what the rules of these names may make of a command
abbrev pub MayBecome : List Name → Command Term → Command Term → Type 0
MayBecome rules (assert i t) d = (u : Term) × (d ≡ assert i u) × MadeBy (all_eight rules) rules t u
MayBecome rules c d = d ≡ c

abbrev pub EachMayBecome : List Name → List (Command Term) → List (Command Term) → Type 0
EachMayBecome rules [] [] = Unit {0}
EachMayBecome rules (c ∷ cs) (d ∷ ds) = MayBecome rules c d × EachMayBecome rules cs ds
EachMayBecome rules _ _ = ⊥

-- the passes may make the last commands of the first, with the rules of these names, and leave these names to draw
abbrev pub LeadsTo : List Pass → List (Command Term) → Supply → List Name → List (Command Term) → Supply → Type 0
LeadsTo [] cs s rules ds r = (ds ≡ cs) × (r ≡ s)
LeadsTo (Rules ∷ ps) cs s rules ds r = (es : List (Command Term)) × (EachMayBecome rules cs es × LeadsTo ps es s rules ds r)
LeadsTo (p ∷ ps) cs s rules ds r = LeadsTo ps (apply_pass p cs s).0 (apply_pass p cs s).1 rules ds r

abbrev pub Leads : List Pass → List (Command Term) → Supply → List Name → List (Command Term) → Type 0
Leads ps cs s rules ds = (r : Supply) × LeadsTo ps cs s rules ds r
