-- What renaming leaves of a table, of a map and of the names.
use Rattle.std.specs.Prelude.{◌≡◌, Bool, true, false, List, ◌∷◌}
use Rattle.smt_terms.specs.declared.ids.NodeId.{NodeId}
use Rattle.smt_terms.specs.Sorts.{Variable}
use Rattle.smt_terms.specs.Term.{variable, constant_of}
use Rattle.smt_terms.specs.Fresh.{Supply, fresh_for, after_draw}
use Rattle.smt_terms.specs.Subst.{Map, names_in, Renamed, renaming}
use Rattle.term_table.specs.Formulas.{Formulas, tree, IsNode}
use Rattle.term_subst.specs.Maps.{Pairs, map_at}
use Rattle.term_subst.specs.State.{SameImages, AreVariables, variables_at}
use Rattle.term_subst.specs.Substituting.{IsMap}

-- ---- one variable, which is captured or not

abbrev pub variable_after : Bool → Variable → Supply → Variable
variable_after true x s = fresh_for x s
variable_after false x s = x

abbrev pub map_after : Bool → Variable → Map → Supply → Map
map_after true x m s = (constant_of x, variable (fresh_for x s)) ∷ m
map_after false x m s = m

abbrev pub names_after : Bool → Supply → Supply
names_after true s = after_draw s
names_after false s = s

-- k is bound in the place of x
pub record Binds (old new : Formulas) (captured : Bool) (x : Variable) (k : NodeId) (before after : Pairs) (s left : Supply) : Type 0 where
  pub node : IsNode new k
  pub term : tree new k ≡ variable (variable_after captured x s)
  pub map : IsMap new after
  pub images : (m : Map) → SameImages old before m → SameImages new after (map_after captured x m s)
  pub names : left ≡ names_after captured s

-- ---- all variables of a quantifier, where the names that are free in the images of the cut map are captured

abbrev pub renamed_under : Map → List Variable → Supply → Renamed
renamed_under cut xs s = renaming (names_in cut) xs cut s

pub record Renames (old new : Formulas) (cut : Pairs) (ks ys : List NodeId) (after : Pairs) (s left : Supply) : Type 0 where
  pub variables : AreVariables new ys
  pub renamed : variables_at new ys ≡ (renamed_under (map_at old cut) (variables_at old ks) s).variables
  pub map : IsMap new after
  pub images : SameImages new after (renamed_under (map_at old cut) (variables_at old ks) s).map
  pub names : left ≡ (renamed_under (map_at old cut) (variables_at old ks) s).names
