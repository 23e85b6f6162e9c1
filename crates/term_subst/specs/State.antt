-- The state of a substitution over a table, and what it leads to.
use Rattle.std.specs.Prelude.{Vec, ◌≡◌, true, false, List, [], ◌∷◌, map, All, Some}
use Rattle.std.specs.Global.{Global}
use Rattle.smt_terms.specs.declared.ids.NodeId.{NodeId}
use Rattle.smt_terms.specs.declared.ids.SymId.{SymId}
use Rattle.smt_terms.specs.Sorts.{Name, Symbol, Variable}
use Rattle.smt_terms.specs.Term.{Term, variable}
use Rattle.smt_terms.specs.Free.{free, name_among, names_of}
use Rattle.smt_terms.specs.Fresh.{Supply}
use Rattle.smt_terms.specs.Rank.{are_bindable}
use Rattle.smt_terms.specs.Subst.{Map, image, cut_to, Chosen}
use Rattle.smt_terms.specs.SubstLaws.{GivesNone, names_within}
use Rattle.term_table.specs.Formulas.{Formulas, tree, trees_at, variable_of, IsNode, AreNodes}
use Rattle.term_walk.specs.FreeLists.{AreFree}
use Rattle.term_walk.specs.Binders.{is_quantified}
use Rattle.term_walk.specs.Walking.{GrowsTo}
use Rattle.term_subst.specs.declared.chosen.Key.{Key}
use Rattle.term_subst.specs.declared.findings.Findings.{Findings}
use Rattle.term_subst.specs.declared.todo.Level.{Level}
use Rattle.term_subst.specs.declared.todo.Opened.{Opened}
use Rattle.term_subst.specs.declared.todo.Frame.{Frame}
use Rattle.term_subst.specs.declared.todo.Frame.TheVariants.{Visit, Build, Close}
use Rattle.term_subst.specs.Done.{done, KeepSorts}
use Rattle.term_subst.specs.Maps.{Pairs, map_at}
use Rattle.term_subst.specs.ByNode.{found_in}
use Rattle.term_subst.specs.Steps.{Opening, Step, visit, build, close, End, Leads}
use Rattle.term_subst.specs.Substituting.{IsMap, IsLater, NeverGivesGained}

-- ---- what any step leaves of the table and of the names

pub record Gains (old new : Formulas) (before after : Supply) : Type 0 where
  pub grows : GrowsTo old new
  pub sorts : new.sorts ≡ old.sorts
  pub later : IsLater before after
  pub drawn : NeverGivesGained after old.symbols new.symbols

-- ---- as terms

-- the pairs say what the map says
abbrev pub SameImages : Formulas → Pairs → Map → Type 0
SameImages t ps m = (f : Symbol) → image (map_at t ps) f ≡ image m f

abbrev pub variables_at : Formulas → List NodeId → List Variable
variables_at t ks = map variable_of (trees_at t ks)

-- the nodes are those of variables
pub record AreVariables (t : Formulas) (ks : List NodeId) : Type 0 where
  pub nodes : AreNodes t ks
  pub terms : trees_at t ks ≡ map variable (variables_at t ks)

abbrev pub chosen_at : Formulas → List (Key × NodeId) → List Chosen
chosen_at t es = map (λ e. record { cut = map_at t e.0.cut.items; term = tree t e.0.node; result = tree t e.1 }) es

abbrev pub opening_at : Formulas → Opened → Opening
opening_at t o = record {
  term = tree t o.key.node;
  cut = map_at t o.key.cut.items;
  renamed = variables_at t o.variables.items;
  outer = map_at t o.outer.map;
}

abbrev pub step_at : Formulas → Frame → Step
step_at t (Visit k) = visit (tree t k)
step_at t (Build k) = build (tree t k)
step_at t (Close o) = close (opening_at t o)

abbrev pub steps_at : Formulas → List Frame → List Step
steps_at t fs = map (step_at t) fs

-- ---- what is kept

-- k has the result r under this map
pub record IsKept (t : Formulas) (m : Map) (cs : List Chosen) (k r : NodeId) : Type 0 where
  pub node : IsNode t k
  pub image : IsNode t r
  pub known : done m cs (tree t k) ≡ Some (tree t r)

pub record IsLevel (t : Formulas) (cs : List Chosen) (l : Level) : Type 0 where
  pub map : IsMap t l.map
  pub kept : (k r : NodeId) → found_in l.kept k ≡ Some r → IsKept t (map_at t l.map) cs k r

pub record IsChosen (t : Formulas) (e : Key × NodeId) : Type 0 where
  pub node : IsNode t e.0.node
  pub cut : IsMap t e.0.cut.items
  pub image : IsNode t e.1

-- ---- what is left to do

-- the supply gives no name in these terms
abbrev pub Spares : Supply → Term → Type 0
Spares s t = GivesNone s (names_within t)

pub record IsOpened (t : Formulas) (cs : List Chosen) (o : Opened) : Type 0 where
  pub node : IsNode t o.key.node
  pub binder : is_quantified (tree t o.key.node) ≡ true
  pub cut : IsMap t o.key.cut.items
  pub fits : map_at t o.key.cut.items ≡ cut_to (free (tree t o.key.node)) (map_at t o.outer.map)
  pub variables : AreVariables t o.variables.items
  pub bindable : are_bindable (variables_at t o.variables.items) ≡ true
  pub outer : IsLevel t cs o.outer

abbrev pub IsFrame : Formulas → List Chosen → Supply → Frame → Type 0
IsFrame t cs s (Visit k) = IsNode t k × Spares s (tree t k)
IsFrame t cs s (Build k) = IsNode t k × (is_quantified (tree t k) ≡ false)
IsFrame t cs s (Close o) = IsOpened t cs o

abbrev pub AreFrames : Formulas → List Chosen → Supply → List Frame → Type 0
AreFrames t cs s [] = Unit {0}
AreFrames t cs s (f ∷ fs) = IsFrame t cs s f × AreFrames t cs s fs

-- ---- what is found out of nodes

abbrev pub AreLists : Formulas → List (NodeId × Vec SymId Global) → Type 0
AreLists t es = (k : NodeId) (fs : Vec SymId Global) → found_in es k ≡ Some fs → IsNode t k × AreFree t (tree t k) fs.items

-- the names that are free in a node
abbrev pub AreNamesOf : Term → List Name → Type 0
AreNamesOf u ns = (n : Name) → name_among ns n ≡ name_among (names_of (free u)) n

abbrev pub AreNames : Formulas → List (NodeId × List Name) → Type 0
AreNames t es = (k : NodeId) (ns : List Name) → found_in es k ≡ Some ns → IsNode t k × AreNamesOf (tree t k) ns

pub record AreFindings (t : Formulas) (f : Findings) : Type 0 where
  pub lists : AreLists t f.lists
  pub names : AreNames t f.names

-- ---- all of it

-- a substitution that has drawn names since the first supply, keeps these results, and has these steps to do, leads to this end
pub record Going (t : Formulas) (names first : Supply) (es : List (Key × NodeId)) (l : Level) (fs : List Frame) (vs : List NodeId) (f : Findings) (end : End) : Type 0 where
  pub chosen : All (IsChosen t) es
  pub sorts : KeepSorts (chosen_at t es)
  pub level : IsLevel t (chosen_at t es) l
  pub frames : AreFrames t (chosen_at t es) first fs
  pub values : AreNodes t vs
  pub findings : AreFindings t f
  pub later : IsLater first names
  pub leads : Leads (map_at t l.map) (steps_at t fs) (trees_at t vs) (record { names = names; chosen = chosen_at t es }) end
