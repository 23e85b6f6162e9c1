-- The machine that substitutes, on its way.
use Rattle.std.specs.Prelude.{List, [], ◌∷◌}
use Rattle.smt_terms.specs.declared.ids.NodeId.{NodeId}
use Rattle.smt_terms.specs.Fresh.{Supply}
use Rattle.smt_terms.specs.Subst.{subst_from}
use Rattle.term_table.specs.Formulas.{Formulas, tree}
use Rattle.term_subst.specs.declared.machine.Machine.{Machine}
use Rattle.term_subst.specs.declared.todo.Frame.{Frame}
use Rattle.term_subst.specs.Maps.{Pairs, map_at}
use Rattle.term_subst.specs.State.{Going}
use Rattle.term_subst.specs.Steps.{End}

-- the machine, with these frames to do, leads to this end
abbrev pub Runs : Formulas → Supply → Supply → Machine → List Frame → End → Type 0
Runs t names first x fs end = Going t names first x.chosen x.level fs x.values.items x.findings end

-- the end of a substitution: the result alone, and what is kept
abbrev pub end_of : Formulas → Pairs → NodeId → Supply → End
end_of t ps root s =
    let m = map_at t ps in
    record {
      values = (subst_from m (tree t root) (record { names = s; chosen = [] })).0 ∷ [];
      choices = (subst_from m (tree t root) (record { names = s; chosen = [] })).1;
    }
