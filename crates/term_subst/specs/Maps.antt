-- Maps from the numbers of symbols to the numbers of terms.
use Rattle.std.specs.Prelude.{◌==◌, List, [], ◌∷◌, map, Option, Some, None, if◌then◌else◌}
use Rattle.smt_terms.specs.declared.ids.NodeId.{NodeId}
use Rattle.smt_terms.specs.declared.ids.SymId.{SymId}
use Rattle.smt_terms.specs.Subst.{Map}
use Rattle.term_table.specs.Formulas.{Formulas, symbol_at, tree}

abbrev pub Pairs : Type 0
Pairs = List (SymId × NodeId)

-- the image of a symbol, the first one
abbrev pub image_in : Pairs → SymId → Option NodeId
image_in [] f = None
image_in (p ∷ ps) f = if f.0 == p.0.0 then Some p.1 else image_in ps f

-- the map in which this symbol has this image, in the place of the one that it had, or last where it had none
abbrev pub with_image : Pairs → SymId → NodeId → Pairs
with_image [] f k = (f, k) ∷ []
with_image (p ∷ ps) f k = if f.0 == p.0.0 then (p.0, k) ∷ ps else p ∷ with_image ps f k

-- the map of symbols to terms
abbrev pub map_at : Formulas → Pairs → Map
map_at t ps = map (λ p. (symbol_at t p.0, tree t p.1)) ps
