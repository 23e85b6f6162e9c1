-- Local bindings, each linked to the next one of its name outwards.
use Rattle.std.specs.Prelude.{◌≡◌, ℕ, ◌||◌, List, [], ◌∷◌, map, length, reverse, Option, None}
use Rattle.std.specs.Borrow.{Bor}
use Rattle.std.specs.Map.{lookup}
use Rattle.std.specs.Str.{bytes_eq}
use Rattle.smt_lex.specs.Names.{Name}
use Rattle.smt_terms.specs.declared.ids.SymId.{SymId}
use Rattle.smt_terms.specs.Equal.{name_eq}
use Rattle.script_terms.specs.declared.locals.Binding.{Binding}
use Rattle.script_terms.specs.Scope.{or_later}
use Rattle.script_terms.specs.Bound.{LocalNames, is_quantified_local, quantified_among, constants_in}

-- bindings, the innermost first, as names
abbrev pub names_bound : List Binding → LocalNames
names_bound bs = map (λ b. (b.name.now, b.local)) bs

-- the place of the innermost binding of a name, counted from the outermost
abbrev pub place_in : List Binding → Name → Option ℕ
place_in [] n = None
place_in (b ∷ bs) n = or_later (name_eq b.name.now n) (length bs) (place_in bs n)

-- each binding, the innermost first, knows what stands around it
abbrev pub AreLinked : List Binding → Type 0
AreLinked [] = Unit {0}
AreLinked (b ∷ bs) =
    (b.outer ≡ place_in bs b.name.now)
    × (b.is_quantified ≡ (is_quantified_local b.local || quantified_among (names_bound bs) b.name.now))
    × AreLinked bs

-- what a map has at a name
abbrev pub at_name : {A : Type 0} → List (Bor (List ℕ) × A) → Name → Option A
at_name es n = lookup (λ k. bytes_eq n k.now) es

pub record IsLinked (bs : List Binding) (es : List (Bor (List ℕ) × ℕ)) (fs : List SymId) : Type 0 where
  pub places : (n : Name) → at_name es n ≡ place_in bs n
  pub links : AreLinked bs
  pub constants : reverse fs ≡ constants_in (names_bound bs)
