-- Counts of faults by name: one for each name that has a place, and one that all other names share.
use Rattle.std.specs.Prelude.{◌≡◌, ℕ, IfSome, Option, None, Some, List, [], ◌∷◌, ◌++◌, slice_set, slice_index_or}
use Rattle.std.specs.List.{position_from}
use Rattle.std.specs.Option.{option_map_or}
use Rattle.std.specs.Str.{bytes_eq}
use Rattle.smt_io.specs.Counts.{raised}

pub record NamedCount : Type 0 where
  pub name : List ℕ
  pub faults : ℕ

pub record NameCounts : Type 0 where
  pub places : List NamedCount
  pub others : ℕ

abbrev pub no_counts : NameCounts
no_counts = record { places = []; others = 0 }

-- what stands where there is no place
abbrev pub no_place : NamedCount
no_place = record { name = []; faults = 0 }

abbrev pub at_place : ℕ → NameCounts → NamedCount
at_place i c = slice_index_or c.places i no_place

-- the place of a name
abbrev pub place_of : List ℕ → NameCounts → Option ℕ
place_of name c = position_from (λ place. bytes_eq place.name name) 0 c.places

-- the count of a name
abbrev pub count_of : List ℕ → NameCounts → ℕ
count_of name c = option_map_or (λ i. (at_place i c).faults) (place_of name c) c.others

abbrev pub raised_place : NamedCount → NamedCount
raised_place place = record { name = place.name; faults = raised place.faults }

-- the count at a place raised, or the shared one
abbrev pub raise_at : Option ℕ → NameCounts → NameCounts
raise_at None c = record { places = c.places; others = raised c.others }
raise_at (Some i) c = record { places = slice_set c.places i (raised_place (at_place i c)); others = c.others }

-- the count of a name raised
abbrev pub after_fault : List ℕ → NameCounts → NameCounts
after_fault name c = raise_at (place_of name c) c

-- with a place behind the others for a name, whose count goes on from the shared one
abbrev pub with_new_place : List ℕ → NameCounts → NameCounts
with_new_place name c = record { places = c.places ++ record { name = name; faults = c.others } ∷ []; others = c.others }

-- the place is that of the name which it has
abbrev pub IsPlaceOfName : Option ℕ → NameCounts → Type 0
IsPlaceOfName place c = IfSome place (λ i. place_of (at_place i c).name c ≡ Some i)
