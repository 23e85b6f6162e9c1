-- An answer while it is read.
use Rattle.std.specs.Prelude.{◌≡◌, ℕ, ◌<◌, ◌≤◌, Bool, true, false, not, List, [], ◌∷◌, Option, Some, None, Result, Ok, Err, ◌==◌}
use Rattle.std.specs.Borrow.{Bor}
use Rattle.std.specs.List.{list_any, slice_split}
use Rattle.dimacs_link.specs.declared.items.Item.{Item}
use Rattle.dimacs_link.specs.declared.items.Item.TheVariants.{Number}
use Rattle.dimacs_link.specs.declared.progress.Progress.{Progress}
use Rattle.dimacs_link.specs.AnswerTexts.{ending_of, is_values, is_end, named, is_wrong, checked}

-- what has been read of so many constants, where these items stood, the last first
pub record HasRead (count : ℕ) (before : List Item) (r : Progress) : Type 0 where
  pub constants : r.constants ≡ count
  pub ending : r.ending ≡ ending_of before
  pub values : r.has_values ≡ list_any is_values before
  pub ended : r.is_ended ≡ list_any is_end before
  pub positive : r.positive ≡ named true before count
  pub negative : r.negative ≡ named false before count

-- the number of a constant among so many
abbrev pub IsWithin : ℕ → Item → Type 0
IsWithin constants (Number l) = (0 < l.constant) × (l.constant ≤ constants)
IsWithin constants _ = Unit {0}

-- whether an item may stand here, and what has been read with it
abbrev pub Accepts : Progress → Item → Bool → Progress → Type 0
Accepts old item result new =
    (constants : ℕ) (before : List Item) → HasRead constants before old
    → (result ≡ not (is_wrong before item)) × (result ≡ true → HasRead constants (item ∷ before) new)

-- what reading leads to
abbrev pub Leads : ℕ → Result (List Item) ℕ → Result (Unit {0}) ℕ → Progress → Type 0
Leads constants (Ok after) (Ok _) r = HasRead constants after r
Leads constants (Err place) (Err other) r = other ≡ place
Leads constants (Ok after) (Err other) r = ⊥
Leads constants (Err place) (Ok _) r = ⊥

-- reads these items, which depend on the number of constants
abbrev pub Reads : Progress → (ℕ → List (ℕ × Item)) → Result (Unit {0}) ℕ → Progress → Type 0
Reads old is result new = (constants : ℕ) (before : List Item) → HasRead constants before old → Leads constants (checked before (is constants)) result new

-- the parts of what stands behind a part
abbrev pub parts_behind : ℕ → Option (Bor (List ℕ)) → List (List ℕ)
parts_behind b None = []
parts_behind b (Some rest) = slice_split (λ c. c == b) rest.now
