-- Results by the numbers of nodes.
use Rattle.std.specs.Prelude.{◌≡◌, ◌≢◌, ℕ, ◌+◌, Bool, true, false, List, get_or, count_by, Option, Some, None, is_some, if◌then◌else◌}
use Rattle.term_walk.specs.declared.kept.Place.{Place}

module _ {T : Type 0} where
  abbrev pub no_place : Place T
  no_place = record { result = None; is_closed = false }

  abbrev pub place_at : List (Place T) → ℕ → Place T
  place_at ks i = get_or ks i no_place

  -- the result of node i
  abbrev pub result_at : List (Place T) → ℕ → Option T
  result_at ks i = (place_at ks i).result

  -- whether it is known that each subterm of node i has a result
  abbrev pub is_closed_at : List (Place T) → ℕ → Bool
  is_closed_at ks i = (place_at ks i).is_closed

  -- how many nodes have a result
  abbrev pub results : List (Place T) → ℕ
  results ks = count_by (λ p. is_some p.result) ks

  -- node i has this result, in the place of an earlier one, and all else is as it was
  pub record Puts (old new : List (Place T)) (i : ℕ) (r : T) : Type 0 where
    pub here : result_at new i ≡ Some r
    pub others : (j : ℕ) → j ≢ i → result_at new j ≡ result_at old j
    pub closed : (j : ℕ) → is_closed_at new j ≡ is_closed_at old j
    pub number : results new ≡ results old + (if is_some (result_at old i) then 0 else 1)

  -- node i is closed, and all else is as it was
  pub record Closes (old new : List (Place T)) (i : ℕ) : Type 0 where
    pub here : is_closed_at new i ≡ true
    pub others : (j : ℕ) → j ≢ i → is_closed_at new j ≡ is_closed_at old j
    pub kept : (j : ℕ) → result_at new j ≡ result_at old j
    pub number : results new ≡ results old
