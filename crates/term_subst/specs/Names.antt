-- Sets of names, as lists.
use Rattle.std.specs.Prelude.{◌≡◌, ℕ, Bool, nat_eq, List, [], ◌∷◌, ◌++◌, codes, if◌then◌else◌, refl}
use Rattle.std.specs.Coded.{Coded, code_by, coded×, coded_ℕ, coded_list}
use Rattle.std.specs.List.{starts_with}
use Rattle.smt_terms.specs.Sorts.{Name}
use Rattle.smt_terms.specs.Free.{name_among}
use Rattle.smt_terms.specs.Fresh.{Supply, numbered_name}
use Rattle.smt_values.specs.Codes.{coded_name}

-- the names with this one, last where it is new
abbrev pub with_name : List Name → Name → List Name
with_name ns n = if name_among ns n then ns else ns ++ n ∷ []

-- each name that a supply gives begins so
abbrev pub begins_as_drawn : Name → Bool
begins_as_drawn n = starts_with nat_eq n (codes "FV")

-- of the names that a supply gives, both have the same
abbrev pub AgreeOnNumbered : List Name → List Name → Type 0
AgreeOnNumbered ms ns = (i : ℕ) → name_among ms (numbered_name i) ≡ name_among ns (numbered_name i)

-- how the logic stores what a contract sees of fresh names
abbrev pub coded_supply : Coded Supply
coded_supply =
    code_by (List Name × ℕ) (coded× (coded_list coded_name) coded_ℕ)
    (λ s. (s.taken, s.number)) (λ p. record { taken = p.0; number = p.1 }) (λ _. refl)
