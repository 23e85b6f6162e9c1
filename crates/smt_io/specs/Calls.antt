-- Calls of one kind, some of which are named to fail.
use Rattle.std.specs.Prelude.{ℕ, ◌-◌, ◌==◌, Bool, List, [], ◌∷◌, ◌++◌}
use Rattle.std.specs.List.{list_any}
use Rattle.smt_io.specs.Counts.{raised}

pub record NamedCalls : Type 0 where
  -- how many calls were made
  pub made : ℕ
  -- the numbers of the calls that fail, counted from 1
  pub failing : List ℕ

abbrev pub no_calls : NamedCalls
no_calls = record { made = 0; failing = [] }

-- the call after those that were made is named
abbrev pub is_next_named : NamedCalls → Bool
is_next_named calls = list_any (λ call. call - calls.made == 1) calls.failing

-- after one more call
abbrev pub after_call : NamedCalls → NamedCalls
after_call calls = record { made = raised calls.made; failing = calls.failing }

-- with one more call named
abbrev pub with_failing : ℕ → NamedCalls → NamedCalls
with_failing call calls = record { made = calls.made; failing = calls.failing ++ call ∷ [] }
