-- A source of texts of the host. It tells no text.
use Rattle.std.specs.Prelude.{ℕ, Option, None, List}
use Rattle.std.specs.Option.{option_map}
use Rattle.smt_io.specs.NameCounts.{NameCounts, no_counts, at_place, count_of}

pub record Host : Type 0 where
  pub counts : NameCounts
  -- the place of the name of the text that is begun
  pub begun : Option ℕ
  pub given : ℕ

abbrev pub new_host : Host
new_host = record { counts = no_counts; begun = None; given = 0 }

abbrev pub host_begun : Host → Option (List ℕ)
host_begun s = option_map (λ i. (at_place i s.counts).name) s.begun

abbrev pub host_faults : Host → List ℕ → ℕ
host_faults s name = count_of name s.counts
