-- A sink that keeps its bytes in memory.
use Rattle.std.specs.Prelude.{◌==◌, ℕ, ◌-◌, min, Bool, ◌&&◌, ◌||◌, nat_lt, if◌then◌else◌, Option, Some, List, [], ◌++◌, length, take}
use Rattle.smt_io.specs.Counts.{raised}
use Rattle.smt_io.specs.Calls.{NamedCalls, no_calls, is_next_named, after_call}

pub record MemorySink : Type 0 where
  pub sent : List ℕ
  -- how many of the bytes had been sent at the last flush that didn't fail
  pub flushed : ℕ
  -- the most that one write moves
  pub step : ℕ
  -- the most that the sink takes
  pub room : ℕ
  pub writes : NamedCalls
  pub flushes : NamedCalls
  pub faults : ℕ

abbrev pub new_sink : ℕ → ℕ → MemorySink
new_sink step room = record { sent = []; flushed = 0; step = step; room = room; writes = no_calls; flushes = no_calls; faults = 0 }

-- the next write is named, or a piece that isn't empty finds no room
abbrev pub write_fails : MemorySink → List ℕ → Bool
write_fails s piece = is_next_named s.writes || (nat_lt 0 (length piece) && (s.room - length s.sent == 0))

-- a write moves at most the step, and at most the room that is left
abbrev pub written_length : MemorySink → List ℕ → ℕ
written_length s piece = min (length piece) (min s.step (s.room - length s.sent))

abbrev pub after_write : MemorySink → List ℕ → MemorySink
after_write s piece =
    if write_fails s piece
    then record s { writes = after_call s.writes; faults = raised s.faults }
    else record s { writes = after_call s.writes; sent = s.sent ++ take (written_length s piece) piece }

abbrev pub after_flush : MemorySink → MemorySink
after_flush s =
    if is_next_named s.flushes
    then record s { flushes = after_call s.flushes; faults = raised s.faults }
    else record s { flushes = after_call s.flushes; flushed = length s.sent }

-- what a sink in memory tells
abbrev pub told_sent : MemorySink → Option (List ℕ)
told_sent s = Some s.sent

abbrev pub told_flushed : MemorySink → Option (List ℕ)
told_flushed s = Some (take s.flushed s.sent)
