-- A source of texts that are held in memory.
use Rattle.std.specs.Prelude.{◌≡◌, ℕ, ◌+◌, ◌<◌, ◌≤◌, min, IfSome, Bool, ◌||◌, is_none, if◌then◌else◌, Option, None, Some, List, [], ◌∷◌, ◌++◌, length, drop, slice_index_or, slice_set}
use Rattle.std.specs.Option.{option_map, option_map_or}
use Rattle.smt_io.specs.Counts.{raised_by}
use Rattle.smt_io.specs.Calls.{NamedCalls, no_calls, is_next_named, after_call}
use Rattle.smt_io.specs.NameCounts.{NameCounts, no_counts, at_place, place_of, count_of, raise_at, with_new_place}

pub record Memory : Type 0 where
  pub counts : NameCounts
  -- the text at each place of a name
  pub texts : List (List ℕ)
  -- the most that one read gives
  pub step : ℕ
  -- the place of the text that is begun
  pub begun : Option ℕ
  -- how many of its bytes were read
  pub taken : ℕ
  pub given : ℕ
  pub begins : NamedCalls
  pub reads : NamedCalls

abbrev pub new_memory : ℕ → Memory
new_memory step = record { counts = no_counts; texts = []; step = step; begun = None; taken = 0; given = 0; begins = no_calls; reads = no_calls }

abbrev pub text_at : ℕ → Memory → List ℕ
text_at i s = slice_index_or s.texts i []

-- the text of a name
abbrev pub told_text : Memory → List ℕ → Option (List ℕ)
told_text s name = option_map (λ i. text_at i s) (place_of name s.counts)

-- the name of the text that is begun
abbrev pub told_begun : Memory → Option (List ℕ)
told_begun s = option_map (λ i. (at_place i s.counts).name) s.begun

-- what is left of the text that is begun
abbrev pub told_rest : Memory → Option (List ℕ)
told_rest s = option_map (λ i. drop s.taken (text_at i s)) s.begun

abbrev pub told_faults : Memory → List ℕ → ℕ
told_faults s name = count_of name s.counts

-- the next begin is named, or the name isn't held
abbrev pub begin_fails : Memory → List ℕ → Bool
begin_fails s name = is_next_named s.begins || is_none (place_of name s.counts)

abbrev pub after_begin : Memory → List ℕ → Memory
after_begin s name =
    if begin_fails s name
    then record s { counts = raise_at (place_of name s.counts) s.counts; begun = None; taken = 0; begins = after_call s.begins }
    else record s { begun = place_of name s.counts; taken = 0; begins = after_call s.begins }

-- the bytes that are left to read
abbrev pub left : Memory → List ℕ
left s = option_map_or (λ i. drop s.taken (text_at i s)) s.begun []

-- a read gives at most the step, the room and what is left
abbrev pub read_length : Memory → ℕ → ℕ
read_length s room = min (min room s.step) (length (left s))

-- the place whose count a failing read raises: that of the text that is begun, or of the empty name
abbrev pub place_to_blame : Memory → Option ℕ
place_to_blame s = option_map_or (λ i. Some i) s.begun (place_of [] s.counts)

abbrev pub after_read : Memory → ℕ → Memory
after_read s room =
    if is_next_named s.reads
    then record s { counts = raise_at (place_to_blame s) s.counts; reads = after_call s.reads }
    else record s { taken = s.taken + read_length s room; given = raised_by (read_length s room) s.given; reads = after_call s.reads }

-- the texts with one put at the place of its name, or behind the others
abbrev pub with_text : Option ℕ → List ℕ → List (List ℕ) → List (List ℕ)
with_text None text texts = texts ++ text ∷ []
with_text (Some i) text texts = slice_set texts i text

-- the counts with a place for the name
abbrev pub with_name : Option ℕ → List ℕ → NameCounts → NameCounts
with_name None name c = with_new_place name c
with_name (Some i) name c = c

abbrev pub after_add : Memory → List ℕ → List ℕ → Memory
after_add s name text =
    record s {
      counts = with_name (place_of name s.counts) name s.counts;
      texts = with_text (place_of name s.counts) text s.texts;
      begun = None;
      taken = 0;
    }

-- each name that has a place has a text there; the text that is begun is at the place of its name, and no more of it was taken than it has
pub record IsHeld (counts : NameCounts) (texts : List (List ℕ)) (step : ℕ) (begun : Option ℕ) (taken : ℕ) : Type 0 where
  pub one_text_each : length texts ≡ length counts.places
  pub some_step : 0 < step
  pub begun_here : IfSome begun (λ i. (i < length texts) × (place_of (at_place i counts).name counts ≡ Some i) × (taken ≤ length (slice_index_or texts i [])))
