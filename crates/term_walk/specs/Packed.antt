-- Frames as they are kept.
use Rattle.term_walk.specs.declared.frames.Frame.{Frame}
use Rattle.term_walk.specs.declared.frames.Packed.{Packed}

abbrev pub unpacked : Packed → Frame
unpacked p = record { id = record { 0 = p.id }; next = p.next }
