-- What the hasher of names computes.
use Rattle.std.specs.Prelude.{ℕ, ◌*◌, ◌/◌, ◌%◌, ◌^◌, ◌-◌, ◌==◌, List, length, fold, if◌then◌else◌, bit_and, bit_xor}
use Rattle.std.specs.Int.{w64, rotate_left, from_le_bytes}
use Rattle.smt_terms.specs.declared.name_hash.NameHasher.{NameHasher}

unfoldable pub initial : NameHasher
initial = record { state = 0x243f_6a88_85a3_08d3; last = 0 }

-- the state after one number more
unfoldable pub step : ℕ → ℕ → ℕ
step state number = (bit_xor (rotate_left w64 state 5) number * 0x9e37_79b9_7f4a_7c15) % 2 ^ 64

abbrev pub write_number : NameHasher → ℕ → NameHasher
write_number h number = record { state = step h.state number; last = h.last }

-- the last byte is kept apart, and the one before it goes in
abbrev pub write_byte : NameHasher → ℕ → NameHasher
write_byte h byte = record { state = step h.state h.last; last = byte }

-- eight bytes are one number, the lowest byte first; any others are a byte each
abbrev pub write : NameHasher → List ℕ → NameHasher
write h bytes = if length bytes == 8 then write_number h (from_le_bytes w64 bytes) else fold write_byte h bytes

-- the two halves of a product of 128 bits, joined; the last byte changes the tag, and whether the group is an even one
unfoldable pub finish : NameHasher → ℕ
finish h =
    let product = h.state * 0x9e37_79b9_7f4a_7c15 in
    let joined = bit_xor (bit_and product (2 ^ 64 - 1)) (product / 2 ^ 64) in
    bit_xor (bit_xor joined ((h.last * 2 ^ 24) % 2 ^ 64)) (bit_and h.last 1)
