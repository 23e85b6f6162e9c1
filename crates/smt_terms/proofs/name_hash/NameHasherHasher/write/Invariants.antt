use Rattle.std.proofs.Common.{◌≡◌, take, fold}
use Rattle.smt_terms.specs.NameHash.{write_byte}
use Rattle.smt_terms.proofs.name_hash.NameHasherHasher.write.Given as goal

abbrev pub invariant-loop-byte : goal.invariant-loop-byte
invariant-loop-byte l = l.self ≡ fold write_byte l.initial.self (take l.byte-index l.bytes)
