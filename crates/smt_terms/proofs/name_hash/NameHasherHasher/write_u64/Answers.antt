use Rattle.std.proofs.Common.{ap, ◌∙◌, sym}
use Rattle.std.proofs.lemmas.Nat.{from_le_bytes-to_le_bytes_8}
use Rattle.std.specs.Hash.{le_bytes}
use Rattle.smt_terms.specs.NameHash.{write_number}
use Rattle.smt_terms.proofs.name_hash.NameHasherHasher.write_u64.Goals as goal

pub returns : goal.returns
unfolding le_bytes
returns c =
    c.add.ensures ∙ ap (write_number c.args.self.now) (sym (from_le_bytes-to_le_bytes_8 c.args.i c.ranges.i.fits))
