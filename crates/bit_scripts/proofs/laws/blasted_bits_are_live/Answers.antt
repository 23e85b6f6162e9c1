use Rattle.bit_scripts.proofs.LiveBits.{bits_live}
use Rattle.bit_scripts.proofs.laws.blasted_bits_are_live.Goals as goal

pub returns : goal.returns
returns c = bits_live
