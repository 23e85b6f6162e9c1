use Rattle.smt_terms.proofs.Fresh.{numbered_name-injective, next_name-free, next-least, next-later, never-drawn, never-after}
use Rattle.smt_terms.proofs.laws.fresh_names_are_new.Goals as goal

pub returns : goal.returns
returns c = record {
  apart = numbered_name-injective;
  free = next_name-free;
  least = next-least;
  later = next-later;
  gone = never-drawn;
  stays = never-after;
}
