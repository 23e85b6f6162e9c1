-- All 128 slots are tried, by computing.
use Rattle.std.proofs.Common.{◌≡◌, ℕ, ◌<◌, true, List, get_or, nat_lt, refl}
use Rattle.std.proofs.lemmas.Bool.{agree_below, agree_below_at, ltb-true}
use Rattle.sort_check.specs.declared.written.TheConstants.{PLACES}
use Rattle.sort_check.proofs.written.place.Goals as goal

from_table : (table : List ℕ) (k : ℕ) → k < 128 → agree_below (λ j. nat_lt (get_or table j 0) 56) (λ _. true) 128 ≡ true → get_or table k 0 < 56
from_table table k below agree = ltb-true (get_or table k 0) 56 (agree_below_at (λ j. nat_lt (get_or table j 0) 56) (λ _. true) 128 k agree below)

pub returns-clause-within : goal.returns-clause-within
returns-clause-within c = from_table PLACES c.slot.result c.slot.ensures.within refl
