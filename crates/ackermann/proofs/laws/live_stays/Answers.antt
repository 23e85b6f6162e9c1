use Rattle.ackermann.proofs.GrownUses.{live-stays, count-levels}
use Rattle.ackermann.proofs.laws.live_stays.Goals as goal

pub returns-clause-stays : goal.returns-clause-stays
returns-clause-stays c = live-stays

pub returns-clause-count : goal.returns-clause-count
returns-clause-count c = count-levels
