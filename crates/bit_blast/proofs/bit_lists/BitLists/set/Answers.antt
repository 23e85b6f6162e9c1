use Rattle.std.proofs.Common.{subst}
use Rattle.bit_blast.specs.KeptBits.{Lists, Sets}
use Rattle.bit_blast.proofs.KeptLists.{lists, sets_from}
use Rattle.bit_blast.proofs.bit_lists.BitLists.set.Goals as goal

pub returns-clause-ok : goal.returns-clause-ok
returns-clause-ok c =
    subst (λ (old : Lists). Sets old (lists (λ v. v.items) c.insert.new.self.entries) c.args.id c.args.bits.items) c.self.view_is
    (sets_from (λ v. v.items) c.self.inside.lists.entries c.insert.new.self.entries c.args.id c.args.bits c.in_ok-insert.ensures.updates.0)
