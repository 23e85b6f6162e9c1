use Rattle.std.proofs.Common.{subst}
use Rattle.smt_lex.specs.Forest.{IsScanned}
use Rattle.smt_lex.proofs.Keeping.{scanned}
use Rattle.smt_lex.proofs.forests.Forest.len.Goals as goal

pub returns-clause-scanned : goal.returns-clause-scanned
returns-clause-scanned c = subst IsScanned c.self.view_is (scanned c.self.inside.bytes.items c.self.inside.entries.items c.self.invariant)
