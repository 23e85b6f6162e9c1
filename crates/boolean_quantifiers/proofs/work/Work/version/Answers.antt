use Rattle.std.proofs.Common.{sym, ◌∙◌}
use Rattle.std.proofs.lemmas.Option.{get_or_from_slice_get}
use Rattle.boolean_quantifiers.proofs.Cases.{case-same, inserted-cases}
use Rattle.boolean_quantifiers.proofs.work.Work.version.Goals as goal

pub returns-clause-cases : goal.returns-clause-cases
returns-clause-cases c = inserted-cases c.args.table.now c.args.self.now.cases.keys c.insert_full.new.self.keys c.args.case c.args.self.now.memo c.requires.images c.requires.cases c.in_ok-version.ensures.keys

pub returns-clause-case : goal.returns-clause-case
returns-clause-case c d =
    let stored = c.in_ok-version.ensures.stored in
    get_or_from_slice_get c.insert_full.new.self.keys c.in_ok-version.version stored.0 d stored.1 ∙ sym (case-same c.args.case stored.0 stored.2)
