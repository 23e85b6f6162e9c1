use Rattle.sort_check.proofs.Names.{apt_found}
use Rattle.sort_check.proofs.written.form_named.Goals as goal

pub returns-clause-apt : goal.returns-clause-apt
returns-clause-apt c = apt_found c.form_by_slot.result c.args.name.now c.form_by_slot.ensures
