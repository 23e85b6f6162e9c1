use Rattle.std.proofs.Common.{◌≤◌, length, rules}
use Rattle.std.specs.Prelude.{is_ok, vec_len}
use Rattle.smt_print.proofs.NumbersFound.{place-resized}
use Rattle.smt_print.proofs.scope.make_room.Goals as goal

pub returns-clause-same : goal.returns-clause-same
returns-clause-same c =
    let longer : length c.args.places.now.items ≤ c.in_ok-len.len = search rules in
    place-resized c.args.places.now.items c.resize.new.self.items c.in_ok-len.len (vec_len c.args.places.now) (is_ok c.resize.result) longer c.resize.ensures.items
