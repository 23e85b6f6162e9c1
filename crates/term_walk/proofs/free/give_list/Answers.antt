use Rattle.term_walk.proofs.FreeScan.{one-list-more}
use Rattle.term_walk.proofs.free.give_list.Goals as goal

pub returns : goal.returns
returns c = one-list-more c.args.table.now c.args.lists.now c.put.new.self c.args.marks.now c.args.id c.in_ok-list.list c.requires.lists c.in_ok-put.ensures.ok c.in_ok-list.ensures
