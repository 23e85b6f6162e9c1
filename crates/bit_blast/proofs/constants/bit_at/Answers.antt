use Rattle.std.proofs.Common.{rules, ◌∙◌}
use Rattle.term_walk.specs.Walking.{GrowsTo}
use Rattle.bit_blast.proofs.VectorNodes.{one-makes, part-makes, bit-sorts, bit-term}
use Rattle.bit_blast.proofs.constants.bit_at.Goals as goal
use Rattle.bit_blast.proofs.constants.bit_at.Goals.{In_ok-one}

pub intern-requires : goal.intern-requires
intern-requires c = part-makes c.args.table.now c.know_table.ensures c.args.vector c.requires.vector c.args.place c.requires.place

pub intern-requires-2 : goal.intern-requires-2
intern-requires-2 c = one-makes c.intern.new.self

grows : (c : In_ok-one) → GrowsTo c.intern.new.self c.intern-2.new.self
grows c = search rules

pub equation-requires-clause-sort : goal.equation-requires-clause-sort
equation-requires-clause-sort c =
    bit-sorts c.args.table.now c.know_table.ensures c.args.vector c.requires.vector c.args.place c.requires.place c.intern.new.self c.intern-2.new.self c.in_ok-part.part c.in_ok-one.one
    (grows (goal.at.equation-requires-clause-sort c).In_ok-one) c.in_ok-part.ensures.node c.in_ok-part.ensures.term c.in_ok-one.ensures.term

pub returns-clause-term : goal.returns-clause-term
returns-clause-term c =
    c.in_ok-bit.ensures.term
    ∙ bit-term c.args.table.now c.know_table.ensures c.args.vector c.requires.vector c.args.place c.requires.place c.intern.new.self c.intern-2.new.self c.in_ok-part.part c.in_ok-one.one
    (grows (goal.at.returns-clause-term c).In_ok-one) c.in_ok-part.ensures.node c.in_ok-part.ensures.term c.in_ok-one.ensures.term
